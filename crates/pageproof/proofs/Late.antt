-- `Leaves` says no more and no less than: some list with write-backs added after the last start leaves the image, where every write-back in the list is of a changed line.
use Prim.Native.Nat.{ℕ}
use mathlib.Core.Path.{◌≡◌}
use mathlib.Core.Bool.{true}
use mathlib.Core.List.{List}
use mathlib.Core.Logic.{◌↔◌}
use Rattle.answer.specs.Answers.{accepted, Answer}
use Rattle.image.specs.declared.Image.{Image}
use Rattle.machine.specs.declared.Event.{Event}
use Rattle.schedule.specs.Layout.{schedule_in}
use Rattle.schedule.specs.Run.{opened}
use Rattle.page.specs.Refusals.{page_answer}
use Rattle.lawful.specs.Added.{Adds, ends, keeps, adds}
use Rattle.lawful.specs.Demand3.{Bytes, Leaves}
use Rattle.pageproof.specs.Longer as longer
use Rattle.pageproof.specs.Longer.{Longer, LongerLate, LeftLate}
use Rattle.pageproof.proofs.Longer.{changed_of, late_taken, late_answers}

-- the answers left out
silent : {n : ℕ} {l l' : List Event} {a a' : List Answer} → Adds n l a l' a' → Longer n l l'
silent ends = longer.ends
silent (keeps r) = longer.keeps (silent r)
silent (adds k lt r) = longer.adds k lt (silent r)

pub leaves_late : (s : List ℕ) → Bytes s → accepted (page_answer s) ≡ true → (g : Image) → Leaves s g ↔ LeftLate s g
leaves_late s y a g = (to, from)
  where
    to : Leaves s g → LeftLate s g
    to r =
        let o = r.added in
        (r.events, record { before = o.before; since = o.since; since' = o.since'; start = o.start; free = o.free; adds = silent o.adds; is = o.is; is' = o.is' }, changed_of r.events 0 (opened (schedule_in s)) r.taken, r.left)

    from : LeftLate s g → Leaves s g
    from z = record { events = z.0; taken = late_taken s y a z.0 z.1 z.2; added = late_answers s y a z.0 z.1 z.2; left = z.3 }
