use Prim.Native.Nat.{ℕ, ◌-◌, ◌*◌}
use mathlib.Core.Path.{◌≡◌, sym, ap, ap₂, ◌∙◌}
use mathlib.Core.List.{List}
use native.Mathlib.Omega.{arith}
use lib.ListN.{length, take}
use lib.Seq.{length-take-le}
use Rattle.image.specs.Refusals.{read_image}
use Rattle.schedule.specs.Layout.{schedule_in, count_in, threads_in}
use Rattle.schedule.specs.declared.Schedule.{Schedule}
use Rattle.parcels.specs.Started.{end_size, started_from}
use Rattle.parcels.proofs.Gives as gives
use Rattle.parcels.proofs.EndLaws as ends
use Rattle.parcels.proofs.started.Goals as goal

count-in : (s : List ℕ) (d : Schedule) → d ≡ schedule_in s → d.count ≡ count_in s
unfolding schedule_in
count-in s d e = ap (λ (x : Schedule). x.count) e

threads-in : (s : List ℕ) (d : Schedule) → d ≡ schedule_in s → d.t ≡ threads_in s
unfolding schedule_in
threads-in s d e = ap (λ (x : Schedule). x.t) e

pub overflow_sub-size : goal.overflow_sub-size
overflow_sub-size c = omega (arith, ends.size_fits c.args.s.now c.requires.0)

pub overflow_sub-size-2 : goal.overflow_sub-size-2
overflow_sub-size-2 c = omega (arith, ends.size_fits c.args.s.now c.requires.0, count-in c.args.s.now c.args.d c.requires.1)

pub slice_bounds-read_image-end : goal.slice_bounds-read_image-end
slice_bounds-read_image-end c = sym (length-take-le (length c.args.s.now - 8 - c.args.d.count * 6) c.args.room.now (omega (arith, c.requires.2, count-in c.args.s.now c.args.d c.requires.1)))

-- the bytes that the call was given are those of the contract
read-is : (s : List ℕ) (d : Schedule) (room : List ℕ) → d ≡ schedule_in s → read_image (take (length s - 8 - d.count * 6) room) ≡ read_image (take (end_size s) room)
read-is s d room e = ap (λ (k : ℕ). read_image (take (length s - 8 - k * 6) room)) (count-in s d e)

pub returns-in_err-g : goal.returns-in_err-g
returns-in_err-g c =
    gives.read_refused (threads_in c.args.s.now) _ c.read_image.ensures c.in_err-g.was c.from_residual.ensures.1
    ∙ ap (started_from (threads_in c.args.s.now)) (read-is c.args.s.now c.args.d c.args.room.now c.requires.1)

pub returns : goal.returns
returns c =
    gives.read_started c.args.d.t _ c.read_image.ensures c.in_ok-g.was c.start_from.ensures
    ∙ ap₂ started_from (threads-in c.args.s.now c.args.d c.requires.1) (read-is c.args.s.now c.args.d c.args.room.now c.requires.1)
