-- An event by what it is answered: refused, or done. Assumes nothing.
use Prim.Native.Nat.{ℕ}
use mathlib.Core.Path.{◌≡◌, refl, sym, ap, ◌∙◌}
use mathlib.Core.Bool.{Bool, true, false}
use mathlib.Core.List.{List}
use lib.ListN.{length}
use Rattle.answer.specs.Answers.{accepted, Answer, Taken, Record}
use Rattle.answer.specs.declared.Refusal.{Refusal}
use Rattle.answer.proofs.Results.{came_back}
use Rattle.std.specs.Prelude.{Err}
use Rattle.image.specs.Refusals.{write_answer, written}
use Rattle.machine.specs.Line.{persisted}
use Rattle.machine.specs.Range.{in_range}
use Rattle.machine.specs.Place.{Counted, places_of, no_places, count_places}
use Rattle.machine.specs.Saved.{save_answer, saved}
use Rattle.machine.specs.Event.{Deed, event_answer, if_taken, done, event_at, handed, event_on}
use Rattle.machine.specs.Retire.{out, quiet}
use Rattle.machine.specs.declared.Machine.{Machine}
use Rattle.machine.specs.declared.Event.{Event}
use Rattle.machine.specs.declared.Acted.{Acted}
use Rattle.machine.specs.declared.Out.{Out}
use Rattle.events.specs.Arms.{event_by}

module _ (m : Machine) (e : Event) (d : Deed) where
  abbrev split : Answer → Bool → Acted
  split a b = elim b [ true ↦ done m e d | false ↦ quiet a m ]

  stays : (a : Answer) → accepted a ≡ false → quiet a m ≡ if_taken a m e d
  stays a f = sym (ap (split a) f)

  pub refused : (a : Answer) (w : Refusal) → a ≡ Err w → quiet (Err w) m ≡ if_taken a m e d
  refused a w q = stays (Err w) (came_back refl refl) ∙ sym (ap (λ (x : Answer). if_taken x m e d) q)

  pub taken : (a : Answer) → accepted a ≡ true → done m e d ≡ if_taken a m e d
  taken a f = sym (ap (split a) f)

-- the same of the answer that the event has, as an arm asks it
module _ (p : ℕ) (m : Machine) (e : Event) (d : Deed) where
  pub refused_by : (a : Answer) → event_answer p m e d ≡ a → accepted a ≡ false → quiet a m ≡ event_by p m e d
  unfolding event_by
  refused_by a q f = stays m e d a f ∙ sym (ap (λ (x : Answer). if_taken x m e d) q)

  pub taken_by : (a : Answer) → event_answer p m e d ≡ a → accepted a ≡ true → done m e d ≡ event_by p m e d
  unfolding event_by
  taken_by a q f = taken m e d a f ∙ sym (ap (λ (x : Answer). if_taken x m e d) q)

-- ---- a record that is handed in: 18, or the event at place 0; and so for the other two calls

module _ (m : Machine) where
  pub on_out : (e : Event) → in_range m ≡ false → event_on m e ≡ out Record m
  unfolding event_on
  on_out e h = ap (λ (b : Bool). elim b as (λ _. Out) [ true ↦ handed (event_at 0 m e) | false ↦ out Record m ]) h

  pub on_in : (e : Event) → in_range m ≡ true → event_on m e ≡ handed (event_at 0 m e)
  unfolding event_on
  on_in e h = ap (λ (b : Bool). elim b as (λ _. Out) [ true ↦ handed (event_at 0 m e) | false ↦ out Record m ]) h

  pub save_out : (b : List ℕ) → in_range m ≡ false → (save_answer m (length b) ≡ Record) × (saved m b ≡ b)
  unfolding save_answer saved
  save_out b h = (
    ap (λ (x : Bool). elim x as (λ _. Answer) [ true ↦ write_answer (persisted m) (length b) | false ↦ Record ]) h,
    ap (λ (x : Bool). elim x as (λ _. List ℕ) [ true ↦ written (persisted m) b | false ↦ b ]) h,
  )

  pub save_in : (b : List ℕ) → in_range m ≡ true
      → (save_answer m (length b) ≡ write_answer (persisted m) (length b)) × (saved m b ≡ written (persisted m) b)
  unfolding save_answer saved
  save_in b h = (
    ap (λ (x : Bool). elim x as (λ _. Answer) [ true ↦ write_answer (persisted m) (length b) | false ↦ Record ]) h,
    ap (λ (x : Bool). elim x as (λ _. List ℕ) [ true ↦ written (persisted m) b | false ↦ b ]) h,
  )

  abbrev counted : Bool → Counted
  counted b = elim b [ true ↦ record { answer = Taken; places = places_of m } | false ↦ record { answer = Record; places = no_places } ]

  pub count_out : in_range m ≡ false → count_places m ≡ record { answer = Record; places = no_places }
  unfolding count_places
  count_out h = ap counted h

  pub count_in_lem : in_range m ≡ true → count_places m ≡ record { answer = Taken; places = places_of m }
  unfolding count_places
  count_in_lem h = ap counted h
