-- #104: the code's rows since the flushes stand for the contents since them: after a start, and after each event.
use Prim.Native.Nat.{ℕ, ◌≤◌, ◌<◌}
use mathlib.Core.Path.{◌≡◌, refl, sym, ap, subst, ◌∙◌}
use mathlib.Core.Bool.{Bool, true, false}
use mathlib.Core.List.{List}
use mathlib.Core.Logic.{◌⊎◌, inl, inr}
use native.Mathlib.Omega.{arith}
use lib.ListN.{length, get_or, set, length-set}
use lib.Seq.{get_or-set_same, get_or-set_other}
use lib.Dec.{ltb, eqb}
use borrow.Author.Tests.{lt-ltb, ltb-true, ltb-false, eqb-true, eqb-false}
use Rattle.lists.specs.Find.{pick}
use Rattle.lists.proofs.BoolLaws.{false_true}
use Rattle.image.specs.declared.Content.{Content}
use Rattle.image.specs.declared.Image.{Image}
use Rattle.image.specs.declared.Shape.{Shape}
use Rattle.image.specs.Form.{head_lines}
use Rattle.machine.specs.Record.{thread, zero_thread}
use Rattle.machine.specs.Line.{shape_of, line_at, number_of, cached_at}
use Rattle.machine.specs.Start.{start_of}
use Rattle.machine.specs.declared.Line.{Line}
use Rattle.machine.specs.declared.Machine.{Machine}
use Rattle.machine.specs.declared.Thread.{Thread}
use Rattle.machine.specs.declared.Touch.{Touch}
use Rattle.machine.specs.declared.Touch.TheVariants.{Nothing as nothing, Store as a_store, Persist as a_persist, Flush as a_flush, Fence as a_fence}
use Rattle.machine.proofs.LineLaws.{LineIn, number_in, line_number}
use Rattle.machine.proofs.StartLaws as starts
use Rattle.schedule.specs.Run.{Bench, begins, goes_on}
use Rattle.moments.specs.Frame.{StoresTo, Frame}
use Rattle.moments.specs.Marked.{Waits, FlushesBy, fence_line, since_of}
use Rattle.moments.proofs.Waiting.{Came}
use Rattle.moments.proofs.Known.{Known}
use Rattle.endtable.specs.Rows.{no_row, joined_row, row_of}
use Rattle.endtable.specs.Touched.{Touched, touched_row}
use Rattle.endtable.specs.Since.{fence_row, since_joined, since_after}
use Rattle.endtable.specs.Benches.{Sinces}
use Rattle.endtable.specs.declared.row.Row.{Row}
use Rattle.endtable.proofs.SinceRows as filled
use Rattle.endtable.proofs.SinceLaws.{Holds, since_held, since_still, since_begins}
use Rattle.endtable.proofs.TableLaws.{not_stored}

-- ---- a start: no thread is at a fence

pub sinces_begin : (g : Image) (t : ℕ) → t ≤ 8 → (since : List Row) → length since ≡ 8 → Sinces (begins (start_of g t)) since
sinces_begin g t few since e = record {
  eight = e;
  held = λ k l h hl w. absurd (omega (arith, w.0, ap (λ (v : Thread). v.step) (starts.thread_is g t k (omega (arith, h, few, (starts.sizes_are g t).1)))));
}

-- ---- what a touch is, by its row

module _ (z : Shape) where
  -- a store is none of a thread, and begins no row anew
  store_joins : (w : Touch) (l : Line) → StoresTo w l → (8 ≤ (touched_row z w).thread) × ((touched_row z w).persisted ≡ false)
  store_joins nothing l s = absurd s
  store_joins (a_store x) l s = (omega arith, refl)
  store_joins (a_persist x) l s = absurd s
  store_joins (a_flush k x) l s = absurd s
  store_joins (a_fence k x) l s = absurd s

  flush_by : (w : Touch) → (touched_row z w).thread < 8 → (touched_row z w).persisted ≡ true → FlushesBy w (touched_row z w).thread
  flush_by nothing h e = absurd (omega arith)
  flush_by (a_store x) h e = absurd (omega arith)
  flush_by (a_persist x) h e = absurd (omega arith)
  flush_by (a_flush k x) h e = refl
  flush_by (a_fence k x) h e = false_true e

-- ---- an event

module _ (b : Bench) (known : Known b) (small : b.machine.n ≤ 64) (few : head_lines (shape_of b.machine) ≤ 8) (m : Machine) (w : Touch)
    (f : Frame b.machine m w) (came : Came b.machine m w) (since : List Row) (h : Sinces b since) where
  abbrev z : Shape
  z = shape_of b.machine

  abbrev v : Touched
  v = touched_row z w

  abbrev c : Content
  c = cached_at m (line_at z v.line)

  abbrev new : List Row
  new = since_after z m.threads since v c

  module _ (k : ℕ) (l : Line) (hk : k < b.machine.t) (hl : LineIn z l) (x : Waits m k l) where
    -- the row's number is the line's
    at : fence_row z k (get_or m.threads k zero_thread) ≡ number_of z l
    at = filled.fence_at z k (thread m k) x.0 ∙ ap (number_of z) (ap (λ s. fence_line s.form k (thread m k)) (sym f.shape) ∙ sym x.1)

    low : number_of z l < 72
    low = omega (arith, number_in z l hl)

    not_at : (number_of z l ≡ v.line → ⊥) → StoresTo w l → ⊥
    not_at ne s = not_stored z (number_of z l) w ne (subst (StoresTo w) (sym (line_number z l hl)) s)

    here : number_of z l ≡ v.line → line_at z v.line ≡ l
    here e = ap (line_at z) (sym e) ∙ line_number z l hl

    -- it has not flushed since
    module _ (ne : FlushesBy w k → ⊥) (was : Holds (get_or since k no_row) (since_of b k l)) where
      same : (r : Row) → r ≡ get_or since k no_row → (StoresTo w l → ⊥) → Holds r (since_of (goes_on b m w) k l)
      same r e ns = subst (λ r. Holds r (since_of (goes_on b m w) k l)) (sym e) (since_still b known m w f k l ne ns (get_or since k no_row) was)

      joined : Holds (get_or (since_joined z m.threads since v.line c 8) k no_row) (since_of (goes_on b m w) k l)
      joined =
          subst (λ r. Holds r (since_of (goes_on b m w) k l)) (sym (filled.joined_at z m.threads since v.line c k (omega (arith, hk, known.threads))))
          (by (eqb (fence_row z k (get_or m.threads k zero_thread)) v.line) refl)
        where
          by : (q : Bool) → eqb (fence_row z k (get_or m.threads k zero_thread)) v.line ≡ q
              → Holds (pick q (joined_row (get_or since k no_row) c false) (get_or since k no_row)) (since_of (goes_on b m w) k l)
          by true e =
              subst (λ j. Holds (joined_row (get_or since k no_row) (cached_at m j) false) (since_of (goes_on b m w) k l)) (sym (here (sym at ∙ eqb-true _ v.line e)))
              (since_held b known m w f k l ne (get_or since k no_row) was)
          by false e = same (get_or since k no_row) refl (not_at (λ q. eqb-false _ v.line e (at ∙ q)))

      waited : Holds (get_or new k no_row) (since_of (goes_on b m w) k l)
      unfolding since_after
      waited = by (ltb v.line 72) refl (ltb v.thread 8) refl v.persisted refl
        where
          by : (i : Bool) → ltb v.line 72 ≡ i → (j : Bool) → ltb v.thread 8 ≡ j → (p : Bool) → v.persisted ≡ p
              → Holds (get_or (pick i (pick j (pick p (set since v.thread (row_of c)) since) (pick p since (since_joined z m.threads since v.line c 8))) since) k no_row)
              (since_of (goes_on b m w) k l)
          by false ei j ej p ep = same (get_or since k no_row) refl (not_at (λ q. omega (arith, low, ltb-false v.line 72 ei)))
          by true ei false ej true ep = same (get_or since k no_row) refl (λ s. false_true (sym (store_joins z w l s).1 ∙ ep))
          by true ei false ej false ep = joined
          by true ei true ej true ep =
              same (get_or (set since v.thread (row_of c)) k no_row)
              (get_or-set_other since v.thread k (row_of c) no_row (λ q. ne (subst (FlushesBy w) (sym q) (flush_by z w (ltb-true v.thread 8 ej) ep))))
              (λ s. false_true (sym (store_joins z w l s).1 ∙ ep))
          by true ei true ej false ep = same (get_or since k no_row) refl (λ s. omega (arith, ltb-true v.thread 8 ej, (store_joins z w l s).0))

    -- it has just flushed the line
    flushed : w ≡ a_flush k l → Holds (get_or new k no_row) (since_of (goes_on b m w) k l)
    unfolding since_after
    flushed e =
        subst (λ r. Holds r (since_of (goes_on b m w) k l)) (sym (ap (λ w. get_or (since_after z m.threads since (touched_row z w) (cached_at m (line_at z (touched_row z w).line))) k no_row) e ∙ row))
        (since_begins b known m w f k l e)
      where
        row : get_or (since_after z m.threads since (touched_row z (a_flush k l)) (cached_at m (line_at z (number_of z l)))) k no_row ≡ row_of (cached_at m l)
        row =
            rw (lt-ltb (number_of z l) 72 low, lt-ltb k 8 (omega (arith, hk, known.threads)))
            (get_or-set_same since k _ no_row (omega (arith, h.eight, hk, known.threads)) ∙ ap (λ j. row_of (cached_at m j)) (line_number z l hl))

    pub since_after_lem : Holds (get_or new k no_row) (since_of (goes_on b m w) k l)
    since_after_lem = by (came.from k l x)
      where
        by : (Waits b.machine k l × (FlushesBy w k → ⊥)) ⊎ (w ≡ a_flush k l) → Holds (get_or new k no_row) (since_of (goes_on b m w) k l)
        by (inl (y, ne)) = waited ne (h.held k l hk hl y)
        by (inr e) = flushed e

  new_length : length new ≡ 8
  unfolding since_after
  new_length = by (ltb v.line 72) (ltb v.thread 8) v.persisted
    where
      by : (i j p : Bool) → length (pick i (pick j (pick p (set since v.thread (row_of c)) since) (pick p since (since_joined z m.threads since v.line c 8))) since) ≡ 8
      by false j p = h.eight
      by true false true = h.eight
      by true false false = filled.joined_length z m.threads since v.line c h.eight
      by true true true = length-set since v.thread (row_of c) ∙ h.eight
      by true true false = h.eight

  pub sinces_after : Sinces (goes_on b m w) new
  sinces_after = record {
    eight = new_length;
    held = λ k l hk hl x. since_after_lem k l (omega (arith, hk, ap (λ s. s.t) f.shape)) (subst (λ s. LineIn s l) f.shape hl) x;
  }
