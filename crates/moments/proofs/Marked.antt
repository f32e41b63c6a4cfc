-- #104: what the record knows of flushes by its sets is what the moments say, at every moment of a run; and what is persisted is the content at the moment from which a
-- line's contents count. No fact of the queue is used.
use Prim.Native.Nat.{ℕ, ◌+◌, ◌≤◌, ◌<◌, max}
use mathlib.Core.Path.{◌≡◌, refl, sym, ap, ap₂, subst, ◌∙◌}
use mathlib.Core.Bool.{Bool, true, false, not}
use mathlib.Core.List.{List, [], ◌∷◌, ◌++◌}
use mathlib.Core.Logic.{◌⊎◌, inl, inr}
use native.Mathlib.Omega.{arith}
use native.Mathlib.Decide.{ℕ_discrete}
use borrow.Author.Tests.{eq-eqb, ne_eqb, lt-ltb, le-ltb, le-leb, lt-leb, leb-true, leb-false, ltb-true, ltb-false}
use lib.Dec.{eqb, ltb, leb}
use lib.ListN.{length, get_or, length-append, get_or-append}
use lib.Seq.{get_or-append_seam}
use Rattle.lists.specs.Find.{pick}
use Rattle.lists.specs.Word.{has, with}
use Rattle.lists.proofs.WordLaws.{has_zero, has_with_same, has_with_other, has_without_same, has_without_other}
use Rattle.image.specs.declared.Content.{Content}
use Rattle.image.specs.Layout.{no_content}
use Rattle.machine.specs.Record.{flushed, late}
use Rattle.machine.specs.Line.{shape_of, cached_at, persisted_at, over_at, keeping, everyone, persist}
use Rattle.machine.specs.Flush.{flush, over_after, fence}
use Rattle.machine.specs.Start.{blank_machine}
use Rattle.machine.specs.declared.Line.{Line}
use Rattle.machine.specs.declared.Machine.{Machine}
use Rattle.machine.specs.declared.Touch.{Touch}
use Rattle.machine.specs.declared.Touch.TheVariants.{Nothing as nothing, Store as a_store, Persist as a_persist, Flush as a_flush, Fence as a_fence}
use Rattle.machine.proofs.LineLaws.{LineIn, line_eq, put_same, put_other}
use Rattle.machine.proofs.FlushLaws.{everyone_in}
use Rattle.schedule.specs.Run.{Bench, begins, goes_on, mark_after, from_after}
use Rattle.moments.specs.Moments.{Timed}
use Rattle.moments.specs.Frame.{StoresTo, touched, Frame}
use Rattle.moments.specs.Marked.{Waits, FlushesBy, FencesBy, at_moment}
use Rattle.moments.proofs.Frame as frame
use Rattle.moments.proofs.Moments as moments
use Rattle.moments.proofs.Flushes as flushes
use Rattle.moments.proofs.Flushes.{Sized, held, held_cached}
use Rattle.moments.proofs.Waiting.{Came, Fencing}

pub record Marked (b : Bench) : Type 0 where
  -- of two threads, which one flushed later
  pub late : (u v : ℕ) → u < b.machine.t → v < b.machine.t → has (late b.machine u) v ≡ ltb (b.mark u) (b.mark v)
  -- a thread that is at its fence of a line has flushed what the line held at the moment of its flush
  pub flushed : (k : ℕ) (l : Line) → k < b.machine.t → LineIn (shape_of b.machine) l → Waits b.machine k l
      → held l (flushed b.machine k) ≡ at_moment b (b.mark k) l
  -- and is over that line where what is persisted there is no earlier
  pub over : (k : ℕ) (l : Line) → k < b.machine.t → LineIn (shape_of b.machine) l → Waits b.machine k l
      → has (over_at b.machine l) k ≡ leb (b.mark k) (b.from l)
  -- what is persisted is the content at that moment; from 0 on it is what was persisted at the start
  pub kept : (l : Line) → LineIn (shape_of b.machine) l → 0 < b.from l → persisted_at b.machine l ≡ at_moment b (b.from l) l

-- ---- the two tests by numbers

lt_yes : (a b : ℕ) → a < b → true ≡ ltb a b
lt_yes a b h = sym (lt-ltb a b h)

lt_no : (a b : ℕ) → b ≤ a → false ≡ ltb a b
lt_no a b h = sym (le-ltb a b h)

le_yes : (a b : ℕ) → a ≤ b → true ≡ leb a b
le_yes a b h = sym (le-leb a b h)

le_no : (a b : ℕ) → b < a → false ≡ leb a b
le_no a b h = sym (lt-leb a b h)

-- u is over the line already, or has not flushed since k: its mark is no later than the larger of the two moments
either_late : (u k f : ℕ) → pick (leb u f) true (not (ltb k u)) ≡ leb u (max f k)
either_late u k f = by (leb u f) refl (ltb k u) refl
  where
    by : (x : Bool) → leb u f ≡ x → (y : Bool) → ltb k u ≡ y → pick x true (not y) ≡ leb u (max f k)
    by true e y g = le_yes u (max f k) (omega (arith, leb-true u f e))
    by false e true g = le_no u (max f k) (omega (arith, leb-false u f e, ltb-true k u g))
    by false e false g = le_yes u (max f k) (omega (arith, ltb-false k u g))

module _ (b : Bench) (m' : Machine) (w : Touch) (t : Timed b) (z : Sized b.machine) (f : Frame b.machine m' w) (c : Came b.machine m' w)
    (g : Fencing b.machine w) (r : Marked b) where
  abbrev m : Machine
  m = b.machine

  abbrev now : ℕ
  now = length b.past

  abbrev b' : Bench
  b' = goes_on b m' w

  past_is : now ≡ length t.before + 1
  past_is = ap length t.now ∙ length-append t.before (b.machine ∷ [])

  mark_past : (u : ℕ) → b.mark u < now
  mark_past u = omega (arith, t.marks u, past_is)

  from_past : (l : Line) → b.from l < now
  from_past l = omega (arith, t.early l, past_is)

  same_t : m'.t ≡ m.t
  same_t = ap (λ s. s.t) f.shape

  old_line : (l : Line) → LineIn (shape_of m') l → LineIn (shape_of m) l
  old_line l h = subst (λ s. LineIn s l) f.shape h

  -- moments that have been stay, and the present one is a moment more
  older : (i : ℕ) (l : Line) → i < now → at_moment b' i l ≡ at_moment b i l
  older i l h = ap (λ (x : Machine). cached_at x l) (get_or-append b.past (m' ∷ []) blank_machine i h)

  newest : (l : Line) → at_moment b' now l ≡ cached_at m' l
  newest l = ap (λ (x : Machine). cached_at x l) (get_or-append_seam b.past m' [] blank_machine)

  -- ---- which thread flushed later

  late_same : (u v : ℕ) → u < m.t → v < m.t → (x : ℕ) → x ≡ late m u → has x v ≡ ltb (b.mark u) (b.mark v)
  late_same u v hu hv x e = ap (λ y. has y v) e ∙ r.late u v hu hv

  flush_late : (k : ℕ) (l : Line) (u v : ℕ) → u < m.t → v < m.t
      → has (late (flush m k l) u) v ≡ ltb (pick (eqb u k) now (b.mark u)) (pick (eqb v k) now (b.mark v))
  flush_late k l u v hu hv = ap (λ y. has y v) (flushes.flush_late m z k l u hu) ∙ by (eqb u k) (eqb v k) refl
    where
      late_v : (y : Bool) → pick y now (b.mark v) ≤ now
      late_v true = omega arith
      late_v false = omega (arith, mark_past v)

      by : (x y : Bool) → eqb v k ≡ y → has (pick x 0 (with (late m u) k)) v ≡ ltb (pick x now (b.mark u)) (pick y now (b.mark v))
      by true y e = has_zero v ∙ lt_no now (pick y now (b.mark v)) (late_v y)
      by false true e =
          let q = borrow.Author.Tests.eqb-true v k e in
          ap (λ i. has (with (late m u) k) i) q ∙ has_with_same (late m u) k ∙ lt_yes (b.mark u) now (mark_past u)
      by false false e = has_with_other (late m u) k v (borrow.Author.Tests.eqb-false v k e) ∙ r.late u v hu hv

  late_by : (w : Touch) (u v : ℕ) → u < m.t → v < m.t → has (late (touched m w) u) v ≡ ltb (mark_after w now b.mark u) (mark_after w now b.mark v)
  late_by nothing u v hu hv = r.late u v hu hv
  late_by (a_store l) u v hu hv = r.late u v hu hv
  late_by (a_persist l) u v hu hv = late_same u v hu hv _ (ap (λ y. get_or y u 0) (flushes.keeping_flushed m z (cached_at m l) (everyone m) l).1)
  late_by (a_flush k l) u v hu hv = flush_late k l u v hu hv
  late_by (a_fence k l) u v hu hv = late_same u v hu hv _ (ap (λ y. get_or y u 0) (flushes.fence_flushed m z k l).1)

  late_new : (u v : ℕ) → u < m'.t → v < m'.t → has (late m' u) v ≡ ltb (b'.mark u) (b'.mark v)
  late_new u v hu hv =
      ap (λ y. has y v) (frame.kept_late (touched m w) m' f.kept u) ∙ late_by w u v (omega (arith, hu, same_t)) (omega (arith, hv, same_t))

  -- ---- what a thread at its fence has flushed

  mark_stays : (w : Touch) (u : ℕ) → (FlushesBy w u → ⊥) → mark_after w now b.mark u ≡ b.mark u
  mark_stays nothing u ne = refl
  mark_stays (a_store l) u ne = refl
  mark_stays (a_persist l) u ne = refl
  mark_stays (a_flush k l) u ne = rw (ne_eqb u k ne) refl
  mark_stays (a_fence k l) u ne = refl

  flushed_stays : (w : Touch) (u : ℕ) → (FlushesBy w u → ⊥) → flushed (touched m w) u ≡ flushed m u
  flushed_stays nothing u ne = refl
  flushed_stays (a_store l) u ne = refl
  flushed_stays (a_persist l) u ne = ap (λ y. get_or y u no_content) (flushes.keeping_flushed m z (cached_at m l) (everyone m) l).0
  flushed_stays (a_flush k l) u ne = flushes.flush_rest m z k l u ne
  flushed_stays (a_fence k l) u ne = ap (λ y. get_or y u no_content) (flushes.fence_flushed m z k l).0

  -- a line that the touch does not store to
  cached_same : (l : Line) (x : Touch) → w ≡ x → (StoresTo x l → ⊥) → cached_at m l ≡ cached_at m' l
  cached_same l x e n = sym (f.cached l (λ s. n (subst (λ w. StoresTo w l) e s)))

  mark_now : (k : ℕ) (l : Line) → w ≡ a_flush k l → b'.mark k ≡ now
  mark_now k l e = ap (λ w. mark_after w now b.mark k) e ∙ rw (eq-eqb k k refl) refl

  flushed_new : (k : ℕ) (l : Line) → k < m'.t → LineIn (shape_of m') l → Waits m' k l → held l (flushed m' k) ≡ at_moment b' (b'.mark k) l
  flushed_new k l hk hl x = by (c.from k l x)
    where
      is : flushed m' k ≡ flushed (touched m w) k
      is = frame.kept_flushed (touched m w) m' f.kept k

      by : (Waits m k l × (FlushesBy w k → ⊥)) ⊎ (w ≡ a_flush k l) → held l (flushed m' k) ≡ at_moment b' (b'.mark k) l
      by (inl (y, ne)) =
          ap (held l) (is ∙ flushed_stays w k ne) ∙ r.flushed k l (omega (arith, hk, same_t)) (old_line l hl) y
          ∙ sym (older (b.mark k) l (mark_past k)) ∙ ap (λ i. at_moment b' i l) (sym (mark_stays w k ne))
      by (inr e) =
          ap (held l) (is ∙ ap (λ w. flushed (touched m w) k) e ∙ flushes.flush_own m z k l (omega (arith, hk, same_t)))
          ∙ held_cached m l ∙ cached_same l (a_flush k l) e (λ s. s) ∙ sym (newest l) ∙ ap (λ i. at_moment b' i l) (sym (mark_now k l e))

  -- ---- whether it is over the line

  module _ (k : ℕ) (l : Line) (hk : k < m.t) (hl : LineIn (shape_of m) l) (y : Waits m k l) where
    -- what a fence of the same line makes of it
    fenced_over : (u : ℕ) → u < m.t → Waits m u l → has (over_at (fence m u l) l) k ≡ leb (b.mark k) (max (b.from l) (b.mark u))
    fenced_over u hu x = by (has (over_at m l) u) refl
      where
        by : (q : Bool) → has (over_at m l) u ≡ q → has (over_at (fence m u l) l) k ≡ leb (b.mark k) (max (b.from l) (b.mark u))
        by true e =
            let low : b.mark u ≤ b.from l = leb-true (b.mark u) (b.from l) (sym (r.over u l hu hl x) ∙ e) in
            ap (λ (q : Machine). has (over_at q l) k) (frame.fence_stays m u l e) ∙ r.over k l hk hl y ∙ ap (leb (b.mark k)) (omega (arith, low))
        by false e =
            ap (λ (q : Machine). has (over_at q l) k) (frame.fence_moves m u l e)
            ∙ ap (λ q. has q k) (flushes.keeping_over_own m z (flushed m u) (over_after m u l) l hl)
            ∙ flushes.after_has m z u l k hk
            ∙ ap₂ (λ p q. pick p true (not q)) (r.over k l hk hl y) (r.late u k hu hk)
            ∙ either_late (b.mark k) (b.mark u) (b.from l)

    over_by : (w : Touch) → Fencing m w → (FlushesBy w k → ⊥) → has (over_at (touched m w) l) k ≡ leb (b.mark k) (from_after w now b.mark b.from l)
    over_by nothing n ne = r.over k l hk hl y
    over_by (a_store x) n ne = r.over k l hk hl y
    over_by (a_persist x) n ne = by (line_eq l x)
      where
        by : Dec (l ≡ x) → has (over_at (persist m x) l) k ≡ leb (b.mark k) (from_after (a_persist x) now b.mark b.from l)
        by (yes e) = subst (λ x. has (over_at (persist m x) l) k ≡ leb (b.mark k) (from_after (a_persist x) now b.mark b.from l)) e
            (ap (λ q. has q k) (flushes.keeping_over_own m z (cached_at m l) (everyone m) l hl) ∙ everyone_in m k hk
            ∙ le_yes (b.mark k) now (omega (arith, mark_past k)) ∙ ap (leb (b.mark k)) (sym (put_same b.from l now)))
        by (no q) = ap (λ p. has p k) (frame.keeping_over m x (cached_at m x) (everyone m) l q) ∙ r.over k l hk hl y ∙ ap (leb (b.mark k)) (sym (put_other b.from x now l q))
    over_by (a_flush u x) n ne = by (line_eq l x)
      where
        by : Dec (l ≡ x) → has (over_at (flush m u x) l) k ≡ leb (b.mark k) (b.from l)
        by (yes e) = subst (λ x. has (over_at (flush m u x) l) k ≡ leb (b.mark k) (b.from l)) e
            (ap (λ q. has q k) (flushes.flush_over_own m z u l hl) ∙ has_without_other (over_at m l) u k ne ∙ r.over k l hk hl y)
        by (no q) = ap (λ p. has p k) (flushes.flush_over_other m z u x l q) ∙ r.over k l hk hl y
    over_by (a_fence u x) n ne = by (line_eq l x)
      where
        by : Dec (l ≡ x) → has (over_at (fence m u x) l) k ≡ leb (b.mark k) (from_after (a_fence u x) now b.mark b.from l)
        by (yes e) = let a = n u l (refl, e) in subst (λ x. has (over_at (fence m u x) l) k ≡ leb (b.mark k) (from_after (a_fence u x) now b.mark b.from l)) e
            (fenced_over u a.0 a.1 ∙ ap (leb (b.mark k)) (sym (put_same b.from l (max (b.from l) (b.mark u)))))
        by (no q) = ap (λ p. has p k) (frame.fence_over_other m u x l q) ∙ r.over k l hk hl y ∙ ap (leb (b.mark k)) (sym (put_other b.from x (max (b.from x) (b.mark u)) l q))

  over_new : (k : ℕ) (l : Line) → k < m'.t → LineIn (shape_of m') l → Waits m' k l → has (over_at m' l) k ≡ leb (b'.mark k) (b'.from l)
  over_new k l hk hl x = ap (λ q. has q k) (frame.kept_over (touched m w) m' f.kept l) ∙ by (c.from k l x)
    where
      by : (Waits m k l × (FlushesBy w k → ⊥)) ⊎ (w ≡ a_flush k l) → has (over_at (touched m w) l) k ≡ leb (b'.mark k) (b'.from l)
      by (inl (y, ne)) = over_by k l (omega (arith, hk, same_t)) (old_line l hl) y w g ne ∙ ap (λ i. leb i (b'.from l)) (sym (mark_stays w k ne))
      by (inr e) =
          ap (λ w. has (over_at (touched m w) l) k) e ∙ ap (λ q. has q k) (flushes.flush_over_own m z k l (old_line l hl)) ∙ has_without_same (over_at m l) k
          ∙ le_no now (b.from l) (from_past l) ∙ ap₂ leb (sym (mark_now k l e)) (ap (λ w. from_after w now b.mark b.from l) (sym e))

  -- ---- what is persisted

  module _ (l : Line) (hl : LineIn (shape_of m) l) where
    -- a line that is as it was
    kept_old : (i : ℕ) → i ≡ b.from l → 0 < i → (p : Content) → p ≡ persisted_at m l → p ≡ at_moment b' i l
    kept_old i e h p q = q ∙ r.kept l hl (omega (arith, h, e)) ∙ sym (older (b.from l) l (from_past l)) ∙ ap (λ i. at_moment b' i l) (sym e)

    fenced_kept : (u : ℕ) → u < m.t → Waits m u l → (i : ℕ) → i ≡ max (b.from l) (b.mark u) → 0 < i → persisted_at (fence m u l) l ≡ at_moment b' i l
    fenced_kept u hu x i ei h = by (has (over_at m l) u) refl
      where
        by : (q : Bool) → has (over_at m l) u ≡ q → persisted_at (fence m u l) l ≡ at_moment b' i l
        by true e =
            let low : b.mark u ≤ b.from l = leb-true (b.mark u) (b.from l) (sym (r.over u l hu hl x) ∙ e) in
            kept_old i (omega (arith, ei, low)) h (persisted_at (fence m u l) l) (ap (λ (q : Machine). persisted_at q l) (frame.fence_stays m u l e))
        by false e =
            let high : b.from l < b.mark u = leb-false (b.mark u) (b.from l) (sym (r.over u l hu hl x) ∙ e) in
            let now_at : i ≡ b.mark u = omega (arith, ei, high) in
            ap (λ (q : Machine). persisted_at q l) (frame.fence_moves m u l e)
            ∙ flushes.keeping_own m z (flushed m u) (over_after m u l) l hl
            ∙ r.flushed u l hu hl x
            ∙ sym (older (b.mark u) l (mark_past u))
            ∙ ap (λ i. at_moment b' i l) (sym now_at)

    kept_by : (x : Touch) → w ≡ x → Fencing m x → (i : ℕ) → i ≡ from_after x now b.mark b.from l → 0 < i → persisted_at (touched m x) l ≡ at_moment b' i l
    kept_by nothing ew n i e h = kept_old i e h _ refl
    kept_by (a_store x) ew n i e h = kept_old i e h _ refl
    kept_by (a_persist x) ew n i e h = by (line_eq l x)
      where
        by : Dec (l ≡ x) → persisted_at (persist m x) l ≡ at_moment b' i l
        by (yes q) = subst (λ x. persisted_at (persist m x) l ≡ at_moment b' i l) q
            (flushes.keeping_own m z (cached_at m l) (everyone m) l hl ∙ held_cached m l ∙ cached_same l (a_persist x) ew (λ s. s) ∙ sym (newest l)
            ∙ ap (λ i. at_moment b' i l) (sym (e ∙ ap (λ x. from_after (a_persist x) now b.mark b.from l) (sym q) ∙ put_same b.from l now)))
        by (no q) = kept_old i (e ∙ put_other b.from x now l q) h _ (frame.keeping_other m x (cached_at m x) (everyone m) l q)
    kept_by (a_flush u x) ew n i e h = kept_old i e h _ (frame.flush_persisted m u x l)
    kept_by (a_fence u x) ew n i e h = by (line_eq l x)
      where
        by : Dec (l ≡ x) → persisted_at (fence m u x) l ≡ at_moment b' i l
        by (yes q) = let a = n u l (refl, q) in subst (λ x. persisted_at (fence m u x) l ≡ at_moment b' i l) q
            (fenced_kept u a.0 a.1 i (e ∙ ap (λ x. from_after (a_fence u x) now b.mark b.from l) (sym q) ∙ put_same b.from l (max (b.from l) (b.mark u))) h)
        by (no q) = kept_old i (e ∙ put_other b.from x (max (b.from x) (b.mark u)) l q) h _ (frame.fence_other m u x l q)

  kept_new : (l : Line) → LineIn (shape_of m') l → 0 < b'.from l → persisted_at m' l ≡ at_moment b' (b'.from l) l
  kept_new l hl h = frame.kept_persisted (touched m w) m' f.kept l ∙ kept_by l (old_line l hl) w refl g (b'.from l) refl h

  pub marked_goes : Marked b'
  marked_goes = record { late = late_new; flushed = flushed_new; over = over_new; kept = kept_new }
