-- Written back at moment r, a line is left with its content at the larger of r and the moment from which its contents count. So it is of every machine that has gone
-- through a bench's events with any write-backs added, clean ones too; of persists, flushes and fences, by the moments alone: no fact of the queue is used.
use Prim.Native.Nat.{ℕ, suc, ◌+◌, ◌-◌, ◌≤◌, ◌<◌, max}
use mathlib.Core.Path.{◌≡◌, refl, sym, ap, ap₂, subst, ◌∙◌}
use mathlib.Core.Bool.{Bool, true, false, not}
use mathlib.Core.List.{List, [], ◌∷◌}
use mathlib.Core.Logic.{◌⊎◌, inl, inr}
use native.Mathlib.Omega.{arith}
use native.Mathlib.Decide.{dec_lt}
use borrow.Author.Tests.{eq-eqb, ne_eqb, lt-ltb, le-ltb, le-leb, lt-leb, leb-true, leb-false, ltb-true, ltb-false}
use lib.Dec.{ltb, leb}
use lib.ListN.{length, get_or, length-append, get_or-append}
use lib.Seq.{get_or-append_seam}
use Rattle.lists.specs.Find.{pick}
use Rattle.lists.specs.Word.{has}
use Rattle.lists.proofs.WordLaws.{has_without_same, has_without_other}
use Rattle.image.specs.declared.Content.{Content}
use Rattle.image.specs.declared.Shape.{Shape}
use Rattle.machine.specs.Record.{flushed, late}
use Rattle.machine.specs.Line.{shape_of, line_count, line_at, cached_at, persisted_at, over_at, everyone, persist, put_line}
use Rattle.machine.specs.Flush.{flush, over_after, fence}
use Rattle.machine.specs.Start.{blank_machine}
use Rattle.machine.specs.declared.Line.{Line}
use Rattle.machine.specs.declared.Machine.{Machine}
use Rattle.machine.specs.declared.Event.{Event}
use Rattle.machine.specs.Event.{deed_of}
use Rattle.machine.specs.declared.Touch.{Touch}
use Rattle.machine.specs.declared.Touch.TheVariants.{Nothing as nothing, Store as a_store, Persist as a_persist, Flush as a_flush, Fence as a_fence}
use Rattle.machine.proofs.LineLaws.{LineIn, line_in, line_eq, put_same, put_other, put_ind}
use Rattle.machine.proofs.FlushLaws.{everyone_in}
use Rattle.schedule.specs.Run.{Bench, goes_on, mark_after, from_after}
use Rattle.lawful.specs.Added.{write_back}
use Rattle.moments.specs.Frame.{Persists, FencesTo, touched, Frame}
use Rattle.moments.specs.Marked.{Waits, FlushesBy, at_moment}
use Rattle.moments.proofs.Frame as frame
use Rattle.moments.proofs.Moments as moments
use Rattle.moments.proofs.Flushes as flushes
use Rattle.moments.proofs.Flushes.{Sized, held, held_cached}
use Rattle.moments.proofs.Steps as acts
use Rattle.moments.proofs.Waiting.{Came, Fencing, came_done, fencing_done}
use Rattle.moments.proofs.Known.{Known}
use Rattle.pageproof.proofs.Alike.{Alike, alike_self, alike_back, alike_cached, alike_flushed, alike_size}
use Rattle.pageproof.proofs.Events as events
use Rattle.pageproof.proofs.Events.{Takes, next, touch, Crash, onto}

-- r counts a moment from 1, and 0 stands for no write-back. The content of line l at the larger of moment r - 1 and the one from which the bench b counts it
abbrev pub left_with : Bench → ℕ → Line → Content
left_with b r l = pick (ltb (b.from l) r) (at_moment b (r - 1) l) (persisted_at b.machine l)

abbrev latest : Bench → ℕ → Line → ℕ
latest b r l = max (b.from l) (r - 1)

-- m' has gone through b's events with write-backs added, of line l last behind moment r l - 1
pub record Lengthened (b : Bench) (r : Line → ℕ) (m' : Machine) : Type 0 where
  pub alike : Alike b.machine m'
  pub sized : Sized m'
  pub early : (l : Line) → r l ≤ length b.past
  -- a thread at its fence of a line is over it there where its mark is no later than what is persisted there
  pub over : (k : ℕ) (l : Line) → k < b.machine.t → LineIn (shape_of b.machine) l → Waits b.machine k l
      → has (over_at m' l) k ≡ leb (b.mark k) (latest b (r l) l)
  -- what is persisted there
  pub kept : (l : Line) → LineIn (shape_of b.machine) l → persisted_at m' l ≡ left_with b (r l) l

-- ---- which of the two moments is the larger

pub left_old : (b : Bench) (r : ℕ) (l : Line) → r ≤ b.from l → left_with b r l ≡ persisted_at b.machine l
left_old b r l h = rw (le-ltb (b.from l) r h) refl

pub left_new : (b : Bench) (r : ℕ) (l : Line) → b.from l < r → left_with b r l ≡ at_moment b (r - 1) l
left_new b r l h = rw (lt-ltb (b.from l) r h) refl

-- u is over the line already, or has not flushed since k
either_late : (u k f : ℕ) → pick (leb u f) true (not (ltb k u)) ≡ leb u (max f k)
either_late u k f = by (leb u f) refl (ltb k u) refl
  where
    by : (x : Bool) → leb u f ≡ x → (y : Bool) → ltb k u ≡ y → pick x true (not y) ≡ leb u (max f k)
    by true e y g = sym (le-leb u (max f k) (omega (arith, leb-true u f e)))
    by false e true g = sym (lt-leb u (max f k) (omega (arith, leb-false u f e, ltb-true k u g)))
    by false e false g = sym (le-leb u (max f k) (omega (arith, ltb-false k u g)))

-- ---- no write-back is added

pub lengthened_self : (b : Bench) → Known b → Lengthened b (λ l. 0) b.machine
lengthened_self b k = record {
  alike = alike_self b.machine;
  sized = k.sized;
  early = λ l. omega arith;
  over = λ u l hu hl x. k.marked.over u l hu hl x ∙ ap (leb (b.mark u)) (omega arith);
  kept = λ l hl. sym (left_old b 0 l (omega arith));
}

-- the sentence above in one term: a line that there is, written back at moment q
pub left_larger : (b : Bench) → Known b → (q : ℕ) (l : Line) → LineIn (shape_of b.machine) l → left_with b (suc q) l ≡ at_moment b (max q (b.from l)) l
left_larger b k q l h = by (dec_lt (b.from l) (suc q))
  where
    by : Dec (b.from l < suc q) → left_with b (suc q) l ≡ at_moment b (max q (b.from l)) l
    by (yes p) = left_new b (suc q) l p ∙ ap (λ i. at_moment b i l) (let z : suc q - 1 ≡ max q (b.from l) = omega arith in z)
    by (no p) =
        left_old b (suc q) l (omega arith) ∙ k.marked.kept l h (omega arith) ∙ ap (λ i. at_moment b i l) (let z : b.from l ≡ max q (b.from l) = omega arith in z)

-- ---- the moments of a bench

module _ (b : Bench) (kn : Known b) where
  past_is : length b.past ≡ length kn.timed.before + 1
  past_is = ap length kn.timed.now ∙ length-append kn.timed.before (b.machine ∷ [])

  pub from_past : (l : Line) → b.from l < length b.past
  from_past l = omega (arith, kn.timed.early l, past_is)

  mark_past : (u : ℕ) → b.mark u < length b.past
  mark_past u = omega (arith, kn.timed.marks u, past_is)

  pub past_some : 0 < length b.past
  past_some = omega (arith, past_is)

  -- the present moment is the last one
  pub present_is : (l : Line) → at_moment b (length b.past - 1) l ≡ cached_at b.machine l
  present_is l =
      ap (λ (x : Machine). cached_at x l)
      (ap₂ (λ (p : List Machine) (i : ℕ). get_or p i blank_machine) kn.timed.now (let z : length b.past - 1 ≡ length kn.timed.before = omega (arith, past_is) in z)
      ∙ get_or-append_seam kn.timed.before b.machine [] blank_machine)

  -- moments that have been stay
  pub older : (m : Machine) (w : Touch) (i : ℕ) (l : Line) → i < length b.past → at_moment (goes_on b m w) i l ≡ at_moment b i l
  older m w i l h = ap (λ (x : Machine). cached_at x l) (get_or-append b.past (m ∷ []) blank_machine i h)

-- ---- an event of the bench, on both sides

module _ (b : Bench) (kn : Known b) (r : Line → ℕ) (m' : Machine) (g : Lengthened b r m') (m₁ m₁' : Machine) (w : Touch) (f : Frame b.machine m₁ w) (f' : Frame m' m₁' w)
    (a₁ : Alike m₁ m₁') (c : Came b.machine m₁ w) (n : Fencing b.machine w) where
  abbrev m : Machine
  m = b.machine

  abbrev now : ℕ
  now = length b.past

  abbrev b₁ : Bench
  b₁ = goes_on b m₁ w

  same_t : m'.t ≡ m.t
  same_t = ap (λ z. z.t) (alike_size m m' g.alike)

  there : (l : Line) → LineIn (shape_of m) l → LineIn (shape_of m') l
  there l h = subst (λ s. LineIn s l) (sym (alike_size m m' g.alike)) h

  back : (l : Line) → r l - 1 < now
  back l = omega (arith, g.early l, past_some b kn)

  -- ---- who is over a line

  mark_stays : (x : Touch) (u : ℕ) → (FlushesBy x u → ⊥) → mark_after x now b.mark u ≡ b.mark u
  mark_stays nothing u ne = refl
  mark_stays (a_store l) u ne = refl
  mark_stays (a_persist l) u ne = refl
  mark_stays (a_flush k l) u ne = rw (ne_eqb u k ne) refl
  mark_stays (a_fence k l) u ne = refl

  module _ (k : ℕ) (l : Line) (hk : k < m.t) (hl : LineIn (shape_of m) l) (y : Waits m k l) where
    was : has (over_at m' l) k ≡ leb (b.mark k) (latest b (r l) l)
    was = g.over k l hk hl y

    fenced_over : (u : ℕ) → u < m.t → Waits m u l → has (over_at (fence m' u l) l) k ≡ leb (b.mark k) (max (max (b.from l) (b.mark u)) (r l - 1))
    fenced_over u hu x = by (has (over_at m' l) u) refl
      where
        by : (q : Bool) → has (over_at m' l) u ≡ q → has (over_at (fence m' u l) l) k ≡ leb (b.mark k) (max (max (b.from l) (b.mark u)) (r l - 1))
        by true e =
            let low : b.mark u ≤ latest b (r l) l = leb-true (b.mark u) (latest b (r l) l) (sym (g.over u l hu hl x) ∙ e) in
            ap (λ (q : Machine). has (over_at q l) k) (frame.fence_stays m' u l e) ∙ was ∙ ap (leb (b.mark k)) (omega (arith, low))
        by false e =
            ap (λ (q : Machine). has (over_at q l) k) (frame.fence_moves m' u l e)
            ∙ ap (λ q. has q k) (flushes.keeping_over_own m' g.sized (flushed m' u) (over_after m' u l) l (there l hl))
            ∙ flushes.after_has m' g.sized u l k (omega (arith, hk, same_t))
            ∙ ap₂ (λ p q. pick p true (not q)) was (ap (λ q. has q k) (alike_flushed m m' g.alike u).1 ∙ kn.marked.late u k hu hk)
            ∙ either_late (b.mark k) (b.mark u) (latest b (r l) l)
            ∙ ap (leb (b.mark k)) (omega arith)

    over_by : (x : Touch) → Fencing m x → (FlushesBy x k → ⊥)
        → has (over_at (touched m' x) l) k ≡ leb (b.mark k) (max (from_after x now b.mark b.from l) (r l - 1))
    over_by nothing n ne = was
    over_by (a_store x) n ne = was
    over_by (a_persist x) n ne = by (line_eq l x)
      where
        by : Dec (l ≡ x) → has (over_at (persist m' x) l) k ≡ leb (b.mark k) (max (from_after (a_persist x) now b.mark b.from l) (r l - 1))
        by (yes e) = subst (λ x. has (over_at (persist m' x) l) k ≡ leb (b.mark k) (max (from_after (a_persist x) now b.mark b.from l) (r l - 1))) e
            (ap (λ q. has q k) (flushes.keeping_over_own m' g.sized (cached_at m' l) (everyone m') l (there l hl)) ∙ everyone_in m' k (omega (arith, hk, same_t))
            ∙ sym (le-leb (b.mark k) (max now (r l - 1)) (omega (arith, mark_past b kn k)))
            ∙ ap (λ i. leb (b.mark k) (max i (r l - 1))) (sym (put_same b.from l now)))
        by (no q) =
            ap (λ p. has p k) (frame.keeping_over m' x (cached_at m' x) (everyone m') l q) ∙ was
            ∙ ap (λ i. leb (b.mark k) (max i (r l - 1))) (sym (put_other b.from x now l q))
    over_by (a_flush u x) n ne = by (line_eq l x)
      where
        by : Dec (l ≡ x) → has (over_at (flush m' u x) l) k ≡ leb (b.mark k) (latest b (r l) l)
        by (yes e) = subst (λ x. has (over_at (flush m' u x) l) k ≡ leb (b.mark k) (latest b (r l) l)) e
            (ap (λ q. has q k) (flushes.flush_over_own m' g.sized u l (there l hl)) ∙ has_without_other (over_at m' l) u k ne ∙ was)
        by (no q) = ap (λ p. has p k) (flushes.flush_over_other m' g.sized u x l q) ∙ was
    over_by (a_fence u x) n ne = by (line_eq l x)
      where
        by : Dec (l ≡ x) → has (over_at (fence m' u x) l) k ≡ leb (b.mark k) (max (from_after (a_fence u x) now b.mark b.from l) (r l - 1))
        by (yes e) = let a = n u l (refl, e) in subst (λ x. has (over_at (fence m' u x) l) k ≡ leb (b.mark k) (max (from_after (a_fence u x) now b.mark b.from l) (r l - 1))) e
            (fenced_over u a.0 a.1 ∙ ap (λ i. leb (b.mark k) (max i (r l - 1))) (sym (put_same b.from l (max (b.from l) (b.mark u)))))
        by (no q) =
            ap (λ p. has p k) (frame.fence_over_other m' u x l q) ∙ was
            ∙ ap (λ i. leb (b.mark k) (max i (r l - 1))) (sym (put_other b.from x (max (b.from x) (b.mark u)) l q))

  over_new : (k : ℕ) (l : Line) → k < m₁.t → LineIn (shape_of m₁) l → Waits m₁ k l → has (over_at m₁' l) k ≡ leb (b₁.mark k) (latest b₁ (r l) l)
  over_new k l hk hl x = ap (λ q. has q k) (frame.kept_over (touched m' w) m₁' f'.kept l) ∙ by (c.from k l x)
    where
      hl₀ : LineIn (shape_of m) l
      hl₀ = subst (λ s. LineIn s l) f.shape hl

      by : (Waits m k l × (FlushesBy w k → ⊥)) ⊎ (w ≡ a_flush k l) → has (over_at (touched m' w) l) k ≡ leb (b₁.mark k) (latest b₁ (r l) l)
      by (inl (y, ne)) =
          over_by k l (omega (arith, hk, ap (λ s. s.t) f.shape)) hl₀ y w n ne ∙ ap (λ i. leb i (latest b₁ (r l) l)) (sym (mark_stays w k ne))
      by (inr e) =
          ap (λ w. has (over_at (touched m' w) l) k) e ∙ ap (λ q. has q k) (flushes.flush_over_own m' g.sized k l (there l hl₀)) ∙ has_without_same (over_at m' l) k
          ∙ sym (lt-leb now (latest b (r l) l) (omega (arith, from_past b kn l, back l)))
          ∙ ap₂ leb (sym (ap (λ w. mark_after w now b.mark k) e ∙ rw (eq-eqb k k refl) refl))
          (ap (λ w. max (from_after w now b.mark b.from l) (r l - 1)) (sym e))

  -- ---- what is persisted

  module _ (l : Line) (hl : LineIn (shape_of m) l) where
    -- neither side persists the line
    kept_still : (Persists w l → ⊥) → (FencesTo w l → ⊥) → persisted_at m₁' l ≡ left_with b₁ (r l) l
    kept_still p q =
        frame.frame_kept m' m₁' w f' l p q ∙ g.kept l hl
        ∙ ap (λ i. pick (ltb i (r l)) (at_moment b (r l - 1) l) (persisted_at m l)) (sym (moments.from_other w now b.mark b.from l p q))
        ∙ ap₂ (pick (ltb (b₁.from l) (r l))) (sym (older b kn m₁ w (r l - 1) l (back l))) (sym (frame.frame_kept m m₁ w f l p q))

    kept_persist : w ≡ a_persist l → persisted_at m₁' l ≡ left_with b₁ (r l) l
    kept_persist e =
        present m' m₁' f' g.sized (there l hl) ∙ alike_cached m m' g.alike l ∙ sym (present m m₁ f kn.sized hl)
        ∙ sym (left_old b₁ (r l) l (omega (arith, g.early l, ap (λ w. from_after w now b.mark b.from l) e ∙ put_same b.from l now)))
      where
        present : (x x₁ : Machine) → Frame x x₁ w → Sized x → LineIn (shape_of x) l → persisted_at x₁ l ≡ cached_at x l
        present x x₁ y z h =
            frame.kept_persisted (touched x w) x₁ y.kept l ∙ ap (λ w. persisted_at (touched x w) l) e
            ∙ flushes.keeping_own x z (cached_at x l) (everyone x) l h ∙ held_cached x l

    module _ (u : ℕ) (e : w ≡ a_fence u l) (hu : u < m.t) (x : Waits m u l) where
      from_is : b₁.from l ≡ max (b.from l) (b.mark u)
      from_is = ap (λ w. from_after w now b.mark b.from l) e ∙ put_same b.from l (max (b.from l) (b.mark u))

      -- what the fence leaves, of either machine
      fenced : (y y₁ : Machine) → Frame y y₁ w → persisted_at y₁ l ≡ persisted_at (fence y u l) l
      fenced y y₁ z = frame.kept_persisted (touched y w) y₁ z.kept l ∙ ap (λ w. persisted_at (touched y w) l) e

      counts : (y : Machine) → Sized y → LineIn (shape_of y) l → has (over_at y l) u ≡ false → persisted_at (fence y u l) l ≡ held l (flushed y u)
      counts y z h q = ap (λ (v : Machine). persisted_at v l) (frame.fence_moves y u l q) ∙ flushes.keeping_own y z (flushed y u) (over_after y u l) l h

      stays : (y : Machine) → has (over_at y l) u ≡ true → persisted_at (fence y u l) l ≡ persisted_at y l
      stays y q = ap (λ (v : Machine). persisted_at v l) (frame.fence_stays y u l q)

      here : has (over_at m l) u ≡ leb (b.mark u) (b.from l)
      here = kn.marked.over u l hu hl x

      -- the fence counts on both sides
      both_count : has (over_at m l) u ≡ false → has (over_at m' l) u ≡ false → persisted_at m₁' l ≡ persisted_at m₁ l
      both_count p q =
          fenced m' m₁' f' ∙ counts m' g.sized (there l hl) q ∙ ap (held l) (alike_flushed m m' g.alike u).0 ∙ sym (fenced m m₁ f ∙ counts m kn.sized hl p)

      kept_fence : persisted_at m₁' l ≡ left_with b₁ (r l) l
      kept_fence = by (dec_lt (b.from l) (r l)) (dec_lt (r l - 1) (b.mark u))
        where
          by : Dec (b.from l < r l) → Dec (r l - 1 < b.mark u) → persisted_at m₁' l ≡ left_with b₁ (r l) l
          by (yes h) (yes k) =
              both_count (here ∙ lt-leb (b.mark u) (b.from l) (omega arith)) (g.over u l hu hl x ∙ lt-leb (b.mark u) (latest b (r l) l) (omega arith))
              ∙ sym (left_old b₁ (r l) l (omega (arith, from_is)))
          by (yes h) (no k) =
              fenced m' m₁' f' ∙ stays m' (g.over u l hu hl x ∙ le-leb (b.mark u) (latest b (r l) l) (omega arith)) ∙ g.kept l hl ∙ left_new b (r l) l h
              ∙ sym (older b kn m₁ w (r l - 1) l (back l)) ∙ sym (left_new b₁ (r l) l (omega (arith, from_is)))
          by (no h) k = same (leb (b.mark u) (b.from l)) refl ∙ sym (left_old b₁ (r l) l (omega (arith, from_is)))
            where
              there_is : has (over_at m' l) u ≡ leb (b.mark u) (b.from l)
              there_is = g.over u l hu hl x ∙ ap (leb (b.mark u)) (omega arith)

              same : (q : Bool) → leb (b.mark u) (b.from l) ≡ q → persisted_at m₁' l ≡ persisted_at m₁ l
              same true q =
                  fenced m' m₁' f' ∙ stays m' (there_is ∙ q) ∙ g.kept l hl ∙ left_old b (r l) l (omega arith) ∙ sym (fenced m m₁ f ∙ stays m (here ∙ q))
              same false q = both_count (here ∙ q) (there_is ∙ q)

    kept_by : (x : Touch) → w ≡ x → persisted_at m₁' l ≡ left_with b₁ (r l) l
    kept_by nothing e = kept_still (λ p. subst (λ w. Persists w l) e p) (λ p. subst (λ w. FencesTo w l) e p)
    kept_by (a_store x) e = kept_still (λ p. subst (λ w. Persists w l) e p) (λ p. subst (λ w. FencesTo w l) e p)
    kept_by (a_persist x) e = by (line_eq l x)
      where
        by : Dec (l ≡ x) → persisted_at m₁' l ≡ left_with b₁ (r l) l
        by (yes q) = kept_persist (e ∙ ap a_persist (sym q))
        by (no q) = kept_still (λ p. q (subst (λ w. Persists w l) e p)) (λ p. subst (λ w. FencesTo w l) e p)
    kept_by (a_flush u x) e = kept_still (λ p. subst (λ w. Persists w l) e p) (λ p. subst (λ w. FencesTo w l) e p)
    kept_by (a_fence u x) e = by (line_eq l x)
      where
        by : Dec (l ≡ x) → persisted_at m₁' l ≡ left_with b₁ (r l) l
        by (yes q) =
            let is : w ≡ a_fence u l = e ∙ ap (a_fence u) (sym q) in
            let a = subst (λ (w : Touch). Fencing m w) is n u l (refl, refl) in
            kept_fence u is a.0 a.1
        by (no q) = kept_still (λ p. subst (λ w. Persists w l) e p) (λ p. q (subst (λ w. FencesTo w l) e p))

  lengthened_goes : Lengthened b₁ r m₁'
  lengthened_goes = record {
    alike = a₁;
    sized = flushes.sized_goes m' m₁' w f' g.sized;
    early = λ l. omega (arith, g.early l, length-append b.past (m₁ ∷ []));
    over = over_new;
    kept = λ l hl. kept_by l (subst (λ s. LineIn s l) f.shape hl) w refl;
  }

-- a recorded event, which m' goes through too
pub lengthened_keeps : (p : ℕ) (b : Bench) → Known b → (r : Line → ℕ) (m' : Machine) → Lengthened b r m' → (e : Event) → (Crash e → ⊥) → Takes p b.machine e
    → Lengthened (onto b e) r (next m' e)
lengthened_keeps p b kn r m' g e ne t =
    subst (λ (x : Bench). Lengthened x r (next m' e)) (sym (events.onto_goes p b e t ne))
    (lengthened_goes b kn r m' g (next b.machine e) (next m' e) (touch b.machine e) (acts.frame_done b.machine e (deed_of e.kind) ne)
    (subst (Frame m' (next m' e)) (events.alike_touch b.machine m' g.alike e ne) (acts.frame_done m' e (deed_of e.kind) ne))
    (events.alike_next b.machine m' g.alike e ne) (came_done b.machine e (deed_of e.kind) ne)
    (fencing_done p b.machine e (deed_of e.kind) (events.tests p b.machine e t)))

-- a write-back of line x is added now, whether or not the line is clean
pub lengthened_adds : (b : Bench) → Known b → (r : Line → ℕ) (m' : Machine) → Lengthened b r m' → (x : Line) → LineIn (shape_of b.machine) x
    → Lengthened b (put_line r x (length b.past)) (persist m' x)
lengthened_adds b kn r m' g x hx = record {
  alike = alike_back b.machine m' g.alike x;
  sized = flushes.sized_goes m' (persist m' x) (a_persist x) (frame.frame_persist m' x) g.sized;
  early = λ l. put_ind r x (length b.past) (λ l i. i ≤ length b.past) l (omega arith) (λ ne. g.early l);
  over = λ k l hk hl y. by_over k l hk hl y (line_eq l x);
  kept = λ l hl. by_kept l hl (line_eq l x);
}
  where
    there : (l : Line) → LineIn (shape_of b.machine) l → LineIn (shape_of m') l
    there l h = subst (λ s. LineIn s l) (sym (alike_size b.machine m' g.alike)) h

    by_over : (k : ℕ) (l : Line) → k < b.machine.t → LineIn (shape_of b.machine) l → Waits b.machine k l → Dec (l ≡ x)
        → has (over_at (persist m' x) l) k ≡ leb (b.mark k) (latest b (put_line r x (length b.past) l) l)
    by_over k l hk hl y (yes e) = subst (λ x. has (over_at (persist m' x) l) k ≡ leb (b.mark k) (latest b (put_line r x (length b.past) l) l)) e
        (ap (λ q. has q k) (flushes.keeping_over_own m' g.sized (cached_at m' l) (everyone m') l (there l hl))
        ∙ everyone_in m' k (omega (arith, hk, ap (λ z. z.t) (alike_size b.machine m' g.alike)))
        ∙ sym (le-leb (b.mark k) (latest b (length b.past) l) (omega (arith, mark_past b kn k)))
        ∙ ap (λ i. leb (b.mark k) (latest b i l)) (sym (put_same r l (length b.past))))
    by_over k l hk hl y (no q) =
        ap (λ p. has p k) (frame.keeping_over m' x (cached_at m' x) (everyone m') l q) ∙ g.over k l hk hl y
        ∙ ap (λ i. leb (b.mark k) (latest b i l)) (sym (put_other r x (length b.past) l q))

    by_kept : (l : Line) → LineIn (shape_of b.machine) l → Dec (l ≡ x) → persisted_at (persist m' x) l ≡ left_with b (put_line r x (length b.past) l) l
    by_kept l hl (yes e) = subst (λ x. persisted_at (persist m' x) l ≡ left_with b (put_line r x (length b.past) l) l) e
        (flushes.keeping_own m' g.sized (cached_at m' l) (everyone m') l (there l hl) ∙ held_cached m' l ∙ alike_cached b.machine m' g.alike l
        ∙ sym (left_new b (length b.past) l (from_past b kn l) ∙ present_is b kn l)
        ∙ ap (λ i. left_with b i l) (sym (put_same r l (length b.past))))
    by_kept l hl (no q) =
        frame.keeping_other m' x (cached_at m' x) (everyone m') l q ∙ g.kept l hl ∙ ap (λ i. left_with b i l) (sym (put_other r x (length b.past) l q))

-- the same of the line numbered i, as an event: r with that line written back now
unfoldable pub writes : Bench → (Line → ℕ) → ℕ → Line → ℕ
writes b r i = put_line r (line_at (shape_of b.machine) i) (length b.past)

pub lengthened_back : (b : Bench) → Known b → (r : Line → ℕ) (m' : Machine) → Lengthened b r m' → (i : ℕ) → i < line_count (shape_of b.machine)
    → Lengthened b (writes b r i) (next m' (write_back i))
unfolding writes
lengthened_back b kn r m' g i h =
    subst (λ (y : Shape). Lengthened b (writes b r i) (persist m' (line_at y i))) (sym (alike_size b.machine m' g.alike))
    (lengthened_adds b kn r m' g (line_at (shape_of b.machine) i) (line_in (shape_of b.machine) i h))
