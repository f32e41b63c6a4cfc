-- The contents of lines by time: what an event makes of them, and what is kept of time itself.
use mathlib.Core.Path.{◌≡◌, refl, sym, ap, ◌∙◌}
use mathlib.Core.Logic.{◌≢◌, ◌⊎◌, inl, inr}
use Prim.Native.Nat.{ℕ, suc, max, ◌≤◌}
use native.Mathlib.Omega.{arith}
use native.Mathlib.Decide.{ℕ_discrete}
use lib.Dec.{eqb}
use Rattle.model.specs.Basics.{sel, upd}
use Rattle.model.specs.Lines.{Line, Touch, nowhere, stores, flushes, issues, fences, upd_l, from_after, mark_after}
use Rattle.model.specs.Core.{Core, Node, content}
use Rattle.model.specs.Recovery.{Image, image_has, start}
use Rattle.model.specs.Machine.{M, Has, Since, starts, goes_on}
use Rattle.model.proofs.Basics.{upd_same, upd_at, upd_other, upd_ind, eq_no}
use Rattle.model.proofs.Lines.{line_eq, upd_l_at, upd_l_other}

-- is: for each line, which contents it has; since: which it has had since a thread's last flush
pub record Hist : Type 1 where
  pub is : Line → Node → Type 0
  pub since : ℕ → Line → Node → Type 0

abbrev pub hist_of : M → Hist
hist_of m = record { is = Has m; since = Since m }

-- no content is new but the present one of the line stored to; of a line persisted at once the present one alone is left, of one fenced those
-- since the flush. con is what the lines hold after it
abbrev pub Made : Touch → (Line → Node) → Hist → Hist → Type 0
Made nowhere con hs hs' = (l : Line) (c : Node) → hs'.is l c → hs.is l c
Made (stores k) con hs hs' = (l : Line) (c : Node) → hs'.is l c → hs.is l c ⊎ ((l ≡ k) × (c ≡ con k))
Made (flushes k) con hs hs' = ((l : Line) (c : Node) → hs'.is l c → hs.is l c) × ((c : Node) → hs'.is k c → c ≡ con k)
Made (issues u) con hs hs' = (l : Line) (c : Node) → hs'.is l c → hs.is l c
Made (fences u k) con hs hs' = ((l : Line) (c : Node) → hs'.is l c → hs.is l c) × ((c : Node) → hs'.is k c → hs.since u k c)

-- and of those since a flush: at the flush itself the present one alone
abbrev pub Later : Touch → (Line → Node) → Hist → Hist → Type 0
Later nowhere con hs hs' = (t : ℕ) (l : Line) (c : Node) → hs'.since t l c → hs.since t l c
Later (stores k) con hs hs' = (t : ℕ) (l : Line) (c : Node) → hs'.since t l c → hs.since t l c ⊎ ((l ≡ k) × (c ≡ con k))
Later (flushes k) con hs hs' = (t : ℕ) (l : Line) (c : Node) → hs'.since t l c → hs.since t l c
Later (issues u) con hs hs' = ((t : ℕ) → t ≢ u → (l : Line) (c : Node) → hs'.since t l c → hs.since t l c)
    × ((l : Line) (c : Node) → hs'.since u l c → c ≡ con l)
Later (fences u k) con hs hs' = (t : ℕ) (l : Line) (c : Node) → hs'.since t l c → hs.since t l c

-- what an event makes of the contents hs; the present ones are among them
pub record Grown (k : Touch) (con : Line → Node) (hs hs' : Hist) : Type 0 where
  pub here : (l : Line) → hs'.is l (con l)
  pub made : Made k con hs hs'
  pub later : Later k con hs hs'

-- the content at the present time is the cached one; no contents count from a time to come, and no flush was then
pub record Timed (m : M) : Type 0 where
  pub present : (l : Line) → m.past l m.now ≡ content m.core l
  pub early : (l : Line) → m.from l ≤ m.now
  pub marked : (t : ℕ) → m.mark t ≤ m.now

pub start_timed : (g : Image) → Timed (starts g)
start_timed g = record { present = λ l. refl; early = λ l. omega arith; marked = λ t. omega arith }

-- a start's contents are two
pub start_has : (g : Image) (l : Line) (c : Node) → Has (starts g) l c → (c ≡ image_has g l) ⊎ (c ≡ content (start g) l)
start_has g l c h = by (ℕ_discrete h.time 0)
  where
    by : Dec (h.time ≡ 0) → (c ≡ image_has g l) ⊎ (c ≡ content (start g) l)
    by (yes e) = inl (h.is ∙ ap (λ k. sel (eqb k 0) (image_has g l) (content (start g) l)) e)
    by (no ne) = inr (h.is ∙ ap (λ b. sel b (image_has g l) (content (start g) l)) (eq_no h.time 0 ne))

pub start_here : (g : Image) (l : Line) → Has (starts g) l (content (start g) l)
start_here g l = record { time = 1; since = omega arith; until = omega arith; is = refl }

-- ---- one time more

module _ (m : M) (c : Core) (i : Timed m) where
  abbrev from' : Touch → Line → ℕ
  from' k = from_after k (suc m.now) m.mark m.from

  abbrev mark' : Touch → ℕ → ℕ
  mark' k = mark_after k (suc m.now) m.mark

  -- a line's time moves on, to the present one at most
  moves_by : (k : Touch) (l : Line) → (m.from l ≤ from' k l) × (from' k l ≤ suc m.now)
  moves_by nowhere l = (omega arith, omega (arith, i.early l))
  moves_by (stores j) l = (omega arith, omega (arith, i.early l))
  moves_by (flushes j) l = by (line_eq l j)
    where
      by : Dec (l ≡ j) → (m.from l ≤ upd_l m.from j (suc m.now) l) × (upd_l m.from j (suc m.now) l ≤ suc m.now)
      by (yes e) = let z = upd_l_at m.from j (suc m.now) e in (omega (arith, z, i.early l), omega (arith, z))
      by (no ne) = let z = upd_l_other m.from j (suc m.now) ne in (omega (arith, z), omega (arith, z, i.early l))
  moves_by (issues u) l = (omega arith, omega (arith, i.early l))
  moves_by (fences u j) l = by (line_eq l j)
    where
      by : Dec (l ≡ j) → (m.from l ≤ upd_l m.from j (max (m.from j) (m.mark u)) l) × (upd_l m.from j (max (m.from j) (m.mark u)) l ≤ suc m.now)
      by (yes e) = let z = upd_l_at m.from j (max (m.from j) (m.mark u)) e in
          (omega (arith, z, ap m.from e), omega (arith, z, i.early j, i.marked u))
      by (no ne) = let z = upd_l_other m.from j (max (m.from j) (m.mark u)) ne in (omega (arith, z), omega (arith, z, i.early l))

  marks_by : (k : Touch) (t : ℕ) → mark' k t ≤ suc m.now
  marks_by nowhere t = omega (arith, i.marked t)
  marks_by (stores j) t = omega (arith, i.marked t)
  marks_by (flushes j) t = omega (arith, i.marked t)
  marks_by (issues u) t = upd_ind m.mark u (suc m.now) (λ t x. x ≤ suc m.now) t (omega arith) (λ ne. omega (arith, i.marked t))
  marks_by (fences u j) t = omega (arith, i.marked t)

  pub on_timed : (k : Touch) → Timed (goes_on m c k)
  on_timed k = record { present = λ l. upd_same (m.past l) (suc m.now) (content c l); early = λ l. (moves_by k l).1; marked = marks_by k }

  -- the present content is one
  pub on_here : (k : Touch) (l : Line) → Has (goes_on m c k) l (content c l)
  on_here k l = record {
    time = suc m.now;
    since = (moves_by k l).1;
    until = omega arith;
    is = sym (upd_same (m.past l) (suc m.now) (content c l));
  }

  -- what was a content stays one, where the line is not persisted
  pub on_old : (k : Touch) (l : Line) (a : Node) → from' k l ≡ m.from l → Has m l a → Has (goes_on m c k) l a
  on_old k l a e h = record {
    time = h.time;
    since = omega (arith, h.since, e);
    until = omega (arith, h.until);
    is = h.is ∙ sym (upd_other (m.past l) (suc m.now) (content c l) (λ z. omega (arith, h.until)));
  }

  -- what a line held at a time: the present content, or what it held then
  abbrev AtTime : Line → ℕ → Node → Type 0
  AtTime l k a = (a ≡ content c l) ⊎ ((k ≤ m.now) × (a ≡ m.past l k))

  at_time : (l : Line) (k : ℕ) (a : Node) → k ≤ suc m.now → a ≡ upd (m.past l) (suc m.now) (content c l) k → AtTime l k a
  at_time l k a h e = by (ℕ_discrete k (suc m.now))
    where
      by : Dec (k ≡ suc m.now) → AtTime l k a
      by (yes z) = inl (e ∙ upd_at (m.past l) (suc m.now) (content c l) z)
      by (no ne) = inr (omega arith, e ∙ upd_other (m.past l) (suc m.now) (content c l) ne)

  module _ (k : Touch) (l : Line) (a : Node) where
    -- a content is the present one, or was one
    has_old : Has (goes_on m c k) l a → (a ≡ content c l) ⊎ Has m l a
    has_old h = by (at_time l h.time a h.until h.is)
      where
        by : AtTime l h.time a → (a ≡ content c l) ⊎ Has m l a
        by (inl z) = inl z
        by (inr z) = inr (record { time = h.time; since = omega (arith, h.since, (moves_by k l).0); until = z.0; is = z.1 })

    since_old : (t : ℕ) → m.mark t ≤ mark' k t → Since (goes_on m c k) t l a → (a ≡ content c l) ⊎ Since m t l a
    since_old t up h = by (at_time l h.time a h.until h.is)
      where
        by : AtTime l h.time a → (a ≡ content c l) ⊎ Since m t l a
        by (inl z) = inl z
        by (inr z) = inr (record { time = h.time; since = omega (arith, h.since); until = z.0; is = z.1 })

    -- of a line whose content stays there is nothing new
    has_same : content c l ≡ content m.core l → Has (goes_on m c k) l a → Has m l a
    has_same e h = by (has_old h)
      where
        by : (a ≡ content c l) ⊎ Has m l a → Has m l a
        by (inl z) = record { time = m.now; since = i.early l; until = omega arith; is = z ∙ e ∙ sym (i.present l) }
        by (inr z) = z

    since_same : (t : ℕ) → m.mark t ≤ mark' k t → content c l ≡ content m.core l → Since (goes_on m c k) t l a → Since m t l a
    since_same t up e h = by (since_old t up h)
      where
        by : (a ≡ content c l) ⊎ Since m t l a → Since m t l a
        by (inl z) = record { time = m.now; since = i.marked t; until = omega arith; is = z ∙ e ∙ sym (i.present l) }
        by (inr z) = z

  -- a line persisted at once has the present content alone
  only_new : (j : Line) (a : Node) → Has (goes_on m c (flushes j)) j a → a ≡ content c j
  only_new j a h = by (at_time j h.time a h.until h.is)
    where
      by : AtTime j h.time a → a ≡ content c j
      by (inl z) = z
      by (inr z) = absurd (omega (arith, z.0, h.since, upd_l_at m.from j (suc m.now) refl))

  -- a line fenced those since the flush
  only_since : (u : ℕ) (j : Line) (a : Node) → content c j ≡ content m.core j → Has (goes_on m c (fences u j)) j a → Since m u j a
  only_since u j a e h = by (at_time j h.time a h.until h.is)
    where
      by : AtTime j h.time a → Since m u j a
      by (inl z) = record { time = m.now; since = i.marked u; until = omega arith; is = z ∙ e ∙ sym (i.present j) }
      by (inr z) = record {
        time = h.time;
        since = omega (arith, h.since, upd_l_at m.from j (max (m.from j) (m.mark u)) refl);
        until = z.0;
        is = z.1;
      }

  -- at the flush there is the present content alone
  only_flushed : (u : ℕ) (l : Line) (a : Node) → Since (goes_on m c (issues u)) u l a → a ≡ content c l
  only_flushed u l a h = by (at_time l h.time a h.until h.is)
    where
      by : AtTime l h.time a → a ≡ content c l
      by (inl z) = z
      by (inr z) = absurd (omega (arith, z.0, h.since, upd_same m.mark u (suc m.now)))

  -- if an event changes no line but the one it stores to
  module _ where
    abbrev Frame : Touch → Type 0
    Frame k = (l : Line) → k ≢ stores l → content c l ≡ content m.core l

    stored : {A : Type 0} (j l : Line) (a : Node) → Dec (l ≡ j) → ((l ≢ j) → A) → ((a ≡ content c l) ⊎ A) → A ⊎ ((l ≡ j) × (a ≡ content c j))
    stored j l a (yes e) same (inl z) = inr (e, z ∙ ap (content c) e)
    stored j l a (yes e) same (inr z) = inl z
    stored j l a (no ne) same z = inl (same ne)

    made_by : (k : Touch) → Frame k → Made k (content c) (hist_of m) (hist_of (goes_on m c k))
    made_by nowhere fr = λ l a h. has_same nowhere l a (fr l (λ e. let z : ◌≡◌ {A = ℕ} 0 1 = cc in omega arith)) h
    made_by (stores j) fr = λ l a h. stored j l a (line_eq l j) (λ ne. has_same (stores j) l a (fr l (λ e. ne (let z : j ≡ l = cc in sym z))) h) (has_old (stores j) l a h)
    made_by (flushes j) fr = (
      λ l a h. has_same (flushes j) l a (fr l (λ e. let z : ◌≡◌ {A = ℕ} 0 1 = cc in omega arith)) h,
      only_new j,
    )
    made_by (issues u) fr = λ l a h. has_same (issues u) l a (fr l (λ e. let z : ◌≡◌ {A = ℕ} 0 1 = cc in omega arith)) h
    made_by (fences u j) fr = (
      λ l a h. has_same (fences u j) l a (fr l (λ e. let z : ◌≡◌ {A = ℕ} 0 1 = cc in omega arith)) h,
      λ a h. only_since u j a (fr j (λ e. let z : ◌≡◌ {A = ℕ} 0 1 = cc in omega arith)) h,
    )

    later_by : (k : Touch) → Frame k → Later k (content c) (hist_of m) (hist_of (goes_on m c k))
    later_by nowhere fr = λ t l a h. since_same nowhere l a t (omega arith) (fr l (λ e. let z : ◌≡◌ {A = ℕ} 0 1 = cc in omega arith)) h
    later_by (stores j) fr = λ t l a h. stored j l a (line_eq l j)
        (λ ne. since_same (stores j) l a t (omega arith) (fr l (λ e. ne (let z : j ≡ l = cc in sym z))) h) (since_old (stores j) l a t (omega arith) h)
    later_by (flushes j) fr = λ t l a h. since_same (flushes j) l a t (omega arith) (fr l (λ e. let z : ◌≡◌ {A = ℕ} 0 1 = cc in omega arith)) h
    later_by (issues u) fr = (
      λ t ne l a h. since_same (issues u) l a t (omega (arith, upd_other m.mark u (suc m.now) ne))
          (fr l (λ e. let z : ◌≡◌ {A = ℕ} 0 1 = cc in omega arith)) h,
      only_flushed u,
    )
    later_by (fences u j) fr = λ t l a h. since_same (fences u j) l a t (omega arith) (fr l (λ e. let z : ◌≡◌ {A = ℕ} 0 1 = cc in omega arith)) h

    -- what an event makes of the contents
    pub on_grown : (k : Touch) → Frame k → Grown k (content c) (hist_of m) (hist_of (goes_on m c k))
    on_grown k fr = record { here = on_here k; made = made_by k fr; later = later_by k fr }

  -- what is persisted is the first content
  pub first_has : (l : Line) → Has m l (m.past l (m.from l))
  first_has l = record { time = m.from l; since = omega arith; until = i.early l; is = refl }

  -- and stays, where the line is not persisted
  pub first_stays : (k : Touch) (l : Line) → from' k l ≡ m.from l → (goes_on m c k).past l ((goes_on m c k).from l) ≡ m.past l (m.from l)
  first_stays k l e = ap (upd (m.past l) (suc m.now) (content c l)) e
      ∙ upd_other (m.past l) (suc m.now) (content c l) (λ z. omega (arith, i.early l))

  -- a line persisted at once has the present content there
  pub first_new : (j : Line) → (goes_on m c (flushes j)).past j ((goes_on m c (flushes j)).from j) ≡ content c j
  first_new j = upd_at (m.past j) (suc m.now) (content c j) (upd_l_at m.from j (suc m.now) refl)

  -- ---- a fence: it counts where nothing later is persisted there

  module _ (u : ℕ) (j : Line) where
    -- where it does not count, all stays
    pub fence_old : m.mark u ≤ m.from j → from' (fences u j) j ≡ m.from j
    fence_old h = omega (arith, upd_l_at m.from j (max (m.from j) (m.mark u)) refl)

    -- where it does, the contents are those since the flush, and the first is that at the flush
    pub fence_new : m.from j ≤ m.mark u → from' (fences u j) j ≡ m.mark u
    fence_new h = omega (arith, upd_l_at m.from j (max (m.from j) (m.mark u)) refl)

    pub fence_has : (a : Node) → m.from j ≤ m.mark u → Since m u j a → Has (goes_on m c (fences u j)) j a
    fence_has a h s = record {
      time = s.time;
      since = omega (arith, s.since, fence_new h);
      until = omega (arith, s.until);
      is = s.is ∙ sym (upd_other (m.past j) (suc m.now) (content c j) (λ z. omega (arith, s.until)));
    }

    pub fence_first : m.from j ≤ m.mark u → (goes_on m c (fences u j)).past j ((goes_on m c (fences u j)).from j) ≡ m.past j (m.mark u)
    fence_first h = ap (upd (m.past j) (suc m.now) (content c j)) (fence_new h)
        ∙ upd_other (m.past j) (suc m.now) (content c j) (λ z. omega (arith, i.marked u))

    -- another line is left alone
    pub fence_other : (l : Line) → l ≢ j → from' (fences u j) l ≡ m.from l
    fence_other l ne = upd_l_other m.from j (max (m.from j) (m.mark u)) ne
