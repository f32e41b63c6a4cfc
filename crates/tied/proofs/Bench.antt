-- A bench of the code and one of the abstract machine that show the same, the lists of contents included.
use mathlib.Core.Path.{◌≡◌, refl, sym, ap, ap₂, subst, ◌∙◌}
use mathlib.Core.Bool.{Bool, true, false}
use mathlib.Core.List.{List, [], ◌∷◌, ◌++◌, map, map-append}
use mathlib.Core.Logic.{◌≢◌, ◌⊎◌, inl, inr}
use Prim.Native.Nat.{◌+◌, ◌-◌, ℕ, suc, ◌≤◌, ◌<◌, max}
use native.Mathlib.Omega.{arith}
use native.Mathlib.Decide.{dec_lt, ℕ_discrete}
use borrow.Author.Tests.{eq-eqb, ne_eqb, leb-true, leb-false}
use lib.Dec.{eqb}
use Rattle.lists.specs.Find.{pick}
use Rattle.lists.specs.Word.{has}
use lib.ListN.{length, get_or, drop, length-drop, length-append, get_or-append}
use lib.Seq.{drop-append_seam, drop-append-le, get_or-append_seam, get_or-drop}
use Rattle.image.specs.declared.Content.{Content}
use Rattle.tied.specs.Memory as memory
use Rattle.image.specs.Form.{top_of}
use Rattle.machine.specs.Line.{shape_of, cached_at, persisted_at, over_at, put_line}
use Rattle.machine.specs.Record.{flushed}
use Rattle.machine.specs.Start.{blank_machine}
use Rattle.machine.specs.declared.Machine.{Machine}
use Rattle.machine.proofs.LineLaws as lines
use Rattle.machine.proofs.LineLaws.{LineIn}
use Rattle.schedule.specs.Run as run
use Rattle.schedule.specs.Run.{mark_after, from_after, goes_on}
use Rattle.page.specs.Contents.{joins, gathered, contents_of}
use Rattle.moments.specs.Frame.{Frame}
use Rattle.moments.specs.Marked.{Waits, since_of}
use Rattle.moments.proofs.Flushes.{held}
use Rattle.moments.proofs.Waiting.{Fencing}
use Rattle.moments.proofs.Known.{Known}
use Rattle.moments.proofs.Since.{contents_since}
use Rattle.model.specs.Basics.{upd}
use Rattle.model.specs.Lines as abstract
use Rattle.model.specs.Lines.{upd_l, Line, Touch, nowhere, stores, flushes, issues, fences}
use Rattle.model.specs.Conf.{line_ix}
use Rattle.model.specs.Core as core
use Rattle.model.specs.Core.{Core, content, hd}
use Rattle.model.specs.Machine as model
use Rattle.model.specs.Machine.{M, Has}
use Rattle.model.specs.Bench.{Bench}
use Rattle.model.proofs.Basics.{upd_other, upd_at}
use Rattle.model.proofs.Lines.{no_line, upd_l_other, upd_l_at}
use Rattle.model.proofs.Times.{Timed, on_here, on_old, first_stays, first_new, fence_old, fence_has, fence_first}
use Rattle.model.proofs.Always.Runs.{Kept}
use Rattle.tied.specs.Always.{Among}
use Rattle.tied.specs.Shown.{shown_content, line_shown}
use Rattle.tied.proofs.Relation.{Tied}
use Rattle.tied.proofs.Changes.{same_shape}
use Rattle.tied.proofs.Stepping.{keeps, Touches}
use Rattle.tied.proofs.Past.{PastT, among_moment, past_on}
use Rattle.tied.proofs.Contents.{gathered_snoc, Small, joins_old, gathered_has, gathered_old}

-- ---- a line of the record and of the core

pub shown_cached : (p : memory.Line → Content) (m : Machine) (c : Core) → Tied p m c → (l : memory.Line) → LineIn (shape_of m) l → content c (line_shown l) ≡ shown_content (cached_at m l)
shown_cached p m c d (memory.of_head k) h = ap (λ z. hd (line_ix z.engine c.hidx c.marks k)) d.conf ∙ ap hd (d.heads k h)
shown_cached p m c d (memory.of_node i) h = (d.nodes.at i h).content

-- the largest index is the form's
pub top_is : (p : memory.Line → Content) (m : Machine) (c : Core) → Tied p m c → c.conf.top ≡ top_of m.form
top_is p m c d = ap (λ z. z.top) d.conf

pub cached_flag : (p : memory.Line → Content) (m : Machine) (c : Core) → Tied p m c → (l : memory.Line) → LineIn (shape_of m) l → Small c.conf.top (cached_at m l)
cached_flag p m c d (memory.of_head k) h = (omega arith, omega (arith, d.narrow k h, top_is p m c d))
cached_flag p m c d (memory.of_node i) h = ((d.nodes.at i h).flag, omega (arith, (d.nodes.at i h).narrow, top_is p m c d))

pub kept_is : (p : memory.Line → Content) (m : Machine) (c : Core) → Tied p m c → (l : memory.Line) → LineIn (shape_of m) l → persisted_at m l ≡ p l
kept_is p m c d (memory.of_head k) h = sym (d.kept.head k h)
kept_is p m c d (memory.of_node i) h = sym (d.kept.at i h)

pub kept_flag : (p : memory.Line → Content) (m : Machine) (c : Core) → Tied p m c → (l : memory.Line) → LineIn (shape_of m) l → Small c.conf.top (persisted_at m l)
kept_flag p m c d (memory.of_head k) h = (omega arith, omega (arith, subst (λ z. z.index ≤ top_of m.form) (d.kept.head k h) (d.kept.narrow_head k h), top_is p m c d))
kept_flag p m c d (memory.of_node i) h = subst (Small c.conf.top) (d.kept.at i h) (d.kept.flag i h, omega (arith, d.kept.narrow i h, top_is p m c d))

-- any account of the persisted copies that is right may stand in
pub own_kept : (p : memory.Line → Content) (m : Machine) (c : Core) → Tied p m c → Tied (persisted_at m) m c
own_kept p m c d = record {
  conf = d.conf;
  last = d.last;
  sizes = d.sizes;
  hnode = d.hnode;
  heads = d.heads;
  narrow = d.narrow;
  eight = d.eight;
  flushes = d.flushes;
  tail = d.tail;
  nodes = d.nodes;
  free = d.free;
  threads = d.threads;
  kept = record {
    size = d.kept.size;
    heads = d.kept.heads;
    head = λ k h. refl;
    at = λ i h. refl;
    flag = λ i h. (kept_flag p m c d (memory.of_node i) h).0;
    narrow_head = λ k h. subst (λ z. z.index ≤ top_of m.form) (d.kept.head k h) (d.kept.narrow_head k h);
    narrow = λ i h. omega (arith, (kept_flag p m c d (memory.of_node i) h).1, top_is p m c d);
  };
}

line_one : (i j : memory.Line) → line_shown i ≡ line_shown j → i ≡ j
line_one (memory.of_head i) (memory.of_head j) e = let z : i ≡ j = cc in ap memory.of_head z
line_one (memory.of_head i) (memory.of_node j) e = no_line i j e
line_one (memory.of_node i) (memory.of_head j) e = no_line j i (sym e)
line_one (memory.of_node i) (memory.of_node j) e = let z : i ≡ j = cc in ap memory.of_node z

-- ---- the contents after one more moment

contents_more : (b : run.Bench) (m : Machine) (w : memory.Touch) (l : memory.Line) → from_after w (length b.past) b.mark b.from l ≡ b.from l
    → b.from l ≤ length b.past → persisted_at m l ≡ persisted_at b.machine l → contents_of (goes_on b m w) l ≡ joins (contents_of b l) (cached_at m l)
unfolding contents_of
contents_more b m w l e h k =
    ap (λ a. gathered (a ∷ []) (map (λ m. cached_at m l) (drop (from_after w (length b.past) b.mark b.from l) (b.past ++ m ∷ [])))) k
    ∙ ap (λ i. gathered (persisted_at b.machine l ∷ []) (map (λ m. cached_at m l) (drop i (b.past ++ m ∷ [])))) e
    ∙ ap (λ y. gathered (persisted_at b.machine l ∷ []) (map (λ m. cached_at m l) y)) (drop-append-le (b.from l) b.past (m ∷ []) h)
    ∙ ap (gathered (persisted_at b.machine l ∷ [])) (map-append (λ m. cached_at m l) (drop (b.from l) b.past) (m ∷ []))
    ∙ gathered_snoc (persisted_at b.machine l ∷ []) (map (λ m. cached_at m l) (drop (b.from l) b.past)) (cached_at m l)

contents_new : (b : run.Bench) (m : Machine) (l : memory.Line) → contents_of (goes_on b m (memory.a_persist l)) l ≡ joins (persisted_at m l ∷ []) (cached_at m l)
unfolding contents_of gathered
contents_new b m l =
    ap (λ i. gathered (persisted_at m l ∷ []) (map (λ m. cached_at m l) (drop i (b.past ++ m ∷ [])))) (lines.put_same b.from l (length b.past))
    ∙ ap (λ y. gathered (persisted_at m l ∷ []) (map (λ m. cached_at m l) y)) (drop-append_seam b.past (m ∷ []))

-- ---- the benches

-- moment i is time i + 1; contents that count from the start count there from time 0
abbrev pub FromT : ℕ → ℕ → Type 0
FromT k i = (k ≡ suc i) ⊎ ((k ≡ 0) × (i ≡ 0))

abbrev pub MarkT : ℕ → ℕ → Type 0
MarkT k i = ((k ≡ suc i) × (0 < i)) ⊎ ((k ≡ 0) × (i ≡ 0))

-- each content of a line is one of the abstract machine's, what is persisted is the same; and the moments from which they count
pub record ListsT (b : run.Bench) (B : M) : Type 0 where
  pub lists : (l : memory.Line) → LineIn (shape_of b.machine) l → (a : Content) → Among a (contents_of b l) → Small B.core.conf.top a × Has B (line_shown l) (shown_content a)
  pub kept : (l : memory.Line) → LineIn (shape_of b.machine) l → B.past (line_shown l) (B.from (line_shown l)) ≡ shown_content (persisted_at b.machine l)
  pub now : B.now ≡ length b.past
  pub times : (l : memory.Line) → LineIn (shape_of b.machine) l → (i : ℕ) → i < length b.past
      → B.past (line_shown l) (suc i) ≡ shown_content (cached_at (get_or b.past i blank_machine) l)
  pub from : (l : memory.Line) → LineIn (shape_of b.machine) l → FromT (B.from (line_shown l)) (b.from l)
  pub early : (l : memory.Line) → b.from l ≤ length b.past
  -- and of the threads' last flushes: none, or behind the start
  pub marks : (u : ℕ) → MarkT (B.mark u) (b.mark u)

pub record BenchT (b : run.Bench) (B : Bench) : Type 0 where
  pub kept : Kept B
  pub tied : Tied (persisted_at b.machine) b.machine B.mach.core
  pub lists : ListsT b B.mach
  pub past : PastT b
  pub known : Known b

-- ---- the contents since a flush

mark_past : (b : run.Bench) → Known b → (u : ℕ) → b.mark u < length b.past
mark_past b kn u = omega (arith, kn.timed.marks u, ap length kn.timed.now, length-append kn.timed.before (b.machine ∷ []))

-- when it was
record When (b : run.Bench) (i : ℕ) (l : memory.Line) (a : Content) : Type 0 where
  pub moment : ℕ
  pub since : i ≤ moment
  pub until : moment < length b.past
  pub is : a ≡ cached_at (get_or b.past moment blank_machine) l

among_when : (past : List Machine) (l : memory.Line) (a : Content) → Among a (map (λ m. cached_at m l) past) → (i : ℕ) × (i < length past) × (a ≡ cached_at (get_or past i blank_machine) l)
among_when [] l a z = absurd z
among_when (m ∷ past) l a (inl e) = (0, omega arith, e)
among_when (m ∷ past) l a (inr z) = let r = among_when past l a z in (suc r.0, omega (arith, r.1), r.2)

since_when : (b : run.Bench) (u : ℕ) (l : memory.Line) (a : Content) → Among a (since_of b u l) → When b (b.mark u) l a
unfolding since_of
since_when b u l a z = by (gathered_old (map (λ m. cached_at m l) (drop (b.mark u) b.past)) [] a z)
  where
    by : Among a [] ⊎ Among a (map (λ m. cached_at m l) (drop (b.mark u) b.past)) → When b (b.mark u) l a
    by (inl q) = absurd q
    by (inr q) = let r = among_when (drop (b.mark u) b.past) l a q in record {
      moment = b.mark u + r.0;
      since = omega arith;
      until = omega (arith, r.1, length-drop (b.mark u) b.past);
      is = r.2 ∙ ap (λ m. cached_at m l) (get_or-drop (b.mark u) b.past r.0 blank_machine);
    }

-- and it counts, where the flush is later than what is persisted
since_counts : (b : run.Bench) (u : ℕ) (l : memory.Line) → b.from l < b.mark u → (a : Content) → When b (b.mark u) l a → Among a (contents_of b l)
unfolding contents_of
since_counts b u l lt a w =
    let i = w.moment - b.from l in
    let e : b.from l + i ≡ w.moment = omega (arith, w.since, lt) in
    gathered_has (map (λ m. cached_at m l) (drop (b.from l) b.past)) (persisted_at b.machine l ∷ []) a
    (subst (λ x. Among x (map (λ m. cached_at m l) (drop (b.from l) b.past)))
    (ap (λ m. cached_at m l) (get_or-drop (b.from l) b.past i blank_machine ∙ ap (λ j. get_or b.past j blank_machine) e) ∙ sym w.is)
    (among_moment l (drop (b.from l) b.past) i (omega (arith, w.until, w.since, lt, length-drop (b.from l) b.past))))

module _ (b : run.Bench) (B : M) (c' : Core) (m' : Machine) (w : memory.Touch) (k : Touch) (r : ListsT b B) (i : Timed B)
    (d : Tied (persisted_at b.machine) b.machine B.core) (d' : Tied (keeps w b.machine (persisted_at b.machine)) m' c')
    (shape : c'.conf ≡ B.core.conf) (frame : (l : Line) → k ≢ stores l → content c' l ≡ content B.core l) (t : Touches w k)
    (kn : Known b) (fenced : Fencing b.machine w) (fr : Frame b.machine m' w) where
  same_z : shape_of m' ≡ shape_of b.machine
  same_z = same_shape _ _ b.machine m' B.core c' d d' shape

  -- what is to be shown of a line
  abbrev Line-at : memory.Line → Type 0
  Line-at l = ((a : Content) → Among a (contents_of (goes_on b m' w) l) → Small c'.conf.top a × Has (model.goes_on B c' k) (line_shown l) (shown_content a))
      × ((model.goes_on B c' k).past (line_shown l) ((model.goes_on B c' k).from (line_shown l)) ≡ shown_content (persisted_at m' l))

  in_new : (l : memory.Line) → LineIn (shape_of b.machine) l → LineIn (shape_of m') l
  in_new l h = subst (λ z. LineIn z l) (sym same_z) h

  present : (l : memory.Line) → LineIn (shape_of b.machine) l → Has (model.goes_on B c' k) (line_shown l) (shown_content (cached_at m' l))
  present l h = subst (Has (model.goes_on B c' k) (line_shown l)) (shown_cached _ m' c' d' l (in_new l h)) (on_here B c' i k (line_shown l))

  -- a line that is not persisted
  grows : (l : memory.Line) → LineIn (shape_of b.machine) l → from_after w (length b.past) b.mark b.from l ≡ b.from l
      → keeps w b.machine (persisted_at b.machine) l ≡ persisted_at b.machine l → abstract.from_after k (suc B.now) B.mark B.from (line_shown l) ≡ B.from (line_shown l)
      → Line-at l
  grows l h fr kp fm = (
    λ a z. by a (joins_old (contents_of b l) (cached_at m' l) a (subst (Among a) (contents_more b m' w l fr (r.early l) same) z)),
    first_stays B c' i k (line_shown l) fm ∙ r.kept l h ∙ ap shown_content (sym same),
  )
    where
      same : persisted_at m' l ≡ persisted_at b.machine l
      same = kept_is _ m' c' d' l (in_new l h) ∙ kp

      by : (a : Content) → Among a (contents_of b l) ⊎ (a ≡ cached_at m' l) → Small c'.conf.top a × Has (model.goes_on B c' k) (line_shown l) (shown_content a)
      by a (inl z) = let o = r.lists l h a z in (subst (λ z. Small z.top a) (sym shape) o.0, on_old B c' i k (line_shown l) (shown_content a) fm o.1)
      by a (inr e) = subst (λ a. Small c'.conf.top a × Has (model.goes_on B c' k) (line_shown l) (shown_content a)) (sym e) (cached_flag _ m' c' d' l (in_new l h), present l h)

  -- the line that is persisted
  persists : (j : memory.Line) → LineIn (shape_of b.machine) j → w ≡ memory.a_persist j → k ≡ flushes (line_shown j) → Line-at j
  persists j h ew ek = (
    λ a z. by a (joins_old (persisted_at m' j ∷ []) (cached_at m' j) a (subst (Among a) new z)),
    subst (λ k. (model.goes_on B c' k).past (line_shown j) ((model.goes_on B c' k).from (line_shown j)) ≡ shown_content (persisted_at m' j)) (sym ek)
        (first_new B c' i (line_shown j) ∙ sym both_same),
  )
    where
      new : contents_of (goes_on b m' w) j ≡ joins (persisted_at m' j ∷ []) (cached_at m' j)
      new = ap (λ w. contents_of (goes_on b m' w) j) ew ∙ contents_new b m' j

      -- what is persisted is what is cached
      both_same : shown_content (persisted_at m' j) ≡ content c' (line_shown j)
      both_same =
          ap shown_content (kept_is _ m' c' d' j (in_new j h) ∙ ap (λ w. keeps w b.machine (persisted_at b.machine) j) ew ∙ lines.put_same (persisted_at b.machine) j (cached_at b.machine j))
          ∙ sym (shown_cached _ b.machine B.core d j h) ∙ sym (frame (line_shown j) (λ e. let z = sym ek ∙ e in let y : ◌≡◌ {A = ℕ} 0 1 = cc in omega arith))

      kept_one : Small c'.conf.top (persisted_at m' j) × Has (model.goes_on B c' k) (line_shown j) (shown_content (persisted_at m' j))
      kept_one = (kept_flag _ m' c' d' j (in_new j h), subst (Has (model.goes_on B c' k) (line_shown j)) (sym both_same) (on_here B c' i k (line_shown j)))

      by : (a : Content) → Among a (persisted_at m' j ∷ []) ⊎ (a ≡ cached_at m' j) → Small c'.conf.top a × Has (model.goes_on B c' k) (line_shown j) (shown_content a)
      by a (inl (inl e)) = subst (λ a. Small c'.conf.top a × Has (model.goes_on B c' k) (line_shown j) (shown_content a)) (sym e) kept_one
      by a (inl (inr z)) = absurd z
      by a (inr e) = subst (λ a. Small c'.conf.top a × Has (model.goes_on B c' k) (line_shown j) (shown_content a)) (sym e) (cached_flag _ m' c' d' j (in_new j h), present j h)

  -- the line that is fenced
  module _ (u : ℕ) (j : memory.Line) (h : LineIn (shape_of b.machine) j) (ew : w ≡ memory.a_fence u j) (ek : k ≡ fences u (line_shown j)) (hu : u < b.machine.t) (x : Waits b.machine u j) where
    -- which of the two moments is the later one, there as here
    no_later : b.mark u ≤ b.from j → B.mark u ≤ B.from (line_shown j)
    no_later le = by (r.marks u) (r.from j h)
      where
        by : MarkT (B.mark u) (b.mark u) → FromT (B.from (line_shown j)) (b.from j) → B.mark u ≤ B.from (line_shown j)
        by (inl (e, p)) (inl f) = omega (arith, e, f, le)
        by (inl (e, p)) (inr (f, q)) = absurd (omega (arith, p, q, le))
        by (inr (e, p)) f = omega (arith, e)

    later : b.from j < b.mark u → (B.from (line_shown j) ≤ B.mark u) × (B.mark u ≡ suc (b.mark u))
    later lt = by (r.marks u) (r.from j h)
      where
        by : MarkT (B.mark u) (b.mark u) → FromT (B.from (line_shown j)) (b.from j) → (B.from (line_shown j) ≤ B.mark u) × (B.mark u ≡ suc (b.mark u))
        by (inl (e, p)) (inl f) = (omega (arith, e, f, lt), e)
        by (inl (e, p)) (inr (f, q)) = (omega (arith, e, f), e)
        by (inr (e, p)) f = absurd (omega (arith, p, lt))

    fence_at : Line-at j
    fence_at = by (has (over_at b.machine j) u) refl
      where
        f' : Frame b.machine m' (memory.a_fence u j)
        f' = subst (Frame b.machine m') ew fr

        kept_as : (q : Bool) → has (over_at b.machine j) u ≡ q → persisted_at m' j ≡ pick q (persisted_at b.machine) (put_line (persisted_at b.machine) j (held j (flushed b.machine u))) j
        kept_as q e = kept_is _ m' c' d' j (in_new j h) ∙ ap (λ w. keeps w b.machine (persisted_at b.machine) j) ew
            ∙ ap (λ q. pick q (persisted_at b.machine) (put_line (persisted_at b.machine) j (held j (flushed b.machine u))) j) e

        by : (q : Bool) → has (over_at b.machine j) u ≡ q → Line-at j
        by true e =
            let le : b.mark u ≤ b.from j = leb-true (b.mark u) (b.from j) (sym (kn.marked.over u j hu h x) ∙ e) in
            grows j h (ap (λ w. from_after w (length b.past) b.mark b.from j) ew ∙ lines.put_same b.from j (max (b.from j) (b.mark u)) ∙ omega (arith, le))
            (ap (λ w. keeps w b.machine (persisted_at b.machine) j) ew ∙ ap (λ q. pick q (persisted_at b.machine) (put_line (persisted_at b.machine) j (held j (flushed b.machine u))) j) e)
            (ap (λ k. abstract.from_after k (suc B.now) B.mark B.from (line_shown j)) ek ∙ fence_old B c' i u (line_shown j) (no_later le))
        by false e = (λ a z. one a z, two)
          where
            lt : b.from j < b.mark u
            lt = leb-false (b.mark u) (b.from j) (sym (kn.marked.over u j hu h x) ∙ e)

            two : (model.goes_on B c' k).past (line_shown j) ((model.goes_on B c' k).from (line_shown j)) ≡ shown_content (persisted_at m' j)
            two = subst (λ k. (model.goes_on B c' k).past (line_shown j) ((model.goes_on B c' k).from (line_shown j)) ≡ shown_content (persisted_at m' j)) (sym ek)
                (fence_first B c' i u (line_shown j) (later lt).0 ∙ ap (B.past (line_shown j)) (later lt).1 ∙ r.times j h (b.mark u) (mark_past b kn u)
                ∙ ap shown_content (sym (kept_as false e ∙ lines.put_same (persisted_at b.machine) j (held j (flushed b.machine u)) ∙ kn.marked.flushed u j hu h x)))

            one : (a : Content) → Among a (contents_of (goes_on b m' w) j) → Small c'.conf.top a × Has (model.goes_on B c' k) (line_shown j) (shown_content a)
            one a z = pick_one (joins_old (since_of b u j) (cached_at m' j) a (subst (Among a) (ap (λ w. contents_of (goes_on b m' w) j) ew ∙ contents_since b kn m' u j hu h x f' e) z))
              where
                pick_one : Among a (since_of b u j) ⊎ (a ≡ cached_at m' j) → Small c'.conf.top a × Has (model.goes_on B c' k) (line_shown j) (shown_content a)
                pick_one (inr q) = subst (λ a. Small c'.conf.top a × Has (model.goes_on B c' k) (line_shown j) (shown_content a)) (sym q) (cached_flag _ m' c' d' j (in_new j h), present j h)
                pick_one (inl q) =
                    let s = since_when b u j a q in (
                      subst (λ z. Small z.top a) (sym shape) (r.lists j h a (since_counts b u j lt a s)).0,
                      subst (λ k. Has (model.goes_on B c' k) (line_shown j) (shown_content a)) (sym ek)
                          (fence_has B c' i u (line_shown j) (shown_content a) (later lt).0 (record {
                            time = suc s.moment;
                            since = omega (arith, (later lt).1, s.since);
                            until = omega (arith, s.until, r.now);
                            is = ap shown_content s.is ∙ sym (r.times j h s.moment s.until);
                          })),
                    )

  line_by : (w₀ : memory.Touch) (k₀ : Touch) → w ≡ w₀ → k ≡ k₀ → Touches w₀ k₀ → (l : memory.Line) → LineIn (shape_of b.machine) l → Line-at l
  line_by memory.nothing nowhere ew ek t l h = grows l h (ap (λ w. from_after w (length b.past) b.mark b.from l) ew)
      (ap (λ w. keeps w b.machine (persisted_at b.machine) l) ew) (ap (λ k. abstract.from_after k (suc B.now) B.mark B.from (line_shown l)) ek)
  line_by memory.nothing (stores L) ew ek t l h = absurd t
  line_by memory.nothing (flushes L) ew ek t l h = absurd t
  line_by memory.nothing (issues u) ew ek t l h = absurd t
  line_by memory.nothing (fences u L) ew ek t l h = absurd t
  line_by (memory.a_store j) nowhere ew ek t l h = absurd t
  line_by (memory.a_store j) (stores L) ew ek t l h = grows l h (ap (λ w. from_after w (length b.past) b.mark b.from l) ew)
      (ap (λ w. keeps w b.machine (persisted_at b.machine) l) ew) (ap (λ k. abstract.from_after k (suc B.now) B.mark B.from (line_shown l)) ek)
  line_by (memory.a_store j) (flushes L) ew ek t l h = absurd t
  line_by (memory.a_store j) (issues u) ew ek t l h = absurd t
  line_by (memory.a_store j) (fences u L) ew ek t l h = absurd t
  line_by (memory.a_persist j) nowhere ew ek t l h = absurd t
  line_by (memory.a_persist j) (stores L) ew ek t l h = absurd t
  line_by (memory.a_persist j) (issues u) ew ek t l h = absurd t
  line_by (memory.a_persist j) (fences u L) ew ek t l h = absurd t
  line_by (memory.a_persist j) (flushes L) ew ek t l h = by (lines.line_eq l j)
    where
      by : Dec (l ≡ j) → Line-at l
      by (yes e) = subst Line-at (sym e) (persists j (subst (LineIn (shape_of b.machine)) e h) ew (ek ∙ ap flushes t))
      by (no ne) = grows l h (ap (λ w. from_after w (length b.past) b.mark b.from l) ew ∙ lines.put_other b.from j (length b.past) l ne)
          (ap (λ w. keeps w b.machine (persisted_at b.machine) l) ew ∙ lines.put_other (persisted_at b.machine) j (cached_at b.machine j) l ne)
          (ap (λ k. abstract.from_after k (suc B.now) B.mark B.from (line_shown l)) ek ∙ upd_l_other B.from L (suc B.now) (λ e. ne (line_one l j (e ∙ t))))
  line_by (memory.a_flush u j) nowhere ew ek t l h = absurd t
  line_by (memory.a_flush u j) (stores L) ew ek t l h = absurd t
  line_by (memory.a_flush u j) (flushes L) ew ek t l h = absurd t
  line_by (memory.a_flush u j) (fences v L) ew ek t l h = absurd t
  line_by (memory.a_flush u j) (issues v) ew ek t l h = grows l h (ap (λ w. from_after w (length b.past) b.mark b.from l) ew)
      (ap (λ w. keeps w b.machine (persisted_at b.machine) l) ew) (ap (λ k. abstract.from_after k (suc B.now) B.mark B.from (line_shown l)) ek)
  line_by (memory.a_fence u j) nowhere ew ek t l h = absurd t
  line_by (memory.a_fence u j) (stores L) ew ek t l h = absurd t
  line_by (memory.a_fence u j) (flushes L) ew ek t l h = absurd t
  line_by (memory.a_fence u j) (issues v) ew ek t l h = absurd t
  line_by (memory.a_fence u j) (fences v L) ew ek t l h = by (lines.line_eq l j)
    where
      over_other : (q : Bool) → (l ≡ j → ⊥) → pick q (persisted_at b.machine) (put_line (persisted_at b.machine) j (held j (flushed b.machine u))) l ≡ persisted_at b.machine l
      over_other true ne = refl
      over_other false ne = lines.put_other (persisted_at b.machine) j (held j (flushed b.machine u)) l ne

      by : Dec (l ≡ j) → Line-at l
      by (yes e) =
          let g = subst (Fencing b.machine) ew fenced u l (refl, e) in
          fence_at u l h (ew ∙ ap (memory.a_fence u) (sym e)) (ek ∙ ap₂ fences t.0 (t.1 ∙ ap line_shown (sym e))) g.0 g.1
      by (no ne) = grows l h (ap (λ w. from_after w (length b.past) b.mark b.from l) ew ∙ lines.put_other b.from j (max (b.from j) (b.mark u)) l ne)
          (ap (λ w. keeps w b.machine (persisted_at b.machine) l) ew ∙ over_other (has (over_at b.machine j) u) ne)
          (ap (λ k. abstract.from_after k (suc B.now) B.mark B.from (line_shown l)) ek ∙ upd_l_other B.from L (max (B.from L) (B.mark v)) (λ e. ne (line_one l j (e ∙ t.1))))

  early_by : (w₀ : memory.Touch) (l : memory.Line) → from_after w₀ (length b.past) b.mark b.from l ≤ length b.past
  early_by memory.nothing l = r.early l
  early_by (memory.a_store j) l = r.early l
  early_by (memory.a_persist j) l = lines.put_ind b.from j (length b.past) (λ k y. y ≤ length b.past) l (omega arith) (λ ne. r.early l)
  early_by (memory.a_flush u j) l = r.early l
  early_by (memory.a_fence u j) l = lines.put_ind b.from j (max (b.from j) (b.mark u)) (λ k y. y ≤ length b.past) l (omega (arith, r.early j, mark_past b kn u)) (λ ne. r.early l)

  -- the two ways of counting
  now_on : (model.goes_on B c' k).now ≡ length (b.past ++ (m' ∷ []))
  now_on = ap suc r.now ∙ one ∙ sym (length-append b.past (m' ∷ []))
    where
      one : suc (length b.past) ≡ length b.past + 1
      one = omega arith

  times_on : (l : memory.Line) → LineIn (shape_of b.machine) l → (i : ℕ) → i < length (b.past ++ (m' ∷ []))
      → (model.goes_on B c' k).past (line_shown l) (suc i) ≡ shown_content (cached_at (get_or (b.past ++ (m' ∷ [])) i blank_machine) l)
  times_on l h i z = by (dec_lt i (length b.past))
    where
      by : Dec (i < length b.past) → (model.goes_on B c' k).past (line_shown l) (suc i) ≡ shown_content (cached_at (get_or (b.past ++ (m' ∷ [])) i blank_machine) l)
      by (yes y) = upd_other (B.past (line_shown l)) (suc B.now) (content c' (line_shown l)) (λ e. omega (arith, r.now)) ∙ r.times l h i y
          ∙ ap (λ a. shown_content (cached_at a l)) (sym (get_or-append b.past (m' ∷ []) blank_machine i y))
      by (no y) =
          let e : i ≡ length b.past = omega (arith, length-append b.past (m' ∷ [])) in
          upd_at (B.past (line_shown l)) (suc B.now) (content c' (line_shown l)) (omega (arith, r.now))
          ∙ shown_cached _ m' c' d' l (in_new l h)
          ∙ ap (λ a. shown_content (cached_at a l)) (sym (ap (λ j. get_or (b.past ++ (m' ∷ [])) j blank_machine) e ∙ get_or-append_seam b.past m' [] blank_machine))

  from_on : (w₀ : memory.Touch) (k₀ : Touch) → Touches w₀ k₀ → (l : memory.Line) → LineIn (shape_of b.machine) l
      → FromT (abstract.from_after k₀ (suc B.now) B.mark B.from (line_shown l)) (from_after w₀ (length b.past) b.mark b.from l)
  from_on memory.nothing nowhere t l h = r.from l h
  from_on memory.nothing (stores L) t l h = absurd t
  from_on memory.nothing (flushes L) t l h = absurd t
  from_on memory.nothing (issues u) t l h = absurd t
  from_on memory.nothing (fences u L) t l h = absurd t
  from_on (memory.a_store j) nowhere t l h = absurd t
  from_on (memory.a_store j) (stores L) t l h = r.from l h
  from_on (memory.a_store j) (flushes L) t l h = absurd t
  from_on (memory.a_store j) (issues u) t l h = absurd t
  from_on (memory.a_store j) (fences u L) t l h = absurd t
  from_on (memory.a_persist j) nowhere t l h = absurd t
  from_on (memory.a_persist j) (stores L) t l h = absurd t
  from_on (memory.a_persist j) (issues u) t l h = absurd t
  from_on (memory.a_persist j) (fences u L) t l h = absurd t
  from_on (memory.a_persist j) (flushes L) t l h = by (lines.line_eq l j)
    where
      by : Dec (l ≡ j) → FromT (upd_l B.from L (suc B.now) (line_shown l)) (memory.put_line b.from j (length b.past) l)
      by (yes e) = inl (upd_l_at B.from L (suc B.now) (ap line_shown e ∙ sym t) ∙ ap suc r.now
          ∙ ap suc (sym (lines.put_at b.from j (length b.past) l e)))
      by (no ne) = subst (λ y. FromT y (memory.put_line b.from j (length b.past) l)) (sym (upd_l_other B.from L (suc B.now) (λ e. ne (line_one l j (e ∙ t)))))
          (subst (FromT (B.from (line_shown l))) (sym (lines.put_other b.from j (length b.past) l ne)) (r.from l h))
  from_on (memory.a_flush u j) nowhere t l h = absurd t
  from_on (memory.a_flush u j) (stores L) t l h = absurd t
  from_on (memory.a_flush u j) (flushes L) t l h = absurd t
  from_on (memory.a_flush u j) (fences v L) t l h = absurd t
  from_on (memory.a_flush u j) (issues v) t l h = r.from l h
  from_on (memory.a_fence u j) nowhere t l h = absurd t
  from_on (memory.a_fence u j) (stores L) t l h = absurd t
  from_on (memory.a_fence u j) (flushes L) t l h = absurd t
  from_on (memory.a_fence u j) (issues v) t l h = absurd t
  from_on (memory.a_fence u j) (fences v L) t l h = by (lines.line_eq l j)
    where
      -- the larger of two moments, here and there
      larger : (k f i g : ℕ) → MarkT k i → FromT f g → FromT (max f k) (max g i)
      larger k f i g (inl (e, p)) (inl q) = inl (omega (arith, e, q))
      larger k f i g (inl (e, p)) (inr (q, z)) = inl (omega (arith, e, q, z, p))
      larger k f i g (inr (e, p)) (inl q) = inl (omega (arith, e, p, q))
      larger k f i g (inr (e, p)) (inr (q, z)) = inr (omega (arith, e, q), omega (arith, p, z))

      by : Dec (l ≡ j) → FromT (upd_l B.from L (max (B.from L) (B.mark v)) (line_shown l)) (memory.put_line b.from j (max (b.from j) (b.mark u)) l)
      by (yes e) = subst (λ y. FromT y (memory.put_line b.from j (max (b.from j) (b.mark u)) l)) (sym (upd_l_at B.from L (max (B.from L) (B.mark v)) (ap line_shown e ∙ sym t.1)
          ∙ ap₂ (λ L v. max (B.from L) (B.mark v)) (t.1 ∙ ap line_shown (sym e)) t.0))
          (subst (FromT (max (B.from (line_shown l)) (B.mark u))) (sym (lines.put_at b.from j (max (b.from j) (b.mark u)) l e ∙ ap (λ j. max (b.from j) (b.mark u)) (sym e)))
          (larger (B.mark u) (B.from (line_shown l)) (b.mark u) (b.from l) (r.marks u) (r.from l h)))
      by (no ne) = subst (λ y. FromT y (memory.put_line b.from j (max (b.from j) (b.mark u)) l)) (sym (upd_l_other B.from L (max (B.from L) (B.mark v)) (λ e. ne (line_one l j (e ∙ t.1)))))
          (subst (FromT (B.from (line_shown l))) (sym (lines.put_other b.from j (max (b.from j) (b.mark u)) l ne)) (r.from l h))

  marks_on : (w₀ : memory.Touch) (k₀ : Touch) → Touches w₀ k₀ → (v : ℕ) → MarkT (abstract.mark_after k₀ (suc B.now) B.mark v) (mark_after w₀ (length b.past) b.mark v)
  marks_on memory.nothing nowhere t v = r.marks v
  marks_on memory.nothing (stores L) t v = absurd t
  marks_on memory.nothing (flushes L) t v = absurd t
  marks_on memory.nothing (issues q) t v = absurd t
  marks_on memory.nothing (fences q L) t v = absurd t
  marks_on (memory.a_store j) nowhere t v = absurd t
  marks_on (memory.a_store j) (stores L) t v = r.marks v
  marks_on (memory.a_store j) (flushes L) t v = absurd t
  marks_on (memory.a_store j) (issues q) t v = absurd t
  marks_on (memory.a_store j) (fences q L) t v = absurd t
  marks_on (memory.a_persist j) nowhere t v = absurd t
  marks_on (memory.a_persist j) (stores L) t v = absurd t
  marks_on (memory.a_persist j) (flushes L) t v = r.marks v
  marks_on (memory.a_persist j) (issues q) t v = absurd t
  marks_on (memory.a_persist j) (fences q L) t v = absurd t
  marks_on (memory.a_flush u j) nowhere t v = absurd t
  marks_on (memory.a_flush u j) (stores L) t v = absurd t
  marks_on (memory.a_flush u j) (flushes L) t v = absurd t
  marks_on (memory.a_flush u j) (issues q) t v = by (ℕ_discrete v u)
    where
      by : Dec (v ≡ u) → MarkT (upd B.mark q (suc B.now) v) (pick (eqb v u) (length b.past) (b.mark v))
      by (yes e) = inl (
        upd_at B.mark q (suc B.now) (e ∙ sym t) ∙ ap suc r.now ∙ ap (λ x. suc (pick x (length b.past) (b.mark v))) (sym (eq-eqb v u e)),
        subst (λ x. 0 < pick x (length b.past) (b.mark v)) (sym (eq-eqb v u e)) (omega (arith, mark_past b kn u)),
      )
      by (no ne) = subst (λ y. MarkT y (pick (eqb v u) (length b.past) (b.mark v))) (sym (upd_other B.mark q (suc B.now) (λ e. ne (e ∙ t))))
          (subst (λ x. MarkT (B.mark v) (pick x (length b.past) (b.mark v))) (sym (ne_eqb v u ne)) (r.marks v))
  marks_on (memory.a_flush u j) (fences q L) t v = absurd t
  marks_on (memory.a_fence u j) nowhere t v = absurd t
  marks_on (memory.a_fence u j) (stores L) t v = absurd t
  marks_on (memory.a_fence u j) (flushes L) t v = absurd t
  marks_on (memory.a_fence u j) (issues q) t v = absurd t
  marks_on (memory.a_fence u j) (fences q L) t v = r.marks v

  -- the lists after one more moment
  pub goes_on_t : ListsT (goes_on b m' w) (model.goes_on B c' k)
  goes_on_t = record {
    lists = λ l h. (line_by w k refl refl t l (subst (λ z. LineIn z l) same_z h)).0;
    kept = λ l h. (line_by w k refl refl t l (subst (λ z. LineIn z l) same_z h)).1;
    now = now_on;
    times = λ l h. times_on l (subst (λ z. LineIn z l) same_z h);
    from = λ l h. from_on w k t l (subst (λ z. LineIn z l) same_z h);
    early = λ l. let e = early_by w l in omega (arith, length-append b.past (m' ∷ []));
    marks = marks_on w k t;
  }

  -- and what has been
  pub next_past : PastT b → PastT (goes_on b m' w)
  next_past q = past_on b m' w kn fenced q same_z (λ l h. kept_is _ m' c' d' l h)
