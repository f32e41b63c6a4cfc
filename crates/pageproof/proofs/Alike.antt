-- Machines that differ in nothing but the persisted copies and who is over them: no step looks at a copy, so each goes on alike. A write-back does, for 19; a fence
-- looks at who is over its line, and changes nothing else.
use Prim.Native.Nat.{ℕ, zero, suc}
use mathlib.Core.Path.{◌≡◌, refl, sym, ap, ap₂, subst, ◌∙◌}
use mathlib.Core.Bool.{Bool, true, false}
use mathlib.Core.List.{List}
use lib.ListN.{get_or, set}
use lib.Dec.{eqb, leb}
use Rattle.lists.specs.Find.{pick, both}
use Rattle.lists.specs.Word.{has, without}
use Rattle.answer.specs.Answers.{Answer, check, Taken, Done, Empty, Number, NotZero, Clean}
use Rattle.image.specs.declared.Content.{Content}
use Rattle.image.specs.Layout.{same_content}
use Rattle.image.specs.Form.{top_of, per_desk}
use Rattle.machine.specs.Record.{none, node, head_at, thread, put_tail, put_thread, idle_thread, flushed, late}
use Rattle.machine.specs.Stage.{Stage, no_step, A1, A2, A3, A4, A5, A6, A7, A8, A9, A10, A11, A12, D1, D2, D3, D4, D5, D6, D7, S3, S6, F10, F3, F6, stage}
use Rattle.machine.specs.Line.{shape_of, line_at, own_head, keeping, everyone, persist, cached_at, persisted_at, over_at}
use Rattle.machine.specs.Flush.{late_after, flush, over_after, fence}
use Rattle.machine.specs.declared.Line.{Line}
use Rattle.machine.specs.declared.Line.TheVariants.{OfHead as of_head, OfNode as of_node}
use Rattle.machine.specs.Retire.{going, answering, left, freed, released_at, released, retired, retired_held, next_free, others}
use Rattle.machine.specs.Event.{Deed, unknown, enqueues, dequeues, steps, writes_back, crashes, line_too_large, item_not_zero, clean, event_answer, stepped, done}
use Rattle.machine.specs.declared.Machine.{Machine}
use Rattle.machine.specs.declared.Event.{Event}
use Rattle.machine.specs.declared.Acted.{Acted}
use Rattle.machine.specs.declared.Touch.{Touch}

-- the persisted copies, and the threads over each
pub record Copies : Type 0 where
  pub heads : List ℕ
  pub nodes : List Content
  pub over_heads : List ℕ
  pub over : List ℕ

-- m with other copies
abbrev pub holding : Machine → Copies → Machine
holding m c = record { form = m.form; n = m.n; t = m.t; head = m.head; heads = m.heads; tail = m.tail; free = m.free; nodes = m.nodes; kept_heads = c.heads; kept = c.nodes; threads = m.threads; last = m.last; flushed = m.flushed; late = m.late; over_heads = c.over_heads; over = c.over }

pub record Alike (m m' : Machine) : Type 0 where
  pub copies : Copies
  pub is : m' ≡ holding m copies

pub alike_self : (m : Machine) → Alike m m
alike_self m = record { copies = record { heads = m.kept_heads; nodes = m.kept; over_heads = m.over_heads; over = m.over }; is = refl }

-- two results with one answer and one touch, and machines alike
pub record AlikeOut (o o' : Acted) : Type 0 where
  pub answer : o'.answer ≡ o.answer
  pub machine : Alike o.machine o'.machine
  pub touch : o'.touch ≡ o.touch

-- ---- the parts of a step

keep_released_at : (m : Machine) (c : Copies) (k i : ℕ) → released_at (holding m c) k i ≡ holding (released_at m k i) c
unfolding released_at
keep_released_at m c k i = refl

keep_released : (m : Machine) (c : Copies) (k i : ℕ) → released (holding m c) k i ≡ holding (released m k i) c
unfolding released
keep_released m c k zero = refl
keep_released m c k (suc i) = ap (λ (x : Machine). released_at x k i) (keep_released m c k i) ∙ keep_released_at (released m k i) c k i

keep_left : (m : Machine) (c : Copies) (k x : ℕ) → left (holding m c) k x ≡ holding (left m k x) c
keep_left m c k x = ap (λ (z : Machine). put_thread z k (idle_thread x)) (keep_released m c k m.n)

keep_pick : (a b : Machine) (c : Copies) (t : Bool) → pick t (holding a c) (holding b c) ≡ holding (pick t a b) c
keep_pick a b c true = refl
keep_pick a b c false = refl

keep_retired : (m : Machine) (c : Copies) (k x : ℕ) → retired (holding m c) k x ≡ holding (retired m k x) c
unfolding retired others
keep_retired m c k x = refl

keep_retired_held : (m : Machine) (c : Copies) (k : ℕ) → retired_held (holding m c) k ≡ holding (retired_held m k) c
keep_retired_held m c k =
    ap (pick (eqb (thread m k).held none) (holding m c)) (keep_retired m c k (thread m k).held)
    ∙ keep_pick m (retired m k (thread m k).held) c (eqb (thread m k).held none)

pick_out : (t : Bool) (a b a' b' : Acted) → AlikeOut a a' → AlikeOut b b' → AlikeOut (pick t a b) (pick t a' b')
pick_out true a b a' b' p q = p
pick_out false a b a' b' p q = q

keep_free : (m : Machine) (c : Copies) → next_free (holding m c) ≡ next_free m
unfolding next_free
keep_free m c = refl

-- a copy that both put in its place, or one of the two
both_keep : (m : Machine) (c : Copies) (l : Line) (x x' : Content) (w w' : ℕ) → Alike (keeping m l x w) (keeping (holding m c) l x' w')
both_keep m c (of_head k) x x' w w' = record { copies = record { heads = set c.heads k x'.index; nodes = c.nodes; over_heads = set c.over_heads k w'; over = c.over }; is = refl }
both_keep m c (of_node i) x x' w w' = record { copies = record { heads = c.heads; nodes = set c.nodes i x'; over_heads = c.over_heads; over = set c.over i w' }; is = refl }

here_keeps : (m : Machine) (c : Copies) (l : Line) (x : Content) (w : ℕ) → Alike (keeping m l x w) (holding m c)
here_keeps m c (of_head k) x w = record { copies = c; is = refl }
here_keeps m c (of_node i) x w = record { copies = c; is = refl }

there_keeps : (m : Machine) (c : Copies) (l : Line) (x : Content) (w : ℕ) → Alike m (keeping (holding m c) l x w)
there_keeps m c (of_head k) x w = record { copies = record { heads = set c.heads k x.index; nodes = c.nodes; over_heads = set c.over_heads k w; over = c.over }; is = refl }
there_keeps m c (of_node i) x w = record { copies = record { heads = c.heads; nodes = set c.nodes i x; over_heads = c.over_heads; over = set c.over i w }; is = refl }

-- a write-back on one side alone
pub alike_back : (m m' : Machine) → Alike m m' → (l : Line) → Alike m (persist m' l)
alike_back m m' a l =
    subst (λ (x : Machine). Alike m (persist x l)) (sym a.is) (there_keeps m a.copies l (cached_at (holding m a.copies) l) (everyone (holding m a.copies)))

-- a flush: it takes its thread out of those over the line
keep_flush : (m : Machine) (c : Copies) (k : ℕ) (l : Line) → Alike (flush m k l) (flush (holding m c) k l)
unfolding late_after
keep_flush m c k (of_head j) = record { copies = record { heads = c.heads; nodes = c.nodes; over_heads = set c.over_heads j (without (get_or c.over_heads j 0) k); over = c.over }; is = refl }
keep_flush m c k (of_node i) = record { copies = record { heads = c.heads; nodes = c.nodes; over_heads = c.over_heads; over = set c.over i (without (get_or c.over i 0) k) }; is = refl }

-- a fence: it may count on one side alone
keep_fence : (m : Machine) (c : Copies) (k : ℕ) (l : Line) → Alike (fence m k l) (fence (holding m c) k l)
keep_fence m c k l = by (has (over_at m l) k) (has (over_at (holding m c) l) k)
  where
    by : (x y : Bool)
        → Alike (pick x m (keeping m l (flushed m k) (over_after m k l))) (pick y (holding m c) (keeping (holding m c) l (flushed m k) (over_after (holding m c) k l)))
    by true true = record { copies = c; is = refl }
    by true false = there_keeps m c l (flushed m k) (over_after (holding m c) k l)
    by false true = here_keeps m c l (flushed m k) (over_after m k l)
    by false false = both_keep m c l (flushed m k) (flushed m k) (over_after m k l) (over_after (holding m c) k l)

-- a thread that moves on, or answers, behind that
alike_going : (x y : Machine) → Alike x y → (k s : ℕ) → Alike (going x k s).machine (going y k s).machine
alike_going x y a k s = subst (λ (z : Machine). Alike (going x k s).machine (going z k s).machine) (sym a.is) (record { copies = a.copies; is = refl })

alike_answering : (x y : Machine) → Alike x y → (r : Answer) (k : ℕ) → Alike (answering r x k).machine (answering r y k).machine
alike_answering x y a r k =
    subst (λ (z : Machine). Alike (answering r x k).machine (answering r z k).machine) (sym a.is)
    (record { copies = a.copies; is = keep_left x a.copies k (thread x k).held })

-- ---- the steps

module _ (m : Machine) (c : Copies) (k : ℕ) where
  -- nothing is persisted
  quiet : (a : Answer) (x y : Machine) (w : Touch) → y ≡ holding x c
      → AlikeOut (record { answer = a; machine = x; touch = w }) (record { answer = a; machine = y; touch = w })
  quiet a x y w e = record { answer = refl; machine = record { copies = c; is = e }; touch = refl }

  alike_step : (s : Stage) → AlikeOut (stepped m k s) (stepped (holding m c) k s)
  alike_step no_step = quiet _ _ _ _ refl
  alike_step A1 =
      pick_out (eqb m.free 0) _ _ _ _
      (quiet _ _ _ _ (keep_left m c k (thread m k).held))
      (rw (keep_free m c) (quiet _ _ _ _ refl))
  alike_step A2 = quiet _ _ _ _ refl
  alike_step A3 = quiet _ _ _ _ refl
  alike_step A4 = quiet _ _ _ _ refl
  alike_step A5 = quiet _ _ _ _ refl
  alike_step A6 = quiet _ _ _ _ refl
  alike_step A7 =
      pick_out (leb (top_of m.form) (node m (thread m k).tail).index) _ _ _ _
      (quiet _ _ _ _ (keep_left (freed m (thread m k).node) c k (thread m k).held))
      (quiet _ _ _ _ refl)
  alike_step A8 = pick_out (eqb (node m (thread m k).tail).next none) _ _ _ _ (quiet _ _ _ _ refl) (quiet _ _ _ _ refl)
  alike_step A9 = quiet _ _ _ _ refl
  alike_step A10 = record { answer = refl; machine = alike_going _ _ (keep_flush m c k (of_node (thread m k).node)) k 22; touch = refl }
  alike_step A11 = tailed (eqb m.tail (thread m k).tail)
    where
      tailed : (t : Bool) → AlikeOut (answering Done (pick t (put_tail m (thread m k).node) m) k)
          (answering Done (pick t (put_tail (holding m c) (thread m k).node) (holding m c)) k)
      tailed true = quiet _ _ _ _ (keep_left (put_tail m (thread m k).node) c k (thread m k).held)
      tailed false = quiet _ _ _ _ (keep_left m c k (thread m k).held)
  alike_step A12 = tailed (eqb m.tail (thread m k).tail)
    where
      tailed : (t : Bool) → AlikeOut (going (pick t (put_tail m (node m (thread m k).tail).next) m) k 5)
          (going (pick t (put_tail (holding m c) (node m (thread m k).tail).next) (holding m c)) k 5)
      tailed true = quiet _ _ _ _ refl
      tailed false = quiet _ _ _ _ refl
  alike_step D1 = quiet _ _ _ _ refl
  alike_step D2 = quiet _ _ _ _ refl
  alike_step D3 = record { answer = refl; machine = alike_going _ _ (keep_flush m c k (of_head (own_head m k))) k 23; touch = refl }
  alike_step D4 =
      pick_out (both (eqb m.head (thread m k).head) (pick (per_desk m.form) true (eqb (head_at m 0) (thread m k).index))) _ _ _ _
      (pick_out (per_desk m.form) _ _ _ _ (quiet _ _ _ _ refl) (quiet _ _ _ _ refl)) (quiet _ _ _ _ refl)
  alike_step D5 = quiet _ _ _ _ refl
  alike_step D6 = record { answer = refl; machine = alike_going _ _ (keep_flush m c k (of_head (own_head m k))) k 24; touch = refl }
  alike_step D7 = quiet _ _ _ _
      (ap (λ (x : Machine). left x k (thread m k).head) (keep_retired_held m c k) ∙ keep_left (retired_held m k) c k (thread m k).head)
  alike_step S3 = quiet _ _ _ _ refl
  alike_step S6 = quiet _ _ _ _ refl
  alike_step F10 = record { answer = refl; machine = alike_going _ _ (keep_fence m c k (of_node (thread m k).node)) k 11; touch = refl }
  alike_step F3 = record { answer = refl; machine = alike_answering _ _ (keep_fence m c k (of_head (own_head m k))) Empty k; touch = refl }
  alike_step F6 = record { answer = refl; machine = alike_going _ _ (keep_fence m c k (of_head (own_head m k))) k 19; touch = refl }

-- ---- the events

keep_done : (m : Machine) (c : Copies) (e : Event) (d : Deed) → (d ≡ crashes → ⊥) → AlikeOut (done m e d) (done (holding m c) e d)
keep_done m c e unknown ne = record { answer = refl; machine = record { copies = c; is = refl }; touch = refl }
keep_done m c e enqueues ne = record { answer = refl; machine = record { copies = c; is = refl }; touch = refl }
keep_done m c e dequeues ne = record { answer = refl; machine = record { copies = c; is = refl }; touch = refl }
keep_done m c e steps ne = alike_step m c e.number (stage m e.number)
keep_done m c e writes_back ne =
    let l = line_at (shape_of m) e.number in
    record { answer = refl; machine = both_keep m c l (cached_at m l) (cached_at (holding m c) l) (everyone m) (everyone (holding m c)); touch = refl }
keep_done m c e crashes ne = absurd (ne refl)

pub alike_done : (m m' : Machine) → Alike m m' → (e : Event) (d : Deed) → (d ≡ crashes → ⊥) → AlikeOut (done m e d) (done m' e d)
alike_done m m' a e d ne = subst (λ (x : Machine). AlikeOut (done m e d) (done x e d)) (sym a.is) (keep_done m a.copies e d ne)

-- a write-back alone looks at a persisted copy (19): it is answered the same where its line is clean in both machines or in neither
keep_answer : (p : ℕ) (m : Machine) (c : Copies) (e : Event) (d : Deed) → (d ≡ crashes → ⊥)
    → (d ≡ writes_back → clean (holding m c) (line_at (shape_of m) e.number) ≡ clean m (line_at (shape_of m) e.number)) → event_answer p (holding m c) e d ≡ event_answer p m e d
keep_answer p m c e unknown ne s = refl
keep_answer p m c e enqueues ne s = refl
keep_answer p m c e dequeues ne s = refl
keep_answer p m c e steps ne s = refl
keep_answer p m c e writes_back ne s = ap (λ (b : Bool). check (line_too_large m e) (Number p) (check (item_not_zero e) (NotZero p) (check b (Clean p) Taken))) (s refl)
keep_answer p m c e crashes ne s = absurd (ne refl)

pub alike_answer : (p : ℕ) (m m' : Machine) → Alike m m' → (e : Event) (d : Deed) → (d ≡ crashes → ⊥)
    → (d ≡ writes_back → clean m' (line_at (shape_of m) e.number) ≡ clean m (line_at (shape_of m) e.number)) → event_answer p m' e d ≡ event_answer p m e d
alike_answer p m m' a e d ne s =
    ap (λ (x : Machine). event_answer p x e d) a.is
    ∙ keep_answer p m a.copies e d ne (λ w. ap (λ (x : Machine). clean x (line_at (shape_of m) e.number)) (sym a.is) ∙ s w)

-- ---- what is alike

keep_cached : (m : Machine) (c : Copies) (l : Line) → cached_at (holding m c) l ≡ cached_at m l
keep_cached m c (of_head k) = refl
keep_cached m c (of_node i) = refl

pub alike_cached : (m m' : Machine) → Alike m m' → (l : Line) → cached_at m' l ≡ cached_at m l
alike_cached m m' a l = ap (λ (x : Machine). cached_at x l) a.is ∙ keep_cached m a.copies l

-- clean in both or in neither, where what is persisted is the same
pub alike_clean : (m m' : Machine) → Alike m m' → (l : Line) → persisted_at m' l ≡ persisted_at m l → clean m' l ≡ clean m l
alike_clean m m' a l e = ap₂ same_content (alike_cached m m' a l) e

pub alike_size : (m m' : Machine) → Alike m m' → shape_of m' ≡ shape_of m
alike_size m m' a = ap shape_of a.is

-- what was flushed, and who did later
keep_flushed : (m m' : Machine) → Alike m m' → (k : ℕ) → flushed m' k ≡ flushed m k
keep_flushed m m' a k = ap (λ (x : Machine). flushed x k) a.is

pub alike_flushed : (m m' : Machine) → Alike m m' → (k : ℕ) → (flushed m' k ≡ flushed m k) × (late m' k ≡ late m k)
alike_flushed m m' a k = (keep_flushed m m' a k, ap (λ (x : Machine). late x k) a.is)
