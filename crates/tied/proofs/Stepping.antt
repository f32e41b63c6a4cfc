-- What is to be shown of a step: the same answer, records that show the same after it, the same line touched.
use mathlib.Core.Path.{◌≡◌, refl, sym, ap, subst, ◌∙◌}
use mathlib.Core.Bool.{Bool, true, false}
use mathlib.Core.Logic.{inl, inr}
use mathlib.Core.Option.{Option, none, some}
use Prim.Native.Nat.{ℕ, suc, ◌≤◌, ◌<◌}
use native.Mathlib.Omega.{arith}
use lib.Dec.{eqb}
use Rattle.lists.proofs.BoolLaws.{no_way}
use Rattle.answer.specs.Answers.{Answer}
use Rattle.image.specs.declared.Content.{Content}
use Rattle.tied.specs.Memory as memory
use Rattle.image.specs.Form.{per_desk}
use Rattle.machine.specs.Record.{thread, at_step, put_last, flushed}
use Rattle.machine.specs.Line.{put_line, cached_at, over_at}
use Rattle.lists.specs.Find.{pick}
use Rattle.lists.specs.Word.{has}
use Rattle.moments.proofs.Flushes.{held}
use Rattle.machine.specs.Stage.{Stage, stage}
use Rattle.machine.specs.Retire.{left}
use Rattle.machine.specs.declared.Machine.{Machine}
use Rattle.machine.specs.declared.Thread.{Thread}
use Rattle.machine.specs.declared.Acted as machine
use Rattle.model.specs.Lines.{Touch, nowhere, stores, flushes, issues, fences}
use Rattle.model.specs.Conf.{fenced}
use Rattle.model.specs.Core.{Core, Th}
use Rattle.model.specs.Changes.{set_last}
use Rattle.model.specs.Steps.{Out, leave}
use Rattle.model.specs.Always.{ThIn, InRange}
use Rattle.model.proofs.Basics.{true→eq}
use Rattle.tied.specs.Shown.{link_if, link_of, thread_of, shown_thread, line_shown, engine_if, answer_of}
use Rattle.tied.proofs.Relation.{Link, step_in, step_in_lem, Regs, ThreadAt, Tied}
use Rattle.tied.proofs.Changes.{count_n}
use Rattle.tied.proofs.Leaving.{left_t}

-- what the lines hold persisted after one is, or none
abbrev pub keeps : memory.Touch → Machine → (memory.Line → Content) → memory.Line → Content
keeps memory.nothing m p = p
keeps (memory.a_store l) m p = p
keeps (memory.a_persist l) m p = put_line p l (cached_at m l)
keeps (memory.a_flush k l) m p = p
keeps (memory.a_fence k l) m p = pick (has (over_at m l) k) p (put_line p l (held l (flushed m k)))

-- the record touches what the core touches
abbrev pub Touches : memory.Touch → Touch → Type 0
Touches memory.nothing nowhere = Unit {0}
Touches memory.nothing (stores l) = ⊥
Touches memory.nothing (flushes l) = ⊥
Touches memory.nothing (issues t) = ⊥
Touches memory.nothing (fences t l) = ⊥
Touches (memory.a_store k) nowhere = ⊥
Touches (memory.a_store k) (stores l) = l ≡ line_shown k
Touches (memory.a_store k) (flushes l) = ⊥
Touches (memory.a_store k) (issues t) = ⊥
Touches (memory.a_store k) (fences t l) = ⊥
Touches (memory.a_persist k) nowhere = ⊥
Touches (memory.a_persist k) (stores l) = ⊥
Touches (memory.a_persist k) (flushes l) = l ≡ line_shown k
Touches (memory.a_persist k) (issues t) = ⊥
Touches (memory.a_persist k) (fences t l) = ⊥
Touches (memory.a_flush u k) nowhere = ⊥
Touches (memory.a_flush u k) (stores l) = ⊥
Touches (memory.a_flush u k) (flushes l) = ⊥
Touches (memory.a_flush u k) (issues t) = t ≡ u
Touches (memory.a_flush u k) (fences t l) = ⊥
Touches (memory.a_fence u k) nowhere = ⊥
Touches (memory.a_fence u k) (stores l) = ⊥
Touches (memory.a_fence u k) (flushes l) = ⊥
Touches (memory.a_fence u k) (issues t) = ⊥
Touches (memory.a_fence u k) (fences t l) = (t ≡ u) × (l ≡ line_shown k)

pub record StepT (p : memory.Line → Content) (m : Machine) (o : machine.Acted) (O : Out) : Type 0 where
  pub tied : Tied (keeps o.touch m p) o.machine O.core
  pub says : o.answer ≡ answer_of O.ans
  pub touch : Touches o.touch O.touch

pub link_in : (n x : ℕ) → Link n x → eqb x 255 ≡ false → x < n
link_in n x (inl h) e = h
link_in n x (inr h) e = no_way (sym (ap (λ y. eqb y 255) h) ∙ e)

-- a link that is some node is that node's number
pub link_is : (x y : ℕ) → link_of x ≡ some y → (eqb x 255 ≡ false) × (y ≡ x)
link_is x y e = by (eqb x 255) refl e
  where
    by : (b : Bool) → eqb x 255 ≡ b → link_if b x ≡ some y → (eqb x 255 ≡ false) × (y ≡ x)
    by true h e = let z : ◌≡◌ {A = ℕ} 0 1 = cc in absurd (omega arith)
    by false h e = (h, let z : x ≡ y = cc in sym z)

-- the node last handed out
pub last_t : (p : memory.Line → Content) (m : Machine) (c : Core) → Tied p m c → (n : ℕ) → Tied p (put_last m n) (set_last c n)
last_t p m c d n = record {
  conf = d.conf;
  last = refl;
  sizes = d.sizes;
  hnode = d.hnode;
  heads = d.heads;
  narrow = d.narrow;
  eight = d.eight;
  flushes = d.flushes;
  tail = d.tail;
  nodes = d.nodes;
  free = d.free;
  threads = d.threads;
  kept = d.kept;
}

module _ (p : memory.Line → Content) (m : Machine) (c : Core) (d : Tied p m c) (k : ℕ) (hk : k < m.t) where
  pub engine_is : c.conf.engine ≡ engine_if (per_desk m.form)
  engine_is = ap (λ z. z.engine) d.conf

  pub mode_is : c.conf.mode ≡ fenced
  mode_is = ap (λ z. z.mode) d.conf

  pub regs_of : Regs m.form m.n (thread m k)
  regs_of = (d.threads.at k hk).regs

  -- the index that the abstract thread remembers; the record's own where Head has one
  abbrev pub seen : ℕ
  seen = (d.threads.at k hk).seen

  pub own_seen : per_desk m.form ≡ false → seen ≡ (thread m k).index
  own_seen = (d.threads.at k hk).own

  -- the thread goes on to step s with what it has read
  pub goes_to : (s : ℕ) (S : Th) → step_in m.form s ≡ true → S ≡ shown_thread (at_step (thread m k) s) seen → ThreadAt m.form m.n (at_step (thread m k) s) S (c.held k)
  goes_to s S h e = record {
    seen = seen;
    own = own_seen;
    stage = e;
    holds = (d.threads.at k hk).holds;
    regs = record { step = h; node = regs_of.node; tail = regs_of.tail; head = regs_of.head; next = regs_of.next; held = regs_of.held; index = regs_of.index };
  }

  pub goes_on_lem : (s : ℕ) (S : Th) → s ≤ 19 → S ≡ shown_thread (at_step (thread m k) s) seen → ThreadAt m.form m.n (at_step (thread m k) s) S (c.held k)
  goes_on_lem s S h e = goes_to s S (step_in_lem m.form s h) e

  -- the thread answers and holds what it held
  pub leaves_t : Tied p (left m k (thread m k).held) (leave c k)
  leaves_t = left_t p m c d k hk (thread m k).held c.held (d.threads.at k hk).holds regs_of.held (λ j ne. refl)

  -- what the thread's step uses is there
  pub used : InRange c → (s : Stage) → stage m k ≡ s → ThIn m.n c.next (thread_of s (thread m k) seen)
  used r s e =
      let x : ThIn m.n c.next (c.thr k) = subst (λ n. ThIn n c.next (c.thr k)) (count_n p m c d) (r.threads k) in
      subst (ThIn m.n c.next) ((d.threads.at k hk).stage ∙ ap (λ s. thread_of s (thread m k) seen) e) x
