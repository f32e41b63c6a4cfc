-- The operations of a run as a history has them: each answer one that its kind can have, none before its begin, no answer time where there is none.
use Prim.Native.Nat.{ℕ, zero, suc, ◌+◌, ◌≤◌, ◌<◌}
use mathlib.Core.Path.{◌≡◌, refl, sym, ap, subst, ◌∙◌}
use mathlib.Core.Bool.{Bool, true, false, not}
use mathlib.Core.List.{List, [], ◌∷◌, ◌++◌, map}
use mathlib.Core.Logic.{◌⊎◌, inl, inr}
use mathlib.Core.Option.{Option, none, some}
use native.Mathlib.Omega.{arith}
use lib.ListN.{length}
use lib.Dec.{eqb, ltb, leb}
use borrow.Author.Tests.{le-leb}
use Rattle.lists.specs.Find.{pick, both}
use Rattle.lists.proofs.BoolLaws.{no_way}
use Rattle.answer.specs.Answers.{Answer}
use Rattle.machine.specs.Event.{Deed, unknown, enqueues, dequeues, steps, writes_back, crashes, deed_of}
use Rattle.machine.specs.declared.Event.{Event}
use Rattle.lawful.specs.Operation.{Operation, Reply, nothing, done, full, worn_out, empty, gave, says, reply_of, Call, puts, takes, begun, answered_by, noted, operations}
use Rattle.lawful.specs.Plain.{serve, onward, serve_all}
use Rattle.lawful.specs.Lawful.{at, Has, Lawful}
use Rattle.judging.specs.History.{kind_fits, time_fits}
use Rattle.judgeproof.specs.Written.{kind_of, answer_of}

-- ---- times

-- before event p: the times are numbers of events before it, and fit the answer
pub record InTime (p : ℕ) (o : Operation) : Type 0 where
  pub began : o.began < p
  pub ended : o.ended < p
  pub fits : time_fits (answer_of o.reply) o.began o.ended ≡ true

abbrev pub AllInTime : ℕ → List Operation → Type 0
AllInTime p [] = Unit {0}
AllInTime p (o ∷ l) = InTime p o × AllInTime p l

later : (p q : ℕ) → p ≤ q → (l : List Operation) → AllInTime p l → AllInTime q l
later p q h [] a = tt
later p q h (o ∷ l) a = (record { began = omega (arith, a.0.began); ended = omega (arith, a.0.ended); fits = a.0.fits }, later p q h l a.1)

begun_in_time : (p k : ℕ) (c : Call) → InTime (suc p) (begun p k c)
unfolding time_fits
begun_in_time p k c = record { began = omega arith; ended = omega arith; fits = refl }

with_begun : (p k : ℕ) (c : Call) (l : List Operation) → AllInTime p l → AllInTime (suc p) (l ++ (begun p k c ∷ []))
with_begun p k c [] a = (begun_in_time p k c, tt)
with_begun p k c (o ∷ l) a = (
  record { began = omega (arith, a.0.began); ended = omega (arith, a.0.ended); fits = a.0.fits },
  with_begun p k c l a.1,
)

-- what is answered now began before
answer_fits : (r : Reply) → says r ≡ true → (b p : ℕ) → b < p → time_fits (answer_of r) b p ≡ true
unfolding time_fits
answer_fits nothing s b p h = no_way (sym s)
answer_fits done s b p h = le-leb b p (omega arith)
answer_fits full s b p h = le-leb b p (omega arith)
answer_fits worn_out s b p h = le-leb b p (omega arith)
answer_fits empty s b p h = le-leb b p (omega arith)
answer_fits (gave v) s b p h = le-leb b p (omega arith)

answered_in_time : (p k : ℕ) (r : Reply) → says r ≡ true → (o : Operation) → InTime p o → InTime (suc p) (answered_by p k r o)
answered_in_time p k r s o a = by (both (eqb o.thread k) (not (says o.reply)))
  where
    by : (b : Bool) → InTime (suc p) (elim b as (λ _. Operation) [ true ↦ record { thread = o.thread; call = o.call; began = o.began; reply = r; ended = p } | false ↦ o ])
    by true = record { began = omega (arith, a.began); ended = omega arith; fits = answer_fits r s o.began p a.began }
    by false = record { began = omega (arith, a.began); ended = omega (arith, a.ended); fits = a.fits }

all_answered : (p k : ℕ) (r : Reply) → says r ≡ true → (l : List Operation) → AllInTime p l → AllInTime (suc p) (map (answered_by p k r) l)
all_answered p k r s [] a = tt
all_answered p k r s (o ∷ l) a = (answered_in_time p k r s o a.0, all_answered p k r s l a.1)

noted_in_time : (p : ℕ) (e : Event) (x : Answer) (l : List Operation) → AllInTime p l → (d : Deed) → AllInTime (suc p) (noted p e x l d)
noted_in_time p e x l a unknown = later p (suc p) (omega arith) l a
noted_in_time p e x l a enqueues = with_begun p e.number (puts e.item) l a
noted_in_time p e x l a dequeues = with_begun p e.number takes l a
noted_in_time p e x l a steps = by (says (reply_of x)) refl
  where
    by : (b : Bool) → says (reply_of x) ≡ b → AllInTime (suc p) (elim b as (λ _. List Operation) [ true ↦ map (answered_by p e.number (reply_of x)) l | false ↦ l ])
    by true s = all_answered p e.number (reply_of x) s l a
    by false s = later p (suc p) (omega arith) l a
noted_in_time p e x l a writes_back = later p (suc p) (omega arith) l a
noted_in_time p e x l a crashes = tt

-- after all events
pub run_in_time : (p : ℕ) (l : List Event) (r : List Answer) (ops : List Operation) → AllInTime p ops → AllInTime (p + length l) (operations p l r ops)
unfolding operations
run_in_time p [] r ops a = later p (p + 0) (omega arith) ops a
run_in_time p (e ∷ l) [] ops a = later p (p + suc (length l)) (omega arith) ops a
run_in_time p (e ∷ l) (x ∷ r) ops a =
    subst (λ (q : ℕ). AllInTime q (operations (suc p) l r (noted p e x ops (deed_of e.kind)))) (omega arith)
    (run_in_time (suc p) l r (noted p e x ops (deed_of e.kind)) (noted_in_time p e x ops a (deed_of e.kind)))

pub in_time_at : (p : ℕ) (l : List Operation) → AllInTime p l → (k : ℕ) → k < length l → InTime p (at l k)
in_time_at p [] a k h = absurd (omega arith)
in_time_at p (o ∷ l) a zero h = a.0
in_time_at p (o ∷ l) a (suc k) h = in_time_at p l a.1 k (omega arith)

-- ---- answers: what some order plays is answered as its kind can be

abbrev Served : Operation → Type 0
Served o = (q q' : List ℕ) × (serve o.call o.reply q ≡ some q')

played : (f : ℕ → Operation) (l : List ℕ) (q last : List ℕ) → serve_all (map f l) q ≡ some last → (k : ℕ) → Has k l → Served (f k)
unfolding serve_all
played f [] q last e k h = absurd h
played f (j ∷ l) q last e k h = by (serve (f j).call (f j).reply q) refl e h (λ q' z w. played f l q' last z k w)
  where
    by : (x : Option (List ℕ)) → serve (f j).call (f j).reply q ≡ x → onward x (λ r. serve_all (map f l) r) ≡ some last → (k ≡ j) ⊎ Has k l
        → ((q' : List ℕ) → serve_all (map f l) q' ≡ some last → Has k l → Served (f k)) → Served (f k)
    by none a z w rest = let y : ◌≡◌ {A = ℕ} 0 1 = cc in absurd (omega arith)
    by (some q') a z (inl i) rest = subst (λ (n : ℕ). Served (f n)) (sym i) (q, q', a)
    by (some q') a z (inr w) rest = rest q' z w

never : {A : Type 0} {q : List ℕ} → ◌≡◌ {A = Option (List ℕ)} none (some q) → A
never e = let y : ◌≡◌ {A = ℕ} 0 1 = cc in absurd (omega arith)

served_fits : (c : Call) (r : Reply) (q q' : List ℕ) → serve c r q ≡ some q' → kind_fits (kind_of c) (answer_of r) ≡ true
unfolding kind_fits
served_fits (puts v) nothing q q' e = refl
served_fits (puts v) done q q' e = refl
served_fits (puts v) full q q' e = refl
served_fits (puts v) worn_out q q' e = refl
served_fits (puts v) empty q q' e = never e
served_fits (puts v) (gave x) q q' e = never e
served_fits takes nothing q q' e = refl
served_fits takes done q q' e = never e
served_fits takes full q q' e = never e
served_fits takes worn_out q q' e = never e
served_fits takes empty q q' e = refl
served_fits takes (gave x) q q' e = refl

silent_fits : (c : Call) (r : Reply) → says r ≡ false → kind_fits (kind_of c) (answer_of r) ≡ true
unfolding kind_fits
silent_fits (puts v) nothing e = refl
silent_fits takes nothing e = refl
silent_fits c done e = no_way e
silent_fits c full e = no_way e
silent_fits c worn_out e = no_way e
silent_fits c empty e = no_way e
silent_fits c (gave x) e = no_way e

pub lawful_fits : (ops : List Operation) (first last : List ℕ) → Lawful ops first last → (k : ℕ) → k < length ops
    → kind_fits (kind_of (at ops k).call) (answer_of (at ops k).reply) ≡ true
lawful_fits ops first last w k h = by (says (at ops k).reply) refl
  where
    by : (b : Bool) → says (at ops k).reply ≡ b → kind_fits (kind_of (at ops k).call) (answer_of (at ops k).reply) ≡ true
    by false e = silent_fits (at ops k).call (at ops k).reply e
    by true e =
        let (q, q', z) = played (at ops) w.order first last w.plays k (w.whole k h e) in
        served_fits (at ops k).call (at ops k).reply q q' z
