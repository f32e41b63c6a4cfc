-- The operations of the record's list and those of the abstract machine's book: the same, event by event.
use mathlib.Core.Path.{◌≡◌, refl, sym, ap, ap₂, subst, ◌∙◌}
use mathlib.Core.Bool.{Bool, true, false, not}
use mathlib.Core.List.{List, [], ◌∷◌, ◌++◌, map}
use mathlib.Core.Logic.{◌≢◌}
use Prim.Native.Nat.{ℕ, zero, suc, ◌<◌}
use native.Mathlib.Omega.{arith}
use native.Mathlib.Decide.{ℕ_discrete}
use lib.Dec.{eqb}
use lib.ListN.{length, length-append, length-map, get_or-append}
use lib.Seq.{get_or_at}
use Rattle.lists.specs.Find.{both}
use Rattle.lists.proofs.BoolLaws.{no_way}
use Rattle.lawful.specs.Operation.{Operation, Reply, nothing, done, full, worn_out, empty, gave, says, Call, puts, takes, begun, answered_by}
use Rattle.lawful.specs.Lawful.{no_operation, at}
use Rattle.model.specs.Basics.{upd}
use Rattle.model.specs.Core as core
use Rattle.model.specs.Core.{Th, busy}
use Rattle.model.specs.Lawful as law
use Rattle.model.specs.Bench.{Book, new_book, opens, closes}
use Rattle.model.proofs.Basics.{upd_at, upd_other, eq_no}
use Rattle.lawproof.proofs.Walk.{eq_yes}

-- ---- an operation, as the abstract machine has it

abbrev pub shown_call : Call → law.Call
shown_call (puts v) = law.putting v
shown_call takes = law.taking

abbrev pub shown_reply : Reply → core.Ans
shown_reply nothing = core.nothing
shown_reply done = core.done
shown_reply full = core.full
shown_reply worn_out = core.worn
shown_reply empty = core.empty
shown_reply (gave v) = core.item v

abbrev pub shown_op : Operation → law.Op
shown_op o = record { call = shown_call o.call; began = o.began; said = shown_reply o.reply; ended = o.ended }

-- one that has said nothing has not answered
pub quiet : (r : Reply) → shown_reply r ≡ core.nothing → says r ≡ false
quiet nothing e = refl
quiet done e = let z : ◌≡◌ {A = ℕ} 0 1 = cc in absurd (omega arith)
quiet full e = let z : ◌≡◌ {A = ℕ} 0 1 = cc in absurd (omega arith)
quiet worn_out e = let z : ◌≡◌ {A = ℕ} 0 1 = cc in absurd (omega arith)
quiet empty e = let z : ◌≡◌ {A = ℕ} 0 1 = cc in absurd (omega arith)
quiet (gave v) e = let z : ◌≡◌ {A = ℕ} 0 1 = cc in absurd (omega arith)

-- ---- the list and the book, with the threads

-- as many; each the same; the last one of a thread that has an operation is its own; and one without an answer is the last of its thread, which has an operation
pub record OpsT (ops : List Operation) (k : Book) (thr : ℕ → Th) : Type 0 where
  pub count : length ops ≡ k.count
  pub same : (i : ℕ) → i < k.count → k.op i ≡ shown_op (at ops i)
  pub own : (u : ℕ) → busy (thr u) ≡ true → (at ops (k.cur u)).thread ≡ u
  pub unsaid : (i : ℕ) → i < k.count → says (at ops i).reply ≡ false → (busy (thr (at ops i).thread) ≡ true) × (k.cur (at ops i).thread ≡ i)

-- after a start
pub empty_t : (thr : ℕ → Th) → ((u : ℕ) → busy (thr u) ≡ false) → OpsT [] new_book thr
empty_t thr h = record { count = refl; same = λ i l. absurd (omega arith); own = λ u b. no_way (sym b ∙ h u); unsaid = λ i l. absurd (omega arith) }

at_map : (f : Operation → Operation) (ops : List Operation) (i : ℕ) → i < length ops → at (map f ops) i ≡ f (at ops i)
at_map f [] i h = absurd (omega arith)
at_map f (o ∷ ops) zero h = refl
at_map f (o ∷ ops) (suc i) h = at_map f ops i (omega arith)

module _ (ops : List Operation) (k : Book) (thr thr' : ℕ → Th) (t : ℕ) (r : OpsT ops k thr) (others : (u : ℕ) → u ≢ t → thr' u ≡ thr u)
    (lt : (u : ℕ) → busy (thr u) ≡ true → k.cur u < k.count) where
  -- thread t goes on without an answer
  pub gone_t : busy (thr t) ≡ true → busy (thr' t) ≡ true → OpsT ops k thr'
  gone_t bt bt' = record { count = r.count; same = r.same; own = λ u b. mine u b (ℕ_discrete u t); unsaid = λ i h s. let d = r.unsaid i h s in (still (at ops i).thread d.0 (ℕ_discrete (at ops i).thread t), d.1) }
    where
      mine : (u : ℕ) → busy (thr' u) ≡ true → Dec (u ≡ t) → (at ops (k.cur u)).thread ≡ u
      mine u b (yes e) = subst (λ w. (at ops (k.cur w)).thread ≡ w) (sym e) (r.own t bt)
      mine u b (no ne) = r.own u (sym (ap busy (others u ne)) ∙ b)

      still : (w : ℕ) → busy (thr w) ≡ true → Dec (w ≡ t) → busy (thr' w) ≡ true
      still w b (yes e) = ap (λ x. busy (thr' x)) e ∙ bt'
      still w b (no ne) = ap busy (others w ne) ∙ b

  -- event p begins an operation of thread t
  module _ (p : ℕ) (c : Call) (bt : busy (thr t) ≡ false) (bt' : busy (thr' t) ≡ true) where
    abbrev more : List Operation
    more = ops ++ (begun p t c ∷ [])

    new : at more k.count ≡ begun p t c
    new = get_or_at ops (begun p t c) [] no_operation k.count r.count

    old : (i : ℕ) → i < k.count → at more i ≡ at ops i
    old i h = get_or-append ops (begun p t c ∷ []) no_operation i (omega (arith, r.count))

    pub begin_t : OpsT more (opens k p t (shown_call c)) thr'
    begin_t = record {
      count = omega (arith, length-append ops (begun p t c ∷ []), r.count);
      same = λ i h. alike i h (ℕ_discrete i k.count);
      own = λ u b. mine u b (ℕ_discrete u t);
      unsaid = λ i h s. waits i h s (ℕ_discrete i k.count);
    }
      where
        alike : (i : ℕ) → i < suc k.count → Dec (i ≡ k.count) → (opens k p t (shown_call c)).op i ≡ shown_op (at more i)
        alike i h (yes e) = upd_at k.op k.count _ e ∙ ap shown_op (sym (ap (at more) e ∙ new))
        alike i h (no ne) = upd_other k.op k.count _ ne ∙ r.same i (omega arith) ∙ ap shown_op (sym (old i (omega arith)))

        mine : (u : ℕ) → busy (thr' u) ≡ true → Dec (u ≡ t) → (at more (upd k.cur t k.count u)).thread ≡ u
        mine u b (yes e) = ap (λ x. (at more x).thread) (upd_at k.cur t k.count e) ∙ ap (λ (o : Operation). o.thread) new ∙ sym e
        mine u b (no ne) =
            let b' : busy (thr u) ≡ true = sym (ap busy (others u ne)) ∙ b in
            ap (λ x. (at more x).thread) (upd_other k.cur t k.count ne) ∙ ap (λ (o : Operation). o.thread) (old (k.cur u) (lt u b')) ∙ r.own u b'

        waits : (i : ℕ) → i < suc k.count → says (at more i).reply ≡ false → Dec (i ≡ k.count)
            → (busy (thr' (at more i).thread) ≡ true) × (upd k.cur t k.count (at more i).thread ≡ i)
        waits i h s (yes e) =
            let w : (at more i).thread ≡ t = ap (λ x. (at more x).thread) e ∙ ap (λ (o : Operation). o.thread) new in
            (ap (λ x. busy (thr' x)) w ∙ bt', upd_at k.cur t k.count w ∙ sym e)
        waits i h s (no ne) =
            let o' = old i (omega arith) in
            let d = r.unsaid i (omega arith) (sym (ap (λ (o : Operation). says o.reply) o') ∙ s) in
            let nt : (at ops i).thread ≢ t = λ z. no_way (sym d.0 ∙ ap (λ x. busy (thr x)) z ∙ bt) in
            subst (λ (o : Operation). (busy (thr' o.thread) ≡ true) × (upd k.cur t k.count o.thread ≡ i)) (sym o')
            (ap busy (others (at ops i).thread nt) ∙ d.0, upd_other k.cur t k.count nt ∙ d.1)

  -- event p answers the operation of thread t
  module _ (p : ℕ) (a : Reply) (bt : busy (thr t) ≡ true) (pend : (k.op (k.cur t)).said ≡ core.nothing) (yes-says : says a ≡ true) where
    abbrev with : Operation → Operation
    with o = record { thread = o.thread; call = o.call; began = o.began; reply = a; ended = p }

    hit : (o : Operation) → o.thread ≡ t → says o.reply ≡ false → answered_by p t a o ≡ with o
    hit o e s = ap (λ b. elim b as (λ _. Operation) [ true ↦ with o | false ↦ o ]) (ap₂ (λ (x y : Bool). both x (not y)) (eq_yes o.thread t e) s)

    miss : (o : Operation) → both (eqb o.thread t) (not (says o.reply)) ≡ false → answered_by p t a o ≡ o
    miss o e = ap (λ b. elim b as (λ _. Operation) [ true ↦ with o | false ↦ o ]) e

    thread_stays : (o : Operation) → (answered_by p t a o).thread ≡ o.thread
    thread_stays o = by (both (eqb o.thread t) (not (says o.reply)))
      where
        by : (b : Bool) → ◌≡◌ {A = ℕ} (elim b as (λ _. Operation) [ true ↦ with o | false ↦ o ]).thread o.thread
        by true = refl
        by false = refl

    cur_quiet : says (at ops (k.cur t)).reply ≡ false
    cur_quiet = quiet (at ops (k.cur t)).reply (sym (ap (λ (x : law.Op). x.said) (r.same (k.cur t) (lt t bt))) ∙ pend)

    abbrev told : List Operation
    told = map (answered_by p t a) ops

    new_at : (i : ℕ) → i < k.count → at told i ≡ answered_by p t a (at ops i)
    new_at i h = at_map (answered_by p t a) ops i (omega (arith, r.count))

    -- the one that is answered
    the_one : (i : ℕ) → i < k.count → i ≡ k.cur t → at told i ≡ with (at ops i)
    the_one i h e = new_at i h ∙ hit (at ops i) (ap (λ x. (at ops x).thread) e ∙ r.own t bt) (ap (λ x. says (at ops x).reply) e ∙ cur_quiet)

    -- any other
    no_other : (i : ℕ) → i < k.count → i ≢ k.cur t → both (eqb (at ops i).thread t) (not (says (at ops i).reply)) ≡ false
    no_other i h ne = by (ℕ_discrete (at ops i).thread t) (says (at ops i).reply) refl
      where
        by : Dec ((at ops i).thread ≡ t) → (s : Bool) → says (at ops i).reply ≡ s → both (eqb (at ops i).thread t) (not (says (at ops i).reply)) ≡ false
        by (no z) s f = ap (λ b. both b (not (says (at ops i).reply))) (eq_no (at ops i).thread t z)
        by (yes z) true f = ap₂ (λ (x y : Bool). both x (not y)) (eq_yes (at ops i).thread t z) f
        by (yes z) false f = absurd (ne (sym (r.unsaid i h f).1 ∙ ap k.cur z))

    others_at : (i : ℕ) → i < k.count → i ≢ k.cur t → at told i ≡ at ops i
    others_at i h ne = new_at i h ∙ miss (at ops i) (no_other i h ne)

    pub answer_t : OpsT told (closes k p t (shown_reply a)) thr'
    answer_t = record {
      count = length-map ops (answered_by p t a) ∙ r.count;
      same = λ i h. alike i h (ℕ_discrete i (k.cur t));
      own = λ u b. mine u (was u b (ℕ_discrete u t));
      unsaid = λ i h s. waits i h s (ℕ_discrete i (k.cur t));
    }
      where
        alike : (i : ℕ) → i < k.count → Dec (i ≡ k.cur t) → (closes k p t (shown_reply a)).op i ≡ shown_op (at told i)
        alike i h (yes e) = upd_at k.op (k.cur t) _ e
            ∙ ap (λ (x : law.Op). record { call = x.call; began = x.began; said = shown_reply a; ended = p }) (ap k.op (sym e) ∙ r.same i h)
            ∙ ap shown_op (sym (the_one i h e))
        alike i h (no ne) = upd_other k.op (k.cur t) _ ne ∙ r.same i h ∙ ap shown_op (sym (others_at i h ne))

        was : (u : ℕ) → busy (thr' u) ≡ true → Dec (u ≡ t) → busy (thr u) ≡ true
        was u b (yes e) = ap (λ x. busy (thr x)) e ∙ bt
        was u b (no ne) = sym (ap busy (others u ne)) ∙ b

        mine : (u : ℕ) → busy (thr u) ≡ true → (at told (k.cur u)).thread ≡ u
        mine u b = ap (λ (o : Operation). o.thread) (new_at (k.cur u) (lt u b)) ∙ thread_stays (at ops (k.cur u)) ∙ r.own u b

        waits : (i : ℕ) → i < k.count → says (at told i).reply ≡ false → Dec (i ≡ k.cur t) → (busy (thr' (at told i).thread) ≡ true) × (k.cur (at told i).thread ≡ i)
        waits i h s (yes e) = no_way (sym yes-says ∙ sym (ap (λ (o : Operation). says o.reply) (the_one i h e)) ∙ s)
        waits i h s (no ne) =
            let o' = others_at i h ne in
            let d = r.unsaid i h (sym (ap (λ (o : Operation). says o.reply) o') ∙ s) in
            let nt : (at ops i).thread ≢ t = λ z. ne (sym d.1 ∙ ap k.cur z) in
            subst (λ (o : Operation). (busy (thr' o.thread) ≡ true) × (k.cur o.thread ≡ i)) (sym o') (ap busy (others (at ops i).thread nt) ∙ d.0, d.1)
