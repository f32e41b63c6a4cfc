-- A step of a thread: each enqueue on the list is, after what the step tells, as it is at every moment.
use Prim.Native.Nat.{ℕ, ◌<◌}
use mathlib.Core.Path.{◌≡◌, refl, sym, ap, subst, ◌∙◌}
use mathlib.Core.Bool.{Bool, true, false}
use mathlib.Core.Logic.{◌≢◌}
use mathlib.Core.Option.{none}
use native.Mathlib.Omega.{arith}
use native.Mathlib.Decide.{ℕ_discrete}
use lib.Dec.{eqb, ltb}
use borrow.Author.Tests.{eqb-true, eq-eqb, lt-ltb}
use Rattle.lists.specs.Find.{pick}
use Rattle.lists.proofs.BoolLaws.{no_way, both_true, both_of}
use Rattle.model.specs.Basics.{upd}
use Rattle.model.specs.Core.{Core, Th, Node, idle, a8, a9, d4, d5, d7}
use Rattle.model.specs.Core.{nothing}
use Rattle.model.specs.Places.{owns_d}
use Rattle.model.specs.Steps.{Out, move, step}
use Rattle.model.specs.Machine.{M, goes_on}
use Rattle.model.specs.Bench.{Bench}
use Rattle.model.proofs.Basics.{upd_same, upd_other}
use Rattle.model.proofs.Always.Runs.{Kept}
use Rattle.std.specs.Prelude.{Option, None, Some}
use Rattle.answer.specs.declared.Reply.{Reply}
use Rattle.answer.specs.declared.Reply.TheVariants as reply
use Rattle.parcels.specs.Parcel.{is_open, turns_away, is_of, is_linked, has_index, is_thread, is_taken_by, with_link, with_said, with_taker, with_handed, moved}
use Rattle.parcels.specs.declared.News.TheVariants.{Nothing, Linked, Answered, Took, Gave}
use Rattle.parcels.specs.declared.Parcel.{Parcel}
use Rattle.parcelproof.proofs.Taking.{Covered, Taking, taking_owns, index_kept}
use Rattle.parcelproof.proofs.Taken.{own_step, at_d7}
use Rattle.parcelproof.proofs.Went.{phase}
use Rattle.parcelproof.proofs.Held.{Held, flushes_own, covers, as_engine, takes_on, stays}

one_not : (b : Bool) → ◌≡◌ {A = ℕ} 1 (pick b 2 1) → b ≡ false
one_not true e = absurd (omega arith)
one_not false e = refl

pub zero_not : (b : Bool) → ◌≡◌ {A = ℕ} 0 (pick b 2 1) → ⊥
zero_not true e = omega arith
zero_not false e = omega arith

-- what a reply and a taker say where they are asked
open_is : (r : Reply) → is_open r ≡ true → r ≡ reply.Taken
open_is reply.Taken e = refl
open_is reply.Done e = no_way (sym e)
open_is reply.Full e = no_way (sym e)
open_is reply.WornOut e = no_way (sym e)
open_is (reply.Item v) e = no_way (sym e)
open_is reply.Empty e = no_way (sym e)

taker_is : (t : ℕ) (o : Option ℕ) → is_thread t o ≡ true → o ≡ Some t
taker_is t None e = no_way (sym e)
taker_is t (Some u) e = ap Some (eqb-true u t e)

some_is : {t u : ℕ} → ◌≡◌ {A = Option ℕ} (Some t) (Some u) → t ≡ u
some_is e = cc

module _ (B : Bench) (k : Kept B) (t : ℕ) where
  abbrev m : M
  m = B.mach

  abbrev c : Core
  c = m.core

  abbrev s : Th
  s = c.thr t

  abbrev o : Out
  o = step c t s

  abbrev c' : Core
  c' = o.core

  abbrev m' : M
  m' = goes_on m c' o.touch

  abbrev Takes : ℕ → ℕ → Type 0
  Takes u y = Taking c.conf.engine m u y (c.thr u)

  abbrev Takes' : ℕ → ℕ → Type 0
  Takes' u y = Taking c'.conf.engine m' u y (c'.thr u)

  module _ (s' : Th) (th : c'.thr ≡ upd c.thr t s') where
    own_is : c'.thr t ≡ s'
    own_is = ap (λ (f : ℕ → Th). f t) th ∙ upd_same c.thr t s'

    other_is : (u : ℕ) → u ≢ t → c'.thr u ≡ c.thr u
    other_is u ne = ap (λ (f : ℕ → Th). f u) th ∙ upd_other c.thr t s' ne

    -- where the thread's phase stays
    phases : phase s' ≡ phase s → (u : ℕ) → phase (c'.thr u) ≡ phase (c.thr u)
    phases e u = by (ℕ_discrete u t)
      where
        by : Dec (u ≡ t) → phase (c'.thr u) ≡ phase (c.thr u)
        by (yes q) = ap (λ (u : ℕ). phase (c'.thr u)) q ∙ ap phase own_is ∙ e ∙ ap (λ (u : ℕ). phase (c.thr u)) (sym q)
        by (no ne) = ap phase (other_is u ne)

    foreign : (u y : ℕ) → u ≢ t → Takes u y → Takes' u y
    foreign u y ne z = takes_on B k (move t) (λ n f. index_kept c t n s (f t)) u y (flushes_own c t s u ne) (other_is u ne) z

    -- where the thread has taken nothing
    apart : owns_d s ≡ none → (u y : ℕ) → Takes u y → Takes' u y
    apart od u y z = by (ℕ_discrete u t)
      where
        by : Dec (u ≡ t) → Takes' u y
        by (yes q) = absurd (taking_owns c.conf.engine m u y (c.thr u) z (ap (λ (u : ℕ). owns_d (c.thr u)) q ∙ od))
        by (no ne) = foreign u y ne z

    goes : o.ans ≡ nothing → (u y : ℕ) → Takes u y → Takes' u y
    goes e u y z = by (ℕ_discrete u t)
      where
        by : Dec (u ≡ t) → Takes' u y
        by (yes q) = subst (λ (u : ℕ). Takes' u y) (sym q) (as_engine B k (move t) t y (c'.thr t)
            (own_step m _ _ _ k.timed k.all t y s refl e (subst (λ (u : ℕ). Takes u y) q z)))
        by (no ne) = foreign u y ne z

    -- not the thread's own
    not_of : (p : Parcel) → is_of t p ≡ false → p.said ≡ reply.Taken → phase (c'.thr p.thread) ≡ phase (c.thr p.thread)
    not_of p e q = ap phase (other_is p.thread (λ f. no_way (sym (both_of (eqb p.thread t) (is_open p.said) (eq-eqb p.thread t f) (ap is_open q)) ∙ e)))

    -- ---- by what is told

    pub held_quiet : phase s' ≡ phase s → o.ans ≡ nothing → (p : Parcel) → Held m p → Held m' (moved Nothing p)
    unfolding moved
    held_quiet e f p h = stays B k (move t) p h (λ q. phases e p.thread) (λ q u ne z. goes f u p.index z)

  of_own : (p : Parcel) → Held m p → is_of t p ≡ true → phase s ≡ pick (is_linked p) 2 1
  of_own p h e = let b = both_true (eqb p.thread t) (is_open p.said) e in
      ap (λ (u : ℕ). phase (c.thr u)) (sym (eqb-true p.thread t b.0)) ∙ h.opened (open_is p.said b.1)

  pub held_said : (r : Reply) → c'.thr ≡ upd c.thr t idle → is_open r ≡ false → (turns_away r ≡ true → phase s ≡ 1) → owns_d s ≡ none
      → (p : Parcel) → Held m p → Held m' (moved (Answered t r) p)
  unfolding moved
  held_said r th r0 tn od p h = by (is_of t p) refl
    where
      by : (b : Bool) → is_of t p ≡ b → Held m' (pick b (with_said p r) p)
      by true e = record {
        opened = λ q. no_way (sym (ap is_open q) ∙ r0);
        turned = λ q. one_not (is_linked p) (sym (tn q) ∙ of_own p h e);
        taken = h.taken;
        handed = λ q. ((h.handed q).0, (h.handed q).1, covers B k (move t) p.index (h.handed q).2);
        taking = λ q u ne. apart idle th od u p.index (h.taking q u ne);
      }
      by false e = stays B k (move t) p h (not_of idle th p e) (λ q u ne z. apart idle th od u p.index z)

  pub held_gave : (g v : ℕ) → s ≡ d7 g v → c'.thr ≡ upd c.thr t idle → (p : Parcel) → Held m p → Held m' (moved (Gave t) p)
  unfolding moved
  held_gave g v sd th p h = by (is_taken_by t p) refl
    where
      open' : p.said ≡ reply.Taken → phase (c'.thr p.thread) ≡ phase (c.thr p.thread)
      open' q = on (ℕ_discrete p.thread t)
        where
          on : Dec (p.thread ≡ t) → phase (c'.thr p.thread) ≡ phase (c.thr p.thread)
          on (yes f) = absurd (zero_not (is_linked p) (sym (ap (λ (u : ℕ). phase (c.thr u)) f ∙ ap phase sd) ∙ h.opened q))
          on (no ne) = ap phase (other_is idle th p.thread ne)

      cover : p.taker ≡ Some t → (b : Bool) → p.handed ≡ b → Covered m p.index
      cover q true e = (h.handed e).2
      cover q false e = at_d7 m _ _ _ k.timed k.all t p.index g v sd
          (subst (Taking c.conf.engine m t p.index) sd (h.taking e t q))

      by : (b : Bool) → is_taken_by t p ≡ b → Held m' (pick b (with_handed p) p)
      by true e = let q = taker_is t p.taker e in record {
        opened = λ f. open' f ∙ h.opened f;
        turned = h.turned;
        taken = h.taken;
        handed = λ f. (t, q, covers B k (move t) p.index (cover q p.handed refl));
        taking = λ f u ne. no_way f;
      }
      by false e = stays B k (move t) p h open' (λ q u ne z. foreign idle th u p.index (λ f. no_way (sym (ap (is_thread t) ne ∙ eq-eqb u t f) ∙ e)) z)

  pub held_linked : (v n x y : ℕ) → s ≡ a8 v n x → c'.thr ≡ upd c.thr t (a9 v n x) → n < 64 → (p : Parcel) → Held m p → Held m' (moved (Linked t n y) p)
  unfolding moved
  held_linked v n x y sd th n64 p h = by (is_of t p) refl
    where
      by : (b : Bool) → is_of t p ≡ b → Held m' (pick b (with_link p n y) p)
      by true e =
          let b = both_true (eqb p.thread t) (is_open p.said) e in
          let no = one_not (is_linked p) (sym (ap phase sd) ∙ of_own p h e) in
          let lk : ltb n 64 ≡ true = lt-ltb n 64 n64 in
          record {
            opened = λ q. ap (λ (u : ℕ). phase (c'.thr u)) (eqb-true p.thread t b.0) ∙ ap phase (own_is (a9 v n x) th) ∙ ap (λ (z : Bool). pick z 2 1) (sym lk);
            turned = λ q. no_way (sym q ∙ ap turns_away (open_is p.said b.1));
            taken = λ u q. lk;
            handed = λ q. no_way (sym (h.taken (h.handed q).0 (h.handed q).1) ∙ no);
            taking = λ q u ne. no_way (sym (h.taken u ne) ∙ no);
          }
      by false e = stays B k (move t) p h (not_of (a9 v n x) th p e) (λ q u ne z. apart (a9 v n x) th (ap owns_d sd) u p.index z)

  pub held_took : (g i x y : ℕ) → s ≡ d4 g i x → c'.thr ≡ upd c.thr t (d5 g x) → c'.node ≡ c.node → y ≡ (c.node x).index
      → (p : Parcel) → Held m p → Held m' (moved (Took t y) p)
  unfolding moved
  held_took g i x y sd th nd ye p h = by (has_index y p) refl
    where
      open' : p.said ≡ reply.Taken → phase (c'.thr p.thread) ≡ phase (c.thr p.thread)
      open' q = phases (d5 g x) th (sym (ap phase sd)) p.thread

      by : (b : Bool) → has_index y p ≡ b → Held m' (pick b (with_taker p t) p)
      by true e = let b = both_true (is_linked p) (eqb p.index y) e in record {
        opened = λ f. open' f ∙ h.opened f;
        turned = h.turned;
        taken = λ u f. b.0;
        handed = λ f. (t, refl, covers B k (move t) p.index (h.handed f).2);
        taking = λ f u ne. subst (λ (u : ℕ). Taking c'.conf.engine m' u p.index (c'.thr u)) (some_is ne)
            (subst (Taking c'.conf.engine m' t p.index) (sym (own_is (d5 g x) th)) (ap (λ (f : ℕ → Node). (f x).index) nd ∙ sym ye ∙ sym (eqb-true p.index y b.1)));
      }
      by false e = stays B k (move t) p h open' (λ q u ne z. apart (d5 g x) th (ap owns_d sd) u p.index z)
