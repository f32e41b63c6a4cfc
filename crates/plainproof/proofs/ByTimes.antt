-- The machine with picks added beside the recorded one, moment by moment: it has gone through the recorded events with write-backs added, each line's at its pick.
-- Only this file looks at how a line is persisted.
use Prim.Native.Nat.{ℕ, zero, suc, ◌+◌, ◌≤◌, ◌<◌}
use mathlib.Core.Path.{◌≡◌, refl, sym, ap, subst, ◌∙◌}
use mathlib.Core.Bool.{Bool, true, false}
use mathlib.Core.List.{List, [], ◌∷◌}
use mathlib.Core.Logic.{◌≢◌}
use native.Mathlib.Omega.{arith}
use native.Mathlib.Decide.{ℕ_discrete, dec_lt}
use lib.ListN.{length, get_or, length-append}
use lib.Dec.{eqb, ltb}
use borrow.Author.Tests.{eqb-true, eq-eqb, lt-ltb, le-ltb}
use Rattle.lists.specs.Find.{pick}
use Rattle.lists.proofs.BoolLaws.{no_way}
use Rattle.answer.specs.Answers.{accepted}
use Rattle.image.specs.declared.Shape.{Shape}
use Rattle.machine.specs.Line.{shape_of, line_count, line_at}
use Rattle.machine.specs.Event.{crashes, deed_of, event_at}
use Rattle.machine.specs.declared.Line.{Line}
use Rattle.machine.specs.declared.Machine.{Machine}
use Rattle.machine.specs.declared.Event.{Event}
use Rattle.machine.specs.declared.Acted.{Acted}
use Rattle.machine.proofs.LineLaws.{LineIn, line_in, line_one, put_same, put_other}
use Rattle.schedule.specs.Run.{Bench, begins, forward, turned}
use Rattle.lawful.specs.Added.{write_back}
use Rattle.moments.proofs.Known.{Known, known_event}
use Rattle.pageproof.proofs.Alike.{Alike, alike_size}
use Rattle.pageproof.proofs.Events as events
use Rattle.pageproof.proofs.Events.{next, onto}
use Rattle.pageproof.proofs.Lengthened.{left_with, left_old, left_larger, Lengthened, lengthened_self, lengthened_keeps, lengthened_back, writes, from_past}
use Rattle.plainproof.specs.Plain.{played, backed, played_at}
use Rattle.plainproof.specs.Times.{Recorded, pick_leaves, ByTimes}

-- ---- the recorded bench at moment r

pub record At (b : Bench) (r : ℕ) : Type 0 where
  pub known : Known b
  pub long : length b.past ≡ suc r

-- a line counts from a moment that has been
pub early : (b : Bench) (r : ℕ) → At b r → (l : Line) → b.from l ≤ r
early b r a l = omega (arith, from_past b a.known l, a.long)

-- written back at its pick, a line is left with what the pick leaves
leaves : (b : Bench) → Known b → (l : Line) → LineIn (shape_of b.machine) l → (q : ℕ) → left_with b q l ≡ pick_leaves b l q
leaves b k l h zero = left_old b 0 l (omega arith)
leaves b k l h (suc q) = left_larger b k q l h

-- ---- one event

module _ (p : ℕ) (b : Bench) (e : Event) (t : accepted (event_at p b.machine e).answer ≡ true) (ne : deed_of e.kind ≢ crashes) where
  forward_onto : forward p b e ≡ onto b e
  forward_onto = ap (λ (o : Acted). turned b o (deed_of e.kind)) (events.taken_is p b.machine e t)

  at_next : (r : ℕ) → At b r → At (forward p b e) (suc r)
  at_next r a = record {
    known = known_event p b e a.known t;
    long = ap (λ (x : Bench). length x.past) (forward_onto ∙ events.onto_goes p b e t ne)
        ∙ length-append b.past (next b.machine e ∷ []) ∙ (let z : length b.past + 1 ≡ suc (suc r) = omega (arith, a.long) in z);
  }

  size_next : shape_of (forward p b e).machine ≡ shape_of b.machine
  size_next = ap (λ (x : Bench). shape_of x.machine) forward_onto ∙ events.onto_size p b e t ne

-- ---- line j's pick where it is below k, else nothing

abbrev below : List ℕ → ℕ → ℕ → ℕ
below π k j = pick (ltb (get_or π j 0) k) (get_or π j 0) 0

below_is : (π : List ℕ) (k j : ℕ) → get_or π j 0 < k → below π k j ≡ get_or π j 0
below_is π k j h = rw (lt-ltb (get_or π j 0) k h) refl

below_none : (π : List ℕ) (k j : ℕ) → k ≤ get_or π j 0 → below π k j ≡ 0
below_none π k j h = rw (le-ltb (get_or π j 0) k h) refl

below_more : (π : List ℕ) (k j : ℕ) → get_or π j 0 ≢ k → below π k j ≡ below π (suc k) j
below_more π k j ne = by (dec_lt (get_or π j 0) k)
  where
    by : Dec (get_or π j 0 < k) → below π k j ≡ below π (suc k) j
    by (yes h) = below_is π k j h ∙ sym (below_is π (suc k) j (omega arith))
    by (no h) = below_none π k j (omega arith) ∙ sym (below_none π (suc k) j (by_ne (ℕ_discrete (get_or π j 0) k)))
      where
        by_ne : Dec (get_or π j 0 ≡ k) → suc k ≤ get_or π j 0
        by_ne (yes i) = absurd (ne i)
        by_ne (no i) = omega arith

-- ---- the machine m' with picks added, beside the recorded bench b: the picks below k are written

pub record Near (z : Shape) (π : List ℕ) (b : Bench) (k : ℕ) (m' : Machine) : Type 0 where
  pub at : Line → ℕ
  pub lengthened : Lengthened b at m'
  pub picks : (j : ℕ) → j < line_count z → at (line_at z j) ≡ below π k j

near_event : (z : Shape) (π : List ℕ) (k p : ℕ) (b : Bench) → Known b → (e : Event) → accepted (event_at p b.machine e).answer ≡ true → deed_of e.kind ≢ crashes
    → (m' : Machine) → Near z π b k m' → Near z π (forward p b e) k (played m' e)
near_event z π k p b kn e t ne m' o = record {
  at = o.at;
  lengthened = subst (λ (x : Bench). Lengthened x o.at (played m' e)) (sym (forward_onto p b e t ne)) (lengthened_keeps p b kn o.at m' o.lengthened e ne t);
  picks = o.picks;
}

-- ---- the write-backs of one moment

module _ (z : Shape) (π : List ℕ) (b : Bench) (r : ℕ) (a : At b r) (size : shape_of b.machine ≡ z) (m' : Machine) (o : Near z π b (suc r) m') where
  -- line n is written back now, and no other
  here : (w : Line → ℕ) (n : ℕ) → writes b w n (line_at z n) ≡ suc r
  unfolding writes
  here w n = subst (λ (u : Shape). writes b w n (line_at u n) ≡ suc r) size (put_same w (line_at (shape_of b.machine) n) (length b.past) ∙ a.long)

  elsewhere : (w : Line → ℕ) (n j : ℕ) → j ≢ n → writes b w n (line_at z j) ≡ w (line_at z j)
  unfolding writes
  elsewhere w n j e =
      put_other w (line_at (shape_of b.machine) n) (length b.past) (line_at z j) (λ i. e (line_one z j n (i ∙ ap (λ (u : Shape). line_at u n) size)))

  -- x is m' with those of the first n lines
  record Backs (n : ℕ) (x : Machine) : Type 0 where
    pub at : Line → ℕ
    pub lengthened : Lengthened b at x
    pub done : (j : ℕ) → j < line_count z → j < n → at (line_at z j) ≡ below π (suc (suc r)) j
    pub rest : (j : ℕ) → j < line_count z → n ≤ j → at (line_at z j) ≡ below π (suc r) j

  backs : (n : ℕ) → n ≤ line_count z → Backs n (backed π r m' n)
  unfolding backed
  backs zero h = record { at = o.at; lengthened = o.lengthened; done = λ j i q. absurd (omega arith); rest = λ j i q. o.picks j i }
  backs (suc n) h = by (backs n (omega arith)) (eqb (get_or π n 0) (suc r)) refl
    where
      by : Backs n (backed π r m' n) → (x : Bool) → eqb (get_or π n 0) (suc r) ≡ x → Backs (suc n) (pick x (played (backed π r m' n) (write_back n)) (backed π r m' n))
      by y false x = record {
        at = y.at;
        lengthened = y.lengthened;
        done = λ j i q. at_line j i (ℕ_discrete j n) (omega arith);
        rest = λ j i q. y.rest j i (omega arith);
      }
        where
          other : get_or π n 0 ≢ suc r
          other i = no_way (sym (eq-eqb (get_or π n 0) (suc r) i) ∙ x)

          at_line : (j : ℕ) → j < line_count z → Dec (j ≡ n) → j ≤ n → y.at (line_at z j) ≡ below π (suc (suc r)) j
          at_line j i (yes e) q = y.rest j i (omega arith) ∙ below_more π (suc r) j (subst (λ (u : ℕ). get_or π u 0 ≢ suc r) (sym e) other)
          at_line j i (no e) q = y.done j i (omega arith)
      by y true x = record {
        at = writes b y.at n;
        lengthened = lengthened_back b a.known y.at (backed π r m' n) y.lengthened n (subst (λ (u : Shape). n < line_count u) (sym size) (omega arith));
        done = λ j i q. at_line j i (ℕ_discrete j n) (omega arith);
        rest = λ j i q. elsewhere y.at n j (λ e. omega arith) ∙ y.rest j i (omega arith);
      }
        where
          is : get_or π n 0 ≡ suc r
          is = eqb-true (get_or π n 0) (suc r) x

          at_line : (j : ℕ) → j < line_count z → Dec (j ≡ n) → j ≤ n → writes b y.at n (line_at z j) ≡ below π (suc (suc r)) j
          at_line j i (yes e) q =
              subst (λ (u : ℕ). writes b y.at n (line_at z u) ≡ below π (suc (suc r)) u) (sym e)
              (here y.at n ∙ sym is ∙ sym (below_is π (suc (suc r)) n (omega (arith, is))))
          at_line j i (no e) q = elsewhere y.at n j e ∙ y.done j i (omega arith)

  near_backs : Near z π b (suc (suc r)) (backed π r m' (line_count z))
  near_backs = let y = backs (line_count z) (omega arith) in record { at = y.at; lengthened = y.lengthened; picks = λ j i. y.done j i i }

-- ---- the run

module _ (m : Machine) (f : ℕ → Event) (e : ℕ) (B : ℕ → Bench) (c : Recorded m f e B) (π : List ℕ) where
  abbrev z : Shape
  z = shape_of m

  abbrev M : ℕ → Machine
  M r = played_at π (line_count z) m f r

  pub at_moment : (r : ℕ) → r ≤ e → At (B r) r × (shape_of (B r).machine ≡ z)
  at_moment zero h = rw c.first (record { known = c.known; long = refl }, refl)
  at_moment (suc r) h =
      let q : r < e = omega arith in
      let o = at_moment r (omega arith) in
      let n = c.next r q in (
        subst (λ (x : Bench). At x (suc r)) (sym n.2) (at_next n.0 (B r) (f r) n.1 (c.free r q) r o.0),
        ap (λ (x : Bench). shape_of x.machine) n.2 ∙ size_next n.0 (B r) (f r) n.1 (c.free r q) ∙ o.1,
      )

  near_start : Near z π (B 0) 1 m
  near_start = rw c.first (record { at = λ l. 0; lengthened = lengthened_self (begins m) c.known; picks = λ j h. sym (none j (dec_lt (get_or π j 0) 1)) })
    where
      none : (j : ℕ) → Dec (get_or π j 0 < 1) → below π 1 j ≡ 0
      none j (yes q) = below_is π 1 j q ∙ omega arith
      none j (no q) = below_none π 1 j (omega arith)

  pub near_moment : (r : ℕ) → r ≤ e → Near z π (B r) (suc (suc r)) (M r)
  unfolding played_at
  near_moment zero h = let o = at_moment zero h in near_backs z π (B 0) 0 o.0 o.1 m near_start
  near_moment (suc r) h =
      let q : r < e = omega arith in
      let i : r ≤ e = omega arith in
      let o = at_moment r i in
      let o' = at_moment (suc r) h in
      let n = c.next r q in
      near_backs z π (B (suc r)) (suc r) o'.0 o'.1 (played (M r) (f r))
      (subst (λ (x : Bench). Near z π x (suc (suc r)) (played (M r) (f r))) (sym n.2)
      (near_event z π (suc (suc r)) n.0 (B r) o.0.known (f r) n.1 (c.free r q) (M r) (near_moment r i)))

  -- as far as steps and sizes go the machine is the recorded one
  pub alike_moment : (r : ℕ) → r ≤ e → Alike (B r).machine (M r)
  alike_moment r h = (near_moment r h).lengthened.alike

  pub size_moment : (r : ℕ) → r ≤ e → shape_of (M r) ≡ z
  size_moment r h = alike_size (B r).machine (M r) (alike_moment r h) ∙ (at_moment r h).1

pub by_times : ByTimes
by_times m f e B c π j h q =
    let i : e ≤ e = omega arith in
    let o = near_moment m f e B c π e i in
    let a = at_moment m f e B c π e i in
    let l = line_at (shape_of m) j in
    let there : LineIn (shape_of (B e).machine) l = subst (λ (x : Shape). LineIn x l) (sym a.1) (line_in (shape_of m) j h) in
    o.lengthened.kept l there ∙ ap (λ (k : ℕ). left_with (B e) k l) (o.picks j h ∙ below_is π (suc (suc e)) j (omega arith))
    ∙ leaves (B e) a.0.known l there (get_or π j 0)
