-- Items under other names: a history that is lawful stays so. Assumes nothing.
use Prim.Native.Nat.{ℕ, zero, suc, ◌<◌}
use mathlib.Core.Path.{◌≡◌, refl, sym, ap, subst, ◌∙◌}
use mathlib.Core.Bool.{Bool, true, false}
use mathlib.Core.List.{List, [], ◌∷◌, ◌++◌, map, map-append}
use mathlib.Core.Logic.{inl, inr}
use mathlib.Core.Option.{Option, none, some}
use native.Mathlib.Omega.{arith}
use lib.ListN.{length, length-map}
use lib.Dec.{eqb}
use borrow.Author.Tests.{eqb-true, eq-eqb}
use Rattle.lawful.specs.Operation.{Operation, Reply, nothing, done, full, worn_out, empty, gave, says, Call, puts, takes}
use Rattle.lawful.specs.Plain.{put_by, take_by, serve, onward, serve_all}
use Rattle.lawful.specs.Lawful.{no_operation, at, Has, Earlier, Timely, Lawful}

module _ (f : ℕ → ℕ) where
  abbrev pub renamed_call : Call → Call
  renamed_call (puts v) = puts (f v)
  renamed_call takes = takes

  abbrev pub renamed_reply : Reply → Reply
  renamed_reply nothing = nothing
  renamed_reply done = done
  renamed_reply full = full
  renamed_reply worn_out = worn_out
  renamed_reply empty = empty
  renamed_reply (gave v) = gave (f v)

  -- a history has no threads
  abbrev pub renamed : Operation → Operation
  renamed o = record { thread = 0; call = renamed_call o.call; began = o.began; reply = renamed_reply o.reply; ended = o.ended }

  pub at_renamed : (ops : List Operation) (k : ℕ) → at (map renamed ops) k ≡ renamed (at ops k)
  at_renamed [] k = refl
  at_renamed (o ∷ ops) zero = refl
  at_renamed (o ∷ ops) (suc k) = at_renamed ops k

  pub says_renamed : (r : Reply) → says (renamed_reply r) ≡ says r
  says_renamed nothing = refl
  says_renamed done = refl
  says_renamed full = refl
  says_renamed worn_out = refl
  says_renamed empty = refl
  says_renamed (gave v) = refl

  -- ---- what a plain queue does

  put_renamed : (v : ℕ) (r : Reply) (q q' : List ℕ) → put_by v r q ≡ some q' → put_by (f v) (renamed_reply r) (map f q) ≡ some (map f q')
  put_renamed v nothing q q' e = let z : q ++ (v ∷ []) ≡ q' = cc in ap (λ (l : List ℕ). some l) (sym (map-append f q (v ∷ [])) ∙ ap (map f) z)
  put_renamed v done q q' e = let z : q ++ (v ∷ []) ≡ q' = cc in ap (λ (l : List ℕ). some l) (sym (map-append f q (v ∷ [])) ∙ ap (map f) z)
  put_renamed v full q q' e = let z : q ≡ q' = cc in ap (λ (l : List ℕ). some (map f l)) z
  put_renamed v worn_out q q' e = let z : q ≡ q' = cc in ap (λ (l : List ℕ). some (map f l)) z
  put_renamed v empty q q' e = let z : ◌≡◌ {A = ℕ} 0 1 = cc in absurd (omega arith)
  put_renamed v (gave x) q q' e = let z : ◌≡◌ {A = ℕ} 0 1 = cc in absurd (omega arith)

  given_renamed : (x v : ℕ) (q q' : List ℕ) → take_by (gave v) (x ∷ q) ≡ some q' → take_by (gave (f v)) (f x ∷ map f q) ≡ some (map f q')
  given_renamed x v q q' = by (eqb x v) refl
    where
      by : (b : Bool) → eqb x v ≡ b → elim b as (λ _. Option (List ℕ)) [ true ↦ some q | false ↦ none ] ≡ some q' → take_by (gave (f v)) (f x ∷ map f q) ≡ some (map f q')
      by true a e = let z : q ≡ q' = cc in
          ap (λ (b : Bool). elim b as (λ _. Option (List ℕ)) [ true ↦ some (map f q) | false ↦ none ]) (eq-eqb (f x) (f v) (ap f (eqb-true x v a)))
          ∙ ap (λ (l : List ℕ). some (map f l)) z
      by false a e = let z : ◌≡◌ {A = ℕ} 0 1 = cc in absurd (omega arith)

  take_renamed : (r : Reply) (q q' : List ℕ) → take_by r q ≡ some q' → take_by (renamed_reply r) (map f q) ≡ some (map f q')
  take_renamed nothing [] q' e = let z : [] ≡ q' = cc in ap (λ (l : List ℕ). some (map f l)) z
  take_renamed nothing (x ∷ q) q' e = let z : q ≡ q' = cc in ap (λ (l : List ℕ). some (map f l)) z
  take_renamed empty [] q' e = let z : [] ≡ q' = cc in ap (λ (l : List ℕ). some (map f l)) z
  take_renamed empty (x ∷ q) q' e = let z : ◌≡◌ {A = ℕ} 0 1 = cc in absurd (omega arith)
  take_renamed (gave v) [] q' e = let z : ◌≡◌ {A = ℕ} 0 1 = cc in absurd (omega arith)
  take_renamed (gave v) (x ∷ q) q' e = given_renamed x v q q' e
  take_renamed done q q' e = let z : ◌≡◌ {A = ℕ} 0 1 = cc in absurd (omega arith)
  take_renamed full q q' e = let z : ◌≡◌ {A = ℕ} 0 1 = cc in absurd (omega arith)
  take_renamed worn_out q q' e = let z : ◌≡◌ {A = ℕ} 0 1 = cc in absurd (omega arith)

  serve_renamed : (c : Call) (r : Reply) (q q' : List ℕ) → serve c r q ≡ some q' → serve (renamed_call c) (renamed_reply r) (map f q) ≡ some (map f q')
  serve_renamed (puts v) r q q' e = put_renamed v r q q' e
  serve_renamed takes r q q' e = take_renamed r q q' e

  pub plays_renamed : (l : List Operation) (q last : List ℕ) → serve_all l q ≡ some last → serve_all (map renamed l) (map f q) ≡ some (map f last)
  unfolding serve_all
  plays_renamed [] q last e = let z : q ≡ last = cc in ap (λ (l : List ℕ). some (map f l)) z
  plays_renamed (o ∷ l) q last e = by (serve o.call o.reply q) refl e (λ q' h. plays_renamed l q' last h)
    where
      by : (x : Option (List ℕ)) → serve o.call o.reply q ≡ x → onward x (λ r. serve_all l r) ≡ some last
          → ((q' : List ℕ) → serve_all l q' ≡ some last → serve_all (map renamed l) (map f q') ≡ some (map f last))
          → onward (serve (renamed_call o.call) (renamed_reply o.reply) (map f q)) (λ r. serve_all (map renamed l) r) ≡ some (map f last)
      by none a h rest = let z : ◌≡◌ {A = ℕ} 0 1 = cc in absurd (omega arith)
      by (some q') a h rest = rw (serve_renamed o.call o.reply q q' a) (rest q' h)

  -- ---- and its order

  map_at : (ops : List Operation) (l : List ℕ) → map (at (map renamed ops)) l ≡ map renamed (map (at ops) l)
  map_at ops [] = refl
  map_at ops (k ∷ l) = rw (at_renamed ops k, map_at ops l)

  earlier_renamed : (ops : List Operation) (j k : ℕ) → Earlier (at (map renamed ops) j) (at (map renamed ops) k) → Earlier (at ops j) (at ops k)
  earlier_renamed ops j k e =
      let w : Earlier (renamed (at ops j)) (renamed (at ops k)) =
      subst (λ (o : Operation). Earlier o (renamed (at ops k))) (at_renamed ops j) (subst (λ (o : Operation). Earlier (at (map renamed ops) j) o) (at_renamed ops k) e) in
      (sym (says_renamed (at ops j).reply) ∙ w.0, w.1)

  timely_renamed : (ops : List Operation) (l : List ℕ) → Timely ops l → Timely (map renamed ops) l
  timely_renamed ops [] t = tt
  timely_renamed ops (k ∷ l) t = (λ j h e. t.0 j h (earlier_renamed ops j k e), timely_renamed ops l t.1)

  pub lawful_renamed : (ops : List Operation) (first last : List ℕ) → Lawful ops first last → Lawful (map renamed ops) (map f first) (map f last)
  lawful_renamed ops first last w = record {
    order = w.order;
    within = λ k h. omega (arith, w.within k h, length-map ops renamed);
    once = w.once;
    whole = λ k h e. w.whole k (omega (arith, length-map ops renamed)) (sym (says_renamed (at ops k).reply) ∙ ap (λ (o : Operation). says o.reply) (sym (at_renamed ops k)) ∙ e);
    timely = timely_renamed ops w.order w.timely;
    plays = ap (λ (l : List Operation). serve_all l (map f first)) (map_at ops w.order) ∙ plays_renamed (map (at ops) w.order) first last w.plays;
  }
