-- The entries, one behind the other; and whether there is room for them.
use Prim.Native.Nat.{ℕ, zero, suc, ◌+◌, ◌*◌, ◌<◌, ◌≤◌}
use mathlib.Core.Path.{◌≡◌, refl, sym, ap, ap₂, ◌∙◌}
use mathlib.Core.List.{List, ◌++◌}
use native.Mathlib.Omega.{arith}
use native.Mathlib.Numerals.{add-one}
use lib.ListN.{length, get_or, length-append}
use borrow.Author.Tests.{lt-ltb, le-ltb}
use Rattle.lists.specs.Tab.{over}
use Rattle.lists.proofs.TabLaws as tabs
use Rattle.std.specs.Prelude.{Ok, Err}
use Rattle.answer.specs.Answers.{given, Answer, Taken}
use Rattle.answer.specs.Answers as answers
use Rattle.answer.specs.declared.Refusal.TheVariants as why
use Rattle.machine.specs.declared.Machine.{Machine}
use Rattle.parcels.specs.Parcel.{no_parcel, parcels_in}
use Rattle.parcels.specs.Despatch.{entry_bytes}
use Rattle.parcels.specs.Started.{group_in, packed_to, pack_answer, Packed}
use Rattle.parcels.specs.declared.Parcel.{Parcel}
use Rattle.parcels.specs.declared.Group.{Group}

-- the entry of parcel j
abbrev entry_at : Machine → List Parcel → ℕ → List ℕ
entry_at m l j = entry_bytes (get_or l j no_parcel) (group_in m (get_or l j no_parcel))

pub packed_length : (m : Machine) (l : List Parcel) (j : ℕ) → length (packed_to m l j) ≡ j * 8
unfolding packed_to
packed_length m l zero = refl
packed_length m l (suc j) =
    length-append (packed_to m l j) (entry_at m l j) ∙ (let z : length (packed_to m l j) + 8 ≡ suc j * 8 = omega (arith, packed_length m l j) in z)

pub packed_none : (m : Machine) (l : List Parcel) (b : List ℕ) → b ≡ over b 0 (packed_to m l 0)
unfolding packed_to over
packed_none m l b = refl

packed_next : (m : Machine) (l : List Parcel) (j : ℕ) → packed_to m l j ++ entry_at m l j ≡ packed_to m l (j + 1)
unfolding packed_to
packed_next m l j = ap (packed_to m l) (sym (add-one j))

pub packed_over : (m : Machine) (l : List Parcel) (b : List ℕ) (j : ℕ) (p : Parcel) (c : Group) → p ≡ get_or l j no_parcel → c ≡ group_in m p
    → over (over b 0 (packed_to m l j)) (j * 8) (entry_bytes p c) ≡ over b 0 (packed_to m l (j + 1))
packed_over m l b j p c pe ce =
    ap₂ (λ (k : ℕ) (x : List ℕ). over (over b 0 (packed_to m l j)) k x) (let z : j * 8 ≡ 0 + length (packed_to m l j) = omega (arith, packed_length m l j) in z)
    (ap (entry_bytes p) ce ∙ ap (λ (p : Parcel). entry_bytes p (group_in m p)) pe)
    ∙ tabs.over_append b 0 (packed_to m l j) (entry_at m l j) ∙ ap (over b 0) (packed_next m l j)

module _ (s : List ℕ) (m : Machine) (b : List ℕ) (count : ℕ) (e : count ≡ length (parcels_in s)) where
  short : length b < count * 8 → pack_answer s (length b) ≡ answers.Room
  unfolding pack_answer
  short h = rw (lt-ltb (length b) (length (parcels_in s) * 8) (omega (arith, e))) refl

  enough : count * 8 ≤ length b → pack_answer s (length b) ≡ Taken
  unfolding pack_answer
  enough h = rw (le-ltb (length b) (length (parcels_in s) * 8) (omega (arith, e))) refl

  pub packed_short : length b < count * 8 → Packed s m b (Err why.Room) b
  packed_short h = record { gives = ap (λ (a : Answer). given a (length (parcels_in s))) (sym (short h)); bytes = rw (short h) refl }

  pub packed_all : count * 8 ≤ length b → (l : List Parcel) → l ≡ parcels_in s → (z : List ℕ) → z ≡ over b 0 (packed_to m l (length l)) → Packed s m b (Ok count) z
  packed_all h l f z ze = record {
    gives = ap Ok e ∙ ap (λ (a : Answer). given a (length (parcels_in s))) (sym (enough h));
    bytes = rw (enough h) (ze ∙ ap (λ (l : List Parcel). over b 0 (packed_to m l (length l))) f);
  }
