-- Every enqueue begun since the last start stands in the list once, in begin order, and nothing else does.
use Prim.Native.Nat.{ℕ, zero, suc, ◌<◌, ◌≤◌}
use mathlib.Core.Path.{◌≡◌, refl, sym, ap, ap₂, subst, ◌∙◌}
use mathlib.Core.Bool.{Bool, true, false}
use mathlib.Core.List.{List, [], ◌∷◌, ◌++◌, map, map-append}
use mathlib.Core.Logic.{◌≢◌, ◌⊎◌, inl, inr}
use native.Mathlib.Omega.{arith}
use native.Mathlib.Decide.{ℕ_discrete}
use lib.Dec.{eqb}
use Rattle.lists.specs.Find.{pick, both}
use Rattle.machine.specs.Event.{Deed, unknown, enqueues, dequeues, steps, writes_back, crashes, deed_of}
use Rattle.machine.specs.Rising.{among, Rising}
use Rattle.machine.specs.declared.Machine.{Machine}
use Rattle.machine.specs.declared.Acted.{Acted}
use Rattle.schedule.specs.Layout.{event_in, count_in}
use Rattle.parcels.specs.Parcel.{is_of, has_index, is_taken_by, with_link, with_said, with_taker, with_handed, moved, fresh, noted, machine_at, acted_at, parcels_to, parcels_in}
use Rattle.parcels.specs.declared.News.{News}
use Rattle.parcels.specs.declared.News.TheVariants.{Nothing, Linked, Answered, Took, Gave}
use Rattle.parcels.specs.declared.Parcel.{Parcel}
use Rattle.parcelproof.specs.Begun.{Since, begun_by, begins_to, Stands}

-- ---- what the news leave of a parcel

abbrev Same : Parcel → Parcel → Type 0
Same p q = (p.began ≡ q.began) × (p.thread ≡ q.thread) × (p.item ≡ q.item)

pick_same : (b : Bool) (p q r : Parcel) → Same p r → Same q r → Same (pick b p q) r
pick_same true p q r x y = x
pick_same false p q r x y = y

moved_same : (w : News) (p : Parcel) → Same (moved w p) p
unfolding moved
moved_same Nothing p = (refl, refl, refl)
moved_same (Linked k i x) p = pick_same (is_of k p) (with_link p i x) p p (refl, refl, refl) (refl, refl, refl)
moved_same (Answered k r) p = pick_same (is_of k p) (with_said p r) p p (refl, refl, refl) (refl, refl, refl)
moved_same (Took k x) p = pick_same (has_index x p) (with_taker p k) p p (refl, refl, refl) (refl, refl, refl)
moved_same (Gave k) p = pick_same (is_taken_by k p) (with_handed p) p p (refl, refl, refl) (refl, refl, refl)

map_kept : (f : Parcel → ℕ) (g : Parcel → Parcel) → ((p : Parcel) → f (g p) ≡ f p) → (l : List Parcel) → map f (map g l) ≡ map f l
map_kept f g h [] = refl
map_kept f g h (p ∷ l) = ap₂ (λ (x : ℕ) (t : List ℕ). x ∷ t) (h p) (map_kept f g h l)

-- ---- the list

next_stands : (s : List ℕ) (i : ℕ) (m : Machine) (o : Acted) (l : List Parcel) (js : List ℕ) (d : Deed) → Stands s l js → Stands s (noted i (event_in s i) m o l d) (begun_by i js d)
next_stands s i m o l js unknown h = h
next_stands s i m o l js dequeues h = h
next_stands s i m o l js writes_back h = h
next_stands s i m o l js crashes h = record { began = refl; threads = refl; items = refl }
next_stands s i m o l js steps h = record {
  began = map_kept (λ (p : Parcel). p.began) (moved _) (λ p. (moved_same _ p).0) l ∙ h.began;
  threads = map_kept (λ (p : Parcel). p.thread) (moved _) (λ p. (moved_same _ p).1) l ∙ h.threads;
  items = map_kept (λ (p : Parcel). p.item) (moved _) (λ p. (moved_same _ p).2) l ∙ h.items;
}
next_stands s i m o l js enqueues h = record {
  began = map-append (λ (p : Parcel). p.began) l (fresh i (event_in s i) ∷ []) ∙ ap (λ (t : List ℕ). t ++ (i ∷ [])) h.began;
  threads = map-append (λ (p : Parcel). p.thread) l (fresh i (event_in s i) ∷ []) ∙ ap (λ (t : List ℕ). t ++ ((event_in s i).number ∷ [])) h.threads ∙ sym (map-append (λ j. (event_in s j).number) js (i ∷ []));
  items = map-append (λ (p : Parcel). p.item) l (fresh i (event_in s i) ∷ []) ∙ ap (λ (t : List ℕ). t ++ ((event_in s i).item ∷ [])) h.items ∙ sym (map-append (λ j. (event_in s j).item) js (i ∷ []));
}

pub stands_to : (s : List ℕ) (i : ℕ) → Stands s (parcels_to s i) (begins_to s i)
unfolding parcels_to begins_to
stands_to s zero = record { began = refl; threads = refl; items = refl }
stands_to s (suc i) = next_stands s i (machine_at s i) (acted_at s i) (parcels_to s i) (begins_to s i) (deed_of (event_in s i).kind) (stands_to s i)

pub list_stands : (s : List ℕ) → Stands s (parcels_in s) (begins_to s (count_in s))
list_stands s = stands_to s (count_in s)

-- ---- which events these are

among_add : (l : List ℕ) (x y : ℕ) → among x (l ++ (y ∷ [])) → among x l ⊎ (x ≡ y)
among_add [] x y (inl h) = inr h
among_add [] x y (inr h) = absurd h
among_add (z ∷ l) x y (inl h) = inl (inl h)
among_add (z ∷ l) x y (inr h) = by (among_add l x y h)
  where
    by : among x l ⊎ (x ≡ y) → ((x ≡ z) ⊎ among x l) ⊎ (x ≡ y)
    by (inl k) = inl (inr k)
    by (inr k) = inr k

among_old : (l : List ℕ) (x y : ℕ) → among x l → among x (l ++ (y ∷ []))
among_old [] x y h = absurd h
among_old (z ∷ l) x y (inl h) = inl h
among_old (z ∷ l) x y (inr h) = inr (among_old l x y h)

among_new : (l : List ℕ) (y : ℕ) → among y (l ++ (y ∷ []))
among_new [] y = inl refl
among_new (z ∷ l) y = inr (among_new l y)

-- one event more that is no crash
further : (s : List ℕ) (j i : ℕ) → deed_of (event_in s i).kind ≢ crashes → Since s j i → Since s j (suc i)
further s j i ne h = record {
  before = omega (arith, h.before);
  begins = h.begins;
  lasts = λ k a b. by k a b (ℕ_discrete k i);
}
  where
    by : (k : ℕ) → j < k → k < suc i → Dec (k ≡ i) → deed_of (event_in s k).kind ≢ crashes
    by k a b (yes e) = subst (λ (x : ℕ). deed_of (event_in s x).kind ≢ crashes) (sym e) ne
    by k a b (no e) = h.lasts k a (omega arith)

back : (s : List ℕ) (j i : ℕ) → j < i → Since s j (suc i) → Since s j i
back s j i l h = record { before = l; begins = h.begins; lasts = λ k a b. h.lasts k a (omega arith) }

module _ (s : List ℕ) where
  there_by : (i j : ℕ) (d : Deed) → deed_of (event_in s i).kind ≡ d → ((k : ℕ) → among k (begins_to s i) → Since s k i) → among j (begun_by i (begins_to s i) d) → Since s j (suc i)
  there_by i j unknown e f h = further s j i (λ z. let q : ◌≡◌ {A = ℕ} 0 1 = cc in absurd (omega arith)) (f j h)
  there_by i j dequeues e f h = further s j i (λ z. let q : ◌≡◌ {A = ℕ} 0 1 = cc in absurd (omega arith)) (f j h)
  there_by i j steps e f h = further s j i (λ z. let q : ◌≡◌ {A = ℕ} 0 1 = cc in absurd (omega arith)) (f j h)
  there_by i j writes_back e f h = further s j i (λ z. let q : ◌≡◌ {A = ℕ} 0 1 = cc in absurd (omega arith)) (f j h)
  there_by i j crashes e f h = absurd h
  there_by i j enqueues e f h = by (among_add (begins_to s i) j i h)
    where
      by : among j (begins_to s i) ⊎ (j ≡ i) → Since s j (suc i)
      by (inl k) = further s j i (λ z. let q : ◌≡◌ {A = ℕ} 0 1 = cc in absurd (omega arith)) (f j k)
      by (inr k) = record { before = omega arith; begins = ap (λ (x : ℕ). deed_of (event_in s x).kind) k ∙ e; lasts = λ x a b. absurd (omega arith) }

  -- what stands there was begun since the last start
  pub there_since : (i j : ℕ) → among j (begins_to s i) → Since s j i
  unfolding begins_to
  there_since zero j h = absurd h
  there_since (suc i) j h = there_by i j (deed_of (event_in s i).kind) refl (there_since i) h

  since_by : (i j : ℕ) (d : Deed) → deed_of (event_in s i).kind ≡ d → ((k : ℕ) → Since s k i → among k (begins_to s i)) → Since s j (suc i) → Dec (j ≡ i)
      → among j (begun_by i (begins_to s i) d)
  since_by i j unknown e f h (no n) = f j (back s j i (omega (arith, h.before)) h)
  since_by i j unknown e f h (yes n) = absurd (let z = sym (ap (λ (x : ℕ). deed_of (event_in s x).kind) n ∙ e) ∙ h.begins in let q : ◌≡◌ {A = ℕ} 0 1 = cc in omega arith)
  since_by i j dequeues e f h (no n) = f j (back s j i (omega (arith, h.before)) h)
  since_by i j dequeues e f h (yes n) = absurd (let z = sym (ap (λ (x : ℕ). deed_of (event_in s x).kind) n ∙ e) ∙ h.begins in let q : ◌≡◌ {A = ℕ} 0 1 = cc in omega arith)
  since_by i j steps e f h (no n) = f j (back s j i (omega (arith, h.before)) h)
  since_by i j steps e f h (yes n) = absurd (let z = sym (ap (λ (x : ℕ). deed_of (event_in s x).kind) n ∙ e) ∙ h.begins in let q : ◌≡◌ {A = ℕ} 0 1 = cc in omega arith)
  since_by i j writes_back e f h (no n) = f j (back s j i (omega (arith, h.before)) h)
  since_by i j writes_back e f h (yes n) = absurd (let z = sym (ap (λ (x : ℕ). deed_of (event_in s x).kind) n ∙ e) ∙ h.begins in let q : ◌≡◌ {A = ℕ} 0 1 = cc in omega arith)
  since_by i j crashes e f h (no n) = absurd (h.lasts i (omega (arith, h.before)) (omega arith) e)
  since_by i j crashes e f h (yes n) = absurd (let z = sym (ap (λ (x : ℕ). deed_of (event_in s x).kind) n ∙ e) ∙ h.begins in let q : ◌≡◌ {A = ℕ} 0 1 = cc in omega arith)
  since_by i j enqueues e f h (no n) = among_old (begins_to s i) j i (f j (back s j i (omega (arith, h.before)) h))
  since_by i j enqueues e f h (yes n) = subst (λ (x : ℕ). among x (begins_to s i ++ (i ∷ []))) (sym n) (among_new (begins_to s i) i)

  -- every enqueue begun since the last start stands there
  pub since_there : (i j : ℕ) → Since s j i → among j (begins_to s i)
  unfolding begins_to
  since_there zero j h = absurd (omega (arith, h.before))
  since_there (suc i) j h = since_by i j (deed_of (event_in s i).kind) refl (since_there i) h (ℕ_discrete j i)

  -- ---- once, in begin order

  rising_add : (l : List ℕ) (y : ℕ) → ((x : ℕ) → among x l → x < y) → Rising (λ x. x) l → Rising (λ x. x) (l ++ (y ∷ []))
  rising_add [] y f h = ((λ z k. absurd k), tt)
  rising_add (x ∷ l) y f h = ((λ z k. by z (among_add l z y k)), rising_add l y (λ z k. f z (inr k)) h.1)
    where
      by : (z : ℕ) → among z l ⊎ (z ≡ y) → x < z
      by z (inl k) = h.0 z k
      by z (inr k) = omega (arith, f x (inl refl))

  rises_by : (i : ℕ) (d : Deed) → Rising (λ x. x) (begins_to s i) → Rising (λ x. x) (begun_by i (begins_to s i) d)
  rises_by i unknown h = h
  rises_by i enqueues h = rising_add (begins_to s i) i (λ x k. (there_since i x k).before) h
  rises_by i dequeues h = h
  rises_by i steps h = h
  rises_by i writes_back h = h
  rises_by i crashes h = tt

  pub begins_rise : (i : ℕ) → Rising (λ x. x) (begins_to s i)
  unfolding begins_to
  begins_rise zero = tt
  begins_rise (suc i) = rises_by i (deed_of (event_in s i).kind) (begins_rise i)
