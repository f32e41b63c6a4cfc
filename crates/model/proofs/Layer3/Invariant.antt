-- The invariant of the third layer: effects and operations fit each other, and each thread's operation is where its step says.
use mathlib.Core.Path.{◌≡◌, refl, sym, ap, ◌∙◌}
use mathlib.Core.Bool.{Bool, true}
use mathlib.Core.List.{List, [], ◌∷◌}
use mathlib.Core.Logic.{◌≢◌, inl, inr}
use mathlib.Core.Option.{some}
use Prim.Native.Nat.{ℕ, suc, ◌≤◌, ◌<◌}
use native.Mathlib.Omega.{arith}
use Rattle.model.specs.Core.{elsewhere, a10f, d3f, d6f}
use Rattle.model.specs.Core.{Th, nothing, done, empty, item, acts, idle, a1, a2, a3, a4, a5, a6, a7, a8, a9, a10, a11, a12, d1, d2, d3, d4, d5}
use Rattle.model.specs.Core.{d6, d7, s3, s6}
use Rattle.model.specs.Lawful.{Op, Call, putting, taking}
use Rattle.model.specs.Places.{owns_d}
use Rattle.model.proofs.Layer1.Ghost.{Place, deqd}
use Rattle.model.proofs.Layer3.Effects.{Lin, What, put, get, saw, nay, has_l, Fresh, Falling, NoTwo, Sound, Okay, Fits}

-- an entry of an operation
pub record Mark (lin : List Lin) (o : ℕ) (w : What) : Type 0 where
  pub entry : Lin
  pub there : has_l entry lin
  pub its : entry.by ≡ o
  pub kind : entry.what ≡ w

abbrev pub CurOf : (call : Call) (lin : List Lin) (hp : ℕ) (who : ℕ → ℕ) (own : ℕ → Place) (b len t o : ℕ) → Th → Type 0
CurOf call lin hp who own b len t o idle = Unit {0}
CurOf call lin hp who own b len t o (a1 v) = (call ≡ putting v) × Fresh o lin
CurOf call lin hp who own b len t o (a2 v n) = (call ≡ putting v) × Fresh o lin
CurOf call lin hp who own b len t o (a3 v n) = (call ≡ putting v) × Fresh o lin
CurOf call lin hp who own b len t o (a4 v n) = (call ≡ putting v) × Fresh o lin
CurOf call lin hp who own b len t o (a5 v n) = (call ≡ putting v) × Fresh o lin
CurOf call lin hp who own b len t o (a6 v n x) = (call ≡ putting v) × Fresh o lin
CurOf call lin hp who own b len t o (a7 v n x) = (call ≡ putting v) × Fresh o lin
CurOf call lin hp who own b len t o (a8 v n x) = (call ≡ putting v) × Fresh o lin
CurOf call lin hp who own b len t o (a9 v n x) = (p : ℕ) × (b ≤ p) × (p < len) × (who p ≡ n) × Mark lin o (put p)
CurOf call lin hp who own b len t o (a10 v n x) = (p : ℕ) × (b ≤ p) × (p < len) × (who p ≡ n) × Mark lin o (put p)
CurOf call lin hp who own b len t o (a10f v n x) = (p : ℕ) × (b ≤ p) × (p < len) × (who p ≡ n) × Mark lin o (put p)
CurOf call lin hp who own b len t o (a11 v n x) = (p : ℕ) × (b ≤ p) × (p < len) × (who p ≡ n) × Mark lin o (put p)
CurOf call lin hp who own b len t o (a12 v n x) = (call ≡ putting v) × Fresh o lin
CurOf call lin hp who own b len t o d1 = (call ≡ taking) × Fresh o lin
CurOf call lin hp who own b len t o elsewhere = Unit {0}
CurOf call lin hp who own b len t o (d2 h i) = (call ≡ taking) × Fresh o lin
CurOf call lin hp who own b len t o (d3 h i) = (p : ℕ) × (b ≤ p) × (p < len) × (who p ≡ h) × Mark lin o (saw p)
CurOf call lin hp who own b len t o (d3f h i) = (p : ℕ) × (b ≤ p) × (p < len) × (who p ≡ h) × Mark lin o (saw p)
CurOf call lin hp who own b len t o (s3 h i) = (p : ℕ) × (b ≤ p) × (p < len) × (who p ≡ h) × Mark lin o (saw p)
CurOf call lin hp who own b len t o (d4 h i x) = (call ≡ taking) × Fresh o lin
CurOf call lin hp who own b len t o (d5 h x) = (q : ℕ) → own h ≡ deqd t q → Mark lin o (get (suc q))
CurOf call lin hp who own b len t o (d6 h v) = (q : ℕ) → own h ≡ deqd t q → Mark lin o (get (suc q))
CurOf call lin hp who own b len t o (d6f h v) = (q : ℕ) → own h ≡ deqd t q → Mark lin o (get (suc q))
CurOf call lin hp who own b len t o (s6 h x v) = (q : ℕ) → own h ≡ deqd t q → Mark lin o (get (suc q))
CurOf call lin hp who own b len t o (d7 h v) = (q : ℕ) → own h ≡ deqd t q → Mark lin o (get (suc q))

module _ (call : Call) (lin lin' : List Lin) (hp hp' : ℕ) (who who' : ℕ → ℕ) (own own' : ℕ → Place) (b len len' t o : ℕ)
    (sub : (e : Lin) → has_l e lin → has_l e lin') (fr : Fresh o lin → Fresh o lin') (wk : (p : ℕ) → p < len → who' p ≡ who p) (hps : hp ≤ hp')
    (ls : len ≤ len') where
  mark : {w : What} → Mark lin o w → Mark lin' o w
  mark k = record { entry = k.entry; there = sub k.entry k.there; its = k.its; kind = k.kind }

  linkd : (w : ℕ → What) {n : ℕ} → (p : ℕ) × (b ≤ p) × (p < len) × (who p ≡ n) × Mark lin o (w p) → (p : ℕ) × (b ≤ p) × (p < len') × (who' p ≡ n)
      × Mark lin' o (w p)
  linkd w k = (k.0, k.1, omega (arith, k.2), wk k.0 k.2 ∙ k.3, mark k.4)

  pub cur_map : (s : Th) → ((h q : ℕ) → owns_d s ≡ some h → own' h ≡ deqd t q → own h ≡ deqd t q) → CurOf call lin hp who own b len t o s
      → CurOf call lin' hp' who' own' b len' t o s
  cur_map idle f k = tt
  cur_map (a1 v) f k = (k.0, fr k.1)
  cur_map (a2 v n) f k = (k.0, fr k.1)
  cur_map (a3 v n) f k = (k.0, fr k.1)
  cur_map (a4 v n) f k = (k.0, fr k.1)
  cur_map (a5 v n) f k = (k.0, fr k.1)
  cur_map (a6 v n x) f k = (k.0, fr k.1)
  cur_map (a7 v n x) f k = (k.0, fr k.1)
  cur_map (a8 v n x) f k = (k.0, fr k.1)
  cur_map (a9 v n x) f k = linkd put k
  cur_map (a10 v n x) f k = linkd put k
  cur_map (a10f v n x) f k = linkd put k
  cur_map (a11 v n x) f k = linkd put k
  cur_map (a12 v n x) f k = (k.0, fr k.1)
  cur_map d1 f k = (k.0, fr k.1)
  cur_map elsewhere f k = tt
  cur_map (d2 h i) f k = (k.0, fr k.1)
  cur_map (d3 h i) f k = linkd saw k
  cur_map (d3f h i) f k = linkd saw k
  cur_map (s3 h i) f k = linkd saw k
  cur_map (d4 h i x) f k = (k.0, fr k.1)
  cur_map (d5 h x) f k = λ q e. mark (k q (f h q refl e))
  cur_map (d6 h v) f k = λ q e. mark (k q (f h q refl e))
  cur_map (d6f h v) f k = λ q e. mark (k q (f h q refl e))
  cur_map (s6 h x v) f k = λ q e. mark (k q (f h q refl e))
  cur_map (d7 h v) f k = λ q e. mark (k q (f h q refl e))

pub record Entry (x : Op) (count now len pp : ℕ) (it : ℕ → ℕ) (safe : ℕ → Bool) (e : Lin) : Type 0 where
  pub numbered : e.by < count
  pub begun : x.began ≤ e.at
  pub sofar : e.at ≤ now
  pub ended : x.said ≢ nothing → e.at ≤ x.ended
  pub fits : Fits x len pp it safe e.what

pub record LinI (first len hp pp : ℕ) (it : ℕ → ℕ) (safe : ℕ → Bool) (count : ℕ) (op : ℕ → Op) (lin : List Lin) (now : ℕ) : Type 0 where
  pub sound : Sound first lin hp len
  pub notwo : NoTwo lin
  pub falling : Falling lin
  pub entries : (e : Lin) → has_l e lin → Entry (op e.by) count now len pp it safe e
  pub said_in : (o : ℕ) → o < count → (op o).said ≢ nothing → (e : Lin) × has_l e lin × (e.by ≡ o)
  pub began : (o : ℕ) → o < count → (op o).began ≤ now
  pub rooted : (p : ℕ) → p < first → safe p ≡ true

pub record CurI (hp len : ℕ) (who : ℕ → ℕ) (own : ℕ → Place) (base : ℕ → ℕ) (count : ℕ) (op : ℕ → Op) (cur : ℕ → ℕ) (lin : List Lin)
    (thr : ℕ → Th) : Type 0 where
  pub lt : (t : ℕ) → acts (thr t) ≡ true → cur t < count
  pub pending : (t : ℕ) → acts (thr t) ≡ true → (op (cur t)).said ≡ nothing
  pub apart : (t u : ℕ) → acts (thr t) ≡ true → acts (thr u) ≡ true → cur t ≡ cur u → t ≡ u
  pub state : (t : ℕ) → acts (thr t) ≡ true → CurOf (op (cur t)).call lin hp who own (base t) len t (cur t) (thr t)

-- ---- the list of effects

-- nothing took effect; the persisted head may have moved on, and time has
pub fits_up : (x : Op) (len pp pp' : ℕ) (it : ℕ → ℕ) (safe safe' : ℕ → Bool) → pp ≤ pp' → ((p : ℕ) → safe p ≡ true → safe' p ≡ true) → (w : What)
    → Fits x len pp it safe w → Fits x len pp' it safe' w
fits_up x len pp pp' it safe safe' h s (put p) f = (f.0, f.1, on f.2)
  where
    on : Okay x.said done (safe p ≡ true) → Okay x.said done (safe' p ≡ true)
    on (inl e) = inl e
    on (inr e) = inr (e.0, s p e.1)
fits_up x len pp pp' it safe safe' h s (get p) f = (f.0, f.1, on f.2)
  where
    on : Okay x.said (item (it p)) (p ≤ pp) → Okay x.said (item (it p)) (p ≤ pp')
    on (inl e) = inl e
    on (inr e) = inr (e.0, omega (arith, e.1))
fits_up x len pp pp' it safe safe' h s (saw p) f = (f.0, f.1, on f.2)
  where
    on : Okay x.said empty (p ≤ pp) → Okay x.said empty (p ≤ pp')
    on (inl e) = inl e
    on (inr e) = inr (e.0, omega (arith, e.1))
fits_up x len pp pp' it safe safe' h s nay f = f

-- the log has grown at its end
pub fits_grow : (x : Op) (len len' pp : ℕ) (it it' : ℕ → ℕ) (safe safe' : ℕ → Bool) → len ≤ len' → ((p : ℕ) → p < len → it' p ≡ it p)
    → ((p : ℕ) → p < len → safe p ≡ true → safe' p ≡ true) → (w : What) → Fits x len pp it safe w → Fits x len' pp it' safe' w
fits_grow x len len' pp it it' safe safe' ls ik sk (put p) f = (omega (arith, f.0), f.1 ∙ ap putting (sym (ik p f.0)), on f.2)
  where
    on : Okay x.said done (safe p ≡ true) → Okay x.said done (safe' p ≡ true)
    on (inl e) = inl e
    on (inr e) = inr (e.0, sk p f.0 e.1)
fits_grow x len len' pp it it' safe safe' ls ik sk (get p) f = (omega (arith, f.0), f.1, on f.2)
  where
    on : Okay x.said (item (it p)) (p ≤ pp) → Okay x.said (item (it' p)) (p ≤ pp)
    on (inl e) = inl e
    on (inr e) = inr (e.0 ∙ ap item (sym (ik p f.0)), e.1)
fits_grow x len len' pp it it' safe safe' ls ik sk (saw p) f = (omega (arith, f.0), f.1, f.2)
fits_grow x len len' pp it it' safe safe' ls ik sk nay f = f

-- an operation has one entry
pub notwo_one : (l : List Lin) → NoTwo l → (d e : Lin) → has_l d l → has_l e l → d.by ≡ e.by → d ≡ e
notwo_one [] n d e h k f = absurd h
notwo_one (x ∷ l) n d e (inl h) (inl k) f = h ∙ sym k
notwo_one (x ∷ l) n d e (inl h) (inr k) f = absurd (n.0 e k (sym f ∙ ap (λ z. z.by) h))
notwo_one (x ∷ l) n d e (inr h) (inl k) f = absurd (n.0 d h (f ∙ ap (λ z. z.by) k))
notwo_one (x ∷ l) n d e (inr h) (inr k) f = notwo_one l n.1 d e h k f
