-- How the third layer is kept: time goes on, an effect is added, an operation is answered, refused or begun.
use mathlib.Core.Path.{◌≡◌, refl, sym, subst, ap, ◌∙◌}
use mathlib.Core.Bool.{Bool, true, false}
use mathlib.Core.List.{List, ◌∷◌}
use mathlib.Core.Logic.{◌≢◌, ◌⊎◌, inl, inr}
use mathlib.Core.Option.{some}
use Prim.Native.Nat.{ℕ, suc, ◌≤◌, ◌<◌}
use native.Mathlib.Omega.{arith}
use native.Mathlib.Decide.{ℕ_discrete}
use Rattle.model.specs.Basics.{upd}
use Rattle.model.specs.Core.{Th, Ans, nothing, acts, idle}
use Rattle.model.specs.Lawful.{Op, Call}
use Rattle.model.specs.Places.{owns_d}
use Rattle.model.proofs.Basics.{upd_ind, upd_other, upd_at, upd_same}
use Rattle.model.proofs.Layer1.Ghost.{Place, deqd}
use Rattle.model.proofs.Layer3.Effects.{Lin, What, nay, has_l, Fresh, Sound, Effect, Fits}
use Rattle.model.proofs.Layer3.Invariant.{Mark, CurOf, cur_map, Entry, LinI, CurI, fits_up, fits_grow, notwo_one}

module _ (first len hp pp : ℕ) (it : ℕ → ℕ) (safe : ℕ → Bool) (count : ℕ) (op : ℕ → Op) (lin : List Lin) (now : ℕ)
    (i : LinI first len hp pp it safe count op lin now) where
  -- the persisted head may move on, and more places be safe
  pub quiet_l : (pp' : ℕ) (safe' : ℕ → Bool) → pp ≤ pp' → ((p : ℕ) → safe p ≡ true → safe' p ≡ true) → LinI first len hp pp' it safe' count op lin now
  quiet_l pp' safe' h s = record {
    sound = i.sound;
    notwo = i.notwo;
    falling = i.falling;
    entries = λ e k. let r = i.entries e k in record {
      numbered = r.numbered;
      begun = r.begun;
      sofar = r.sofar;
      ended = r.ended;
      fits = fits_up
          (op e.by) len pp pp' it safe safe' h s e.what r.fits;
    };
    said_in = i.said_in;
    began = i.began;
    rooted = λ p l. s p (i.rooted p l);
  }

  -- time goes on
  pub tick_l : LinI first len hp pp it safe count op lin (suc now)
  tick_l = record {
    sound = i.sound;
    notwo = i.notwo;
    falling = i.falling;
    entries = λ e k. let r = i.entries e k in
        record { numbered = r.numbered; begun = r.begun; sofar = omega (arith, r.sofar); ended = r.ended; fits = r.fits };
    said_in = i.said_in;
    began = λ o l. omega (arith, i.began o l);
    rooted = i.rooted;
  }

  -- an operation is refused
  pub refuse_l : (o : ℕ) (a : Ans) → o < count → Fresh o lin → Fits (record { call = (op o).call; began = (op o).began; said = a; ended = now }) len pp it safe nay
      → LinI first len hp pp it safe count (upd op o (record { call = (op o).call; began = (op o).began; said = a; ended = now }))
      (record { by = o; at = now; what = nay } ∷ lin) now
  refuse_l o a lt fr f = record {
    sound = i.sound;
    notwo = (fr, i.notwo);
    falling = ((λ d k. (i.entries d k).sofar), i.falling);
    entries = λ e k. en e k;
    said_in = λ q l z. si q l z (ℕ_discrete q o);
    began = λ q l. upd_ind op o x (λ q y. (op q).began ≤ now → y.began ≤ now) q (λ h. h) (λ ne h. h) (i.began q l);
    rooted = i.rooted;
  }
    where
      x : Op
      x = record { call = (op o).call; began = (op o).began; said = a; ended = now }

      en : (e : Lin) → (e ≡ record { by = o; at = now; what = nay }) ⊎ has_l e lin → Entry (upd op o x e.by) count now len pp it safe e
      en e (inl h) = subst (λ e. Entry (upd op o x e.by) count now len pp it safe e) (sym h)
          (subst (λ y. Entry y count now len pp it safe (record { by = o; at = now; what = nay })) (sym (upd_same op o x))
          record { numbered = lt; begun = i.began o lt; sofar = omega arith; ended = λ z. omega arith; fits = f })
      en e (inr k) = subst (λ y. Entry y count now len pp it safe e) (sym (upd_other op o x (fr e k))) (i.entries e k)

      si : (q : ℕ) → q < count → (upd op o x q).said ≢ nothing → Dec (q ≡ o) → (e : Lin) × ((e ≡ record { by = o; at = now; what = nay }) ⊎ has_l e lin)
          × (e.by ≡ q)
      si q l z (yes h) = (record { by = o; at = now; what = nay }, inl refl, sym h)
      si q l z (no h) = let r = i.said_in q l (λ y. z (ap (λ y. y.said) (upd_other op o x h) ∙ y)) in (r.0, inr r.1, r.2)

  -- an effect is added; time stands still
  pub add_l : (o : ℕ) (w : What) (len' hp' : ℕ) (it' : ℕ → ℕ) (safe' : ℕ → Bool) → Effect w hp' len' (Sound first lin) → o < count
      → (op o).said ≡ nothing → Fresh o lin
      → len ≤ len' → ((p : ℕ) → p < len → it' p ≡ it p) → ((p : ℕ) → p < len → safe p ≡ true → safe' p ≡ true) → first ≤ len → Fits (op o) len' pp it' safe' w
      → LinI first len' hp' pp it' safe' count op (record { by = o; at = now; what = w } ∷ lin) now
  add_l o w len' hp' it' safe' s lt nt fr ls ik sk fl f = record {
    sound = s;
    notwo = (fr, i.notwo);
    falling = ((λ d k. (i.entries d k).sofar), i.falling);
    entries = λ e k. en e k;
    said_in = λ q l z. let r = i.said_in q l z in (r.0, inr r.1, r.2);
    began = i.began;
    rooted = λ p l. sk p (omega arith) (i.rooted p l);
  }
    where
      new : Lin
      new = record { by = o; at = now; what = w }

      en : (e : Lin) → (e ≡ record { by = o; at = now; what = w }) ⊎ has_l e lin → Entry (op e.by) count now len' pp it' safe' e
      en e (inl h) = subst (λ e. Entry (op e.by) count now len' pp it' safe' e) (sym h)
          record { numbered = lt; begun = i.began o lt; sofar = omega arith; ended = λ z. absurd (z nt); fits = f }
      en e (inr k) = let r = i.entries e k in
          record {
            numbered = r.numbered;
            begun = r.begun;
            sofar = r.sofar;
            ended = r.ended;
            fits = fits_grow
                (op e.by) len len' pp it it' safe safe' ls ik sk e.what r.fits;
          }

  -- an operation that has its effect is answered
  pub answer_l : (o : ℕ) (w : What) (a : Ans) → Mark lin o w → Fits (record { call = (op o).call; began = (op o).began; said = a; ended = now }) len pp it safe w
      → LinI first len hp pp it safe count (upd op o (record { call = (op o).call; began = (op o).began; said = a; ended = now })) lin now
  answer_l o w a k f = record {
    sound = i.sound;
    notwo = i.notwo;
    falling = i.falling;
    entries = λ e h. en e h (ℕ_discrete e.by o);
    said_in = λ q l z. si q l z (ℕ_discrete q o);
    began = λ q l. upd_ind op o x (λ q y. (op q).began ≤ now → y.began ≤ now) q (λ h. h) (λ ne h. h) (i.began q l);
    rooted = i.rooted;
  }
    where
      x : Op
      x = record { call = (op o).call; began = (op o).began; said = a; ended = now }

      en : (e : Lin) → has_l e lin → Dec (e.by ≡ o) → Entry (upd op o x e.by) count now len pp it safe e
      en e h (yes z) =
          let r = i.entries e h in
          let same : e ≡ k.entry = notwo_one lin i.notwo e k.entry h k.there (z ∙ sym k.its) in
          let ew : e.what ≡ w = ap (λ y. y.what) same ∙ k.kind in
          subst (λ y. Entry y count now len pp it safe e) (sym (upd_at op o x z))
          record {
            numbered = r.numbered;
            begun = subst (λ y. (op y).began ≤ e.at) z
                r.begun;
            sofar = r.sofar;
            ended = λ q. r.sofar;
            fits = subst (λ y. Fits x len pp it safe y) (sym ew) f;
          }
      en e h (no z) = subst (λ y. Entry y count now len pp it safe e) (sym (upd_other op o x z)) (i.entries e h)

      si : (q : ℕ) → q < count → (upd op o x q).said ≢ nothing → Dec (q ≡ o) → (e : Lin) × has_l e lin × (e.by ≡ q)
      si q l z (yes h) = (k.entry, k.there, k.its ∙ sym h)
      si q l z (no h) = i.said_in q l (λ y. z (ap (λ y. y.said) (upd_other op o x h) ∙ y))

  -- an operation begins
  pub begin_l : (c : Call) → LinI first len hp pp it safe (suc count) (upd op count (record { call = c; began = now; said = nothing; ended = 0 })) lin now
  begin_l c = record {
    sound = i.sound;
    notwo = i.notwo;
    falling = i.falling;
    entries = λ e h. let r = i.entries e h in
        subst (λ y. Entry y (suc count) now len pp it safe e) (sym (upd_other op count x (λ z. omega (arith, r.numbered))))
        record { numbered = omega (arith, r.numbered); begun = r.begun; sofar = r.sofar; ended = r.ended; fits = r.fits };
    said_in = λ q l z. si q l z (ℕ_discrete q count);
    began = λ q l. bg q l (ℕ_discrete q count);
    rooted = i.rooted;
  }
    where
      x : Op
      x = record { call = c; began = now; said = nothing; ended = 0 }

      si : (q : ℕ) → q < suc count → (upd op count x q).said ≢ nothing → Dec (q ≡ count) → (e : Lin) × has_l e lin × (e.by ≡ q)
      si q l z (yes h) = absurd (z (ap (λ y. y.said) (upd_at op count x h)))
      si q l z (no h) = i.said_in q (omega arith) (λ y. z (ap (λ y. y.said) (upd_other op count x h) ∙ y))

      bg : (q : ℕ) → q < suc count → Dec (q ≡ count) → (upd op count x q).began ≤ now
      bg q l (yes h) = rw (upd_at op count x h) (omega arith)
      bg q l (no h) = subst (λ y. y.began ≤ now) (sym (upd_other op count x h)) (i.began q (omega arith))

-- ---- the threads' operations

module _ (hp len : ℕ) (who : ℕ → ℕ) (own : ℕ → Place) (base : ℕ → ℕ) (count : ℕ) (op : ℕ → Op) (cur : ℕ → ℕ) (lin : List Lin) (thr : ℕ → Th)
    (i : CurI hp len who own base count op cur lin thr) where
  -- a thread moves on; the log may grow, hands may change, an effect of this thread may be added
  pub move_c : (t : ℕ) (s : Th) (hp' len' : ℕ) (who' : ℕ → ℕ) (own' : ℕ → Place) (lin' : List Lin) → acts (thr t) ≡ true
      → ((e : Lin) → has_l e lin → has_l e lin') → ((u : ℕ) → cur u ≢ cur t → Fresh (cur u) lin → Fresh (cur u) lin')
      → ((p : ℕ) → p < len → who' p ≡ who p) → hp ≤ hp' → len ≤ len'
      → ((u h q : ℕ) → u ≢ t → owns_d (thr u) ≡ some h → own' h ≡ deqd u q → own h ≡ deqd u q)
      → CurOf (op (cur t)).call lin' hp' who' own' (base t) len' t (cur t) s → CurI hp' len' who' own' base count op cur lin' (upd thr t s)
  move_c t s hp' len' who' own' lin' bt sub fr wk hps ls ob k = record {
    lt = λ u b. i.lt u (was u b);
    pending = λ u b. i.pending u (was u b);
    apart = λ u v b c e. i.apart u v (was u b) (was v c) e;
    state = λ u b. st u b (ℕ_discrete u t);
  }
    where
      was : (u : ℕ) → acts (upd thr t s u) ≡ true → acts (thr u) ≡ true
      was u = upd_ind thr t s (λ u s. acts s ≡ true → acts (thr u) ≡ true) u (λ z. bt) (λ ne z. z)

      st : (u : ℕ) → acts (upd thr t s u) ≡ true → Dec (u ≡ t) → CurOf (op (cur u)).call lin' hp' who' own' (base u) len' u (cur u) (upd thr t s u)
      st u b (yes e) = subst (λ u. CurOf (op (cur u)).call lin' hp' who' own' (base u) len' u (cur u) (upd thr t s u)) (sym e)
          (subst (λ z. CurOf (op (cur t)).call lin' hp' who' own' (base t) len' t (cur t) z) (sym (upd_same thr t s)) k)
      st u b (no ne) = subst (λ z. CurOf (op (cur u)).call lin' hp' who' own' (base u) len' u (cur u) z) (sym (upd_other thr t s ne))
          (cur_map (op (cur u)).call lin lin' hp hp' who who' own own' (base u) len len' u (cur u) sub
          (fr u (λ z. ne (i.apart u t (was u b) bt z))) wk hps ls (thr u) (λ h q o e. ob u h q ne o e) (i.state u (was u b)))

  -- a thread answers
  pub leave_c : (t : ℕ) (x : Op) (own' : ℕ → Place) (lin' : List Lin) → acts (thr t) ≡ true
      → ((e : Lin) → has_l e lin → has_l e lin') → ((u : ℕ) → cur u ≢ cur t → Fresh (cur u) lin → Fresh (cur u) lin')
      → ((u h q : ℕ) → u ≢ t → owns_d (thr u) ≡ some h → own' h ≡ deqd u q → own h ≡ deqd u q)
      → CurI hp len who own' base count (upd op (cur t) x) cur lin' (upd thr t idle)
  leave_c t x own' lin' bt sub fr ob = record {
    lt = λ u b. i.lt u (was u b).1;
    pending = λ u b. ap (λ y. y.said) (same u b) ∙ i.pending u (was u b).1;
    apart = λ u v b c e. i.apart u v (was u b).1 (was v c).1 e;
    state = λ u b. subst (λ z. CurOf z.call lin' hp who own' (base u) len u (cur u) (upd thr t idle u)) (sym (same u b))
        (subst (λ z. CurOf (op (cur u)).call lin' hp who own' (base u) len u (cur u) z) (sym (upd_other thr t idle (was u b).0))
        (cur_map (op (cur u)).call lin lin' hp hp who who own own' (base u) len len u (cur u) sub (fr u (diff u b)) (λ p h. refl) (omega arith)
        (omega arith) (thr u)
        (λ h q o e. ob u h q (was u b).0 o e) (i.state u (was u b).1)));
  }
    where
      was : (u : ℕ) → acts (upd thr t idle u) ≡ true → (u ≢ t) × (acts (thr u) ≡ true)
      was u = upd_ind thr t idle (λ u s. acts s ≡ true → (u ≢ t) × (acts (thr u) ≡ true)) u (λ z. let z' : ◌≡◌ {A = ℕ} 0 1 = cc in
          absurd (omega arith)) (λ ne z. (ne, z))

      diff : (u : ℕ) → acts (upd thr t idle u) ≡ true → cur u ≢ cur t
      diff u b z = (was u b).0 (i.apart u t (was u b).1 bt z)

      same : (u : ℕ) → acts (upd thr t idle u) ≡ true → upd op (cur t) x (cur u) ≡ op (cur u)
      same u b = upd_other op (cur t) x (diff u b)

  -- a thread begins
  pub begin_c : (t : ℕ) (s : Th) (x : Op) (b₀ : ℕ) → acts (thr t) ≡ false → acts s ≡ true → x.said ≡ nothing → CurOf x.call lin hp who own b₀ len t count s
      → CurI hp len who own (upd base t b₀) (suc count) (upd op count x) (upd cur t count) lin (upd thr t s)
  begin_c t s x b₀ nb bs xn k = record {
    lt = λ u b. ltt u b (ℕ_discrete u t);
    pending = λ u b. pd u b (ℕ_discrete u t);
    apart = λ u v b c e. apt u v b c e (ℕ_discrete u t) (ℕ_discrete v t);
    state = λ u b. st u b (ℕ_discrete u t);
  }
    where
      was : (u : ℕ) → u ≢ t → acts (upd thr t s u) ≡ true → acts (thr u) ≡ true
      was u ne b = rw (upd_other thr t s ne) at b

      old : (u : ℕ) → u ≢ t → acts (upd thr t s u) ≡ true → upd op count x (cur u) ≡ op (cur u)
      old u ne b = upd_other op count x (λ z. omega (arith, i.lt u (was u ne b)))

      ltt : (u : ℕ) → acts (upd thr t s u) ≡ true → Dec (u ≡ t) → upd cur t count u < suc count
      ltt u b (yes e) = rw (upd_at cur t count e) (omega arith)
      ltt u b (no ne) = rw (upd_other cur t count ne) (omega (arith, i.lt u (was u ne b)))

      pd : (u : ℕ) → acts (upd thr t s u) ≡ true → Dec (u ≡ t) → (upd op count x (upd cur t count u)).said ≡ nothing
      pd u b (yes e) = ap (λ y. (upd op count x y).said) (upd_at cur t count e) ∙ ap (λ y. y.said) (upd_same op count x) ∙ xn
      pd u b (no ne) = ap (λ y. (upd op count x y).said) (upd_other cur t count ne) ∙ ap (λ y. y.said) (old u ne b) ∙ i.pending u (was u ne b)

      apt : (u v : ℕ) → acts (upd thr t s u) ≡ true → acts (upd thr t s v) ≡ true → upd cur t count u ≡ upd cur t count v → Dec (u ≡ t) → Dec (v ≡ t) → u ≡ v
      apt u v b c e (yes f) (yes h) = f ∙ sym h
      apt u v b c e (yes f) (no h) = let z = sym (upd_at cur t count f) ∙ e ∙ upd_other cur t count h in absurd (omega (arith, i.lt v (was v h c)))
      apt u v b c e (no f) (yes h) = let z = sym (upd_other cur t count f) ∙ e ∙ upd_at cur t count h in absurd (omega (arith, i.lt u (was u f b)))
      apt u v b c e (no f) (no h) = i.apart u v (was u f b) (was v h c) (sym (upd_other cur t count f) ∙ e ∙ upd_other cur t count h)

      st : (u : ℕ) → acts (upd thr t s u) ≡ true → Dec (u ≡ t) → CurOf (upd op count x (upd cur t count u)).call lin hp who own
          (upd base t b₀ u) len u (upd cur t count u) (upd thr t s u)
      st u b (yes e) = subst (λ u. CurOf (upd op count x (upd cur t count u)).call lin hp who own (upd base t b₀ u) len u (upd cur t count u)
          (upd thr t s u)) (sym e)
          (rw (upd_same cur t count, upd_same thr t s, upd_same base t b₀)
          (subst (λ y. CurOf y.call lin hp who own b₀ len t count s) (sym (upd_same op count x)) k))
      st u b (no ne) = rw (upd_other cur t count ne, upd_other thr t s ne, upd_other base t b₀ ne)
          (subst (λ y. CurOf y.call lin hp who own (base u) len u (cur u) (thr u)) (sym (old u ne b)) (i.state u (was u ne b)))
