-- Laws of lists filled from the front and of bytes written in a row. Assumes nothing.
use Prim.Native.Nat.{ℕ, ◌+◌, ◌*◌, ◌<◌}
use mathlib.Core.Path.{◌≡◌, refl, sym, ap, ◌∙◌}
use mathlib.Core.List.{List, [], ◌∷◌, ◌++◌, append_assoc}
use native.Mathlib.Omega.{arith}
use native.Mathlib.Numerals.{add-one}
use lib.ListN.{length, get_or, set, take, length-take, length-append}
use lib.Seq.{take-suc, ext_get_or}
use Rattle.lists.specs.Tab.{tab, joined, over}
use Rattle.lists.proofs.TabLaws as laws
use Rattle.machine.specs.declared.Machine.{Machine}
use Rattle.image.specs.declared.Content.{Content}
use Rattle.record.specs.Layout.{head_bytes, long_part, node_part, thread_part, core_bytes, flush_part, set_bytes, flushes_bytes, record_bytes}

module _ {A : Type 0} where
  pub over_none : (l : List A) (i : ℕ) → l ≡ over l i []
  unfolding over
  over_none l i = refl

  -- one element more of what is copied
  pub over_next : (l a : List A) (i j : ℕ) (d : A) → j < length a → set (over l i (take j a)) (i + j) (get_or a j d) ≡ over l i (take (j + 1) a)
  unfolding over
  over_next l a i j d h =
      let e : length (take j a) ≡ j = simp length-take (omega arith) in
      let t : take j a ++ (get_or a j d ∷ []) ≡ take (j + 1) a = rw add-one (sym (take-suc a j d h)) in
      ap (λ (k : ℕ). set (over l i (take j a)) (i + k) (get_or a j d)) (sym e)
      ∙ laws.over_append l i (take j a) (get_or a j d ∷ [])
      ∙ ap (over l i) t

  -- one part more of parts of equal length, written in a row from place p on
  pub row_next : (l : List A) (p c i : ℕ) (f : ℕ → List A) → ((j : ℕ) → length (f j) ≡ c) → over (over l p (joined f i)) (p + i * c) (f i) ≡ over l p (joined f (i + 1))
  unfolding joined
  row_next l p c i f h =
      ap (λ (k : ℕ). over (over l p (joined f i)) (p + k) (f i)) (sym (laws.length_joined f c i h))
      ∙ laws.over_append l p (joined f i) (f i)
      ∙ ap (over l p) (rw add-one)

-- ---- the record's parts

pub long_length : (l : List ℕ) (k : ℕ) → length (long_part l k) ≡ 8
unfolding long_part
long_length l k = refl

pub node_length : (m : Machine) (i : ℕ) → length (node_part m i) ≡ 28
unfolding node_part
node_length m i = refl

pub thread_length : (m : Machine) (k : ℕ) → length (thread_part m k) ≡ 18
unfolding thread_part
thread_length m k = refl

pub flush_length : (l : List Content) (k : ℕ) → length (flush_part l k) ≡ 13
unfolding flush_part
flush_length l k = refl

-- sets of threads as bytes are the table itself, where it is whole
pub sets_length : (l : List ℕ) (n : ℕ) → length (set_bytes l n) ≡ n
unfolding set_bytes
sets_length l n = laws.length_tab (λ i. get_or l i 0) n

pub sets_whole : (l : List ℕ) (n : ℕ) → length l ≡ n → set_bytes l n ≡ l
unfolding set_bytes
sets_whole l n h =
    let e = laws.length_tab (λ i. get_or l i 0) n in
    ext_get_or 0 (tab (λ i. get_or l i 0) n) l (e ∙ sym h) (λ i p. laws.get_or_tab (λ i. get_or l i 0) n i 0 (omega (arith, e)))

-- bytes y behind bytes x, which fill the places from 0 to k
more : (b x y : List ℕ) (k : ℕ) → length x ≡ k → over (over b 0 x) k y ≡ over b 0 (x ++ y)
more b x y k e =
    let z : 0 + length x ≡ k = omega arith in
    ap (λ (k : ℕ). over (over b 0 x) k y) (sym z) ∙ laws.over_append b 0 x y

pub core_length : (m : Machine) → length (core_bytes m) ≡ 2083
unfolding core_bytes
core_length m =
    let h = head_bytes m in
    let x = joined (long_part m.heads) 8 in
    let y = joined (long_part m.kept_heads) 8 in
    let n = joined (node_part m) 64 in
    let t = joined (thread_part m) 8 in
    length-append h (x ++ (y ++ (n ++ (t ++ (m.last ∷ [])))))
    ∙ omega (
      arith,
      length-append x (y ++ (n ++ (t ++ (m.last ∷ [])))),
      length-append y (n ++ (t ++ (m.last ∷ []))),
      length-append n (t ++ (m.last ∷ [])),
      length-append t (m.last ∷ []),
      laws.length_joined (long_part m.heads) 8 8 (long_length m.heads),
      laws.length_joined (long_part m.kept_heads) 8 8 (long_length m.kept_heads),
      laws.length_joined (node_part m) 28 64 (node_length m),
      laws.length_joined (thread_part m) 18 8 (thread_length m),
    )

pub core_over : (m : Machine) (b : List ℕ)
    → set (over (over (over (over (over b 0 (head_bytes m)) 18 (joined (long_part m.heads) 8)) 82 (joined (long_part m.kept_heads) 8)) 146 (joined (node_part m) 64)) 1938 (joined (thread_part m) 8)) 2082 m.last ≡ over b 0 (core_bytes m)
unfolding core_bytes over
core_over m b =
    let h = head_bytes m in
    let x = joined (long_part m.heads) 8 in
    let y = joined (long_part m.kept_heads) 8 in
    let n = joined (node_part m) 64 in
    let t = joined (thread_part m) 8 in
    let lx = laws.length_joined (long_part m.heads) 8 8 (long_length m.heads) in
    let ly = laws.length_joined (long_part m.kept_heads) 8 8 (long_length m.kept_heads) in
    let ln = laws.length_joined (node_part m) 28 64 (node_length m) in
    let lt = laws.length_joined (thread_part m) 18 8 (thread_length m) in
    let hx = length-append h x in
    let hy = length-append (h ++ x) y in
    let hn = length-append ((h ++ x) ++ y) n in
    ap (λ (l : List ℕ). set (over (over (over l 82 y) 146 n) 1938 t) 2082 m.last) (more b h x 18 refl)
    ∙ ap (λ (l : List ℕ). set (over (over l 146 n) 1938 t) 2082 m.last) (more b (h ++ x) y 82 (hx ∙ omega (arith, lx)))
    ∙ ap (λ (l : List ℕ). set (over l 1938 t) 2082 m.last) (more b ((h ++ x) ++ y) n 146 (hy ∙ omega (arith, hx, lx, ly)))
    ∙ ap (λ (l : List ℕ). set l 2082 m.last) (more b (((h ++ x) ++ y) ++ n) t 1938 (hn ∙ omega (arith, hy, hx, lx, ly, ln)))
    ∙ more b ((((h ++ x) ++ y) ++ n) ++ t) (m.last ∷ []) 2082 (length-append (((h ++ x) ++ y) ++ n) t ∙ omega (arith, hn, hy, hx, lx, ly, ln, lt))
    ∙ ap (over b 0)
    (append_assoc (((h ++ x) ++ y) ++ n) t (m.last ∷ [])
    ∙ append_assoc ((h ++ x) ++ y) n (t ++ (m.last ∷ []))
    ∙ append_assoc (h ++ x) y (n ++ (t ++ (m.last ∷ [])))
    ∙ append_assoc h x (y ++ (n ++ (t ++ (m.last ∷ [])))))

pub record_over : (m : Machine) (b : List ℕ)
    → over (over (over (over (over b 0 (core_bytes m)) 2083 (joined (flush_part m.flushed) 8)) 2187 (set_bytes m.late 8)) 2195 (set_bytes m.over_heads 8)) 2203 (set_bytes m.over 64) ≡ over b 0 (record_bytes m)
unfolding record_bytes flushes_bytes
record_over m b =
    let c = core_bytes m in
    let f = joined (flush_part m.flushed) 8 in
    let l = set_bytes m.late 8 in
    let h = set_bytes m.over_heads 8 in
    let n = set_bytes m.over 64 in
    let lf = laws.length_joined (flush_part m.flushed) 13 8 (flush_length m.flushed) in
    let cf = length-append c f in
    let cl = length-append (c ++ f) l in
    let ll = sets_length m.late 8 in
    ap (λ (z : List ℕ). over (over (over z 2187 l) 2195 h) 2203 n) (more b c f 2083 (core_length m))
    ∙ ap (λ (z : List ℕ). over (over z 2195 h) 2203 n) (more b (c ++ f) l 2187 (cf ∙ omega (arith, lf, core_length m)))
    ∙ ap (λ (z : List ℕ). over z 2203 n) (more b ((c ++ f) ++ l) h 2195 (cl ∙ omega (arith, cf, lf, ll, core_length m)))
    ∙ more b (((c ++ f) ++ l) ++ h) n 2203 (length-append ((c ++ f) ++ l) h ∙ omega (arith, cl, cf, lf, ll, sets_length m.over_heads 8, core_length m))
    ∙ ap (over b 0) (append_assoc ((c ++ f) ++ l) h n ∙ append_assoc (c ++ f) l (h ++ n) ∙ append_assoc c f (l ++ (h ++ n)))
