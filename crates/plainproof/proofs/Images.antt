-- From a start: the images of all picks, repeats after the first dropped, are the endings.
use Prim.Native.Nat.{ℕ, zero, suc, ◌<◌}
use mathlib.Core.Path.{◌≡◌, refl, sym, ap, subst, ◌∙◌}
use mathlib.Core.Bool.{true}
use mathlib.Core.List.{List, [], ◌∷◌, map}
use mathlib.Core.Logic.{◌⊎◌, inl, inr}
use native.Mathlib.Omega.{arith}
use lib.ListN.{length, get_or, replicate, length-map}
use lib.Seq.{ext_get_or}
use lib.Dec.{eqb}
use borrow.Author.Tests.{eqb-true, eq-eqb}
use Rattle.lists.specs.Find.{both}
use Rattle.lists.specs.Tab.{tab}
use Rattle.lists.proofs.BoolLaws.{both_true}
use Rattle.image.specs.Layout.{content_at, same_content}
use Rattle.image.specs.Form.{head_lines}
use Rattle.image.specs.declared.Content.{Content}
use Rattle.image.specs.declared.Image.{Image}
use Rattle.image.specs.declared.Shape.{Shape}
use Rattle.machine.specs.Line.{shape_of, line_count, line_at}
use Rattle.machine.specs.declared.Line.{Line}
use Rattle.machine.specs.declared.Line.TheVariants.{OfHead as of_head}
use Rattle.machine.specs.declared.Machine.{Machine}
use Rattle.machine.specs.declared.Event.{Event}
use Rattle.machine.proofs.LineLaws.{line_head}
use Rattle.schedule.specs.Run.{Bench}
use Rattle.page.specs.Contents.{contents_of, table_of}
use Rattle.page.specs.Endings.{choices, image_of, endings}
use Rattle.lawful.specs.Demand3.{image_left}
use Rattle.moments.proofs.Moments as moments
use Rattle.moments.proofs.Distinct as distinct
use Rattle.moments.proofs.Distinct.{OfHead}
use Rattle.pageproof.proofs.Page.{image_is}
use Rattle.plainproof.specs.Once.{once, choices_of, same_all, same_image}
use Rattle.plainproof.specs.Plain.{picks_of, played_at}
use Rattle.plainproof.specs.Times.{Recorded, pick_leaves}
use Rattle.plainproof.proofs.OnceLaws as laws
use Rattle.plainproof.proofs.OnceLaws.{In, Tells}
use Rattle.plainproof.proofs.ByTimes as times
use Rattle.plainproof.proofs.Line.{content_tells, line_once}
use Rattle.plainproof.proofs.Fan as fan
use Rattle.plainproof.proofs.Fan.{fan, each}

-- ---- equal images

pub number_tells : Tells eqb
number_tells = record { equal = eqb-true; self = λ a. eq-eqb a a refl }

abbrev heads_tell : Tells (same_all eqb)
heads_tell = laws.tuple_tells eqb number_tells

abbrev nodes_tell : Tells (same_all same_content)
nodes_tell = laws.tuple_tells same_content content_tells

image_equal : (a b : Image) → same_image a b ≡ true → a ≡ b
unfolding same_image
image_equal a b e =
    let t = both_true (eqb a.form b.form) _ e in
    let u = both_true (eqb a.n b.n) _ t.1 in
    let v = both_true (eqb a.t b.t) _ u.1 in
    let w = both_true (same_all eqb a.heads b.heads) (same_all same_content a.nodes b.nodes) v.1 in
    let f = eqb-true a.form b.form t.0 in
    let n = eqb-true a.n b.n u.0 in
    let s = eqb-true a.t b.t v.0 in
    let h = heads_tell.equal a.heads b.heads w.0 in
    let c = nodes_tell.equal a.nodes b.nodes w.1 in
    λ k. record { form = f k; n = n k; t = s k; heads = h k; nodes = c k }

image_self : (a : Image) → same_image a a ≡ true
unfolding same_image
image_self a = rw (eq-eqb a.form a.form refl, eq-eqb a.n a.n refl, eq-eqb a.t a.t refl, heads_tell.self a.heads) (nodes_tell.self a.nodes)

pub image_tells : Tells same_image
image_tells = record { equal = image_equal; self = image_self }

-- what is picked is a pick there is
tab_in : (n p : ℕ) → In p (tab (λ x. x) n) → p < n
unfolding tab
tab_in zero p k = absurd k
tab_in (suc n) p k = by (laws.in_either p (tab (λ x. x) n) (n ∷ []) k) (tab_in n p)
  where
    by : In p (tab (λ x. x) n) ⊎ In p (n ∷ []) → (In p (tab (λ x. x) n) → p < n) → p < suc n
    by (inl w) f = omega (arith, f w)
    by (inr (inl w)) f = omega (arith, w)
    by (inr (inr w)) f = absurd w

-- a content of a head line
pick_head : (b : Bench) (l : Line) (k : ℕ) → l ≡ of_head k → (q : ℕ) → OfHead (pick_leaves b l q)
pick_head b l k e zero = rw e refl
pick_head b l k e (suc q) = rw e refl

-- ---- from a start, with no crash since

module _ (m : Machine) (f : ℕ → Event) (e : ℕ) (B : ℕ → Bench) (c : Recorded m f e B) where
  abbrev z : Shape
  z = shape_of m

  abbrev L : ℕ
  L = line_count (shape_of m)

  abbrev D : List ℕ
  D = picks_of e

  abbrev final : Bench
  final = B e

  abbrev left : List ℕ → Image
  left π = image_left (played_at π L m f e)

  F : ℕ → ℕ → Content
  F j p = pick_leaves final (line_at z j) p

  final_size : shape_of final.machine ≡ z
  final_size = (times.at_moment m f e B c [] e (omega arith)).1

  left_is : (π : List ℕ) → fan.Choice D L π → left π ≡ image_of z (each F 0 π)
  unfolding F
  left_is π h =
      image_is (played_at π L m f e) z (each F 0 π) (times.size_moment m f e B c π e (omega arith))
      (λ j k. times.by_times m f e B c π j k (omega (arith, tab_in (suc (suc e)) (get_or π j 0) (h.from j k))) ∙ sym (fan.each_first F π j (omega (arith, h.long))))

  tuples : List (List Content)
  tuples = choices_of (fan F D 0 L)

  images_are : map left (choices_of (replicate L D)) ≡ map (image_of z) tuples
  unfolding tuples
  images_are =
      fan.map_in_same left (λ π. image_of z (each F 0 π)) (choices_of (replicate L D)) (λ π k. left_is π (fan.choice_is D L π k))
      ∙ sym (fan.map_twice (image_of z) (each F 0) (choices_of (replicate L D))) ∙ ap (map (image_of z)) (fan.each_choices F D L 0)

  -- a tuple as long as there are lines, its first contents those of head lines
  abbrev Fits : List Content → Type 0
  Fits x = (length x ≡ L) × ((k : ℕ) → k < head_lines z → OfHead (content_at x k))

  tuple_fits : (x : List Content) → In x tuples → Fits x
  unfolding tuples F
  tuple_fits x k =
      let w = laws.map_in (each F 0) x (choices_of (replicate L D)) (subst (λ (y : List (List Content)). In x y) (sym (fan.each_choices F D L 0)) k) in
      let h = fan.choice_is D L w.0 w.1 in (
        ap length w.2 ∙ fan.length_each F 0 w.0 ∙ h.long,
        λ i r. subst OfHead (sym (ap (λ (y : List Content). content_at y i) w.2 ∙ fan.each_first F w.0 i (omega (arith, h.long))))
            (pick_head final (line_at z i) i (line_head z i r) (get_or w.0 i 0)),
      )

  abbrev once_c : List Content → List Content
  once_c x = once same_content x

  lines_are : map once_c (fan F D 0 L) ≡ table_of final
  unfolding F
  lines_are = ext_get_or [] (map once_c (fan F D 0 L)) (table_of final) (rows ∙ sym (moments.table_length final ∙ ap line_count final_size)) at
    where
      rows : length (map once_c (fan F D 0 L)) ≡ L
      rows = length-map (fan F D 0 L) once_c ∙ fan.fan_length F D L 0

      a : times.At final e
      a = (times.at_moment m f e B c [] e (omega arith)).0

      at : (j : ℕ) → j < length (map once_c (fan F D 0 L)) → get_or (map once_c (fan F D 0 L)) j [] ≡ get_or (table_of final) j []
      at j k =
          let k' : j < L = omega (arith, rows) in
          fan.fan_first once_c F D L j k' ∙ line_once final e (line_at z j) a.long (times.early final e a (line_at z j))
          ∙ sym (moments.table_at final j (subst (λ (y : Shape). j < line_count y) (sym final_size) k') ∙ ap (λ (y : Shape). contents_of final (line_at y j)) final_size)

  -- the page's images, in the page's order
  pub picks_are : once same_image (map left (choices_of (replicate L D))) ≡ endings (shape_of final.machine) (table_of final)
  unfolding endings tuples
  picks_are =
      ap (once same_image) images_are
      ∙ fan.once_map (same_all same_content) (laws.tuple_tells same_content content_tells) same_image image_tells (image_of z) Fits
      (λ x y p q i. distinct.image_injective z x y p.0 q.0 p.1 q.1 i) [] tuples (λ x k. absurd k) tuple_fits
      ∙ ap (map (image_of z)) (laws.choices_once same_content content_tells (fan F D 0 L) ∙ ap choices_of lines_are ∙ fan.choices_are (table_of final))
      ∙ ap (λ (y : Shape). map (image_of y) (choices (table_of final))) (sym final_size)
