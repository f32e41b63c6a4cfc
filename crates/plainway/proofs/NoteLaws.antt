-- The images of the runs, one run more, and what a buffer holds of them.
use Prim.Native.Nat.{ℕ, suc, ◌+◌, ◌-◌, ◌*◌, ◌≤◌, ◌<◌}
use mathlib.Core.Path.{◌≡◌, refl, sym, ap, ap₂, subst, ◌∙◌}
use mathlib.Core.Bool.{true, false}
use mathlib.Core.List.{List, [], ◌∷◌, ◌++◌, map, append-nil}
use mathlib.Core.Logic.{◌⊎◌, inl, inr}
use native.Mathlib.Omega.{arith}
use native.Mathlib.Numerals.{add-one}
use native.Mathlib.Nat.{suc-mul, mul-le-mul_right}
use lib.ListN.{length, get_or, take, length-append, length-map}
use lib.Seq.{get_or-take, length-take-le, ext_get_or}
use Rattle.lists.specs.Tab.{tab, over}
use Rattle.lists.proofs.BoolLaws.{no_way}
use Rattle.lists.proofs.TabLaws as tabs
use Rattle.answer.specs.Answers.{accepted, Taken}
use Rattle.image.specs.Form.{image_size}
use Rattle.image.specs.Layout.{no_content, no_contents, content_at, node_bytes, head_in, body_bytes, image_bytes}
use Rattle.image.specs.Refusals.{read_image, Read}
use Rattle.image.specs.declared.Image.{Image}
use Rattle.image.proofs.HeadLaws.{heads_at_lem}
use Rattle.machine.specs.Line.{shape_of, persisted}
use Rattle.machine.specs.declared.Machine.{Machine}
use Rattle.schedule.specs.Layout.{schedule_shape}
use Rattle.schedule.specs.Run.{ran}
use Rattle.page.specs.Endings.{choices, image_of, endings, ending}
use Rattle.page.specs.Refusals.{table_in, page_answer, ending_count, ending_in}
use Rattle.lawful.specs.Demand3.{Bytes, image_left}
use Rattle.moments.proofs.Blocks as blocks
use Rattle.moments.proofs.Choices.{choices_length}
use Rattle.moments.proofs.Distinct.{no_image}
use Rattle.codec.proofs.ReadWrite.{heads_there}
use Rattle.pages.proofs.OwnLaws.{owned, own_lines}
use Rattle.pageproof.proofs.Holds.{page_ran}
use Rattle.plainproof.specs.Once.{joins_by, gathered_by, once, same_image}
use Rattle.plainproof.specs.Plain.{start_machine, since_count, event_since, lines_in, picks_in, played_at, left_by, plain_images}
use Rattle.plainproof.proofs.OnceLaws as laws
use Rattle.plainproof.proofs.OnceLaws.{In}
use Rattle.plainproof.proofs.Images.{image_tells}
use Rattle.plainproof.proofs.Since as since
use Rattle.plainproof.proofs.Plain.{plain_is}
use Rattle.plainruns.specs.Turns.{turn_of, turn_in}
use Rattle.plainruns.proofs.TurnLaws as turns
use Rattle.plainruns.proofs.PlayLaws.{played_same}
use Rattle.plainway.specs.Plainly.{plain_room, all_bytes}
use Rattle.plainway.specs.Noting.{is_noted, base_in, runs_in, image_at, images_to, NotedTo}
use Rattle.endread.proofs.Bytes as bytes
use Rattle.plainway.proofs.ListLaws as lists

-- ---- the runs in their order

tab_has : {A : Type 0} (f : ℕ → A) (n k : ℕ) → k < n → In (f k) (tab f n)
tab_has f n k h = subst (λ x. In x (tab f n)) (tabs.get_or_tab f n k (f k) h) (lists.at_in (f k) (tab f n) k (omega (arith, tabs.length_tab f n)))

tab_from : {A : Type 0} (f : ℕ → A) (n : ℕ) (x : A) → In x (tab f n) → (k : ℕ) × (k < n) × (x ≡ f k)
tab_from f n x h =
    let r = lists.in_at x x (tab f n) h in
    let q : r.0 < n = omega (arith, r.1, tabs.length_tab f n) in
    (r.0, q, sym r.2 ∙ tabs.get_or_tab f n r.0 x q)

picks_are : (s : List ℕ) → picks_in s ≡ tab (turn_of (base_in s) (lines_in s)) (runs_in s)
picks_are s = turns.turns_are (base_in s) (lines_in s) (omega arith)

-- all runs
pub images_all : (s : List ℕ) → images_to s (runs_in s) ≡ plain_images s
unfolding images_to plain_images
images_all s = sym (ap (λ (l : List (List ℕ)). once same_image (map (left_by s) l)) (picks_are s) ∙ ap (once same_image) (tabs.map_tab (left_by s) (turn_of (base_in s) (lines_in s)) (runs_in s)))

-- none
pub images_none : (s : List ℕ) → images_to s 0 ≡ []
unfolding images_to tab gathered_by
images_none s = refl

-- one more
images_next : (s : List ℕ) (k : ℕ) → images_to s (suc k) ≡ joins_by same_image (images_to s k) (image_at s k)
unfolding images_to tab
images_next s k = lists.once_more same_image image_tells (tab (image_at s) k) (image_at s k)

-- no more than there are in all
pub images_few : (s : List ℕ) (k : ℕ) → k ≤ runs_in s → length (images_to s k) ≤ length (plain_images s)
unfolding images_to
images_few s k h =
    let e : runs_in s ≡ k + (runs_in s - k) = omega arith in
    subst (λ (l : List Image). length (images_to s k) ≤ length l) (sym (ap (once same_image) (ap (tab (image_at s)) e ∙ turns.tab_append (image_at s) k (runs_in s - k))
    ∙ laws.gather_append same_image image_tells [] (tab (image_at s) k) (tab (λ i. image_at s (k + i)) (runs_in s - k))) ∙ images_all s)
    (lists.gathered_longer same_image image_tells (images_to s k) (tab (λ i. image_at s (k + i)) (runs_in s - k)))

-- the image of a run is among them
image_in_lem : (s : List ℕ) (k : ℕ) → k < runs_in s → In (image_at s k) (plain_images s)
unfolding plain_images
image_in_lem s k h =
    laws.in_gathered same_image image_tells (image_at s k) [] (map (left_by s) (picks_in s))
    (laws.in_map (left_by s) (turn_of (base_in s) (lines_in s) k) (picks_in s) (subst (λ (l : List (List ℕ)). In (turn_of (base_in s) (lines_in s) k) l) (sym (picks_are s)) (tab_has (turn_of (base_in s) (lines_in s)) (runs_in s) k h)))

images_in : (s : List ℕ) (k : ℕ) → k ≤ runs_in s → (g : Image) → In g (images_to s k) → In g (plain_images s)
unfolding images_to
images_in s k h g i =
    let r = tab_from (image_at s) k g (lists.once_of same_image image_tells g (tab (image_at s) k) i) in
    subst (λ (x : Image). In x (plain_images s)) (sym r.2) (image_in_lem s r.0 (omega (arith, r.1)))

-- ---- the bytes of an image

-- the persisted copies as they are kept have the bytes of the image
persisted_bytes : (m : Machine) → image_bytes (persisted m) ≡ image_bytes (image_left m)
unfolding image_bytes body_bytes
persisted_bytes m =
    let z = shape_of m in
    let h = heads_there (owned z) (head_in (persisted m)) (head_in (image_left m)) (λ k p. sym (heads_at_lem z (head_in (persisted m)) k (omega (arith, own_lines z)))) in
    let b = tabs.joined_same (λ i. node_bytes m.form (content_at m.kept i)) (λ i. node_bytes m.form (content_at (image_left m).nodes i)) m.n
    (λ i p. ap (node_bytes m.form) (sym (tabs.front_at (content_at m.kept) m.n no_contents i no_content p))) in
    ap₂ (λ (x y : List ℕ). x ++ y) h b

-- the run by the table of six places
pub run_bytes : (s : List ℕ) (m : Machine) (picks : List ℕ) (k b n : ℕ) → b ≡ base_in s → n ≡ lines_in s → lines_in s ≤ 6 → picks ≡ turn_in b n k
    → m ≡ played_at picks (lines_in s) (start_machine s) (event_since s) (since_count s) → image_bytes (persisted m) ≡ image_bytes (image_at s k)
unfolding left_by
run_bytes s m picks k b n be ne few pe me =
    persisted_bytes m
    ∙ ap (λ (x : Machine). image_bytes (image_left x)) (me ∙ ap (λ (π : List ℕ). played_at π (lines_in s) (start_machine s) (event_since s) (since_count s)) (pe ∙ ap₂ (λ (x y : ℕ). turn_in x y k) be ne)
    ∙ played_same (turn_in (base_in s) (lines_in s) k) (turn_of (base_in s) (lines_in s) k) (lines_in s) (λ j q. turns.turn_at (base_in s) (lines_in s) k j few q) (start_machine s) (event_since s) (since_count s))

module _ (s : List ℕ) (y : Bytes s) (h : accepted (page_answer s) ≡ true) where
  abbrev n : ℕ
  n = image_size (schedule_shape s)

  -- an image of the plain way is an ending
  as_ending : (g : Image) → In g (plain_images s) → (k : ℕ) × (k < ending_count s) × (ending_in s k ≡ g)
  unfolding endings ending_in ending ending_count
  as_ending g i =
      let z = shape_of (ran s).bench.machine in
      let r = lists.in_at no_image g (map (image_of z) (choices (table_in s))) (subst (λ (l : List Image). In g l) (plain_is s h) i) in
      let q : r.0 < length (choices (table_in s)) = omega (arith, r.1, length-map (choices (table_in s)) (image_of z)) in
      (r.0, omega (arith, q, choices_length (table_in s)), sym (blocks.get_or_map_in (image_of z) (choices (table_in s)) r.0 [] no_image q) ∙ r.2)

  image_read : (g : Image) → In g (plain_images s) → read_image (image_bytes g) ≡ record { answer = Taken; image = g }
  image_read g i =
      let k = as_ending g i in
      subst (λ (x : Image). read_image (image_bytes x) ≡ record { answer = Taken; image = x }) k.2 (bytes.bytes_read s y h k.0 k.1)

  image_long : (g : Image) → In g (plain_images s) → length (image_bytes g) ≡ n
  image_long g i =
      let k = as_ending g i in
      ap (λ (x : Image). length (image_bytes x)) (sym k.2) ∙ bytes.bytes_long s y h k.0 k.1 ∙ ap image_size (since.ran_shape s (page_ran s h))

  -- two with the same bytes are one
  image_one : (g f : Image) → In g (plain_images s) → In f (plain_images s) → image_bytes g ≡ image_bytes f → g ≡ f
  image_one g f i j e = ap (λ (r : Read). r.image) (sym (image_read g i) ∙ ap read_image e ∙ image_read f j)

  pub sized : (k : ℕ) → k ≤ runs_in s → lists.Sized n (images_to s k)
  sized k q g i = image_long g (images_in s k q g i)

  pub all_long : (k : ℕ) → k ≤ runs_in s → length (all_bytes (images_to s k)) ≡ length (images_to s k) * n
  all_long k q = lists.all_length n (images_to s k) (sized k q)

  -- they fit
  pub all_fit : (k : ℕ) → k ≤ runs_in s → (b : List ℕ) → plain_room s ≤ length b → length (all_bytes (images_to s k)) ≤ length b
  all_fit k q b r = omega (arith, all_long k q, mul-le-mul_right n (images_few s k q))

  -- ---- one run

  module _ (k c : ℕ) (b x : List ℕ) (t : NotedTo s k b c) (lt : k < runs_in s) (x_is : (i : ℕ) → i < n → get_or x i 0 ≡ get_or (image_bytes (image_at s k)) i 0) where
    abbrev l : List Image
    l = images_to s k

    abbrev g : Image
    g = image_at s k

    found : In g l → is_noted b (length l) x n ≡ true
    found = lists.noted_in n l g b x (sized k t.within) (image_long g (image_in_lem s k lt)) t.front x_is
        (λ a i e. image_one a g (images_in s k t.within a i) (image_in_lem s k lt) e)

    lost : (In g l → ⊥) → is_noted b (length l) x n ≡ false
    lost = lists.noted_out n l g b x (sized k t.within) (image_long g (image_in_lem s k lt)) t.front x_is
        (λ a i e. image_one a g (images_in s k t.within a i) (image_in_lem s k lt) e)

    pub note_yes : is_noted b c x n ≡ true → (c ≡ length (images_to s (k + 1))) × (b ≡ over b 0 (all_bytes (images_to s (k + 1))))
    note_yes e = by (laws.there same_image image_tells g l)
      where
        by : In g l ⊎ (In g l → ⊥) → (c ≡ length (images_to s (k + 1))) × (b ≡ over b 0 (all_bytes (images_to s (k + 1))))
        by (inl i) =
            let q : images_to s (k + 1) ≡ l = ap (images_to s) (add-one k) ∙ images_next s k ∙ laws.join_in same_image image_tells g l i in
            (t.count ∙ ap length (sym q), sym (ap (λ (y : List Image). over b 0 (all_bytes y)) q ∙ lists.over_same b (all_bytes l) (all_fit k t.within b t.room) t.front))
        by (inr i) = no_way (sym e ∙ ap (λ (y : ℕ). is_noted b y x n) t.count ∙ lost i)

    -- it is new: there is room for it
    new : is_noted b c x n ≡ false → images_to s (k + 1) ≡ l ++ (g ∷ [])
    new e = by (laws.there same_image image_tells g l)
      where
        by : In g l ⊎ (In g l → ⊥) → images_to s (k + 1) ≡ l ++ (g ∷ [])
        by (inl i) = no_way (sym (ap (λ (y : ℕ). is_noted b y x n) t.count ∙ found i) ∙ e)
        by (inr i) = ap (images_to s) (add-one k) ∙ images_next s k ∙ laws.join_out same_image image_tells g l i

    pub note_room : is_noted b c x n ≡ false → c * n + n ≤ length b
    note_room e =
        let q = images_few s (k + 1) (omega arith) in
        let r : suc c ≤ length (plain_images s) = omega (arith, q, ap length (new e), length-append l (g ∷ []), t.count) in
        omega (arith, t.room, suc-mul c n, mul-le-mul_right n r)

    pub note_no : is_noted b c x n ≡ false → n ≤ length x → (c + 1 ≡ length (images_to s (k + 1))) × (over b (c * n) (take n x) ≡ over b 0 (all_bytes (images_to s (k + 1))))
    note_no e long =
        let q = new e in
        let w : c * n ≡ length (all_bytes l) = ap (λ (y : ℕ). y * n) t.count ∙ sym (all_long k t.within) in (
          ap (λ (y : ℕ). y + 1) t.count ∙ sym (ap length q ∙ length-append l (g ∷ [])),
          ap₂ (λ (y : ℕ) (z : List ℕ). over b y z) w (front_of long) ∙ lists.over_more b (all_bytes l) (all_fit k t.within b t.room) (image_bytes g) t.front
              ∙ ap (over b 0) (sym (ap all_bytes q ∙ lists.all_more l g)),
        )
      where
        front_of : n ≤ length x → take n x ≡ image_bytes g
        front_of r =
            let z : length (take n x) ≡ n = length-take-le n x r in
            ext_get_or 0 (take n x) (image_bytes g) (z ∙ sym (image_long g (image_in_lem s k lt)))
            (λ i p. let p' : i < n = omega (arith, z) in get_or-take n x i 0 p' ∙ x_is i p')

  -- what a buffer holds after runs
  pub noted_on : (k c : ℕ) (b b' : List ℕ) → k ≤ runs_in s → plain_room s ≤ length b → c ≡ length (images_to s k) → b' ≡ over b 0 (all_bytes (images_to s k)) → NotedTo s k b' c
  noted_on k c b b' q r e w = record {
    within = q;
    count = e;
    front = ap (take (length (all_bytes (images_to s k)))) w ∙ lists.front_over b (all_bytes (images_to s k)) (all_fit k q b r);
    room = omega (arith, r, ap length w, tabs.length_over b 0 (all_bytes (images_to s k)));
  }

  pub noted_none : (b : List ℕ) → plain_room s ≤ length b → NotedTo s 0 b 0
  unfolding all_bytes
  noted_none b r = record {
    within = omega arith;
    count = sym (ap length (images_none s));
    front = ap (λ (l : List Image). take (length (all_bytes l)) b) (images_none s) ∙ sym (ap all_bytes (images_none s));
    room = r;
  }

  -- a run more, over what those before it have left
  pub over_next : (k : ℕ) (b₀ b : List ℕ) → k < runs_in s → plain_room s ≤ length b₀ → b ≡ over b₀ 0 (all_bytes (images_to s k))
      → over b 0 (all_bytes (images_to s (k + 1))) ≡ over b₀ 0 (all_bytes (images_to s (k + 1)))
  over_next k b₀ b q r e = by (laws.there same_image image_tells (image_at s k) (images_to s k))
    where
      l : List Image
      l = images_to s k

      g : Image
      g = image_at s k

      more : (z : List ℕ) → all_bytes (images_to s (k + 1)) ≡ all_bytes (images_to s k) ++ z → over b 0 (all_bytes (images_to s (k + 1))) ≡ over b₀ 0 (all_bytes (images_to s (k + 1)))
      more z w =
          ap₂ (λ (x y : List ℕ). over x 0 y) e w ∙ lists.over_longer b₀ (all_bytes (images_to s k)) z (all_fit k (omega arith) b₀ r) ∙ ap (over b₀ 0) (sym w)

      by : In (image_at s k) (images_to s k) ⊎ (In (image_at s k) (images_to s k) → ⊥) → over b 0 (all_bytes (images_to s (k + 1))) ≡ over b₀ 0 (all_bytes (images_to s (k + 1)))
      by (inl i) = more [] (ap all_bytes (ap (images_to s) (add-one k) ∙ images_next s k ∙ laws.join_in same_image image_tells g l i) ∙ sym (append-nil (all_bytes (images_to s k))))
      by (inr i) = more (image_bytes (image_at s k)) (ap all_bytes (ap (images_to s) (add-one k) ∙ images_next s k ∙ laws.join_out same_image image_tells g l i) ∙ lists.all_more l g)
