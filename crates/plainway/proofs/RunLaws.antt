-- One run noted, at the code's terms.
use Prim.Native.Nat.{ℕ, ◌+◌, ◌*◌, ◌≤◌, ◌<◌}
use mathlib.Core.Path.{◌≡◌, sym, ap, ap₂, subst, ◌∙◌}
use mathlib.Core.Bool.{true, false}
use mathlib.Core.List.{List}
use native.Mathlib.Omega.{arith}
use lib.ListN.{length, get_or, take, drop, get_or-append}
use Rattle.lists.specs.Tab.{over}
use Rattle.lists.proofs.TabLaws as tabs
use Rattle.answer.specs.Answers.{accepted}
use Rattle.image.specs.Form.{known, head_lines, image_size}
use Rattle.image.specs.Layout.{image_shape, image_bytes}
use Rattle.image.specs.declared.Image.{Image}
use Rattle.image.specs.declared.Shape.{Shape}
use Rattle.machine.specs.Line.{shape_of, persisted}
use Rattle.machine.specs.declared.Machine.{Machine}
use Rattle.schedule.specs.Layout.{schedule_shape}
use Rattle.page.specs.Refusals.{page_answer}
use Rattle.lawful.specs.Demand3.{Bytes}
use Rattle.codec.proofs.ReadWrite.{over_front}
use Rattle.codec.proofs.WriteRead.{size_back}
use Rattle.pages.proofs.OwnLaws.{owned, own_lines, own_size}
use Rattle.filling.proofs.Numbers.{count_few}
use Rattle.plainproof.specs.Plain.{start_machine, since_count, event_since, lines_in, played_at}
use Rattle.plainproof.proofs.Plain.{plain_count_lem}
use Rattle.plainruns.specs.Turns.{turn_in}
use Rattle.plainruns.proofs.PlayLaws.{shape_at}
use Rattle.plainway.specs.Plainly.{all_bytes}
use Rattle.plainway.specs.Noting.{is_noted, runs_in, image_at, images_to, Laid, NotedTo}
use Rattle.plainway.specs.declared.way.Way.{Way}
use Rattle.plainway.proofs.ListLaws as lists
use Rattle.plainway.proofs.NoteLaws as notes
use Rattle.plainway.proofs.WayLaws as ways

-- the buffer holds what it holds
pub noted_self : (s : List ℕ) → Bytes s → accepted (page_answer s) ≡ true → (k c : ℕ) (b : List ℕ) → NotedTo s k b c → b ≡ over b 0 (all_bytes (images_to s k))
noted_self s y h k c b t = sym (lists.over_same b (all_bytes (images_to s k)) (notes.all_fit s y h k t.within b t.room) t.front)

module _ (s : List ℕ) (y : Bytes s) (w : Way) (laid : Laid s w) (k c : ℕ) (b : List ℕ) (t : NotedTo s k b c) (few : k < w.runs) where
  abbrev h : accepted (page_answer s) ≡ true
  h = laid.planned.taken

  abbrev n : ℕ
  n = image_size (schedule_shape s)

  lt : k < runs_in s
  lt = subst (λ (x : ℕ). k < x) laid.runs few

  -- the images so far fit
  pub noted_fit : c * w.size ≤ length b
  noted_fit =
      let e : c * w.size ≡ length (images_to s k) * n = ap₂ ◌*◌ t.count laid.size in
      omega (arith, e, notes.all_long s y h k t.within, notes.all_fit s y h k t.within b t.room)

  pub size_fits : w.size ≤ 846
  size_fits = omega (arith, laid.size, ways.size_small s h)

  module _ (picks : List ℕ) (pe : picks ≡ turn_in w.base w.lines k) (m : Machine) (me : m ≡ played_at picks (lines_in s) (start_machine s) (event_since s) (since_count s)) (g : Image) (ge : g ≡ persisted m) where
    shape : shape_of m ≡ schedule_shape s
    shape = ap shape_of me ∙ shape_at s y h picks (since_count s) (omega arith)

    g_shape : image_shape g ≡ owned (schedule_shape s)
    g_shape = ap image_shape ge ∙ ap owned shape

    pub image_fits : (known g.form ≡ true) × ((g.n ≤ 64) × ((head_lines (image_shape g) ≤ 8) × (image_size (image_shape g) ≤ 846)))
    image_fits =
        let z = schedule_shape s in
        subst (λ (x : Shape). (known x.form ≡ true) × ((x.n ≤ 64) × ((head_lines x ≤ 8) × (image_size x ≤ 846)))) (sym g_shape)
        (ways.form_known s h, (ways.nodes_few s h, (omega (arith, own_lines z, ways.heads_few s h), omega (arith, own_size z, ways.size_small s h))))

    g_bytes : image_bytes g ≡ image_bytes (image_at s k)
    g_bytes = ap image_bytes ge ∙ notes.run_bytes s m picks k w.base w.lines laid.base laid.lines laid.few pe me

    g_long : length (image_bytes g) ≡ n
    g_long = size_back g image_fits.0 ∙ ap image_size g_shape ∙ own_size (schedule_shape s)

    module _ (x e : List ℕ) (xe : x ≡ over e 0 (image_bytes g)) (long : length e ≡ 846) where
      x_is : (i : ℕ) → i < n → get_or x i 0 ≡ get_or (image_bytes (image_at s k)) i 0
      x_is i q =
          ap (λ (l : List ℕ). get_or l i 0) (xe ∙ over_front e (image_bytes g) (omega (arith, g_long, ways.size_small s h)))
          ∙ get_or-append (image_bytes g) (drop (length (image_bytes g)) e) 0 i (omega (arith, g_long)) ∙ ap (λ (l : List ℕ). get_or l i 0) g_bytes

      pub x_long : length x ≡ 846
      x_long = ap length xe ∙ tabs.length_over e 0 (image_bytes g) ∙ long

      at_size : (v : ℕ) → v ≡ w.size → v ≡ n
      at_size v q = q ∙ laid.size

      pub run_yes : is_noted b c x w.size ≡ true → NotedTo s (k + 1) b c × (b ≡ over b 0 (all_bytes (images_to s (k + 1))))
      run_yes q =
          let r = notes.note_yes s y h k c b x t lt x_is (ap (is_noted b c x) (sym laid.size) ∙ q) in
          (notes.noted_on s y h (k + 1) c b b (omega (arith, lt)) t.room r.0 r.1, r.1)

      module _ (q : is_noted b c x w.size ≡ false) where
        q' : is_noted b c x n ≡ false
        q' = ap (is_noted b c x) (sym laid.size) ∙ q

        pub run_room : c * w.size + w.size ≤ length b
        run_room =
            let e : c * w.size + w.size ≡ c * n + n = ap (λ (v : ℕ). c * v + v) laid.size in
            omega (arith, e, notes.note_room s y h k c b x t lt x_is q')

        r : (c + 1 ≡ length (images_to s (k + 1))) × (over b (c * n) (take n x) ≡ over b 0 (all_bytes (images_to s (k + 1))))
        r = notes.note_no s y h k c b x t lt x_is q' (omega (arith, x_long, ways.size_small s h))

        pub run_count : c + 1 ≤ 65536
        run_count = omega (arith, r.0, notes.images_few s (k + 1) (omega (arith, lt)), plain_count_lem s h, count_few s h)

        pub run_no : (b' : List ℕ) → b' ≡ over b (c * w.size) (take w.size x) → NotedTo s (k + 1) b' (c + 1) × (b' ≡ over b 0 (all_bytes (images_to s (k + 1))))
        run_no b' e =
            let f = e ∙ ap (λ (v : ℕ). over b (c * v) (take v x)) laid.size ∙ r.1 in
            (notes.noted_on s y h (k + 1) (c + 1) b b' (omega (arith, lt)) t.room r.0 f, f)
