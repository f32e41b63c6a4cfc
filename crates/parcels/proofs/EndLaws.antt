-- The ending as the code finds it: its size, the machine that it starts, and each parcel's group there.
use Prim.Native.Nat.{ℕ, zero, suc, ◌+◌, ◌-◌, ◌*◌, ◌<◌, ◌≤◌}
use mathlib.Core.Path.{◌≡◌, refl, sym, ap, ap₂, subst, ◌∙◌}
use mathlib.Core.Bool.{Bool, true, false, not}
use mathlib.Core.List.{List, ◌++◌}
use native.Mathlib.Omega.{arith}
use native.Mathlib.Decide.{ℕ_discrete, dec_lt}
use lib.Dec.{eqb, ltb, leb}
use lib.ListN.{length, get_or, take, drop, replicate, length-drop, length-replicate, get_or-replicate}
use lib.Seq.{get_or-drop, get_or-append-add}
use borrow.Author.Tests.{lt-ltb, le-ltb, eq-eqb, ne_eqb, lt-leb, le-leb}
use Rattle.lists.specs.Find.{pick, both}
use Rattle.lists.specs.Tab.{tab, over, front}
use Rattle.lists.proofs.BoolLaws.{no_way, yes_of, no_of}
use Rattle.lists.proofs.TabLaws as tabs
use Rattle.std.specs.Prelude.{Result, Ok}
use Rattle.answer.specs.Answers.{accepted, given, check, Answer, Taken, NoEnding, Room}
use Rattle.answer.specs.declared.Refusal.{Refusal}
use Rattle.answer.proofs.Results.{given_same}
use Rattle.parcels.proofs.Gives.{given_ok, start_given}
use Rattle.image.specs.Form.{image_size}
use Rattle.image.specs.Layout.{no_content, no_contents, content_at, shape_in, image_bytes}
use Rattle.image.specs.Recovered.{head_of, recovered, recovered_at, dummy_of}
use Rattle.image.specs.Refusals.{read_image}
use Rattle.image.specs.declared.Content.{Content}
use Rattle.image.specs.declared.Image.{Image}
use Rattle.image.proofs.ShapeLaws.{shaped_lines}
use Rattle.machine.specs.Record.{node, blank_node, blank_nodes, zero_node}
use Rattle.machine.specs.Start.{start_node, queue_of, start_with, start_of, start_answer}
use Rattle.machine.specs.declared.Machine.{Machine}
use Rattle.machine.specs.declared.Node.{Node}
use Rattle.schedule.specs.declared.Schedule.{Schedule}
use Rattle.schedule.specs.Layout.{read_schedule, schedule_in, schedule_answer, schedule_shape, threads_in, count_in, image_part}
use Rattle.page.specs.Endings.{image_of, ending}
use Rattle.page.specs.Refusals.{page_answer, ending_count, ending_in, ending_answer, ending_written}
use Rattle.lawful.specs.Demand3.{Bytes}
use Rattle.codec.proofs.Accepted as codec
use Rattle.pages.proofs.OwnLaws.{size_few}
use Rattle.filling.proofs.Numbers.{ran_shape}
use Rattle.tied.proofs.Accepted.{sound_is, dummy_free}
use Rattle.lawproof.proofs.Lawful3.{page_parts, page_lawful}
use Rattle.endread.proofs.Bytes.{ending_size, bytes_read, bytes_front}
use Rattle.parcels.specs.Parcel.{node_at, no_parcel, is_linked, parcels_in}
use Rattle.parcels.specs.Despatch.{handed_out, still_queued, turned_away, taken_alone, group_of, entry_bytes, entries_to, list_bytes, despatch_answer, despatch_count, despatch_written}
use Rattle.parcels.specs.Started.{end_size, started_from, no_bytes, head_in, queued_in, alone_in, group_in, packed_to, pack_answer, Packed}
use Rattle.parcels.specs.declared.Parcel.{Parcel}
use Rattle.parcels.specs.declared.Group.TheVariants.{HandedOut, Queued, TurnedAway, TakenAlone, NeverIn}

-- ---- sizes

module _ (s : List ℕ) (a : accepted (schedule_answer s) ≡ true) where
  part_long : length s ≡ 8 + (image_size (schedule_shape s) + count_in s * 6)
  part_long =
      let t = codec.schedule_taken s a in
      let z : length (image_part s) ≡ length s - 8 = length-drop 8 s in
      omega (arith, t.long, t.part.size, z, codec.schedule_size s a)

  pub size_is : end_size s ≡ image_size (schedule_shape s)
  size_is = omega (arith, part_long)

  pub size_fits : 8 + count_in s * 6 ≤ length s
  size_fits = omega (arith, part_long)

  pub size_small : end_size s ≤ 846
  size_small =
      let t = codec.schedule_taken s a in
      let z = shape_in (image_part s) in
      let l = shaped_lines (threads_in s) z t.part.shape in
      subst (λ k. k ≤ 846) (sym (size_is ∙ sym (codec.schedule_size s a))) (size_few z t.part.shape.form l.0 l.1)

pub schedule_ok : (s : List ℕ) → accepted (schedule_answer s) ≡ true → ◌≡◌ {A = Result Schedule Refusal} (given (read_schedule s).answer (read_schedule s).schedule) (Ok (schedule_in s))
schedule_ok s a = codec.schedule_given s ∙ given_ok (schedule_answer s) (schedule_in s) a

pub no_bytes_long : length no_bytes ≡ 1024
unfolding no_bytes
no_bytes_long = length-replicate {A = ℕ} 1024 0

-- ---- what ending_of answers with room enough, and what the desk answers

module _ (s : List ℕ) (k : ℕ) where
  by_page : (room : ℕ) (b : Bool) → accepted (page_answer s) ≡ b
      → ◌≡◌ {A = Answer} (ending_answer s k room) (pick b (check (leb (ending_count s) k) NoEnding (check (ltb room (ending_size s)) Room Taken)) (page_answer s))
  unfolding ending_answer
  by_page room true e = yes_of (check (leb (ending_count s) k) NoEnding (check (ltb room (ending_size s)) Room Taken)) (page_answer s) (accepted (page_answer s)) e
  by_page room false e = no_of (check (leb (ending_count s) k) NoEnding (check (ltb room (ending_size s)) Room Taken)) (page_answer s) (accepted (page_answer s)) e

  desk_by_page : (room : ℕ) (b : Bool) → accepted (page_answer s) ≡ b
      → ◌≡◌ {A = Answer} (despatch_answer s k room) (pick b (check (leb (ending_count s) k) NoEnding (pack_answer s room)) (page_answer s))
  unfolding despatch_answer pack_answer
  desk_by_page room true e = yes_of (check (leb (ending_count s) k) NoEnding (pack_answer s room)) (page_answer s) (accepted (page_answer s)) e
  desk_by_page room false e = no_of (check (leb (ending_count s) k) NoEnding (pack_answer s room)) (page_answer s) (accepted (page_answer s)) e

  ran_size : accepted (page_answer s) ≡ true → ending_size s ≡ end_size s
  ran_size p = let q = page_parts s p in ap image_size (ran_shape s q.1) ∙ sym (size_is s q.0)

  size_room : accepted (page_answer s) ≡ true → ending_size s ≤ 1024
  size_room p = let q = page_parts s p in omega (arith, ran_size p, size_small s q.0)

  -- refused there, refused here alike
  pub refused_same : (room : ℕ) → accepted (ending_answer s k 1024) ≡ false → despatch_answer s k room ≡ ending_answer s k 1024
  refused_same room h = by (accepted (page_answer s)) refl (leb (ending_count s) k) refl
    where
      by : (b : Bool) → accepted (page_answer s) ≡ b → (c : Bool) → leb (ending_count s) k ≡ c → despatch_answer s k room ≡ ending_answer s k 1024
      by false e c f = desk_by_page room false e ∙ sym (by_page 1024 false e)
      by true e true f = desk_by_page room true e ∙ rw f (sym (by_page 1024 true e ∙ rw f refl))
      by true e false f =
          let q : ending_answer s k 1024 ≡ Taken = by_page 1024 true e ∙ rw (f, le-ltb 1024 (ending_size s) (size_room e)) refl in
          no_way (sym (ap accepted q) ∙ h)

  pub record Given : Type 0 where
    pub page : accepted (page_answer s) ≡ true
    pub there : k < ending_count s
    pub desk : (room : ℕ) → despatch_answer s k room ≡ pack_answer s room

  pub taken_there : accepted (ending_answer s k 1024) ≡ true → Given
  taken_there h = by (accepted (page_answer s)) refl (dec_lt k (ending_count s))
    where
      by : (b : Bool) → accepted (page_answer s) ≡ b → Dec (k < ending_count s) → Given
      by false e d = no_way (sym h ∙ ap accepted (by_page 1024 false e) ∙ e)
      by true e (yes l) = record { page = e; there = l; desk = λ room. desk_by_page room true e ∙ rw (lt-leb (ending_count s) k l) refl }
      by true e (no l) =
          let q : ending_answer s k 1024 ≡ NoEnding = by_page 1024 true e ∙ rw (le-leb (ending_count s) k (omega arith)) refl in
          no_way (sym h ∙ ap accepted q)

-- ---- a started machine's nodes

front_beyond : {A : Type 0} (f : ℕ → A) (n : ℕ) (l : List A) (i : ℕ) (d : A) → n ≤ i → get_or (front f n l) i d ≡ get_or l i d
unfolding front
front_beyond f n l i d h =
    ap (λ (k : ℕ). get_or (tab f n ++ drop n l) k d) (let z : i ≡ length (tab f n) + (i - n) = omega (arith, tabs.length_tab f n) in z)
    ∙ get_or-append-add (tab f n) (drop n l) (i - n) d ∙ get_or-drop n l (i - n) d ∙ ap (λ (k : ℕ). get_or l k d) (let z : n + (i - n) ≡ i = omega arith in z)

both_none : (a b : Bool) → a ≡ false → both a b ≡ false
both_none a b e = rw e refl

both_never : (a b c : Bool) → b ≡ false → both (both a b) c ≡ false
both_never true b c e = rw e refl
both_never false b c e = refl

module _ (g : Image) (t : ℕ) (a : accepted (start_answer g t) ≡ true) (blank : (i : ℕ) → g.n ≤ i → i < 64 → content_at g.nodes i ≡ no_content) where
  abbrev d : ℕ
  d = dummy_of g

  d_in : dummy_of g < g.n
  d_in = (sound_is g t a).dummy

  n_in : g.n ≤ 64
  n_in = (sound_is g t a).sizes.nodes_hi

  node_in : (i : ℕ) → i < g.n → node (start_of g t) i ≡ start_node g (dummy_of g) (queue_of g) i
  unfolding start_with
  node_in i h = tabs.front_at (start_node g (dummy_of g) (queue_of g)) g.n blank_nodes i zero_node h

  node_out : (i : ℕ) → g.n ≤ i → i < 64 → node (start_of g t) i ≡ blank_node
  unfolding start_with blank_nodes
  node_out i l h = front_beyond (start_node g (dummy_of g) (queue_of g)) g.n (replicate 64 blank_node) i zero_node l ∙ get_or-replicate 64 i blank_node zero_node h

  head_at : (start_of g t).head ≡ dummy_of g
  unfolding start_with
  head_at = refl

  inside : (i : ℕ) → i < 64 → node_at (start_of g t) i ≡ node (start_of g t) i
  inside i h = ap (λ (b : Bool). pick b (node (start_of g t) i) zero_node) (lt-ltb i 64 h)

  pub head_is : head_in (start_of g t) ≡ head_of g
  head_is =
      ap (λ (i : ℕ). (node_at (start_of g t) i).index) head_at
      ∙ ap (λ (v : Node). v.index) (inside (dummy_of g) (omega (arith, d_in, n_in)) ∙ node_in (dummy_of g) d_in)
      ∙ ap (λ (b : Bool). pick b (head_of g) (content_at g.nodes (dummy_of g)).index) (eq-eqb (dummy_of g) (dummy_of g) refl)

  abbrev queued_by : Node → ℕ → ℕ → Bool
  queued_by v h x = both (both (eqb v.linked 1) (ltb h v.index)) (eqb v.index x)

  abbrev content_by : Content → ℕ → ℕ → Bool
  content_by c h x = both (recovered h c) (eqb c.index x)

  node_by : (i x : ℕ) → i < 64 → queued_by (node_at (start_of g t) i) (head_in (start_of g t)) x ≡ content_by (content_at g.nodes i) (head_of g) x
  unfolding recovered
  node_by i x h = by (dec_lt i g.n) (ℕ_discrete i (dummy_of g))
    where
      by : Dec (i < g.n) → Dec (i ≡ dummy_of g) → queued_by (node_at (start_of g t) i) (head_in (start_of g t)) x ≡ content_by (content_at g.nodes i) (head_of g) x
      by (yes l) (no ne) =
          ap₂ (λ (v : Node) (y : ℕ). queued_by v y x) (inside i h ∙ node_in i l) head_is
          ∙ ap (λ (b : Bool). let v = pick b (head_of g) (content_at g.nodes i).index in both (both (eqb (content_at g.nodes i).linked 1) (ltb (head_of g) v)) (eqb v x)) (ne_eqb i (dummy_of g) ne)
      by (yes l) (yes e) =
          ap₂ (λ (v : Node) (y : ℕ). queued_by v y x) (inside i h ∙ node_in i l) head_is
          ∙ ap (λ (b : Bool). let v = pick b (head_of g) (content_at g.nodes i).index in both (both (eqb (content_at g.nodes i).linked 1) (ltb (head_of g) v)) (eqb v x)) (eq-eqb i (dummy_of g) e)
          ∙ both_never (eqb (content_at g.nodes i).linked 1) (ltb (head_of g) (head_of g)) (eqb (head_of g) x) (le-ltb (head_of g) (head_of g) (omega arith))
          ∙ sym (both_none (recovered (head_of g) (content_at g.nodes i)) (eqb (content_at g.nodes i).index x) (ap (recovered_at g) e ∙ dummy_free g d_in))
      by (no l) q =
          ap (λ (v : Node). queued_by v (head_in (start_of g t)) x) (inside i h ∙ node_out i (omega arith) h)
          ∙ sym (ap (λ (c : Content). content_by c (head_of g) x) (blank i (omega arith) h))

  queued_is : (p : Parcel) → queued_in (start_of g t) p ≡ still_queued g p
  queued_is p = by (dec_lt p.node 64)
    where
      by : Dec (p.node < 64) → queued_in (start_of g t) p ≡ still_queued g p
      by (yes h) = ap (both (is_linked p)) (node_by p.node p.index h)
      by (no h) = both_none (is_linked p) _ (le-ltb p.node 64 (omega arith)) ∙ sym (both_none (is_linked p) _ (le-ltb p.node 64 (omega arith)))

  alone_is : (p : Parcel) → alone_in (start_of g t) p ≡ taken_alone g p
  alone_is p = ap (λ (h : ℕ). both (is_linked p) (both (leb p.index h) (not p.handed))) head_is

  pub group_is : (p : Parcel) → group_in (start_of g t) p ≡ group_of g p
  unfolding group_in group_of
  group_is p = ap₂ (λ (x y : Bool). pick (handed_out p) HandedOut (pick x Queued (pick (turned_away p) TurnedAway (pick y TakenAlone NeverIn)))) (queued_is p) (alone_is p)

  pub packed_is : (l : List Parcel) (j : ℕ) → packed_to (start_of g t) l j ≡ entries_to g l j
  unfolding packed_to entries_to
  packed_is l zero = refl
  packed_is l (suc j) =
      ap₂ (λ (x y : List ℕ). x ++ y) (packed_is l j) (ap (entry_bytes (get_or l j no_parcel)) (group_is (get_or l j no_parcel)))

-- ---- the machine that the ending starts

abbrev end_machine : List ℕ → ℕ → Machine
end_machine s k = start_of (ending_in s k) (threads_in s)

module _ (s : List ℕ) (bytes : Bytes s) (k : ℕ) (g : Given s k) where
  pub end_starts : accepted (start_answer (ending_in s k) (threads_in s)) ≡ true
  end_starts = (page_lawful s bytes g.page k g.there).starts

  end_read : (z : List ℕ) → z ≡ ending_written s k no_bytes → read_image (take (end_size s) z) ≡ record { answer = Taken; image = ending_in s k }
  end_read z ze =
      ap read_image (ap (take (end_size s)) ze ∙ ap (λ n. take n (ending_written s k no_bytes)) (sym (ran_size s k g.page))
      ∙ bytes_front s bytes g.page k g.there no_bytes (omega (arith, size_room s k g.page, no_bytes_long)))
      ∙ bytes_read s bytes g.page k g.there

  -- the ending, read, is taken, and starts that machine
  pub end_is : (z : List ℕ) → z ≡ ending_written s k no_bytes → started_from (threads_in s) (read_image (take (end_size s) z)) ≡ Ok (end_machine s k)
  end_is z ze = ap (started_from (threads_in s)) (end_read z ze) ∙ start_given (ending_in s k) (threads_in s) end_starts

  -- nothing stands beyond its nodes
  end_blank : (i : ℕ) → (ending_in s k).n ≤ i → i < 64 → content_at (ending_in s k).nodes i ≡ no_content
  unfolding ending_in ending image_of no_contents
  end_blank i l h = front_beyond _ _ (replicate 64 no_content) i no_content l ∙ get_or-replicate 64 i no_content no_content h

  -- ---- what the desk's call gives and leaves

  module _ (b : List ℕ) (r : Result ℕ Refusal) (z : List ℕ) (m : Machine) (me : m ≡ end_machine s k) (w : Packed s m b r z) where
    pub desk_gives : r ≡ given (despatch_answer s k (length b)) (despatch_count s k (length b))
    unfolding despatch_count
    desk_gives =
        w.gives ∙ ap (λ (x : Answer). given x (length (parcels_in s))) (sym (g.desk (length b)))
        ∙ given_same (despatch_answer s k (length b)) (λ e. sym (ap (λ (x : Bool). pick x (length (parcels_in s)) 0) e))

    pub desk_bytes : z ≡ despatch_written s k b
    unfolding despatch_written list_bytes
    desk_bytes =
        w.bytes
        ∙ ap₂ (λ (x : Answer) (y : List ℕ). pick (accepted x) (over b 0 y) b) (sym (g.desk (length b)))
        (ap (λ (m : Machine). packed_to m (parcels_in s) (length (parcels_in s))) me
        ∙ packed_is (ending_in s k) (threads_in s) end_starts end_blank (parcels_in s) (length (parcels_in s)))

-- where there is no such ending
module _ (s : List ℕ) (k : ℕ) (h : accepted (ending_answer s k 1024) ≡ false) where
  pub none_bytes : (b : List ℕ) → b ≡ despatch_written s k b
  unfolding despatch_written
  none_bytes b = sym (ap (λ (x : Bool). pick x (over b 0 (list_bytes s k)) b) (ap accepted (refused_same s k (length b) h) ∙ h))

-- the buffer that the ending was written into is as long as it was
pub written_long : (s : List ℕ) (k : ℕ) (b : List ℕ) → length (ending_written s k b) ≡ length b
unfolding ending_written
written_long s k b = by (accepted (ending_answer s k (length b)))
  where
    by : (x : Bool) → length {A = ℕ} (elim x as (λ _. List ℕ) [ true ↦ over b 0 (image_bytes (ending_in s k)) | false ↦ b ]) ≡ length b
    by true = tabs.length_over b 0 (image_bytes (ending_in s k))
    by false = refl
