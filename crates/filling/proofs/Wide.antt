-- Every line of a page of bytes goes into 731 bytes.
use Prim.Native.Nat.{ℕ, zero, suc, ◌+◌, ◌*◌, ◌≤◌, ◌<◌}
use mathlib.Core.Path.{◌≡◌, sym, subst}
use mathlib.Core.Bool.{Bool, true, false}
use mathlib.Core.List.{List, [], ◌∷◌, ◌++◌, map}
use mathlib.Core.Logic.{inl, inr}
use native.Mathlib.Omega.{arith}
use lib.ListN.{length, get_or, drop}
use lib.Seq.{get_or-drop}
use Rattle.lists.specs.Tab.{tab}
use Rattle.answer.specs.Answers.{accepted}
use Rattle.image.specs.Bytes.{at4, at_w}
use Rattle.image.specs.Form.{width_of, top_of, heads_at, head_lines, node_place, own_threads, per_desk}
use Rattle.image.specs.declared.Shape.{Shape}
use Rattle.image.proofs.FormLaws.{top_small}
use Rattle.image.specs.Layout.{no_content, no_contents, content_at, image_shape, shape_in, read_content, read_nodes, image_in, same_content, head_in, read_heads}
use Rattle.image.specs.declared.Content.{Content}
use Rattle.machine.specs.Line.{shape_of, line_count, line_at, cached_at, persisted_at}
use Rattle.machine.specs.declared.Line.{Line}
use Rattle.machine.specs.declared.Line.TheVariants.{OfHead as of_head, OfNode as of_node}
use Rattle.machine.specs.Event.{Deed, unknown, enqueues, dequeues, steps, writes_back, crashes, deed_of, done}
use Rattle.machine.specs.declared.Machine.{Machine}
use Rattle.image.proofs.ByteLaws.{at_small}
use Rattle.image.proofs.HeadLaws.{heads_at_lem, head_within, lines_same}
use Rattle.machine.specs.declared.Event.{Event}
use Rattle.machine.specs.declared.Acted.{Acted}
use Rattle.image.proofs.ShapeLaws as shapes
use Rattle.schedule.specs.Layout.{schedule_in, event_in, events_in, threads_in, nodes_in, count_in}
use Rattle.schedule.specs.Run.{Bench, run, ran, turned, opened}
use Rattle.page.specs.Contents.{joins, gathered, contents_of, table_of}
use Rattle.page.specs.Endings.{choices, product, image_of, ending}
use Rattle.page.specs.Printed.{first_line, ending_line}
use Rattle.page.specs.Refusals.{table_in, page_answer, ending_count, ending_in}
use Rattle.page.specs.Filled.{page_line}
use Rattle.lawful.specs.Demand3.{Bytes}
use Rattle.moments.proofs.Moments as moments
use Rattle.endtable.proofs.OwnLaws.{own_desks}
use borrow.Author.Tests.{eqb-true}
use Rattle.codec.proofs.Accepted as codec
use Rattle.pageproof.proofs.Among.{Among, choice_in}
use Rattle.pageproof.proofs.Events.{onto}
use Rattle.pageproof.proofs.Runs as runs
use Rattle.pageproof.proofs.Holds as holds
use Rattle.printing.specs.Bounds.{line_room}
use Rattle.printing.proofs.Short as short
use Rattle.filling.proofs.Numbers as numbers
use Rattle.filling.proofs.Small.{Little, Small, front_all, heads_small, no_content_lem, small_start, small_done}

-- ---- a run

abbrev SmallAll : List Machine → Type 0
SmallAll [] = Unit {0}
SmallAll (m ∷ l) = Small m × SmallAll l

all_append : (l : List Machine) (m : Machine) → SmallAll l → Small m → SmallAll (l ++ (m ∷ []))
all_append [] m h s = (s, tt)
all_append (x ∷ l) m h s = (h.0, all_append l m h.1 s)

all_drop : (n : ℕ) (l : List Machine) → SmallAll l → SmallAll (drop n l)
all_drop zero l h = h
all_drop (suc n) [] h = tt
all_drop (suc n) (m ∷ l) h = all_drop n l h.1

record SmallBench (b : Bench) : Type 0 where
  pub machine : Small b.machine
  pub past : SmallAll b.past

small_turned : (b : Bench) (o : Acted) (d : Deed) → SmallBench b → Small o.machine → SmallBench (turned b o d)
small_turned b o unknown h s = h
small_turned b o enqueues h s = record { machine = s; past = all_append b.past o.machine h.past s }
small_turned b o dequeues h s = record { machine = s; past = all_append b.past o.machine h.past s }
small_turned b o steps h s = record { machine = s; past = all_append b.past o.machine h.past s }
small_turned b o writes_back h s = record { machine = s; past = all_append b.past o.machine h.past s }
small_turned b o crashes h s = record { machine = s; past = (s, tt) }

abbrev SmallItems : List Event → Type 0
SmallItems [] = Unit {0}
SmallItems (e ∷ l) = (e.item < 4294967296) × SmallItems l

small_run : (l : List Event) (p : ℕ) (b : Bench) → SmallItems l → SmallBench b → runs.Accepts p b l → SmallBench (run p b l).bench
small_run [] p b i g h = rw (runs.run_nothing p b) g
small_run (e ∷ l) p b i g h =
    let t = runs.run_first p b e l h in
    rw (runs.run_bench p b e l t)
    (small_run l (suc p) (onto b e) i.1 (small_turned b (done b.machine e (deed_of e.kind)) (deed_of e.kind) g (small_done b.machine e (deed_of e.kind) i.0 g.machine)) (runs.run_rest p b e l h))

-- ---- what the bytes hold

word_small : (s : List ℕ) → Bytes s → (i : ℕ) → at4 s i < 4294967296
word_small s y i = omega (arith, at_small 4 s i y)

-- an index is below what its width holds, and so one of 64 bits
index_small : (f : ℕ) (s : List ℕ) → Bytes s → (i : ℕ) → at_w (width_of f) s i < 18446744073709551616
unfolding top_of
index_small f s y i = omega (arith, at_small (width_of f) s i y, top_small f)

items_append : (l : List Event) (e : Event) → SmallItems l → e.item < 4294967296 → SmallItems (l ++ (e ∷ []))
items_append [] e h p = (p, tt)
items_append (x ∷ l) e h p = (h.0, items_append l e h.1 p)

items_tab : (f : ℕ → Event) → ((i : ℕ) → (f i).item < 4294967296) → (n : ℕ) → SmallItems (tab f n)
unfolding tab
items_tab f h zero = tt
items_tab f h (suc n) = items_append (tab f n) (f n) (items_tab f h n) (h n)

bytes_drop : (s : List ℕ) (n : ℕ) → Bytes s → Bytes (drop n s)
bytes_drop s n y i = subst (λ x. x < 256) (sym (get_or-drop n s i 0)) (y (n + i))

contents_small : (s : List ℕ) → Bytes s → (i : ℕ) → Little (content_at (image_in s).nodes i)
unfolding image_in read_nodes
contents_small s y i =
    let z = shape_in s in
    let f = z.form in
    front_all Little (λ i. read_content f s (node_place z i)) z.n no_contents no_content
    (λ j p. (index_small f s y (node_place z j + 1), word_small s y (node_place z j + 1 + width_of f))) no_content_lem i

head_small : (s : List ℕ) → Bytes s → (k : ℕ) → head_in (image_in s) k < 18446744073709551616
unfolding image_in read_heads
head_small s y =
    let z = shape_in s in
    let f = z.form in
    heads_small z (λ k. at_w (width_of f) s (heads_at f + k * width_of f)) (λ k. index_small f s y (heads_at f + k * width_of f))

ran_small : (s : List ℕ) → Bytes s → accepted (ran s).answer ≡ true → SmallBench (ran s).bench
unfolding ran events_in schedule_in
ran_small s y h =
    let d = bytes_drop s 8 y in
    let g = small_start (image_in (drop 8 s)) (threads_in s) (contents_small (drop 8 s) d) (head_small (drop 8 s) d) in
    small_run (events_in s) 0 (opened (schedule_in s)) (items_tab (event_in s) (λ i. word_small s y _) (count_in s)) (record { machine = g; past = (g, tt) }) h

-- ---- the contents of a line

abbrev AllLittle : List Content → Type 0
AllLittle [] = Unit {0}
AllLittle (c ∷ l) = Little c × AllLittle l

joins_by : (a c : Content) (l r : List Content) (t : Bool) → AllLittle (a ∷ l) → AllLittle (a ∷ r)
    → AllLittle (elim t as (λ _. List Content) [ true ↦ a ∷ l | false ↦ a ∷ r ])
joins_by a c l r true p q = p
joins_by a c l r false p q = q

joins_all : (l : List Content) (c : Content) → AllLittle l → Little c → AllLittle (joins l c)
unfolding joins
joins_all [] c h p = (p, tt)
joins_all (a ∷ l) c h p = joins_by a c l (joins l c) (same_content a c) h (h.0, joins_all l c h.1 p)

gathered_all : (l seen : List Content) → AllLittle seen → AllLittle l → AllLittle (gathered seen l)
unfolding gathered
gathered_all [] seen h p = h
gathered_all (c ∷ l) seen h p = gathered_all l (joins seen c) (joins_all seen c h p.0) p.1

cached_little : (m : Machine) → Small m → (l : Line) → Little (cached_at m l)
cached_little m s (of_head k) = (s.mark k, omega arith)
cached_little m s (of_node i) = s.cached i

persisted_little : (m : Machine) → Small m → (l : Line) → Little (persisted_at m l)
persisted_little m s (of_head k) = (s.saved_mark k, omega arith)
persisted_little m s (of_node i) = s.saved i

map_all : (l : Line) (ms : List Machine) → SmallAll ms → AllLittle (map (λ m. cached_at m l) ms)
map_all l [] h = tt
map_all l (m ∷ ms) h = (cached_little m h.0 l, map_all l ms h.1)

contents_all : (b : Bench) → SmallBench b → (l : Line) → AllLittle (contents_of b l)
unfolding contents_of
contents_all b h l =
    gathered_all _ (persisted_at b.machine l ∷ []) (persisted_little b.machine h.machine l, tt)
    (map_all l (drop (b.from l) b.past) (all_drop (b.from l) b.past h.past))

among_little : (l : List Content) (c : Content) → AllLittle l → Among c l → Little c
among_little [] c h a = absurd a
among_little (d ∷ l) c h (inl e) = subst Little (sym e) h.0
among_little (d ∷ l) c h (inr a) = among_little l c h.1 a

-- ---- an ending

module _ (b : Bench) (h : SmallBench b) (k : ℕ) (lt : k < product (table_of b)) where
  abbrev chosen : List Content
  chosen = get_or (choices (table_of b)) k []

  chosen_little : (j : ℕ) → j < line_count (shape_of b.machine) → Little (content_at chosen j)
  chosen_little j p =
      among_little (contents_of b (line_at (shape_of b.machine) j)) (content_at chosen j) (contents_all b h (line_at (shape_of b.machine) j))
      (subst (λ (x : List Content). Among (content_at chosen j) x) (moments.table_at b j p) (choice_in (table_of b) k lt j (omega (arith, moments.table_length b))))

  abbrev z : Shape
  z = shape_of b.machine

  chosen_heads : (j : ℕ) → j < head_lines z → head_in (image_of z chosen) j < 18446744073709551616
  unfolding image_of
  chosen_heads j p = subst (λ x. x < 18446744073709551616) (sym (heads_at_lem z (λ i. (content_at chosen i).index) j p)) (chosen_little j (omega arith)).0

  chosen_nodes : (i : ℕ) → Little (content_at (image_of z chosen).nodes i)
  unfolding image_of
  chosen_nodes i =
      front_all Little (λ i. content_at chosen (head_lines z + i)) z.n no_contents no_content (λ j p. chosen_little (head_lines z + j) (omega arith)) no_content_lem i

  -- its head lines are as many as the machine's
  image_heads : head_lines (image_shape (image_of z chosen)) ≡ head_lines z
  unfolding image_of per_desk
  image_heads = lines_same z.form z.n (own_threads z) z.n z.t (λ d. sym (own_desks z (eqb-true z.form 4 d)))

  ending_short : k < 65536 → b.machine.n ≤ 64 → length (ending_line k (image_of z chosen)) ≤ line_room 64
  unfolding image_of
  ending_short q n =
      short.image_short 64 k _ (omega arith) q
      (omega (arith, head_within (image_of z chosen) 18446744073709551615 (λ j p. omega (arith, chosen_heads j (subst (λ x. j < x) image_heads p)))))
      (short.items_small _ (λ i. (chosen_nodes i).1))
      n

-- ---- a line

module _ (s : List ℕ) (y : Bytes s) (a : accepted (page_answer s) ≡ true) where
  schedule_yes : codec.ScheduleTaken s
  schedule_yes = codec.schedule_taken s (numbers.schedule_first s a)

  nodes_few : (ran s).bench.machine.n ≤ 64
  nodes_few =
      omega (arith, numbers.ran_nodes s (holds.page_ran s a), (shapes.nodes_range (nodes_in s) schedule_yes.part.nodes).1)

  first_fits : length (first_line (threads_in s) (nodes_in s) (count_in s) (ending_count s)) ≤ line_room 64
  first_fits =
      let n = shapes.nodes_range (nodes_in s) schedule_yes.part.nodes in
      let t = shapes.threads_range (threads_in s) schedule_yes.threads in
      omega (
        arith,
        short.first_short (threads_in s) (nodes_in s) (count_in s) (ending_count s) (omega (arith, t.1)) (omega (arith, n.1))
            (omega (arith, schedule_yes.count)) (omega (arith, numbers.count_few s a)),
      )

  line_fits : (k : ℕ) → k < ending_count s → length (ending_line k (ending_in s k)) ≤ line_room 64
  unfolding ending_in ending table_in ending_count
  line_fits k h =
      ending_short (ran s).bench (ran_small s y (holds.page_ran s a)) k h (omega (arith, numbers.count_few s a)) nodes_few

  pub lines_short : (k : ℕ) → k ≤ ending_count s → length (page_line s k) ≤ line_room 64
  unfolding page_line
  lines_short zero h = first_fits
  lines_short (suc k) h = line_fits k (omega arith)

  -- the indices of an ending are of 64 bits, its items of 32
  pub ending_head : (k : ℕ) → k < ending_count s → (j : ℕ) → j < head_lines (shape_of (ran s).bench.machine) → head_in (ending_in s k) j < 18446744073709551616
  unfolding ending_in ending table_in ending_count
  ending_head k h j p = chosen_heads (ran s).bench (ran_small s y (holds.page_ran s a)) k h j p

  pub ending_little : (k : ℕ) → k < ending_count s → (i : ℕ) → Little (content_at (ending_in s k).nodes i)
  unfolding ending_in ending table_in ending_count
  ending_little k h i = chosen_nodes (ran s).bench (ran_small s y (holds.page_ran s a)) k h i
