-- Every ending of an accepted run, one content for each line, recovers to a lawful queue; whether or not 14 and 15 allow a page.
use mathlib.Core.Path.{◌≡◌, refl, sym, ap, subst, ◌∙◌}
use mathlib.Core.Bool.{true}
use mathlib.Core.List.{List, [], map}
use Prim.Native.Nat.{ℕ, ◌+◌, ◌≤◌, ◌<◌}
use native.Mathlib.Omega.{arith}
use lib.ListN.{get_or}
use Rattle.lists.proofs.TabLaws.{front_at}
use Rattle.answer.specs.Answers.{accepted}
use Rattle.image.specs.declared.Content.{Content}
use Rattle.image.specs.declared.Image.{Image}
use Rattle.image.specs.Layout as layout
use Rattle.image.specs.Layout.{no_content, no_contents, content_at}
use Rattle.image.specs.Form.{top_of, head_lines}
use Rattle.image.specs.Refusals.{agree}
use Rattle.machine.specs.declared.Line as memory
use Rattle.machine.specs.declared.Line.TheVariants as line
use Rattle.machine.specs.Line.{shape_of, number_of}
use Rattle.image.proofs.HeadLaws.{heads_at_lem}
use Rattle.machine.proofs.LineLaws.{LineIn}
use Rattle.machine.specs.Start.{start_of, start_answer, blank_machine}
use Rattle.machine.specs.declared.Machine.{Machine}
use Rattle.machine.specs.declared.Event.{Event}
use Rattle.schedule.specs.Run as schedule
use Rattle.schedule.specs.Run.{Ran, run, begins}
use Rattle.page.specs.Contents.{contents_of}
use Rattle.page.specs.Endings.{image_of}
use Rattle.lawful.specs.Operation.{operations}
use Rattle.lawful.specs.Plain.{queue_in}
use Rattle.lawful.specs.Lawful.{Lawful}
use Rattle.model.specs.Basics.{sel}
use Rattle.model.specs.Lines.{Line, of_head, of_node}
use Rattle.model.specs.Conf as model
use Rattle.model.specs.Conf.{Conf, Within}
use Rattle.model.specs.Core as core
use Rattle.model.specs.Recovery as recovery
use Rattle.model.specs.Recovery.{image_has}
use Rattle.model.specs.Machine.{Has}
use Rattle.model.specs.Lawful as law
use Rattle.model.specs.Bench.{Bench, bench, opening}
use Rattle.model.specs.Demand3.{Ending, Fit}
use Rattle.model.proofs.Basics.{lt_true}
use Rattle.model.proofs.Demand3.ThreeB.{demand3b}
use Rattle.tied.specs.Shown.{shown_content, line_shown, conf_of, image_shown, Narrow, event_shown}
use Rattle.tied.specs.Always.{Among}
use Rattle.tied.proofs.Engines.{lines_shown, own_agrees, own_lines}
use Rattle.tied.proofs.Begins.{shape_at}
use Rattle.tied.proofs.Images.{ImageT}
use Rattle.tied.proofs.Contents.{Small}
use Rattle.tied.proofs.Bench.{BenchT, top_is}
use Rattle.tied.proofs.Statements.{fits, tidies, run_threads, run_takes, run_ends}
use Rattle.lawproof.proofs.Queues.{starts_accepted, queue_shown}
use Rattle.lawproof.proofs.Transfer.{lawful_same}
use Rattle.lawproof.proofs.Books.{start_book}

-- c takes for each of the bench's lines one of its contents
abbrev pub Chosen : schedule.Bench → List Content → Type 0
Chosen b c = (k : memory.Line) → LineIn (shape_of b.machine) k → Among (content_at c (number_of (shape_of b.machine) k)) (contents_of b k)

-- ---- an image chosen from the contents of a bench

module _ (b : schedule.Bench) (B : Bench) (r : BenchT b B) (c : List Content) (pick : Chosen b c) where
  abbrev m : Machine
  m = b.machine

  -- as an image, here and there
  abbrev e : Image
  e = image_of (shape_of m) c

  abbrev E : recovery.Image
  E = image_shown e m.t

  -- its head lines are the machine's
  e_lines : head_lines (layout.image_shape e) ≡ head_lines (shape_of m)
  unfolding image_of
  e_lines = sym (own_lines (shape_of m))

  e_agrees : agree m.t (layout.image_shape e) ≡ true
  unfolding image_of
  e_agrees = own_agrees (shape_of m)

  e_head : (k : ℕ) → k < head_lines (shape_of m) → layout.head_in e k ≡ (content_at c k).index
  unfolding image_of
  e_head k h = heads_at_lem (shape_of m) (λ j. (content_at c j).index) k h

  e_size : e.n ≡ m.n
  unfolding image_of
  e_size = refl

  e_form : e.form ≡ m.form
  unfolding image_of
  e_form = refl

  e_at : (i : ℕ) → i < m.n → content_at e.nodes i ≡ content_at c (head_lines (shape_of m) + i)
  unfolding image_of
  e_at i h = front_at (λ i. content_at c (head_lines (shape_of m) + i)) m.n no_contents i no_content h

  -- the content that line k has in the ending
  abbrev at : memory.Line → Content
  at k = content_at c (number_of (shape_of m) k)

  small : (k : memory.Line) → LineIn (shape_of m) k → Small B.mach.core.conf.top (at k)
  small k h = (r.lists.lists k h (at k) (pick k h)).0

  there : (k : memory.Line) → LineIn (shape_of m) k → Has B.mach (line_shown k) (shown_content (at k))
  there k h = (r.lists.lists k h (at k) (pick k h)).1

  E-at : (i : ℕ) → i < m.n → E.at i ≡ shown_content (content_at e.nodes i)
  unfolding image_shown image_of
  E-at i h = ap (λ x. sel x (shown_content (content_at e.nodes i)) core.zero_node) (lt_true i m.n h)

  E-conf : E.conf ≡ conf_of m.form m.n m.t
  unfolding image_shown image_of
  E-conf = refl

  E-head : (k : ℕ) → E.heads k ≡ layout.head_in e k
  unfolding image_shown
  E-head k = refl

  small_at : (i : ℕ) → i < m.n → Small B.mach.core.conf.top (content_at e.nodes i)
  small_at i h = subst (Small B.mach.core.conf.top) (sym (e_at i h)) (small (line.OfNode i) h)

  e_top : B.mach.core.conf.top ≡ top_of e.form
  e_top = top_is _ m B.mach.core r.tied ∙ ap top_of (sym e_form)

  pub chosen_t : ImageT e m.t E
  chosen_t = record {
    conf = E-conf ∙ ap (λ f. conf_of f m.n m.t) (sym e_form) ∙ ap (λ n. conf_of e.form n m.t) (sym e_size);
    sizes = rw (e_size, e_form) r.tied.sizes;
    agrees = e_agrees;
    head = λ k h. E-head k;
    at = λ i h. E-at i (omega (arith, e_size));
    flag = λ i h. (small_at i (omega (arith, e_size))).0;
    narrow_head = λ k h. let z : k < head_lines (shape_of m) = subst (λ x. k < x) e_lines h in
        subst (λ x. x ≤ top_of e.form) (sym (e_head k z)) (omega (arith, (small (line.OfHead k) z).1, e_top));
    narrow = λ i h. omega (arith, (small_at i (omega (arith, e_size))).1, e_top);
  }

  -- an ending of the abstract machine
  pub is_ending : Ending (Has B.mach) B.mach.core.conf E
  is_ending = record { conf = E-conf ∙ sym r.tied.conf; lines = has }
    where
      has : (l : Line) → Within B.mach.core.conf l → Has B.mach l (image_has E l)
      has (of_head k) h =
          let hk : k < head_lines (shape_of m) = subst (λ x. k < x) (lines_shown m.form m.n m.t r.tied.sizes.form) (subst (λ (c : Conf). k < model.head_lines c) r.tied.conf h) in
          let hn = there (line.OfHead k) hk in
          subst (Has B.mach (of_head k))
          (r.kept.all.pinv.head.plain k h (shown_content (content_at c k)) hn ∙ ap core.hd (sym (E-head k ∙ e_head k hk))) hn
      has (of_node i) h =
          let hi : i < m.n = subst (λ (c : Conf). i < c.nodes) r.tied.conf h in
          subst (Has B.mach (of_node i)) (sym (E-at i hi ∙ ap shown_content (e_at i hi))) (there (line.OfNode i) hi)

-- ---- every ending of an accepted run

module _ (g : Image) (t : ℕ) (a : accepted (start_answer g t) ≡ true) (w : Narrow g) (l : List Event) (all : accepted (run 0 (begins (start_of g t)) l).answer ≡ true) where
  abbrev R : Ran
  R = run 0 (begins (start_of g t)) l

  abbrev G : recovery.Image
  G = image_shown g t

  abbrev M : Bench
  M = bench (opening G) (map (event_shown (shape_at g t)) l)

  -- what the two benches show in the end is the same
  ends : BenchT R.bench M
  ends = run_ends g t a w 0 l all

  module _ (c : List Content) (pick : Chosen R.bench c) where
    -- the ending that c is
    abbrev pub left : Image
    left = image_of (shape_of R.bench.machine) c

    both_halves : Fit (image_shown left R.bench.machine.t) × law.Lawful M.book.op M.book.count M.first (recovery.items_of (image_shown left R.bench.machine.t))
    both_halves = demand3b G (fits g t a w 0 l) (tidies g t a w 0 l) (map (event_shown (shape_at g t)) l) (run_takes g t a w 0 l all) (image_shown left R.bench.machine.t) (is_ending R.bench M ends c pick)

    -- none of 4, 2, 3, 4, 6, 7, 8, 20 refuses it
    pub ending_starts : accepted (start_answer left t) ≡ true
    ending_starts = subst (λ t. accepted (start_answer left t) ≡ true) (run_threads g t a w 0 l)
        (starts_accepted left R.bench.machine.t (image_shown left R.bench.machine.t) (chosen_t R.bench M ends c pick) both_halves.0)

    -- and its start has a queue that the operations since the last start may lawfully leave
    pub ending_lawful : Lawful (operations 0 l R.replies []) (queue_in (get_or R.bench.past 0 blank_machine)) (queue_in (start_of left t))
    ending_lawful =
        let k = start_book g t a w l all in
        let q = queue_shown left R.bench.machine.t (image_shown left R.bench.machine.t) (chosen_t R.bench M ends c pick) both_halves.0 in
        subst (λ t. Lawful (operations 0 l R.replies []) (queue_in (get_or R.bench.past 0 blank_machine)) (queue_in (start_of left t))) (run_threads g t a w 0 l)
        (subst (Lawful (operations 0 l R.replies []) (queue_in (get_or R.bench.past 0 blank_machine))) (sym q)
        (subst (λ p. Lawful (operations 0 l R.replies []) p (recovery.items_of (image_shown left R.bench.machine.t))) (sym k.first)
        (lawful_same (operations 0 l R.replies []) M.book.op M.book.count k.book.same k.book.count M.first
        (recovery.items_of (image_shown left R.bench.machine.t)) both_halves.1)))
