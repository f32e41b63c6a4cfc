-- The page of a run from a start: its endings are what added write-backs leave.
use Prim.Native.Nat.{ℕ, ◌+◌, ◌<◌}
use mathlib.Core.Path.{◌≡◌, refl, sym, ap, ap₂, subst, ◌∙◌}
use mathlib.Core.List.{List, [], ◌++◌}
use native.Mathlib.Omega.{arith}
use lib.ListN.{length, get_or}
use Rattle.lists.specs.Tab.{front}
use Rattle.lists.proofs.TabLaws as tabs
use Rattle.answer.specs.Answers.{accepted}
use Rattle.image.specs.Layout.{content_at, no_contents, heads_of}
use Rattle.image.specs.Form.{head_lines, own_threads}
use Rattle.image.specs.declared.Content.{Content}
use Rattle.image.specs.declared.Image.{Image}
use Rattle.image.specs.declared.Shape.{Shape}
use Rattle.machine.specs.Line.{shape_of, line_count, line_at, persisted_at}
use Rattle.machine.specs.Record.{kept_head}
use Rattle.machine.specs.declared.Machine.{Machine}
use Rattle.machine.specs.declared.Event.{Event}
use Rattle.image.proofs.HeadLaws.{heads_same}
use Rattle.machine.proofs.LineLaws.{LineIn, line_in, line_head, line_node}
use Rattle.schedule.specs.Run.{Bench, Ran, run, begins}
use Rattle.page.specs.Contents.{contents_of, table_of}
use Rattle.page.specs.Endings.{choices, product, image_of, ending}
use Rattle.lawful.specs.Added.{AddsLate}
use Rattle.lawful.specs.Demand3.{image_left}
use Rattle.moments.proofs.Moments as moments
use Rattle.moments.proofs.Known.{Known, known_run}
use Rattle.pageproof.proofs.Among.{Among, choice_in, choice_of}
use Rattle.pageproof.proofs.Runs.{Accepts, Last, last_of, run_size, run_front, run_append, begins_at, and_after}
use Rattle.pageproof.proofs.Lengthened.{lengthened_self}
use Rattle.pageproof.proofs.Fewer.{Fewer, fewer, lengthened_inside}
use Rattle.pageproof.proofs.Before.{Before, before_run}
use Rattle.pageproof.proofs.Ripe.{chosen}
use Rattle.pageproof.proofs.Sow.{Sown, sown}

-- the persisted copies as an image, where line j's is the content c has there
pub image_is : (m : Machine) (z : Shape) (c : List Content) → shape_of m ≡ z → ((j : ℕ) → j < line_count z → persisted_at m (line_at z j) ≡ content_at c j) → image_left m ≡ image_of z c
unfolding image_of
image_is m z c size h =
    ap (λ (x : Shape). record { form = x.form; n = x.n; t = own_threads x; heads = heads_of x (kept_head m); nodes = front (content_at m.kept) x.n no_contents }) size
    ∙ ap₂ (λ (y : List ℕ) (x : List Content). record { form = z.form; n = z.n; t = own_threads z; heads = y; nodes = x })
    (heads_same z (kept_head m) (λ k. (content_at c k).index) head)
    (tabs.front_same (content_at m.kept) (λ i. content_at c (head_lines z + i)) z.n no_contents node)
  where
    head : (k : ℕ) → k < head_lines z → kept_head m k ≡ (content_at c k).index
    head k r = ap (λ (x : Content). x.index) (ap (persisted_at m) (sym (line_head z k r)) ∙ h k (omega arith))

    node : (i : ℕ) → i < z.n → content_at m.kept i ≡ content_at c (head_lines z + i)
    node i k = ap (persisted_at m) (sym (line_node z i)) ∙ h (head_lines z + i) (omega arith)

module _ (z : Shape) (m : Machine) (kn : Known (begins m)) (size : shape_of m ≡ z) (l : List Event) (h : Accepts 0 (begins m) l) where
  -- the image is left by added write-backs
  pub record Left (g : Image) : Type 0 where
    pub events : List Event
    pub taken : Accepts 0 (begins m) events
    pub added : AddsLate (line_count z) l (run 0 (begins m) l).replies events (run 0 (begins m) events).replies
    pub left : image_left (run 0 (begins m) events).bench.machine ≡ g

  abbrev final : Bench
  final = (run 0 (begins m) l).bench

  known : Known final
  known = known_run l 0 (begins m) kn

  final_size : shape_of final.machine ≡ z
  final_size = run_size l 0 (begins m) h ∙ size

  -- ---- every ending is left

  module _ (k : ℕ) (lt : k < product (table_of final)) where
    abbrev wanted : ℕ → Content
    wanted j = content_at (get_or (choices (table_of final)) k []) j

    among : (j : ℕ) → j < line_count z → Among (wanted j) (contents_of final (line_at z j))
    among j r =
        let r' : j < line_count (shape_of final.machine) = subst (λ x. j < line_count x) (sym final_size) r in
        subst (λ (x : List Content). Among (wanted j) x) (moments.table_at final j r' ∙ ap (λ x. contents_of final (line_at x j)) final_size)
        (choice_in (table_of final) k lt j (omega (arith, moments.table_length final)))

    from : (s : Last l) (m₀ : Machine) → (run 0 (begins m) s.before).bench ≡ begins m₀ → Left (image_of z (get_or (choices (table_of final)) k []))
    from s m₀ is = record {
      events = s.before ++ o.events;
      taken = ap (λ (r : Ran). accepted r.answer) (split o.events) ∙ o.taken;
      added = record {
        before = s.before;
        told = (run 0 (begins m) s.before).replies;
        since = s.since;
        since' = o.events;
        heard = (run (0 + length s.before) (begins m₀) s.since).replies;
        heard' = (run (0 + length s.before) (begins m₀) o.events).replies;
        start = s.start;
        free = s.free;
        adds = o.added;
        is = s.is;
        is' = refl;
        answers = ap (λ (x : List Event). (run 0 (begins m) x).replies) s.is ∙ ap (λ (r : Ran). r.replies) (split s.since);
        answers' = ap (λ (r : Ran). r.replies) (split o.events);
      };
      left = image_is (run 0 (begins m) (s.before ++ o.events)).bench.machine z (get_or (choices (table_of final)) k [])
          (run_size (s.before ++ o.events) 0 (begins m) (ap (λ (r : Ran). accepted r.answer) (split o.events) ∙ o.taken) ∙ size)
          (λ j r. ap (λ (r : Ran). persisted_at r.bench.machine (line_at z j)) (split o.events) ∙ o.left j r);
    }
      where
        h₁ : Accepts 0 (begins m) (s.before ++ s.since)
        h₁ = subst (Accepts 0 (begins m)) s.is h

        front_taken : Accepts 0 (begins m) s.before
        front_taken = run_front s.before s.since 0 (begins m) h₁

        split : (x : List Event) → run 0 (begins m) (s.before ++ x) ≡ and_after (run 0 (begins m) s.before) (run (0 + length s.before) (begins m₀) x)
        split x =
            run_append s.before x 0 (begins m) front_taken
            ∙ ap (λ (b : Bench). and_after (run 0 (begins m) s.before) (run (0 + length s.before) b x)) is

        known₀ : Known (begins m₀)
        known₀ = subst Known is (known_run s.before 0 (begins m) kn)

        size₀ : shape_of m₀ ≡ z
        size₀ = ap (λ (b : Bench). shape_of b.machine) (sym is) ∙ run_size s.before 0 (begins m) front_taken ∙ size

        rest_taken : Accepts (0 + length s.before) (begins m₀) s.since
        rest_taken = ap (λ (r : Ran). accepted r.answer) (sym (split s.since)) ∙ h₁

        there : final ≡ (run (0 + length s.before) (begins m₀) s.since).bench
        there = ap (λ (x : List Event). (run 0 (begins m) x).bench) s.is ∙ ap (λ (r : Ran). r.bench) (split s.since)

        before : Before (begins m₀) final
        before = subst (Before (begins m₀)) (sym there) (before_run s.since (0 + length s.before) (begins m₀) known₀ s.free rest_taken)

        o : Sown z final wanted s.since (run (0 + length s.before) (begins m₀) s.since).replies (0 + length s.before) (begins m₀)
        o = sown z final wanted s.since (0 + length s.before) (begins m₀) known₀ s.free size₀ rest_taken (sym there) (0 + length s.before) (begins m₀) (λ l. 0)
            (lengthened_self (begins m₀) known₀)
            (λ j r. chosen final known (line_at z j) (wanted j) (subst (λ x. LineIn x (line_at z j)) (sym final_size) (line_in z j r)) m₀
            (subst (λ x. LineIn x (line_at z j)) (sym size₀) (line_in z j r)) before (among j r))

    pub leaves : Left (ending (shape_of final.machine) (table_of final) k)
    unfolding ending
    leaves =
        let s = last_of l in
        let b = begins_at s.before 0 m s.start (run_front s.before s.since 0 (begins m) (subst (Accepts 0 (begins m)) s.is h)) in
        rw final_size (from s b.0 b.1)

  -- ---- and what is left is an ending

  pub only : (g : Image) → Left g → (k : ℕ) × (k < product (table_of final)) × (ending (shape_of final.machine) (table_of final) k ≡ g)
  unfolding ending
  only g o = (
    k.0,
    k.1,
    sym (image_is (run 0 (begins m) o.events).bench.machine (shape_of final.machine) (get_or (choices (table_of final)) k.0 []) size'
        (λ j r. sym (k.2 j (omega (arith, moments.table_length final))))) ∙ o.left,
  )
    where
      h₁ : Accepts 0 (begins m) (o.added.before ++ o.added.since)
      h₁ = subst (Accepts 0 (begins m)) o.added.is h

      h₁' : Accepts 0 (begins m) (o.added.before ++ o.added.since')
      h₁' = subst (Accepts 0 (begins m)) o.added.is' o.taken

      front_taken : Accepts 0 (begins m) o.added.before
      front_taken = run_front o.added.before o.added.since 0 (begins m) h₁

      split : (x : List Event) → run 0 (begins m) (o.added.before ++ x)
          ≡ and_after (run 0 (begins m) o.added.before) (run (0 + length o.added.before) (run 0 (begins m) o.added.before).bench x)
      split x = run_append o.added.before x 0 (begins m) front_taken

      inside : Fewer (run (0 + length o.added.before) (run 0 (begins m) o.added.before).bench o.added.since).bench
          (run (0 + length o.added.before) (run 0 (begins m) o.added.before).bench o.added.since').bench.machine
      inside =
          let b = (run 0 (begins m) o.added.before).bench in
          let p = 0 + length o.added.before in
          let kn₁ = known_run o.added.before 0 (begins m) kn in
          fewer z o.added.adds p p b b o.added.free kn₁ (run_size o.added.before 0 (begins m) front_taken ∙ size) (λ l. 0) (lengthened_self b kn₁)
          (ap (λ (r : Ran). accepted r.answer) (sym (split o.added.since)) ∙ h₁)
          (ap (λ (r : Ran). accepted r.answer) (sym (split o.added.since')) ∙ h₁')

      there : (run (0 + length o.added.before) (run 0 (begins m) o.added.before).bench o.added.since).bench ≡ (run 0 (begins m) l).bench
      there = ap (λ (r : Ran). r.bench) (sym (split o.added.since)) ∙ ap (λ (x : List Event). (run 0 (begins m) x).bench) (sym o.added.is)

      there' : (run (0 + length o.added.before) (run 0 (begins m) o.added.before).bench o.added.since').bench ≡ (run 0 (begins m) o.events).bench
      there' = ap (λ (r : Ran). r.bench) (sym (split o.added.since')) ∙ ap (λ (x : List Event). (run 0 (begins m) x).bench) (sym o.added.is')

      among : Fewer (run 0 (begins m) l).bench (run 0 (begins m) o.events).bench.machine
      among = subst (λ (b : Bench). Fewer (run 0 (begins m) l).bench b.machine) there' (subst (λ (b : Bench). Fewer b
          (run (0 + length o.added.before) (run 0 (begins m) o.added.before).bench o.added.since').bench.machine) there inside)

      size' : shape_of (run 0 (begins m) o.events).bench.machine ≡ shape_of (run 0 (begins m) l).bench.machine
      size' = run_size o.events 0 (begins m) o.taken ∙ sym (run_size l 0 (begins m) h)

      k : (k : ℕ) × (k < product (table_of final)) × ((j : ℕ) → j < length (table_of final)
          → content_at (get_or (choices (table_of final)) k []) j ≡ persisted_at (run 0 (begins m) o.events).bench.machine (line_at (shape_of final.machine) j))
      k = choice_of (table_of final) (λ j. persisted_at (run 0 (begins m) o.events).bench.machine (line_at (shape_of final.machine) j)) (λ j r.
          let r' : j < line_count (shape_of final.machine) = omega (arith, moments.table_length final) in
          rw (moments.table_at final j r')
          (lengthened_inside final among.last _ among.is (line_at (shape_of final.machine) j) (line_in (shape_of final.machine) j r')))
