-- #104: a line's contents behind a fence, and how the contents since a flush go on.
use Prim.Native.Nat.{ℕ, suc, ◌+◌, ◌≤◌, ◌<◌, max}
use mathlib.Core.Path.{◌≡◌, refl, sym, ap, subst, ◌∙◌}
use mathlib.Core.Bool.{Bool, true, false}
use mathlib.Core.List.{List, [], ◌∷◌, ◌++◌, map, map-append}
use native.Mathlib.Omega.{arith}
use borrow.Author.Tests.{eq-eqb, leb-true, leb-false}
use lib.ListN.{length, get_or, drop, length-append}
use lib.Seq.{drop-append-le, drop-append_seam, drop-cons}
use Rattle.lists.specs.Word.{has}
use Rattle.image.specs.declared.Content.{Content}
use Rattle.machine.specs.Record.{flushed}
use Rattle.machine.specs.Line.{shape_of, cached_at, persisted_at, over_at}
use Rattle.machine.specs.Flush.{over_after, fence}
use Rattle.machine.specs.Start.{blank_machine}
use Rattle.machine.specs.declared.Line.{Line}
use Rattle.machine.specs.declared.Machine.{Machine}
use Rattle.machine.specs.declared.Touch.{Touch}
use Rattle.machine.specs.declared.Touch.TheVariants.{Nothing as nothing, Store as a_store, Persist as a_persist, Flush as a_flush, Fence as a_fence}
use Rattle.machine.proofs.LineLaws.{LineIn, put_same}
use Rattle.schedule.specs.Run.{Bench, goes_on, mark_after, from_after}
use Rattle.page.specs.Contents.{joins, gathered, contents_of}
use Rattle.moments.specs.Frame.{touched, Frame}
use Rattle.moments.specs.Marked.{Waits, FlushesBy, at_moment, since_of}
use Rattle.moments.proofs.Frame as frame
use Rattle.moments.proofs.Flushes as flushes
use Rattle.moments.proofs.Flushes.{held}
use Rattle.moments.proofs.Joins as joined
use Rattle.moments.proofs.Known.{Known}

abbrev seen : Line → List Machine → List Content
seen l ms = map (λ m. cached_at m l) ms

module _ (b : Bench) (k : Known b) where
  past_is : length b.past ≡ length k.timed.before + 1
  past_is = ap length k.timed.now ∙ length-append k.timed.before (b.machine ∷ [])

  module _ (m : Machine) (l : Line) where
    -- a moment more behind moment i
    seen_more : (i : ℕ) → i ≤ length b.past → seen l (drop i (b.past ++ (m ∷ []))) ≡ seen l (drop i b.past) ++ (cached_at m l ∷ [])
    seen_more i h = ap (seen l) (drop-append-le i b.past (m ∷ []) h) ∙ map-append (λ m. cached_at m l) (drop i b.past) (m ∷ [])

    -- the contents since a flush, at the flush and behind it
    pub since_flush : (u : ℕ) (x : Line) → since_of (goes_on b m (a_flush u x)) u l ≡ cached_at m l ∷ []
    unfolding since_of gathered joins
    since_flush u x =
        let e : mark_after (a_flush u x) (length b.past) b.mark u ≡ length b.past = rw (eq-eqb u u refl) refl in
        ap (λ i. gathered [] (seen l (drop i (b.past ++ (m ∷ []))))) e ∙ ap (λ ms. gathered [] (seen l ms)) (drop-append_seam b.past (m ∷ []))

    pub since_joined : (w : Touch) (u : ℕ) → mark_after w (length b.past) b.mark u ≡ b.mark u → since_of (goes_on b m w) u l ≡ joins (since_of b u l) (cached_at m l)
    unfolding since_of
    since_joined w u e =
        ap (λ i. gathered [] (seen l (drop i (b.past ++ (m ∷ []))))) e
        ∙ ap (gathered []) (seen_more (b.mark u) (omega (arith, k.timed.marks u, past_is)))
        ∙ joined.gathered_more [] (seen l (drop (b.mark u) b.past)) (cached_at m l)

  -- ---- a fence by thread u of line l, which leaves machine m

  module _ (m : Machine) (u : ℕ) (l : Line) (hu : u < b.machine.t) (hl : LineIn (shape_of b.machine) l) (x : Waits b.machine u l) (f : Frame b.machine m (a_fence u l)) where
    abbrev after : ℕ
    after = from_after (a_fence u l) (length b.past) b.mark b.from l

    after_is : after ≡ max (b.from l) (b.mark u)
    after_is = put_same b.from l (max (b.from l) (b.mark u))

    persisted_is : persisted_at m l ≡ persisted_at (fence b.machine u l) l
    persisted_is = frame.kept_persisted (fence b.machine u l) m f.kept l

    -- a moment more, the line's contents counting from moment i, what is persisted being p
    contents_at : (i : ℕ) (p : Content) → after ≡ i → persisted_at m l ≡ p → i ≤ length b.past
        → contents_of (goes_on b m (a_fence u l)) l ≡ joins (gathered (p ∷ []) (seen l (drop i b.past))) (cached_at m l)
    unfolding contents_of
    contents_at i p e q h =
        ap (λ p. gathered (p ∷ []) (seen l (drop after (b.past ++ (m ∷ []))))) q
        ∙ ap (λ i. gathered (p ∷ []) (seen l (drop i (b.past ++ (m ∷ []))))) e
        ∙ ap (gathered (p ∷ [])) (seen_more m l i h)
        ∙ joined.gathered_more (p ∷ []) (seen l (drop i b.past)) (cached_at m l)

    -- "if a later one was persisted already, that one stays"
    pub contents_stay : has (over_at b.machine l) u ≡ true → contents_of (goes_on b m (a_fence u l)) l ≡ joins (contents_of b l) (cached_at m l)
    unfolding contents_of
    contents_stay e =
        let low : b.mark u ≤ b.from l = leb-true (b.mark u) (b.from l) (sym (k.marked.over u l hu hl x) ∙ e) in
        contents_at (b.from l) (persisted_at b.machine l) (after_is ∙ omega (arith, low))
        (persisted_is ∙ ap (λ (y : Machine). persisted_at y l) (frame.fence_stays b.machine u l e)) (omega (arith, k.timed.early l, past_is))

    -- the first content since the flush is the one that was flushed
    since_first : gathered (at_moment b (b.mark u) l ∷ []) (seen l (drop (b.mark u) b.past)) ≡ since_of b u l
    unfolding since_of gathered joins
    since_first =
        let c = at_moment b (b.mark u) l in
        let d = drop-cons b.past (b.mark u) blank_machine (omega (arith, k.timed.marks u, past_is)) in
        let rest = seen l (drop (suc (b.mark u)) b.past) in
        ap (λ ms. gathered (c ∷ []) (seen l ms)) d ∙ ap (λ s. gathered s rest) (joined.joins_first c [] c (joined.same_self c)) ∙ sym (ap (λ ms. gathered [] (seen l ms)) d)

    -- "From the fence on, the line's contents start no earlier than the one at the flush"
    pub contents_since : has (over_at b.machine l) u ≡ false → contents_of (goes_on b m (a_fence u l)) l ≡ joins (since_of b u l) (cached_at m l)
    contents_since e =
        let high : b.from l < b.mark u = leb-false (b.mark u) (b.from l) (sym (k.marked.over u l hu hl x) ∙ e) in
        contents_at (b.mark u) (at_moment b (b.mark u) l) (after_is ∙ omega (arith, high))
        (persisted_is ∙ ap (λ (y : Machine). persisted_at y l) (frame.fence_moves b.machine u l e)
        ∙ flushes.keeping_own b.machine k.sized (flushed b.machine u) (over_after b.machine u l) l hl ∙ k.marked.flushed u l hu hl x)
        (omega (arith, k.timed.marks u, past_is))
        ∙ ap (λ s. joins s (cached_at m l)) since_first
