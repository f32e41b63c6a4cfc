-- #104: a line's contents behind its fence, and the contents since a flush, as rows stand for them.
use Prim.Native.Nat.{ℕ, ◌<◌}
use mathlib.Core.Path.{◌≡◌, refl, sym, ap, subst, ◌∙◌}
use mathlib.Core.Bool.{true, false}
use mathlib.Core.List.{List, [], ◌∷◌, ◌++◌, map, map-append}
use borrow.Author.Tests.{ne_eqb}
use lib.ListN.{length, drop}
use lib.Seq.{drop-append-le}
use Rattle.lists.specs.Word.{has}
use Rattle.image.specs.declared.Content.{Content}
use Rattle.machine.specs.Line.{shape_of, cached_at, over_at}
use Rattle.machine.specs.declared.Line.{Line}
use Rattle.machine.specs.declared.Machine.{Machine}
use Rattle.machine.specs.declared.Touch.{Touch}
use Rattle.machine.specs.declared.Touch.TheVariants.{Nothing as nothing, Store as a_store, Persist as a_persist, Flush as a_flush, Fence as a_fence}
use Rattle.machine.proofs.LineLaws.{LineIn}
use Rattle.schedule.specs.Run.{Bench, goes_on, mark_after}
use Rattle.page.specs.Contents.{joins, contents_of}
use Rattle.moments.specs.Frame.{StoresTo, Frame}
use Rattle.moments.specs.Marked.{Waits, FlushesBy, since_of}
use Rattle.moments.proofs.Joins as joined
use Rattle.moments.proofs.Moments as moments
use Rattle.moments.proofs.Since as since
use Rattle.moments.proofs.Known.{Known}
use Rattle.endtable.specs.Rows.{joined_row, row_of}
use Rattle.endtable.specs.Tables.{Held}
use Rattle.endtable.specs.declared.row.Row.{Row}
use Rattle.endtable.proofs.RowLaws as rows

-- a row stands for a list
abbrev pub Holds : Row → List Content → Type 0
Holds r l = Held r.at r.count l

mark_stays : (w : Touch) (i : ℕ) (g : ℕ → ℕ) (u : ℕ) → (FlushesBy w u → ⊥) → mark_after w i g u ≡ g u
mark_stays nothing i g u ne = refl
mark_stays (a_store l) i g u ne = refl
mark_stays (a_persist l) i g u ne = refl
mark_stays (a_flush k l) i g u ne = rw (ne_eqb u k ne) refl
mark_stays (a_fence k l) i g u ne = refl

module _ (b : Bench) (k : Known b) where
  -- the contents since a flush have the present one
  since_present : (u : ℕ) (l : Line) → joins (since_of b u l) (cached_at b.machine l) ≡ since_of b u l
  unfolding since_of
  since_present u l =
      let old = map (λ m. cached_at m l) (drop (b.mark u) k.timed.before) in
      let c = cached_at b.machine l in
      let e : map (λ m. cached_at m l) (drop (b.mark u) b.past) ≡ old ++ (c ∷ []) =
      ap (λ ms. map (λ m. cached_at m l) (drop (b.mark u) ms)) k.timed.now
      ∙ ap (map (λ m. cached_at m l)) (drop-append-le (b.mark u) k.timed.before (b.machine ∷ []) (k.timed.marks u))
      ∙ map-append (λ m. cached_at m l) (drop (b.mark u) k.timed.before) (b.machine ∷ []) in
      rw e (joined.gathered_last [] old c)

  -- ---- behind an event that leaves machine m and touched w

  module _ (m : Machine) (w : Touch) (f : Frame b.machine m w) (u : ℕ) (l : Line) where
    -- a thread that did not flush: the line's present content joins
    pub since_held : (FlushesBy w u → ⊥) → (r : Row) → Holds r (since_of b u l) → Holds (joined_row r (cached_at m l) false) (since_of (goes_on b m w) u l)
    unfolding joined_row
    since_held ne r h =
        rw (since.since_joined b k m l w u (mark_stays w (length b.past) b.mark u ne)) (rows.held_joined r.at r.count (since_of b u l) (cached_at m l) h)

    -- which it has, where the line was not stored to
    pub since_still : (FlushesBy w u → ⊥) → (StoresTo w l → ⊥) → (r : Row) → Holds r (since_of b u l) → Holds r (since_of (goes_on b m w) u l)
    since_still ne ns r h =
        let e : since_of (goes_on b m w) u l ≡ since_of b u l =
        since.since_joined b k m l w u (mark_stays w (length b.past) b.mark u ne) ∙ ap (joins (since_of b u l)) (f.cached l ns) ∙ since_present u l in
        rw e h

    -- a thread that did
    pub since_begins : w ≡ a_flush u l → Holds (row_of (cached_at m l)) (since_of (goes_on b m w) u l)
    since_begins e =
        subst (λ w. Holds (row_of (cached_at m l)) (since_of (goes_on b m w) u l)) (sym e) (rw (since.since_flush b k m l u l) (rows.held_one (cached_at m l)))

  -- ---- behind thread u's fence of line l

  module _ (m : Machine) (u : ℕ) (l : Line) (f : Frame b.machine m (a_fence u l)) (hu : u < b.machine.t) (hl : LineIn (shape_of b.machine) l) (x : Waits b.machine u l) where
    pub fenced_stays : has (over_at b.machine l) u ≡ true → contents_of (goes_on b m (a_fence u l)) l ≡ contents_of b l
    fenced_stays e = since.contents_stay b k m u l hu hl x f e ∙ ap (joins (contents_of b l)) (f.cached l (λ s. s)) ∙ moments.contents_present b k.timed l

    pub fenced_moves : has (over_at b.machine l) u ≡ false → contents_of (goes_on b m (a_fence u l)) l ≡ since_of b u l
    fenced_moves e = since.contents_since b k m u l hu hl x f e ∙ ap (joins (since_of b u l)) (f.cached l (λ s. s)) ∙ since_present u l
