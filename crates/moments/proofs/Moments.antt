-- How a line's list of contents goes on, moment by moment.
use Prim.Native.Nat.{ℕ, ◌+◌, ◌≤◌, ◌<◌, max}
use mathlib.Core.Path.{◌≡◌, refl, sym, ap, ◌∙◌}
use mathlib.Core.Bool.{Bool, true, false}
use mathlib.Core.List.{List, [], ◌∷◌, ◌++◌, map, map-append}
use native.Mathlib.Omega.{arith}
use lib.ListN.{length, get_or, drop, length-append}
use lib.Dec.{eqb}
use Rattle.lists.specs.Find.{pick}
use lib.Seq.{drop-append-le, drop-append_seam}
use Rattle.lists.proofs.TabLaws as tabs
use Rattle.image.specs.declared.Content.{Content}
use Rattle.machine.specs.Line.{shape_of, line_count, line_at, cached_at, persisted_at}
use Rattle.machine.specs.declared.Line.{Line}
use Rattle.machine.specs.declared.Machine.{Machine}
use Rattle.machine.proofs.LineLaws.{put_same, put_other, put_ind}
use Rattle.schedule.specs.Run.{Bench, begins, goes_on, mark_after, from_after}
use Rattle.page.specs.Contents.{joins, gathered, contents_of, table_of}
use Rattle.machine.specs.declared.Touch.{Touch}
use Rattle.machine.specs.declared.Touch.TheVariants.{Nothing as nothing, Store as a_store, Persist as a_persist, Flush as a_flush, Fence as a_fence}
use Rattle.moments.specs.Moments.{Timed}
use Rattle.moments.specs.Frame.{Persists, FencesTo}
use Rattle.moments.proofs.Joins as joined

-- ---- the moments from which contents count

-- the moment of a line that is not persisted stays
pub from_other : (w : Touch) (k : ℕ) (g : ℕ → ℕ) (f : Line → ℕ) (l : Line) → (Persists w l → ⊥) → (FencesTo w l → ⊥) → from_after w k g f l ≡ f l
from_other nothing k g f l ne nf = refl
from_other (a_store x) k g f l ne nf = refl
from_other (a_persist x) k g f l ne nf = put_other f x k l ne
from_other (a_flush t x) k g f l ne nf = refl
from_other (a_fence t x) k g f l ne nf = put_other f x (max (f x) (g t)) l nf

from_le : (w : Touch) (k : ℕ) (g : ℕ → ℕ) (f : Line → ℕ) (l : Line) → ((t : ℕ) → g t ≤ k) → ((j : Line) → f j ≤ k) → from_after w k g f l ≤ k
from_le nothing k g f l b h = h l
from_le (a_store x) k g f l b h = h l
from_le (a_persist x) k g f l b h = put_ind f x k (λ j y. y ≤ k) l (omega arith) (λ ne. h l)
from_le (a_flush t x) k g f l b h = h l
from_le (a_fence t x) k g f l b h = put_ind f x (max (f x) (g t)) (λ j y. y ≤ k) l (omega (arith, h x, b t)) (λ ne. h l)

mark_le : (w : Touch) (k : ℕ) (g : ℕ → ℕ) (u : ℕ) → ((t : ℕ) → g t ≤ k) → mark_after w k g u ≤ k
mark_le nothing k g u b = b u
mark_le (a_store x) k g u b = b u
mark_le (a_persist x) k g u b = b u
mark_le (a_flush t x) k g u b = by (eqb u t)
  where
    by : (z : Bool) → pick z k (g u) ≤ k
    by true = omega arith
    by false = b u
mark_le (a_fence t x) k g u b = b u

-- ---- every bench of a run is timed

-- the present moment is a moment more
past_length : (b : Bench) (t : Timed b) → length b.past ≡ length t.before + 1
past_length b t = ap length t.now ∙ length-append t.before (b.machine ∷ [])

from_past : (b : Bench) → Timed b → (l : Line) → b.from l ≤ length b.past
from_past b t l = omega (arith, t.early l, past_length b t)

mark_past : (b : Bench) → Timed b → (u : ℕ) → b.mark u ≤ length b.past
mark_past b t u = omega (arith, t.marks u, past_length b t)

pub timed_begins : (m : Machine) → Timed (begins m)
timed_begins m = record {
  before = [];
  now = refl;
  early = λ l. omega arith;
  marks = λ t. omega arith;
}

pub timed_goes : (b : Bench) (m : Machine) (w : Touch) → Timed b → Timed (goes_on b m w)
timed_goes b m w t = record {
  before = b.past;
  now = refl;
  early = λ l. from_le w (length b.past) b.mark b.from l (λ u. mark_past b t u) (λ j. from_past b t j);
  marks = λ u. mark_le w (length b.past) b.mark u (λ v. mark_past b t v);
}

-- ---- the contents

-- a line's contents at each of some moments
abbrev seen : Line → List Machine → List Content
seen l ms = map (λ m. cached_at m l) ms

seen_more : (l : Line) (k : ℕ) (ms : List Machine) (m : Machine) → k ≤ length ms → seen l (drop k (ms ++ (m ∷ []))) ≡ seen l (drop k ms) ++ (cached_at m l ∷ [])
seen_more l k ms m h = ap (seen l) (drop-append-le k ms (m ∷ []) h) ∙ map-append (λ m. cached_at m l) (drop k ms) (m ∷ [])

-- after a start: the persisted content, joined by the cached one
pub contents_begin : (m : Machine) (l : Line) → contents_of (begins m) l ≡ joins (persisted_at m l ∷ []) (cached_at m l)
unfolding contents_of gathered
contents_begin m l = refl

-- a line that was persisted has its present content alone
pub contents_persisted : (b : Bench) (m : Machine) (l : Line) → persisted_at m l ≡ cached_at m l → contents_of (goes_on b m (a_persist l)) l ≡ cached_at m l ∷ []
unfolding contents_of gathered
contents_persisted b m l e =
    rw (put_same b.from l (length b.past), drop-append_seam b.past (m ∷ []), e)
    (joined.joins_first (cached_at m l) [] (cached_at m l) (joined.same_self (cached_at m l)))

module _ (b : Bench) (t : Timed b) (m : Machine) (w : Touch) (l : Line) (ne : Persists w l → ⊥) (nf : FencesTo w l → ⊥) (kept : persisted_at m l ≡ persisted_at b.machine l) where
  -- any other line's list is joined by the present content
  pub contents_joined : contents_of (goes_on b m w) l ≡ joins (contents_of b l) (cached_at m l)
  unfolding contents_of
  contents_joined =
      rw (from_other w (length b.past) b.mark b.from l ne nf, kept)
      (ap (gathered (persisted_at b.machine l ∷ [])) (seen_more l (b.from l) b.past m in_time)
      ∙ joined.gathered_more (persisted_at b.machine l ∷ []) (seen l (drop (b.from l) b.past)) (cached_at m l))
    where
      in_time : b.from l ≤ length b.past
      in_time = from_past b t l

-- the list has the present content
pub contents_present : (b : Bench) → Timed b → (l : Line) → joins (contents_of b l) (cached_at b.machine l) ≡ contents_of b l
unfolding contents_of
contents_present b t l =
    rw (ap (λ ms. seen l (drop (b.from l) ms)) t.now ∙ seen_more l (b.from l) t.before b.machine (t.early l))
    (joined.gathered_last (persisted_at b.machine l ∷ []) (seen l (drop (b.from l) t.before)) (cached_at b.machine l))

-- so a line that an event leaves alone keeps its list
pub contents_kept : (b : Bench) → Timed b → (m : Machine) (w : Touch) (l : Line) → (Persists w l → ⊥) → (FencesTo w l → ⊥) → persisted_at m l ≡ persisted_at b.machine l
    → cached_at m l ≡ cached_at b.machine l → contents_of (goes_on b m w) l ≡ contents_of b l
contents_kept b t m w l ne nf p e = contents_joined b t m w l ne nf p ∙ ap (joins (contents_of b l)) e ∙ contents_present b t l

-- ---- the table of lists

pub table_length : (b : Bench) → length (table_of b) ≡ line_count (shape_of b.machine)
unfolding table_of
table_length b = tabs.length_tab (λ l. contents_of b (line_at (shape_of b.machine) l)) (line_count (shape_of b.machine))

pub table_at : (b : Bench) (l : ℕ) → l < line_count (shape_of b.machine) → get_or (table_of b) l [] ≡ contents_of b (line_at (shape_of b.machine) l)
unfolding table_of
table_at b l h = tabs.get_or_tab (λ l. contents_of b (line_at (shape_of b.machine) l)) (line_count (shape_of b.machine)) l [] h
