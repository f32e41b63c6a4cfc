-- What is persisted in a line was persisted at the last start, or has been cached since.
use mathlib.Core.Path.{◌≡◌, refl, sym, ap, subst, ◌∙◌}
use mathlib.Core.List.{List, [], ◌∷◌, ◌++◌, map, map-append}
use mathlib.Core.Logic.{◌≢◌, ◌⊎◌, inl, inr}
use Prim.Native.Nat.{ℕ, zero, suc, ◌<◌}
use mathlib.Core.Bool.{Bool, true, false}
use native.Mathlib.Omega.{arith}
use lib.ListN.{length, get_or, length-append}
use Rattle.lists.specs.Find.{pick}
use Rattle.lists.specs.Word.{has}
use Rattle.image.specs.declared.Content.{Content}
use Rattle.machine.specs.Line.{shape_of, cached_at, persisted_at, over_at, put_line}
use Rattle.machine.specs.Record.{flushed}
use Rattle.machine.specs.Start.{blank_machine}
use Rattle.machine.specs.declared.Line.{Line}
use Rattle.machine.specs.declared.Machine.{Machine}
use Rattle.machine.proofs.LineLaws as lines
use Rattle.machine.proofs.LineLaws.{LineIn}
use Rattle.machine.specs.declared.Touch.{Touch}
use Rattle.machine.specs.declared.Touch.TheVariants.{Nothing as nothing, Store as a_store, Persist as a_persist, Flush as a_flush, Fence as a_fence}
use Rattle.schedule.specs.Run as run
use Rattle.schedule.specs.Run.{begins, goes_on}
use Rattle.moments.proofs.Flushes.{held}
use Rattle.moments.proofs.Known.{Known}
use Rattle.moments.proofs.Waiting.{Fencing}
use Rattle.tied.specs.Always.{Among, at_start, WasThere}
use Rattle.tied.proofs.Stepping.{keeps}

among_left : (c : Content) (l k : List Content) → Among c l → Among c (l ++ k)
among_left c [] k h = absurd h
among_left c (d ∷ l) k (inl e) = inl e
among_left c (d ∷ l) k (inr h) = inr (among_left c l k h)

among_last : (c : Content) (l : List Content) → Among c (l ++ c ∷ [])
among_last c [] = inl refl
among_last c (d ∷ l) = inr (among_last c l)

-- a moment more
seen_on : (past : List Machine) (m : Machine) (l : Line) (c : Content) → Among c (map (λ m. cached_at m l) past) → Among c (map (λ m. cached_at m l) (past ++ m ∷ []))
seen_on past m l c h = subst (Among c) (sym (map-append (λ m. cached_at m l) past (m ∷ []))) (among_left c (map (λ m. cached_at m l) past) (cached_at m l ∷ []) h)

pub record PastT (b : run.Bench) : Type 0 where
  pub first : Machine
  pub then : List Machine
  pub is : b.past ≡ first ∷ then
  pub was : (l : Line) → LineIn (shape_of b.machine) l → WasThere b l
  pub now : (l : Line) → Among (cached_at b.machine l) (map (λ m. cached_at m l) b.past)

pub past_begins : (m : Machine) → PastT (begins m)
past_begins m = record { first = m; then = []; is = refl; was = λ l h. inl refl; now = λ l. inl refl }

-- a content at some moment has been
pub among_moment : (l : Line) (past : List Machine) (i : ℕ) → i < length past → Among (cached_at (get_or past i blank_machine) l) (map (λ m. cached_at m l) past)
among_moment l [] i h = absurd (omega arith)
among_moment l (x ∷ past) zero h = inl refl
among_moment l (x ∷ past) (suc i) h = inr (among_moment l past i (omega arith))

pub past_on : (b : run.Bench) (m : Machine) (w : Touch) → Known b → Fencing b.machine w → PastT b → shape_of m ≡ shape_of b.machine
    → ((l : Line) → LineIn (shape_of m) l → persisted_at m l ≡ keeps w b.machine (persisted_at b.machine) l) → PastT (goes_on b m w)
past_on b m w kn g r en k = record {
  first = r.first;
  then = r.then ++ m ∷ [];
  is = ap (λ l. l ++ m ∷ []) r.is;
  was = λ l h. was l (subst (λ z. LineIn z l) en h) w g (k l h);
  now = λ l. subst (Among (cached_at m l)) (sym (map-append (λ m. cached_at m l) b.past (m ∷ []))) (among_last (cached_at m l) (map (λ m. cached_at m l) b.past));
}
  where
    start_same : get_or (b.past ++ m ∷ []) 0 m ≡ get_or b.past 0 b.machine
    start_same = ap (λ l. get_or (l ++ m ∷ []) 0 m) r.is ∙ sym (ap (λ l. get_or l 0 b.machine) r.is)

    older : (l : Line) (c : Content) → Among c (persisted_at (get_or b.past 0 b.machine) l ∷ map (λ m. cached_at m l) b.past)
        → Among c (persisted_at (get_or (b.past ++ m ∷ []) 0 m) l ∷ map (λ m. cached_at m l) (b.past ++ m ∷ []))
    older l c (inl e) = inl (e ∙ ap (λ z. persisted_at z l) (sym start_same))
    older l c (inr h) = inr (seen_on b.past m l c h)

    was : (l : Line) → LineIn (shape_of b.machine) l → (w : Touch) → Fencing b.machine w → persisted_at m l ≡ keeps w b.machine (persisted_at b.machine) l
        → Among (persisted_at m l) (persisted_at (get_or (b.past ++ m ∷ []) 0 m) l ∷ map (λ m. cached_at m l) (b.past ++ m ∷ []))
    was l h nothing g e = older l (persisted_at m l) (subst (λ c. Among c (persisted_at (get_or b.past 0 b.machine) l ∷ map (λ m. cached_at m l) b.past)) (sym e) (r.was l h))
    was l h (a_store j) g e = older l (persisted_at m l) (subst (λ c. Among c (persisted_at (get_or b.past 0 b.machine) l ∷ map (λ m. cached_at m l) b.past)) (sym e) (r.was l h))
    was l h (a_persist j) g e = by (lines.line_eq l j)
      where
        by : Dec (l ≡ j) → Among (persisted_at m l) (persisted_at (get_or (b.past ++ m ∷ []) 0 m) l ∷ map (λ m. cached_at m l) (b.past ++ m ∷ []))
        by (yes z) = inr (seen_on b.past m l (persisted_at m l)
            (subst (λ c. Among c (map (λ m. cached_at m l) b.past))
            (sym (e ∙ lines.put_at (persisted_at b.machine) j (cached_at b.machine j) l z ∙ ap (cached_at b.machine) (sym z))) (r.now l)))
        by (no z) = older l (persisted_at m l) (subst (λ c. Among c (persisted_at (get_or b.past 0 b.machine) l ∷ map (λ m. cached_at m l) b.past))
            (sym (e ∙ lines.put_other (persisted_at b.machine) j (cached_at b.machine j) l z)) (r.was l h))
    was l h (a_flush u j) g e = older l (persisted_at m l) (subst (λ c. Among c (persisted_at (get_or b.past 0 b.machine) l ∷ map (λ m. cached_at m l) b.past)) (sym e) (r.was l h))
    was l h (a_fence u j) g e = by (has (over_at b.machine j) u) e
      where
        stays : persisted_at m l ≡ persisted_at b.machine l → Among (persisted_at m l) (persisted_at (get_or (b.past ++ m ∷ []) 0 m) l ∷ map (λ m. cached_at m l) (b.past ++ m ∷ []))
        stays q = older l (persisted_at m l) (subst (λ c. Among c (persisted_at (get_or b.past 0 b.machine) l ∷ map (λ m. cached_at m l) b.past)) (sym q) (r.was l h))

        at : Dec (l ≡ j) → persisted_at m l ≡ put_line (persisted_at b.machine) j (held j (flushed b.machine u)) l
            → Among (persisted_at m l) (persisted_at (get_or (b.past ++ m ∷ []) 0 m) l ∷ map (λ m. cached_at m l) (b.past ++ m ∷ []))
        at (yes z) q =
            let y = g u l (refl, z) in
            let c = q ∙ lines.put_at (persisted_at b.machine) j (held j (flushed b.machine u)) l z ∙ ap (λ j. held j (flushed b.machine u)) (sym z) ∙ kn.marked.flushed u l y.0 h y.1 in
            inr (seen_on b.past m l (persisted_at m l) (subst (λ c. Among c (map (λ m. cached_at m l) b.past)) (sym c) (among_moment l b.past (b.mark u)
            (omega (arith, kn.timed.marks u, ap length kn.timed.now, length-append kn.timed.before (b.machine ∷ []))))))
        at (no z) q = stays (q ∙ lines.put_other (persisted_at b.machine) j (held j (flushed b.machine u)) l z)

        by : (x : Bool) → persisted_at m l ≡ pick x (persisted_at b.machine) (put_line (persisted_at b.machine) j (held j (flushed b.machine u))) l
            → Among (persisted_at m l) (persisted_at (get_or (b.past ++ m ∷ []) 0 m) l ∷ map (λ m. cached_at m l) (b.past ++ m ∷ []))
        by true q = stays q
        by false q = at (lines.line_eq l j) q
