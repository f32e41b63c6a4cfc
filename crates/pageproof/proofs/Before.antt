-- A bench of a run and a later one since the same start: what stays, and what rises.
use Prim.Native.Nat.{ℕ, suc, ◌≤◌, ◌<◌, max}
use mathlib.Core.Path.{◌≡◌, refl, sym, ap, subst, ◌∙◌}
use mathlib.Core.List.{List, [], ◌∷◌}
use native.Mathlib.Omega.{arith}
use borrow.Author.Tests.{le-leb}
use lib.ListN.{length, length-append}
use Rattle.machine.specs.Line.{shape_of, persisted_at}
use Rattle.machine.specs.Event.{deed_of}
use Rattle.machine.specs.declared.Line.{Line}
use Rattle.machine.specs.declared.Machine.{Machine}
use Rattle.machine.specs.declared.Event.{Event}
use Rattle.machine.specs.declared.Touch.{Touch}
use Rattle.machine.specs.declared.Touch.TheVariants.{Nothing as nothing, Store as a_store, Persist as a_persist, Flush as a_flush, Fence as a_fence}
use Rattle.machine.proofs.LineLaws.{LineIn, line_eq, put_same, put_ind}
use Rattle.schedule.specs.Run.{Bench, run, goes_on, from_after}
use Rattle.lawful.specs.Added.{NoCrash}
use Rattle.moments.specs.Frame.{Persists, FencesTo, touched, Frame}
use Rattle.moments.specs.Marked.{at_moment}
use Rattle.moments.proofs.Frame as frame
use Rattle.moments.proofs.Steps as acts
use Rattle.moments.proofs.Waiting.{Fencing, fencing_done}
use Rattle.moments.proofs.Known.{Known}
use Rattle.pageproof.proofs.Events as events
use Rattle.pageproof.proofs.Events.{Takes, next, touch, Crash, onto}
use Rattle.pageproof.proofs.Runs.{Accepts, run_first, run_rest, run_bench, run_nothing}
use Rattle.pageproof.proofs.Lengthened.{from_past, older}

pub record Before (b d : Bench) : Type 0 where
  pub long : length b.past ≤ length d.past
  pub from : (l : Line) → b.from l ≤ d.from l
  pub moment : (i : ℕ) (l : Line) → i < length b.past → at_moment d i l ≡ at_moment b i l
  -- a line that counts from no later moment has the same copy
  pub kept : (l : Line) → LineIn (shape_of b.machine) l → d.from l ≤ b.from l → persisted_at d.machine l ≡ persisted_at b.machine l

pub before_self : (b : Bench) → Before b b
before_self b = record { long = omega arith; from = λ l. omega arith; moment = λ i l h. refl; kept = λ l h k. refl }

before_then : (a b d : Bench) → shape_of b.machine ≡ shape_of a.machine → Before a b → Before b d → Before a d
before_then a b d z p q = record {
  long = omega (arith, p.long, q.long);
  from = λ l. omega (arith, p.from l, q.from l);
  moment = λ i l h. q.moment i l (omega (arith, p.long)) ∙ p.moment i l h;
  kept = λ l h k. q.kept l (subst (λ s. LineIn s l) (sym z) h) (omega (arith, k, p.from l)) ∙ p.kept l h (omega (arith, k, q.from l));
}

-- ---- one event

module _ (b : Bench) (kn : Known b) (m₁ : Machine) (w : Touch) (f : Frame b.machine m₁ w) (n : Fencing b.machine w) where
  abbrev now : ℕ
  now = length b.past

  rises : (x : Touch) (l : Line) → b.from l ≤ from_after x now b.mark b.from l
  rises nothing l = omega arith
  rises (a_store x) l = omega arith
  rises (a_persist x) l = put_ind b.from x now (λ l i. b.from l ≤ i) l (omega (arith, from_past b kn x)) (λ ne. omega arith)
  rises (a_flush u x) l = omega arith
  rises (a_fence u x) l = put_ind b.from x (max (b.from x) (b.mark u)) (λ l i. b.from l ≤ i) l (omega arith) (λ ne. omega arith)

  module _ (l : Line) (hl : LineIn (shape_of b.machine) l) where
    stays : (x : Touch) → w ≡ x → from_after x now b.mark b.from l ≤ b.from l → persisted_at m₁ l ≡ persisted_at b.machine l
    stays nothing e h = frame.frame_kept b.machine m₁ w f l (λ p. subst (λ w. Persists w l) e p) (λ p. subst (λ w. FencesTo w l) e p)
    stays (a_store x) e h = frame.frame_kept b.machine m₁ w f l (λ p. subst (λ w. Persists w l) e p) (λ p. subst (λ w. FencesTo w l) e p)
    stays (a_persist x) e h = by (line_eq l x)
      where
        by : Dec (l ≡ x) → persisted_at m₁ l ≡ persisted_at b.machine l
        by (yes q) = absurd (omega (arith, h, from_past b kn l, ap (λ x. from_after (a_persist x) now b.mark b.from l) (sym q) ∙ put_same b.from l now))
        by (no q) = frame.frame_kept b.machine m₁ w f l (λ p. q (subst (λ w. Persists w l) e p)) (λ p. subst (λ w. FencesTo w l) e p)
    stays (a_flush u x) e h = frame.frame_kept b.machine m₁ w f l (λ p. subst (λ w. Persists w l) e p) (λ p. subst (λ w. FencesTo w l) e p)
    stays (a_fence u x) e h = by (line_eq l x)
      where
        by : Dec (l ≡ x) → persisted_at m₁ l ≡ persisted_at b.machine l
        by (yes q) =
            let is : w ≡ a_fence u l = e ∙ ap (a_fence u) (sym q) in
            let a = subst (λ (w : Touch). Fencing b.machine w) is n u l (refl, refl) in
            let max_is = ap (λ x. from_after (a_fence u x) now b.mark b.from l) (sym q) ∙ put_same b.from l (max (b.from l) (b.mark u)) in
            frame.kept_persisted (touched b.machine w) m₁ f.kept l ∙ ap (λ w. persisted_at (touched b.machine w) l) is
            ∙ ap (λ (v : Machine). persisted_at v l)
            (frame.fence_stays b.machine u l (kn.marked.over u l a.0 hl a.1 ∙ le-leb (b.mark u) (b.from l) (omega (arith, h, max_is))))
        by (no q) = frame.frame_kept b.machine m₁ w f l (λ p. subst (λ w. Persists w l) e p) (λ p. q (subst (λ w. FencesTo w l) e p))

  before_goes : Before b (goes_on b m₁ w)
  before_goes = record {
    long = omega (arith, length-append b.past (m₁ ∷ []));
    from = rises w;
    moment = older b kn m₁ w;
    kept = λ l hl h. stays l hl w refl h;
  }

pub before_onto : (p : ℕ) (b : Bench) → Known b → (e : Event) → (Crash e → ⊥) → Takes p b.machine e → Before b (onto b e)
before_onto p b kn e ne t =
    subst (Before b) (sym (events.onto_goes p b e t ne))
    (before_goes b kn (next b.machine e) (touch b.machine e) (acts.frame_done b.machine e (deed_of e.kind) ne)
    (fencing_done p b.machine e (deed_of e.kind) (events.tests p b.machine e t)))

-- ---- a run without a crash

pub before_run : (l : List Event) (p : ℕ) (b : Bench) → Known b → NoCrash l → Accepts p b l → Before b (run p b l).bench
before_run [] p b kn nc h = rw (run_nothing p b) (before_self b)
before_run (e ∷ l) p b kn nc h =
    let t = run_first p b e l h in
    subst (Before b) (sym (run_bench p b e l t))
    (before_then b (onto b e) (run (suc p) (onto b e) l).bench (events.onto_size p b e t nc.0) (before_onto p b kn e nc.0 t)
    (before_run l (suc p) (onto b e) (events.onto_known p b e t kn) nc.1 (run_rest p b e l h)))
