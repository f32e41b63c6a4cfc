-- What added write-backs leave in a line is among its contents.
use Prim.Native.Nat.{ℕ, zero, suc, ◌+◌, ◌-◌, ◌≤◌, ◌<◌}
use mathlib.Core.Path.{◌≡◌, refl, sym, ap, subst, ◌∙◌}
use mathlib.Core.List.{List, [], ◌∷◌, map}
use mathlib.Core.Logic.{inl, inr}
use native.Mathlib.Omega.{arith}
use native.Mathlib.Decide.{dec_lt}
use lib.ListN.{length, get_or, drop}
use lib.Seq.{drop-cons}
use Rattle.answer.specs.Answers.{Answer}
use Rattle.image.specs.declared.Content.{Content}
use Rattle.image.specs.declared.Shape.{Shape}
use Rattle.machine.specs.Line.{shape_of, line_count, cached_at, persisted_at}
use Rattle.machine.specs.Start.{blank_machine}
use Rattle.machine.specs.declared.Line.{Line}
use Rattle.machine.specs.declared.Machine.{Machine}
use Rattle.machine.specs.declared.Event.{Event}
use Rattle.machine.proofs.LineLaws.{LineIn}
use Rattle.schedule.specs.Run.{Bench, run}
use Rattle.page.specs.Contents.{joins, gathered, contents_of}
use Rattle.lawful.specs.Added.{write_back, Adds, ends, keeps, adds, NoCrash}
use Rattle.moments.specs.Marked.{at_moment}
use Rattle.moments.proofs.Known.{Known}
use Rattle.pageproof.proofs.Among.{Among, among_old, among_new}
use Rattle.pageproof.proofs.Events as events
use Rattle.pageproof.proofs.Events.{Takes, next, Crash, no_crash, onto}
use Rattle.pageproof.proofs.Runs.{Accepts, run_first, run_rest, run_bench, run_nothing}
use Rattle.pageproof.proofs.Lengthened.{Lengthened, left_with, left_old, left_new, writes, lengthened_keeps, lengthened_back}

-- ---- what is gathered

among_gathered : (c : Content) (seen l : List Content) → Among c seen → Among c (gathered seen l)
unfolding gathered
among_gathered c seen [] k = k
among_gathered c seen (x ∷ l) k = among_gathered c (joins seen x) l (among_old c seen x k)

gathered_all : (c : Content) (seen l : List Content) → Among c l → Among c (gathered seen l)
unfolding gathered
gathered_all c seen [] k = absurd k
gathered_all c seen (x ∷ l) (inl e) = among_gathered c (joins seen x) l (subst (λ (y : Content). Among y (joins seen x)) (sym e) (among_new seen x))
gathered_all c seen (x ∷ l) (inr k) = gathered_all c (joins seen x) l k

-- the content of each moment from moment f on
moment_among : (l : Line) (ms : List Machine) (d f : ℕ) → f + d < length ms → Among (cached_at (get_or ms (f + d) blank_machine) l) (map (λ m. cached_at m l) (drop f ms))
moment_among l ms zero f h =
    let e : f ≡ f + 0 = omega arith in
    subst (λ (x : List Machine). Among (cached_at (get_or ms (f + 0) blank_machine) l) (map (λ m. cached_at m l) x)) (sym (drop-cons ms f blank_machine (omega arith)))
    (inl (ap (λ i. cached_at (get_or ms i blank_machine) l) (sym e)))
moment_among l ms (suc d) f h =
    let e : suc f + d ≡ f + suc d = omega arith in
    subst (λ (x : List Machine). Among (cached_at (get_or ms (f + suc d) blank_machine) l) (map (λ m. cached_at m l) x)) (sym (drop-cons ms f blank_machine (omega arith)))
    (inr (subst (λ i. Among (cached_at (get_or ms i blank_machine) l) (map (λ m. cached_at m l) (drop (suc f) ms))) e (moment_among l ms d (suc f) (omega arith))))

-- written back at any moment that has been, or never, a line is left with one of its contents
pub left_among : (b : Bench) (r : ℕ) (l : Line) → r ≤ length b.past → Among (left_with b r l) (contents_of b l)
unfolding contents_of
left_among b r l h = by (dec_lt (b.from l) r)
  where
    by : Dec (b.from l < r) → Among (left_with b r l) (contents_of b l)
    by (yes k) =
        let e : b.from l + (r - 1 - b.from l) ≡ r - 1 = omega arith in
        subst (λ (c : Content). Among c (contents_of b l)) (sym (left_new b r l k))
        (gathered_all (at_moment b (r - 1) l) (persisted_at b.machine l ∷ []) _
        (subst (λ i. Among (at_moment b i l) (map (λ m. cached_at m l) (drop (b.from l) b.past))) e (moment_among l b.past (r - 1 - b.from l) (b.from l) (omega arith))))
    by (no k) =
        subst (λ (c : Content). Among c (contents_of b l)) (sym (left_old b r l (omega arith)))
        (among_gathered (persisted_at b.machine l) (persisted_at b.machine l ∷ []) _ (inl refl))

-- ---- a run and the same run with write-backs added

-- m' goes on as b' does
pub lengthened_onto : (b : Bench) (r : Line → ℕ) (q : ℕ) (b' : Bench) (e : Event) → Takes q b'.machine e → (Crash e → ⊥) → Lengthened b r (next b'.machine e)
    → Lengthened b r (onto b' e).machine
lengthened_onto b r q b' e t ne g = subst (Lengthened b r) (sym (events.onto_machine q b' e t ne)) g

pub record Fewer (d : Bench) (m' : Machine) : Type 0 where
  pub last : Line → ℕ
  pub is : Lengthened d last m'

ends_so : (p q : ℕ) (b b' : Bench) → Fewer b b'.machine → Fewer (run p b []).bench (run q b' []).bench.machine
ends_so p q b b' g = rw (run_nothing p b, run_nothing q b') g

keeps_so : (p q : ℕ) (b b' : Bench) (e : Event) (l l' : List Event) → Takes p b.machine e → Takes q b'.machine e
    → Fewer (run (suc p) (onto b e) l).bench (run (suc q) (onto b' e) l').bench.machine → Fewer (run p b (e ∷ l)).bench (run q b' (e ∷ l')).bench.machine
keeps_so p q b b' e l l' t t' g = rw (run_bench p b e l t, run_bench q b' e l' t') g

adds_so : (d : Bench) (q : ℕ) (b' : Bench) (e : Event) (l' : List Event) → Takes q b'.machine e → Fewer d (run (suc q) (onto b' e) l').bench.machine
    → Fewer d (run q b' (e ∷ l')).bench.machine
adds_so d q b' e l' t' g = rw (run_bench q b' e l' t') g

pub fewer : (z : Shape) {l l' : List Event} {x x' : List Answer} → Adds (line_count z) l x l' x' → (p q : ℕ) (b b' : Bench) → NoCrash l → Known b
    → shape_of b.machine ≡ z
    → (r : Line → ℕ) → Lengthened b r b'.machine → Accepts p b l → Accepts q b' l' → Fewer (run p b l).bench (run q b' l').bench.machine
fewer z ends p q b b' nc kn size r g h h' = ends_so p q b b' (record { last = r; is = g })
fewer z (keeps {e = e} {l = l} {l' = l'} a) p q b b' nc kn size r g h h' =
    let t = run_first p b e l h in
    let t' = run_first q b' e l' h' in
    keeps_so p q b b' e l l' t t'
    (fewer z a (suc p) (suc q) (onto b e) (onto b' e) nc.1 (events.onto_known p b e t kn) (events.onto_size p b e t nc.0 ∙ size) r
    (lengthened_onto (onto b e) r q b' e t' nc.0 (lengthened_keeps p b kn r b'.machine g e nc.0 t)) (run_rest p b e l h) (run_rest q b' e l' h'))
fewer z (adds i lt {l = l} {l' = l'} a) p q b b' nc kn size r g h h' =
    let t' = run_first q b' (write_back i) l' h' in
    adds_so (run p b l).bench q b' (write_back i) l' t'
    (fewer z a p (suc q) b (onto b' (write_back i)) nc kn size (writes b r i)
    (lengthened_onto b (writes b r i) q b' (write_back i) t' (no_crash i) (lengthened_back b kn r b'.machine g i (subst (λ (y : Shape). i < line_count y) (sym size) lt)))
    h (run_rest q b' (write_back i) l' h'))

-- each line that there is has persisted one of the contents that the bench gives it
pub lengthened_inside : (b : Bench) (r : Line → ℕ) (m' : Machine) → Lengthened b r m' → (l : Line) → LineIn (shape_of b.machine) l
    → Among (persisted_at m' l) (contents_of b l)
lengthened_inside b r m' g l h = subst (λ (c : Content). Among c (contents_of b l)) (sym (g.kept l h)) (left_among b (r l) l (g.early l))
