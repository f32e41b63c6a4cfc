-- A schedule read from bytes: it begins with an accepted start, and its indices are within their width.
use mathlib.Core.Path.{◌≡◌, refl, sym, ap, subst, ◌∙◌}
use mathlib.Core.Bool.{Bool, true, false, not}
use mathlib.Core.List.{List}
use Prim.Native.Nat.{ℕ, ◌+◌, ◌*◌, ◌≤◌, ◌<◌}
use native.Mathlib.Omega.{arith}
use lib.Dec.{eqb, ltb}
use lib.ListN.{length, get_or, drop}
use lib.Seq.{get_or-drop}
use borrow.Author.Tests.{not-false}
use Rattle.lists.proofs.TabLaws.{front_at}
use Rattle.answer.specs.Answers.{check, accepted, Answer, Taken, Length, Mark, Threads, Events}
use Rattle.image.specs.declared.Image.{Image}
use Rattle.image.specs.Bytes.{at_w}
use Rattle.image.specs.Layout.{content_at, no_content, no_contents, shape_in, read_content, read_nodes, image_in, read_heads}
use Rattle.image.proofs.HeadLaws.{heads_at_lem}
use Rattle.image.proofs.ShapeLaws.{shape_is, shape_then}
use Rattle.image.proofs.ByteLaws.{at_small}
use Rattle.image.proofs.SoundLaws.{Fitting, is_fitting, sound_then}
use Rattle.image.specs.Refusals.{threads_fit, sound, fitting, whole, image_answer}
use Rattle.image.specs.Form.{width_of, top_of, heads_at, node_place, image_size}
use Rattle.machine.specs.Start.{start_answer}
use Rattle.machine.specs.Range.{in_range}
use Rattle.machine.specs.declared.Event.{Event}
use Rattle.schedule.specs.Layout.{is_file, threads_in, count_in, image_part, schedule_in, file_answer, schedule_answer, events_in}
use Rattle.schedule.specs.Run.{run, ran, opened}
use Rattle.tied.specs.Shown.{Narrow}
use Rattle.tied.proofs.Accepted.{pass}
use Rattle.tied.proofs.Statements.{run_in_range}

-- a list of bytes
abbrev pub Bytes : List ℕ → Type 0
Bytes s = (i : ℕ) → get_or s i 0 < 256

check_no : (b : Bool) (w rest : Answer) → b ≡ false → accepted rest ≡ true → accepted (check b w rest) ≡ true
check_no b w rest e a = rw e a

pub whole_of : (g : Image) → accepted (sound g Taken) ≡ true → Fitting g → accepted (whole g Taken) ≡ true
unfolding whole
whole_of g s f = ap accepted (sound_then g (fitting g Taken) s ∙ is_fitting g Taken f)

-- what is read as an index is at most the largest of its width
narrow_at : (f : ℕ) (s : List ℕ) → Bytes s → (i : ℕ) → at_w (width_of f) s i ≤ top_of f
unfolding top_of
narrow_at f s b i = omega (arith, at_small (width_of f) s i b)

pub narrow_image : (s : List ℕ) → Bytes s → Narrow (image_in s)
unfolding image_in read_heads read_nodes
narrow_image s b =
    let z = shape_in s in
    let f = z.form in
    record {
      head = λ k h. subst (λ x. x ≤ top_of f) (sym (heads_at_lem z (λ k. at_w (width_of f) s (heads_at f + k * width_of f)) k h)) (narrow_at f s b (heads_at f + k * width_of f));
      at = λ i h. subst (λ c. c.index ≤ top_of f) (sym (front_at (λ i. read_content f s (node_place z i)) z.n no_contents i no_content h)) (narrow_at f s b (node_place z i + 1));
    }

-- accepted for T threads, its own T, where it has one, agrees
pub image_starts : (s : List ℕ) (more t : ℕ) → Bytes s → accepted (image_answer t more s) ≡ true → threads_fit t ≡ true → accepted (start_answer (image_in s) t) ≡ true
unfolding image_answer start_answer image_in
image_starts s more t b a h =
    let x = pass (ltb (length s) 10) Length _ refl a in
    let y = shape_is t (shape_in s) _ x.1 in
    let w = pass (not (eqb (length s) (image_size (shape_in s) + more))) Length _ refl y.1 in
    let n = narrow_image s b in
    check_no (not (threads_fit t)) Threads _ (ap not h)
    (subst (λ a. accepted a ≡ true) (sym (shape_then t (shape_in s) (whole (image_in s) Taken) y.0)) (whole_of (image_in s) w.1 (record { head = n.head; at = n.at })))

-- the bytes of a schedule's image are bytes
image_bytes : (s : List ℕ) → Bytes s → Bytes (image_part s)
image_bytes s b i = subst (λ x. x < 256) (sym (get_or-drop 8 s i 0)) (b (8 + i))

-- a file with a schedule's layout begins with an accepted start
pub file_starts : (k v : ℕ) (s : List ℕ) → Bytes s → accepted (file_answer k v s) ≡ true → accepted (start_answer (schedule_in s).image (schedule_in s).t) ≡ true
unfolding schedule_in
file_starts k v s b a =
    let x = pass (ltb (length s) 8) Length _ refl a in
    let y = pass (not (is_file k s)) Mark _ refl x.1 in
    let z = pass (not (threads_fit (threads_in s))) Threads _ refl y.1 in
    let w = pass (ltb 4096 (count_in s)) Events _ refl z.1 in
    image_starts (image_part s) (count_in s * v) (threads_in s) (image_bytes s b) w.1 (not-false _ z.0)

pub schedule_starts : (s : List ℕ) → Bytes s → accepted (schedule_answer s) ≡ true → accepted (start_answer (schedule_in s).image (schedule_in s).t) ≡ true
unfolding schedule_answer
schedule_starts s b a = file_starts 83 6 s b a

pub schedule_narrow : (s : List ℕ) → Bytes s → Narrow (schedule_in s).image
unfolding schedule_in
schedule_narrow s b = narrow_image (image_part s) (image_bytes s b)

-- no record of a run of the file's start is refused by 18, whatever its events
pub file_in_range : (k v : ℕ) (s : List ℕ) → Bytes s → accepted (file_answer k v s) ≡ true → (q : ℕ) (l : List Event) → in_range (run q (opened (schedule_in s)) l).bench.machine ≡ true
file_in_range k v s b a q l = run_in_range (schedule_in s).image (schedule_in s).t (file_starts k v s b a) (schedule_narrow s b) q l

pub events_in_range : (s : List ℕ) → Bytes s → accepted (schedule_answer s) ≡ true → (q : ℕ) (l : List Event) → in_range (run q (opened (schedule_in s)) l).bench.machine ≡ true
unfolding schedule_answer
events_in_range s b a q l = file_in_range 83 6 s b a q l

pub ran_in_range : (s : List ℕ) → Bytes s → accepted (schedule_answer s) ≡ true → in_range (ran s).bench.machine ≡ true
unfolding ran
ran_in_range s b a = events_in_range s b a 0 (events_in s)
