-- The refusals of the plain way, in their order, and what a schedule that passes them is laid out as.
use Prim.Native.Nat.{ℕ, suc, ◌+◌, ◌*◌, ◌^◌, ◌≤◌, ◌<◌}
use mathlib.Core.Path.{◌≡◌, refl, sym, ap, ap₂, subst, ◌∙◌}
use mathlib.Core.Bool.{Bool, true, false}
use mathlib.Core.List.{List}
use native.Mathlib.Omega.{arith}
use native.Mathlib.Nat.{pow-le-pow_left, pow-le-pow_right, mul-le-mul}
use lib.ListN.{length}
use lib.Dec.{ltb}
use borrow.Author.Tests.{lt-ltb, le-ltb}
use Rattle.lists.specs.Find.{pick}
use Rattle.lists.specs.Tab.{over}
use Rattle.lists.proofs.BoolLaws.{no_way, yes_of, no_of}
use Rattle.answer.specs.Answers.{check, accepted, given, Answer, Taken, Endings, Room}
use Rattle.image.specs.Form.{known, head_lines, image_size}
use Rattle.image.specs.declared.Shape.{Shape}
use Rattle.machine.specs.Line.{line_count}
use Rattle.schedule.specs.Layout.{threads_in, count_in, nodes_in, schedule_in, schedule_answer, schedule_shape, read_schedule}
use Rattle.schedule.specs.declared.Schedule.{Schedule}
use Rattle.page.specs.Refusals.{page_answer, ending_count}
use Rattle.plainproof.specs.Plain.{since_count, lines_in, plain_images}
use Rattle.plainproof.proofs.Plain.{plain_count_lem}
use Rattle.image.proofs.HeadLaws.{lines_few}
use Rattle.image.proofs.ShapeLaws.{nodes_range, threads_range}
use Rattle.codec.proofs.Accepted as codec
use Rattle.pages.proofs.OwnLaws.{size_few}
use Rattle.filling.proofs.Numbers.{count_few}
use Rattle.runs.specs.Paged.{count_of}
use Rattle.pageproof.proofs.Holds.{page_schedule}
use Rattle.plainruns.proofs.PlanLaws.{shape_of_lem, count_of_lem}
use Rattle.plainruns.specs.declared.Plan.{Plan}
use Rattle.plainruns.specs.Playable.{Planned}
use Rattle.plainway.specs.Plainly.{too_large, plain_room, plain_answer, plain_count, all_bytes, plain_written}
use Rattle.plainway.specs.Noting.{base_in, WayIs}
use Rattle.plainway.specs.declared.way.Way.{Way}
use Rattle.std.specs.Prelude.{Result, Ok, Err}
use Rattle.answer.specs.declared.Refusal.{Refusal}
use Rattle.answer.proofs.Results.{came_back, given_taken, given_refused}

-- ---- powers

-- the runs of six lines, each with at most 14 picks
pub power_fits : (b n : ℕ) → 1 ≤ b → b ≤ 14 → n ≤ 6 → b ^ n ≤ 7529536
power_fits b n one h q =
    let x = pow-le-pow_right {n = b} (omega arith) {i = n} {j = 6} (omega arith) in
    let y = pow-le-pow_left {n = b} {m = 14} h 6 in
    omega (arith, x, y)

-- ---- the answer

module _ (s : List ℕ) (room : ℕ) where
  abbrev rest : Answer
  rest = check (too_large s) Endings (check (ltb room (plain_room s)) Room Taken)

  pub answer_refused : accepted (page_answer s) ≡ false → plain_answer s room ≡ page_answer s
  unfolding plain_answer
  answer_refused h = no_of rest (page_answer s) (accepted (page_answer s)) h

  module _ (h : accepted (page_answer s) ≡ true) where
    answer_rest : plain_answer s room ≡ rest
    unfolding plain_answer
    answer_rest = yes_of rest (page_answer s) (accepted (page_answer s)) h

    large_answer : too_large s ≡ true → plain_answer s room ≡ Endings
    large_answer e = answer_rest ∙ ap (λ (b : Bool). check b Endings (check (ltb room (plain_room s)) Room Taken)) e

    -- "more than 12 events", "4 nodes", "6 lines"
    pub many_events : 12 < count_in s → plain_answer s room ≡ Endings
    many_events q = large_answer (ap (λ (b : Bool). pick b true (pick (ltb 4 (nodes_in s)) true (ltb 6 (lines_in s)))) (lt-ltb 12 (count_in s) q))

    module _ (few : count_in s ≤ 12) where
      pub many_nodes : 4 < nodes_in s → plain_answer s room ≡ Endings
      many_nodes q = large_answer (ap (λ (b : Bool). pick b true (pick (ltb 4 (nodes_in s)) true (ltb 6 (lines_in s)))) (le-ltb 12 (count_in s) few)
          ∙ ap (λ (b : Bool). pick b true (ltb 6 (lines_in s))) (lt-ltb 4 (nodes_in s) q))

      module _ (small : nodes_in s ≤ 4) where
        by_lines : too_large s ≡ ltb 6 (lines_in s)
        by_lines = ap (λ (b : Bool). pick b true (pick (ltb 4 (nodes_in s)) true (ltb 6 (lines_in s)))) (le-ltb 12 (count_in s) few)
            ∙ ap (λ (b : Bool). pick b true (ltb 6 (lines_in s))) (le-ltb 4 (nodes_in s) small)

        pub many_lines : 6 < lines_in s → plain_answer s room ≡ Endings
        many_lines q = large_answer (by_lines ∙ lt-ltb 6 (lines_in s) q)

        module _ (short : lines_in s ≤ 6) where
          by_room : plain_answer s room ≡ check (ltb room (plain_room s)) Room Taken
          by_room = answer_rest ∙ ap (λ (b : Bool). check b Endings (check (ltb room (plain_room s)) Room Taken)) (by_lines ∙ le-ltb 6 (lines_in s) short)

          pub no_room : room < plain_room s → plain_answer s room ≡ Room
          no_room q = by_room ∙ ap (λ (b : Bool). check b Room Taken) (lt-ltb room (plain_room s) q)

          pub answer_taken : plain_room s ≤ room → plain_answer s room ≡ Taken
          answer_taken q = by_room ∙ ap (λ (b : Bool). check b Room Taken) (le-ltb room (plain_room s) q)

-- ---- what the calls leave

pub count_refused : (s : List ℕ) (room : ℕ) → accepted (plain_answer s room) ≡ false → plain_count s room ≡ 0
unfolding plain_count
count_refused s room h = no_of (length (plain_images s)) 0 (accepted (plain_answer s room)) h

pub count_taken : (s : List ℕ) (room : ℕ) → accepted (plain_answer s room) ≡ true → plain_count s room ≡ length (plain_images s)
unfolding plain_count
count_taken s room h = yes_of (length (plain_images s)) 0 (accepted (plain_answer s room)) h

pub written_refused : (s b : List ℕ) → accepted (plain_answer s (length b)) ≡ false → plain_written s b ≡ b
unfolding plain_written
written_refused s b h = no_of (over b 0 (all_bytes (plain_images s))) b (accepted (plain_answer s (length b))) h

pub written_taken : (s b : List ℕ) → accepted (plain_answer s (length b)) ≡ true → plain_written s b ≡ over b 0 (all_bytes (plain_images s))
unfolding plain_written
written_taken s b h = yes_of (over b 0 (all_bytes (plain_images s))) b (accepted (plain_answer s (length b))) h

-- an accepted answer gives its value
pub given_yes : {A : Type 0} (a : Answer) (v : A) → accepted a ≡ true → given a v ≡ Ok v
given_yes (Ok r) v h = refl
given_yes (Err e) v h = no_way (sym h ∙ came_back {a = Err e} refl refl)

-- what is taken is a page that is taken
pub page_taken : (s : List ℕ) (room : ℕ) → accepted (plain_answer s room) ≡ true → accepted (page_answer s) ≡ true
page_taken s room h = by (accepted (page_answer s)) refl
  where
    by : (x : Bool) → accepted (page_answer s) ≡ x → accepted (page_answer s) ≡ true
    by true e = e
    by false e = ap accepted (sym (answer_refused s room e)) ∙ h

-- there are as many images as the page has endings
pub room_is : (s : List ℕ) → accepted (page_answer s) ≡ true → (z : Shape) (c n : ℕ) → z ≡ schedule_shape s → c ≡ ending_count s → n ≡ image_size z → c * n ≡ plain_room s
room_is s h z c n ze ce ne = ap₂ ◌*◌ (ce ∙ sym (plain_count_lem s h)) (ne ∙ ap image_size ze)

pub since_few : (s : List ℕ) → count_in s ≤ 12 → since_count s ≤ 12
unfolding since_count
since_few s h = omega arith

-- ---- at the code's terms

-- the page's answer was a refusal
pub way_page : (s : List ℕ) (room : ℕ) (r : Result Way Refusal) (e : Refusal) → page_answer s ≡ Err e → r ≡ Err e → WayIs s room r
way_page s room r e q w = subst (WayIs s room) (sym w) (answer_refused s room (came_back refl q) ∙ q)

pub count_is : (s : List ℕ) → accepted (page_answer s) ≡ true → count_of s ≡ ending_count s
unfolding count_of
count_is s h = ap (λ (b : Bool). pick b (ending_count s) 0) h

module _ (s : List ℕ) (h : accepted (page_answer s) ≡ true) where
  abbrev yes : accepted (schedule_answer s) ≡ true
  yes = page_schedule s h

  pub form_known : known (schedule_shape s).form ≡ true
  form_known = (codec.schedule_taken s yes).part.mark

  pub heads_few : head_lines (schedule_shape s) ≤ 8
  heads_few = lines_few (schedule_shape s) (threads_range (threads_in s) (codec.schedule_taken s yes).threads).1

  pub nodes_few : nodes_in s ≤ 64
  nodes_few = (nodes_range (nodes_in s) (codec.schedule_taken s yes).part.nodes).1

  pub size_small : image_size (schedule_shape s) ≤ 846
  size_small = size_few (schedule_shape s) form_known nodes_few heads_few

  -- the schedule is read
  pub read_is : {d : Schedule} {r : Result Schedule Refusal} → r ≡ given (read_schedule s).answer (read_schedule s).schedule → r ≡ Ok d → d ≡ schedule_in s
  read_is e w = (given_taken (read_schedule s).answer (read_schedule s).schedule e w).1 ∙ codec.opened_schedule s yes

  -- so reading it is not refused
  pub is_read : {A : Type 0} {r : Result Schedule Refusal} {w : Refusal} → r ≡ given (read_schedule s).answer (read_schedule s).schedule → r ≡ Err w → A
  is_read e was = no_way (sym yes ∙ ap accepted (sym (codec.opened_answer s)) ∙ came_back refl (given_refused (read_schedule s).answer (read_schedule s).schedule e was))

  module _ (d : Schedule) (d_is : d ≡ schedule_in s) where
    abbrev z : Shape
    z = record { form = d.image.form; n = d.image.n; t = d.t }

    pub z_is : z ≡ schedule_shape s
    z_is = shape_of_lem s d d_is

    pub count_in_lem : d.count ≡ count_in s
    count_in_lem = count_of_lem s d d_is

    pub nodes_in_lem : d.image.n ≡ nodes_in s
    nodes_in_lem = ap (λ (x : Shape). x.n) z_is

    pub known_in : known d.image.form ≡ true
    known_in = ap (λ (x : Shape). known x.form) z_is ∙ form_known

    pub heads_in : head_lines z ≤ 8
    heads_in = subst (λ (x : Shape). head_lines x ≤ 8) (sym z_is) heads_few

    pub lines_in_lem : (n : ℕ) → n ≡ line_count z → n ≡ lines_in s
    lines_in_lem n e = e ∙ ap line_count z_is

    module _ (c n : ℕ) (ce : c ≡ count_of s) (ne : n ≡ image_size z) where
      pub room_in : c * n ≡ plain_room s
      room_in = room_is s h z c n z_is (ce ∙ count_is s h) ne

      pub room_fits : c * n ≤ 55443456
      room_fits = mul-le-mul {n₁ = c} {m₁ = n} {n₂ = 65536} {m₂ = 846} (omega (arith, ce, count_is s h, count_few s h)) (omega (arith, ne, ap image_size z_is, size_small))

    pub way_yes : (room : ℕ) (p : Plan) (n size base runs c : ℕ) → count_in s ≤ 12 → nodes_in s ≤ 4 → n ≤ 6 → c ≡ count_of s → c * size ≤ room → n ≡ line_count z → size ≡ image_size z → Planned s p → base ≡ p.since + 2 → runs ≡ base ^ n
        → WayIs s room (Ok (record { plan = p; lines = n; size = size; base = base; runs = runs }))
    way_yes room p n size base runs c few small short ce fits ne se pl be re =
        let e = lines_in_lem n ne in
        let b : base ≡ base_in s = be ∙ ap (λ (x : ℕ). x + 2) pl.since ∙ (let y : since_count s + 2 ≡ suc (suc (since_count s)) = omega arith in y) in
        let q : plain_room s ≤ room = omega (arith, fits, room_in c size ce se) in (
          ap accepted (answer_taken s room h few small (omega (arith, e)) q),
          record {
            planned = pl;
            lines = e;
            few = omega (arith, e);
            short = since_few s few;
            size = se ∙ ap image_size z_is;
            base = b;
            runs = re ∙ ap₂ ◌^◌ b e;
          },
          q,
        )
