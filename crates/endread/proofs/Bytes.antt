-- The bytes of an ending: written into a lent buffer, and read from there, they are that ending.
use Prim.Native.Nat.{ℕ, ◌≤◌, ◌<◌}
use mathlib.Core.Path.{◌≡◌, refl, sym, ap, ◌∙◌}
use mathlib.Core.Bool.{Bool, true, false, not}
use mathlib.Core.List.{List, [], ◌++◌}
use native.Mathlib.Omega.{arith}
use borrow.Author.Tests.{le-ltb, lt-leb}
use lib.ListN.{length, get_or, take, drop}
use lib.Seq.{take_at}
use Rattle.lists.specs.Tab.{over, front}
use Rattle.lists.proofs.BoolLaws.{yes_of}
use Rattle.lists.proofs.TabLaws as tabs
use Rattle.answer.specs.Answers.{accepted, check, Answer, Taken, Threads}
use Rattle.image.specs.declared.Content.{Content}
use Rattle.image.specs.declared.Image.{Image}
use Rattle.image.specs.Refusals.{Read, threads_fit, whole, read_image, write_answer}
use Rattle.image.specs.Form.{Form, plain, wide, pair, desks, form_of, held_threads, own_threads, image_size}
use Rattle.image.specs.Layout.{no_content, no_contents, content_at, image_shape, no_heads, heads_of, image_bytes}
use Rattle.image.specs.declared.Shape.{Shape}
use Rattle.image.proofs.HeadLaws.{heads_at_lem, heads_same}
use Rattle.image.proofs.ShapeLaws.{Shaped, shape_is, agree_own}
use Rattle.pages.proofs.OwnLaws.{owned, own_lines, own_size}
use Rattle.machine.specs.Line.{shape_of, number_of}
use Rattle.machine.specs.declared.Line.TheVariants.{OfHead as of_head, OfNode as of_node}
use Rattle.machine.specs.Start.{start_answer}
use Rattle.machine.specs.declared.Machine.{Machine}
use Rattle.schedule.specs.Layout.{threads_in}
use Rattle.schedule.specs.Run.{Bench, Ran, ran}
use Rattle.page.specs.Endings.{choices, image_of, ending}
use Rattle.page.specs.Refusals.{table_in, page_answer, ending_count, ending_in, ending_answer, ending_written}
use Rattle.lawful.specs.Demand3.{Bytes, Recovers}
use Rattle.codec.proofs.Accepted as acc
use Rattle.codec.proofs.ReadWrite.{over_front}
use Rattle.codec.proofs.WriteRead.{Items, trimmed, size_back, contents_again}
use Rattle.tied.proofs.Accepted.{pass}
use Rattle.lawproof.proofs.Lawful3.{page_lawful}
use Rattle.filling.proofs.Wide.{ending_little}

-- how many bytes an ending takes, by the shape of the schedule's machine
abbrev pub ending_size : List ℕ → ℕ
ending_size s = image_size (shape_of (ran s).bench.machine)

-- T as it is held is held so
own_twice : (z : Shape) → own_threads (owned z) ≡ own_threads z
unfolding own_threads
own_twice z = by (form_of z.form)
  where
    by : (f : Form) → held_threads f (held_threads f z.t) ≡ held_threads f z.t
    by plain = refl
    by wide = refl
    by pair = refl
    by desks = refl

-- nothing stands beyond the lines that an ending chooses for
ending_blank : (z : Shape) (c : List Content) → trimmed (image_of z c) ≡ image_of z c
unfolding image_of heads_of
ending_blank z c =
    let f : ℕ → ℕ = λ k. (content_at c (number_of z (of_head k))).index in
    let h : ℕ → Content = λ i. content_at c (number_of z (of_node i)) in
    let x = ap (λ (m : ℕ). front (λ k. get_or (heads_of z f) k 0) m no_heads) (own_lines z) ∙ heads_same z (λ k. get_or (heads_of z f) k 0) f (heads_at_lem z f) in
    let y = tabs.front_same (content_at (front h z.n no_contents)) h z.n no_contents (λ i p. tabs.front_at h z.n no_contents i no_content p) in
    let o = own_twice z in
    λ k. record { form = z.form; n = z.n; t = o k; heads = x k; nodes = y k }

module _ (s : List ℕ) (h : accepted (page_answer s) ≡ true) (k : ℕ) (lt : k < ending_count s) where
  pub ending_taken : (room : ℕ) → ending_size s ≤ room → ending_answer s k room ≡ Taken
  unfolding ending_answer
  ending_taken room l =
      yes_of _ (page_answer s) (accepted (page_answer s)) h
      ∙ rw (lt-leb (ending_count s) k lt, le-ltb room (ending_size s) l)

  pub ending_held : (b : List ℕ) → ending_size s ≤ length b → ending_written s k b ≡ over b 0 (image_bytes (ending_in s k))
  unfolding ending_written
  ending_held b l = yes_of (over b 0 (image_bytes (ending_in s k))) b (accepted (ending_answer s k (length b))) (ap accepted (ending_taken (length b) l))

module _ (s : List ℕ) (bytes : Bytes s) (h : accepted (page_answer s) ≡ true) (k : ℕ) (lt : k < ending_count s) where
  ending_items : Items (ending_in s k)
  ending_items i p = omega (arith, (ending_little s bytes h k lt i).1)

  ending_whole : trimmed (ending_in s k) ≡ ending_in s k
  unfolding ending_in ending
  ending_whole = ending_blank (shape_of (ran s).bench.machine) (get_or (choices (table_in s)) k [])

  size : image_size (image_shape (ending_in s k)) ≡ ending_size s
  unfolding ending_in ending image_of
  size = own_size (shape_of (ran s).bench.machine)

  -- it starts, so its contents are taken for writing
  sound_ending : accepted (write_answer (ending_in s k) (ending_size s)) ≡ true
  unfolding start_answer
  sound_ending =
      let x = pass (not (threads_fit (threads_in s))) Threads _ refl (page_lawful s bytes h k lt).starts in
      let y = shape_is (threads_in s) (image_shape (ending_in s k)) (whole (ending_in s k) Taken) x.1 in
      let f : Shaped (ending_in s k).t (image_shape (ending_in s k)) = record { form = y.0.form; nodes = y.0.nodes; own = y.0.own; agrees = agree_own (image_shape (ending_in s k)) } in
      ap accepted (acc.write_taken (ending_in s k) (ending_size s) f y.1 (omega (arith, size)))

  pub bytes_read : read_image (image_bytes (ending_in s k)) ≡ record { answer = Taken; image = ending_in s k }
  bytes_read =
      contents_again (ending_in s k) (ending_size s) ending_items sound_ending
      ∙ ap (λ (g : Image). record { answer = Taken; image = g }) ending_whole

  -- how many there are
  pub bytes_long : length (image_bytes (ending_in s k)) ≡ ending_size s
  bytes_long = size_back (ending_in s k) (acc.contents_taken (ending_in s k) (ending_size s) sound_ending).shape.form ∙ size

  -- what the call leaves in the first bytes of a lent buffer
  pub bytes_front : (b : List ℕ) → ending_size s ≤ length b → take (ending_size s) (ending_written s k b) ≡ image_bytes (ending_in s k)
  bytes_front b l =
      ap (take (ending_size s)) (ending_held s h k lt b l ∙ over_front b (image_bytes (ending_in s k)) (omega (arith, bytes_long)))
      ∙ take_at (image_bytes (ending_in s k)) (drop (length (image_bytes (ending_in s k))) b) (ending_size s) bytes_long
