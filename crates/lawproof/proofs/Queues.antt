-- An image that is fit for the abstract machine: a start accepts it, and its queue is the abstract machine's.
use mathlib.Core.Path.{◌≡◌, refl, sym, ap, ap₂, subst, ◌∙◌}
use mathlib.Core.Bool.{Bool, true, false, not}
use mathlib.Core.List.{map}
use Prim.Native.Nat.{ℕ}
use native.Mathlib.Omega.{arith}
use lib.Dec.{ltb}
use Rattle.lists.specs.Find.{pick, both}
use Rattle.lists.proofs.FindLaws.{least_none}
use Rattle.answer.specs.Answers.{check, accepted, Answer, Taken, Threads, Linked}
use Rattle.image.specs.declared.Image.{Image}
use Rattle.image.specs.Form.{per_desk}
use Rattle.image.specs.Layout.{content_at, image_shape}
use Rattle.image.specs.Recovered.{first_unclear}
use Rattle.image.specs.Refusals.{threads_fit, sound, whole}
use Rattle.image.proofs.ShapeLaws.{Shaped, shape_then, agree_is}
use Rattle.machine.specs.Start.{queue_of, start_of, start_answer}
use Rattle.machine.proofs.StartLaws.{queue_in_lem}
use Rattle.lawful.specs.Plain.{queue_in}
use Rattle.model.specs.Core as core
use Rattle.model.specs.Recovery as recovery
use Rattle.model.specs.Demand3.{Fit}
use Rattle.model.proofs.Basics.{le_true, lt_no}
use Rattle.tied.proofs.Images.{ImageT, queue_is}
use Rattle.tied.proofs.Accepted.{startable_yes}
use Rattle.tied.proofs.Schedules.{whole_of}
use Rattle.lawproof.proofs.Walk.{map_among, queue_start}

check_no : (b : Bool) (w rest : Answer) → b ≡ false → accepted rest ≡ true → accepted (check b w rest) ≡ true
check_no b w rest e a = rw e a

module _ (g : Image) (t : ℕ) (G : recovery.Image) (r : ImageT g t G) where
  all_clear : ltb (first_unclear g) g.n ≡ false
  unfolding first_unclear
  all_clear =
      let z = least_none (λ i. ltb 1 (content_at g.nodes i).linked) g.n 0 (λ i a b. lt_no 1 (content_at g.nodes i).linked (r.flag i (omega arith))) in
      lt_no _ g.n (omega (arith, z))

  -- 6, 7, 8 pass it
  is_sound : Fit G → accepted (sound g Taken) ≡ true
  unfolding sound
  is_sound f = check_no (ltb (first_unclear g) g.n) (Linked (first_unclear g)) _ all_clear (ap accepted (startable_yes g t G r f Taken))

  fits : threads_fit t ≡ true
  fits = ap₂ both (le_true 1 t r.sizes.threads_lo) (le_true t 8 r.sizes.threads_hi)

  shaped : Shaped t (image_shape g)
  shaped = record {
    form = r.sizes.form;
    nodes = ap₂ both (le_true 2 g.n r.sizes.nodes_lo) (le_true g.n 64 r.sizes.nodes_hi);
    own = by (per_desk g.form) refl;
    agrees = r.agrees;
  }
    where
      by : (b : Bool) → per_desk g.form ≡ b → pick b (threads_fit g.t) true ≡ true
      by true e = subst (λ u. threads_fit u ≡ true) (sym (agree_is t (image_shape g) r.agrees e)) fits
      by false e = refl

  -- none of 4, 2, 3, 4, 6, 7, 8, 20
  pub starts_accepted : Fit G → accepted (start_answer g t) ≡ true
  unfolding start_answer
  starts_accepted f =
      check_no (not (threads_fit t)) Threads _ (ap not fits)
      (subst (λ a. accepted a ≡ true) (sym (shape_then t (image_shape g) (whole g Taken) shaped))
      (whole_of g (is_sound f) (record { head = r.narrow_head; at = r.narrow })))

  items_is : recovery.items_of G ≡ map (λ i. (content_at g.nodes i).item) (queue_of g)
  unfolding recovery.items_of
  items_is = ap (map (λ i. (G.at i).item)) (queue_is g t G r)
      ∙ map_among (λ i. (G.at i).item) (λ i. (content_at g.nodes i).item) (queue_of g) (λ i h. ap (λ (c : core.Node). c.item) (r.at i (queue_in_lem g t i h).0))

  -- the queue at its start, here and there
  pub queue_shown : Fit G → queue_in (start_of g t) ≡ recovery.items_of G
  queue_shown f = queue_start g t (starts_accepted f) ∙ sym items_is
