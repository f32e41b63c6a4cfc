-- An enqueue that is still queued stands in the ending's queue, by the index it was linked with.
use Prim.Native.Nat.{ℕ, ◌+◌, ◌-◌, ◌≤◌, ◌<◌}
use mathlib.Core.Path.{◌≡◌, refl, sym, ap, ◌∙◌}
use mathlib.Core.Bool.{true, false}
use mathlib.Core.List.{List, ◌++◌}
use native.Mathlib.Omega.{arith}
use native.Mathlib.Decide.{dec_lt}
use lib.Dec.{eqb}
use lib.ListN.{length, get_or, drop, replicate, get_or-replicate}
use lib.Seq.{get_or-drop, get_or-append-add}
use borrow.Author.Tests.{eqb-true, eq-eqb, ltb-true}
use Rattle.lists.specs.Find.{both}
use Rattle.lists.specs.Tab.{tab, front}
use Rattle.lists.proofs.BoolLaws.{no_way, both_true, both_of}
use Rattle.lists.proofs.TabLaws.{length_tab}
use Rattle.image.specs.Layout.{no_content, no_contents, content_at}
use Rattle.image.specs.Recovered.{head_of, recovered, recovered_at}
use Rattle.image.specs.declared.Content.{Content}
use Rattle.machine.proofs.RisenLaws.{risen_in, risen_all}
use Rattle.machine.proofs.StartLaws as starts
use Rattle.schedule.specs.Layout.{threads_in}
use Rattle.page.specs.Endings.{image_of, ending}
use Rattle.page.specs.Refusals.{ending_in}
use Rattle.lawproof.proofs.Lawful3.{page_lawful}
use Rattle.parcels.specs.Parcel.{is_linked}
use Rattle.parcels.specs.Despatch.{still_queued}
use Rattle.parcels.specs.declared.Parcel.{Parcel}
use Rattle.parcelproof.specs.Queue.{Queues, QueuedThere}

-- nothing stands beyond an ending's nodes
beyond : (f : ℕ → Content) (n : ℕ) (l : List Content) (i : ℕ) → n ≤ i → get_or (front f n l) i no_content ≡ get_or l i no_content
unfolding front
beyond f n l i h =
    ap (λ (k : ℕ). get_or (tab f n ++ drop n l) k no_content) (let z : i ≡ length (tab f n) + (i - n) = omega (arith, length_tab f n) in z)
    ∙ get_or-append-add (tab f n) (drop n l) (i - n) no_content ∙ get_or-drop n l (i - n) no_content ∙ ap (λ (k : ℕ). get_or l k no_content) (let z : n + (i - n) ≡ i = omega arith in z)

blank : (s : List ℕ) (k i : ℕ) → (ending_in s k).n ≤ i → i < 64 → content_at (ending_in s k).nodes i ≡ no_content
unfolding ending_in ending image_of no_contents
blank s k i l h = beyond _ _ (replicate 64 no_content) i l ∙ get_or-replicate 64 i no_content no_content h

none_there : (h : ℕ) → recovered h no_content ≡ false
unfolding recovered
none_there h = refl

pub queues : (s : List ℕ) (k : ℕ) (p : Parcel) → still_queued (ending_in s k) p ≡ true → Queues (ending_in s k) p
queues s k p q =
    let g = ending_in s k in
    let x = both_true (is_linked p) (both (recovered_at g p.node) (eqb (content_at g.nodes p.node).index p.index)) q in
    let y = both_true (recovered_at g p.node) (eqb (content_at g.nodes p.node).index p.index) x.1 in
    record {
      there = risen_all g g.n p.node (inside (dec_lt p.node g.n) (ltb-true p.node 64 x.0) y.0) y.0;
      index = eqb-true (content_at g.nodes p.node).index p.index y.1;
    }
  where
    inside : Dec (p.node < (ending_in s k).n) → p.node < 64 → recovered_at (ending_in s k) p.node ≡ true → p.node < (ending_in s k).n
    inside (yes h) l e = h
    inside (no h) l e = no_way (sym e ∙ ap (recovered (head_of (ending_in s k))) (blank s k p.node (omega arith) l) ∙ none_there (head_of (ending_in s k)))

pub queued_of : (s : List ℕ) (k : ℕ) (p : Parcel) → is_linked p ≡ true → Queues (ending_in s k) p → still_queued (ending_in s k) p ≡ true
queued_of s k p l q =
    let g = ending_in s k in
    both_of (is_linked p) (both (recovered_at g p.node) (eqb (content_at g.nodes p.node).index p.index)) l
    (both_of (recovered_at g p.node) (eqb (content_at g.nodes p.node).index p.index) (risen_in g g.n p.node q.there).1
    (eq-eqb (content_at g.nodes p.node).index p.index q.index))

linked_of : (s : List ℕ) (k : ℕ) (p : Parcel) → still_queued (ending_in s k) p ≡ true → is_linked p ≡ true
linked_of s k p q = let g = ending_in s k in (both_true (is_linked p) (both (recovered_at g p.node) (eqb (content_at g.nodes p.node).index p.index)) q).0

pub queued_there : QueuedThere
queued_there s bytes a k h = (starts.queue_rises (ending_in s k) (threads_in s) (page_lawful s bytes a k h).starts, λ p. ((λ q. (linked_of s k p q, queues s k p q)), (λ q. queued_of s k p q.0 q.1)))
