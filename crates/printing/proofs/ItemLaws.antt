-- The items of a queue that stands in the first places of a table.
use Prim.Native.Nat.{ℕ, ◌+◌, ◌≤◌, ◌<◌}
use mathlib.Core.Path.{◌≡◌, refl, sym, ap, ap₂, subst, ◌∙◌}
use mathlib.Core.List.{List, ◌++◌, map}
use native.Mathlib.Omega.{arith}
use lib.ListN.{length, get_or, set, take, drop, length-map, get_or-map, get_or-append}
use lib.Seq.{ext_get_or, take-append_seam}
use Rattle.lists.specs.Tab.{tab, front}
use Rattle.lists.proofs.TabLaws as tabs
use Rattle.image.specs.declared.Image.{Image}
use Rattle.image.specs.Layout.{content_at, image_shape}
use Rattle.image.specs.Form.{head_lines}
use Rattle.image.specs.Recovered.{largest, head_of}
use Rattle.image.proofs.HeadLaws.{head_is}
use Rattle.machine.specs.declared.queue.Queue.{Queue}
use Rattle.machine.specs.Start.{queue_of}
use Rattle.machine.specs.Laid.{zeros, laid}
use Rattle.machine.proofs.QueueLaws as queues
use Rattle.page.specs.Printed.{items_of, ending_line}
use Rattle.printing.specs.Lines.{listed, line_text}
use Rattle.printing.specs.declared.items.Items.{Items}

-- the item of the node at place j of a table
unfoldable pub item_at : Image → List ℕ → ℕ → ℕ
item_at g at j = (content_at g.nodes (get_or at j 0)).item

-- the first p places of a table are the items of the nodes there
unfoldable pub filled : Image → List ℕ → ℕ → List ℕ
filled g at p = front (item_at g at) p zeros

pub filled_none : (g : Image) (at : List ℕ) → zeros ≡ filled g at 0
unfolding filled front tab
filled_none g at = refl

pub filled_next : (g : Image) (at : List ℕ) (p : ℕ) → p < 64 → set (filled g at p) p (content_at g.nodes (get_or at p 0)).item ≡ filled g at (p + 1)
unfolding filled front item_at zeros
filled_next g at p h = tabs.tab_set (item_at g at) p zeros h

-- ---- the queue's table

pub within : (g : Image) (q : Queue) → g.n ≤ 64 → q ≡ laid (queue_of g) → (p : ℕ) → p < q.count → get_or q.at p 0 < 64
within g q h e p l = subst (λ q. p < q.count → get_or q.at p 0 < 64) (sym e) (queues.risen_within g g.n h p) l

pub few : (g : Image) (q : Queue) → g.n ≤ 64 → q ≡ laid (queue_of g) → q.count ≤ 64
few g q h e = omega (arith, ap (λ q. q.count) e, queues.laid_count (queue_of g), queues.length_risen g g.n)

tab_map : (f : ℕ → ℕ) (l : List ℕ) → tab (λ j. f (get_or l j 0)) (length l) ≡ map f l
tab_map f l =
    ext_get_or (f 0) (tab (λ j. f (get_or l j 0)) (length l)) (map f l)
    (tabs.length_tab (λ j. f (get_or l j 0)) (length l) ∙ sym (length-map l f))
    (λ i h. tabs.get_or_tab (λ j. f (get_or l j 0)) (length l) i (f 0) (subst (λ n. i < n) (tabs.length_tab (λ j. f (get_or l j 0)) (length l)) h) ∙ sym (get_or-map f l i 0))

items_tab : (g : Image) → tab (item_at g (laid (queue_of g)).at) (length (queue_of g)) ≡ items_of g
unfolding item_at laid items_of
items_tab g =
    tabs.tab_same (item_at g (laid (queue_of g)).at) (λ j. (content_at g.nodes (get_or (queue_of g) j 0)).item) (length (queue_of g))
    (λ i h. ap (λ k. (content_at g.nodes k).item) (get_or-append (queue_of g) (drop (length (queue_of g)) zeros) 0 i h))
    ∙ tab_map (λ i. (content_at g.nodes i).item) (queue_of g)

length_items : (g : Image) → length (items_of g) ≡ length (queue_of g)
unfolding items_of
length_items g = length-map (queue_of g) (λ i. (content_at g.nodes i).item)

filled_laid : (g : Image) → filled g (laid (queue_of g)).at (length (queue_of g)) ≡ items_of g ++ drop (length (items_of g)) zeros
unfolding filled front
filled_laid g = ap₂ (λ (l : List ℕ) (n : ℕ). l ++ drop n zeros) (items_tab g) (sym (length_items g))

abbrev items : ℕ → List ℕ → Items
items n l = record { count = n; items = l }

pub filled_end : (g : Image) (q : Queue) (l : List ℕ) (p : ℕ) → q ≡ laid (queue_of g) → l ≡ filled g q.at p → p ≡ q.count
    → ◌≡◌ {A = Items} (record { count = q.count; items = l }) (listed (items_of g))
unfolding listed
filled_end g q l p e f c =
    let n = ap (λ q. q.count) e ∙ queues.laid_count (queue_of g) in
    ap₂ items (n ∙ sym (length_items g))
    (f ∙ ap₂ (filled g) (ap (λ q. q.at) e) (c ∙ n) ∙ filled_laid g)

-- ---- what the table holds

pub listed_take : (l : List ℕ) → take (listed l).count (listed l).items ≡ l
unfolding listed
listed_take l = take-append_seam l (drop (length l) zeros)

pub listed_count : (g : Image) → (listed (items_of g)).count ≤ g.n
unfolding listed
listed_count g = omega (arith, length_items g, queues.length_risen g g.n)

pub ending_line_lem : (k : ℕ) (g : Image) (h : ℕ) (i : Items) → h ≡ largest g.heads (head_lines (image_shape g)) → i ≡ listed (items_of g) → line_text k h (take i.count i.items) ≡ ending_line k g
unfolding line_text ending_line
ending_line_lem k g h i z e =
    ap (λ (x : ℕ). line_text k x (take i.count i.items)) (z ∙ head_is g)
    ∙ ap (line_text k (head_of g)) (ap (λ i. take i.count i.items) e ∙ listed_take (items_of g))

pub few_items : (g : Image) (i : Items) → g.n ≤ 64 → i ≡ listed (items_of g) → i.count ≤ 64
few_items g i h e = omega (arith, ap (λ i. i.count) e, listed_count g)

pub items_few : (g : Image) → length (items_of g) ≤ g.n
items_few g = omega (arith, length_items g, queues.length_risen g g.n)
