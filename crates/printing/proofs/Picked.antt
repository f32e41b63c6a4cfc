-- An ending's line from the nodes that a loop picked.
use Prim.Native.Nat.{ℕ, ◌+◌, ◌≤◌, ◌<◌}
use mathlib.Core.Path.{◌≡◌, sym, ap, ap₂, subst, ◌∙◌}
use mathlib.Core.List.{List, ◌++◌}
use mathlib.Core.Logic.{◌⊎◌, inl, inr}
use native.Mathlib.Omega.{arith}
use native.Mathlib.Nat.{eq-or-lt_of_le}
use lib.ListN.{length, get_or, drop, length-append}
use Rattle.lists.specs.Text.{text, decimal}
use Rattle.lists.specs.Tab.{front}
use Rattle.image.specs.Layout.{no_contents, no_heads, heads_of}
use Rattle.image.specs.Form.{Form, plain, wide, pair, desks, form_of, head_count, held_threads, head_lines, own_threads}
use Rattle.image.specs.declared.Shape.{Shape}
use Rattle.image.specs.Recovered.{head_of}
use Rattle.image.specs.declared.Content.{Content}
use Rattle.image.specs.declared.Image.{Image}
use Rattle.machine.specs.Line.{line_count}
use Rattle.page.specs.Printed.{ending_line, items_text, items_of, newline}
use Rattle.endtable.specs.Opened.{blank_counts}
use Rattle.endtable.specs.Picks.{picks_of, picked_node, picked_head, picked_image, ending_from, Ready}
use Rattle.endtable.proofs.Digits as digits
use Rattle.printing.specs.Lines.{line_from}

-- no line is empty
pub line_some : (k : ℕ) (g : Image) → 0 < length (ending_line k g)
unfolding ending_line
line_some k g = omega (arith, length-append (decimal k ++ text " " ++ decimal (head_of g) ++ items_text (items_of g)) newline)

-- every choice is one of the sixteen
pub picks_filled : (cs : List ℕ) (z : Shape) (k : ℕ) (ps : List ℕ) → Ready cs (line_count z) → ps ≡ picks_of cs z k → (l : ℕ) → l < line_count z → get_or ps l 0 < 16
unfolding picks_of
picks_filled cs z k ps r e l h =
    subst (λ ps. get_or ps l 0 < 16) (sym e) (digits.digits_front cs (line_count z) k (drop (line_count z) blank_counts) r l h)

abbrev made : Shape → ℕ → List ℕ → List Content → Image
made z t x y = record { form = z.form; n = z.n; t = t; heads = x; nodes = y }

pub picked_line : (t : List (List Content)) (cs : List ℕ) (z : Shape) (k : ℕ) (ps : List ℕ) (nodes : List Content) (i : ℕ) (heads : List ℕ) (h own : ℕ)
    → i ≡ z.n → nodes ≡ front (picked_node t ps z) i no_contents → h ≡ head_lines z → heads ≡ front (picked_head t ps) h no_heads → own ≡ own_threads z → ps ≡ picks_of cs z k
    → ending_line k (record { form = z.form; n = z.n; t = own; heads = heads; nodes = nodes }) ≡ line_from t cs z k
unfolding line_from ending_from picked_image heads_of
picked_line t cs z k ps nodes i heads h own e f d u w g =
    ap (λ x. ending_line k (made z x heads nodes)) w
    ∙ ap₂ (λ x y. ending_line k (made z (own_threads z) x y)) (u ∙ ap (λ l. front (picked_head t ps) l no_heads) d) (f ∙ ap (λ i. front (picked_node t ps z) i no_contents) e)
    ∙ ap (λ ps. ending_line k (made z (own_threads z) (front (picked_head t ps) (head_lines z) no_heads) (front (picked_node t ps z) z.n no_contents))) g

-- a picked ending has as many head lines as its shape
pub own_lines : (z : Shape) (own : ℕ) → own ≡ own_threads z → head_lines z ≤ 8 → head_lines (record { form = z.form; n = z.n; t = own }) ≤ 8
unfolding head_lines own_threads
own_lines z own e h = subst (λ x. head_count (form_of z.form) x ≤ 8) (sym e) (by (form_of z.form) h)
  where
    by : (f : Form) → head_count f z.t ≤ 8 → head_count f (held_threads f z.t) ≤ 8
    by plain h = h
    by wide h = h
    by pair h = h
    by desks h = h

-- what is known of the first line once it was written stays known
pub first_known : (P : ℕ → Type 0) (from k : ℕ) → (from < k → P from) → from ≤ k → P k → from < k + 1 → P from
first_known P from k h l p q = by (eq-or-lt_of_le l)
  where
    by : (from ≡ k) ⊎ (from < k) → P from
    by (inl e) = subst P (sym e) p
    by (inr m) = h m
