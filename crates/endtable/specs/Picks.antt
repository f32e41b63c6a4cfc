-- An ending's number as a choice for each line, and the image picked by it. Counts are those of the lines, line 0 first.
use Rattle.std.specs.Prelude.{ℕ, zero, suc, ◌*◌, ◌/◌, ◌%◌, ◌<◌, ◌≤◌, Bool, true, false, List, [], ◌∷◌, ◌++◌, get_or, set, drop, ltb}
use Rattle.lists.specs.Find.{pick, least}
use Rattle.lists.specs.Tab.{front}
use Rattle.answer.specs.Answers.{check, Answer, Taken, Contents, Endings}
use Rattle.image.specs.Layout.{content_at, no_contents, heads_of}
use Rattle.image.specs.declared.Content.{Content}
use Rattle.image.specs.declared.Image.{Image}
use Rattle.image.specs.declared.Shape.{Shape}
use Rattle.image.specs.Form.{own_threads}
use Rattle.machine.specs.Line.{line_count, number_of}
use Rattle.machine.specs.declared.Line.TheVariants.{OfNode as of_node}
use Rattle.endtable.specs.Opened.{blank_counts}

-- ---- how many

abbrev pub is_crowded : List ℕ → ℕ → Bool
is_crowded cs l = ltb 16 (get_or cs l 0)

-- the first of n lines that has more than 16 contents; n where none has
unfoldable pub crowded_at : List ℕ → ℕ → ℕ
crowded_at cs n = least (is_crowded cs) n 0

-- how many endings the first n lines have
unfoldable pub prod : List ℕ → ℕ → ℕ
prod cs zero = 1
prod cs (suc n) = prod cs n * get_or cs n 0

-- 65,537 stands for every number above 65,536
unfoldable pub capped : ℕ → ℕ
capped x = pick (ltb 65536 x) 65537 x

-- 14, 15
unfoldable pub counts_answer : List ℕ → ℕ → Answer
counts_answer cs n = check (ltb (crowded_at cs n) n) (Contents (crowded_at cs n)) (check (ltb 65536 (prod cs n)) Endings Taken)

-- ---- which

-- each of the first n lines has a content; and at most sixteen
abbrev pub Counted : List ℕ → ℕ → Type 0
Counted cs n = (l : ℕ) → l < n → 0 < get_or cs l 0

abbrev pub Filled : List ℕ → ℕ → Type 0
Filled ps n = (l : ℕ) → l < n → get_or ps l 0 < 16

abbrev pub Ready : List ℕ → ℕ → Type 0
Ready cs n = Counted cs n × ((l : ℕ) → l < n → get_or cs l 0 ≤ 16)

-- the choices of the first n lines in ending k: the last of them turns fastest
unfoldable pub digits : List ℕ → ℕ → ℕ → List ℕ
digits cs zero k = []
digits cs (suc n) k = digits cs n (k / get_or cs n 0) ++ (k % get_or cs n 0 ∷ [])

-- the choices of the ending behind: of the first n lines the last that has a content left takes its next one, and those behind it
-- begin again
unfoldable pub turned_of : List ℕ → ℕ → List ℕ → List ℕ
turned_of cs zero ps = ps
turned_of cs (suc n) ps = elim (ltb (suc (get_or ps n 0)) (get_or cs n 0)) [
  | true ↦ set ps n (suc (get_or ps n 0))
  | false ↦ turned_of cs n (set ps n 0)
]

-- the entry of line l that the picks name
unfoldable pub picked_at : List (List Content) → List ℕ → ℕ → Content
picked_at t ps l = content_at (get_or t l []) (get_or ps l 0)

abbrev pub picked_node : List (List Content) → List ℕ → Shape → ℕ → Content
picked_node t ps z i = picked_at t ps (number_of z (of_node i))

abbrev pub picked_head : List (List Content) → List ℕ → ℕ → ℕ
picked_head t ps k = (picked_at t ps k).index

-- one entry a line, as an image of shape z
unfoldable pub picked_image : List (List Content) → List ℕ → Shape → Image
picked_image t ps z = record {
  form = z.form;
  n = z.n;
  t = own_threads z;
  heads = heads_of z (picked_head t ps);
  nodes = front (picked_node t ps z) z.n no_contents;
}

-- the choices of all lines in ending k, and the ending picked by them
unfoldable pub picks_of : List ℕ → Shape → ℕ → List ℕ
picks_of cs z k = digits cs (line_count z) k ++ drop (line_count z) blank_counts

unfoldable pub ending_from : List (List Content) → List ℕ → Shape → ℕ → Image
ending_from t cs z k = picked_image t (picks_of cs z k) z
