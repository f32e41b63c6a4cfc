-- The endings, in their order.
use Rattle.std.specs.Prelude.{ℕ, zero, suc, ◌*◌, List, [], ◌∷◌, ◌++◌, map, length, get_or}
use Rattle.lists.specs.Tab.{front}
use Rattle.image.specs.Layout.{no_content, no_contents, content_at, heads_of}
use Rattle.image.specs.declared.Content.{Content}
use Rattle.image.specs.declared.Image.{Image}
use Rattle.image.specs.declared.Shape.{Shape}
use Rattle.image.specs.Form.{own_threads}
use Rattle.machine.specs.Line.{number_of}
use Rattle.machine.specs.declared.Line.TheVariants.{OfHead as of_head, OfNode as of_node}

-- every choice of one content a line: the first line turns slowest, the last fastest, in each the oldest content comes first
unfoldable pub choices : List (List Content) → List (List Content)
choices [] = [] ∷ []
choices (line ∷ rest) = each_of line (choices rest)
  where
    each_of : List Content → List (List Content) → List (List Content)
    each_of [] r = []
    each_of (c ∷ l) r = map (λ z. c ∷ z) r ++ each_of l r

-- how many there are
unfoldable pub product : List (List Content) → ℕ
product [] = 1
product (line ∷ rest) = length line * product rest

-- a choice as an image of shape z: each content where its line is; "endings keep the start image's form"
unfoldable pub image_of : Shape → List Content → Image
image_of z c = record {
  form = z.form;
  n = z.n;
  t = own_threads z;
  heads = heads_of z (λ k. (content_at c (number_of z (of_head k))).index);
  nodes = front (λ i. content_at c (number_of z (of_node i))) z.n no_contents;
}

-- the endings, numbered from 0
unfoldable pub endings : Shape → List (List Content) → List Image
endings z table = map (image_of z) (choices table)

-- ending number k
unfoldable pub ending : Shape → List (List Content) → ℕ → Image
ending z table k = image_of z (get_or (choices table) k [])
