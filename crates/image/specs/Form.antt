-- The form of an image, one byte: 1 is "UQI" version 1, 2 "UQI" version 2, 3 "UQI" version 3, 4 "UQP" version 1.
-- Width, largest index, head lines and sizes follow from it.
use Rattle.std.specs.Prelude.{ℕ, ◌+◌, ◌-◌, ◌*◌, ◌^◌, Bool, true, List, [], ◌∷◌, get_or, eqb}
use Rattle.lists.specs.Find.{pick}
use Rattle.image.specs.declared.Shape.{Shape}

pub data Form : Type 0 where
  plain wide pair desks : Form

abbrev pub form_of : ℕ → Form
form_of f = get_or (plain ∷ plain ∷ wide ∷ pair ∷ desks ∷ []) f plain

-- the forms that are read and written
unfoldable pub known : ℕ → Bool
known f = pick (eqb f 1) true (pick (eqb f 2) true (eqb f 4))

-- "Image version 2 has 64-bit indices": the bytes of an index
abbrev pub width : Form → ℕ
width plain = 4
width wide = 8
width pair = 8
width desks = 4

-- "mark "UQI"", #101: "mark "UQP"": the third letter; and the version
abbrev pub letter : Form → ℕ
letter plain = 73
letter wide = 73
letter pair = 73
letter desks = 80

abbrev pub version : Form → ℕ
version plain = 1
version wide = 2
version pair = 3
version desks = 1

-- "Line 0 is Head"; #101: "each thread has an index line": how many head lines there are, with T threads
abbrev pub head_count : Form → ℕ → ℕ
head_count plain t = 1
head_count wide t = 1
head_count pair t = 2
head_count desks t = t

-- T as the image holds it: in "UQP" alone; and its bytes
abbrev pub held_threads : Form → ℕ → ℕ
held_threads plain t = 0
held_threads wide t = 0
held_threads pair t = 0
held_threads desks t = t

abbrev pub thread_bytes : Form → ℕ → List ℕ
thread_bytes plain t = []
thread_bytes wide t = []
thread_bytes pair t = []
thread_bytes desks t = t ∷ []

-- where the indices of the head lines begin: behind the mark, the version and N, in "UQP" also T
abbrev pub heads_place : Form → ℕ
heads_place plain = 6
heads_place wide = 6
heads_place pair = 6
heads_place desks = 7

-- a node's bytes beside its index: linked and item, in version 3 also the queue
abbrev pub besides : Form → ℕ
besides plain = 5
besides wide = 5
besides pair = 6
besides desks = 5

-- ---- by the form's number

unfoldable pub width_of : ℕ → ℕ
width_of f = width (form_of f)

-- the largest index
unfoldable pub top_of : ℕ → ℕ
top_of f = 256 ^ width_of f - 1

unfoldable pub heads_at : ℕ → ℕ
heads_at f = heads_place (form_of f)

unfoldable pub node_size : ℕ → ℕ
node_size f = besides (form_of f) + width_of f

-- ---- by the shape of an image or of a machine: its form, N and T

unfoldable pub head_lines : Shape → ℕ
head_lines z = head_count (form_of z.form) z.t

-- T as an image of this shape holds it
unfoldable pub own_threads : Shape → ℕ
own_threads z = held_threads (form_of z.form) z.t

-- the bytes in front of the nodes
unfoldable pub header_size : Shape → ℕ
header_size z = heads_at z.form + head_lines z * width_of z.form

-- where node i begins; where an image of N nodes ends
unfoldable pub node_place : Shape → ℕ → ℕ
node_place z i = header_size z + i * node_size z.form

unfoldable pub image_size : Shape → ℕ
image_size z = node_place z z.n

-- #101: "Head is a node number only; each thread has an index line"
unfoldable pub per_desk : ℕ → Bool
per_desk f = eqb f 4
