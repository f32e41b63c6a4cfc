-- How long the printed lines are at most.
use Prim.Native.Nat.{ℕ, zero, suc, ◌+◌, ◌*◌, ◌/◌, ◌^◌, ◌≤◌, ◌<◌}
use mathlib.Core.Path.{◌≡◌, ap, subst, ◌∙◌}
use mathlib.Core.List.{List, [], ◌∷◌, ◌++◌, map}
use native.Mathlib.Omega.{arith}
use native.Mathlib.Decide.{dec_lt}
use native.Mathlib.Nat.{pow-suc}
use lib.ListN.{length, get_or, take, length-append}
use Rattle.lists.specs.Text.{text, decimal}
use Rattle.std.specs.Prelude.{Ok, Err}
use Rattle.answer.specs.declared.Reply.TheVariants as reply
use Rattle.answer.specs.declared.Refusal.TheVariants as why
use Rattle.answer.specs.Answers.{told, Answer}
use Rattle.image.specs.declared.Image.{Image}
use Rattle.image.specs.Layout.{content_at}
use Rattle.image.specs.Recovered.{head_of}
use Rattle.machine.specs.Start.{queue_of}
use Rattle.page.specs.Printed.{spaced, items_text, items_of, newline, first_line, ending_line, refused_line}
use Rattle.printing.specs.Lines.{line_text, refused_text, listed}
use Rattle.printing.specs.declared.items.Items.{Items}
use Rattle.printing.specs.Bounds.{line_room, first_room, refused_room, AllSmall}
use Rattle.printing.proofs.Decimal as decimals
use Rattle.printing.proofs.ItemLaws as items

-- a number below 10 ^ k has at most k digits
pub decimal_short : (k n : ℕ) → n < 10 ^ k → 0 < k → length (decimal n) ≤ k
decimal_short zero n h p = absurd (omega arith)
decimal_short (suc zero) n h p = omega (arith, decimals.length_one n h)
decimal_short (suc (suc k)) n h p = by (dec_lt n 10) (decimal_short (suc k) (n / 10) (omega (arith, pow-suc 10 (suc k))) (omega arith))
  where
    by : Dec (n < 10) → length (decimal (n / 10)) ≤ suc k → length (decimal n) ≤ suc (suc k)
    by (yes l) r = omega (arith, decimals.length_one n l)
    by (no l) r = omega (arith, decimals.length_more n (omega arith))

small : (n : ℕ) → n < 4294967296 → length (decimal n) ≤ 10
small n h = decimal_short 10 n (omega arith) (omega arith)

-- a number of 64 bits
large : (n : ℕ) → n < 18446744073709551616 → length (decimal n) ≤ 20
large n h = decimal_short 20 n (omega arith) (omega arith)

-- ---- items

spaced_cons : (v : ℕ) (l : List ℕ) → length (spaced (v ∷ l)) ≡ 1 + length (decimal v) + length (spaced l)
unfolding spaced text
spaced_cons v l = ap suc (length-append (decimal v) (spaced l)) ∙ omega arith

pub spaced_short : (c : ℕ) (l : List ℕ) → AllSmall l → length l ≤ c → length (spaced l) ≤ c * 11
unfolding spaced
spaced_short c [] s h = omega arith
spaced_short zero (v ∷ l) s h = absurd (omega arith)
spaced_short (suc c) (v ∷ l) s h = omega (arith, spaced_cons v l, small v s.0, spaced_short c l s.1 (omega arith))

pub items_short : (c : ℕ) (l : List ℕ) → 0 < c → AllSmall l → length l ≤ c → length (items_text l) ≤ c * 11
unfolding text
items_short c [] p s h = omega arith
items_short c (v ∷ l) p s h = spaced_short c (v ∷ l) s h

map_small : (f : ℕ → ℕ) → ((i : ℕ) → f i < 4294967296) → (l : List ℕ) → AllSmall (map f l)
map_small f h [] = tt
map_small f h (i ∷ l) = (h i, map_small f h l)

pub items_small : (g : Image) → ((i : ℕ) → (content_at g.nodes i).item < 4294967296) → AllSmall (items_of g)
unfolding items_of
items_small g h = map_small (λ i. (content_at g.nodes i).item) h (queue_of g)

get_or_small : (l : List ℕ) → ((i : ℕ) → get_or l i 0 < 4294967296) → AllSmall l
get_or_small [] h = tt
get_or_small (v ∷ l) h = (h 0, get_or_small l (λ i. h (suc i)))

take_small : (c : ℕ) (l : List ℕ) → AllSmall l → AllSmall (take c l)
take_small zero l s = tt
take_small (suc c) [] s = tt
take_small (suc c) (v ∷ l) s = (s.0, take_small c l s.1)

-- where the table of items holds them, its numbers of 32 bits are theirs
pub listed_small : (l : List ℕ) (i : Items) → i ≡ listed l → ((j : ℕ) → get_or i.items j 0 < 4294967296) → AllSmall l
listed_small l i e h =
    subst AllSmall (ap (λ i. take i.count i.items) e ∙ items.listed_take l)
    (take_small i.count i.items (get_or_small i.items h))

-- ---- lines

pub line_short : (c k h : ℕ) (l : List ℕ) → 0 < c → k < 65536 → h < 18446744073709551616 → AllSmall l → length l ≤ c
    → length (line_text k h l) ≤ line_room c
unfolding line_text text
line_short c k h l p q r s n =
    omega (
      arith,
      length-append (decimal k ++ text " " ++ decimal h ++ items_text l) newline,
      length-append (decimal k ++ text " " ++ decimal h) (items_text l),
      length-append (decimal k ++ text " ") (decimal h),
      length-append (decimal k) (text " "),
      decimal_short 5 k (omega arith) (omega arith),
      large h r,
      items_short c l p s n,
    )

pub ending_short : (c k : ℕ) (g : Image) → 0 < c → k < 65536 → head_of g < 18446744073709551616 → AllSmall (items_of g)
    → length (items_of g) ≤ c → length (ending_line k g) ≤ line_room c
unfolding line_text ending_line
ending_short c k g p q h s n = line_short c k (head_of g) (items_of g) p q h s n

-- every image of at most c nodes
pub image_short : (c k : ℕ) (g : Image) → 0 < c → k < 65536 → head_of g < 18446744073709551616 → AllSmall (items_of g)
    → g.n ≤ c → length (ending_line k g) ≤ line_room c
image_short c k g p q h s n = ending_short c k g p q h s (omega (arith, items.items_few g))

pub first_short : (t n events count : ℕ) → t < 10 → n < 100 → events < 10000 → count < 100000
    → length (first_line t n events count) ≤ first_room
unfolding first_line text
first_short t n events count p q r s =
    let a = text "UQS 1 threads " ++ decimal t in
    let b = a ++ text " nodes " ++ decimal n in
    let d = b ++ text " events " ++ decimal events in
    let e = d ++ text " endings " ++ decimal count in
    omega (
      arith,
      length-append e newline,
      length-append (d ++ text " endings ") (decimal count),
      length-append d (text " endings "),
      length-append (b ++ text " events ") (decimal events),
      length-append b (text " events "),
      length-append (a ++ text " nodes ") (decimal n),
      length-append a (text " nodes "),
      length-append (text "UQS 1 threads ") (decimal t),
      decimal_short 1 t (omega arith) (omega arith),
      decimal_short 2 n (omega arith) (omega arith),
      decimal_short 4 events (omega arith) (omega arith),
      decimal_short 5 count (omega arith) (omega arith),
    )

-- a refusal's line whose number has at most d digits
refused_digits : (d n p : ℕ) → length (decimal n) ≤ d → p < 4294967296 → length (refused_text n p) ≤ 8 + d + 4 + 10 + 1
unfolding refused_text text
refused_digits d n p q r =
    let a = text "refused " ++ decimal n in
    omega (
      arith,
      length-append (a ++ text " at " ++ decimal p) newline,
      length-append (a ++ text " at ") (decimal p),
      length-append a (text " at "),
      length-append (text "refused ") (decimal n),
      small p r,
    )

pub refused_short : (n p : ℕ) → n < 100 → p < 4294967296 → length (refused_text n p) ≤ refused_room
refused_short n p q r = refused_digits 2 n p (decimal_short 2 n (omega arith) (omega arith)) r

pub refused_wide : (n p : ℕ) → n < 4294967296 → p < 4294967296 → length (refused_text n p) ≤ 33
refused_wide n p q r = refused_digits 10 n p (small n q) r

pub refused_some : (n p : ℕ) → 0 < length (refused_text n p)
unfolding refused_text
refused_some n p = omega (arith, length-append (text "refused " ++ decimal n ++ text " at " ++ decimal p) newline)

-- the numbers are 0 to 20
pub number_small : (a : Answer) → (told a).number < 21
number_small (Ok reply.Taken) = omega arith
number_small (Ok reply.Done) = omega arith
number_small (Ok reply.Full) = omega arith
number_small (Ok reply.WornOut) = omega arith
number_small (Ok (reply.Item v)) = omega arith
number_small (Ok reply.Empty) = omega arith
number_small (Err why.Length) = omega arith
number_small (Err why.Mark) = omega arith
number_small (Err why.Nodes) = omega arith
number_small (Err why.Threads) = omega arith
number_small (Err why.Events) = omega arith
number_small (Err (why.Linked i)) = omega arith
number_small (Err (why.Twin i)) = omega arith
number_small (Err why.NoDummy) = omega arith
number_small (Err (why.Kind p)) = omega arith
number_small (Err (why.Number p)) = omega arith
number_small (Err (why.Busy p)) = omega arith
number_small (Err (why.Idle p)) = omega arith
number_small (Err (why.NotZero p)) = omega arith
number_small (Err (why.Contents l)) = omega arith
number_small (Err why.Endings) = omega arith
number_small (Err why.NoEnding) = omega arith
number_small (Err why.Room) = omega arith
number_small (Err why.Record) = omega arith
number_small (Err (why.Clean p)) = omega arith
number_small (Err (why.Narrow p)) = omega arith

pub answer_short : (a : Answer) → (told a).place < 4294967296 → length (refused_line a) ≤ refused_room
unfolding refused_line refused_text
answer_short a h = refused_short (told a).number (told a).place (omega (arith, number_small a)) h
