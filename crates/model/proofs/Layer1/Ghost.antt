-- The ghost state of the first layer, and its invariant: the log of all nodes ever linked, who has each node, what each thread refers to.
use mathlib.Core.Path.{◌≡◌}
use mathlib.Core.Bool.{Bool, true, false}
use mathlib.Core.List.{List, []}
use mathlib.Core.Logic.{◌≢◌}
use mathlib.Core.Option.{Option, none, some}
use Prim.Native.Nat.{ℕ, suc, pred, ◌≤◌, ◌<◌}
use Rattle.model.specs.Basics.{has}
use Rattle.model.specs.Core.{elsewhere, a10f, d3f, d6f}
use Rattle.model.specs.Core.{Th, Core, Node, busy, idle, a1, a2, a3, a4, a5, a6, a7, a8, a9, a10, a11, a12, d1, d2, d3, d4, d5, d6, d7, s3, s6}
use Rattle.model.specs.Places.{owns_e, owns_d}

-- where a node is; q is its place in the log. lent: it is with another queue over the same table; lentW: it waits, retired there
pub data Place : Type 0 where
  queue waiting : (q : ℕ) → Place
  deqd kept : (t q : ℕ) → Place
  enqd : (t : ℕ) → Place
  spare off lent lent_w : Place

abbrev pub pos_of : Place → Option ℕ
pos_of (queue q) = some q
pos_of (waiting q) = some q
pos_of (deqd t q) = some q
pos_of (kept t q) = some q
pos_of (enqd t) = none
pos_of spare = none
pos_of off = none
pos_of lent = none
pos_of lent_w = none

-- the log: who and idx at each place below len. hp is Head's place, tp Tail's.
-- base: no reference of the thread's operation is older
pub record Gh : Type 0 where
  pub len : ℕ
  pub hp : ℕ
  pub tp : ℕ
  pub who : ℕ → ℕ
  pub idx : ℕ → ℕ
  pub own : ℕ → Place
  pub base : ℕ → ℕ

-- x is the node at a place from b on, below l, and Tail has come as far
pub record Ref (who : ℕ → ℕ) (b tp l x : ℕ) : Type 0 where
  pub pos : ℕ
  pub is : who pos ≡ x
  pub lo : b ≤ pos
  pub hi : pos < l
  pub old : pos ≤ tp

-- and y the one behind it
pub record Lnk (who : ℕ → ℕ) (b l x y : ℕ) : Type 0 where
  pub pos : ℕ
  pub is : who pos ≡ x
  pub lo : b ≤ pos
  pub hi : suc pos < l
  pub then : who (suc pos) ≡ y

pub record Hd (who idx : ℕ → ℕ) (b hp h i : ℕ) : Type 0 where
  pub pos : ℕ
  pub is : who pos ≡ h
  pub ix : idx pos ≡ i
  pub lo : b ≤ pos
  pub hi : pos ≤ hp

pub record Hd2 (who idx : ℕ → ℕ) (b hp l h i x : ℕ) : Type 0 where
  pub at : Hd who idx b hp h i
  pub more : suc at.pos < l
  pub then : who (suc at.pos) ≡ x

-- what a thread's references are
abbrev pub Refs : (who idx : ℕ → ℕ) (b hp tp l : ℕ) → Th → Type 0
Refs who idx b hp tp l idle = Unit {0}
Refs who idx b hp tp l (a1 v) = Unit {0}
Refs who idx b hp tp l (a2 v n) = Unit {0}
Refs who idx b hp tp l (a3 v n) = Unit {0}
Refs who idx b hp tp l (a4 v n) = Unit {0}
Refs who idx b hp tp l (a5 v n) = Unit {0}
Refs who idx b hp tp l (a6 v n x) = Ref who b tp l x
Refs who idx b hp tp l (a7 v n x) = Ref who b tp l x
Refs who idx b hp tp l (a8 v n x) = Ref who b tp l x
Refs who idx b hp tp l (a9 v n x) = Lnk who b l x n
Refs who idx b hp tp l (a10 v n x) = Lnk who b l x n
Refs who idx b hp tp l (a10f v n x) = Lnk who b l x n
Refs who idx b hp tp l (a11 v n x) = Lnk who b l x n
Refs who idx b hp tp l (a12 v n x) = (y : ℕ) × Lnk who b l x y
Refs who idx b hp tp l d1 = Unit {0}
Refs who idx b hp tp l elsewhere = Unit {0}
Refs who idx b hp tp l (d2 h i) = Hd who idx b hp h i
Refs who idx b hp tp l (d3 h i) = Hd who idx b hp h i
Refs who idx b hp tp l (d3f h i) = Hd who idx b hp h i
Refs who idx b hp tp l (s3 h i) = Hd who idx b hp h i
Refs who idx b hp tp l (d4 h i x) = Hd2 who idx b hp l h i x
Refs who idx b hp tp l (d5 h x) = Unit {0}
Refs who idx b hp tp l (d6 h v) = Unit {0}
Refs who idx b hp tp l (d6f h v) = Unit {0}
Refs who idx b hp tp l (s6 h x v) = Unit {0}
Refs who idx b hp tp l (d7 h v) = Unit {0}

-- what an enqueue knows of its own node
abbrev pub Mine : (ix : ℕ → ℕ) (next : ℕ → Option ℕ) → Th → Type 0
Mine ix next idle = Unit {0}
Mine ix next (a1 v) = Unit {0}
Mine ix next (a2 v n) = Unit {0}
Mine ix next (a3 v n) = Unit {0}
Mine ix next (a4 v n) = next n ≡ none
Mine ix next (a5 v n) = next n ≡ none
Mine ix next (a6 v n x) = next n ≡ none
Mine ix next (a7 v n x) = next n ≡ none
Mine ix next (a8 v n x) = (next n ≡ none) × (ix n ≡ suc (ix x))
Mine ix next (a9 v n x) = Unit {0}
Mine ix next (a10 v n x) = Unit {0}
Mine ix next (a10f v n x) = Unit {0}
Mine ix next (a11 v n x) = Unit {0}
Mine ix next (a12 v n x) = next n ≡ none
Mine ix next d1 = Unit {0}
Mine ix next elsewhere = Unit {0}
Mine ix next (d2 h i) = Unit {0}
Mine ix next (d3 h i) = Unit {0}
Mine ix next (d3f h i) = Unit {0}
Mine ix next (s3 h i) = Unit {0}
Mine ix next (d4 h i x) = Unit {0}
Mine ix next (d5 h x) = Unit {0}
Mine ix next (d6 h v) = Unit {0}
Mine ix next (d6f h v) = Unit {0}
Mine ix next (s6 h x v) = Unit {0}
Mine ix next (d7 h v) = Unit {0}

-- ---- what is so of a node, by its place

abbrev pub Marks : Bool → List ℕ → Place → Type 0
Marks f w (queue q) = (f ≡ false) × (w ≡ [])
Marks f w (waiting q) = (f ≡ false) × (w ≢ [])
Marks f w (deqd t q) = (f ≡ false) × (w ≡ [])
Marks f w (kept t q) = (f ≡ false) × (w ≡ [])
Marks f w (enqd t) = (f ≡ false) × (w ≡ [])
Marks f w spare = (f ≡ true) × (w ≡ [])
Marks f w off = (f ≡ false) × (w ≡ [])
Marks f w lent = (f ≡ false) × (w ≡ [])
Marks f w lent_w = (f ≡ false) × (w ≢ [])

abbrev pub Spot : (who : ℕ → ℕ) (hp l n : ℕ) → Place → Type 0
Spot who hp l n (queue q) = (who q ≡ n) × (hp ≤ q) × (q < l)
Spot who hp l n (waiting q) = (who q ≡ n) × (suc (suc q) ≤ hp) × (q < l)
Spot who hp l n (deqd t q) = (who q ≡ n) × (q < hp) × (q < l)
Spot who hp l n (kept t q) = (who q ≡ n) × (q < hp) × (q < l)
Spot who hp l n (enqd t) = Unit {0}
Spot who hp l n spare = Unit {0}
Spot who hp l n off = Unit {0}
Spot who hp l n lent = Unit {0}
Spot who hp l n lent_w = Unit {0}

-- who has it
abbrev pub Holder : (held oe od : ℕ → Option ℕ) (n : ℕ) → Place → Type 0
Holder held oe od n (queue q) = Unit {0}
Holder held oe od n (waiting q) = Unit {0}
Holder held oe od n (deqd t q) = od t ≡ some n
Holder held oe od n (kept t q) = held t ≡ some n
Holder held oe od n (enqd t) = oe t ≡ some n
Holder held oe od n spare = Unit {0}
Holder held oe od n off = Unit {0}
Holder held oe od n lent = Unit {0}
Holder held oe od n lent_w = Unit {0}

abbrev pub Awaits : (bz : ℕ → Bool) (base : ℕ → ℕ) → List ℕ → Place → Type 0
Awaits bz base w (queue q) = Unit {0}
Awaits bz base w (waiting q) = (t : ℕ) → bz t ≡ true → base t ≤ q → has t w
Awaits bz base w (deqd t q) = Unit {0}
Awaits bz base w (kept t q) = Unit {0}
Awaits bz base w (enqd t) = Unit {0}
Awaits bz base w spare = Unit {0}
Awaits bz base w off = Unit {0}
Awaits bz base w lent = Unit {0}
Awaits bz base w lent_w = Unit {0}

-- the place q of the log is the last at which its node stands
abbrev pub Live : (who : ℕ → ℕ) (pos : ℕ → Option ℕ) (q : ℕ) → Type 0
Live who pos q = pos (who q) ≡ some q

abbrev pub poss : (ℕ → Place) → ℕ → Option ℕ
poss own n = pos_of (own n)

-- ---- the invariant, in groups. A group names what it depends on, so a step that leaves that alone keeps the group

pub record LogI (len hp tp : ℕ) (who idx : ℕ → ℕ) (hnode hidx tail : ℕ) : Type 0 where
  pub rising : (p q : ℕ) → p < q → q < len → idx p < idx q
  pub hp_in : hp < len
  pub head_at : hnode ≡ who hp
  pub head_ix : hidx ≡ idx hp
  pub tail_at : tail ≡ who tp
  pub tail_in : tp < len
  pub tail_near : len ≤ suc (suc tp)

pub record PlaceI (len hp : ℕ) (who : ℕ → ℕ) (own : ℕ → Place)
    (free : ℕ → Bool) (wait : ℕ → List ℕ) (held oe od : ℕ → Option ℕ) : Type 0 where
  pub queued : (q : ℕ) → hp ≤ q → q < len → own (who q) ≡ queue q
  pub marks : (n : ℕ) → Marks (free n) (wait n) (own n)
  pub spot : (n : ℕ) → Spot who hp len n (own n)
  pub holder : (n : ℕ) → Holder held oe od n (own n)
  pub enq_own : (t n : ℕ) → oe t ≡ some n → own n ≡ enqd t
  pub deq_own : (t n : ℕ) → od t ≡ some n → (q : ℕ) × (own n ≡ deqd t q)
  pub held_own : (t n : ℕ) → held t ≡ some n → (q : ℕ) × (own n ≡ kept t q)
  pub apart : (t n n' q q' : ℕ) → own n ≡ kept t q → own n' ≡ deqd t q' → q < q'

pub record LinkI (len : ℕ) (who idx : ℕ → ℕ) (pos : ℕ → Option ℕ)
    (next : ℕ → Option ℕ) (ix : ℕ → ℕ) : Type 0 where
  pub links : (q : ℕ) → Live who pos q → suc q < len → next (who q) ≡ some (who (suc q))
  pub last : (q : ℕ) → Live who pos q → suc q ≡ len → next (who q) ≡ none
  pub indices : (q : ℕ) → Live who pos q → ix (who q) ≡ idx q

pub record LiveI (len hp : ℕ) (who : ℕ → ℕ) (pos : ℕ → Option ℕ)
    (base : ℕ → ℕ) (threads : ℕ) (bz : ℕ → Bool) : Type 0 where
  pub live : (t : ℕ) → bz t ≡ true → (q : ℕ) → base t ≤ q → q < len → Live who pos q
  pub base_lo : (t : ℕ) → bz t ≡ true → base t ≤ pred hp
  pub range : (t : ℕ) → bz t ≡ true → t < threads
  pub prev : (q : ℕ) → suc q ≡ hp → Live who pos q

pub record WaitI (own : ℕ → Place) (base : ℕ → ℕ) (wait : ℕ → List ℕ) (bz : ℕ → Bool) : Type 0 where
  pub awaits : (n : ℕ) → Awaits bz base (wait n) (own n)

pub record ThI (len hp tp : ℕ) (who idx base : ℕ → ℕ)
    (ix : ℕ → ℕ) (next : ℕ → Option ℕ) (thr : ℕ → Th) : Type 0 where
  pub refs : (t : ℕ) → Refs who idx (base t) hp tp len (thr t)
  pub mine : (t : ℕ) → Mine ix next (thr t)

abbrev pub ixs : (ℕ → Node) → ℕ → ℕ
ixs f n = (f n).index

pub record Inv (m : Core) (g : Gh) : Type 0 where
  pub log : LogI g.len g.hp g.tp g.who g.idx m.hnode m.hidx m.tail
  pub place : PlaceI g.len g.hp g.who g.own m.free m.wait m.held (λ u. owns_e (m.thr u)) (λ u. owns_d (m.thr u))
  pub link : LinkI g.len g.who g.idx (poss g.own) m.next (ixs m.node)
  pub alive : LiveI g.len g.hp g.who (poss g.own) g.base m.conf.threads (λ u. busy (m.thr u))
  pub waits : WaitI g.own g.base m.wait (λ u. busy (m.thr u))
  pub threads : ThI g.len g.hp g.tp g.who g.idx g.base (ixs m.node) m.next m.thr
