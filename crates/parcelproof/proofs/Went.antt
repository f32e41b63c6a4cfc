-- What a step of the abstract machine tells of enqueues: nothing, a link, a node taken, an answer that is no item, an item.
use Prim.Native.Nat.{ℕ}
use mathlib.Core.Path.{◌≡◌, refl, sym, ap}
use mathlib.Core.Bool.{Bool, true, false}
use mathlib.Core.Option.{Option, none, some}
use lib.Dec.{eqb, leb}
use Rattle.lists.specs.Find.{pick, both}
use Rattle.lists.proofs.BoolLaws.{no_way}
use Rattle.model.specs.Basics.{upd}
use Rattle.model.specs.Conf.{Mode, at_once, fenced, Engine, shared, split, same_head}
use Rattle.model.specs.Core.{Core, Th, idle, a1, a2, a3, a4, a5, a6, a7, a8, a9, a10, a10f, a11, a12, d1, d2, d3, d3f, d4, d5, d6, d6f, d7, s3, s6, elsewhere}
use Rattle.model.specs.Core.{Ans, nothing, done, full, worn, item, empty, busy}
use Rattle.model.specs.Places.{owns_d}
use Rattle.model.specs.Steps.{Out, step, step_a1, step_a6, step_a7, step_a8, step_a10, step_a11, step_a12, step_d2, step_d3, step_d4, step_d6, empty_to, item_to, retire_held}
use Rattle.parcels.specs.Parcel.{is_open, turns_away}
use Rattle.parcelproof.proofs.Taken.{heard}

-- an enqueue that is not linked (1), one that is (2); neither (0)
abbrev pub phase : Th → ℕ
phase idle = 0
phase (a1 v) = 1
phase (a2 v n) = 1
phase (a3 v n) = 1
phase (a4 v n) = 1
phase (a5 v n) = 1
phase (a6 v n q) = 1
phase (a7 v n q) = 1
phase (a8 v n q) = 1
phase (a9 v n q) = 2
phase (a10 v n q) = 2
phase (a10f v n q) = 2
phase (a11 v n q) = 2
phase (a12 v n q) = 1
phase d1 = 0
phase elsewhere = 0
phase (d2 h i) = 0
phase (d3 h i) = 0
phase (d3f h i) = 0
phase (s3 h i) = 0
phase (d4 h i q) = 0
phase (d5 h y) = 0
phase (d6 h v) = 0
phase (d6f h v) = 0
phase (s6 h y v) = 0
phase (d7 h v) = 0

-- the number of its step in the record
abbrev pub pace : Th → ℕ
pace idle = 0
pace (a1 v) = 1
pace (a2 v n) = 2
pace (a3 v n) = 3
pace (a4 v n) = 4
pace (a5 v n) = 5
pace (a6 v n q) = 6
pace (a7 v n q) = 7
pace (a8 v n q) = 8
pace (a9 v n q) = 9
pace (a10 v n q) = 10
pace (a10f v n q) = 22
pace (a11 v n q) = 11
pace (a12 v n q) = 12
pace d1 = 13
pace elsewhere = 25
pace (d2 h i) = 14
pace (d3 h i) = 15
pace (d3f h i) = 23
pace (s3 h i) = 20
pace (d4 h i q) = 16
pace (d5 h y) = 17
pace (d6 h v) = 18
pace (d6f h v) = 24
pace (s6 h y v) = 21
pace (d7 h v) = 19

abbrev pub links_to : Th → Th → Bool
links_to s s' = both (eqb (pace s) 8) (eqb (pace s') 9)

abbrev pub takes_to : Th → Th → Bool
takes_to s s' = both (eqb (pace s) 16) (eqb (pace s') 17)

-- an answer that hands an item out
abbrev pub gives : Ans → Bool
gives nothing = false
gives done = false
gives full = false
gives worn = false
gives (item v) = true
gives empty = false

pub data Went (c : Core) (t : ℕ) (s : Th) (o : Out) : Type 0 where
  quiet : (s' : Th) → o.core.thr ≡ upd c.thr t s' → links_to s s' ≡ false → takes_to s s' ≡ false → o.ans ≡ nothing → phase s' ≡ phase s → Went c t s o
  linked : (v n x : ℕ) → s ≡ a8 v n x → o.core.thr ≡ upd c.thr t (a9 v n x) → Went c t s o
  took : (h i x : ℕ) → s ≡ d4 h i x → o.core.thr ≡ upd c.thr t (d5 h x) → o.core.node ≡ c.node → Went c t s o
  said : o.core.thr ≡ upd c.thr t idle → is_open (heard o.ans) ≡ false → gives o.ans ≡ false
      → (turns_away (heard o.ans) ≡ true → phase s ≡ 1) → owns_d s ≡ none → Went c t s o
  gave : (h v : ℕ) → s ≡ d7 h v → o.core.thr ≡ upd c.thr t idle → o.ans ≡ item v → Went c t s o

module _ (c : Core) (t : ℕ) where
  w_a1 : (v : ℕ) (o : Option ℕ) → Went c t (a1 v) (step_a1 c t v o)
  w_a1 v none = said refl refl refl (λ e. refl) refl
  w_a1 v (some n) = quiet (a2 v n) refl refl refl refl refl

  w_a6 : (v n x : ℕ) (o : Option ℕ) → Went c t (a6 v n x) (step_a6 c t v n x o)
  w_a6 v n x none = quiet (a7 v n x) refl refl refl refl refl
  w_a6 v n x (some y) = quiet (a12 v n x) refl refl refl refl refl

  w_a7 : (v n x : ℕ) (b : Bool) → Went c t (a7 v n x) (step_a7 c t v n x b)
  w_a7 v n x true = said refl refl refl (λ e. refl) refl
  w_a7 v n x false = quiet (a8 v n x) refl refl refl refl refl

  w_a8 : (v n x : ℕ) (o : Option ℕ) → Went c t (a8 v n x) (step_a8 c t v n x o)
  w_a8 v n x none = linked v n x refl refl
  w_a8 v n x (some y) = quiet (a12 v n x) refl refl refl refl refl

  w_a10 : (v n x : ℕ) (d : Mode) → Went c t (a10 v n x) (step_a10 c t v n x d)
  w_a10 v n x at_once = quiet (a11 v n x) refl refl refl refl refl
  w_a10 v n x fenced = quiet (a10f v n x) refl refl refl refl refl

  w_a11 : (v n x : ℕ) (b : Bool) → Went c t (a11 v n x) (step_a11 c t n b)
  w_a11 v n x true = said refl refl refl (λ e. no_way (sym e)) refl
  w_a11 v n x false = said refl refl refl (λ e. no_way (sym e)) refl

  w_a12 : (v n x : ℕ) (b : Bool) (o : Option ℕ) → Went c t (a12 v n x) (step_a12 c t v n b o)
  w_a12 v n x true none = quiet (a5 v n) refl refl refl refl refl
  w_a12 v n x true (some y) = quiet (a5 v n) refl refl refl refl refl
  w_a12 v n x false o = quiet (a5 v n) refl refl refl refl refl

  empty_phase : (E : Engine) (h i : ℕ) → phase (empty_to E h i) ≡ 0
  empty_phase shared h i = refl
  empty_phase split h i = refl

  item_phase : (E : Engine) (h x v : ℕ) → phase (item_to E h x v) ≡ 0
  item_phase shared h x v = refl
  item_phase split h x v = refl

  w_d2 : (h i : ℕ) (o : Option ℕ) → Went c t (d2 h i) (step_d2 c t h i o)
  w_d2 h i none = quiet (empty_to c.conf.engine h i) refl refl refl refl (empty_phase c.conf.engine h i)
  w_d2 h i (some x) = quiet (d4 h i x) refl refl refl refl refl

  w_d3 : (h i : ℕ) (d : Mode) → Went c t (d3 h i) (step_d3 c t h i d)
  w_d3 h i at_once = said refl refl refl (λ e. no_way (sym e)) refl
  w_d3 h i fenced = quiet (d3f h i) refl refl refl refl refl

  w_d4 : (h i x : ℕ) (b : Bool) → Went c t (d4 h i x) (step_d4 c t h x b)
  w_d4 h i x true = took h i x refl refl refl
  w_d4 h i x false = quiet (d1) refl refl refl refl refl

  w_d6 : (h v : ℕ) (d : Mode) → Went c t (d6 h v) (step_d6 c t h v d)
  w_d6 h v at_once = quiet (d7 h v) refl refl refl refl refl
  w_d6 h v fenced = quiet (d6f h v) refl refl refl refl refl

  retired_thr : (o : Option ℕ) → (retire_held c t o).thr ≡ c.thr
  retired_thr none = refl
  retired_thr (some n) = refl

  pub went : (s : Th) → busy s ≡ true → Went c t s (step c t s)
  went idle b = no_way (sym b)
  went (a1 v) b = w_a1 v (c.conf.chooser.pick c.conf.nodes c.last c.free)
  went (a2 v n) b = quiet (a3 v n) refl refl refl refl refl
  went (a3 v n) b = quiet (a4 v n) refl refl refl refl refl
  went (a4 v n) b = quiet (a5 v n) refl refl refl refl refl
  went (a5 v n) b = quiet (a6 v n c.tail) refl refl refl refl refl
  went (a6 v n x) b = w_a6 v n x (c.next x)
  went (a7 v n x) b = w_a7 v n x (leb c.conf.top (c.node x).index)
  went (a8 v n x) b = w_a8 v n x (c.next x)
  went (a9 v n x) b = quiet (a10 v n x) refl refl refl refl refl
  went (a10 v n x) b = w_a10 v n x c.conf.mode
  went (a10f v n x) b = quiet (a11 v n x) refl refl refl refl refl
  went (a11 v n x) b = w_a11 v n x (eqb c.tail x)
  went (a12 v n x) b = w_a12 v n x (eqb c.tail x) (c.next x)
  went d1 b = quiet (d2 c.hnode c.hidx) refl refl refl refl refl
  went elsewhere b = quiet (elsewhere) refl refl refl refl refl
  went (d2 h i) b = w_d2 h i (c.next h)
  went (d3 h i) b = w_d3 h i c.conf.mode
  went (d3f h i) b = said refl refl refl (λ e. no_way (sym e)) refl
  went (s3 h i) b = quiet (d3 h i) refl refl refl refl refl
  went (d4 h i x) b = w_d4 h i x (same_head c.conf.engine (eqb c.hnode h) (eqb c.hidx i))
  went (d5 h y) b = quiet (item_to c.conf.engine h y (c.node y).item) refl refl refl refl (item_phase c.conf.engine h y (c.node y).item)
  went (d6 h v) b = w_d6 h v c.conf.mode
  went (d6f h v) b = quiet (d7 h v) refl refl refl refl refl
  went (s6 h y v) b = quiet (d6 h v) refl refl refl refl refl
  went (d7 h v) b = gave h v refl (ap (λ (f : ℕ → Th). upd f t idle) (retired_thr (c.held t))) refl
