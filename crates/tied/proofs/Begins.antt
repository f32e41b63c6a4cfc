-- A start: the benches after it show the same, and their lists of contents are those of one moment.
use mathlib.Core.Path.{◌≡◌, refl, sym, ap, subst, ◌∙◌}
use mathlib.Core.List.{[], ◌∷◌}
use mathlib.Core.Logic.{◌⊎◌, inl, inr}
use Prim.Native.Nat.{ℕ, suc, ◌<◌}
use native.Mathlib.Omega.{arith}
use lib.ListN.{get_or}
use Rattle.image.specs.declared.Content.{Content}
use Rattle.image.specs.declared.Image.{Image}
use Rattle.image.specs.Recovered.{dummy_of}
use Rattle.tied.specs.Memory as memory
use Rattle.image.specs.declared.Shape.{Shape}
use Rattle.machine.specs.Line.{shape_of, cached_at, persisted_at}
use Rattle.machine.specs.Start.{blank_machine, start_with, start_of}
use Rattle.machine.specs.declared.Machine.{Machine}
use Rattle.machine.proofs.LineLaws.{LineIn}
use Rattle.schedule.specs.Run.{begins}
use Rattle.page.specs.Contents.{joins, gathered, contents_of}
use Rattle.model.specs.Core.{hd}
use Rattle.model.specs.Recovery as recovery
use Rattle.model.specs.Recovery.{image_has, start}
use Rattle.model.specs.Machine.{Has, starts}
use Rattle.model.proofs.Times.{start_here}
use Rattle.tied.specs.Always.{Among}
use Rattle.tied.specs.Shown.{shown_content, line_shown}
use Rattle.tied.proofs.Relation.{Tied}
use Rattle.tied.proofs.Images.{ImageT, lines_at}
use Rattle.tied.proofs.Start.{image_line, start_t}
use Rattle.tied.proofs.Contents.{Small, joins_old}
use Rattle.tied.proofs.Bench.{shown_cached, cached_flag, kept_is, kept_flag, own_kept, ListsT}

-- the shape of a machine that starts from g with T threads
abbrev pub shape_at : Image → ℕ → Shape
shape_at g t = record { form = g.form; n = g.n; t = t }

pub shape_is : (g : Image) (t : ℕ) → shape_of (start_of g t) ≡ shape_at g t
unfolding start_with
shape_is g t = refl

one_moment : (m : Machine) (l : memory.Line) → contents_of (begins m) l ≡ joins (persisted_at m l ∷ []) (cached_at m l)
unfolding contents_of gathered
one_moment m l = refl

module _ (g : Image) (t : ℕ) (G : recovery.Image) (r : ImageT g t G) (dm : dummy_of g < g.n) where
  d : Tied (image_line g) (start_of g t) (start G)
  d = start_t g t G r dm

  pub started_t : Tied (persisted_at (start_of g t)) (start_of g t) (start G)
  started_t = own_kept _ _ _ d

  line_is : (l : memory.Line) → LineIn (shape_at g t) l → image_has G (line_shown l) ≡ shown_content (image_line g l)
  line_is (memory.of_head k) h = ap hd (r.head k (subst (λ x. k < x) (lines_at g t G r) h))
  line_is (memory.of_node i) h = r.at i h

  pub begins_t : ListsT (begins (start_of g t)) (starts G)
  begins_t = record {
    lists = λ l h a z. by l h a (joins_old (persisted_at (start_of g t) l ∷ []) (cached_at (start_of g t) l) a (subst (Among a) (one_moment (start_of g t) l) z));
    kept = same;
    now = refl;
    times = λ l h i z. subst (λ i. (starts G).past (line_shown l) (suc i) ≡ shown_content (cached_at (get_or (start_of g t ∷ []) i blank_machine) l)) (sym (first i z)) (shown_cached _ _ _ d l h);
    from = λ l h. inr (refl, refl);
    early = λ l. omega arith;
    marks = λ u. inr (refl, refl);
  }
    where
      first : (i : ℕ) → i < 1 → i ≡ 0
      first i h = omega arith

      same : (l : memory.Line) → LineIn (shape_of (start_of g t)) l → image_has G (line_shown l) ≡ shown_content (persisted_at (start_of g t) l)
      same l h = line_is l (subst (λ z. LineIn z l) (shape_is g t) h) ∙ ap shown_content (sym (kept_is _ _ _ d l h))

      by : (l : memory.Line) → LineIn (shape_of (start_of g t)) l → (a : Content) → Among a (persisted_at (start_of g t) l ∷ []) ⊎ (a ≡ cached_at (start_of g t) l)
          → Small (starts G).core.conf.top a × Has (starts G) (line_shown l) (shown_content a)
      by l h a (inl (inl e)) = subst (λ a. Small (starts G).core.conf.top a × Has (starts G) (line_shown l) (shown_content a)) (sym e)
          (kept_flag _ _ _ d l h, record { time = 0; since = omega arith; until = omega arith; is = sym (same l h) })
      by l h a (inl (inr z)) = absurd z
      by l h a (inr e) = subst (λ a. Small (starts G).core.conf.top a × Has (starts G) (line_shown l) (shown_content a)) (sym e)
          (cached_flag _ _ _ d l h, subst (Has (starts G) (line_shown l)) (shown_cached _ _ _ d l h) (start_here G (line_shown l)))
