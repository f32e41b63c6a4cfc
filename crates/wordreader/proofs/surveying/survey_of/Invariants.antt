use Prim.Native.Nat.{◌≤◌}
use mathlib.Core.Path.{◌≡◌}
use lib.ListN.{drop}
use Rattle.spelling.specs.Lines.{acts_from, acts_of}
use Rattle.spelling.specs.Reading.{survey_from, survey_of, last_from}
use Rattle.wordreader.proofs.surveying.survey_of.Given as goal

abbrev pub invariant-loop-x : goal.invariant-loop-x
invariant-loop-x l = (l.line ≤ l.x-index) × (survey_of l.t ≡ survey_from l.line l.v (acts_from l.l (drop l.x-index l.t))) × (last_from 0 (acts_of l.t) ≡ last_from l.line (acts_from l.l (drop l.x-index l.t)))
