-- The persisted image of a record that is handed in, written into a lent buffer.
use Rattle.std.specs.Prelude.{ℕ, true, false, List}
use Rattle.answer.specs.Answers.{Answer, Record}
use Rattle.image.specs.Refusals.{write_answer, written}
use Rattle.machine.specs.Line.{persisted}
use Rattle.machine.specs.Range.{in_range}
use Rattle.machine.specs.declared.Machine.{Machine}

-- 18, then as contents to be written: 3, 6, 7, 8, 17
unfoldable pub save_answer : Machine → ℕ → Answer
save_answer m room = elim (in_range m) [ true ↦ write_answer (persisted m) room | false ↦ Record ]

unfoldable pub saved : Machine → List ℕ → List ℕ
saved m b = elim (in_range m) [ true ↦ written (persisted m) b | false ↦ b ]
