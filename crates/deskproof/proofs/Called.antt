-- Of the calls, from their contracts as the source has them: the words of a schedule, whatever its form, come whole where the lent buffer has 64 bytes
-- for each entry (266,880 are room for every schedule), and the words of a schedule, read, are the schedule.
use Prim.Native.Nat.{ℕ, ◌-◌, ◌*◌, ◌≤◌}
use mathlib.Core.Path.{◌≡◌, ap, ◌∙◌}
use mathlib.Core.Bool.{true}
use mathlib.Core.List.{List}
use native.Mathlib.Omega.{arith}
use contract.Lifetimes.{Lfts}
use denote.MutBor.{MutBor}
use denote.Ref.{Bor}
use lib.ListN.{length}
use Rattle.lists.specs.Tab.{over}
use Rattle.std.specs.Prelude.{Result, Ok}
use Rattle.answer.specs.declared.Refusal.{Refusal}
use Rattle.answer.specs.Answers.{Answer, accepted, given, Taken}
use Rattle.image.proofs.ByteLaws as num
use Rattle.schedule.specs.Layout.{schedule_answer}
use Rattle.page.specs.Filled.{lines_on, fitting}
use Rattle.spelling.specs.declared.Spelled.{Spelled}
use Rattle.spelling.specs.declared.Misread.{Misread}
use Rattle.spelling.specs.Reading.{Said, is_taken, read_answer, read_bytes, spelt, file_of}
use Rattle.spelling.specs.Writing.{entry_of, entries_in, words_of, spell_answer, spell_taken, spell_bytes, spell_written}
use Rattle.desk.proofs.ReadLaws as reads
use Rattle.desk.proofs.SpellLaws as spells
use Rattle.desk.proofs.read_words.Reads as read
use Rattle.desk.proofs.spell_lines.Reads as spell
use Rattle.spellproof.proofs.RoundTrip as round
use Rattle.spellproof.proofs.Whole as whole

module _ (s b : List ℕ) (bs : num.Bytes s) (h : accepted (schedule_answer s) ≡ true) (p : entries_in s * 64 ≤ length b) where
  answered : spell_answer s 0 (length b) ≡ Taken
  answered = spells.some s 0 b h (omega arith) (omega (arith, whole.entries_short s bs h 0 (omega arith)))

  all_taken : spell_taken s 0 (length b) ≡ entries_in s
  all_taken =
      let z : entries_in s - 0 ≡ entries_in s = omega arith in
      spells.taken_some s 0 b (ap accepted answered) ∙ ap (λ c. fitting (entry_of s) 0 c (length b)) z ∙ whole.whole s bs h (length b) p

  all_bytes : spell_bytes s 0 (length b) ≡ words_of s
  unfolding spell_bytes words_of
  all_bytes = ap (λ c. lines_on (entry_of s) 0 c) all_taken

  all_written : spell_written s 0 b ≡ over b 0 (words_of s)
  unfolding spell_written
  all_written = ap (over b 0) all_bytes

pub spell_whole : (κs : Lfts 2) (s : Bor (List ℕ)) (b z : MutBor (List ℕ)) (r : Result Spelled Refusal)
    → num.Bytes s.now → accepted (schedule_answer s.now) ≡ true → entries_in s.now * 64 ≤ length b.now
    → spell.Post κs (s, (0, (b, tt))) r (s, (0, (z, tt)))
    → (r ≡ Ok (record { entries = entries_in s.now; bytes = length (words_of s.now) })) × (z.now ≡ over b.now 0 (words_of s.now))
spell_whole κs s b z r bs h l p =
    let n = all_taken s.now b.now bs h l in
    let w = ap length (all_bytes s.now b.now bs h l) in (
      p.0
          ∙ ap (λ (a : Answer). given a (spells.all_of s.now 0 b.now)) (answered s.now b.now bs h l)
          ∙ (λ i. Ok (record { entries = n i; bytes = w i })),
      p.1 ∙ all_written s.now b.now bs h l,
    )

-- the words of a schedule that is taken up to its events, read into a buffer with room for it, are taken, and the schedule stands in its front
pub read_back : (κs : Lfts 2) (s : List ℕ) (t : Bor (List ℕ)) (b z : MutBor (List ℕ)) (r : Result ℕ Misread)
    → num.Bytes s → accepted (schedule_answer s) ≡ true → t.now ≡ words_of s → length s ≤ length b.now
    → read.Post κs (t, (b, tt)) r (t, (z, tt)) → (r ≡ Ok (read_bytes t.now (length b.now))) × (z.now ≡ over b.now 0 s)
read_back κs s t b z r bs h e l p =
    let a = ap (λ w. read_answer w (length b.now)) e ∙ round.words_taken s bs h (length b.now) l in (
      p.0 ∙ ap (λ (x : Said). spelt x (read_bytes t.now (length b.now))) a,
      p.1 ∙ reads.written_some t.now b.now (ap is_taken a) ∙ ap (over b.now 0) (ap file_of e ∙ round.words_back s bs h),
    )
