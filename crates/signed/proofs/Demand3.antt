-- Demand 3, and what it gives whoever calls.
use Prim.Native.Nat.{ℕ, ◌<◌, ◌≤◌}
use mathlib.Core.Path.{◌≡◌, refl, sym, ap, subst, ◌∙◌}
use mathlib.Core.Bool.{true, false}
use mathlib.Core.List.{List}
use lib.ListN.{length}
use Rattle.lists.specs.Tab.{over}
use Rattle.std.specs.Prelude.{Result, Ok, Err}
use Rattle.answer.specs.Answers.{told, told_reply, accepted, given, Answer, Taken}
use Rattle.answer.specs.declared.Reply.{Reply}
use Rattle.answer.specs.declared.Reply.TheVariants as reply
use Rattle.answer.specs.declared.Refusal.{Refusal}
use Rattle.answer.proofs.Results.{given_taken}
use Rattle.answer.proofs.Injective.{told_injective}
use Rattle.image.specs.Layout.{image_bytes}
use Rattle.page.specs.Refusals.{page_answer, ending_count, ending_in, ending_answer, ending_written}
use Rattle.lawful.specs.Demand3.{Bytes, Demand3}
use Rattle.pageproof.proofs.Holds.{page_holds}
use Rattle.lawproof.proofs.Lawful3.{page_lawful}
use Rattle.runs.specs.Paged.{count_of}
use Rattle.endread.proofs.Bytes.{ending_taken, ending_held}
use Rattle.signed.specs.Signed.{answered, Counts, Writes, ending_size, Page, Signed, AllSigned}

pub demand3 : Demand3
demand3 s bytes a = (page_holds s bytes a, page_lawful s bytes a)

-- ---- what the contracts' definitions come to

pub count_all : (s : List ℕ) → accepted (page_answer s) ≡ true → count_of s ≡ ending_count s
unfolding count_of
count_all s h = rw h

-- ---- the theorem

reply_zero : (r : Reply) → ((told_reply r).number ≡ 0) × ((told_reply r).place ≡ 0)
reply_zero reply.Taken = (refl, refl)
reply_zero reply.Done = (refl, refl)
reply_zero reply.Full = (refl, refl)
reply_zero reply.WornOut = (refl, refl)
reply_zero (reply.Item v) = (refl, refl)
reply_zero reply.Empty = (refl, refl)

-- what is given answers as the answer says, by number and place
number_given : (a : Answer) (v : ℕ) → (told (answered (given a v))).number ≡ (told a).number
number_given (Ok r) v = sym (reply_zero r).0
number_given (Err e) v = refl

place_given : (a : Answer) (v : ℕ) → (told (answered (given a v))).place ≡ (told a).place
place_given (Ok r) v = sym (reply_zero r).1
place_given (Err e) v = refl

module _ (s : List ℕ) (bytes : Bytes s) (r : Result ℕ Refusal) (c : Counts s r) where
  is : r ≡ given (page_answer s) (count_of s)
  is = c.3 ∙ ap (λ (x : List ℕ). given (page_answer x) (count_of x)) c.2

  page : (n : ℕ) → n ≡ count_of s → accepted (page_answer s) ≡ true → Page s n
  page n count h = record {
    count = all;
    holds = (demand3 s bytes h).0;
    lawful = (demand3 s bytes h).1;
    endings = λ k lt b l a z w. written k (subst (λ (n : ℕ). k < n) all lt) b l a z w;
  }
    where
      all : n ≡ ending_count s
      all = count ∙ count_all s h

      written : (k : ℕ) → k < ending_count s → (b : List ℕ) → ending_size s ≤ length b → (a : Answer) (z : List ℕ) → Writes s k b a z
          → (a ≡ Taken) × (z ≡ over b 0 (image_bytes (ending_in s k)))
      written k lt b l a z (κs, x, y, y', e, f, g, p) = (
        told_injective a Taken (p.0 ∙ ap (λ (t : List ℕ). told (ending_answer t k (length y.now))) e
            ∙ ap (λ (t : List ℕ). told (ending_answer s k (length t))) f ∙ ap (λ (t : Answer). told t) (ending_taken s h k lt (length b) l)),
        sym g ∙ p.1 ∙ ap (λ (t : List ℕ). ending_written t k y.now) e ∙ ap (λ (t : List ℕ). ending_written s k t) f ∙ ending_held s h k lt b l,
      )

  signed_one : Signed s r
  signed_one = record {
    number = ap (λ (x : Result ℕ Refusal). (told (answered x)).number) is ∙ number_given (page_answer s) (count_of s);
    place = ap (λ (x : Result ℕ Refusal). (told (answered x)).place) is ∙ place_given (page_answer s) (count_of s);
    taken = λ n was. let z = given_taken (page_answer s) (count_of s) is was in page n z.1 z.0;
  }

pub signed : AllSigned
signed s bytes r c = signed_one s bytes r c
