-- What `?` tells of an answer: a reply is accepted, a refusal is not, and a call hands its value out accordingly.
use mathlib.Core.Path.{◌≡◌, refl, sym, ap, ◌∙◌}
use mathlib.Core.Bool.{true, false}
use Rattle.std.specs.Prelude.{Result, Ok, Err}
use Rattle.std.specs.Result.{IsErrAnd}
use Rattle.answer.specs.declared.Reply.{Reply}
use Rattle.answer.specs.declared.Reply.TheVariants as reply
use Rattle.answer.specs.declared.Refusal.{Refusal}
use Rattle.answer.specs.declared.Refusal.TheVariants as why
use Rattle.answer.specs.Answers.{Answer, accepted, given}

ok_accepted : (r : Reply) → accepted (Ok r) ≡ true
ok_accepted reply.Taken = refl
ok_accepted reply.Done = refl
ok_accepted reply.Full = refl
ok_accepted reply.WornOut = refl
ok_accepted (reply.Item v) = refl
ok_accepted reply.Empty = refl

err_refused : (e : Refusal) → accepted (Err e) ≡ false
err_refused why.Length = refl
err_refused why.Mark = refl
err_refused why.Nodes = refl
err_refused why.Threads = refl
err_refused why.Events = refl
err_refused (why.Linked p) = refl
err_refused (why.Twin p) = refl
err_refused why.NoDummy = refl
err_refused (why.Kind p) = refl
err_refused (why.Number p) = refl
err_refused (why.Busy p) = refl
err_refused (why.Idle p) = refl
err_refused (why.NotZero p) = refl
err_refused (why.Contents p) = refl
err_refused why.Endings = refl
err_refused why.NoEnding = refl
err_refused why.Room = refl
err_refused why.Record = refl
err_refused (why.Clean p) = refl
err_refused (why.Narrow p) = refl

-- behind a `?`: a is what the contract says, r the reply that came of it
pub went_on : {a b : Answer} {r : Reply} → b ≡ a → b ≡ Ok r → accepted a ≡ true
went_on {r = r} e was = ap accepted (sym e ∙ was) ∙ ok_accepted r

-- and where it returned
pub came_back : {a b : Answer} {x : Refusal} → b ≡ a → b ≡ Err x → accepted a ≡ false
came_back {x = x} e was = ap accepted (sym e ∙ was) ∙ err_refused x

-- what it then returned is that refusal
pub passed_on : {A : Type 0} (r : Result A Refusal) (x : Refusal) → IsErrAnd r (λ y. y ≡ x) → r ≡ Err x
passed_on (Ok v) x h = absurd h
passed_on (Err y) x h = ap Err h

-- an answer returned by a `?` is the one that was asked
pub returned : {a b r : Answer} {x : Refusal} → b ≡ a → b ≡ Err x → IsErrAnd r (λ y. y ≡ x) → r ≡ a
returned {r = r} {x = x} e was h = passed_on r x h ∙ sym was ∙ e

-- and behind it a call gives no value
pub gave_none : {A : Type 0} {a b : Answer} {r : Result A Refusal} {x : Refusal} (v : A) → b ≡ a → b ≡ Err x → IsErrAnd r (λ y. y ≡ x) → r ≡ given a v
gave_none {r = r} {x = x} v e was h = passed_on r x h ∙ ap (λ (y : Answer). given y v) (sym was ∙ e)

-- a call that went on gives its value
pub gave : {A : Type 0} {a b : Answer} {r : Reply} (v : A) → b ≡ a → b ≡ Ok r → Ok v ≡ given a v
gave v e was = ap (λ (y : Answer). given y v) (sym was ∙ e)

-- of a call's result that is given by an answer: where it is a value, the answer is accepted and the value is the one that was meant
pub given_taken : {A : Type 0} (a : Answer) (x : A) {v : A} {r : Result A Refusal} → r ≡ given a x → r ≡ Ok v → (accepted a ≡ true) × (v ≡ x)
given_taken {A = A} (Ok t) x {v = v} e was =
    let same : ◌≡◌ {A = Result A Refusal} (Ok v) (Ok x) = sym was ∙ e in
    (ok_accepted t, (cc))
given_taken {A = A} (Err w) x {v = v} e was =
    let same : ◌≡◌ {A = Result A Refusal} (Ok v) (Err w) = sym was ∙ e in
    absurd (cc)

-- where it is a refusal, that is the answer
pub given_refused : {A : Type 0} (a : Answer) (x : A) {r : Result A Refusal} {w : Refusal} → r ≡ given a x → r ≡ Err w → a ≡ Err w
given_refused {A = A} (Ok t) x {w = w} e was =
    let same : ◌≡◌ {A = Result A Refusal} (Ok x) (Err w) = sym e ∙ was in
    absurd (cc)
given_refused {A = A} (Err u) x {w = w} e was =
    let same : ◌≡◌ {A = Result A Refusal} (Err u) (Err w) = sym e ∙ was in
    cc

-- a `?` of such a call: the answer that is returned is that one
pub handed_on : {A : Type 0} (a : Answer) (x : A) {r : Result A Refusal} {b : Answer} {w : Refusal} → r ≡ given a x → r ≡ Err w → IsErrAnd b (λ y. y ≡ w) → b ≡ a
handed_on a x {b = b} {w = w} e was h = passed_on b w h ∙ sym (given_refused a x e was)

-- and a call that returns it gives no value either
pub handed_none :
    {A B : Type 0} (a : Answer) (x : A) {r : Result A Refusal} {q : Result B Refusal} {w : Refusal} (v : B) → r ≡ given a x → r ≡ Err w → IsErrAnd q (λ y. y ≡ w) → q ≡ given a v
handed_none a x {q = q} {w = w} v e was h = passed_on q w h ∙ ap (λ (y : Answer). given y v) (sym (given_refused a x e was))

-- the value matters only where the answer is accepted
pub given_same : {A : Type 0} (a : Answer) {x y : A} → (accepted a ≡ true → x ≡ y) → given a x ≡ given a y
given_same (Ok t) h = ap Ok (h (ok_accepted t))
given_same (Err w) h = refl
