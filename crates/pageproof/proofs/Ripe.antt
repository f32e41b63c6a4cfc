-- How each content of a line is left by write-backs of the changed line: by none where it is what the recorded run leaves; else by one at the first moment, from the last
-- one that counts on, at which the line holds it. Where what is persisted then is that content too (it came back), one a moment earlier makes the line a changed one:
-- it held another content there. No write-back stands before a recorded one.
use Prim.Native.Nat.{ℕ, zero, suc, ◌+◌, ◌-◌, ◌≤◌, ◌<◌}
use mathlib.Core.Path.{◌≡◌, refl, sym, ap, ap₂, subst, ◌∙◌}
use mathlib.Core.Bool.{Bool, true, false}
use mathlib.Core.List.{List, [], ◌∷◌, map}
use mathlib.Core.Logic.{◌⊎◌, inl, inr, ◌≢◌}
use native.Mathlib.Omega.{arith}
use native.Mathlib.Decide.{ℕ_discrete}
use lib.Dec.{ltb}
use lib.ListN.{length, get_or, drop, length-append, length-drop}
use lib.Seq.{get_or-drop}
use Rattle.lists.specs.Find.{pick}
use Rattle.lists.proofs.BoolLaws.{no_way}
use Rattle.image.specs.declared.Content.{Content}
use Rattle.image.specs.Layout.{same_content}
use Rattle.machine.specs.Line.{shape_of, cached_at, persisted_at}
use Rattle.machine.specs.Event.{deed_of}
use Rattle.machine.specs.Start.{blank_machine}
use Rattle.machine.specs.declared.Line.{Line}
use Rattle.machine.specs.declared.Machine.{Machine}
use Rattle.machine.specs.declared.Event.{Event}
use Rattle.machine.specs.declared.Touch.{Touch}
use Rattle.machine.specs.declared.Touch.TheVariants.{Nothing as nothing, Store as a_store, Persist as a_persist, Flush as a_flush, Fence as a_fence}
use Rattle.machine.proofs.LineLaws.{LineIn}
use Rattle.schedule.specs.Run.{Bench, begins, goes_on}
use Rattle.page.specs.Contents.{joins, gathered, contents_of}
use Rattle.moments.specs.Frame.{StoresTo, Frame}
use Rattle.moments.specs.Marked.{at_moment}
use Rattle.moments.proofs.Joins.{same_equal, same_self}
use Rattle.moments.proofs.Frame as frame
use Rattle.moments.proofs.Steps as acts
use Rattle.moments.proofs.Known.{Known}
use Rattle.pageproof.proofs.Among.{Among, among_joins}
use Rattle.pageproof.proofs.Events as events
use Rattle.pageproof.proofs.Events.{Takes, touch, Crash, onto}
use Rattle.pageproof.proofs.Before.{Before}
use Rattle.pageproof.proofs.Lengthened.{left_with, left_old, left_new, past_some, present_is, older}

-- ---- line l is to be left with c, the run ending in bench d

module _ (d : Bench) (l : Line) (c : Content) where
  -- from moment i, which counts, to the next one the line comes to hold c
  pub record Comes (i : ℕ) : Type 0 where
    pub counts : d.from l ≤ i
    pub there : suc i < length d.past
    pub other : at_moment d i l ≢ c
    pub comes : at_moment d (suc i) l ≡ c

  -- behind an event of the bench b, the line last written back as r says: what is still to be done
  pub data Due (b : Bench) (r : ℕ) : Type 0 where
    -- nothing: c is left anyway
    anyway : r ≡ 0 → persisted_at d.machine l ≡ c → Due b r
    -- c comes later
    later : (i : ℕ) → r ≡ 0 → length b.past ≤ suc i → Comes i → Due b r
    -- the line is ripe: it holds c, and something else is persisted
    ripe : d.from l < length b.past → at_moment d (length b.past - 1) l ≡ c → left_with b r l ≢ c → Due b r
    -- it was written back when it held c
    done : d.from l < r → at_moment d (r - 1) l ≡ c → Due b r

  -- and behind the write-backs of that moment
  pub data Stands (b : Bench) (r : ℕ) : Type 0 where
    anyway : r ≡ 0 → persisted_at d.machine l ≡ c → Stands b r
    later : (i : ℕ) → r ≡ 0 → length b.past ≤ i → Comes i → Stands b r
    -- c comes with the next event, and something else is persisted
    next : (i : ℕ) → length b.past ≡ suc i → Comes i → left_with b r l ≢ c → Stands b r
    done : d.from l < r → at_moment d (r - 1) l ≡ c → Stands b r

-- two contents, equal or not
equal_or : (a c : Content) → (a ≡ c) ⊎ (a ≢ c)
equal_or a c = by (same_content a c) refl
  where
    by : (x : Bool) → same_content a c ≡ x → (a ≡ c) ⊎ (a ≢ c)
    by true e = inl (same_equal a c e)
    by false e = inr (λ q. no_way (sym (same_self a) ∙ ap (same_content a) q ∙ e))

-- ---- the choice, from the start on

module _ (l : Line) (c : Content) where
  -- where c stands first in a list of moments: in front, or behind another content
  abbrev First : List Machine → Type 0
  First ms =
      ((0 < length ms) × (cached_at (get_or ms 0 blank_machine) l ≡ c))
      ⊎ ((i : ℕ) × (suc i < length ms) × (cached_at (get_or ms i blank_machine) l ≢ c) × (cached_at (get_or ms (suc i) blank_machine) l ≡ c))

  first_in : (ms : List Machine) → Among c (map (λ m. cached_at m l) ms) → First ms
  first_in [] k = absurd k
  first_in (a ∷ ms) k = by (equal_or (cached_at a l) c) k (first_in ms)
    where
      behind : cached_at a l ≢ c → First ms → First (a ∷ ms)
      behind ne (inl (h, e)) = inr (0, omega arith, ne, e)
      behind ne (inr (i, h, o, e)) = inr (suc i, omega arith, o, e)

      by : (cached_at a l ≡ c) ⊎ (cached_at a l ≢ c) → (c ≡ cached_at a l) ⊎ Among c (map (λ m. cached_at m l) ms)
          → (Among c (map (λ m. cached_at m l) ms) → First ms) → First (a ∷ ms)
      by (inl e) k f = inl (omega arith, e)
      by (inr ne) (inl e) f = absurd (ne (sym e))
      by (inr ne) (inr k) f = behind ne (f k)

-- what is gathered was there, or is one of the list
gathered_of : (c : Content) (seen l : List Content) → Among c (gathered seen l) → Among c seen ⊎ Among c l
unfolding gathered
gathered_of c seen [] k = inl k
gathered_of c seen (x ∷ l) k = by (gathered_of c (joins seen x) l k)
  where
    new : Among c seen ⊎ (c ≡ x) → Among c seen ⊎ Among c (x ∷ l)
    new (inl h) = inl h
    new (inr e) = inr (inl e)

    by : Among c (joins seen x) ⊎ Among c l → Among c seen ⊎ Among c (x ∷ l)
    by (inl h) = new (among_joins c seen x h)
    by (inr h) = inr (inr h)

pub chosen : (d : Bench) → Known d → (l : Line) (c : Content) → LineIn (shape_of d.machine) l → (m : Machine) → LineIn (shape_of m) l → Before (begins m) d
    → Among c (contents_of d l) → Due d l c (begins m) 0
unfolding contents_of
chosen d kn l c hd m hm b k = by (equal_or (persisted_at d.machine l) c)
  where
    found : persisted_at d.machine l ≢ c → First l c (drop (d.from l) d.past) → Due d l c (begins m) 0
    found ne (inl (h, e)) = at (d.from l) refl
      where
        is : at_moment d (d.from l) l ≡ c
        is = ap (λ i. at_moment d i l) (let z : d.from l ≡ d.from l + 0 = omega arith in z) ∙ ap (λ (x : Machine). cached_at x l) (sym (get_or-drop (d.from l) d.past 0 blank_machine)) ∙ e

        at : (f : ℕ) → d.from l ≡ f → Due d l c (begins m) 0
        at zero q = ripe (omega (arith, q)) (ap (λ i. at_moment d i l) (sym q) ∙ is) (λ z. ne (b.kept l hm (omega (arith, q)) ∙ sym (left_old (begins m) 0 l (omega arith)) ∙ z))
        at (suc f) q = absurd (ne (kn.marked.kept l hd (omega (arith, q)) ∙ is))
    found ne (inr (i, h, o, e)) = later (d.from l + i) refl (omega arith) (record {
      counts = omega arith;
      there = omega (arith, h, length-drop (d.from l) d.past);
      other = λ z. o (moment i ∙ z);
      comes = sym (moment (suc i) ∙ ap (λ i. at_moment d i l) (let z : d.from l + suc i ≡ suc (d.from l + i) = omega arith in z)) ∙ e;
    })
      where
        moment : (i : ℕ) → cached_at (get_or (drop (d.from l) d.past) i blank_machine) l ≡ at_moment d (d.from l + i) l
        moment i = ap (λ (x : Machine). cached_at x l) (get_or-drop (d.from l) d.past i blank_machine)

    by : (persisted_at d.machine l ≡ c) ⊎ (persisted_at d.machine l ≢ c) → Due d l c (begins m) 0
    by (inl e) = anyway refl e
    by (inr ne) = which (gathered_of c (persisted_at d.machine l ∷ []) _ k)
      where
        which : Among c (persisted_at d.machine l ∷ []) ⊎ Among c (map (λ m. cached_at m l) (drop (d.from l) d.past)) → Due d l c (begins m) 0
        which (inl (inl e)) = absurd (ne (sym e))
        which (inl (inr z)) = absurd z
        which (inr w) = found ne (first_in l c (drop (d.from l) d.past) w)

-- ---- one moment

module _ (d : Bench) (l : Line) (c : Content) (b : Bench) (kn : Known b) (u : Before b d) where
  -- what is done at this moment: the line is written back, and then it is a changed one, or it is not
  pub record Settled (r : ℕ) : Type 0 where
    pub back : Bool
    pub changed : back ≡ true → left_with b r l ≢ cached_at b.machine l
    pub stands : Stands d l c b (pick back (length b.past) r)

  -- the present content is that of the present moment
  now_is : at_moment d (length b.past - 1) l ≡ cached_at b.machine l
  now_is = u.moment (length b.past - 1) l (omega (arith, past_some b kn)) ∙ present_is b kn l

  pub settle : (r : ℕ) → Due d l c b r → Settled r
  settle r (anyway e k) = record { back = false; changed = λ z. no_way (sym z); stands = anyway e k }
  settle r (done h e) = record { back = false; changed = λ z. no_way (sym z); stands = done h e }
  settle r (ripe h e ne) = record { back = true; changed = λ z q. ne (q ∙ sym now_is ∙ e); stands = done h e }
  settle r (later i e h w) = by (ℕ_discrete (length b.past) (suc i))
    where
      -- moment i is now
      here : length b.past ≡ suc i → (persisted_at b.machine l ≡ c) ⊎ (persisted_at b.machine l ≢ c) → Settled r
      here q (inl k) = record {
        back = true;
        changed = λ z y. held (sym y ∙ old ∙ k);
        stands = next i q w (λ z. held (sym (present_is b kn l) ∙ sym (left_new b (length b.past) l (omega (arith, u.from l, w.counts, q))) ∙ z));
      }
        where
          old : left_with b r l ≡ persisted_at b.machine l
          old = left_old b r l (omega (arith, e))

          held : cached_at b.machine l ≢ c
          held z = w.other (ap (λ j. at_moment d j l) (let y : i ≡ length b.past - 1 = omega (arith, q) in y) ∙ now_is ∙ z)
      here q (inr k) = record { back = false; changed = λ z. no_way (sym z); stands = next i q w (λ z. k (sym (left_old b r l (omega (arith, e))) ∙ z)) }

      by : Dec (length b.past ≡ suc i) → Settled r
      by (yes q) = here q (equal_or (persisted_at b.machine l) c)
      by (no q) = record { back = false; changed = λ z. no_way (sym z); stands = later i e (omega (arith, h)) w }

-- ---- one event

-- an event that leaves a line with another content has stored to it, and no copy has moved
stored : (b : Bench) (kn : Known b) (m : Machine) (w : Touch) → Frame b.machine m w → (l : Line) → cached_at m l ≢ cached_at b.machine l → (r : ℕ)
    → r ≤ length b.past
    → left_with (goes_on b m w) r l ≡ left_with b r l
stored b kn m w f l ne r h = by w refl
  where
    no : (x : Touch) → w ≡ x → (StoresTo x l → ⊥) → left_with (goes_on b m w) r l ≡ left_with b r l
    no x e s = absurd (ne (f.cached l (λ z. s (subst (λ w. StoresTo w l) e z))))

    by : (x : Touch) → w ≡ x → left_with (goes_on b m w) r l ≡ left_with b r l
    by nothing e = no nothing e (λ z. z)
    by (a_store x) e =
        ap (λ w. left_with (goes_on b m w) r l) e
        ∙ ap₂ (pick (ltb (b.from l) r)) (older b kn m (a_store x) (r - 1) l (omega (arith, h, past_some b kn)))
        (frame.frame_kept b.machine m (a_store x) (subst (Frame b.machine m) e f) l (λ z. z) (λ z. z))
    by (a_persist x) e = no (a_persist x) e (λ z. z)
    by (a_flush k x) e = no (a_flush k x) e (λ z. z)
    by (a_fence k x) e = no (a_fence k x) e (λ z. z)

module _ (d : Bench) (l : Line) (c : Content) (p : ℕ) (b : Bench) (kn : Known b) (e : Event) (ne : Crash e → ⊥) (t : Takes p b.machine e)
    (u : Before b d) (u₁ : Before (onto b e) d) where
  abbrev m₁ : Machine
  m₁ = events.next b.machine e

  long : length (onto b e).past ≡ suc (length b.past)
  long = ap (λ (x : Bench). length x.past) (events.onto_goes p b e t ne) ∙ length-append b.past (m₁ ∷ []) ∙ omega arith

  pub goes : (r : ℕ) → r ≤ length b.past → Stands d l c b r → Due d l c (onto b e) r
  goes r h (anyway q k) = anyway q k
  goes r h (later i q k w) = later i q (omega (arith, long)) w
  goes r h (done k q) = done k q
  goes r h (next i q w k) =
      ripe (omega (arith, long, w.counts)) (ap (λ j. at_moment d j l) (let y : length (onto b e).past - 1 ≡ suc i = omega (arith, long) in y) ∙ w.comes)
      (λ z. k (sym same ∙ z))
    where
      before : cached_at b.machine l ≢ c
      before z = w.other (ap (λ j. at_moment d j l) (let y : i ≡ length b.past - 1 = omega (arith, q) in y) ∙ now_is d l c b kn u ∙ z)

      after : cached_at m₁ l ≡ c
      after =
          ap (λ (x : Machine). cached_at x l) (sym (events.onto_machine p b e t ne)) ∙ sym (now_is d l c (onto b e) (events.onto_known p b e t kn) u₁)
          ∙ ap (λ j. at_moment d j l) (let y : length (onto b e).past - 1 ≡ suc i = omega (arith, long) in y) ∙ w.comes

      same : left_with (onto b e) r l ≡ left_with b r l
      same =
          ap (λ (x : Bench). left_with x r l) (events.onto_goes p b e t ne)
          ∙ stored b kn m₁ (touch b.machine e) (acts.frame_done b.machine e (deed_of e.kind) ne) l (λ z. before (sym z ∙ after)) r h

-- ---- a recorded write-back of the line still to come, and the end

-- a line that will count from a later moment has the recorded copy
pub untouched : (d : Bench) (l : Line) (c : Content) (b : Bench) (r : ℕ) → r ≤ length b.past → length b.past ≤ d.from l → Stands d l c b r
    → left_with b r l ≡ persisted_at b.machine l
untouched d l c b r h k (anyway q e) = left_old b r l (omega (arith, q))
untouched d l c b r h k (later i q j w) = left_old b r l (omega (arith, q))
untouched d l c b r h k (next i q w ne) = absurd (omega (arith, w.counts, q))
untouched d l c b r h k (done q e) = absurd (omega (arith, q))

pub ended : (d : Bench) (l : Line) (c : Content) (r : ℕ) → Stands d l c d r → left_with d r l ≡ c
ended d l c r (anyway q e) = left_old d r l (omega (arith, q)) ∙ e
ended d l c r (later i q h w) = absurd (omega (arith, h, w.there))
ended d l c r (next i q w ne) = absurd (omega (arith, q, w.there))
ended d l c r (done h e) = left_new d r l h ∙ e
