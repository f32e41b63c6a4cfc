-- What the contents of nodes can be: ghost state, clauses, and how a write-back and a store keep them.
use mathlib.Core.Path.{◌≡◌, sym, subst, ap, ◌∙◌}
use mathlib.Core.Bool.{Bool, true}
use mathlib.Core.Logic.{◌⊎◌, inl, inr}
use Prim.Native.Nat.{ℕ, ◌≤◌, ◌<◌}
use native.Mathlib.Omega.{arith}
use native.Mathlib.Decide.{ℕ_discrete}
use Rattle.model.specs.Basics.{upd}
use Rattle.model.specs.Core.{Node}
use Rattle.model.proofs.Basics.{upd_other, upd_at}
use Rattle.model.proofs.Layer1.Ghost.{lent_w, lent, Place, queue, waiting, deqd, kept, enqd, spare, off, poss, Live}

-- item: what was enqueued at each place of the log; pp: the place of the persisted head; safe: the line was persisted behind A9
pub record Pg : Type 0 where
  pub item : ℕ → ℕ
  pub pp : ℕ
  pub safe : ℕ → Bool

-- a content is that of a place of the log
pub record Known (who idx item : ℕ → ℕ) (len n : ℕ) (c : Node) : Type 0 where
  pub at : ℕ
  pub inside : at < len
  pub is : who at ≡ n
  pub ix : idx at ≡ c.index
  pub val : item at ≡ c.item

-- in these places nothing of the node survives
abbrev pub Quiet : ℕ → Node → Place → Type 0
Quiet top c (queue q) = Unit {0}
Quiet top c (waiting q) = c.linked ≡ true → c.index ≤ top
Quiet top c (deqd t q) = Unit {0}
Quiet top c (kept t q) = c.linked ≡ true → c.index ≤ top
Quiet top c (enqd t) = c.linked ≡ true → c.index ≤ top
Quiet top c spare = c.linked ≡ true → c.index ≤ top
Quiet top c off = c.linked ≡ true → c.index ≤ top
Quiet top c lent = c.linked ≡ true → c.index ≤ top
Quiet top c lent_w = c.linked ≡ true → c.index ≤ top

-- a place p of the log whose node is now at a place: it is the node's last, or the persisted head is past it
abbrev pub Gone : ℕ → ℕ → Place → Type 0
Gone pp p (queue q) = (p ≡ q) ⊎ (p < pp)
Gone pp p (waiting q) = p < pp
Gone pp p (deqd t q) = (p ≡ q) ⊎ (p < pp)
Gone pp p (kept t q) = p < pp
Gone pp p (enqd t) = p < pp
Gone pp p spare = p < pp
Gone pp p off = p < pp
Gone pp p lent = p < pp
Gone pp p lent_w = p < pp

pub record NodeP (len pp : ℕ) (who idx item : ℕ → ℕ) (own : ℕ → Place) (node : ℕ → Node) (nhist : ℕ → Node → Type 0) (safe : ℕ → Bool) : Type 0 where
  pub cached : (n : ℕ) → nhist n (node n)
  pub linked : (n : ℕ) (c : Node) → nhist n c → c.linked ≡ true → (c.index ≤ idx pp) ⊎ Known who idx item len n c
  pub quiet : (n : ℕ) (c : Node) → nhist n c → Quiet (idx pp) c (own n)
  pub gone : (p : ℕ) → p < len → Gone pp p (own (who p))
  pub values : (q : ℕ) → Live who (poss own) q → (node (who q)).item ≡ item q
  pub safely : (p : ℕ) → p < len → safe p ≡ true → (p ≤ pp) ⊎ ((c : Node) → nhist (who p) c → (c.linked ≡ true) × (c.index ≡ idx p))

-- ---- the persisted head moves on

pub idx_mono : (idx : ℕ → ℕ) (len : ℕ) → ((p q : ℕ) → p < q → q < len → idx p < idx q) → (p q : ℕ) → p ≤ q → q < len → idx p ≤ idx q
idx_mono idx len r p q h k = by (ℕ_discrete p q)
  where
    by : Dec (p ≡ q) → idx p ≤ idx q
    by (yes e) = rw e (omega arith)
    by (no ne) = omega (arith, r p q (omega arith) k)

quiet_up : (top top' : ℕ) (c : Node) (p : Place) → top ≤ top' → Quiet top c p → Quiet top' c p
quiet_up top top' c (queue q) h k = tt
quiet_up top top' c (waiting q) h k = λ l. omega (arith, k l)
quiet_up top top' c (deqd t q) h k = tt
quiet_up top top' c (kept t q) h k = λ l. omega (arith, k l)
quiet_up top top' c (enqd t) h k = λ l. omega (arith, k l)
quiet_up top top' c spare h k = λ l. omega (arith, k l)
quiet_up top top' c off h k = λ l. omega (arith, k l)
quiet_up top top' c lent h k = λ l. omega (arith, k l)
quiet_up top top' c lent_w h k = λ l. omega (arith, k l)

or_up : {A : Type 0} {p pp pp' : ℕ} → pp ≤ pp' → A ⊎ (p < pp) → A ⊎ (p < pp')
or_up h (inl a) = inl a
or_up h (inr b) = inr (omega arith)

up_or : {A : Type 0} {p pp pp' : ℕ} → pp ≤ pp' → (p ≤ pp) ⊎ A → (p ≤ pp') ⊎ A
up_or h (inl a) = inl (omega arith)
up_or h (inr b) = inr b

gone_up : (pp pp' p : ℕ) (x : Place) → pp ≤ pp' → Gone pp p x → Gone pp' p x
gone_up pp pp' p (queue q) h k = or_up h k
gone_up pp pp' p (waiting q) h k = omega arith
gone_up pp pp' p (deqd t q) h k = or_up h k
gone_up pp pp' p (kept t q) h k = omega arith
gone_up pp pp' p (enqd t) h k = omega arith
gone_up pp pp' p spare h k = omega arith
gone_up pp pp' p off h k = omega arith
gone_up pp pp' p lent h k = omega arith
gone_up pp pp' p lent_w h k = omega arith

module _ (len pp pp' : ℕ) (who idx item : ℕ → ℕ) (own : ℕ → Place) (node : ℕ → Node) (nhist : ℕ → Node → Type 0) (safe : ℕ → Bool)
    (i : NodeP len pp who idx item own node nhist safe) (tops : idx pp ≤ idx pp') (pps : pp ≤ pp') where
  pub pp_up : NodeP len pp' who idx item own node nhist safe
  pp_up = record {
    cached = i.cached;
    linked = λ n c h l. up_or tops (i.linked n c h l);
    quiet = λ n c h. quiet_up (idx pp) (idx pp') c (own n) tops (i.quiet n c h);
    gone = λ p h. gone_up pp pp' p (own (who p)) pps (i.gone p h);
    values = i.values;
    safely = λ p h s. up_or pps (i.safely p h s);
  }

-- ---- there are no more contents than there were

module _ (len pp : ℕ) (who idx item : ℕ → ℕ) (own : ℕ → Place) (node : ℕ → Node) (nhist nhist' : ℕ → Node → Type 0) (safe : ℕ → Bool)
    (i : NodeP len pp who idx item own node nhist safe) where
  pub fewer_n : ((n : ℕ) (c : Node) → nhist' n c → nhist n c) → ((n : ℕ) → nhist' n (node n)) → NodeP len pp who idx item own node nhist' safe
  fewer_n fewer here = record {
    cached = here;
    linked = λ k c h l. i.linked k c (fewer k c h) l;
    quiet = λ k c h. i.quiet k c (fewer k c h);
    gone = i.gone;
    values = i.values;
    safely = λ p h s. on p (i.safely p h s);
  }
    where
      on : (p : ℕ) → (p ≤ pp) ⊎ ((c : Node) → nhist (who p) c → (c.linked ≡ true) × (c.index ≡ idx p))
          → (p ≤ pp) ⊎ ((c : Node) → nhist' (who p) c → (c.linked ≡ true) × (c.index ≡ idx p))
      on p (inl a) = inl a
      on p (inr b) = inr (λ c h. b c (fewer (who p) c h))

  -- a store, with what is to be shown of the new content
  module _ (n : ℕ) (a : Node) (more : (k : ℕ) (c : Node) → nhist' k c → nhist k c ⊎ ((k ≡ n) × (c ≡ a))) (here : (k : ℕ) → nhist' k (upd node n a k))
      (okL : a.linked ≡ true → (a.index ≤ idx pp) ⊎ Known who idx item len n a) (okQ : Quiet (idx pp) a (own n))
      (okV : (q : ℕ) → Live who (poss own) q → who q ≡ n → a.item ≡ item q)
      (okS : (p : ℕ) → p < len → who p ≡ n → safe p ≡ true → (p ≤ pp) ⊎ ((a.linked ≡ true) × (a.index ≡ idx p))) where
    pub stored_p : NodeP len pp who idx item own (upd node n a) nhist' safe
    stored_p = record {
      cached = here;
      linked = λ k c h l. lk k c l (more k c h);
      quiet = λ k c h. qt k c (more k c h);
      gone = i.gone;
      values = λ q l. vl q l (ℕ_discrete (who q) n);
      safely = λ p h s. sf p h s (i.safely p h s);
    }
      where
        lk : (k : ℕ) (c : Node) → c.linked ≡ true → nhist k c ⊎ ((k ≡ n) × (c ≡ a)) → (c.index ≤ idx pp) ⊎ Known who idx item len k c
        lk k c l (inl h) = i.linked k c h l
        lk k c l (inr e) = subst (λ k. (c.index ≤ idx pp) ⊎ Known who idx item len k c) (sym e.0)
            (subst (λ c. c.linked ≡ true → (c.index ≤ idx pp) ⊎ Known who idx item len n c) (sym e.1) okL l)

        qt : (k : ℕ) (c : Node) → nhist k c ⊎ ((k ≡ n) × (c ≡ a)) → Quiet (idx pp) c (own k)
        qt k c (inl h) = i.quiet k c h
        qt k c (inr e) = subst (λ k. Quiet (idx pp) c (own k)) (sym e.0) (subst (λ c. Quiet (idx pp) c (own n)) (sym e.1) okQ)

        vl : (q : ℕ) → Live who (poss own) q → Dec (who q ≡ n) → (upd node n a (who q)).item ≡ item q
        vl q l (yes e) = ap (λ z. z.item) (upd_at node n a e) ∙ okV q l e
        vl q l (no ne) = ap (λ z. z.item) (upd_other node n a ne) ∙ i.values q l

        sf : (p : ℕ) → p < len → safe p ≡ true → (p ≤ pp) ⊎ ((c : Node) → nhist (who p) c → (c.linked ≡ true) × (c.index ≡ idx p))
            → (p ≤ pp) ⊎ ((c : Node) → nhist' (who p) c → (c.linked ≡ true) × (c.index ≡ idx p))
        sf p h s (inl x) = inl x
        sf p h s (inr f) = at (ℕ_discrete (who p) n)
          where
            both : (who p ≡ n → (a.linked ≡ true) × (a.index ≡ idx p)) → (c : Node) → nhist (who p) c ⊎ ((who p ≡ n) × (c ≡ a))
                → (c.linked ≡ true) × (c.index ≡ idx p)
            both o c (inl h) = f c h
            both o c (inr e) = subst (λ c. (c.linked ≡ true) × (c.index ≡ idx p)) (sym e.1) (o e.0)

            new : (p ≤ pp) ⊎ ((a.linked ≡ true) × (a.index ≡ idx p))
                → (p ≤ pp) ⊎ ((c : Node) → nhist' (who p) c → (c.linked ≡ true) × (c.index ≡ idx p))
            new (inl x) = inl x
            new (inr o) = inr (λ c h. both (λ e. o) c (more (who p) c h))

            at : Dec (who p ≡ n) → (p ≤ pp) ⊎ ((c : Node) → nhist' (who p) c → (c.linked ≡ true) × (c.index ≡ idx p))
            at (yes e) = new (okS p h e s)
            at (no ne) = inr (λ c h. both (λ e. absurd (ne e)) c (more (who p) c h))
