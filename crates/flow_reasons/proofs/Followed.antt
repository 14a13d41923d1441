-- The reasons that are followed from some variables.
use Rattle.std.proofs.Common.{◌≡◌, ◌↔◌, ◌<◌, ◌≤◌, ◌+◌, ◌⊎◌, inl, inr, ℕ, zero, suc, Bool, true, false, List, [], length, get_or, refl, sym, ap, ◌∙◌, subst, arith, ltb, ◌==◌, if◌then◌else◌, eq-eqb}
use Rattle.std.proofs.lemmas.Bool.{ltb-true, ltb-false, cases_eq, eqb-true}
use Rattle.std.specs.List.Sorted.{IsPartitionPoint, IsNonDecreasingBy}
use Rattle.ar_base.specs.Lists.{Stands, IsOneOf}
use Rattle.ar_base.specs.Numbers.{VarId}
use Rattle.ar_base.proofs.Standing.{at_most, stands_one, stands_none, stands_within, stands_some, stands_map, stands_map_back, stands_get, one_none, one_here}
use Rattle.domains.specs.declared.Value.{Value}
use Rattle.typed_expr.specs.Mentions.{Mentions}
use Rattle.typed_expr.specs.declared.expr.Expr.{Expr, out-Expr}
use Rattle.ar_meaning.specs.Systems as s
use Rattle.flow_reasons.specs.Reasons.{IsReason, derived, reset, AreReasonsFrom, AreReasons, none, state, flow, InCone, named, rested_on}
use Rattle.flow_reasons.specs.ReasonsInside.{IsReasonCone}
use Rattle.flow_reasons.specs.Reasons as rounds
use Rattle.flow_reasons.proofs.RoundStanding.{reason_at}
use Rattle.gts_core.specs.Sound.{IsSound}
use Rattle.gts_core.specs.View.{net_of, numbered, variable_of}
use Rattle.gts_core.specs.declared.system.Observer.{Observer}
use Rattle.gts_core.specs.declared.system.GtsParts.{GtsParts}
use Rattle.gts_core.proofs.NamesNumbered.{mentions_there, mentions_back}
use Rattle.gts_core.proofs.Viewing.{variable_there, are_numbered}
use Rattle.gts_core.specs.Adding.{Adds, HasThose}
use Rattle.gts_core.proofs.Added.{those_of_empty}
use Rattle.flow_reasons.specs.Answers.{numbers_of, reason_of, reasons_of}
use Rattle.flow_propagate.specs.Marks.{AreMarked}
use Rattle.flow_reasons.specs.Cones.{SeesAll, RestsUpon, AreOrderly, IsVariableReached, begins, follows, AreReachedVariables, AreMembers, AreRestsUpon, NamesNumber}
use Rattle.flow_reasons.specs.declared.reason.Reason.{Reason}

-- the reason of a variable among those in order
module _ (reasons : List Reason) (x from count : ℕ) (orderly : AreOrderly count (reasons_of reasons))
    (low : IsPartitionPoint (λ (r : Reason). ltb r.flow.n x ≡ true) (λ (r : Reason). ltb r.flow.n x ≡ false) reasons
    from) where
  found_at : (k : ℕ) (r : Reason) → Stands reasons k r → r.flow.n ≡ x → k ≡ from
  found_at k r st e =
      let l = stands_within reasons k r st in
      let is = stands_one reasons k (get_or reasons k r) r (stands_get reasons k r l) st in
      let here : (get_or reasons k r).flow.n ≡ x = ap (λ (z : Reason). z.flow.n) is ∙ e in
      let early : k < from → ⊥ = λ h. (let a = ltb-true _ _ (low.0 k r (omega arith) h) in omega (arith, a, here)) in
      let late : from < k → ⊥ = λ h. (
      let q = stands_some reasons from (omega (arith, l, h)) in
      let i = stands_one reasons from (get_or reasons from q.0) q.0 (stands_get reasons from q.0 (omega (arith, l, h)))
      q.1 in
      let a = ltb-false _ _ (low.1 from q.0 (omega arith) (omega (arith, l, h))) in
      let b = orderly.ascend from k (reason_of q.0) (reason_of r) h (stands_map reason_of reasons from q.0 q.1)
      (stands_map reason_of reasons k r st) in
      let j = ap (λ (z : Reason). z.flow.n) i in omega (arith, a, b, j, e)) in
      omega (arith, early, late)

  -- a variable that the reason rests on, by the list
  rests_at : (n : ℕ) → RestsUpon (reasons_of reasons) x n
      → (r : Reason) × Stands reasons from r × (r.flow.n ≡ x) × IsOneOf (numbers_of r.rests_on.items) n
  rests_at n h =
      let b = stands_map_back reason_of reasons h.is_one.place h.reason h.is_one.stands in
      let e : b.0.flow.n ≡ x = ap (λ (z : rounds.Reason). z.flow) b.2 ∙ h.is_flow in
      let k = found_at h.is_one.place b.0 b.1 e in (
        b.0,
        subst (λ z. Stands reasons z b.0) k b.1,
        e,
        subst (λ (z : rounds.Reason). IsOneOf z.rests_on n) (sym b.2)
            h.rests,
      )

  pub rests_none : length reasons ≤ from → AreRestsUpon (reasons_of reasons) x []
  rests_none l = record {
    each = λ n. (λ o. absurd (one_none n o), λ h. (let r = rests_at n h in let w = stands_within reasons from r.0 r.1 in absurd (omega (arith, l, w))));
  }

  pub rests_here : (r : Reason) → Stands reasons from r → r.flow.n ≡ x
      → AreRestsUpon (reasons_of reasons) x (numbers_of r.rests_on.items)
  rests_here r st e = record {
    each = λ n. (
      λ o. record {
        reason = reason_of r;
        is_one = one_here (reasons_of reasons) from (reason_of r) (stands_map reason_of reasons from r st);
        is_flow =
            e;
        rests = o;
      },
      λ h. (let q = rests_at n h in
          subst (λ (z : Reason). IsOneOf (numbers_of z.rests_on.items) n) (stands_one reasons from q.0 r q.1 st) q.3),
    );
  }

  pub rests_other : (r : Reason) → Stands reasons from r → (r.flow.n ≡ x → ⊥) → AreRestsUpon (reasons_of reasons) x []
  rests_other r st d = record {
    each = λ n. (
      λ o. absurd (one_none n o),
      λ h. (let q = rests_at n h in absurd (d (sym (ap (λ (z : Reason). z.flow.n) (stands_one reasons from q.0 r q.1 st)) ∙ q.2))),
    );
  }

  pub rests_chosen : (r : Reason) → Stands reasons from r
      → AreRestsUpon (reasons_of reasons) x (numbers_of (if r.flow.n == x then r.rests_on.items else []))
  rests_chosen r st = go (r.flow.n == x) refl
    where
      go : (b : Bool) → (r.flow.n == x) ≡ b
          → AreRestsUpon (reasons_of reasons) x (numbers_of (if b then r.rests_on.items else []))
      go true e = rests_here r st (eqb-true _ _ e)
      go false e = rests_other r st (λ i. (let f = eq-eqb _ _ i in cc (e, f)))

-- what was followed so far
pub record Closing (reasons : List rounds.Reason) (first : List ℕ) (seen : List Bool) (found : List ℕ) (at : ℕ) : Type
    0 where
  pub are : AreMarked seen found
  pub sound : (n : ℕ) → IsOneOf found n → IsVariableReached reasons first n
  pub starts : (n : ℕ) → IsOneOf first n → IsOneOf found n
  pub closed : (j m n : ℕ) → j < at → Stands found j m → RestsUpon reasons m n → IsOneOf found n

module _ (reasons : List rounds.Reason) (first : List ℕ) where
  pub closing_start : (seen seen_then : List Bool) (found : List ℕ) → SeesAll first seen seen_then [] found
      → Closing reasons first seen_then found 0
  closing_start seen seen_then found h = record {
    are = h.are;
    sound = λ n o. elim ((h.each n).0 o) [ inl k ↦ absurd (one_none n k) | inr k ↦ begins k ];
    starts = λ n o. (h.each n).1 (inr o);
    closed = λ j m n l. absurd (omega (arith, l));
  }

  pub closing_more : (seen seen_then : List Bool) (found more : List ℕ) (at m : ℕ) (numbers : List ℕ)
      → Closing reasons first seen found at → Stands found at m
      → AreRestsUpon reasons m numbers → SeesAll numbers seen seen_then found more
      → Closing reasons first seen_then more (at + 1)
  closing_more seen seen_then found more at m numbers c sm upon h = record {
    are = h.are;
    sound = λ n o. elim ((h.each n).0 o) [
      | inl k ↦ c.sound n k
      | inr k ↦ follows (c.sound m (one_here found at m sm)) ((upon.each n).0 k)
    ];
    starts = λ n o. (h.each n).1 (inl (c.starts n o));
    closed = λ j x n l sx r. elim (at_most j at l) [
      | inl k ↦ (let w = stands_within found at m sm in
          let y = stands_some found j (omega (arith, k, w)) in
          let e = stands_one more j x y.0 sx (h.front j y.0 y.1) in
          (h.each n).1 (inl (c.closed j y.0 n k y.1 (subst (λ z. RestsUpon reasons z n) e r))))
      | inr i ↦ (let e = stands_one more at x m (subst (λ z. Stands more z x) i sx) (h.front at m sm) in
          (h.each n).1 (inr ((upon.each n).1 (subst (λ z. RestsUpon reasons z n) e r))))
    ];
  }

  pub closing_done : (seen : List Bool) (found : List ℕ) (at : ℕ)
      → length found ≤ at → Closing reasons first seen found at → AreReachedVariables reasons first seen
  closing_done seen found at l c = record
      { sound = λ n s. c.sound n ((c.are.each n).1 s); whole = λ n h. (c.are.each n).0 (back h) }
    where
      back : {n : ℕ} → IsVariableReached reasons first n → IsOneOf found n
      back {n = n} (begins o) = c.starts n o
      back {n = n} (follows {m = m} h r) =
          let o = back h in
          let w = stands_within found o.place m o.stands in
          c.closed o.place m n (omega (arith, l, w)) o.stands r

  pub reached_below : (count : ℕ) → ((n : ℕ) → IsOneOf first n → n < count) → AreOrderly count reasons → {n : ℕ}
      → IsVariableReached reasons first n → n < count
  reached_below count below orderly {n = n} (begins o) = below n o
  reached_below count below orderly {n = n} (follows h r) = orderly.below r.reason n r.is_one r.rests

-- the reasons of a state are orderly
module _ {V : Type 0} (net : s.Net V) (t : List Value) where
  from_least : {n : ℕ} {xs : List (s.Variable V)} {rs : List rounds.Reason} → AreReasonsFrom net t n xs rs
      → (r : rounds.Reason) → IsOneOf rs r → n ≤ r.flow
  from_least d r o = let h = reason_at net t d r o in omega (arith, h.number)

  ascending : {n : ℕ} {xs : List (s.Variable V)} {rs : List rounds.Reason} → AreReasonsFrom net t n xs rs
      → (j k : ℕ) (q r : rounds.Reason) → j < k → Stands rs j q
      → Stands rs k r → q.flow < r.flow
  ascending none j k q r l a b = absurd (stands_none j q a)
  ascending (state i d) j k q r l a b = ascending d j k q r l a b
  ascending (flow i e w d) j zero q r l a b = absurd (omega (arith, l))
  ascending {n = n} (flow {r = x} {rs = xs} i e w d) zero (suc k) q r l a b =
      let f : x ≡ q = cc in
      let h = from_least d r (one_here xs k r b) in
      let g = ap (λ (z : rounds.Reason). z.flow) f in omega (arith, h, g, e)
  ascending (flow i e w d) (suc j) (suc k) q r l a b = ascending d j k q r (omega (arith, l)) a b

  pub orderly : (rs : List rounds.Reason) → AreReasons net t rs → AreOrderly (length net.variables) rs
  orderly rs are = record {
    ascend = ascending are;
    below = λ r n o i. (let h = reason_at net t are r o in by r n i h.is);
  }
    where
      by : {x : s.Variable V} (r : rounds.Reason) (n : ℕ) → IsOneOf r.rests_on n → IsReason net t x r
          → n < length net.variables
      by r n i (derived d) = let f = d.rests_on.sound n i in stands_within net.variables n f.variable f.stands
      by r n i (reset d) = absurd (one_none n (subst (λ z. IsOneOf z n) d.rests_on i))

-- the numbers of the variables of an expression
pub names_numbers : (e : Expr VarId) (before first : List VarId) → before ≡ []
    → Adds (λ x. Mentions x (out-Expr VarId e)) before first → (n : ℕ) → IsOneOf (numbers_of first) n ↔ NamesNumber e n
names_numbers e before first empty adds n = (on, off)
  where
    those : HasThose (λ x. Mentions x (out-Expr VarId e)) first
    those = those_of_empty (λ x. Mentions x (out-Expr VarId e)) before first empty adds

    on : IsOneOf (numbers_of first) n → NamesNumber e n
    on o =
        let b = stands_map_back (λ (x : VarId). x.n) first o.place n o.stands in
        record { variable = b.0; names = those.only b.0 (one_here first o.place b.0 b.1); is = b.2 }

    off : NamesNumber e n → IsOneOf (numbers_of first) n
    off h =
        let o = those.each h.variable h.names in
        let numbers = numbers_of first in
        one_here numbers o.place n
        (subst (λ z. Stands numbers o.place z) h.is
        (stands_map (λ (x : VarId). x.n) first o.place h.variable o.stands))

-- what is reached is the cone
module _ (p : GtsParts) (sound : IsSound p) (o : Observer) (is_one : IsOneOf p.observers.items o)
    (reasons : List rounds.Reason) (first : List ℕ)
    (names : (n : ℕ) → IsOneOf first n ↔ NamesNumber o.value n) where
  pub first_below : (n : ℕ) → IsOneOf first n → n < length p.variables.items
  first_below n i =
      let h = (names n).0 i in
      subst (λ z. z < length p.variables.items) h.is ((sound.observers o is_one).variables h.variable h.names)

  into_cone : {n : ℕ} → IsVariableReached reasons first n → InCone (net_of p) reasons (numbered o.value) n
  into_cone {n = n} (begins i) =
      let h = (names n).0 i in
      let x = stands_some p.variables.items n (first_below n i) in
      let m = mentions_there h.variable o.value h.names in
      named (variable_of n x.0) (variable_there p n x.0 x.1)
      (subst (λ z. Mentions z (out-Expr ℕ (numbered o.value))) h.is m)
  into_cone (follows h r) = rested_on r.reason r.is_one
      (subst (λ z. InCone (net_of p) reasons (numbered o.value) z) (sym r.is_flow) (into_cone h)) r.rests

  from_cone : {n : ℕ} → InCone (net_of p) reasons (numbered o.value) n → IsVariableReached reasons first n
  from_cone {n = n} (named x st m) =
      let e : x.key ≡ n = (are_numbered p).key n x st in
      let k = mentions_back x.key o.value m in
      begins ((names n).1 (record { variable = k.variable; names = k.has; is = k.is ∙ e }))
  from_cone (rested_on r i c k) = follows (from_cone c) (record { reason = r; is_one = i; is_flow = refl; rests = k })

  pub is_cone : (seen : List Bool) (members : List ℕ) → length seen ≡ length p.variables.items
      → AreOrderly (length p.variables.items) reasons
      → AreReachedVariables reasons first seen → AreMembers seen (length seen) members
      → IsReasonCone (net_of p) reasons (numbered o.value) members
  is_cone seen members long order reached are = record {
    ascends = are.ascends;
    sound = λ n i. into_cone (reached.sound n ((are.each n).0 i).1);
    whole = λ n c.
        let h = from_cone c in
        let l = reached_below reasons first (length p.variables.items) first_below order h in
        (are.each n).1 (omega (arith, l, long), reached.whole n h);
  }

-- the flows of reasons in order do not descend
pub flows_rise : (reasons : List Reason) (count : ℕ) → AreOrderly count (reasons_of reasons)
    → IsNonDecreasingBy (λ (r : Reason). r.flow.n) reasons
flows_rise reasons count order = λ i j d l h. go i j d l h (cases_eq i j)
  where
    go : (i j : ℕ) (d : Reason) → i ≤ j → j < length reasons → (i ≡ j) ⊎ (i ≡ j → ⊥)
        → (get_or reasons i d).flow.n ≤ (get_or reasons j d).flow.n
    go i j d l h (inl e) = let f = ap (λ n. (get_or reasons n d).flow.n) e in omega (arith, f)
    go i j d l h (inr n) =
        let less : i < j = omega (arith, l, n) in
        let k = order.ascend i j (reason_of (get_or reasons i d)) (reason_of (get_or reasons j d)) less
        (stands_map reason_of reasons i (get_or reasons i d) (stands_get reasons i d (omega (arith, h, less))))
        (stands_map reason_of reasons j (get_or reasons j d) (stands_get reasons j d h)) in
        omega (arith, k)
