-- Values stay as they are when gates are added, and the gates that are made have the values they are made for.
use Rattle.std.proofs.Common.{◌≡◌, ℕ, zero, suc, ◌+◌, ◌<◌, inl, inr, Bool, true, false, not, ◌&&◌, ◌||◌, List, [], ◌∷◌, ◌++◌, length, refl, sym, ap, ap₂, ◌∙◌, subst, arith, append_assoc, append-nil, length-append}
use Rattle.std.proofs.lemmas.Bool.{or_cases, or_right, or_left, and_from, and_parts}
use Rattle.std.proofs.Math.Bool.{or-true}
use Rattle.ar_base.specs.Lists.{Stands, IsOneOf}
use Rattle.ar_base.proofs.Standing.{stands_none}
use Rattle.ar_base.proofs.Truths.{not_true, true_not}
use Rattle.eq_core.specs.Gates.{Operand, Always, Never, EventIs, GateIs, Gate, Made, opposite, neutral, closed_as, joined, all_of, any_of}
use Rattle.eq_core.specs.Ordered.{NamesEarlier, AreBelow, IsInPlace}
use Rattle.eq_core.specs.Values.{has_event, value_of_gate, signed, operand_at, joint_at, values_from, values_at, value_at}
use Rattle.eq_core.specs.ValuesInside.{IsBelow, IsTrueWhere, GainsGates, EachTrue, OneTrue}

-- more gates
pub grows_self : (gates : List Gate) → GainsGates gates gates
grows_self gates = record { more = []; is = sym (append-nil gates) }

pub grows_on : {g h i : List Gate} → GainsGates g h → GainsGates h i → GainsGates g i
grows_on {g = g} a b = record
    { more = a.more ++ b.more; is = b.is ∙ ap (λ z. z ++ b.more) a.is ∙ append_assoc g a.more b.more }

-- the values of more gates begin with those of the first
pub longer : (set : List ℕ) (before : List Bool) (gs : List Gate)
    → (rest : List Bool) × (values_from set before gs ≡ before ++ rest) × (length rest ≡ length gs)
longer set before [] = ([], sym (append-nil before), refl)
longer set before (g ∷ gs) =
    let b = joint_at g.both set before g.operands in
    let r = longer set (before ++ b ∷ []) gs in
    (b ∷ r.0, r.1 ∙ append_assoc before (b ∷ []) r.0, ap suc r.2)

pub in_two : (set : List ℕ) (before : List Bool) (gs hs : List Gate)
    → values_from set before (gs ++ hs) ≡ values_from set (values_from set before gs) hs
in_two set before [] hs = refl
in_two set before (g ∷ gs) hs = in_two set (before ++ joint_at g.both set before g.operands ∷ []) gs hs

pub length_of_values : (set : List ℕ) (gates : List Gate) → length (values_at set gates) ≡ length gates
length_of_values set gates = let r = longer set [] gates in ap length r.1 ∙ r.2

pub gate_kept : (xs ys : List Bool) (n : ℕ) → n < length xs → value_of_gate (xs ++ ys) n ≡ value_of_gate xs n
gate_kept [] ys n l = absurd (omega (arith, l))
gate_kept (x ∷ xs) ys zero l = refl
gate_kept (x ∷ xs) ys (suc n) l = gate_kept xs ys n (omega (arith, l))

pub gate_next : (xs : List Bool) (b : Bool) (n : ℕ) → n ≡ length xs → value_of_gate (xs ++ b ∷ []) n ≡ b
gate_next [] b zero e = refl
gate_next [] b (suc n) e = absurd (omega (arith, e))
gate_next (x ∷ xs) b zero e = absurd (omega (arith, e))
gate_next (x ∷ xs) b (suc n) e = gate_next xs b n (omega (arith, e))

pub operand_kept : (set : List ℕ) (xs ys : List Bool) (o : Operand) → IsBelow (length xs) o
    → operand_at set (xs ++ ys) o ≡ operand_at set xs o
operand_kept set xs ys Always l = refl
operand_kept set xs ys Never l = refl
operand_kept set xs ys (EventIs e sign) l = refl
operand_kept set xs ys (GateIs g sign) l = ap (signed sign) (gate_kept xs ys g l)

-- an operand keeps its value when gates are added
pub value_kept : (set : List ℕ) {old new : List Gate} (o : Operand) → GainsGates old new → IsBelow (length old) o
    → value_at new o set ≡ value_at old o set
value_kept set {old = old} {new = new} o g l =
    let r = longer set (values_at set old) g.more in
    let e : values_at set new ≡ values_at set old ++ r.0 = ap (values_at set) g.is ∙ in_two set [] old g.more ∙ r.1 in
    ap (λ z. operand_at set z o) e ∙ operand_kept set (values_at set old) r.0 o
    (subst (λ n. IsBelow n o) (sym (length_of_values set old)) l)

pub below_kept : {old new : List Gate} (o : Operand) → GainsGates old new → IsBelow (length old) o → IsBelow (length new) o
below_kept Always g l = tt
below_kept Never g l = tt
below_kept (EventIs e sign) g l = tt
below_kept {old = old} {new = new} (GateIs n sign) g l = let e : length new ≡ length old + length g.more = ap length
    g.is ∙ length-append old g.more in omega (arith, e, l)

pub tells_kept : {set : List ℕ} {old new : List Gate} {o : Operand} {P : Type 0} → GainsGates old new → IsTrueWhere set old o
    P → IsTrueWhere set new o P
tells_kept {set = set} {o = o} g t =
    let e = value_kept set o g t.below in
    record { below = below_kept o g t.below; true_so = λ h. t.true_so (sym e ∙ h); so_true = λ p. e ∙ t.so_true p }

-- the same operand tells of what is as much
pub tells_as : {set : List ℕ} {gates : List Gate} {o : Operand} {P Q : Type 0} → (P → Q) → (Q → P)
    → IsTrueWhere set gates o P → IsTrueWhere set gates o Q
tells_as f g t = record { below = t.below; true_so = λ h. f (t.true_so h); so_true = λ q. t.so_true (g q) }

pub tells_always : {set : List ℕ} {gates : List Gate} {P : Type 0} → P → IsTrueWhere set gates Always P
tells_always p = record { below = tt; true_so = λ h. p; so_true = λ p. refl }

pub tells_never : {set : List ℕ} {gates : List Gate} {P : Type 0} → (P → ⊥) → IsTrueWhere set gates Never P
tells_never n = record { below = tt; true_so = λ h. absurd cc; so_true = λ p. absurd (n p) }

pub turned : (set : List ℕ) (values : List Bool) (o : Operand)
    → operand_at set values (opposite o) ≡ not (operand_at set values o)
turned set values Always = refl
turned set values Never = refl
turned set values (EventIs e true) = refl
turned set values (EventIs e false) = twice (has_event set e)
  where
    twice : (b : Bool) → b ≡ not (not b)
    twice true = refl
    twice false = refl
turned set values (GateIs g true) = refl
turned set values (GateIs g false) = twice (value_of_gate values g)
  where
    twice : (b : Bool) → b ≡ not (not b)
    twice true = refl
    twice false = refl

pub opposite_below : (n : ℕ) (o : Operand) → IsBelow n o → IsBelow n (opposite o)
opposite_below n Always l = tt
opposite_below n Never l = tt
opposite_below n (EventIs e sign) l = tt
opposite_below n (GateIs g sign) l = l

pub tells_opposite : {set : List ℕ} {gates : List Gate} {o : Operand} {P : Type 0} → IsTrueWhere set gates o P
    → IsTrueWhere set gates (opposite o) (P → ⊥)
tells_opposite {set = set} {gates = gates} {o = o} t =
    let v = values_at set gates in
    let e = turned set v o in
    record {
      below = opposite_below (length gates) o t.below;
      true_so = λ h p. not_true (operand_at set v o) (sym e ∙ h) (t.so_true p);
      so_true = λ n. e ∙ true_not (operand_at set v o) (λ h. n (t.true_so h));
    }

-- what a joint is worth: its operands before and behind
joint_two : (both : Bool) (set : List ℕ) (values : List Bool) (kept : List Operand) (o : Operand) (os : List Operand)
    → joint_at both set values ((kept ++ o ∷ []) ++ os) ≡ joint_at both set values (kept ++ o ∷ os)
joint_two both set values kept o os = ap (joint_at both set values) (append_assoc kept (o ∷ []) os)

-- a neutral operand changes nothing, and its opposite decides
all_skip : (set : List ℕ) (v : List Bool) (kept os : List Operand)
    → joint_at true set v (kept ++ Always ∷ os) ≡ joint_at true set v (kept ++ os)
all_skip set v [] os = refl
all_skip set v (o ∷ kept) os = ap (λ b. operand_at set v o && b) (all_skip set v kept os)

one_skip : (set : List ℕ) (v : List Bool) (kept os : List Operand)
    → joint_at false set v (kept ++ Never ∷ os) ≡ joint_at false set v (kept ++ os)
one_skip set v [] os = refl
one_skip set v (o ∷ kept) os = ap (λ b. operand_at set v o || b) (one_skip set v kept os)

and_false : (b : Bool) → (b && false) ≡ false
and_false true = refl
and_false false = refl

pub and_true : (b : Bool) → b ≡ (b && true)
and_true true = refl
and_true false = refl

or_false : (b : Bool) → b ≡ (b || false)
or_false true = refl
or_false false = refl

all_stop : (set : List ℕ) (v : List Bool) (kept os : List Operand) → joint_at true set v (kept ++ Never ∷ os) ≡ false
all_stop set v [] os = refl
all_stop set v (o ∷ kept) os = ap (λ b. operand_at set v o && b) (all_stop set v kept os) ∙ and_false
    (operand_at set v o)

one_stop : (set : List ℕ) (v : List Bool) (kept os : List Operand) → joint_at false set v (kept ++ Always ∷ os) ≡ true
one_stop set v [] os = refl
one_stop set v (o ∷ kept) os = ap (λ b. operand_at set v o || b) (one_stop set v kept os) ∙ or-true (operand_at set v o)

pub below_head : {n : ℕ} {o : Operand} {os : List Operand} → AreBelow n (o ∷ os) → IsBelow n o
below_head {o = o} a = a.each o (record { place = zero; stands = refl })

pub below_tail : {n : ℕ} {o : Operand} {os : List Operand} → AreBelow n (o ∷ os) → AreBelow n os
below_tail a = record { each = λ p m. a.each p (record { place = suc m.place; stands = m.stands }) }

pub below_more : (n : ℕ) (kept : List Operand) (o : Operand) → AreBelow n kept → IsBelow n o
    → AreBelow n (kept ++ o ∷ [])
below_more n [] o a l = record { each = λ p m. go p m.place m.stands }
  where
    go : (p : Operand) (j : ℕ) → Stands (o ∷ []) j p → IsBelow n p
    go p zero s = let e : o ≡ p = cc in subst (λ z. IsBelow n z) e l
    go p (suc zero) s = cc
    go p (suc (suc j)) s = cc
below_more n (k ∷ kept) o a l = go (below_more n kept o (below_tail a) l)
  where
    at : AreBelow n (kept ++ o ∷ []) → (p : Operand) (j : ℕ) → Stands (k ∷ (kept ++ o ∷ [])) j p → IsBelow n p
    at b p zero s = let e : k ≡ p = cc in subst (λ z. IsBelow n z) e (below_head a)
    at b p (suc j) s = b.each p (record { place = j; stands = s })

    go : AreBelow n (kept ++ o ∷ []) → AreBelow n (k ∷ (kept ++ o ∷ []))
    go b = record { each = λ p m. at b p m.place m.stands }

-- what was made has the joint's value
pub record Joins (both : Bool) (set : List ℕ) (gates : List Gate) (os : List Operand) (m : Made) : Type 0 where
  pub grown : GainsGates gates m.gates
  pub below : IsBelow (length m.gates) m.operand
  pub value : value_at m.gates m.operand set ≡ joint_at both set (values_at set gates) os

joins_as : {both : Bool} {set : List ℕ} {gates : List Gate} {os ps : List Operand} {m : Made}
    → joint_at both set (values_at set gates) os ≡ joint_at both set (values_at set gates) ps
    → Joins both set gates os m → Joins both set gates ps m
joins_as e j = record { grown = j.grown; below = j.below; value = j.value ∙ e }

one_operand : (both : Bool) (set : List ℕ) (v : List Bool) (o : Operand)
    → operand_at set v o ≡ joint_at both set v (o ∷ [])
one_operand true set v o = and_true (operand_at set v o)
one_operand false set v o = or_false (operand_at set v o)

neutral_value : (both : Bool) (set : List ℕ) (v : List Bool) → operand_at set v (neutral both) ≡ both
neutral_value true set v = refl
neutral_value false set v = refl

neutral_below : (both : Bool) (n : ℕ) → IsBelow n (neutral both)
neutral_below true n = tt
neutral_below false n = tt

closed_joins : (both : Bool) (set : List ℕ) (gates : List Gate) (os : List Operand) → AreBelow (length gates) os
    → Joins both set gates os (closed_as both gates os)
closed_joins both set gates [] a = record {
  grown = grows_self gates;
  below = neutral_below both (length gates);
  value = neutral_value both set (values_at set gates);
}
closed_joins both set gates (o ∷ []) a = record {
  grown = grows_self gates;
  below = below_head a;
  value =
      one_operand both set (values_at set gates) o;
}
closed_joins both set gates (o ∷ p ∷ os) a =
    let g : Gate = record { both = both; operands = o ∷ p ∷ os } in
    let v = values_at set gates in
    record {
      grown = record { more = g ∷ []; is = refl };
      below = let e = length-append gates (g ∷ []) in omega (arith, e);
      value = ap (λ z. value_of_gate z (length gates)) (in_two set [] gates (g ∷ [])) ∙ gate_next v
          (joint_at both set v (o ∷ p ∷ os)) (length gates) (sym (length_of_values set gates));
    }

mutual
  all_joins : (set : List ℕ) (gates : List Gate) (kept os : List Operand) → AreBelow (length gates) kept
      → AreBelow (length gates) os → Joins true set gates (kept ++ os) (joined true gates kept os)
  all_joins set gates kept [] a b = joins_as (sym (ap (joint_at true set (values_at set gates)) (append-nil kept)))
      (closed_joins true set gates kept a)
  all_joins set gates kept (Always ∷ os) a b = joins_as (sym (all_skip set (values_at set gates) kept os))
      (all_joins set gates kept os a (below_tail b))
  all_joins set gates kept (Never ∷ os) a b = record
      { grown = grows_self gates; below = tt; value = sym (all_stop set (values_at set gates) kept os) }
  all_joins set gates kept (EventIs e sign ∷ os) a b =
      joins_as (joint_two true set (values_at set gates) kept (EventIs e sign) os) (all_joins set gates (kept ++
      EventIs e sign ∷ []) os (below_more (length gates) kept (EventIs e sign) a tt) (below_tail b))
  all_joins set gates kept (GateIs g sign ∷ os) a b =
      joins_as (joint_two true set (values_at set gates) kept (GateIs g sign) os)
      (all_joins set gates (kept ++ GateIs g sign ∷ []) os
      (below_more (length gates) kept (GateIs g sign) a (below_head b)) (below_tail b))

  one_joins : (set : List ℕ) (gates : List Gate) (kept os : List Operand) → AreBelow (length gates) kept
      → AreBelow (length gates) os → Joins false set gates (kept ++ os) (joined false gates kept os)
  one_joins set gates kept [] a b = joins_as (sym (ap (joint_at false set (values_at set gates)) (append-nil kept)))
      (closed_joins false set gates kept a)
  one_joins set gates kept (Never ∷ os) a b = joins_as (sym (one_skip set (values_at set gates) kept os))
      (one_joins set gates kept os a (below_tail b))
  one_joins set gates kept (Always ∷ os) a b = record
      { grown = grows_self gates; below = tt; value = sym (one_stop set (values_at set gates) kept os) }
  one_joins set gates kept (EventIs e sign ∷ os) a b =
      joins_as (joint_two false set (values_at set gates) kept (EventIs e sign) os) (one_joins set gates (kept ++
      EventIs e sign ∷ []) os (below_more (length gates) kept (EventIs e sign) a tt) (below_tail b))
  one_joins set gates kept (GateIs g sign ∷ os) a b =
      joins_as (joint_two false set (values_at set gates) kept (GateIs g sign) os)
      (one_joins set gates (kept ++ GateIs g sign ∷ []) os
      (below_more (length gates) kept (GateIs g sign) a (below_head b)) (below_tail b))

each_in_joint : (set : List ℕ) (v : List Bool) (os : List Operand) → joint_at true set v os ≡ true
    → (n : ℕ) (o : Operand) → Stands os n o → operand_at set v o ≡ true
each_in_joint set v [] e zero o s = cc
each_in_joint set v [] e (suc n) o s = cc
each_in_joint set v (p ∷ os) e zero o s = let i : p ≡ o = cc in subst (λ z. operand_at set v z ≡ true) i
    (and_parts (operand_at set v p) (joint_at true set v os) e).0
each_in_joint set v (p ∷ os) e (suc n) o s = each_in_joint set v os
    (and_parts (operand_at set v p) (joint_at true set v os) e).1 n o s

joint_of_each : (set : List ℕ) (v : List Bool) (os : List Operand) → ((n : ℕ) (o : Operand) → Stands os n o
    → operand_at set v o ≡ true) → joint_at true set v os ≡ true
joint_of_each set v [] h = refl
joint_of_each set v (o ∷ os) h = and_from (operand_at set v o) (joint_at true set v os) (h zero o refl)
    (joint_of_each set v os (λ n p s. h (suc n) p s))

one_in_joint : (set : List ℕ) (v : List Bool) (os : List Operand) → joint_at false set v os ≡ true
    → (o : Operand) × IsOneOf os o × (operand_at set v o ≡ true)
one_in_joint set v [] e = absurd cc
one_in_joint set v (o ∷ os) e = elim (or_cases (operand_at set v o) (joint_at false set v os) e) [
  | inl h ↦ (o, record { place = zero; stands = refl }, h)
  | inr h ↦ let r = one_in_joint set v os h in (r.0, record { place = suc r.1.place; stands = r.1.stands }, r.2)
]

joint_of_one : (set : List ℕ) (v : List Bool) (os : List Operand) (n : ℕ) (o : Operand) → Stands os n o
    → operand_at set v o ≡ true → joint_at false set v os ≡ true
joint_of_one set v [] zero o s e = cc
joint_of_one set v [] (suc n) o s e = cc
joint_of_one set v (p ∷ os) zero o s e = let i : o ≡ p = cc in or_left (operand_at set v p)
    (joint_at false set v os) (subst (λ z. operand_at set v z ≡ true) i e)
joint_of_one set v (p ∷ os) (suc n) o s e = or_right (operand_at set v p) (joint_at false set v os)
    (joint_of_one set v os n o s e)

pub none_below : (n : ℕ) → AreBelow n []
none_below n = record { each = λ o m. none o m.place m.stands }
  where
    none : (o : Operand) (j : ℕ) → Stands [] j o → IsBelow n o
    none o zero s = cc
    none o (suc j) s = cc

module _ (set : List ℕ) (gates : List Gate) (os : List Operand) (a : AreBelow (length gates) os) where
  all_joined : Joins true set gates os (all_of gates os)
  all_joined = all_joins set gates [] os (none_below (length gates)) a

  any_joined : Joins false set gates os (any_of gates os)
  any_joined = one_joins set gates [] os (none_below (length gates)) a

  -- all of the operands make a gate, or what is left of it, that is true exactly where each is
  pub all_tells : IsTrueWhere set (all_of gates os).gates (all_of gates os).operand (EachTrue set gates os)
  all_tells = record {
    below = all_joined.below;
    true_so = λ e. record {
      each = λ o m. each_in_joint set (values_at set gates) os (sym all_joined.value ∙ e)
          m.place o m.stands;
    };
    so_true = λ h. all_joined.value ∙ joint_of_each set (values_at set gates) os
        (λ n o s. h.each o (record { place = n; stands = s }));
  }

  pub all_grows : GainsGates gates (all_of gates os).gates
  all_grows = all_joined.grown

  -- one of the operands
  pub any_tells : IsTrueWhere set (any_of gates os).gates (any_of gates os).operand (OneTrue set gates os)
  any_tells = record {
    below = any_joined.below;
    true_so = λ e. let r = one_in_joint set (values_at set gates) os (sym any_joined.value ∙ e) in record
        { operand = r.0; is_one = r.1; holds = r.2 };
    so_true = λ h. any_joined.value ∙ joint_of_one set (values_at set gates) os h.is_one.place h.operand
        h.is_one.stands h.holds;
  }

  pub any_grows : GainsGates gates (any_of gates os).gates
  any_grows = any_joined.grown

-- gates are only added, whatever the operands
closed_more : (both : Bool) (gates : List Gate) (os : List Operand) → GainsGates gates (closed_as both gates os).gates
closed_more both gates [] = grows_self gates
closed_more both gates (o ∷ []) = grows_self gates
closed_more both gates (o ∷ p ∷ os) = record { more = record { both = both; operands = o ∷ p ∷ os } ∷ []; is = refl }

joined_more : (both : Bool) (gates : List Gate) (kept os : List Operand) → GainsGates gates (joined both gates kept os).gates
joined_more both gates kept [] = closed_more both gates kept
joined_more true gates kept (Always ∷ os) = joined_more true gates kept os
joined_more false gates kept (Always ∷ os) = grows_self gates
joined_more true gates kept (Never ∷ os) = grows_self gates
joined_more false gates kept (Never ∷ os) = joined_more false gates kept os
joined_more true gates kept (EventIs e sign ∷ os) = joined_more true gates (kept ++ EventIs e sign ∷ []) os
joined_more false gates kept (EventIs e sign ∷ os) = joined_more false gates (kept ++ EventIs e sign ∷ []) os
joined_more true gates kept (GateIs g sign ∷ os) = joined_more true gates (kept ++ GateIs g sign ∷ []) os
joined_more false gates kept (GateIs g sign ∷ os) = joined_more false gates (kept ++ GateIs g sign ∷ []) os

pub all_more : (gates : List Gate) (os : List Operand) → GainsGates gates (all_of gates os).gates
all_more gates os = joined_more true gates [] os

pub any_more : (gates : List Gate) (os : List Operand) → GainsGates gates (any_of gates os).gates
any_more gates os = joined_more false gates [] os

-- operands that name no later gate keep a joint's value when gates are added
pub joint_kept : (both : Bool) (set : List ℕ) (xs ys : List Bool) (os : List Operand) → AreBelow (length xs) os
    → joint_at both set (xs ++ ys) os ≡ joint_at both set xs os
joint_kept both set xs ys [] a = refl
joint_kept true set xs ys (o ∷ os) a =
    ap₂ (λ b c. b && c) (operand_kept set xs ys o (below_head a)) (joint_kept true set xs ys os (below_tail a))
joint_kept false set xs ys (o ∷ os) a =
    ap₂ (λ b c. b || c) (operand_kept set xs ys o (below_head a)) (joint_kept false set xs ys os (below_tail a))

-- the values up to a next gate
pub values_next : (set : List ℕ) (gates : List Gate) (g : Gate)
    → values_at set (gates ++ g ∷ []) ≡ values_at set gates ++ joint_at g.both set (values_at set gates) g.operands ∷ []
values_next set gates g = in_two set [] gates (g ∷ [])

value_from : (set : List ℕ) (before : List Bool) (gates : List Gate) (k n : ℕ) (gate : Gate) → Stands gates k gate
    → n ≡ length before + k → AreBelow n gate.operands
    → value_of_gate (values_from set before gates) n ≡ joint_at gate.both set (values_from set before gates)
    gate.operands
value_from set before [] k n gate s e a = absurd (stands_none k gate s)
value_from set before (g ∷ gs) zero n gate s e a =
    let is : g ≡ gate = cc in
    subst (λ z. value_of_gate (values_from set before (g ∷ gs)) n
    ≡ joint_at z.both set (values_from set before (g ∷ gs)) z.operands) is
    (own (subst (λ z. AreBelow n z.operands) (sym is) a))
  where
    b : Bool
    b = joint_at g.both set before g.operands

    own : AreBelow n g.operands → value_of_gate (values_from set (before ++ b ∷ []) gs) n
        ≡ joint_at g.both set (values_from set (before ++ b ∷ []) gs) g.operands
    own a =
        let r = longer set (before ++ b ∷ []) gs in
        let at : n ≡ length before = omega (arith, e) in
        ap (λ z. value_of_gate z n) r.1
        ∙ gate_kept (before ++ b ∷ []) r.0 n (omega (arith, at, length-append before (b ∷ [])))
        ∙ gate_next before b n at
        ∙ sym (ap (λ z. joint_at g.both set z g.operands) (r.1 ∙ append_assoc before (b ∷ []) r.0)
        ∙ joint_kept g.both set before (b ∷ r.0) g.operands (subst (λ m. AreBelow m g.operands) at a))
value_from set before (g ∷ gs) (suc k) n gate s e a =
    let b = joint_at g.both set before g.operands in
    value_from set (before ++ b ∷ []) gs k n gate s (omega (arith, e, length-append before (b ∷ []))) a

-- the value of a gate is that of its joint over its operands
pub gate_value : (set : List ℕ) (gates : List Gate) (n : ℕ) (gate : Gate) → Stands gates n gate
    → AreBelow n gate.operands
    → value_at gates (GateIs n true) set ≡ joint_at gate.both set (values_at set gates) gate.operands
gate_value set gates n gate s a = value_from set [] gates n n gate s (omega arith) a

-- an event or an earlier gate is no later gate
pub earlier_below : (n : ℕ) (o : Operand) → NamesEarlier n o → IsBelow n o
earlier_below n Always h = tt
earlier_below n Never h = tt
earlier_below n (EventIs e sign) h = tt
earlier_below n (GateIs g sign) h = h

-- the operands of a gate in its place name earlier gates
pub place_below : {n : ℕ} {gate : Gate} → IsInPlace n gate → AreBelow n gate.operands
place_below {n = n} p = record { each = λ o m. earlier_below n o (p.earlier o m) }
