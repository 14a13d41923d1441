-- Gates that are made of ordered gates are in order.
use Rattle.std.proofs.Common.{◌≡◌, ℕ, zero, suc, ◌+◌, inl, inr, Bool, true, false, List, [], ◌∷◌, ◌++◌, length, length-append, subst, arith}
use Rattle.ar_base.specs.Lists.{Stands, IsOneOf}
use Rattle.ar_base.proofs.Standing.{one_cases, one_first, one_none, one_split, stands_split, stands_none}
use Rattle.eq_core.specs.Gates.{Operand, Always, Never, EventIs, GateIs, Gate, Made, neutral, closed_as, joined}
use Rattle.eq_core.specs.ValuesInside.{IsBelow}
use Rattle.eq_core.specs.Ordered.{NamesEarlier, AreBelow, IsInPlace, AreOrdered}
use Rattle.eq_core.proofs.Telling.{below_head, below_tail, earlier_below}

-- each operand is an event or one of the first so many gates
pub record AreEarlier (n : ℕ) (os : List Operand) : Type 0 where
  pub each : (o : Operand) → IsOneOf os o → NamesEarlier n o

-- the gates are in order, and the operand names no later one
pub record IsOrderedMade (m : Made) : Type 0 where
  pub gates : AreOrdered m.gates
  pub below : IsBelow (length m.gates) m.operand

earlier_more : (n : ℕ) (os : List Operand) (o : Operand) → AreEarlier n os → NamesEarlier n o → AreEarlier n (os ++ o ∷ [])
earlier_more n os o a h = record {
  each = λ p m. elim (one_split os (o ∷ []) p m) [
    | inl k ↦ a.each p k
    | inr k ↦ elim (one_cases o [] p k) [ inl e ↦ subst (λ z. NamesEarlier n z) e h | inr l ↦ absurd (one_none p l) ]
  ];
}

-- one more gate in its place
pub ordered_more : (gates : List Gate) (g : Gate) → AreOrdered gates → IsInPlace (length gates) g
    → AreOrdered (gates ++ g ∷ [])
ordered_more gates g a p = record {
  each = λ n h s. elim (stands_split gates (g ∷ []) n h s) [
    | inl k ↦ a.each n h k
    | inr k ↦ last n h k.0 k.1 k.2
  ];
}
  where
    last : (n : ℕ) (h : Gate) (k : ℕ) → n ≡ length gates + k → Stands (g ∷ []) k h → IsInPlace n h
    last n h zero e s =
        let i : g ≡ h = cc in
        let at : length gates ≡ n = omega (arith, e) in
        subst (λ (m : ℕ). IsInPlace m h) at (subst (λ (z : Gate). IsInPlace (length gates) z) i p)
    last n h (suc k) e s = absurd (stands_none k h s)

neutral_is_below : (both : Bool) (n : ℕ) → IsBelow n (neutral both)
neutral_is_below true n = tt
neutral_is_below false n = tt

closed_ordered : (both : Bool) (gates : List Gate) (os : List Operand) → AreOrdered gates → AreEarlier (length gates) os
    → IsOrderedMade (closed_as both gates os)
closed_ordered both gates [] a e = record { gates = a; below = neutral_is_below both (length gates) }
closed_ordered both gates (o ∷ []) a e =
    record { gates = a; below = earlier_below (length gates) o (e.each o (one_first o [])) }
closed_ordered both gates (o ∷ p ∷ os) a e =
    let g : Gate = record { both = both; operands = o ∷ p ∷ os } in
    record {
      gates = ordered_more gates g a (record { two = omega arith; earlier = e.each });
      below = let l = length-append gates (g ∷ []) in omega (arith, l);
    }

-- what operands make of ordered gates is in order
pub joined_ordered : (both : Bool) (gates : List Gate) (kept os : List Operand) → AreOrdered gates
    → AreEarlier (length gates) kept → AreBelow (length gates) os → IsOrderedMade (joined both gates kept os)
joined_ordered both gates kept [] a e l = closed_ordered both gates kept a e
joined_ordered true gates kept (Always ∷ os) a e l = joined_ordered true gates kept os a e (below_tail l)
joined_ordered false gates kept (Always ∷ os) a e l = record { gates = a; below = tt }
joined_ordered true gates kept (Never ∷ os) a e l = record { gates = a; below = tt }
joined_ordered false gates kept (Never ∷ os) a e l = joined_ordered false gates kept os a e (below_tail l)
joined_ordered true gates kept (EventIs n sign ∷ os) a e l =
    joined_ordered true gates (kept ++ EventIs n sign ∷ []) os a
    (earlier_more (length gates) kept (EventIs n sign) e tt) (below_tail l)
joined_ordered false gates kept (EventIs n sign ∷ os) a e l =
    joined_ordered false gates (kept ++ EventIs n sign ∷ []) os a
    (earlier_more (length gates) kept (EventIs n sign) e tt) (below_tail l)
joined_ordered true gates kept (GateIs n sign ∷ os) a e l =
    joined_ordered true gates (kept ++ GateIs n sign ∷ []) os a
    (earlier_more (length gates) kept (GateIs n sign) e (below_head l)) (below_tail l)
joined_ordered false gates kept (GateIs n sign ∷ os) a e l =
    joined_ordered false gates (kept ++ GateIs n sign ∷ []) os a
    (earlier_more (length gates) kept (GateIs n sign) e (below_head l)) (below_tail l)

-- nothing is in order
pub none_earlier : (n : ℕ) → AreEarlier n []
none_earlier n = record { each = λ o m. absurd (one_none o m) }
