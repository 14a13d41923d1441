-- Shared gates stay right when more are made.
use Rattle.std.proofs.Common.{◌≡◌, ℕ, zero, Bool, true, false, ◌&&◌, cond, eqb, eqb-true, List, [], ◌∷◌, ◌++◌, length, Some, Ok, Err, refl, sym, ap, ap₂, ◌∙◌, subst, true≢false}
use Rattle.std.specs.Cmp.Lexicographic.{pointwise}
use Rattle.std.specs.Map.{lookup}
use Rattle.std.proofs.lemmas.Bool.{and_parts}
use mathlib.Core.Bool.{beq}
use Rattle.eq_core.specs.Gates as g
use Rattle.eq_core.specs.Gates.{Always, Never, GateIs, Gate, opposite}
use Rattle.eq_core.specs.Ordered.{AreBelow, AreOrdered}
use Rattle.eq_core.specs.Values.{joint_at, values_at, value_at}
use Rattle.eq_core.specs.ValuesInside.{GainsGates}
use Rattle.eq_core.specs.Views.{operand_of}
use Rattle.eq_core.specs.declared.joints.Operand.{Operand}
use Rattle.eq_core.proofs.Telling.{grows_self, value_kept, below_kept, joint_kept, in_two, longer, length_of_values}
use Rattle.gate_sharing.specs.declared.literals.Literal.{Literal}
use Rattle.gate_sharing.specs.declared.literals.Literal.TheVariants as l
use Rattle.gate_sharing.specs.declared.literals.Literals.{Literals}
use Rattle.gate_sharing.specs.contracts.literals.LiteralPartialEq.TheImpl as literal
use Rattle.gate_sharing.specs.Literals.{literal_operands, AreEnough, AreNeverAll}
use Rattle.gate_sharing.specs.Sharing.{IsAllOf, AddsGates}
use Rattle.gate_sharing.specs.Known.{same_literals, IsSoundSharing}
use Rattle.gate_sharing.proofs.Alls.{enough_below}

-- the values of operands that name no later gates stay when gates are added
pub all_kept : (set : List ℕ) {old new : List Gate} (os : List g.Operand) → GainsGates old new → AreBelow (length old) os
    → joint_at true set (values_at set new) os ≡ joint_at true set (values_at set old) os
all_kept set {old = old} {new = new} os grown below =
    let r = longer set (values_at set old) grown.more in
    let e : values_at set new ≡ values_at set old ++ r.0 = ap (values_at set) grown.is ∙ in_two set [] old grown.more ∙ r.1 in
    ap (λ z. joint_at true set z os) e
    ∙ joint_kept true set (values_at set old) r.0 os
    (subst (λ n. AreBelow n os) (sym (length_of_values set old)) below)

pub all_below_kept : {old new : List Gate} (os : List g.Operand) → GainsGates old new → AreBelow (length old) os
    → AreBelow (length new) os
all_below_kept os grown below = record { each = λ o m. below_kept o grown (below.each o m) }

pub all_of_kept : {old new : List Gate} {o : g.Operand} {os : List g.Operand} → GainsGates old new → IsAllOf old o os
    → IsAllOf new o os
all_of_kept {o = o} {os = os} grown a = record {
  below = below_kept o grown a.below;
  operands = all_below_kept os grown a.operands;
  same = λ set. value_kept set o grown a.below ∙ a.same set ∙ sym (all_kept set os grown a.operands);
}

-- what is enough for operands decides for them
pub all_of_enough : {gates : List Gate} {o : g.Operand} {os ps : List g.Operand} → AreEnough os ps
    → AreBelow (length gates) os → IsAllOf gates o ps → IsAllOf gates o os
all_of_enough {gates = gates} e b a = record {
  below = a.below;
  operands = b;
  same = λ set. a.same set ∙ e.same set (values_at set gates);
}

pub enough_of_all : {gates : List Gate} {o : g.Operand} {os ps : List g.Operand} → AreEnough os ps
    → IsAllOf gates o os → IsAllOf gates o ps
enough_of_all {gates = gates} {os = os} {ps = ps} e a = record {
  below = a.below;
  operands = enough_below (length gates) os ps e a.operands;
  same = λ set. a.same set ∙ sym (e.same set (values_at set gates));
}

-- what was made without a new gate
pub adds_none : (gates : List Gate) (os : List g.Operand) (r : Operand) → IsAllOf gates (operand_of r) os
    → AddsGates os gates gates (Ok r)
adds_none gates os r a = record { grows = grows_self gates; made = a }

pub adds_refused : (gates : List Gate) (os : List g.Operand) (e : _) → AddsGates os gates gates (Err e)
adds_refused gates os e = record { grows = grows_self gates; made = tt }

pub all_of_none : (gates : List Gate) (os : List g.Operand) → AreBelow (length gates) os → AreEnough os []
    → IsAllOf gates Always os
all_of_none gates os b e = record {
  below = tt;
  operands = b;
  same = λ set. e.same set (values_at set gates);
}

pub all_of_never : (gates : List Gate) (os : List g.Operand) → AreBelow (length gates) os → AreNeverAll os
    → IsAllOf gates Never os
all_of_never gates os b n = record {
  below = tt;
  operands = b;
  same = λ set. sym (n.never set (values_at set gates));
}

and_true_of : (b : Bool) → b ≡ (b && true)
and_true_of true = refl
and_true_of false = refl

pub all_of_one : (gates : List Gate) (os : List g.Operand) (o : g.Operand) → AreBelow (length gates) os
    → AreEnough os (o ∷ []) → IsAllOf gates o os
all_of_one gates os o b e = record {
  below = (enough_below (length gates) os (o ∷ []) e b).each o (record { place = zero; stands = refl });
  operands = b;
  same = λ set. and_true_of (value_at gates o set) ∙ e.same set (values_at set gates);
}

-- ---- keys
beq_true : (a b : Bool) → beq a b ≡ true → a ≡ b
beq_true true true e = refl
beq_true true false e = absurd (true≢false (sym e))
beq_true false true e = absurd (true≢false (sym e))
beq_true false false e = refl

pub one_literal : (a b : Literal) → literal.eq-value.it a b ≡ true → a ≡ b
one_literal (l.Event a s) (l.Event b t) h =
    let p = and_parts (eqb a b) (beq s t) h in ap₂ (λ x y. l.Event x y) (eqb-true a b p.0) (beq_true s t p.1)
one_literal (l.Event a s) (l.Gate b t) h = absurd (true≢false (sym h))
one_literal (l.Gate a s) (l.Event b t) h = absurd (true≢false (sym h))
one_literal (l.Gate a s) (l.Gate b t) h =
    let p = and_parts (eqb a b) (beq s t) h in ap₂ (λ x y. l.Gate x y) (eqb-true a b p.0) (beq_true s t p.1)

pub one_key : (xs ys : List Literal) → pointwise literal.eq-value.it xs ys ≡ true → xs ≡ ys
one_key [] [] h = refl
one_key [] (y ∷ ys) h = absurd (true≢false (sym h))
one_key (x ∷ xs) [] h = absurd (true≢false (sym h))
one_key (x ∷ xs) (y ∷ ys) h =
    let p = and_parts (literal.eq-value.it x y) (pointwise literal.eq-value.it xs ys) h in
    ap₂ (λ (z : Literal) (zs : List Literal). z ∷ zs) (one_literal x y p.0) (one_key xs ys p.1)

-- the table has one operand more
pub sharing_more : (old new : List Gate) (k : Literals) (o : Operand) (known more : List (Literals × Operand))
    → GainsGates old new → AreOrdered new → IsAllOf new (operand_of o) (literal_operands k.all.items) → IsSoundSharing old known
    → ((q : Literals) → lookup (same_literals q) more ≡ cond (same_literals k q) (Some o) (lookup (same_literals q) known))
    → IsSoundSharing new more
sharing_more old new k o known more grown ordered all s u = record {
  ordered = ordered;
  each = λ q p h. step q p h (same_literals k q) refl;
}
  where
    step : (q : Literals) (p : Operand) → lookup (same_literals q) more ≡ Some p → (b : Bool) → same_literals k q ≡ b
        → IsAllOf new (operand_of p) (literal_operands q.all.items)
    step q p h true e =
        let x : Some p ≡ Some o = sym h ∙ u q ∙ ap (λ b. cond b (Some o) (lookup (same_literals q) known)) e in
        let y : o ≡ p = cc in
        subst (λ (z : Operand). IsAllOf new (operand_of z) (literal_operands q.all.items)) y
        (subst (λ (z : List Literal). IsAllOf new (operand_of o) (literal_operands z)) (one_key k.all.items q.all.items e) all)
    step q p h false e =
        all_of_kept grown (s.each q p
        (ap (λ b. cond b (Some o) (lookup (same_literals q) known)) (sym e) ∙ sym (u q) ∙ h))

-- the gates grew, and the table is as it was
pub sharing_kept : (old new : List Gate) (known more : List (Literals × Operand)) → GainsGates old new → AreOrdered new
    → more ≡ known → IsSoundSharing old known → IsSoundSharing new more
sharing_kept old new known more grown ordered e s = record {
  ordered = ordered;
  each = λ q p h. all_of_kept grown (s.each q p (ap (λ z. lookup (same_literals q) z) (sym e) ∙ h));
}
