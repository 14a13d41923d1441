-- What is left of operands becomes itself, or a gate of its own.
use Rattle.std.proofs.Common.{◌≡◌, ℕ, List, [], ◌∷◌, ◌++◌, Bool, true, false, nat_eq, map, length, get_or, sym, ap, ◌∙◌, arith}
use Rattle.std.proofs.lemmas.Bool.Decides.{nat_tests}
use Rattle.std.proofs.lemmas.List.{length-map, map-append}
use Rattle.ar_base.specs.NumbersInside.{GateId}
use Rattle.eq_core.specs.Gates.{closed_as, neutral}
use Rattle.eq_core.specs.Views.{all_needed, operand_of, gate_of, made_of}
use Rattle.eq_core.specs.declared.joints.Joint.{Joint}
use Rattle.eq_core.specs.declared.joints.Gate as flat
use Rattle.eq_core.specs.declared.joints.Operand.{Operand}
use Rattle.eq_core.specs.declared.joints.Operand.TheVariants.{Gate}

-- what the test of a length for 0 says
pub is_none : (n : ℕ) (b : Bool) → b ≡ nat_eq n 0 → b ≡ true → n ≡ 0
is_none n b e f = grind (arith, nat_tests)

pub is_some : (n : ℕ) (b : Bool) → b ≡ nat_eq n 0 → b ≡ false → n ≡ 0 → ⊥
is_some n b e f z = grind (arith, nat_tests)

-- no operand, one, and several
pub none_left : (j : Joint) (gates : List flat.Gate) (ks : List Operand) (o : Operand) → length ks ≡ 0
    → operand_of o ≡ neutral (all_needed j)
    → made_of o gates ≡ closed_as (all_needed j) (map gate_of gates) (map operand_of ks)
none_left j gates [] o e i = cc
none_left j gates (k ∷ ks) o e i = absurd (omega arith)

pub one_left : (j : Joint) (gates : List flat.Gate) (ks : List Operand) (o : Operand) → length ks ≡ 1
    → o ≡ get_or ks 0 o → made_of o gates ≡ closed_as (all_needed j) (map gate_of gates) (map operand_of ks)
one_left j gates [] o e i = absurd (omega arith)
one_left j gates (k ∷ []) o e i = ap (λ (z : Operand). made_of z gates) i
one_left j gates (k ∷ l ∷ ks) o e i = absurd (omega arith)

pub more_left : (j : Joint) (gates new : List flat.Gate) (ks : List Operand) (g : flat.Gate) (number : GateId)
    → (length ks ≡ 0 → ⊥) → (length ks ≡ 1 → ⊥) → g.joint ≡ j → g.operands.items ≡ ks → number.n ≡ length gates
    → new ≡ gates ++ g ∷ []
    → made_of (Gate number true) new ≡ closed_as (all_needed j) (map gate_of gates) (map operand_of ks)
more_left j gates new [] g number none one is holds at e = absurd (none (omega arith))
more_left j gates new (k ∷ []) g number none one is holds at e = absurd (one (omega arith))
more_left j gates new (k ∷ l ∷ ks) g number none one is holds at e =
    let grown = ap (map gate_of) e ∙ map-append gate_of gates (g ∷ []) in
    let long = length-map gates gate_of in
    let both = ap all_needed is in
    let inside = ap (map operand_of) holds in
    let counted = at ∙ sym long in cc
