-- Votes: literals that are all needed, where each says that a term of two literals is not true, and all terms have one literal
-- or its opposite.
use Rattle.std.specs.Prelude.{◌≡◌, ◌⊎◌, ◌&&◌, ◌||◌, ℕ, Bool, true, not, cond, List, [], ◌∷◌, length, Result, IfOk}
use Rattle.ar_base.specs.Lists.{IsOneOf}
use Rattle.gate_sharing.specs.declared.unshared.Unshared.{Unshared}
use Rattle.eq_core.specs.Gates.{Operand, Gate}
use Rattle.eq_core.specs.Ordered.{AreBelow}
use Rattle.eq_core.specs.Values.{signed, operand_at, joint_at, values_at, value_at}
use Rattle.eq_core.specs.ValuesInside.{IsBelow, GainsGates}
use Rattle.eq_core.specs.Views.{operand_of}
use Rattle.eq_core.specs.declared.joints.Operand as code
use Rattle.gate_sharing.specs.declared.literals.Literal.{Literal}
use Rattle.gate_sharing.specs.declared.terms.Term.{Term}
use Rattle.gate_sharing.specs.declared.terms.Vote.{Vote}
use Rattle.gate_sharing.specs.Literals.{literal_of, literal_operands}

-- the two literals of a term
abbrev pub term_operands : Term → List Operand
term_operands term = literal_of term.first ∷ literal_of term.second ∷ []

-- of none of the terms both literals are true
abbrev pub none_at : List ℕ → List Bool → List Term → Bool
none_at set values [] = true
none_at set values (t ∷ ts) = not (joint_at true set values (term_operands t)) && none_at set values ts

-- each term names the first so many gates alone
pub record AreTermsBelow (n : ℕ) (ts : List Term) : Type 0 where
  pub each : (t : Term) → IsOneOf ts t → AreBelow n (term_operands t)

-- the operand is true exactly where both literals of the term are; where `both` is false, exactly where not both are
pub record IsOfTerm (both : Bool) (gates : List Gate) (o : Operand) (t : Term) : Type 0 where
  pub below : AreBelow (length gates) (term_operands t)
  pub same : (set : List ℕ) → value_at gates o set
      ≡ signed both (joint_at true set (values_at set gates) (term_operands t))

-- terms were added of which none is true exactly where the operand is
pub record AddsTerms (gates : List Gate) (o : Operand) (old new : List Term) : Type 0 where
  pub below : AreTermsBelow (length gates) old → AreTermsBelow (length gates) new
  pub same : (set : List ℕ) → none_at set (values_at set gates) new
      ≡ (none_at set (values_at set gates) old && value_at gates o set)

-- none of the terms is true exactly where all of the operands are
pub record AreTermsOf (gates : List Gate) (os : List Operand) (ts : List Term) : Type 0 where
  pub below : AreTermsBelow (length gates) ts
  pub same : (set : List ℕ) → none_at set (values_at set gates) ts ≡ joint_at true set (values_at set gates) os

-- the two literals of the term are these operands
pub record IsBesideIn (t : Term) (o other : Operand) : Type 0 where
  pub is : (term_operands t ≡ o ∷ other ∷ []) ⊎ (term_operands t ≡ other ∷ o ∷ [])

-- none of the terms is true exactly where all of the first literals are, where the test is true, and exactly where all of the
-- second ones are, where it is not
pub record AreSides (test : Operand) (ts : List Term) (with without : List Literal) : Type 0 where
  pub same : (set : List ℕ) (values : List Bool) → none_at set values ts ≡ cond (operand_at set values test)
      (joint_at true set values (literal_operands with)) (joint_at true set values (literal_operands without))
  pub with_below : (n : ℕ) → AreTermsBelow n ts → AreBelow n (literal_operands with)
  pub without_below : (n : ℕ) → AreTermsBelow n ts → AreBelow n (literal_operands without)

-- wherever all of the second literals are true all of the first ones are; where the sign is false, the other way round
abbrev pub Implied : Bool → List ℕ → List Bool → List Literal → List Literal → Type 0
Implied sign set values with without = signed sign (joint_at true set values (literal_operands without)) ≡ true
    → signed sign (joint_at true set values (literal_operands with)) ≡ true

-- the vote of the terms by this literal
pub record IsVoteBy (l : Literal) (ts : List Term) (v : Vote) : Type 0 where
  pub test : v.test ≡ l
  pub sides : AreSides (literal_of l) ts v.sides.with.items v.sides.without.items
  pub implied : (set : List ℕ) (values : List Bool) → Implied v.rises set values v.sides.with.items v.sides.without.items

-- all of the operands are true exactly where the side of the vote is that its literal chooses
pub record IsVoteOf (gates : List Gate) (os : List Operand) (v : Vote) : Type 0 where
  pub test : IsBelow (length gates) (literal_of v.test)
  pub with : AreBelow (length gates) (literal_operands v.sides.with.items)
  pub without : AreBelow (length gates) (literal_operands v.sides.without.items)
  pub same : (set : List ℕ) → cond (value_at gates (literal_of v.test) set)
      (joint_at true set (values_at set gates) (literal_operands v.sides.with.items))
      (joint_at true set (values_at set gates) (literal_operands v.sides.without.items))
      ≡ joint_at true set (values_at set gates) os
  pub implied : (set : List ℕ) (values : List Bool) → Implied v.rises set values v.sides.with.items v.sides.without.items

-- the gates came to be by adding some behind the first ones, and the operand that was made is true exactly where the test and
-- the larger operand are, and where the smaller one is
pub record AddsEither (test larger smaller : Operand) (old new : List Gate) (r : Result code.Operand Unshared) : Type 0 where
  pub grows : GainsGates old new
  pub below : IfOk r (λ o. IsBelow (length new) (operand_of o))
  pub same : IfOk r (λ o. (set : List ℕ) → value_at new (operand_of o) set
      ≡ ((value_at new test set && value_at new larger set) || value_at new smaller set))

-- the gates came to be by adding some behind the first ones, and where one of the sides implies the other as the vote says, the
-- operand that was made has the value of the side that the vote's literal chooses
pub record DecidesVote (v : Vote) (with without : Operand) (old new : List Gate) (r : Result code.Operand Unshared) : Type 0 where
  pub grows : GainsGates old new
  pub below : IfOk r (λ o. IsBelow (length new) (operand_of o))
  pub same : IfOk r (λ o. (set : List ℕ)
      → (signed v.rises (value_at new without set) ≡ true → signed v.rises (value_at new with set) ≡ true)
      → value_at new (operand_of o) set
      ≡ cond (value_at new (literal_of v.test) set) (value_at new with set) (value_at new without set))
