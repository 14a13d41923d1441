-- How a cone is gathered: which variables were seen so far.
use Rattle.std.specs.Prelude.{◌≡◌, ◌<◌, ◌≤◌, ◌+◌, ◌↔◌, ◌⊎◌, ℕ, Bool, true, List, [], ◌∷◌, length, if◌then◌else◌}
use Rattle.ar_base.specs.Lists.{Stands, IsOneOf}
use Rattle.ar_base.specs.Numbers.{VarId}
use Rattle.ar_base.specs.Sets.{Ascends}
use Rattle.typed_expr.specs.Mentions.{Mentions}
use Rattle.typed_expr.specs.declared.expr.Expr.{Expr, out-Expr}
use Rattle.flow_reasons.specs.Reasons as rounds
use Rattle.flow_propagate.specs.Marks.{AreMarked}

-- how many variables were not seen
abbrev pub unseen : List Bool → ℕ
unseen [] = 0
unseen (b ∷ bs) = (if b then 0 else 1) + unseen bs

-- these were seen, too; those that were not seen before went last in the list
pub record SeesAll (xs : List ℕ) (seen seen_then : List Bool) (found found_then : List ℕ) : Type 0 where
  pub long : length seen_then ≡ length seen
  pub are : AreMarked seen_then found_then
  pub front : (j n : ℕ) → Stands found j n → Stands found_then j n
  pub longer : length found ≤ length found_then
  pub each : (n : ℕ) → (IsOneOf found_then n ↔ (IsOneOf found n ⊎ IsOneOf xs n))
  pub left : unseen seen_then + length found_then ≡ unseen seen + length found

-- the reason of the flow of this number rests on the variable
pub record RestsUpon (reasons : List rounds.Reason) (flow n : ℕ) : Type 0 where
  pub reason : rounds.Reason
  pub is_one : IsOneOf reasons reason
  pub is_flow : reason.flow ≡ flow
  pub rests : IsOneOf reason.rests_on n

-- the flows of the reasons ascend, and what they rest on are numbers below the count
pub record AreOrderly (count : ℕ) (reasons : List rounds.Reason) : Type 0 where
  pub ascend : (j k : ℕ) (q r : rounds.Reason) → j < k → Stands reasons j q → Stands reasons k r → q.flow < r.flow
  pub below : (r : rounds.Reason) (n : ℕ) → IsOneOf reasons r → IsOneOf r.rests_on n → n < count

-- the variable is one of the first, or the reason of one that is reached rests on it
pub data IsVariableReached (reasons : List rounds.Reason) (first : List ℕ) : ℕ → Type 0 where
  begins : {n : ℕ} → IsOneOf first n → IsVariableReached reasons first n
  follows : {m n : ℕ} → IsVariableReached reasons first m → RestsUpon reasons m n → IsVariableReached reasons first n

-- the variables that were seen are those that are reached
pub record AreReachedVariables (reasons : List rounds.Reason) (first : List ℕ) (seen : List Bool) : Type 0 where
  pub sound : (n : ℕ) → Stands seen n true → IsVariableReached reasons first n
  pub whole : (n : ℕ) → IsVariableReached reasons first n → Stands seen n true

-- the variable was seen, too
abbrev pub SeesVariable : ℕ → List Bool → List Bool → List ℕ → List ℕ → Type 0
SeesVariable n seen seen_then found found_then = SeesAll (n ∷ []) seen seen_then found found_then

-- of the first so many variables those that were seen, by number
pub record AreMembers (seen : List Bool) (count : ℕ) (members : List ℕ) : Type 0 where
  pub ascends : Ascends members
  pub each : (n : ℕ) → (IsOneOf members n ↔ ((n < count) × Stands seen n true))

-- these are the variables that the reason of the flow rests on
pub record AreRestsUpon (reasons : List rounds.Reason) (flow : ℕ) (numbers : List ℕ) : Type 0 where
  pub each : (n : ℕ) → (IsOneOf numbers n ↔ RestsUpon reasons flow n)

-- the expression names the variable of this number
pub record NamesNumber (e : Expr VarId) (n : ℕ) : Type 0 where
  pub variable : VarId
  pub names : Mentions variable (out-Expr VarId e)
  pub is : variable.n ≡ n
