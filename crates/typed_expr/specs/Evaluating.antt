-- What the steps of the evaluation of sets give.
use Rattle.std.specs.Prelude.{◌≡◌, ◌⊎◌, ◌↔◌, ℕ, Bool, true, false, not, IsTrue, List, [], ◌∷◌, Contains, take, Option, Result, Ok, Err}
use Rattle.domains.specs.declared.Value.{Value}
use Rattle.domains.specs.declared.Value.TheVariants.{Truth, Whole}
use Rattle.domains.specs.Values.{whole_of}
use Rattle.typed_expr.specs.Values.{sum_of, is_related}
use Rattle.typed_expr.specs.Folds.{fold_of, next_of}
use Rattle.typed_expr.specs.Sets.{HasExactly, AtLimit, KeepsLimit, Stopped, Gathers}
use Rattle.typed_expr.specs.Sizes.{HasMoreThan}
use Rattle.typed_expr.specs.Yields.{Level, Yields, Some_yields, All_yield, Picks, Picks_parts}
use Rattle.typed_expr.specs.Possible.{IsWide}
use Rattle.typed_expr.specs.declared.expr.Expr.{Expr, out-Expr}
use Rattle.typed_expr.specs.declared.expr.Relation.{Relation}
use Rattle.typed_expr.specs.declared.fold.Step.{Step}
use Rattle.typed_expr.specs.declared.value_set.Stop.{Stop}

-- the set of what the expression yields, with nothing too wide in it; or something in it is too wide
abbrev pub Evaluates : {V : Type 0} → (V → Value → Type 0) → Option ℕ → Result (List Value) Stop → Level V → Type 0
Evaluates facts most (Ok set) e =
    HasExactly set (Yields facts e) × KeepsLimit most set × (AtLimit most (λ n. IsWide facts n e) → ⊥)
Evaluates facts most (Err stop) e = Stopped most (λ n. IsWide facts n e) stop

-- false and true, each where it is asked for
abbrev pub IsTruth : Bool → Bool → Value → Type 0
IsTruth can_be_false can_be_true v = (IsTrue can_be_false × (v ≡ Truth false)) ⊎ (IsTrue can_be_true × (v ≡ Truth true))

-- a value of each list, so related or not so related, as is wanted
pub record SomeRelated (r : Relation) (xs ys : List Value) (wanted : Bool) : Type 0 where
  pub left : Value
  pub right : Value
  pub in_left : Contains xs left
  pub in_right : Contains ys right
  pub related : is_related r left right ≡ wanted

-- the truth values of the comparison of a value of the list with one that the operand yields; or the evaluation of
-- the operand stopped, and so does the comparison
pub data Relates {V : Type 0} (facts : V → Value → Type 0) (most : Option ℕ) (q : Relation) (left : List Value)
    (r : Result (List Value) Stop) (right : Level V) : Type 0 where
  compared : {values : List Value} {can_be_false can_be_true : Bool} → Evaluates facts most (Ok values) right
      → IsTrue can_be_false ↔ SomeRelated q left values false → IsTrue can_be_true ↔ SomeRelated q left values true
      → Gathers most r (IsTruth can_be_false can_be_true) → Relates facts most q left r right
  right_stopped : {stop : Stop} → Evaluates facts most (Err stop) right → r ≡ Err stop
      → Relates facts most q left r right

-- a number of the first list, with one value of the second as the next operand
pub record IsNextOperand (s : Step) (first : Bool) (numbers values : List Value) (v : Value) : Type 0 where
  pub number : Value
  pub value : Value
  pub in_numbers : Contains numbers number
  pub in_values : Contains values value
  pub is : v ≡ Whole (next_of s first (whole_of number) value)

-- the numbers with each value that the operand yields as the next one; or its evaluation stopped, and so does the step
pub data Steps {V : Type 0} (facts : V → Value → Type 0) (most : Option ℕ) (s : Step) (first : Bool)
    (numbers : List Value) (r : Result (List Value) Stop) (e : Level V) : Type 0 where
  stepped : {values : List Value} → Evaluates facts most (Ok values) e
      → Gathers most r (IsNextOperand s first numbers values) → Steps facts most s first numbers r e
  operand_stopped : {stop : Stop} → Evaluates facts most (Err stop) e → r ≡ Err stop
      → Steps facts most s first numbers r e

-- one of the expressions is too wide
pub record SomeWide {V : Type 0} (facts : V → Value → Type 0) (es : List (Expr V)) (most : ℕ) : Type 0 where
  pub expr : Expr V
  pub in_list : Contains es expr
  pub wide : IsWide facts most (out-Expr V expr)

-- `other`: whether the expression yields the opposite of b; `this`: whether it yields b
pub record ToldTruth {V : Type 0} (facts : V → Value → Type 0) (b other this : Bool) (e : Level V) : Type 0 where
  pub opposite : IsTrue other ↔ Yields facts e (Truth (not b))
  pub same : IsTrue this ↔ Yields facts e (Truth b)

-- the answer says what is told, and nothing in the expression is too wide; or something in it is, or memory was refused
abbrev pub TellsAnswer : {V : Type 0} → (V → Value → Type 0) → Option ℕ → Bool → Result (Bool × Bool) Stop → Level V → Type 0
TellsAnswer facts most b (Ok r) e = ToldTruth facts b r.0 r.1 e × (AtLimit most (λ n. IsWide facts n e) → ⊥)
TellsAnswer facts most b (Err stop) e = Stopped most (λ n. IsWide facts n e) stop

-- one of the operands yields the one truth value, each yields the other
pub record Tallied {V : Type 0} (facts : V → Value → Type 0) (b one_other each : Bool)
    (es : List (Expr V)) : Type 0 where
  pub one : IsTrue one_other ↔ Some_yields facts es (Truth (not b))
  pub all : IsTrue each ↔ All_yield facts es (Truth b)

-- the answer says what is tallied, and none of the operands is too wide; or one of them is, or memory was refused
abbrev pub Tallies : {V : Type 0} → (V → Value → Type 0) → Option ℕ → Bool → Result (Bool × Bool) Stop → List (Expr V)
    → Type 0
Tallies facts most b (Ok r) es = Tallied facts b r.0 r.1 es × (AtLimit most (SomeWide facts es) → ⊥)
Tallies facts most b (Err stop) es = Stopped most (SomeWide facts es) stop

-- v is what the fold may have come to after the first k operands
abbrev pub FoldYields : {V : Type 0} → (V → Value → Type 0) → Step → List (Expr V) → ℕ → Value → Type 0
FoldYields facts s es k v = (vs : List Value) × Picks facts (take k es) vs × (v ≡ Whole (fold_of s vs))

-- some step has too many values
pub record SomeStep (yields : ℕ → Value → Type 0) (most : ℕ) : Type 0 where
  pub place : ℕ
  pub wide : HasMoreThan most (yields place)

-- the set of what the fold of the operands comes to, with nothing too wide in them, at no step too
abbrev pub Folds : {V : Type 0} → (V → Value → Type 0) → Option ℕ → Step → Result (List Value) Stop → List (Expr V)
    → Type 0
Folds facts most s (Ok set) es = HasExactly set
    (λ v. (vs : List Value) × Picks facts es vs × (v ≡ Whole (fold_of s vs)))
    × KeepsLimit most set × (AtLimit most (SomeWide facts es) → ⊥)
    × (AtLimit most (SomeStep (FoldYields facts s es)) → ⊥)
Folds facts most s (Err stop) es = Stopped most (λ n. SomeWide facts es n ⊎ SomeStep (FoldYields facts s es) n) stop

-- v is what the sum may have come to after the first k parts
abbrev pub SumYields : {V : Type 0} → (V → Value → Type 0) → List (Bool × Expr V) → ℕ → Value → Type 0
SumYields facts ps k v = (vs : List (Bool × Value)) × Picks_parts facts (take k ps) vs × (v ≡ Whole (sum_of vs))

-- one of the parts is too wide
pub record PartWide {V : Type 0} (facts : V → Value → Type 0) (ps : List (Bool × Expr V)) (most : ℕ) : Type 0 where
  pub part : Bool × Expr V
  pub in_list : Contains ps part
  pub wide : IsWide facts most (out-Expr V part.1)

-- the set of what the sum of the parts comes to, with nothing too wide in them, at no step too; or something in
-- them or a step is, or memory was refused
abbrev pub Sums : {V : Type 0} → (V → Value → Type 0) → Option ℕ → Result (List Value) Stop → List (Bool × Expr V)
    → Type 0
Sums facts most (Ok set) ps = HasExactly set
    (λ v. (vs : List (Bool × Value)) × Picks_parts facts ps vs × (v ≡ Whole (sum_of vs)))
    × KeepsLimit most set × (AtLimit most (PartWide facts ps) → ⊥) × (AtLimit most (SomeStep (SumYields facts ps)) → ⊥)
Sums facts most (Err stop) ps = Stopped most (λ n. PartWide facts ps n ⊎ SomeStep (SumYields facts ps) n) stop

-- one of the tests or values of the cases is too wide
pub record CaseWide {V : Type 0} (facts : V → Value → Type 0) (cs : List (Expr V × Expr V)) (most : ℕ) : Type 0 where
  pub case : Expr V × Expr V
  pub in_list : Contains cs case
  pub wide : IsWide facts most (out-Expr V case.0) ⊎ IsWide facts most (out-Expr V case.1)

-- a case yields the value, where its test yields true and those before it yield false
abbrev pub Took : {V : Type 0} → (V → Value → Type 0) → List (Expr V × Expr V) → Value → Type 0
Took facts [] v = ⊥
Took {V} facts (c ∷ cs) v = (Yields facts (out-Expr V c.0) (Truth true) × Yields facts (out-Expr V c.1) v)
    ⊎ (Yields facts (out-Expr V c.0) (Truth false) × Took facts cs v)

-- each test yields false
abbrev pub PassesAll : {V : Type 0} → (V → Value → Type 0) → List (Expr V × Expr V) → Type 0
PassesAll facts [] = Unit {0}
PassesAll {V} facts (c ∷ cs) = Yields facts (out-Expr V c.0) (Truth false) × PassesAll facts cs

-- what the cases yield that their tests take, and whether the tests pass them all
pub record Chosen {V : Type 0} (facts : V → Value → Type 0) (set : List Value) (passes : Bool)
    (cs : List (Expr V × Expr V)) : Type 0 where
  pub exact : HasExactly set (Took facts cs)
  pub all : IsTrue passes ↔ PassesAll facts cs

-- the answer says what is chosen, and nothing in the cases is too wide; or something in them or what they yield
-- is, or memory was refused
abbrev pub Chooses : {V : Type 0} → (V → Value → Type 0) → Option ℕ → Result (List Value × Bool) Stop
    → List (Expr V × Expr V) → Type 0
Chooses facts most (Ok r) cs = Chosen facts r.0 r.1 cs × KeepsLimit most r.0 × (AtLimit most (CaseWide facts cs) → ⊥)
Chooses facts most (Err stop) cs = Stopped most (λ n. CaseWide facts cs n ⊎ HasMoreThan n (Took facts cs)) stop

-- v is in the set, or the branch is taken and yields it
abbrev pub BranchYields : {V : Type 0} → (V → Value → Type 0) → Bool → List Value → Level V → Value → Type 0
BranchYields facts takes set e v = Contains set v ⊎ (IsTrue takes × Yields facts e v)

-- the set with what the branch yields, where it is taken, with nothing too wide in the branch; or something in it
-- or what would be in the set is, or memory was refused
abbrev pub Joins : {V : Type 0} → (V → Value → Type 0) → Option ℕ → Result (List Value) Stop → Bool → List Value
    → Level V → Type 0
Joins facts most (Ok new) takes set e =
    HasExactly new (BranchYields facts takes set e) × KeepsLimit most new × (AtLimit most (λ n. IsWide facts n e) → ⊥)
Joins facts most (Err stop) takes set e =
    Stopped most (λ n. IsWide facts n e ⊎ HasMoreThan n (BranchYields facts takes set e)) stop
