-- What an expression of a kind yields is of the kind.
use Rattle.std.proofs.Common.{◌≡◌, List, refl}
use Rattle.domains.specs.declared.Value.{Value}
use Rattle.typed_expr.specs.Yields.{Level, Yields, Takes}
use Rattle.typed_expr.specs.Yields as y
use Rattle.typed_expr.specs.Kinds.{kind_of, HasKind, Each_case}
use Rattle.typed_expr.specs.Kinds as k
use Rattle.typed_expr.specs.declared.expr.ValueKind.{ValueKind}
use Rattle.typed_expr.specs.declared.expr.Expr.{Expr}

module _ {V : Type 0} (facts : V → Value → Type 0) (kinds : V → ValueKind)
    (of_kinds : (x : V) (v : Value) → facts x v → kind_of v ≡ kinds x) where
  mutual
    pub kind_yielded : {e : Level V} {kind : ValueKind} {v : Value} → HasKind kinds e kind → Yields facts e v
        → kind_of v ≡ kind
    kind_yielded k.constant y.constant = refl
    kind_yielded k.variable (y.variable {x = x} {v = v} h) = of_kinds x v h
    kind_yielded (k.opposite d) (y.opposite h) = refl
    kind_yielded (k.all l d) (y.one_false h) = refl
    kind_yielded (k.all l d) (y.all_true h) = refl
    kind_yielded (k.any l d) (y.one_true h) = refl
    kind_yielded (k.any l d) (y.all_false h) = refl
    kind_yielded (k.compared c a b) (y.compared h i) = refl
    kind_yielded (k.sum l d) (y.sum h) = refl
    kind_yielded (k.product l d) (y.product h) = refl
    kind_yielded (k.least l d) (y.least h) = refl
    kind_yielded (k.greatest l d) (y.greatest h) = refl
    kind_yielded (k.count l d) (y.count h) = refl
    kind_yielded (k.choice l cs d) (y.choice t) = kind_taken cs d t

    kind_taken : {cs : List (Expr V × Expr V)} {other : Level V} {kind : ValueKind} {v : Value}
        → Each_case kinds cs kind → HasKind kinds other kind → Takes facts cs other v → kind_of v ≡ kind
    kind_taken k.no_case d (y.otherwise h) = kind_yielded d h
    kind_taken (k.case_and t c cs) d (y.taken h i) = kind_yielded c i
    kind_taken (k.case_and t c cs) d (y.passed h r) = kind_taken cs d r
