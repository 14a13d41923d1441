-- Two kinds that are told.
use Rattle.std.proofs.Common.{◌≡◌, ◌↔◌, IsTrue, Bool, true, false, not, Option, Some, sym, subst}
use Rattle.typed_expr.specs.declared.expr.ValueKind.{ValueKind}
use Rattle.written_forms.specs.WrongInside.{AreTwoKinds, two}

differ_only : {j k : ValueKind} → AreTwoKinds (Some j) (Some k) → j ≡ k → ⊥
differ_only (two n) = n

by_test : (one other : ValueKind) (same : Bool) → (IsTrue same ↔ (one ≡ other)) → IsTrue (not same)
    ↔ AreTwoKinds (Some one) (Some other)
by_test one other true h = (λ t. cc, λ t. absurd (differ_only t (h.0 (let e : true ≡ true = cc in e))))
by_test one other false h = (λ t. two (λ e. let f = h.1 e in cc), λ t. (let e : true ≡ true = cc in e))

pub two_by : (kind want : Option ValueKind) (one other : ValueKind) (same : Bool) → kind ≡ Some one → want ≡ Some other
    → (IsTrue same ↔ (one ≡ other)) → IsTrue (not same) ↔ AreTwoKinds kind want
two_by kind want one other same i j h =
    subst (λ (z : Option ValueKind). IsTrue (not same) ↔ AreTwoKinds z want) (sym i)
    (subst (λ (z : Option ValueKind). IsTrue (not same) ↔ AreTwoKinds (Some one) z) (sym j) (by_test one other same h))
