use Rattle.std.proofs.Common.{◌⊎◌, Bool, ℕ}
use Rattle.ar_base.specs.declared.places.Place.{Place}
use Rattle.ar_syntax.specs.declared.expressions.RawExpr.{RawExpr}
use Rattle.typed_expr.specs.declared.expr.ValueKind.TheVariants.{Truth, Whole}
use Rattle.class_table.specs.Earliest.{IsEarliest, Until}
use Rattle.class_table.proofs.Looping.{AtItem}
use Rattle.written_forms.specs.Operands.{level_of, OfKind, Like}
use Rattle.written_forms.specs.FormsInside.{IsFormOf}
use Rattle.written_forms.specs.Wrong.{IsMistyped}
use Rattle.written_forms.specs.WrongInside.{NamesKind}
use Rattle.written_forms.proofs.mistyping.+mistyped.Given as goal

abbrev pub invariant-wrong_in-loop-e : goal.invariant-wrong_in-loop-e
invariant-wrong_in-loop-e g l = IsEarliest
    (Until (AtItem l.es (λ (k : ℕ) (e : RawExpr). IsMistyped (NamesKind (g.N.Naming.kind_at l.naming)) (OfKind l.kind)
    e))
    l.e-index) l.found

abbrev pub invariant-wrong_terms-loop-e : goal.invariant-wrong_terms-loop-e
invariant-wrong_terms-loop-e g l = IsEarliest
    (Until (AtItem l.parts (λ (k : ℕ) (p : Bool × RawExpr). IsMistyped (NamesKind (g.N.Naming.kind_at l.naming))
    (OfKind Whole) p.1)) l.e-index) l.found

abbrev pub invariant-wrong_cases-loop-test : goal.invariant-wrong_cases-loop-test
invariant-wrong_cases-loop-test g l = (first : RawExpr)
    → IsFormOf (NamesKind (g.N.Naming.kind_at l.naming)) (level_of first) l.kind
    → IsEarliest (Until (AtItem l.cases (λ (k : ℕ) (c : RawExpr × RawExpr) (p : Place).
    IsMistyped (NamesKind (g.N.Naming.kind_at l.naming)) (OfKind Truth) c.0 p
    ⊎ IsMistyped (NamesKind (g.N.Naming.kind_at l.naming)) (Like first) c.1 p)) l.test-index) l.found
