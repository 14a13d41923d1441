use Rattle.std.proofs.Common.{◌⊎◌, Bool, ℕ}
use Rattle.ar_base.specs.declared.places.Place.{Place}
use Rattle.ar_syntax.specs.declared.expressions.RawExpr.{RawExpr}
use Rattle.class_table.specs.Earliest.{IsEarliest, Until}
use Rattle.class_table.proofs.Looping.{AtItem}
use Rattle.written_forms.specs.Operands.{level_of}
use Rattle.written_forms.specs.Wrong.{IsMisnamed}
use Rattle.written_forms.specs.WrongInside.{IsNamedPath}
use Rattle.written_forms.proofs.misnaming.+misnamed.Given as goal

abbrev pub invariant-misnamed_in-loop-e : goal.invariant-misnamed_in-loop-e
invariant-misnamed_in-loop-e g l = IsEarliest
    (Until (AtItem l.es (λ (k : ℕ) (e : RawExpr). IsMisnamed (IsNamedPath (g.N.Naming.kind_at l.naming)) (level_of e)))
    l.e-index) l.found

abbrev pub invariant-misnamed_terms-loop-e : goal.invariant-misnamed_terms-loop-e
invariant-misnamed_terms-loop-e g l =
    IsEarliest (Until (AtItem l.parts (λ (k : ℕ) (p : Bool × RawExpr). IsMisnamed
    (IsNamedPath (g.N.Naming.kind_at l.naming)) (level_of p.1))) l.e-index) l.found

abbrev pub invariant-misnamed_cases-loop-test : goal.invariant-misnamed_cases-loop-test
invariant-misnamed_cases-loop-test g l =
    IsEarliest (Until (AtItem l.cases (λ (k : ℕ) (c : RawExpr × RawExpr) (p : Place).
    IsMisnamed (IsNamedPath (g.N.Naming.kind_at l.naming)) (level_of c.0) p
    ⊎ IsMisnamed (IsNamedPath (g.N.Naming.kind_at l.naming)) (level_of c.1) p)) l.test-index) l.found
