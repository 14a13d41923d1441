-- Instructions that agree have the same parts, and break the same rules by themselves at the same places.
use Rattle.std.proofs.Common.{sym, subst}
use Rattle.ar_base.specs.declared.places.Place.{Place}
use Rattle.ar_base.proofs.Standing.{along_on}
use Rattle.ar_syntax.specs.declared.expressions.RawExpr.{RawExpr}
use Rattle.ar_syntax.specs.declared.expressions.RawForm.{out-RawForm}
use Rattle.ar_syntax.specs.declared.instructions.Instr.{Instr, out-Instr}
use Rattle.ar_syntax.specs.declared.instructions.Instr.TheOpen as instr
use Rattle.ar_syntax.specs.declared.paths.Path.{Path}
use Rattle.typed_expr.specs.declared.expr.ValueKind.{ValueKind}
use Rattle.parser_laws.specs.Expressions.{SamePath, SameExpr, SameInstr}
use Rattle.parser_laws.specs.Opened.{SameForm, SameStep}
use Rattle.written_forms.specs.Breaches.{MisnamesItself, MistypesItself, MisplacedInAction, MisplacedInAssertion}
use Rattle.written_forms.specs.Breaches.MisnamesItself.{test as test_unnamed, value as value_unnamed, target, left as left_unnamed, right as right_unnamed}
use Rattle.written_forms.specs.Breaches.MistypesItself.{test as test_mistyped, value as value_mistyped, tied}
use Rattle.written_forms.specs.Breaches.MisplacedInAction.{assigns as action_assigns, ties}
use Rattle.written_forms.specs.Breaches.MisplacedInAssertion.{assigns as assertion_assigns, left as left_misplaced, right as right_misplaced}
use Rattle.written_forms.specs.Parts.{InstrForm, IsPartOf, itself, first, second, item}
use Rattle.source_laws.proofs.Levels.{SameActs, level_there, acts_there}
use Rattle.source_laws.proofs.Levels as same
use Rattle.source_laws.proofs.Wrong.{of_kind, misnamed_there, mistyped_there}

module _ (steps : (i j : Instr) → SameInstr i j → SameStep (out-Instr i) (out-Instr j)) where
  -- an instruction that agrees is part of the instruction
  pub record PartThere (whole i : InstrForm) : Type 0 where
    pub part : InstrForm
    pub is_part : IsPartOf part whole
    pub agree : SameActs i part

  pub part_there : {i v w : InstrForm} → SameActs v w → IsPartOf i v → PartThere w i
  part_there {w = w} s itself = record { part = w; is_part = itself; agree = s }
  part_there (same.conditional {a = a} {b = b} e s o) (first h) =
      let there = part_there (acts_there steps a.value b.value s) h in
      record { part = there.part; is_part = first there.is_part; agree = there.agree }
  part_there (same.conditional e s (same.branch {a = a} {b = b} o)) (second h) =
      let there = part_there (acts_there steps a.value b.value o) h in
      record { part = there.part; is_part = second there.is_part; agree = there.agree }
  part_there (same.group {v = v} {w = w} s) (item j is h) =
      let other = along_on v.items w.items s is.place j is.stands in
      let there = part_there (acts_there steps j other.0 other.2) h in
      record {
        part = there.part;
        is_part = item other.0 (record { place = is.place; stands = other.1 }) there.is_part;
        agree = there.agree;
      }

module _ (opens : (e f : RawExpr) → SameExpr e f → SameForm (out-RawForm e.form) (out-RawForm f.form)) where
  -- Names

  module _ (may other variable variable_there : Path → Type 0)
      (back : (p q : Path) → SamePath p q → other q → may p)
      (variable_back : (p q : Path) → SamePath p q → variable_there q → variable p) where
    pub misnames_there : {f g : InstrForm} {at : Place} → MisnamesItself may variable f at → SameActs f g
        → MisnamesItself other variable_there g at
    misnames_there (test_unnamed h) (same.conditional {e = e} {f = f} s a o) =
        test_unnamed (misnamed_there opens may other back (level_there opens e f s) h)
    misnames_there (value_unnamed h) (same.assign {e = e} {f = f} s r) =
        value_unnamed (misnamed_there opens may other back (level_there opens e f r) h)
    misnames_there (target not) (same.assign {p = p} {q = q} {f = f} s r) =
        subst (λ (at : Place). MisnamesItself other variable_there (instr.Assign q f) at) (sym s.place)
        (target (λ h. not (variable_back p q s h)))
    misnames_there (left_unnamed not) (same.tie {p = p} {r = r} {s = q} s o) =
        subst (λ (at : Place). MisnamesItself other variable_there (instr.Tie r q) at) (sym s.place)
        (left_unnamed (λ h. not (variable_back p r s h)))
    misnames_there (right_unnamed not) (same.tie {q = p} {r = r} {s = q} s o) =
        subst (λ (at : Place). MisnamesItself other variable_there (instr.Tie r q) at) (sym o.place)
        (right_unnamed (λ h. not (variable_back p q o h)))

  -- Kinds

  module _ (names other : Path → ValueKind → Type 0)
      (carried : (p q : Path) (k : ValueKind) → SamePath p q → names p k → other q k) where
    pub mistypes_there : {f g : InstrForm} {at : Place} → MistypesItself names f at → SameActs f g
        → MistypesItself other g at
    mistypes_there (test_mistyped h) (same.conditional s a o) =
        test_mistyped (mistyped_there opens names other carried of_kind s h)
    mistypes_there (value_mistyped k n h) (same.assign {p = p} {q = q} s r) =
        value_mistyped k (carried p q k s n) (mistyped_there opens names other carried of_kind r h)
    mistypes_there (tied j k m n differ) (same.tie {p = p} {q = q} {r = r} {s = u} s o) =
        subst (λ (at : Place). MistypesItself other (instr.Tie r u) at) (sym o.place)
        (tied j k (carried p r j s m) (carried q u k o n) differ)

-- Targets

pub misplaced_action_there : (none other : Path → Type 0) → ((p q : Path) → SamePath p q → none p → other q)
    → {f g : InstrForm} {at : Place} → MisplacedInAction none f at → SameActs f g → MisplacedInAction other g at
misplaced_action_there none other carried (action_assigns h) (same.assign {p = p} {q = q} {f = f} s r) =
    subst (λ (at : Place). MisplacedInAction other (instr.Assign q f) at) (sym s.place)
    (action_assigns (carried p q s h))
misplaced_action_there none other carried ties (same.tie {r = r} {s = q} s o) =
    subst (λ (at : Place). MisplacedInAction other (instr.Tie r q) at) (sym s.place) ties

pub misplaced_assertion_there : (none other flow flow_there : Path → Type 0)
    → ((p q : Path) → SamePath p q → none p → other q) → ((p q : Path) → SamePath p q → flow p → flow_there q)
    → {f g : InstrForm} {at : Place} → MisplacedInAssertion none flow f at → SameActs f g
    → MisplacedInAssertion other flow_there g at
misplaced_assertion_there none other flow flow_there carried flows (assertion_assigns h)
    (same.assign {p = p} {q = q} {f = f} s r) =
    subst (λ (at : Place). MisplacedInAssertion other flow_there (instr.Assign q f) at) (sym s.place)
    (assertion_assigns (carried p q s h))
misplaced_assertion_there none other flow flow_there carried flows (left_misplaced h)
    (same.tie {p = p} {r = r} {s = q} s o) =
    subst (λ (at : Place). MisplacedInAssertion other flow_there (instr.Tie r q) at) (sym s.place)
    (left_misplaced (carried p r s h))
misplaced_assertion_there none other flow flow_there carried flows (right_misplaced f h)
    (same.tie {p = p} {q = q} {r = r} {s = u} s o) =
    subst (λ (at : Place). MisplacedInAssertion other flow_there (instr.Tie r u) at) (sym o.place)
    (right_misplaced (flows p r s f) (carried q u o h))
