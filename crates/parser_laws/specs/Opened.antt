-- What trees that agree say part by part: their outermost forms are of one kind, the trees inside
-- agree, and all else is the same. Trees of two kinds are never related.
use Rattle.std.specs.Prelude.{◌≡◌}
use Rattle.ar_base.specs.Lists.{Along}
use Rattle.ar_syntax.specs.declared.expressions.RawExpr.{RawExpr}
use Rattle.ar_syntax.specs.declared.expressions.RawForm.{RawForm}
use Rattle.ar_syntax.specs.declared.expressions.RawForm.TheOpen.{RawForm-F}
use Rattle.ar_syntax.specs.declared.expressions.RawForm.TheOpen as form
use Rattle.ar_syntax.specs.declared.instructions.Instr.{Instr}
use Rattle.ar_syntax.specs.declared.instructions.Instr.TheOpen.{Instr-F}
use Rattle.ar_syntax.specs.declared.instructions.Instr.TheOpen as instr
use Rattle.ar_syntax.specs.declared.members.Member.{Member}
use Rattle.ar_syntax.specs.declared.members.Member.TheOpen.{Member-F}
use Rattle.ar_syntax.specs.declared.members.Member.TheOpen as member
use Rattle.ar_syntax.specs.declared.members.Unit.{Unit as UnitTree}
use Rattle.ar_syntax.specs.declared.items.DomainBody.{DomainBody}
use Rattle.ar_syntax.specs.declared.items.DomainBody.TheVariants as domain
use Rattle.ar_syntax.specs.declared.items.DomainDecl.{DomainDecl}
use Rattle.ar_syntax.specs.declared.items.Item.{Item}
use Rattle.ar_syntax.specs.declared.items.Item.TheVariants as item
use Rattle.ar_syntax.specs.declared.items.Model.{Model}
use Rattle.parser_laws.specs.Expressions.{SamePath, SameExpr, SameOption, SameInstr}
use Rattle.parser_laws.specs.Members.{SameSetting, SamePart, SameUnitBy, SameMember, SameUnit}

-- Expressions

-- an expression's form with its outermost kind in view
abbrev pub ExprForm : Type 0
ExprForm = RawForm-F RawForm RawExpr

-- one kind, where the expressions inside are related
abbrev pub SameFormBy : (RawExpr → RawExpr → Type 0) → ExprForm → ExprForm → Type 0
SameFormBy Same (form.Truth b) (form.Truth c) = b ≡ c
SameFormBy Same (form.Whole n) (form.Whole m) = n ≡ m
SameFormBy Same form.Real form.Real = Unit {0}
SameFormBy Same (form.Path p) (form.Path q) = SamePath p q
SameFormBy Same (form.Not x) (form.Not y) = Same x.value y.value
SameFormBy Same (form.Minus x) (form.Minus y) = Same x.value y.value
SameFormBy Same (form.All v) (form.All w) = Along Same v.items w.items
SameFormBy Same (form.Any v) (form.Any w) = Along Same v.items w.items
SameFormBy Same (form.Compare r x y) (form.Compare s z u) =
    (r ≡ s) × Same x.value z.value × Same y.value u.value
SameFormBy Same (form.Sum v) (form.Sum w) =
    Along (λ s t. (s.0 ≡ t.0) × Same s.1 t.1) v.items w.items
SameFormBy Same (form.Product v) (form.Product w) = Along Same v.items w.items
SameFormBy Same (form.Least v) (form.Least w) = Along Same v.items w.items
SameFormBy Same (form.Greatest v) (form.Greatest w) = Along Same v.items w.items
SameFormBy Same (form.Count v) (form.Count w) = Along Same v.items w.items
SameFormBy Same (form.Choose v x) (form.Choose w y) =
    Along (λ s t. Same s.0 t.0 × Same s.1 t.1) v.items w.items × Same x.value y.value
SameFormBy Same _ _ = ⊥

-- one kind, and the expressions inside agree
abbrev pub SameForm : ExprForm → ExprForm → Type 0
SameForm = SameFormBy SameExpr

-- Instructions

-- an instruction with its outermost kind in view
abbrev pub OpenedInstr : Type 0
OpenedInstr = Instr-F Instr

-- one kind, where the instructions inside are related
abbrev pub SameStepBy : (Instr → Instr → Type 0) → OpenedInstr → OpenedInstr → Type 0
SameStepBy Same instr.Skip instr.Skip = Unit {0}
SameStepBy Same (instr.Assign p e) (instr.Assign q f) = SamePath p q × SameExpr e f
SameStepBy Same (instr.Tie p q) (instr.Tie r s) = SamePath p r × SamePath q s
SameStepBy Same (instr.If e x o) (instr.If f y u) =
    SameExpr e f × Same x.value y.value × SameOption (λ a b. Same a.value b.value) o u
SameStepBy Same (instr.All v) (instr.All w) = Along Same v.items w.items
SameStepBy Same _ _ = ⊥

-- one kind, and the instructions inside agree
abbrev pub SameStep : OpenedInstr → OpenedInstr → Type 0
SameStep = SameStepBy SameInstr

-- Members

-- one kind, where the members inside are related
abbrev pub SameKindBy : (Member → Member → Type 0)
    → Member-F Member UnitTree → Member-F Member UnitTree → Type 0
SameKindBy Same (member.Extends n a) (member.Extends m b) = (n ≡ m) × (a ≡ b)
SameKindBy Same (member.Declare t v s) (member.Declare u w r) =
    (t ≡ u) × (v.items ≡ w.items) × Along SameSetting s.items r.items
SameKindBy Same (member.Block u) (member.Block w) = SameUnitBy Same u w
SameKindBy Same (member.Clones p n a) (member.Clones q m b) = SamePath p q × (n ≡ m) × (a ≡ b)
SameKindBy Same (member.Embeds p n a) (member.Embeds q m b) = SamePath p q × (n ≡ m) × (a ≡ b)
SameKindBy Same (member.Parameter t n a e) (member.Parameter u m b f) =
    (t ≡ u) × (n ≡ m) × (a ≡ b) × SameExpr e f
SameKindBy Same (member.Kept n a s) (member.Kept m b r) = (n ≡ m) × (a ≡ b) × (s ≡ r)
SameKindBy Same (member.Event n a s) (member.Event m b r) = (n ≡ m) × (a ≡ b) × (s ≡ r)
SameKindBy Same (member.Observer t n a e) (member.Observer u m b f) =
    (t ≡ u) × (n ≡ m) × (a ≡ b) × SameExpr e f
SameKindBy Same (member.Hide p) (member.Hide q) = SamePath p q
SameKindBy Same (member.Local n a e i) (member.Local m b f j) =
    (n ≡ m) × (a ≡ b) × SameExpr e f × SameInstr i j
SameKindBy Same (member.Sync n a v) (member.Sync m b w) =
    (n ≡ m) × (a ≡ b) × Along SamePart v.items w.items
SameKindBy Same (member.Assert i) (member.Assert j) = SameInstr i j
SameKindBy Same _ _ = ⊥

-- one kind, and the members inside agree
abbrev pub SameKind : Member-F Member UnitTree → Member-F Member UnitTree → Type 0
SameKind = SameKindBy SameMember

-- Items

-- the same symbols in one order, each in its place, or the same bounds
abbrev pub SameBody : DomainBody → DomainBody → Type 0
SameBody (domain.Symbols v) (domain.Symbols w) = v.items ≡ w.items
SameBody (domain.Range a b) (domain.Range c d) = (a ≡ c) × (b ≡ d)
SameBody _ _ = ⊥

-- one name, one place and the same values
abbrev pub SameDomainForm : DomainDecl → DomainDecl → Type 0
SameDomainForm d c = (d.name ≡ c.name) × (d.at ≡ c.at) × SameBody d.body c.body

-- one kind: domains that declare the same, or units that agree
abbrev pub SameItemForm : Item → Item → Type 0
SameItemForm (item.Domain d) (item.Domain c) = SameDomainForm d c
SameItemForm (item.Class u) (item.Class w) = SameUnit u w
SameItemForm (item.Block u) (item.Block w) = SameUnit u w
SameItemForm _ _ = ⊥

-- items of one kind each in one order, the same names with the same numbers, and one end
abbrev pub SameModelForm : Model → Model → Type 0
SameModelForm m n =
    Along SameItemForm m.items.items n.items.items × (m.names ≡ n.names) × (m.end ≡ n.end)
