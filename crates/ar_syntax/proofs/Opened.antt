-- Expressions, instructions and members with their outermost form in view.
use Rattle.std.proofs.Common.{◌≡◌, Bool, Box, Vec, Global, ap, ◌∙◌}
use Rattle.std.specs.Prelude.{ℤ, Option}
use Rattle.ar_base.specs.Numbers.{NameId}
use Rattle.ar_base.specs.declared.places.Place.{Place}
use Rattle.ar_base.specs.declared.places.Span.{Span}
use Rattle.ar_syntax.specs.declared.paths.Path.{Path}
use Rattle.ar_syntax.specs.declared.expressions.RawExpr.{RawExpr}
use Rattle.ar_syntax.specs.declared.expressions.RawRelation.{RawRelation}
use Rattle.ar_syntax.specs.declared.expressions.RawForm.{RawForm, out-RawForm, roll-RawForm, out-roll-RawForm}
use Rattle.ar_syntax.specs.declared.expressions.RawForm.TheOpen as open_form
use Rattle.ar_syntax.specs.declared.expressions.RawForm.TheVariants as form
use Rattle.ar_syntax.specs.declared.instructions.Instr.{Instr, out-Instr, roll-Instr, out-roll-Instr}
use Rattle.ar_syntax.specs.declared.instructions.Instr.TheOpen as open_instr
use Rattle.ar_syntax.specs.declared.instructions.Instr.TheVariants as instr
use Rattle.ar_syntax.specs.declared.members.Member.{Member, out-Member, roll-Member, out-roll-Member}
use Rattle.ar_syntax.specs.declared.members.Member.TheOpen as open_member
use Rattle.ar_syntax.specs.declared.members.Member.TheVariants as member
use Rattle.ar_syntax.specs.declared.members.Part.{Part}
use Rattle.ar_syntax.specs.declared.members.Setting.{Setting}
use Rattle.ar_syntax.specs.declared.members.TypeName.{TypeName}
use Rattle.ar_syntax.specs.declared.members.Unit.{Unit as UnitTree}

-- Forms of expressions

pub form-truth : (f : RawForm) (b : Bool) → f ≡ form.Truth b → out-RawForm f ≡ open_form.Truth b
unfolding roll-RawForm out-RawForm denote.Hole.Carrier.roll
form-truth f b e = ap out-RawForm e ∙ out-roll-RawForm (open_form.Truth b)

pub form-whole : (f : RawForm) (n : ℤ) → f ≡ form.Whole n → out-RawForm f ≡ open_form.Whole n
unfolding roll-RawForm out-RawForm denote.Hole.Carrier.roll
form-whole f n e = ap out-RawForm e ∙ out-roll-RawForm (open_form.Whole n)

pub form-real : (f : RawForm) → f ≡ form.Real → out-RawForm f ≡ open_form.Real
unfolding roll-RawForm out-RawForm denote.Hole.Carrier.roll
form-real f e = ap out-RawForm e ∙ out-roll-RawForm open_form.Real

pub form-path : (f : RawForm) (p : Path) → f ≡ form.Path p → out-RawForm f ≡ open_form.Path p
unfolding roll-RawForm out-RawForm denote.Hole.Carrier.roll
form-path f p e = ap out-RawForm e ∙ out-roll-RawForm (open_form.Path p)

pub form-not : (f : RawForm) (x : Box RawExpr Global) → f ≡ form.Not x → out-RawForm f ≡ open_form.Not x
form-not f x e = ap out-RawForm e ∙ form.outs-Not x

pub form-minus : (f : RawForm) (x : Box RawExpr Global) → f ≡ form.Minus x → out-RawForm f ≡ open_form.Minus x
form-minus f x e = ap out-RawForm e ∙ form.outs-Minus x

pub form-all : (f : RawForm) (es : Vec RawExpr Global) → f ≡ form.All es → out-RawForm f ≡ open_form.All es
form-all f es e = ap out-RawForm e ∙ form.outs-All es

pub form-any : (f : RawForm) (es : Vec RawExpr Global) → f ≡ form.Any es → out-RawForm f ≡ open_form.Any es
form-any f es e = ap out-RawForm e ∙ form.outs-Any es

pub form-compare : (f : RawForm) (r : RawRelation) (x y : Box RawExpr Global)
    → f ≡ form.Compare r x y → out-RawForm f ≡ open_form.Compare r x y
form-compare f r x y e = ap out-RawForm e ∙ form.outs-Compare r x y

pub form-sum : (f : RawForm) (ts : Vec (Bool × RawExpr) Global) → f ≡ form.Sum ts → out-RawForm f ≡ open_form.Sum ts
form-sum f ts e = ap out-RawForm e ∙ form.outs-Sum ts

pub form-product : (f : RawForm) (es : Vec RawExpr Global) → f ≡ form.Product es
    → out-RawForm f ≡ open_form.Product es
form-product f es e = ap out-RawForm e ∙ form.outs-Product es

pub form-least : (f : RawForm) (es : Vec RawExpr Global) → f ≡ form.Least es → out-RawForm f ≡ open_form.Least es
form-least f es e = ap out-RawForm e ∙ form.outs-Least es

pub form-greatest : (f : RawForm) (es : Vec RawExpr Global) → f ≡ form.Greatest es
    → out-RawForm f ≡ open_form.Greatest es
form-greatest f es e = ap out-RawForm e ∙ form.outs-Greatest es

pub form-count : (f : RawForm) (es : Vec RawExpr Global) → f ≡ form.Count es → out-RawForm f ≡ open_form.Count es
form-count f es e = ap out-RawForm e ∙ form.outs-Count es

pub form-choice : (f : RawForm) (cs : Vec (RawExpr × RawExpr) Global) (other : Box RawExpr Global)
    → f ≡ form.Choose cs other → out-RawForm f ≡ open_form.Choose cs other
form-choice f cs other e = ap out-RawForm e ∙ form.outs-Choose cs other

-- Instructions

pub instr-skip : (i : Instr) → i ≡ instr.Skip → out-Instr i ≡ open_instr.Skip
unfolding roll-Instr out-Instr denote.Hole.Carrier.roll
instr-skip i e = ap out-Instr e ∙ out-roll-Instr open_instr.Skip

pub instr-assign : (i : Instr) (p : Path) (e : RawExpr) → i ≡ instr.Assign p e → out-Instr i ≡ open_instr.Assign p e
unfolding roll-Instr out-Instr denote.Hole.Carrier.roll
instr-assign i p e h = ap out-Instr h ∙ out-roll-Instr (open_instr.Assign p e)

pub instr-tie : (i : Instr) (p q : Path) → i ≡ instr.Tie p q → out-Instr i ≡ open_instr.Tie p q
unfolding roll-Instr out-Instr denote.Hole.Carrier.roll
instr-tie i p q e = ap out-Instr e ∙ out-roll-Instr (open_instr.Tie p q)

pub instr-if : (i : Instr) (e : RawExpr) (x : Box Instr Global) (other : Option (Box Instr Global))
    → i ≡ instr.If e x other → out-Instr i ≡ open_instr.If e x other
instr-if i e x other h = ap out-Instr h ∙ instr.outs-If e x other

pub instr-group : (i : Instr) (is : Vec Instr Global) → i ≡ instr.All is → out-Instr i ≡ open_instr.All is
instr-group i is e = ap out-Instr e ∙ instr.outs-All is

-- Members

pub member-extends : (m : Member) (name : NameId) (at : Place) → m ≡ member.Extends name at
    → out-Member m ≡ open_member.Extends name at
unfolding roll-Member out-Member denote.Hole.Carrier.roll
member-extends m name at e = ap out-Member e ∙ out-roll-Member (open_member.Extends name at)

pub member-declare : (m : Member) (type : TypeName) (ids : Vec (NameId × Place) Global) (settings : Vec Setting Global)
    → m ≡ member.Declare type ids settings → out-Member m ≡ open_member.Declare type ids settings
unfolding roll-Member out-Member denote.Hole.Carrier.roll
member-declare m type ids settings e = ap out-Member e ∙ out-roll-Member (open_member.Declare type ids settings)

pub member-block : (m : Member) (u : UnitTree) → m ≡ member.Block u → out-Member m ≡ open_member.Block u
member-block m u e = ap out-Member e ∙ member.outs-Block u

pub member-clones : (m : Member) (p : Path) (name : NameId) (at : Place)
    → m ≡ member.Clones p name at → out-Member m ≡ open_member.Clones p name at
unfolding roll-Member out-Member denote.Hole.Carrier.roll
member-clones m p name at e = ap out-Member e ∙ out-roll-Member (open_member.Clones p name at)

pub member-embeds : (m : Member) (p : Path) (name : NameId) (at : Place)
    → m ≡ member.Embeds p name at → out-Member m ≡ open_member.Embeds p name at
unfolding roll-Member out-Member denote.Hole.Carrier.roll
member-embeds m p name at e = ap out-Member e ∙ out-roll-Member (open_member.Embeds p name at)

pub member-parameter : (m : Member) (type : TypeName) (name : NameId) (at : Place) (value : RawExpr)
    → m ≡ member.Parameter type name at value → out-Member m ≡ open_member.Parameter type name at value
unfolding roll-Member out-Member denote.Hole.Carrier.roll
member-parameter m type name at value e = ap out-Member e ∙ out-roll-Member (open_member.Parameter type name at value)

pub member-kept : (m : Member) (name : NameId) (at : Place) (span : Span)
    → m ≡ member.Kept name at span → out-Member m ≡ open_member.Kept name at span
unfolding roll-Member out-Member denote.Hole.Carrier.roll
member-kept m name at span e = ap out-Member e ∙ out-roll-Member (open_member.Kept name at span)

pub member-event : (m : Member) (name : NameId) (at : Place) (attribute : Option Span)
    → m ≡ member.Event name at attribute → out-Member m ≡ open_member.Event name at attribute
unfolding roll-Member out-Member denote.Hole.Carrier.roll
member-event m name at attribute e = ap out-Member e ∙ out-roll-Member (open_member.Event name at attribute)

pub member-observer : (m : Member) (type : TypeName) (name : NameId) (at : Place) (value : RawExpr)
    → m ≡ member.Observer type name at value → out-Member m ≡ open_member.Observer type name at value
unfolding roll-Member out-Member denote.Hole.Carrier.roll
member-observer m type name at value e = ap out-Member e ∙ out-roll-Member (open_member.Observer type name at value)

pub member-hide : (m : Member) (p : Path) → m ≡ member.Hide p → out-Member m ≡ open_member.Hide p
unfolding roll-Member out-Member denote.Hole.Carrier.roll
member-hide m p e = ap out-Member e ∙ out-roll-Member (open_member.Hide p)

pub member-local : (m : Member) (name : NameId) (at : Place) (guard : RawExpr) (action : Instr)
    → m ≡ member.Local name at guard action → out-Member m ≡ open_member.Local name at guard action
unfolding roll-Member out-Member denote.Hole.Carrier.roll
member-local m name at guard action e = ap out-Member e ∙ out-roll-Member (open_member.Local name at guard action)

pub member-sync : (m : Member) (name : NameId) (at : Place) (parts : Vec Part Global)
    → m ≡ member.Sync name at parts → out-Member m ≡ open_member.Sync name at parts
unfolding roll-Member out-Member denote.Hole.Carrier.roll
member-sync m name at parts e = ap out-Member e ∙ out-roll-Member (open_member.Sync name at parts)

pub member-assert : (m : Member) (i : Instr) → m ≡ member.Assert i → out-Member m ≡ open_member.Assert i
unfolding roll-Member out-Member denote.Hole.Carrier.roll
member-assert m i e = ap out-Member e ∙ out-roll-Member (open_member.Assert i)
