-- The place of a type name that names nothing of its kind, as it is found.
use Rattle.std.specs.Prelude.{Bool, true, false, is_some, Option, Some, None}
use Rattle.ar_base.specs.declared.places.Place.{Place}
use Rattle.ar_syntax.specs.declared.members.Member.{out-Member}
use Rattle.ar_syntax.specs.declared.members.Member.TheOpen as member
use Rattle.ar_syntax.specs.declared.members.TypeForm.{TypeForm}
use Rattle.ar_syntax.specs.declared.members.TypeForm.TheVariants as form
use Rattle.class_table.specs.Declaring.{MemberForm, Declared}
use Rattle.class_table.specs.Members.{type_named, class_named, domain_named}
use Rattle.class_table.specs.declared.tables.Owned.{Owned}
use Rattle.class_table.specs.declared.tables.Owned.TheVariants.{Plain, Nested}

-- the place where it is not right
abbrev pub place_unless : Bool → Place → Option Place
place_unless true at = None
place_unless false at = Some at

-- the type is a domain or a class
abbrev pub types_form : Declared → TypeForm → Bool
types_form d form.Boolean = true
types_form d form.Integer = true
types_form d (form.Named x) = is_some (type_named d x.n)

-- the type is a domain
abbrev pub bounds_form : Declared → TypeForm → Bool
bounds_form d form.Boolean = true
bounds_form d form.Integer = true
bounds_form d (form.Named x) = is_some (domain_named d x.n)

-- the place of the type name in a member
abbrev pub misnamed_form : Declared → MemberForm → Option Place
misnamed_form d (member.Extends x at) = place_unless (is_some (class_named d x.n)) at
misnamed_form d (member.Declare t names settings) = place_unless (types_form d t.form) t.at
misnamed_form d (member.Parameter t x at e) = place_unless (bounds_form d t.form) t.at
misnamed_form d (member.Observer t x at e) = place_unless (bounds_form d t.form) t.at
misnamed_form d _ = None

-- the same of a member of a body
abbrev pub misnamed_at : Declared → Owned → Option Place
misnamed_at d (Plain m) = misnamed_form d (out-Member m)
misnamed_at d (Nested x at b) = None
