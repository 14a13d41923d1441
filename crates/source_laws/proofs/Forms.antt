-- Members that agree, one kind at a time.
use Rattle.std.specs.Prelude.{◌≡◌, Vec}
use Rattle.std.specs.Global.{Global}
use Rattle.std.proofs.Common.{refl}
use Rattle.ar_base.specs.Lists.{Along, IsOneOf}
use Rattle.ar_base.specs.Numbers.{NameId}
use Rattle.ar_base.specs.declared.places.Place.{Place}
use Rattle.ar_base.proofs.Standing.{along_on}
use Rattle.ar_syntax.specs.declared.expressions.RawExpr.{RawExpr}
use Rattle.ar_syntax.specs.declared.instructions.Instr.{Instr}
use Rattle.ar_syntax.specs.declared.members.Member.{Member, out-Member}
use Rattle.ar_syntax.specs.declared.members.Member.TheOpen as member
use Rattle.ar_syntax.specs.declared.members.Part.{Part}
use Rattle.ar_syntax.specs.declared.paths.Path.{Path}
use Rattle.parser_laws.specs.Expressions.{SamePath, SameExpr, SameInstr}
use Rattle.parser_laws.specs.Members.{SameMember, SamePart}
use Rattle.parser_laws.specs.Opened.{SameKind}
use Rattle.class_table.specs.Declaring.{MemberForm}
use Rattle.hierarchy.specs.Listing.{forms_at}
use Rattle.hierarchy.specs.Models.{RootedModel}
use Rattle.hierarchy.specs.Units.{UnitPath}
use Rattle.source_laws.specs.Tables.{SameRooted}
use Rattle.source_laws.specs.Views.{SameForms}
use Rattle.source_laws.specs.Views as form
use Rattle.source_laws.proofs.Settled.{forms_there}
use Rattle.source_meaning.specs.Rules.{IsWayOf, local, sync}

-- a transition of one name at one place, whose guard and action agree
pub record LocalThere (x : NameId) (at : Place) (e : RawExpr) (i : Instr) (f : MemberForm) : Type 0 where
  pub guard : RawExpr
  pub action : Instr
  pub is : f ≡ member.Local x at guard action
  pub same_guard : SameExpr e guard
  pub same_action : SameInstr i action

pub as_local : {x : NameId} {at : Place} {e : RawExpr} {i : Instr} {f : MemberForm}
    → SameForms (member.Local x at e i) f → LocalThere x at e i f
as_local (form.local {f = f} {j = j} s r) =
    record { guard = f; action = j; is = refl; same_guard = s; same_action = r }

-- a synchronisation of one name at one place, whose parts agree
pub record SyncThere (x : NameId) (at : Place) (v : Vec Part Global) (f : MemberForm) : Type 0 where
  pub parts : Vec Part Global
  pub is : f ≡ member.Sync x at parts
  pub agree : Along SamePart v.items parts.items

pub as_sync : {x : NameId} {at : Place} {v : Vec Part Global} {f : MemberForm} → SameForms (member.Sync x at v) f
    → SyncThere x at v f
as_sync (form.sync {w = w} s) = record { parts = w; is = refl; agree = s }

-- a hide clause whose path agrees
pub record HideThere (p : Path) (f : MemberForm) : Type 0 where
  pub path : Path
  pub is : f ≡ member.Hide path
  pub agree : SamePath p path

pub as_hide : {p : Path} {f : MemberForm} → SameForms (member.Hide p) f → HideThere p f
as_hide (form.hides {q = q} s) = record { path = q; is = refl; agree = s }

-- an assertion whose instruction agrees
pub record AssertThere (i : Instr) (f : MemberForm) : Type 0 where
  pub instr : Instr
  pub is : f ≡ member.Assert instr
  pub agree : SameInstr i instr

pub as_assert : {i : Instr} {f : MemberForm} → SameForms (member.Assert i) f → AssertThere i f
as_assert (form.asserts {j = j} s) = record { instr = j; is = refl; agree = s }

-- members that agree are ways of one event, which stands at one place
pub way_there : {f g : MemberForm} {x : NameId} {at : Place} → IsWayOf f x at → SameForms f g → IsWayOf g x at
way_there local (form.local s r) = local
way_there sync (form.sync s) = sync

-- a member that agrees stands in the unit
pub record FormThere (m : RootedModel) (u : UnitPath) (f : MemberForm) : Type 0 where
  pub form : MemberForm
  pub is_one : IsOneOf (forms_at m u) form
  pub agree : SameForms f form

pub form_there : (kinds : (m n : Member) → SameMember m n → SameKind (out-Member m) (out-Member n))
    (m n : RootedModel) → SameRooted m n → (u : UnitPath) (f : MemberForm) → IsOneOf (forms_at m u) f
    → FormThere n u f
form_there kinds m n agree u f is =
    let o = along_on (forms_at m u) (forms_at n u) (forms_there kinds m n agree u) is.place f is.stands in
    record { form = o.0; is_one = record { place = is.place; stands = o.1 }; agree = o.2 }
