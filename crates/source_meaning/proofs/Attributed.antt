-- Attributes of members that have values.
use Rattle.std.proofs.Common.{◌≡◌, true, List}
use Rattle.class_table.specs.Members.{MemberKind, Variable, Parameter, Kept, Event, Observer, Inner, Clone, Alias}
use Rattle.hierarchy.specs.Models.{RootedModel}
use Rattle.hierarchy.specs.Units.{UnitPath, Thing}
use Rattle.hierarchy.specs.Tie.{HasAttribute, HasAttributeOf}
use Rattle.hierarchy.specs.declared.tree.Attribute as tree
use Rattle.source_meaning.specs.Means.{is_valued}

-- an attribute of a member of such a kind is one of its own
pub valued_attribute : (m : RootedModel) (units : List UnitPath) (t : Thing) (k : MemberKind) (b : tree.Attribute)
    → is_valued k ≡ true → HasAttributeOf m units t k b → HasAttribute m units t b
valued_attribute m units t (Parameter f e) b v h = h
valued_attribute m units t Kept b v h = cc
valued_attribute m units t (Variable f ss) b v h = h
valued_attribute m units t Event b v h = h
valued_attribute m units t (Observer f e) b v h = h
valued_attribute m units t (Inner n o) b v h = h
valued_attribute m units t (Clone p) b v h = h
valued_attribute m units t (Alias p) b v h = h
