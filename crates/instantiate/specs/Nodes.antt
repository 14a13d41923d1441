-- The things of a unit, as they are listed.
use Rattle.std.specs.Prelude.{◌≡◌, Bool, true, false, List, map, filter, Option, Some, None}
use Rattle.ar_base.specs.Numbers.{NameId}
use Rattle.ar_base.specs.NumbersInside.{UnitId}
use Rattle.ar_base.specs.declared.places.Place.{Place}
use Rattle.ar_syntax.specs.declared.members.Member.TheOpen as member
use Rattle.ar_syntax.specs.declared.members.TypeForm.{TypeForm}
use Rattle.class_table.specs.Declaring.{MemberForm, Declared}
use Rattle.class_table.specs.Members.{Site, NamedMember, MemberKind}
use Rattle.hierarchy.specs.Models.{RootedModel}
use Rattle.hierarchy.specs.Units.{UnitPath, Thing}
use Rattle.hierarchy.specs.Walks.{is_variable, is_parameter, is_event, is_observer}
use Rattle.hierarchy.specs.Tie.{IsThingNode}
use Rattle.hierarchy.specs.declared.tree.MemNode.{MemNode}
use Rattle.unit_rules.specs.Typing.{bounds_variables}
use Rattle.instantiate.specs.declared.nodes.Listed.{Listed}
use Rattle.instantiate.specs.declared.nodes.Listed.TheVariants.{Variables, Parameters, Events, Observers}

-- the test for what is listed
abbrev pub test_of : Listed → MemberKind → Bool
test_of Variables = is_variable
test_of Parameters = is_parameter
test_of Events = is_event
test_of Observers = is_observer

-- a declaration by this type gives things of the kind
abbrev pub declares_so : Listed → Declared → TypeForm → Bool
declares_so Variables d f = bounds_variables d f
declares_so _ d f = false

-- the name of a member that gives one thing of the kind
abbrev pub single_of : Listed → MemberForm → Option NameId
single_of Variables f = None
single_of Parameters (member.Parameter t x at e) = Some x
single_of Parameters (member.Kept x at span) = Some x
single_of Parameters _ = None
single_of Events (member.Event x at span) = Some x
single_of Events _ = None
single_of Observers (member.Observer t x at e) = Some x
single_of Observers _ = None

-- the node of a member in the unit of this number
abbrev pub node_at : UnitId → NamedMember → MemNode
node_at unit g = record {
  unit = unit;
  name = record { n = g.name; of = record {} };
  source = record { body = record { n = g.site.body; of = record {} }; member = g.site.place; setting = None };
}

-- the nodes of those members that pass the test
abbrev pub nodes_of_members : UnitId → (MemberKind → Bool) → List NamedMember → List MemNode
nodes_of_members unit test gs = map (node_at unit) (filter (λ (g : NamedMember). test g.kind) gs)

-- the node is that of the thing, which is given by what passes the test
pub record IsNodeSo (m : RootedModel) (units : List UnitPath) (test : MemberKind → Bool) (t : Thing)
    (d : MemNode) : Type 0 where
  pub given : NamedMember
  pub node : IsThingNode m units t given d
  pub passes : test given.kind ≡ true

-- the node of the name that a member at this site gives
abbrev pub node_named : UnitId → Site → NameId → MemNode
node_named unit s x = record {
  unit = unit;
  name = x;
  source = record { body = record { n = s.body; of = record {} }; member = s.place; setting = None };
}

-- the same of a name with its place
abbrev pub name_node : UnitId → Site → NameId × Place → MemNode
name_node unit s x = node_named unit s x.0

-- a node for each of these names
abbrev pub names_nodes : UnitId → Site → List (NameId × Place) → List MemNode
names_nodes unit s names = map (name_node unit s) names
