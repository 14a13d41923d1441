-- The units of a model, depth first, and the lists of what is in them.
use Rattle.std.specs.Prelude.{◌≡◌, ℕ, Bool, true, false, List, [], ◌∷◌, ◌++◌, map, filter, Option, Some, None, ◌==◌}
use Rattle.std.specs.List.{flat_map}
use Rattle.ar_syntax.specs.declared.instructions.Instr.{Instr}
use Rattle.ar_syntax.specs.declared.members.Member.{out-Member}
use Rattle.ar_syntax.specs.declared.members.Member.TheOpen as member
use Rattle.ar_syntax.specs.declared.paths.Path.{Path}
use Rattle.class_table.specs.Declaring.{MemberForm}
use Rattle.class_table.specs.Members.{NamedMember, MemberKind, Inner, Clone, owned_at}
use Rattle.class_table.specs.declared.tables.Owned.{Owned}
use Rattle.class_table.specs.declared.tables.Owned.TheVariants.{Plain, Nested}
use Rattle.hierarchy.specs.Models.{RootedModel}
use Rattle.hierarchy.specs.Units.{UnitPath, Thing, members_at, names_at}
use Rattle.hierarchy.specs.Walks.{Reaches, Nothing, Loops, NameLeads, thing, is_variable, is_parameter, is_event, is_observer}

-- Units

-- a block, an instance or a clone is a unit of its own; an alias is none
abbrev pub is_inner : MemberKind → Bool
is_inner (Inner b from) = true
is_inner (Clone p) = true
is_inner _ = false

-- what gives this name makes the unit v in the unit u
pub record MakesUnit (m : RootedModel) (u : UnitPath) (g : NamedMember) (v : UnitPath) : Type 0 where
  pub inner : is_inner g.kind ≡ true
  pub leads : NameLeads m [] u g.name (Some g.kind) (Reaches v)

-- what gives this name makes no unit in the unit u: it is none of its own, or its walk names nothing or loops
pub data MakesNone (m : RootedModel) (u : UnitPath) (g : NamedMember) : Type 0 where
  no_inner : is_inner g.kind ≡ false → MakesNone m u g
  nothing : NameLeads m [] u g.name (Some g.kind) Nothing → MakesNone m u g
  loops : NameLeads m [] u g.name (Some g.kind) Loops → MakesNone m u g

mutual
  -- a unit and those below it, depth first: all of them, or, at false, the first of them
  pub data ListsUnits (m : RootedModel) : Bool → UnitPath → List UnitPath → Type 0 where
    unit : {whole : Bool} {u : UnitPath} {us : List UnitPath} → Insides m whole u (names_at m u) us
        → ListsUnits m whole u (u ∷ us)

  -- what these members make in the unit u, each unit with those below it
  pub data Insides (m : RootedModel) : Bool → UnitPath → List NamedMember → List UnitPath → Type 0 where
    none : {u : UnitPath} → Insides m true u [] []
    cut : {u : UnitPath} {gs : List NamedMember} → Insides m false u gs []
    makes : {whole : Bool} {u v : UnitPath} {g : NamedMember} {gs : List NamedMember} {us vs : List UnitPath}
        → MakesUnit m u g v → ListsUnits m true v us → Insides m whole u gs vs
        → Insides m whole u (g ∷ gs) (us ++ vs)
    makes_cut : {u v : UnitPath} {g : NamedMember} {gs : List NamedMember} {us : List UnitPath} → MakesUnit m u g v
        → ListsUnits m false v us → Insides m false u (g ∷ gs) us
    passes : {whole : Bool} {u : UnitPath} {g : NamedMember} {gs : List NamedMember} {us : List UnitPath}
        → MakesNone m u g → Insides m whole u gs us
        → Insides m whole u (g ∷ gs) us

-- all units of the main block
abbrev pub AreUnits : RootedModel → List UnitPath → Type 0
AreUnits m units = ListsUnits m true [] units

-- the first units of the main block
abbrev pub AreFirstUnits : RootedModel → List UnitPath → Type 0
AreFirstUnits m units = ListsUnits m false [] units

-- a model with the units of its main block
pub record Unfolded : Type 0 where
  pub model : RootedModel
  pub units : List UnitPath

-- Things, by unit and member

-- what in a unit passes the test
abbrev pub things_in : (MemberKind → Bool) → RootedModel → UnitPath → List Thing
things_in test m u = map (λ (g : NamedMember). thing u g.name)
    (filter (λ (g : NamedMember). test g.kind) (names_at m u))

-- state variables and flows together
abbrev pub variables : RootedModel → List UnitPath → List Thing
variables m units = flat_map (things_in is_variable m) units

-- those without a value that is read included
abbrev pub parameters : RootedModel → List UnitPath → List Thing
parameters m units = flat_map (things_in is_parameter m) units

-- hidden ones included
abbrev pub events : RootedModel → List UnitPath → List Thing
events m units = flat_map (things_in is_event m) units

-- all observers
abbrev pub observers : RootedModel → List UnitPath → List Thing
observers m units = flat_map (things_in is_observer m) units

-- Members without names

-- the form of a member that is no block
abbrev pub form_of : Option Owned → List MemberForm
form_of None = []
form_of (Some (Plain m)) = out-Member m ∷ []
form_of (Some (Nested x at b)) = []

-- the members of a unit but for its blocks, each with its outermost form in view
abbrev pub forms_at : RootedModel → UnitPath → List MemberForm
forms_at m u = flat_map (λ s. form_of (owned_at m.declared s)) (members_at m u)

-- what stands in a unit
pub record In (A : Type 0) : Type 0 where
  pub unit : UnitPath
  pub item : A

-- each of these, in this unit
abbrev pub all_in : {A : Type 0} → UnitPath → List A → List (In A)
all_in u items = map (λ a. record { unit = u; item = a }) items

-- what a test of their forms finds in the members of these units
abbrev pub found : {A : Type 0} → RootedModel → (MemberForm → List A) → List UnitPath → List (In A)
found m test units = flat_map (λ u. all_in u (flat_map test (forms_at m u))) units

-- the instruction of a member of an assertion
abbrev pub asserted : MemberForm → List Instr
asserted (member.Assert i) = i ∷ []
asserted _ = []

-- the path of a hide clause
abbrev pub hidden : MemberForm → List Path
hidden (member.Hide p) = p ∷ []
hidden _ = []

-- the instructions of the assertions of these units
abbrev pub assertions : RootedModel → List UnitPath → List (In Instr)
assertions m units = found m asserted units

-- the paths that hide clauses of these units name
abbrev pub hidden_paths : RootedModel → List UnitPath → List (In Path)
hidden_paths m units = found m hidden units

-- the member is a transition or a synchronisation of the event of this name
abbrev pub is_way_of : ℕ → MemberForm → Bool
is_way_of x (member.Local y at guard action) = y.n == x
is_way_of x (member.Sync y at parts) = y.n == x
is_way_of x _ = false

-- the transitions and synchronisations of an event, in member order
abbrev pub ways_declared : RootedModel → Thing → List MemberForm
ways_declared m e = filter (is_way_of e.name) (forms_at m e.unit)
