-- The units depth first, as they are listed.
use Rattle.std.specs.Prelude.{◌≡◌, ◌<◌, ◌≤◌, ℕ, true, false, List, [], ◌∷◌, ◌++◌, Option, Some, None, length}
use Rattle.ar_base.specs.Counts.{limit_of}
use Rattle.ar_base.specs.Lists.{Stands, Along}
use Rattle.ar_base.specs.NumbersInside.{UnitId}
use Rattle.ar_base.specs.declared.counts.Count.TheVariants.{Units}
use Rattle.ar_base.specs.declared.faults.RuleFault.{RuleFault}
use Rattle.ar_base.specs.declared.faults.RuleFault.TheVariants.{Rule, Limit, Memory}
use Rattle.class_table.specs.Members.{NamedMember}
use Rattle.hierarchy.specs.Models.{RootedModel}
use Rattle.hierarchy.specs.Units.{UnitPath, names_at}
use Rattle.hierarchy.specs.Listing.{ListsUnits, Insides, MakesUnit, MakesNone, AreUnits}
use Rattle.hierarchy.specs.Tie.{IsOwner, IsOutline}
use Rattle.unit_walks.specs.Forms.{IsFormsFor}
use Rattle.unit_walks.specs.Tables.{table_paths, IsWalkTable}
use Rattle.unit_walks.specs.Walking.{IsRun}
use Rattle.unit_walks.specs.Unfolding.{AreShallow, IsFirstOver}
use Rattle.unit_walks.specs.declared.tables.Table.{Table}
use Rattle.unit_walks.specs.declared.growing.Node.{Node}
use Rattle.unit_walks.specs.declared.growing.Unfolded.{Unfolded}

-- what gives the name makes this unit in u, if it makes one
abbrev pub MakesInnerUnit : RootedModel → List UnitPath → UnitPath → NamedMember → Option ℕ → Type 0
MakesInnerUnit m paths u g None = MakesNone m u g
MakesInnerUnit m paths u g (Some k) = (v : UnitPath) × Stands paths k v × MakesUnit m u g v

-- the same, where what was known stays known
pub record IsMadeBy (m : RootedModel) (old new : Table) (u : UnitPath) (g : NamedMember) (o : Option ℕ) : Type 0 where
  pub run : IsRun m old new
  pub made : MakesInnerUnit m (table_paths new) u g o

-- the node is that of the unit
pub record IsNodeOfUnit (m : RootedModel) (all paths : List UnitPath) (u : UnitPath) (d : Node) : Type 0 where
  pub outline : IsOutline m all u d.outline
  pub unit : Stands paths d.unit u

-- the nodes are those of these units, one by one
abbrev pub Tied : RootedModel → List UnitPath → List UnitPath → List UnitPath → List Node → Type 0
Tied m all paths us ds = Along (IsNodeOfUnit m all paths) us ds

-- none of these units is deeper than the limit
abbrev pub AllShallow : List UnitPath → Type 0
AllShallow [] = Prim.Unit {0}
AllShallow (u ∷ us) = (length u < 64) × AllShallow us

-- the nodes have grown by those of some more units, of which P holds
pub record GainsUnitNodes (m : RootedModel) (before paths : List UnitPath) (P : List UnitPath → Type 0)
    (old new : List Node) : Type 0 where
  pub units : List UnitPath
  pub are : P units
  pub shallow : AllShallow units
  pub nodes : List Node
  pub grown : new ≡ old ++ nodes
  pub tied : Tied m (before ++ units) paths units nodes

-- a list of units that ends at the first that passes the limit
abbrev pub Over : RuleFault → List UnitPath → Type 0
Over (Limit c) all = IsFirstOver c all
Over (Rule r p) all = ⊥
Over Memory all = Prim.Unit {0}

pub record IsGrownTooLarge (e : RuleFault) (before : List UnitPath) (P : List UnitPath → Type 0) : Type 0 where
  pub units : List UnitPath
  pub are : P units
  pub over : Over e (before ++ units)

-- P, where the fault is a limit; it is no broken rule
abbrev pub OnLimit : RuleFault → Type 0 → Type 0
OnLimit (Limit c) P = P
OnLimit (Rule r p) P = ⊥
OnLimit Memory P = Prim.Unit {0}

-- the unit u and those below it were added
pub record HasGrown (m : RootedModel) (u : UnitPath) (owner : Option UnitId) (old new : Table)
    (nodes more : List Node) : Type 0 where
  pub run : IsRun m old new
  pub grows : (before : List UnitPath) → length before ≡ length nodes → IsOwner before u owner
      → GainsUnitNodes m before (table_paths new) (ListsUnits m true u) nodes more

-- what is in the unit u, whose number is at, was added
pub record HasGrownInside (m : RootedModel) (u : UnitPath) (at : ℕ) (old new : Table) (nodes more : List Node) : Type
    0 where
  pub run : IsRun m old new
  pub grows : (before : List UnitPath) → length before ≡ length nodes → Stands before at u
      → GainsUnitNodes m before (table_paths new) (Insides m true u (names_at m u)) nodes more

-- a limit is passed at the unit u or below it
abbrev pub HasPassed : RootedModel → UnitPath → Option UnitId → List Node → RuleFault → Type 0
HasPassed m u owner nodes e = OnLimit e
    ((before : List UnitPath) → length before ≡ length nodes → AllShallow before → IsOwner before u owner
    → IsGrownTooLarge e before (ListsUnits m false u))

-- a limit is passed inside the unit u, whose number is at
abbrev pub HasPassedInside : RootedModel → UnitPath → ℕ → List Node → RuleFault → Type 0
HasPassedInside m u at nodes e = OnLimit e
    ((before : List UnitPath) → length before ≡ length nodes → AllShallow before → Stands before at u
    → IsGrownTooLarge e before (Insides m false u (names_at m u)))

-- these are the units of the model, with an outline of each, and with what was found on the way to them
pub record IsUnfolded (m : RootedModel) (units : List UnitPath) (r : Unfolded) : Type 0 where
  pub are_units : AreUnits m units
  pub shallow : AreShallow units
  pub few : length units ≤ limit_of Units
  pub outlines : Along (IsOutline m units) units r.outlines.items
  pub nodes : Tied m units (table_paths r.table) units r.nodes.items
  pub forms : IsFormsFor m r.forms
  pub table : IsWalkTable m [] r.table
