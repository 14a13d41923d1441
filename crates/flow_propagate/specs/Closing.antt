-- How the facts are gathered: which assignments wait to be looked at, and how many facts may still come.
use Rattle.std.specs.Prelude.{◌≡◌, ℕ, ◌+◌, ◌*◌, ◌<◌, ◌≤◌, ◌⊎◌, Bool, true, false, cond, List, [], ◌∷◌, ◌-◌, Option, Some, IsTrue, length}
use Rattle.std.specs.BTreeSet.{BTreeSet, contains, btree_set_len}
use Rattle.std.specs.Ordering.{nat_cmp}
use Rattle.ar_base.specs.Lists.{Stands}
use Rattle.domains.specs.Domains.{values_of}
use Rattle.domains.specs.Same.{has_value}
use Rattle.domains.specs.declared.Value.{Value}
use Rattle.typed_expr.specs.Yields.{Yields}
use Rattle.typed_expr.specs.declared.expr.Expr.{out-Expr}
use Rattle.ar_meaning.specs.Facts.{PassesConditions, Allows}
use Rattle.gts_core.specs.View.{assign_of, net_of}
use Rattle.gts_core.specs.declared.system.Variable.{Variable}
use Rattle.gts_core.specs.declared.system.Assign.{Assign}
use Rattle.gts_core.specs.declared.system.GtsParts.{GtsParts}
use Rattle.typed_expr.specs.Rows.{Rows, known_row_at}
use Rattle.flow_propagate.specs.Table.{TableHolds, IsClosed, Moves}
use Rattle.flow_propagate.specs.Searches.{LeavesTargetDomain}
use Rattle.flow_propagate.specs.declared.worklist.Worklist.{Worklist}

-- how many of the values the row lacks
abbrev pub lacking : List Value → List Value → ℕ
lacking [] row = 0
lacking (v ∷ vs) row = cond (has_value v row) 0 1 + lacking vs row

-- how many pairs of a variable and a value of its domain the table lacks, for the variables from number n on
abbrev pub missing_from : ℕ → List Variable → Rows → ℕ
missing_from n [] rows = 0
missing_from n (x ∷ xs) rows = lacking (values_of x.domain) (known_row_at rows n) + missing_from (n + 1) xs rows

abbrev pub missing : GtsParts → Rows → ℕ
missing p rows = missing_from 0 p.variables.items rows

-- an assignment's target got what the assignment yields from the table before
pub record AppliesAssignment (p : GtsParts) (a : Assign) (old new : Rows) (changed : Bool) : Type 0 where
  pub moves : Moves (net_of p) old new
  pub others : (n : ℕ) (v : Value) → TableHolds new n v → (n ≡ a.target.n → ⊥) → TableHolds old n v
  pub still : changed ≡ false → new ≡ old
  pub done : (v : Value) → PassesConditions (TableHolds old) (assign_of a).conditions
      → Yields (TableHolds old) (out-Expr ℕ (assign_of a).value) v → Allows (net_of p) a.target.n v → TableHolds new a.target.n v
  pub less : changed ≡ true → missing p new < missing p old

-- the place is among those of the assignments that were added again
abbrev pub IsAddedAgain : BTreeSet ℕ → ℕ → Type 0
IsAddedAgain again place = IsTrue (contains nat_cmp again place)

-- the assignment at this place of the order waits: none from there on was looked at yet, or it was added again
abbrev pub WaitsAtPlace : Worklist → ℕ → Type 0
WaitsAtPlace work place = (work.fresh ≤ place) ⊎ IsAddedAgain work.again place

-- the assignment of this number waits
pub record Waits (work : Worklist) (n : ℕ) : Type 0 where
  pub place : ℕ
  pub stands : Stands work.places.now n place
  pub waits : WaitsAtPlace work place

-- each assignment stands at its place in the order, which has numbers of assignments alone
pub record IsWorklist (count : ℕ) (work : Worklist) : Type 0 where
  pub long : length work.places.now ≡ count
  pub placed : (n place : ℕ) → Stands work.places.now n place → Stands work.order.now place n
  pub below : (n place : ℕ) → Stands work.order.now place n → n < count
  pub reached : work.fresh ≤ length work.order.now
  pub within : (place : ℕ) → IsAddedAgain work.again place → place < length work.order.now

-- how many wait
abbrev pub waiting_work : Worklist → ℕ
waiting_work work = (length work.order.now - work.fresh) + btree_set_len work.again

-- the place was taken
pub record TakesWorkPlace (place : ℕ) (old new : Worklist) : Type 0 where
  pub below : place < length old.order.now
  pub order : new.order.now ≡ old.order.now
  pub places : new.places.now ≡ old.places.now
  pub reached : new.fresh ≤ length old.order.now
  pub only : (q : ℕ) → IsAddedAgain new.again q → IsAddedAgain old.again q
  pub less : waiting_work old ≡ waiting_work new + 1
  pub others : (q : ℕ) → WaitsAtPlace old q → (q ≡ place) ⊎ WaitsAtPlace new q

-- the assignment of this number was taken
pub record TakesAssignment (count : ℕ) (n : ℕ) (old new : Worklist) : Type 0 where
  pub is : IsWorklist count new
  pub below : n < count
  pub less : waiting_work old ≡ waiting_work new + 1
  pub others : (m : ℕ) → Waits old m → (m ≡ n) ⊎ Waits new m

-- the assignments whose numbers have P were added, by so many steps at most
pub record AddsWork (count most : ℕ) (P : ℕ → Type 0) (old new : Worklist) : Type 0 where
  pub is : IsWorklist count new
  pub few : waiting_work new ≤ waiting_work old + most
  pub keeps : (m : ℕ) → Waits old m → Waits new m
  pub adds : (m : ℕ) → P m → Waits new m

-- each assignment waits, or the table has what it adds
abbrev pub IsWorkSettled : GtsParts → Rows → Worklist → Type 0
IsWorkSettled p rows work = (m : ℕ) (a : Assign) → Stands p.assigns.items m a
    → Waits work m ⊎ IsClosed (net_of p) rows (assign_of a)

-- what is left to do: for each fact that may still come one look at each reader, and the looks that wait
abbrev pub closing_work_left : GtsParts → ℕ → Rows → Worklist → ℕ
closing_work_left p readers rows work = (readers + 1) * missing p rows + waiting_work work

-- one assignment was looked at
pub record LooksAt (p : GtsParts) (readers n : ℕ) (old : Rows) (before : Worklist) (new : Rows)
    (after : Worklist) : Type 0 where
  pub moves : Moves (net_of p) old new
  pub is : IsWorklist (length p.assigns.items) after
  pub settled : ((m : ℕ) (a : Assign) → Stands p.assigns.items m a
      → (m ≡ n) ⊎ (Waits before m ⊎ IsClosed (net_of p) old (assign_of a))) → IsWorkSettled p new after
  pub less : closing_work_left p readers new after ≤ closing_work_left p readers old before

-- a number was noted, and it is at most this one
pub record IsUpTo (target : ℕ) (noted : Option ℕ) : Type 0 where
  pub number : ℕ
  pub is : noted ≡ Some number
  pub most : number ≤ target

-- where the assignment leaves its target's domain, the target or a lesser one was noted
abbrev pub NotesTarget : GtsParts → Rows → Option ℕ → Assign → Type 0
NotesTarget p rows noted a = LeavesTargetDomain p rows a → IsUpTo a.target.n noted

-- what was noted is the target of an assignment that leaves its domain
abbrev pub IsFounded : GtsParts → Rows → Option ℕ → Type 0
IsFounded p rows noted = (n : ℕ) → noted ≡ Some n
    → (k : ℕ) × (a : Assign) × Stands p.assigns.items k a × LeavesTargetDomain p rows a × (a.target.n ≡ n)

-- each assignment waits, or its leaving is noted
abbrev pub IsHeard : GtsParts → Rows → Option ℕ → Worklist → Type 0
IsHeard p rows noted work = (m : ℕ) (a : Assign) → Stands p.assigns.items m a → Waits work m ⊎ NotesTarget p rows noted a

-- one assignment was looked at, and its leaving was noted
pub record Hears (p : GtsParts) (n : ℕ) (old : Rows) (first : Option ℕ) (before : Worklist) (new : Rows)
    (last : Option ℕ) (after : Worklist) : Type 0 where
  pub founded : IsFounded p old first → IsFounded p new last
  pub heard : ((m : ℕ) (a : Assign) → Stands p.assigns.items m a → (m ≡ n) ⊎ (Waits before m ⊎ NotesTarget p old first a))
      → IsHeard p new last after
