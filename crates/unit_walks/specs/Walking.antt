-- Walks that are under way, and their steps.
use Rattle.std.specs.Prelude.{◌≡◌, ◌<◌, ◌≤◌, ◌+◌, ◌*◌, ◌-◌, ◌^◌, ◌++◌, ℕ, Bool, List, [], ◌∷◌, Some, None, length}
use Rattle.ar_base.specs.Lists.{Stands}
use Rattle.ar_syntax.specs.declared.paths.Path.{Path}
use Rattle.hierarchy.specs.Models.{RootedModel}
use Rattle.hierarchy.specs.Units.{UnitPath, kind_at, start_of, numbers}
use Rattle.unit_walks.specs.Ends.{Reached, IsStatement}
use Rattle.unit_walks.specs.Forms.{IsFormsFor}
use Rattle.unit_walks.specs.Tables.{table_paths, StandsIf, IsWalkTable, EntryMeans, KeepsKnown}
use Rattle.unit_walks.specs.declared.forms.Forms.{Forms}
use Rattle.unit_walks.specs.declared.tables.Table.{Table}
use Rattle.unit_walks.specs.declared.tables.Frame.{Frame}
use Rattle.unit_walks.specs.declared.tables.Known.{Known}
use Rattle.unit_walks.specs.declared.walking.Step.{Step}
use Rattle.unit_walks.specs.declared.walking.Step.TheVariants.{On, Into, Done}

-- if the frame has the unit where its path begins, which is p, it is that unit
abbrev pub HasStart : RootedModel → List UnitPath → Frame → UnitPath → Path → Type 0
HasStart m paths f u p = (a : ℕ) → f.start ≡ Some a → IsStatement p f.is_clone (kind_at m u f.name.n)
    → StandsIf paths (Some a) (start_of p.start u)

-- the frame's walk has come from the unit u to the unit v
pub record IsFrame (m : RootedModel) (paths : List UnitPath) (f : Frame) (u v : UnitPath) : Type 0 where
  pub unit : Stands paths f.unit u
  pub at : Stands paths f.at v
  pub reached : Reached m u f.name.n f.is_clone v (numbers f.rest.now)
  pub start : (p : Path) → HasStart m paths f u p

-- the frame is at the start of its statement in u, whose path is p
pub record IsAtStart (m : RootedModel) (paths : List UnitPath) (f : Frame) (u : UnitPath) (p : Path) : Type 0 where
  pub unit : Stands paths f.unit u
  pub is : IsStatement p f.is_clone (kind_at m u f.name.n)
  pub at : StandsIf paths (Some f.at) (start_of p.start u)
  pub names : f.rest.now ≡ p.names.items
  pub fresh : f.start ≡ None

-- these frames, the last on top, wait for one another, and the last for the name y in the unit v
pub data Chain (m : RootedModel) (paths : List UnitPath) : List Frame → UnitPath → ℕ → Type 0 where
  bottom : {v : UnitPath} {y : ℕ} → Chain m paths [] v y
  above : {below all : List Frame} {f : Frame} {u v : UnitPath} {y : ℕ} {more : List ℕ} → all ≡ below ++ f ∷ []
      → IsFrame m paths f u v
      → numbers f.rest.now ≡ y ∷ more → Chain m paths below u f.name.n → Chain m paths all v y

-- the walk of the top frame is under way
pub record IsWalking (m : RootedModel) (below : List Frame) (top : Frame) (t : Table) : Type 0 where
  pub from : UnitPath
  pub here : UnitPath
  pub frame : IsFrame m (table_paths t) top from here
  pub chain : Chain m (table_paths t) below from top.name.n
  pub table : IsWalkTable m (below ++ top ∷ []) t

-- the top frame's statement is answered
pub record IsTopAnswered (m : RootedModel) (below : List Frame) (top : Frame) (t : Table) : Type 0 where
  pub from : UnitPath
  pub stands : Stands (table_paths t) top.unit from
  pub chain : Chain m (table_paths t) below from top.name.n
  pub table : IsWalkTable m below t

abbrev pub After : RootedModel → List Frame → Frame → Table → Step → Type 0
After m below top t (On f) = IsWalking m below f t
After m below top t (Into f) = IsWalking m (below ++ top ∷ []) f t
After m below top t Done = IsTopAnswered m below top t

-- how much there is left to look at: a step to a new name pays for the names on its path, of which there are fewer than
-- 2 ^ 65
abbrev pub weight : Table → ℕ
weight t = (16777216 - t.count) * 2 ^ 65

abbrev pub Weighs : Frame → Table → Table → Step → Type 0
Weighs top old new (On f) = weight new + length f.rest.now < weight old + length top.rest.now
Weighs top old new (Into f) = weight new + length f.rest.now + 1 < weight old
Weighs top old new Done = weight new ≤ weight old

-- the step from a walk of the top frame
pub record StepsFrom (m : RootedModel) (below : List Frame) (top : Frame) (old new : Table) (r : Step) : Type 0 where
  pub after : After m below top new r
  pub extends : KeepsKnown old new

abbrev pub IsWalkStep : Frame → Table → Table → Step → Type 0
IsWalkStep top old new r = (m : RootedModel) (below : List Frame) → IsWalking m below top old → StepsFrom m below top old new r

-- the step where the name y, which comes next, is a statement with this path
abbrev pub IsStatementStep : Frame → ℕ → Bool → Path → Table → Table → Step → Type 0
IsStatementStep top y is_clone p old new r =
    (m : RootedModel) (below : List Frame) (more : List ℕ) (w : IsWalking m below top old)
    → numbers top.rest.now ≡ y ∷ more → IsStatement p is_clone (kind_at m w.here y) → StepsFrom m below top old new r

-- the step where the name y comes next
abbrev pub IsNameStep : Forms → Frame → ℕ → Table → Table → Step → Type 0
IsNameStep forms top y old new r = (m : RootedModel) (below : List Frame) (more : List ℕ) → IsFormsFor m forms
    → IsWalking m below top old
    → numbers top.rest.now ≡ y ∷ more → StepsFrom m below top old new r

-- the top frame's statement is answered as before, and it may be kept how far its path leads
pub record IsPathKept (m : RootedModel) (below : List Frame) (top : Frame) (old new : Table) : Type 0 where
  pub answered : IsTopAnswered m below top new
  pub extends : KeepsKnown old new

-- no walk is under way, and what was known stays known
pub record IsRun (m : RootedModel) (old new : Table) : Type 0 where
  pub table : IsWalkTable m [] new
  pub extends : KeepsKnown old new

-- the answer for the name x in the unit with number a
pub record IsNameKnown (m : RootedModel) (old new : Table) (a x : ℕ) (c : Known) : Type 0 where
  pub table : IsWalkTable m [] new
  pub extends : KeepsKnown old new
  pub known : (u : UnitPath) → Stands (table_paths new) a u → EntryMeans m (table_paths new) [] a u x c

-- the frame's walk may begin, and no walk is under way
pub record IsWalkReady (m : RootedModel) (f : Frame) (t : Table) : Type 0 where
  pub from : UnitPath
  pub here : UnitPath
  pub frame : IsFrame m (table_paths t) f from here
  pub table : IsWalkTable m [] t
