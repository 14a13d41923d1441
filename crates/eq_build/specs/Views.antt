-- What the entries of the code stand for, and what its functions answer.
use Rattle.std.specs.Prelude.{◌≡◌, ◌<◌, ◌≤◌, ℕ, zero, suc, Bool, List, [], ◌∷◌, length, map, Result, Ok, Err, Vec}
use Rattle.std.specs.Global.{Global}
use Rattle.ar_base.specs.Numbers.{VarId}
use Rattle.eq_core.specs.Gates.{Operand, Gate, Made}
use Rattle.eq_core.specs.Views.{operand_of, gate_of}
use Rattle.eq_core.specs.declared.joints.Gate as flat
use Rattle.eq_core.specs.declared.joints.Operand as sign
use Rattle.eq_build.specs.Entries as e
use Rattle.eq_build.specs.BuildsInside.{most_gates}
use Rattle.eq_build.specs.declared.entries.Entry.{Entry}
use Rattle.eq_build.specs.declared.entries.BuildFault.{BuildFault}
use Rattle.eq_build.specs.declared.entries.BuildFault.TheVariants.{Gates, Memory}
use Rattle.eq_build.specs.declared.groups.Group.{Group}

-- an entry as the definitions see it
abbrev pub entry_of : Entry → e.Entry
entry_of x = record { value = x.value; operand = operand_of x.operand }

abbrev pub entries_in : List Entry → List e.Entry
entries_in xs = map entry_of xs

abbrev pub operands_in : List sign.Operand → List Operand
operands_in os = map operand_of os

abbrev pub gates_in : List flat.Gate → List Gate
gates_in gates = map gate_of gates

-- the operands of each term
abbrev pub terms_in : List (Vec sign.Operand Global) → List (List Operand)
terms_in ts = map (λ (t : Vec sign.Operand Global). operands_in t.items) ts

-- a group as the definitions see it
abbrev pub group_of : Group → e.Group
group_of p = record { value = p.value; terms = terms_in p.terms.items }

-- entries and all gates so far
abbrev pub built_of : List Entry → List flat.Gate → e.Built
built_of xs gates = record { entries = entries_in xs; gates = gates_in gates }

-- lists of entries
abbrev pub lists_in : List (Vec Entry Global) → List (List e.Entry)
lists_in rows = map (λ (r : Vec Entry Global). entries_in r.items) rows

-- lists of entries with the signs of the parts of a sum
abbrev pub signed_parts_in : List (Bool × Vec Entry Global) → List (Bool × List e.Entry)
signed_parts_in ps = map (λ (p : Bool × Vec Entry Global). (p.0, entries_in p.1.items)) ps

-- the entries of the tests and values of cases
abbrev pub cases_in : List (Vec Entry Global × Vec Entry Global) → List (List e.Entry × List e.Entry)
cases_in cs = map (λ (c : Vec Entry Global × Vec Entry Global). (entries_in c.0.items, entries_in c.1.items)) cs

-- the row at this place, empty where there is none
abbrev pub row_at : List (Vec Entry Global) → ℕ → List e.Entry
row_at [] n = []
row_at (r ∷ rs) zero = entries_in r.items
row_at (r ∷ rs) (suc n) = row_at rs n

-- what the rows read for a variable
abbrev pub row_read : List (Vec Entry Global) → VarId → List e.Entry
row_read rows x = row_at rows x.n

-- where more gates are needed than there may be, so it is; want of memory says nothing
abbrev pub StopsBuilding : BuildFault → Type 0 → Type 0
StopsBuilding Gates more = more
StopsBuilding Memory more = Unit {0}

-- what is done, and no more gates than there may be; or a fault
abbrev pub BuildsOrFails : {A : Type 0} → (A → List Gate → Type 0) → Type 0 → Result A BuildFault → List flat.Gate → Type 0
BuildsOrFails done more (Ok a) gates = done a (gates_in gates) × (length gates ≤ most_gates)
BuildsOrFails done more (Err fault) gates = StopsBuilding fault more

-- the operand that is made, or a fault where that makes too many gates
abbrev pub MakesOperand : Made → Result sign.Operand BuildFault → List flat.Gate → Type 0
MakesOperand m = BuildsOrFails (λ o h. m ≡ record { operand = operand_of o; gates = h }) (most_gates < length m.gates)

-- the entries that are built, or a fault where that makes too many gates
abbrev pub MakesEntries : e.Built → Result (Vec Entry Global) BuildFault → List flat.Gate → Type 0
MakesEntries b =
    BuildsOrFails (λ (xs : Vec Entry Global) h. b ≡ record { entries = entries_in xs.items; gates = h })
    (most_gates < length b.gates)
