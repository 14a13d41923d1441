-- What names lead to in a tree, by its lists.
use Rattle.std.specs.Prelude.{ℕ, ◌+◌, ◌==◌, ◌&&◌, if◌then◌else◌, List, [], ◌∷◌, Option, Some, None, slice_get, option_map, option_and_then}
use Rattle.std.specs.Option.{option_or}
use Rattle.ar_syntax.specs.declared.paths.Path.{Path}
use Rattle.ar_syntax.specs.declared.paths.PathStart.{PathStart}
use Rattle.ar_syntax.specs.declared.paths.PathStart.TheVariants.{Here, Owner, Main}
use Rattle.hierarchy.specs.Units.{numbers}
use Rattle.hierarchy.specs.Tie.{entry_in}
use Rattle.hierarchy.specs.Finding.{unit_number}
use Rattle.hierarchy.specs.declared.tree.MemNode.{MemNode}
use Rattle.hierarchy.specs.declared.tree.ParNode.{ParNode}
use Rattle.hierarchy.specs.declared.tree.UnitNode.{UnitNode}
use Rattle.hierarchy.specs.declared.tree.VarNode.{VarNode}
use Rattle.hierarchy.specs.declared.tree.Tree.{Tree}

-- the number of the unit to which the name x leads from unit n
abbrev pub step_in : List UnitNode → ℕ → ℕ → Option ℕ
step_in nodes n x = option_and_then
    (λ (d : UnitNode). option_or (entry_in d.inner.items x) (entry_in d.aliases.items x)) (slice_get nodes n)

-- the number of the unit to which all of these names but the last lead from unit n, with the last name
abbrev pub owner_in : List UnitNode → List ℕ → ℕ → Option (ℕ × ℕ)
owner_in nodes [] n = None
owner_in nodes (x ∷ []) n = Some (n, x)
owner_in nodes (x ∷ y ∷ more) n = option_and_then (owner_in nodes (y ∷ more)) (step_in nodes n x)

-- the number of the unit in which a path starts that is read in unit n
abbrev pub start_in : List UnitNode → PathStart → ℕ → Option ℕ
start_in nodes Here n = Some n
start_in nodes Owner n = option_and_then (λ (d : UnitNode). unit_number d.owner) (slice_get nodes n)
start_in nodes Main n = Some 0

-- the number of the unit to which all names of the path but the last lead, with the last name
abbrev pub lead_in : Tree → ℕ → Path → Option (ℕ × ℕ)
lead_in t n p = option_and_then (owner_in t.units.items (numbers p.names.items)) (start_in t.units.items p.start n)

-- the place of the first node with this unit and name
abbrev pub node_in : {A : Type 0} → (A → MemNode) → List A → ℕ × ℕ → Option ℕ
node_in node [] at = None
node_in node (d ∷ ds) at = if ((node d).unit.n == at.0) && ((node d).name.n == at.1) then Some 0
    else option_map (λ k. k + 1) (node_in node ds at)

-- the number of the variable, and of the parameter, that a path names in unit n
abbrev pub variable_in : Tree → ℕ → Path → Option ℕ
variable_in t n p = option_and_then (node_in (λ (d : VarNode). d.node) t.variables.items) (lead_in t n p)

abbrev pub parameter_in : Tree → ℕ → Path → Option ℕ
parameter_in t n p = option_and_then (node_in (λ (d : ParNode). d.node) t.parameters.items) (lead_in t n p)
