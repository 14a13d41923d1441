-- What is found in the lists of a tree: an entry under a name, and a node of a unit under a name.
use Rattle.std.specs.Prelude.{◌≡◌, ℕ, Bool, List, [], ◌∷◌, ◌++◌, Option, Some, None, option_map}
use Rattle.std.specs.Option.{option_or}
use Rattle.std.specs.List.Sorted.{IsNonDecreasingBy}
use Rattle.ar_base.specs.Lists.{Stands}
use Rattle.ar_base.specs.Numbers.{NameId}
use Rattle.ar_base.specs.NumbersInside.{UnitId}
use Rattle.ar_syntax.specs.declared.paths.PathStart.{PathStart}
use Rattle.class_table.specs.Members.{MemberKind}
use Rattle.hierarchy.specs.Models.{RootedModel}
use Rattle.hierarchy.specs.Units.{UnitPath, Thing}
use Rattle.hierarchy.specs.Walks.{IsUnitAt, IsThingAt}
use Rattle.hierarchy.specs.Tie.{entry_in, IsTreeOf}
use Rattle.hierarchy.specs.declared.tree.MemNode.{MemNode}
use Rattle.hierarchy.specs.declared.tree.UnitNode.{UnitNode}
use Rattle.hierarchy.specs.declared.tree.Tree.{Tree}

-- the number of a unit that was found
abbrev pub unit_number : Option UnitId → Option ℕ
unit_number answer = option_map (λ (u : UnitId). u.n) answer

-- the number stands for the unit in which a path starts, and none where it starts nowhere
abbrev pub StartsAt : List UnitPath → Option UnitPath → Option ℕ → Type 0
StartsAt units None n = n ≡ None
StartsAt units (Some u) n = (k : ℕ) × (n ≡ Some k) × Stands units k u

-- the number of the name of an entry
abbrev pub entry_name : NameId × UnitId → ℕ
entry_name e = e.0.n

-- the answer is the unit under the name x, where the entries are in the order of their names
abbrev pub IsSortedEntry : List (NameId × UnitId) → ℕ → Option UnitId → Type 0
IsSortedEntry entries x answer = IsNonDecreasingBy entry_name entries → unit_number answer ≡ entry_in entries x

-- the answer is the unit under the name x among the inner units and then among the aliases
abbrev pub IsStep : UnitNode → ℕ → Option UnitId → Type 0
IsStep d x answer = IsNonDecreasingBy entry_name d.inner.items → IsNonDecreasingBy entry_name d.aliases.items
    → unit_number answer ≡ option_or (entry_in d.inner.items x) (entry_in d.aliases.items x)

-- the place of a node of the unit u with the name x, or none where there is no such node
abbrev pub FindsNode : {A : Type 0} → (A → MemNode) → List A → ℕ → ℕ → Option ℕ → Type 0
FindsNode {A = A} node nodes u x None = (n : ℕ) (d : A) → Stands nodes n d → (node d).unit.n ≡ u → (node d).name.n ≡ x
    → ⊥
FindsNode {A = A} node nodes u x (Some n) = (d : A) × Stands nodes n d × ((node d).unit.n ≡ u) × ((node d).name.n ≡ x)

-- the names lead to a unit, of this number, and then to this name
pub record HasOwner (m : RootedModel) (units : List UnitPath) (u : UnitPath) (start : PathStart) (names : List ℕ)
    (owner name : ℕ) : Type 0 where
  pub front : List ℕ
  pub split : names ≡ front ++ name ∷ []
  pub unit : UnitPath
  pub stands : Stands units owner unit
  pub reaches : IsUnitAt m u start front unit

-- the unit to which all names but the last lead, and the last; or none where the names name nothing
abbrev pub FindsOwner : RootedModel → List UnitPath → UnitPath → PathStart → List ℕ → Option (UnitId × NameId) → Type 0
FindsOwner m units u start names None = (test : MemberKind → Bool) (t : Thing) → IsThingAt m test u start names t → ⊥
FindsOwner m units u start names (Some found) = HasOwner m units u start names found.0.n found.1.n

-- the tree is that of some model
pub record IsSomeTree (tree : Tree) : Type 0 where
  pub model : RootedModel
  pub units : List UnitPath
  pub is_tree : IsTreeOf model units tree
