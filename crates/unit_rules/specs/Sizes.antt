-- How many nodes a tree of units has.
use Rattle.std.specs.Prelude.{ℕ, ◌+◌, ◌*◌, Bool, List, map, sum, length, Option, Some, None, Box}
use Rattle.std.specs.Global.{Global}
use Rattle.ar_syntax.specs.declared.expressions.RawExpr.{RawExpr}
use Rattle.ar_syntax.specs.declared.expressions.RawForm.TheOpen.{RawForm-F}
use Rattle.ar_syntax.specs.declared.expressions.RawForm.TheOpen as form
use Rattle.ar_syntax.specs.declared.expressions.RawForm.TheFolds.{fold-RawExpr}
use Rattle.ar_syntax.specs.declared.instructions.Instr.{Instr}
use Rattle.ar_syntax.specs.declared.instructions.Instr.TheOpen.{Instr-F}
use Rattle.ar_syntax.specs.declared.instructions.Instr.TheOpen as instr
use Rattle.ar_syntax.specs.declared.instructions.Instr.TheFolds.{fold-Instr}
use Rattle.ar_syntax.specs.declared.members.Member.{out-Member}
use Rattle.ar_syntax.specs.declared.members.Member.TheOpen as member
use Rattle.ar_syntax.specs.declared.members.Setting.{Setting}
use Rattle.class_table.specs.Declaring.{MemberForm}
use Rattle.class_table.specs.Members.{owned_at}
use Rattle.class_table.specs.declared.tables.Owned.{Owned}
use Rattle.class_table.specs.declared.tables.Owned.TheVariants.{Plain, Nested}
use Rattle.hierarchy.specs.Models.{RootedModel}
use Rattle.hierarchy.specs.Units.{UnitPath, members_at}

-- a form counts one, and a path in it one more
abbrev pub form_size : RawForm-F ℕ ℕ → ℕ
form_size (form.Truth b) = 1
form_size (form.Whole n) = 1
form_size form.Real = 1
form_size (form.Path p) = 2
form_size (form.Not a) = 1 + a.value
form_size (form.Minus a) = 1 + a.value
form_size (form.All es) = 1 + sum es.items
form_size (form.Any es) = 1 + sum es.items
form_size (form.Compare r a b) = 1 + (a.value + b.value)
form_size (form.Sum parts) = 1 + sum (map (λ (p : Bool × ℕ). p.1) parts.items)
form_size (form.Product es) = 1 + sum es.items
form_size (form.Least es) = 1 + sum es.items
form_size (form.Greatest es) = 1 + sum es.items
form_size (form.Count es) = 1 + sum es.items
form_size (form.Choose cases other) = 1 + (sum (map (λ (c : ℕ × ℕ). c.0 + c.1) cases.items) + other.value)

-- the size of an expression
abbrev pub expr_size : RawExpr → ℕ
expr_size = fold-RawExpr ℕ ℕ form_size (λ e. e.form)

-- a branch that is not there has no nodes
abbrev pub branch_size : Option (Box ℕ Global) → ℕ
branch_size None = 0
branch_size (Some b) = b.value

-- an instruction counts one, and its paths and expressions besides
abbrev pub step_size : Instr-F ℕ → ℕ
step_size instr.Skip = 1
step_size (instr.Assign p e) = 2 + expr_size e
step_size (instr.Tie p q) = 3
step_size (instr.If test first second) = 1 + (expr_size test + (first.value + branch_size second))
step_size (instr.All is) = 1 + sum is.items

-- the size of an instruction
abbrev pub instr_size : Instr → ℕ
instr_size = fold-Instr ℕ step_size

-- a setting counts one, and its value besides
abbrev pub setting_size : Setting → ℕ
setting_size s = 1 + expr_size s.value

-- a member counts one, and the names of a declaration, settings, paths, parts, instructions and expressions besides
abbrev pub member_size : MemberForm → ℕ
member_size (member.Extends x at) = 1
member_size (member.Declare t names settings) = 1 + (length names.items + sum (map setting_size settings.items))
member_size (member.Block u) = 1
member_size (member.Clones p x at) = 2
member_size (member.Embeds p x at) = 2
member_size (member.Parameter t x at e) = 1 + expr_size e
member_size (member.Kept x at span) = 1
member_size (member.Event x at span) = 1
member_size (member.Observer t x at e) = 1 + expr_size e
member_size (member.Hide p) = 2
member_size (member.Local x at guard action) = 1 + (expr_size guard + instr_size action)
member_size (member.Sync x at parts) = 1 + 2 * length parts.items
member_size (member.Assert i) = 1 + instr_size i

-- a block counts one here, and what is in it at its own unit
abbrev pub owned_size : Option Owned → ℕ
owned_size None = 0
owned_size (Some (Plain m)) = member_size (out-Member m)
owned_size (Some (Nested x at b)) = 1

-- the size of all members of a unit
abbrev pub unit_size : RootedModel → UnitPath → ℕ
unit_size m u = sum (map (λ s. owned_size (owned_at m.declared s)) (members_at m u))

-- over all units, the members with what is in them
abbrev pub tree_nodes : RootedModel → List UnitPath → ℕ
tree_nodes m units = sum (map (unit_size m) units)
