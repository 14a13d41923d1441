-- What stands where the nodes of a tree say.
use Rattle.std.specs.Prelude.{ℕ, Bool, true, false, Option, Some, None, slice_get, option_map, option_and_then}
use Rattle.ar_syntax.specs.declared.expressions.RawExpr.{RawExpr}
use Rattle.ar_syntax.specs.declared.members.Member.{out-Member}
use Rattle.ar_syntax.specs.declared.members.Member.TheOpen as member
use Rattle.ar_syntax.specs.declared.members.Setting.{Setting}
use Rattle.class_table.specs.Declaring.{MemberForm}
use Rattle.class_table.specs.declared.tables.Body.{Body}
use Rattle.class_table.specs.declared.tables.Classes.{Classes}
use Rattle.class_table.specs.declared.tables.Owned.{Owned}
use Rattle.class_table.specs.declared.tables.Owned.TheVariants.{Plain, Nested}
use Rattle.hierarchy.specs.Settings.{settings_of, is_flow}
use Rattle.hierarchy.specs.declared.tree.Source.{Source}

-- the member that stands there
abbrev pub owned_in : Classes → Source → Option Owned
owned_in c s = option_and_then (λ (b : Body). slice_get b.own.items s.member) (slice_get c.bodies.items s.body.n)

-- the member is a parameter whose value is read
abbrev pub reads_value : MemberForm → Bool
reads_value (member.Parameter t x at e) = true
reads_value _ = false

-- the same of a member that was looked up
abbrev pub is_read : Option Owned → Bool
is_read None = false
is_read (Some (Plain m)) = reads_value (out-Member m)
is_read (Some (Nested x at b)) = false

-- the member declares flows
abbrev pub declares_flows : Option Owned → Bool
declares_flows o = is_flow (settings_of o)

-- the value of a parameter
abbrev pub value_of_parameter : MemberForm → Option RawExpr
value_of_parameter (member.Parameter t x at e) = Some e
value_of_parameter _ = None

-- the same of a member that was looked up
abbrev pub looked_up_value : Option Owned → Option RawExpr
looked_up_value None = None
looked_up_value (Some (Plain m)) = value_of_parameter (out-Member m)
looked_up_value (Some (Nested x at b)) = None

-- the expression of setting k of a member, or that of the member itself
abbrev pub written_of : Option ℕ → Option Owned → Option RawExpr
written_of None o = looked_up_value o
written_of (Some k) o = option_map (λ (s : Setting). s.value) (slice_get (settings_of o) k)
