-- Assertions by numbers, one after the other.
use Rattle.std.specs.Prelude.{◌≡◌, false, List, ◌++◌, Option, Some, None}
use Rattle.ar_base.specs.Lists.{Along}
use Rattle.ar_syntax.specs.declared.instructions.Instr.{Instr, out-Instr}
use Rattle.ar_syntax.specs.declared.members.Member.{out-Member}
use Rattle.ar_syntax.specs.declared.members.Member.TheOpen as member
use Rattle.gts_core.specs.declared.bound.Act.{Act, out-Act}
use Rattle.class_table.specs.Declaring.{MemberForm}
use Rattle.class_table.specs.declared.tables.Owned.{Owned}
use Rattle.class_table.specs.declared.tables.Owned.TheVariants.{Plain, Nested}
use Rattle.hierarchy.specs.Models.{RootedModel}
use Rattle.hierarchy.specs.Units.{UnitPath}
use Rattle.hierarchy.specs.Listing.{In}
use Rattle.hierarchy.specs.declared.tree.Tree.{Tree}
use Rattle.source_meaning.specs.BoundActs.{IsBoundInstruction}
use Rattle.bind_names.specs.Typed.{IsSoundIn}

-- the instruction of an assertion
abbrev pub asserted_form : MemberForm → Option Instr
asserted_form (member.Assert i) = Some i
asserted_form _ = None

-- the same of a member that was looked up
abbrev pub asserted_in : Option Owned → Option Instr
asserted_in None = None
asserted_in (Some (Plain m)) = asserted_form (out-Member m)
asserted_in (Some (Nested x at b)) = None

-- the instruction by numbers is that of the assertion, and sets flows alone
pub record IsBoundAssertion (m : RootedModel) (units : List UnitPath) (tree : Tree) (i : In Instr) (a : Act) : Type
    0 where
  pub bound : IsBoundInstruction m units i.unit (out-Instr i.item) a
  pub sound : IsSoundIn tree false (out-Act a)

-- what these assertions become was added, in their order
pub record AddsAssertions (m : RootedModel) (units : List UnitPath) (tree : Tree) (written : List (In Instr))
    (old new : List Act) : Type 0 where
  pub added : List Act
  pub is : new ≡ old ++ added
  pub are : Along (IsBoundAssertion m units tree) written added
