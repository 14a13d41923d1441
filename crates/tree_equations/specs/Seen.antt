-- What is seen of conflicts.
use Rattle.std.specs.Prelude.{◌≡◌, ℕ, List, ◌++◌, Result}
use Rattle.ar_meaning.specs.Systems as s
use Rattle.ar_meaning.specs.Systems.{Net}
use Rattle.eq_core.specs.Gates.{Operand, Gate, any_of}
use Rattle.eq_core.specs.Views.{operand_of}
use Rattle.eq_core.specs.declared.joints.Gate as flat
use Rattle.eq_core.specs.declared.joints.Operand as sign
use Rattle.eq_build.specs.Entries.{Entry}
use Rattle.eq_build.specs.Views.{row_at}
use Rattle.eq_build.specs.declared.entries.BuildFault.{BuildFault}
use Rattle.tree_equations.specs.Answers.{Gives, Entries}
use Rattle.eq_build.specs.Steps.{Reading, Threads, Sees_two, AllMayLeave, Sees_outside, Totals_of, Sees_broken, updated, flows_from}
use Rattle.eq_build.specs.Table.{flow_numbers}

-- from known values to total ones, and the operand of conflicts
pub record GivesConflicts (net : Net ℕ) (known : Reading) (g : List Gate) (total : Reading) (conflict : Operand)
    (h : List Gate)
    : Type 0 where
  pub twos : List Operand
  pub after_twos : List Gate
  pub sees_twos : Threads (Sees_two known) g (flow_numbers net) twos after_twos
  pub leaving : List (s.Variable ℕ × s.Assign ℕ)
  pub all_leave : AllMayLeave net 0 net.variables leaving
  pub outs : List Operand
  pub after_outs : List Gate
  pub sees_outs : Threads (Sees_outside known) after_twos leaving outs after_outs
  pub totals : List (List Entry)
  pub after_totals : List Gate
  pub has_totals : Threads (Totals_of known) after_outs (flows_from 0 net.variables) totals after_totals
  pub is_total : total ≡ updated known (flow_numbers net) totals
  pub broken : List Operand
  pub after_broken : List Gate
  pub sees_broken : Threads (Sees_broken total) after_totals net.assertions broken after_broken
  pub is_conflict : any_of after_broken (twos ++ (outs ++ broken)) ≡ record { operand = conflict; gates = h }

-- the same for a total reading and an operand together
abbrev pub Conflicting : Net ℕ → Reading → List Gate → Reading × Operand → List Gate → Type 0
Conflicting net known g r h = GivesConflicts net known g r.0 r.1 h

-- rows of total entries, and the operand of conflicts
abbrev pub GivesConflict : Net ℕ → Reading → List Gate → Result sign.Operand BuildFault → List Entries
    → List flat.Gate → Type 0
GivesConflict net known g result rows = Gives (λ o. (row_at rows, operand_of o)) (Conflicting net known g) result
