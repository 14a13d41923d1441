-- The gate table of a static system, for an observer and a wanted value.
use Rattle.std.specs.Prelude.{◌≡◌, ℕ, List, [], ◌++◌, map}
use Rattle.domains.specs.declared.Value.{Value}
use Rattle.typed_expr.specs.declared.expr.Expr.{Expr, out-Expr}
use Rattle.ar_meaning.specs.Systems.{Assign, Variable, Net}
use Rattle.ar_firing.specs.Forest.{ModeTree}
use Rattle.eq_core.specs.Gates.{Operand, Gate, Table, any_of}
use Rattle.eq_build.specs.Entries.{Entry, Built, operand_for}
use Rattle.eq_build.specs.Builds.{Builds}
use Rattle.eq_build.specs.Steps.{Reading, Threads, Has_modes, first_reading, All_rounds, AreBlocks, Sees_two, AllMayLeave, Sees_outside, Totals_of, Sees_broken, updated, flows_from}

-- the numbers of the flows
abbrev pub flow_numbers : Net ℕ → List ℕ
flow_numbers net = map (λ (p : ℕ × Variable ℕ). p.0) (flows_from 0 net.variables)

-- the steps of the table, one after the other
pub record IsTable (net : Net ℕ) (trees : List ModeTree) (observer : Expr ℕ) (wanted : Value) (table : Table)
    : Type 0 where
  -- modes: the entries of each tree
  pub modes : List (List Entry)
  pub after_modes : List Gate
  pub has_modes : Threads Has_modes [] trees modes after_modes
  -- blocks: as many rounds for each as it has flows
  pub blocks : List (List ℕ)
  pub are_blocks : AreBlocks net blocks
  pub known : Reading
  pub after_rounds : List Gate
  pub has_rounds : All_rounds net blocks after_modes (first_reading trees modes 0 net.variables) known after_rounds
  -- two: flows with two known values
  pub twos : List Operand
  pub after_twos : List Gate
  pub sees_twos : Threads (Sees_two known) after_rounds (flow_numbers net) twos after_twos
  -- out: values outside the domains of flows
  pub leaving : List (Variable ℕ × Assign ℕ)
  pub all_leave : AllMayLeave net 0 net.variables leaving
  pub outs : List Operand
  pub after_outs : List Gate
  pub sees_outs : Threads (Sees_outside known) after_twos leaving outs after_outs
  -- totals: the total entries of the flows, and the total reading
  pub totals : List (List Entry)
  pub after_totals : List Gate
  pub has_totals : Threads (Totals_of known) after_outs (flows_from 0 net.variables) totals after_totals
  pub total : Reading
  pub is_total : total ≡ updated known (flow_numbers net) totals
  -- broken: assignments that do not hold
  pub broken : List Operand
  pub after_broken : List Gate
  pub sees_broken : Threads (Sees_broken total) after_totals net.assertions broken after_broken
  -- conflict: one of the three
  pub after_conflict : List Gate
  pub conflict : any_of after_broken (twos ++ (outs ++ broken))
      ≡ record { operand = table.conflict; gates = after_conflict }
  -- top: the observer has the wanted value
  pub seen : Built
  pub observed : Builds total after_conflict (out-Expr ℕ observer) seen
  pub top : table.top ≡ operand_for seen.entries wanted
  pub gates : table.gates ≡ seen.gates
