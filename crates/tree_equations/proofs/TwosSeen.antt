-- The flows of a system by their numbers.
use Rattle.std.proofs.Common.{◌≡◌, ℕ, List, map, sym, ap, ◌∙◌}
use Rattle.eq_core.specs.Gates.{Operand, Gate}
use Rattle.eq_build.specs.Views.{row_at}
use Rattle.gts_core.specs.View.{net_of}
use Rattle.gts_core.specs.declared.system.GtsParts.{GtsParts}
use Rattle.eq_build.specs.Steps.{Threads, Sees_two, flows_from}
use Rattle.eq_build.specs.Table.{flow_numbers}
use Rattle.tree_equations.specs.Answers.{Entries, itself}
use Rattle.tree_equations.specs.Index.{AreFlows}
use Rattle.tree_equations.proofs.Flowing.{itself_all}
use Rattle.tree_equations.proofs.IndexLemmas.{flow_pairs}

module _ (p : GtsParts) (flows : List ℕ)
    (are : AreFlows p.variables.items flows (flows_from 0 (net_of p).variables)) where
  pub numbers_are : flow_numbers (net_of p) ≡ flows
  numbers_are = flow_pairs p.variables.items are

  -- what is seen of them is the same
  pub twos_seen : (rows read : List Entries) (ns : List ℕ) (g : List Gate) → read ≡ rows → ns ≡ flows
      → ◌≡◌ {A = List Operand → List Gate → Type 0} (λ os h. Threads (Sees_two (row_at read)) g (map itself ns) os h)
      (λ os h. Threads (Sees_two (row_at rows)) g (flow_numbers (net_of p)) os h)
  twos_seen rows read ns g e f =
      ap (λ (z : List Entries). λ (os : List Operand) (h : List Gate). Threads (Sees_two (row_at z)) g (map itself ns)
      os h) e
      ∙ ap (λ (z : List ℕ). λ (os : List Operand) (h : List Gate). Threads (Sees_two (row_at rows)) g z os h)
      (ap (map itself) f ∙ itself_all flows ∙ sym numbers_are)
