-- The limits of a tree of units: its variables, its events, and its nodes, tested in this order.
use Rattle.std.specs.Prelude.{ℕ, length, Result}
use Rattle.ar_base.specs.Stages.{Then, Fits}
use Rattle.ar_base.specs.declared.counts.Count.TheVariants.{Variables, Events, TreeNodes}
use Rattle.ar_base.specs.declared.faults.RuleFault.{RuleFault}
use Rattle.hierarchy.specs.Listing.{Unfolded, variables, events}
use Rattle.unit_rules.specs.Sizes.{tree_nodes}

-- how many variables there are
abbrev pub variables_counted : Unfolded → ℕ
variables_counted t = length (variables t.model t.units)

-- how many events there are
abbrev pub events_counted : Unfolded → ℕ
events_counted t = length (events t.model t.units)

-- how many nodes there are
abbrev pub unfolded_nodes : Unfolded → ℕ
unfolded_nodes t = tree_nodes t.model t.units

-- the limit of variables, then that of events, then that of nodes
abbrev pub FitsLimits : Unfolded → Result Unfolded RuleFault → Type 0
FitsLimits = Then (Fits Variables variables_counted) (Then (Fits Events events_counted) (Fits TreeNodes unfolded_nodes))
