-- The valuations that flows give stand, and their reasons are those of the state.
use Rattle.std.proofs.Common.{List}
use Rattle.domains.specs.declared.Value.{Value}
use Rattle.ar_meaning.specs.Flows.{Flows, Total}
use Rattle.ar_meaning.proofs.StatesAlone.{same_flows, turned}
use Rattle.gts_core.specs.View.{net_of}
use Rattle.gts_core.specs.Sound.{IsSound}
use Rattle.gts_core.specs.declared.system.GtsParts.{GtsParts}
use Rattle.flow_propagate.specs.Answers.{IsState}
use Rattle.flow_propagate.proofs.Determining.{flows_total}
use Rattle.flow_reasons.proofs.RoundTotals.{states_of, reasons_same}
use Rattle.flow_reasons.specs.Reasons.{AreReasons}
use Rattle.flow_reasons.specs.Answers.{reasons_of, AreReasonsOf}
use Rattle.flow_reasons.specs.Marks.{IsStanding}
use Rattle.flow_reasons.specs.declared.reason.Reason.{Reason}

module _ (p : GtsParts) (sound : IsSound p) (t : List Value) where
  -- the total valuation determines itself
  pub stands : (total : List Value) → IsState p t → Flows (net_of p) t (Total total) → IsStanding p total
  stands total is f = record { total = flows_total p sound t total is f; flows = same_flows (net_of p) (states_of f) f }

  -- its reasons are those of the state
  pub reasons_back : (total : List Value) (found : List Reason) → Flows (net_of p) t (Total total)
      → AreReasons (net_of p) total (reasons_of found)
      → AreReasonsOf (net_of p) t found
  reasons_back total found f are = record {
    flows = record { values = total; flows = f };
    are = reasons_same (net_of p) total t (turned (states_of f)) are;
  }
