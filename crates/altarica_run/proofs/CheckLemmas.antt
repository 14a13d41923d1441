-- What is to be said of the lines of a list: the dropped events are those that stand ready.
use Rattle.std.proofs.Common.{◌≡◌, ℕ, List, Result, IfOk, Vec, sym, subst}
use Rattle.std.specs.Global.{Global}
use Rattle.ar_base.specs.NumbersInside.{EventId}
use Rattle.ar_base.specs.declared.faults.Memory.{Memory}
use Rattle.ar_meaning.specs.Systems.{System}
use Rattle.cut_check.specs.Flat.{flat_event_numbers, AreVerdicts}
use Rattle.cut_check.specs.declared.checking.Verdict.{Verdict}
use Rattle.domains.specs.declared.Value.{Value}
use Rattle.gts_core.specs.View.{numbered}
use Rattle.gts_core.specs.declared.bound.Chain.{Chain}
use Rattle.gts_core.specs.declared.system.GtsParts.{GtsParts}
use Rattle.gts_core.specs.declared.system.Observer.{Observer}

pub said_same : (p : GtsParts) (flat : System ℕ) (dropped : List ℕ) (events : List EventId) (chains : List Chain)
    (wanted : Value) → dropped ≡ flat_event_numbers events → (o : Observer) → (r : Result (Vec Verdict Global) Memory)
    → IfOk r (λ (all : Vec Verdict Global). AreVerdicts p flat (flat_event_numbers events) (numbered o.value) wanted chains
    all.items)
    → IfOk r (λ (all : Vec Verdict Global). AreVerdicts p flat dropped (numbered o.value) wanted chains all.items)
said_same p flat dropped events chains wanted e o r h =
    subst (λ (z : List ℕ). IfOk r (λ (all : Vec Verdict Global). AreVerdicts p flat z (numbered o.value) wanted chains
    all.items)) (sym e) h
