use Rattle.std.proofs.Common.{◌≡◌, ℕ, List, sym, ◌∙◌, subst}
use Rattle.domains.specs.declared.Value.{Value}
use Rattle.ar_meaning.specs.Facts.{HasValue}
use Rattle.ar_meaning.specs.Steps.{not_enabled}
use Rattle.ar_meaning.specs.Systems.{Way}
use Rattle.ar_meaning.specs.Ways.{Can}
use Rattle.gts_core.specs.View.{net_of, IsWayAt}
use Rattle.gts_core.specs.Readings.{IsTotal}
use Rattle.gts_core.specs.declared.system.GtsParts.{GtsParts}
use Rattle.gts_core.proofs.Tests.{answer_false}
use Rattle.way_flags.specs.Ready.{IsReadyWay, IsReceiveFault}
use Rattle.flow_propagate.specs.NewValues.{AreNewValues, written}
use Rattle.way_flags.specs.Parts.{flag_at}
use Rattle.way_flags.specs.Ways.{AreFlags}
use Rattle.way_flags.specs.declared.faults.ReceiveFault.{ReceiveFault}
use Rattle.stepper.proofs.moves.next_values.Goals as goal

-- the fault that was found is one of the system that the steppers' parts are
told : {p q : GtsParts} {e f : ReceiveFault} (n : ℕ) (t : List Value) → p ≡ q → e ≡ f
    → ((w : Way ℕ) → IsWayAt p n w → IsReceiveFault (net_of p) t w e) → (w : Way ℕ) → IsWayAt q n w
    → IsReceiveFault (net_of q) t w f
told {q = q} {e = e} n t same is h = subst
    (λ (z : ReceiveFault). (w : Way ℕ) → IsWayAt q n w → IsReceiveFault (net_of q) t w z) is
    (subst (λ (z : GtsParts). (w : Way ℕ) → IsWayAt z n w → IsReceiveFault (net_of z) t w e) same h)

pub returns-then-not-is_set-clause-fault : goal.returns-then-not-is_set-clause-fault
returns-then-not-is_set-clause-fault c = λ w m.
    not_enabled (answer_false (flag_at c.args.flags.now c.args.way.n)
    (Can (HasValue (net_of c.args.gts.now) c.args.values.now) w) (sym c.is_set.ensures ∙ c.if-not-is_set.true)
    (c.requires.right.flag c.args.way.n w m))

pub received-requires-clause-total : goal.received-requires-clause-total
received-requires-clause-total c = subst (λ (z : GtsParts). IsTotal z c.args.values.now) (sym c.parts.ensures.parts)
    c.requires.total

pub received-requires-clause-right : goal.received-requires-clause-right
received-requires-clause-right c = subst (λ (z : GtsParts). AreFlags z c.args.values.now c.args.flags.now)
    (sym c.parts.ensures.parts) c.requires.right

pub returns-in-Ok-clause-new : goal.returns-in-Ok-clause-new
returns-in-Ok-clause-new c = subst (λ (z : GtsParts). AreNewValues z c.in-Ok.new.items) c.parts.ensures.parts
    c.in-Ok.ensures.new

pub returns-in-Ok-clause-ready : goal.returns-in-Ok-clause-ready
returns-in-Ok-clause-ready c = subst
    (λ (z : GtsParts). (w : Way ℕ) → IsWayAt z c.args.way.n w
    → IsReadyWay (net_of z) c.args.values.now w (written c.args.values.now c.in-Ok.new.items)) c.parts.ensures.parts
    c.in-Ok.ensures.received

pub returns-in-Err-Clash-clause-fault : goal.returns-in-Err-Clash-clause-fault
returns-in-Err-Clash-clause-fault c = told c.args.way.n c.args.values.now c.parts.ensures.parts
    c.in-Err-Clash.field-0-is c.in-Err-Clash.ensures.fault

pub returns-in-Err-Range-clause-fault : goal.returns-in-Err-Range-clause-fault
returns-in-Err-Range-clause-fault c = told c.args.way.n c.args.values.now c.parts.ensures.parts
    c.in-Err-Range.field-0-is c.in-Err-Range.ensures.fault
