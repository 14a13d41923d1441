use Rattle.std.proofs.Common.{◌≡◌, ℕ, List, sym, ap, ◌∙◌, subst}
use Rattle.ar_base.specs.Numbers.{VarId}
use Rattle.domains.specs.declared.Value.{Value}
use Rattle.ar_meaning.specs.Flows.{Flows, Total}
use Rattle.ar_meaning.specs.Steps.{Step, Next, Refused, Flow, moves, flow}
use Rattle.ar_meaning.specs.Systems.{Net, Way}
use Rattle.gts_core.specs.View.{net_of, IsWayAt}
use Rattle.gts_core.specs.declared.system.GtsParts.{GtsParts}
use Rattle.flow_changes.specs.Present.{IsFaultOf}
use Rattle.flow_propagate.specs.Answers.{fault_of}
use Rattle.flow_propagate.specs.NewValues.{written}
use Rattle.flow_propagate.specs.declared.propagation.FlowFault.{FlowFault}
use Rattle.flow_propagate.specs.declared.propagation.PropagateFault.{PropagateFault}
use Rattle.flow_propagate.specs.declared.propagation.PropagateFault.TheVariants as propagates
use Rattle.way_flags.specs.Ready.{IsReadyWay}
use Rattle.stepper.specs.Steps.{Standing}
use Rattle.stepper.proofs.stepper.Stepper.fire.Goals as goal

-- what is ready in what the stepper keeps is so in what is seen of it
ready_seen : (p q : GtsParts) (kept read seen : List Value) (new given : List (VarId × Value)) (n : ℕ) → p ≡ q
    → read ≡ kept → kept ≡ seen → given ≡ new
    → ((w : Way ℕ) → IsWayAt p n w → IsReadyWay (net_of p) read w (written read new)) → (w : Way ℕ) → IsWayAt q n w
    → IsReadyWay (net_of q) seen w (written seen given)
ready_seen p q kept read seen new given n system r s g h =
    subst (λ (z : GtsParts). (w : Way ℕ) → IsWayAt z n w → IsReadyWay (net_of z) seen w (written seen given)) system
    (subst (λ (z : List (VarId × Value)). (w : Way ℕ) → IsWayAt p n w → IsReadyWay (net_of p) seen w (written seen z))
    (sym g)
    (subst (λ (z : List Value). (w : Way ℕ) → IsWayAt p n w → IsReadyWay (net_of p) z w (written z new)) (r ∙ s) h))

stepped : (net : Net ℕ) (t state next : List Value) (w : Way ℕ) → IsReadyWay net t w state → Flows net state (Total next)
    → Step net t w (Next next)
stepped net t state next w r f = moves state r.can r.no_clash r.no_range r.receives f

refused : (p : GtsParts) (t state : List Value) (w : Way ℕ) (e : PropagateFault) (f : FlowFault)
    → IsReadyWay (net_of p) t w state → e ≡ propagates.Flow f → IsFaultOf p state e
    → Step (net_of p) t w (Refused (Flow (fault_of f)))
refused p t state w e f r is h = flow state r.can r.no_clash r.no_range r.receives
    (subst (λ (z : PropagateFault). IsFaultOf p state z) is h)

pub returns-in-Ok-clause-step : goal.returns-in-Ok-clause-step
returns-in-Ok-clause-step c = λ w m.
    let s = c.self.inside in
    let system : s.gts.now ≡ c.args.self.now.system = ap (λ (z : Standing). z.system) c.self.view_is in
    let values : s.present.determined.values.values.items ≡ c.args.self.now.values =
    ap (λ (z : Standing). z.values) c.self.view_is in
    let r = ready_seen s.gts.now c.args.self.now.system s.present.determined.values.values.items c.deref-2.result.now
    c.args.self.now.values c.in_ok-new.new.items c.deref-3.result.now c.args.way.n system
    c.deref-2.ensures.value values c.deref-3.ensures.value c.in_ok-new.ensures.ready w m in
    stepped (net_of c.args.self.now.system) c.args.self.now.values (written c.args.self.now.values c.deref-3.result.now)
    c.go.new.self.values w r c.in-Ok.ensures.flows

pub returns-in-Err-Flow-clause-fault : goal.returns-in-Err-Flow-clause-fault
returns-in-Err-Flow-clause-fault c = λ w m.
    let s = c.self.inside in
    let system : s.gts.now ≡ c.args.self.now.system = ap (λ (z : Standing). z.system) c.self.view_is in
    let values : s.present.determined.values.values.items ≡ c.args.self.now.values =
    ap (λ (z : Standing). z.values) c.self.view_is in
    let r = ready_seen s.gts.now c.args.self.now.system s.present.determined.values.values.items c.deref-2.result.now
    c.args.self.now.values c.in_ok-new.new.items c.deref-3.result.now c.args.way.n system
    c.deref-2.ensures.value values c.deref-3.ensures.value c.in_ok-new.ensures.ready w m in
    refused c.args.self.now.system c.args.self.now.values (written c.args.self.now.values c.deref-3.result.now) w
    c.in-Err-Flow.field-0 c.in-Err-Flow.fault r c.in-Err-Flow.field-0-is c.in-Err-Flow.ensures.fault
