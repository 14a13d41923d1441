use Rattle.std.proofs.Common.{◌≡◌, List, Result, Ok, Err, IfOk, IfErr, sym, ap, ◌∙◌, subst}
use Rattle.std.proofs.lemmas.Result.{err_from_is_err_and}
use Rattle.domains.specs.declared.Value.{Value}
use Rattle.ar_meaning.specs.Flows as flows
use Rattle.ar_meaning.specs.Runs.{first_values, Start}
use Rattle.gts_core.specs.View.{net_of}
use Rattle.gts_core.specs.declared.system.GtsParts.{GtsParts}
use Rattle.flow_changes.specs.Present.{Presents, present_values}
use Rattle.flow_changes.specs.declared.present.Present.{Present}
use Rattle.flow_propagate.specs.Answers.{IsState, fault_of}
use Rattle.flow_propagate.specs.declared.propagation.PropagateFault.{PropagateFault}
use Rattle.flow_propagate.specs.declared.propagation.PropagateFault.TheVariants as propagates
use Rattle.stepper.specs.Steps.{IsStartFault}
use Rattle.stepper.proofs.Totals.{first_state}
use Rattle.stepper.proofs.stepper.Stepper.start.Goals as goal

module _ (p : GtsParts) where
  starts : (t : List Value) (r : Result Present PropagateFault) → t ≡ first_values (net_of p).variables → Presents p t r
      → IfOk r (λ it. Start (net_of p) (present_values it))
  starts t (Ok it) e h = subst (λ (z : List Value). flows.Flows (net_of p) z (flows.Total (present_values it))) e
      h.determined.flows
  starts t (Err f) e h = tt

  fails : (t : List Value) (r : Result Present PropagateFault) → t ≡ first_values (net_of p).variables → Presents p t r
      → IfErr r (IsStartFault (net_of p))
  fails t (Ok it) e h = tt
  fails t (Err (propagates.Flow f)) e h =
      subst (λ (z : List Value). flows.Flows (net_of p) z (flows.Fails (fault_of f))) e h
  fails t (Err propagates.Memory) e h = tt

pub make_present-requires-clause-state : goal.make_present-requires-clause-state
make_present-requires-clause-state c =
    let same : c.in_ok-state.state.values.items ≡ first_values (net_of c.args.gts.now).variables =
    c.in_ok-state.ensures ∙ ap (λ (z : GtsParts). first_values (net_of z).variables) c.parts-parts.ensures.parts in
    subst (λ (z : List Value). IsState c.args.gts.now z) (sym same)
    (first_state c.args.gts.now c.parts-parts.ensures.sound)

pub returns-clause-starts : goal.returns-clause-starts
returns-clause-starts c =
    let same : c.in_ok-state.state.values.items ≡ first_values (net_of c.args.gts.now).variables =
    c.in_ok-state.ensures ∙ ap (λ (z : GtsParts). first_values (net_of z).variables) c.parts-parts.ensures.parts in
    starts c.args.gts.now c.in_ok-state.state.values.items (Ok c.in_ok-present.present) same c.in_ok-present.ensures

pub returns-in_err-present-clause-fault : goal.returns-in_err-present-clause-fault
returns-in_err-present-clause-fault c =
    let same : c.in_ok-state.state.values.items ≡ first_values (net_of c.args.gts.now).variables =
    c.in_ok-state.ensures ∙ ap (λ (z : GtsParts). first_values (net_of z).variables) c.parts-parts.ensures.parts in
    let fault = c.in_err-present.field-0.0 in
    let x = err_from_is_err_and c.from_residual-in_err-present.result c.from_residual-in_err-present.ensures.1 in
    subst (λ z. IfErr z (IsStartFault (net_of c.args.gts.now))) (sym (x.1 ∙ ap Err x.2))
    (fails c.args.gts.now c.in_ok-state.state.values.items (Err fault) same c.in_err-present.ensures)
