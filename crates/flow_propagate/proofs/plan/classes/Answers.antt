use Rattle.std.proofs.Common.{◌<◌, ℕ, List, [], map, length, subst, sym, ◌∙◌, ap}
use Rattle.ar_base.proofs.Results.{ok_map}
use Rattle.flow_blocks.specs.Blocks.{Follow}
use Rattle.flow_blocks.specs.BlocksInside.{AreUsesBelow}
use Rattle.flow_blocks.specs.declared.dependences.Block.{Block}
use Rattle.gts_core.specs.declared.system.Variable.{Variable}
use Rattle.flow_propagate.specs.Dependence.{flows_in, ArePlaces}
use Rattle.flow_propagate.proofs.Numbered.{count_from}
use Rattle.flow_propagate.proofs.FlowUses.{uses_below}
use Rattle.flow_propagate.proofs.plan.classes.Goals as goal

pub flow_places-requires : goal.flow_places-requires
flow_places-requires c = subst (λ (z : List Variable). length z < 4294967296) (sym c.deref.ensures.value)
    c.requires.sound.short.variables

pub dependences-requires-clause-places : goal.dependences-requires-clause-places
dependences-requires-clause-places c =
    subst (λ (z : List Variable). ArePlaces z (length z) c.in_ok-flows.flows.before.items) c.deref.ensures.value
    c.in_ok-flows.ensures.places

pub blocks-requires : goal.blocks-requires
blocks-requires c =
    let uses = c.in_ok-graph.graph.uses.items in
    let count = c.in_ok-graph.ensures.count ∙ c.in_ok-flows.ensures.count
    ∙ ap (λ (z : List Variable). flows_in z) c.deref.ensures.value in
    subst (λ (z : ℕ). AreUsesBelow z uses) (sym count) (uses_below c.args.parts.now uses c.in_ok-graph.ensures.uses)

pub returns : goal.returns
returns c =
    let p = c.args.parts.now in
    let uses = c.in_ok-graph.graph.uses.items in
    let count = c.in_ok-graph.ensures.count ∙ c.in_ok-flows.ensures.count
    ∙ ap (λ (z : List Variable). flows_in z) c.deref.ensures.value ∙ sym (count_from 0 p.variables.items) in
    ok_map c.blocks-2.result (λ found follow. record {
      uses = uses;
      are = c.in_ok-graph.ensures.uses;
      follow = subst (λ (z : ℕ). Follow z uses [] (map (λ (b : Block). b.members.items) found.items)) count follow;
    }) c.blocks-2.ensures
