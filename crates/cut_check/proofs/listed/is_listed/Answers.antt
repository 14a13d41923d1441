use Rattle.ar_base.specs.Sets.{Within}
use Rattle.job_inputs.specs.Chains.{chain_labels}
use Rattle.cut_check.specs.Flat.{flat_event_numbers}
use Rattle.cut_check.specs.Verdicts.{events_of}
use Rattle.cut_check.proofs.ListedLemmas.{listed_step}
use Rattle.cut_check.proofs.listed.is_listed.Goals as goal
use Rattle.cut_check.proofs.listed.is_listed.Goals.{else-are_among-via-then-are_among+else-has_all, else-are_among-via-else-are_among}

pub loop-chain-preserved : goal.loop-chain-preserved
loop-chain-preserved c =
    let own = events_of (chain_labels c.parts-parts.result.now c.deref-ways.result.now) in
    let set = flat_event_numbers c.args.cut.now in
    let differ : Within own set × Within set own → ⊥ = elim c.else-are_among.branch [
      | else-are_among-via-then-are_among+else-has_all w ↦ λ h. w.if-has_all.ensures h.1
      | else-are_among-via-else-are_among w ↦ λ h. w.if-are_among.ensures h.0
    ] in
    listed_step c.args.gts.now c.parts-parts.result.now c.args.chains.now c.loop-chain.chain-index c.chain-item.result
    c.deref-ways.result.now (flat_event_numbers c.args.cut.now) c.loop-chain-test.true c.chain-item.is
    c.parts-parts.ensures.parts c.deref-ways.ensures.value differ c.loop-chain.invariant
