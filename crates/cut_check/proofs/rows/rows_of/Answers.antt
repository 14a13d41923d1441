use Rattle.std.proofs.Common.{◌≡◌, ◌∙◌, ◌∷◌, ◌++◌, [], List, take, ap, sym, subst, arith}
use Rattle.std.proofs.lemmas.List.{take_all, take_more}
use Rattle.ar_base.specs.Numbers.{WayId}
use Rattle.ar_base.proofs.Standing.{stands_item}
use Rattle.gts_core.specs.declared.bound.Chain.{Chain}
use Rattle.job_inputs.specs.Chains.{chain_labels}
use Rattle.job_inputs.specs.CutReads.{AreKnownWays}
use Rattle.cut_check.specs.Rows.{IsRow, AreLineRows}
use Rattle.cut_check.proofs.RowLemmas.{chain_known, rows_more}
use Rattle.cut_check.proofs.rows.rows_of.Goals as goal

pub row_of-requires-clause-known : goal.row_of-requires-clause-known
row_of-requires-clause-known c =
    let p = c.args.parts.now in
    let known = chain_known p c.args.chains.now c.loop-chain.chain-index c.chain-item.result c.requires.known
    (stands_item c.args.chains.now c.loop-chain.chain-index c.chain-item.result c.loop-chain-test.true
    c.chain-item.is) in
    subst (λ (z : List WayId). AreKnownWays p z) (sym c.deref.ensures.value) known

pub loop-chain-preserved : goal.loop-chain-preserved
loop-chain-preserved c = λ dropped table.
    let p = c.args.parts.now in
    let chains = c.args.chains.now in
    let i = c.loop-chain.chain-index in
    let d = c.chain-item.result in
    rows_more p dropped (take i chains) _ d c.loop-chain.rows.items _ c.in_ok-row.row
    (take_more chains i d c.loop-chain-test.true ∙ ap (λ (z : Chain). take i chains ++ z ∷ []) (sym c.chain-item.is))
    c.in_ok-push.ensures.items (c.loop-chain.invariant dropped table)
    (subst (λ (z : List WayId). IsRow p dropped (chain_labels p z) c.in_ok-row.row) c.deref.ensures.value
    (c.in_ok-row.ensures dropped table))

pub returns : goal.returns
returns c = λ dropped table.
    let e : take c.loop-chain.chain-index c.args.chains.now ≡ c.args.chains.now =
    take_all c.loop-chain.chain-index c.args.chains.now (omega (arith, c.loop-chain-test.false)) in
    subst (λ (z : List Chain). AreLineRows c.args.parts.now dropped z c.loop-chain.rows.items) e
    (c.loop-chain.invariant dropped table)
