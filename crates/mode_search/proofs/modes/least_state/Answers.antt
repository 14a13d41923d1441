use Rattle.std.proofs.Common.{sym, subst, take, get_or, ◌+◌, Option}
use Rattle.std.proofs.lemmas.List.{get_or_default}
use Rattle.ar_base.specs.Numbers.{VarId}
use Rattle.mode_search.specs.Modes.{IsNamedState, IsLeastVariable}
use Rattle.mode_search.proofs.LeastStates.{least_start, least_more, least_all}
use Rattle.mode_search.proofs.modes.least_state.Goals as goal

pub loop-name-init : goal.loop-name-init
loop-name-init c = least_start c.args.parts.now c.args.unit.n c.args.names.now

pub loop-name-preserved : goal.loop-name-preserved
loop-name-preserved c =
    let name : VarId = get_or c.args.names.now c.loop-name.name-index (record { n = 0; of = record {} }) in
    subst (λ (z : Option VarId). IsLeastVariable
    (IsNamedState c.args.parts.now c.args.unit.n (take (c.loop-name.name-index + 1) c.args.names.now)) z)
    (sym c.lesser-least.ensures)
    (least_more c.args.parts.now c.args.unit.n c.args.names.now c.loop-name.name-index name c.loop-name.least
    c.as_state.result c.loop-name-test.true
    (get_or_default c.args.names.now c.loop-name.name-index (record { n = 0; of = record {} }) name
    c.loop-name-test.true) c.loop-name.invariant c.as_state.ensures)

pub returns : goal.returns
returns c = least_all c.args.parts.now c.args.unit.n c.args.names.now c.loop-name.name-index c.loop-name.least
    c.loop-name-test.false c.loop-name.invariant
