use Rattle.std.proofs.Common.{◌≡◌, get_or}
use Rattle.std.proofs.lemmas.List.{get_or_default}
use Rattle.ar_base.specs.Numbers.{VarId}
use Rattle.mode_search.proofs.Added.{each_more, each_all}
use Rattle.mode_search.proofs.modes.is_alone.Goals as goal

pub loop-name-preserved : goal.loop-name-preserved
loop-name-preserved c =
    let name : VarId = get_or c.args.names.now c.loop-name.name-index (record { n = 0; of = record {} }) in
    each_more c.args.names.now c.loop-name.name-index (λ (x : VarId). x.n ≡ c.args.variable.n) name
    c.loop-name-test.true (get_or_default c.args.names.now c.loop-name.name-index (record { n = 0; of = record {} })
    name c.loop-name-test.true) c.loop-name.invariant c.if-name-variable.false

pub returns : goal.returns
returns c = each_all c.args.names.now c.loop-name.name-index (λ (x : VarId). x.n ≡ c.args.variable.n)
    c.loop-name-test.false c.loop-name.invariant
