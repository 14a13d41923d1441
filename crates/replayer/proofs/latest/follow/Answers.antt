use Rattle.std.proofs.Common.{◌<◌, ◌+◌, List, get_or, drop, false, length, subst, arith}
use Rattle.std.proofs.lemmas.List.{at_drop_more, drop_all}
use Rattle.ar_base.specs.Numbers.{VarId}
use Rattle.ar_base.proofs.Standing.{stands_get}
use Rattle.domains.specs.declared.Value.TheVariants.{Truth}
use Rattle.replayer.proofs.ChangeLemmas.{AreBut, but_changed, but_none, but_next, changed_within}
use Rattle.replayer.proofs.latest.follow.Goals as goal

-- what is read past the end
abbrev none : VarId
none = record { n = 0; of = record {} }

pub loop-variable-init : goal.loop-variable-init
loop-variable-init c = but_changed c.args.values.now.items c.args.next.now c.args.changed.now c.requires.long
    c.requires.changed

pub bounds-next-n : goal.bounds-next-n
bounds-next-n c = changed_within c.args.values.now.items c.args.next.now c.args.changed.now
    c.loop-variable.variable-index none c.requires.changed c.loop-variable-test.true

pub index_mut-requires : goal.index_mut-requires
index_mut-requires c =
    let h = changed_within c.args.values.now.items c.args.next.now c.args.changed.now c.loop-variable.variable-index
    none c.requires.changed c.loop-variable-test.true in
    omega (arith, h, c.loop-variable.invariant.long, c.loop-variable.values.ok.0)

pub loop-variable-preserved : goal.loop-variable-preserved
loop-variable-preserved c =
    let xs = c.args.changed.now in
    let i = c.loop-variable.variable-index in
    let x = get_or xs i none in
    let next = c.args.next.now in
    let values = c.loop-variable.values.items in
    let h : x.n < length next = changed_within c.args.values.now.items next xs i none c.requires.changed
    c.loop-variable-test.true in
    but_next values next x (drop (i + 1) xs) (get_or next x.n (Truth false))
    (omega (arith, h, c.loop-variable.invariant.long)) (stands_get next x.n (Truth false) h)
    (subst (λ (z : List VarId). AreBut values next z)
    (at_drop_more (λ (z : List VarId). z) xs i none c.loop-variable-test.true) c.loop-variable.invariant)

pub returns : goal.returns
returns c = but_none c.loop-variable.values.items c.args.next.now _
    (drop_all c.loop-variable.variable-index c.args.changed.now c.loop-variable-test.false) c.loop-variable.invariant
