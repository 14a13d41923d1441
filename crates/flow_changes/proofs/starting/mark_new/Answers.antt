use Rattle.std.proofs.Common.{◌<◌, true, length, get_or, rules, arith}
use Rattle.ar_base.proofs.Standing.{stands_get}
use Rattle.flow_changes.specs.Known.{changing_numbers}
use Rattle.flow_changes.proofs.Begun.{no_pair, new_within, new_there, numbers_long}
use Rattle.flow_changes.proofs.Picks.{set_none, set_next, set_done}
use Rattle.flow_changes.proofs.starting.mark_new.Goals as goal

pub loop-variable-init : goal.loop-variable-init
loop-variable-init c = set_none true (changing_numbers c.args.new.now) c.args.known.now.items

pub index_mut-requires : goal.index_mut-requires
index_mut-requires c =
    let new = c.args.new.now in
    let i = c.loop-variable.variable-index in
    let h = new_within new c.args.known.now.items c.requires i (get_or new i no_pair)
    (stands_get new i no_pair c.loop-variable-test.true) in
    let l : (get_or new i no_pair).0.n < length c.loop-variable.known.items =
    omega (arith, h, c.loop-variable.invariant.keeps.long) in
    search (rules, l)

pub loop-variable-preserved : goal.loop-variable-preserved
loop-variable-preserved c =
    let new = c.args.new.now in
    let i = c.loop-variable.variable-index in
    let r = get_or new i no_pair in
    let at = stands_get new i no_pair c.loop-variable-test.true in
    set_next true (changing_numbers new) i r.0.n c.args.known.now.items c.loop-variable.known.items (new_there new i r at)
    (new_within new c.args.known.now.items c.requires i r at) c.loop-variable.invariant

pub returns : goal.returns
returns c = set_done true (changing_numbers c.args.new.now) c.loop-variable.variable-index c.args.known.now.items c.loop-variable.known.items (let l = numbers_long c.args.new.now in omega (arith, l, c.loop-variable-test.false)) c.loop-variable.invariant
