use Rattle.std.proofs.Common.{◌<◌, length, get_or, rules, refl, sym, ◌∙◌, arith, length-set}
use Rattle.ar_base.proofs.Standing.{stands_get}
use Rattle.flow_changes.proofs.Begun.{no_pair, new_within, written_next, written_done}
use Rattle.flow_changes.proofs.starting.write_new.Goals as goal

pub loop-variable-init : goal.loop-variable-init
loop-variable-init c = record { long = refl; values = refl }

pub index_mut-requires : goal.index_mut-requires
index_mut-requires c =
    let new = c.args.new.now in
    let i = c.loop-variable.variable-index in
    let h = new_within new c.args.values.now.items c.requires i (get_or new i no_pair)
    (stands_get new i no_pair c.loop-variable-test.true) in
    let l : (get_or new i no_pair).0.n < length c.loop-variable.values.items =
    omega (arith, h, c.loop-variable.invariant.long) in
    search (rules, l)

pub loop-variable-preserved : goal.loop-variable-preserved
loop-variable-preserved c =
    let new = c.args.new.now in
    let i = c.loop-variable.variable-index in
    let r = get_or new i no_pair in
    let v = c.loop-variable.invariant in
    record {
      long = length-set c.loop-variable.values.items r.0.n r.1 ∙ v.long;
      values = written_next c.loop-variable.values.items new i r (stands_get new i no_pair c.loop-variable-test.true)
          ∙ v.values;
    }

pub returns : goal.returns
returns c = sym (written_done c.loop-variable.values.items c.args.new.now c.loop-variable.variable-index
    c.loop-variable-test.false) ∙ c.loop-variable.invariant.values
