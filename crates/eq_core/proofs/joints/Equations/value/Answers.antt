use Rattle.std.proofs.Common.{◌≡◌, ℕ, ◌+◌, ◌<◌, [], ◌∷◌, ◌++◌, map, take, length, set, get_or, sym, ap, ◌∙◌, subst, arith, length-take-le}
use Rattle.std.proofs.lemmas.List.{take_more, take_more_set, map-append}
use Rattle.ar_base.specs.Lists.{Stands}
use Rattle.ar_base.proofs.Standing.{stands_get, stands_map}
use Rattle.eq_core.specs.Ordered.{AreBelow}
use Rattle.eq_core.specs.Values.{values_at, joint_at}
use Rattle.ar_base.specs.NumbersInside.{numbers_of}
use Rattle.eq_core.specs.Views.{gate_of}
use Rattle.eq_core.specs.declared.joints.Gate as flat
use Rattle.eq_core.proofs.Telling.{place_below, values_next}
use Rattle.eq_core.proofs.joints.Equations.value.Goals as goal

pub value-requires : goal.value-requires
value-requires c =
    let gates = c.args.self.now.gates.items in
    let n = c.loop-n.n in
    let gate = c.gate-item.result in
    let short : n < length gates = omega (arith, ap length c.deref-gate-items.ensures.value, c.loop-n-test.true) in
    let is : get_or gates n gate ≡ gate = cc in
    let stands : Stands gates n gate = subst (λ (g : flat.Gate). Stands gates n g) is (stands_get gates n gate short) in
    let place = c.requires.ordered.each n (gate_of gate) (stands_map gate_of gates n gate stands) in
    let long : length (take n c.loop-n.room) ≡ n = length-take-le n c.loop-n.room (omega (arith, c.requires.room)) in
    subst (λ (m : ℕ). AreBelow m (gate_of gate).operands) (sym long) (place_below place)

pub loop-n-preserved : goal.loop-n-preserved
loop-n-preserved c =
    let gates = c.args.self.now.gates.items in
    let room = c.loop-n.room in
    let n = c.loop-n.n in
    let gate = c.gate-item.result in
    let events = numbers_of c.args.set.now in
    let short : n < length gates = omega (arith, ap length c.deref-gate-items.ensures.value, c.loop-n-test.true) in
    let is : get_or gates n gate ≡ gate = cc in
    let front : take (n + 1) gates ≡ take n gates ++ gate ∷ [] =
    take_more gates n gate short ∙ ap (λ g. take n gates ++ g ∷ []) is in
    let written : take (n + 1) (set room n c.value.result) ≡ take n room ++ c.value.result ∷ [] =
    take_more_set room n c.value.result (omega (arith, c.requires.room, short)) in
    let g = gate_of gate in
    written ∙ ap (λ b. take n room ++ b ∷ []) c.value.ensures
    ∙ ap (λ z. z ++ joint_at g.both events z g.operands ∷ []) c.loop-n.invariant
    ∙ sym (values_next events (map gate_of (take n gates)) g)
    ∙ ap (values_at events) (sym (map-append gate_of (take n gates) (gate ∷ [])))
    ∙ ap (λ z. values_at events (map gate_of z)) (sym front)
