use Rattle.std.proofs.Common.{map, sym, subst}
use Rattle.std.proofs.lemmas.List.{length-map}
use Rattle.zdd_nodes.specs.Nodes.{family, IsSoundStore}
use Rattle.eq_core.specs.ValuesInside.{IsBelow}
use Rattle.eq_core.specs.Views.{gate_of, operand_of}
use Rattle.coherent_cuts.specs.Gates.{HasLeastFirable}
use Rattle.named_families.specs.Names.{AreNamed, HaveNames}
use Rattle.event_order.proofs.ByNames.{least_by_names}
use Rattle.event_order.proofs.Again.{forest_for, forest_by_modes}
use Rattle.gate_diagrams.proofs.by_use.least_visited.Goals as goal

pub named_family-requires-clause-names : goal.named_family-requires-clause-names
named_family-requires-clause-names c =
    let trees = c.args.trees.now in
    let gates = map gate_of c.args.gates.now in
    let anew = c.in_ok-anew.anew in
    let least = c.in_ok-least.least in
    let f = family least.store least.root.n in
    let below = subst (λ n. IsBelow n (operand_of c.args.root)) (sym (length-map c.args.gates.now gate_of)) c.requires.root_in in
    let w = least_by_names c.args.order trees gates (operand_of c.args.root) anew c.requires.ordered below
    c.in_ok-anew.ensures.order (forest_for trees)
    (forest_by_modes trees c.requires.numbered c.requires.apart c.requires.different) in
    let found = subst (λ z. HasLeastFirable c.args.order z (map gate_of anew.gates.items) (operand_of anew.root) least)
    c.deref.ensures.value
    (subst (λ z. HasLeastFirable c.args.order c.deref.result.now (map gate_of z) (operand_of anew.root) least)
    c.deref-2.ensures.value c.in_ok-least.ensures) in
    subst (λ z. HaveNames z f) (sym c.deref-3.ensures.value) (w.1.have f (found.are w.0 w.1.by_modes))

pub returns : goal.returns
returns c =
    let order = c.args.order in
    let trees = c.args.trees.now in
    let gates = map gate_of c.args.gates.now in
    let root = operand_of c.args.root in
    let anew = c.in_ok-anew.anew in
    let least = c.in_ok-least.least in
    let f = family least.store least.root.n in
    let below = subst (λ n. IsBelow n root) (sym (length-map c.args.gates.now gate_of)) c.requires.root_in in
    let found = subst (λ z. HasLeastFirable order z (map gate_of anew.gates.items) (operand_of anew.root) least)
    c.deref.ensures.value
    (subst (λ z. HasLeastFirable order c.deref.result.now (map gate_of z) (operand_of anew.root) least)
    c.deref-2.ensures.value c.in_ok-least.ensures) in
    let sound = subst IsSoundStore c.into_store.ensures.same c.into_store.ensures.sound in
    let v = c.named_family.new.ops in
    let n = c.in_ok-root.root.n in
    subst (λ z. HasLeastFirable order trees gates root (record { store = z; root = c.in_ok-root.root }))
    (sym c.into_store.ensures.same)
    (record {
      sound = sound;
      in_store = c.in_ok-root.ensures.in_store;
      are = λ forest b.
          let w = least_by_names order trees gates root anew c.requires.ordered below
          c.in_ok-anew.ensures.order forest b in
          w.1.least f (family v n) (found.are w.0 w.1.by_modes)
          (subst (λ z. AreNamed z f (family v n)) c.deref-3.ensures.value c.in_ok-root.ensures.named)
          (sound.families n c.in_ok-root.ensures.in_store);
    })
