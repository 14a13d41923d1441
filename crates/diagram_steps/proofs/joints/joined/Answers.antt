use Rattle.std.proofs.Common.{◌≡◌, ◌+◌, ◌-◌, ◌<◌, Bool, get_or, length, refl, sym, ◌∙◌, subst, arith}
use Rattle.ar_base.proofs.Standing.{stands_get}
use Rattle.mode_nodes.specs.Diagrams.{DiagramId}
use Rattle.mode_nodes.proofs.Allowed.{from_first}
use Rattle.mode_nodes.proofs.Growing.{still}
use Rattle.diagram_steps.proofs.Folding.{IsFolded, IsJoined, folded_none, folded_more, folded_all}
use Rattle.diagram_steps.proofs.joints.joined.Goals as goal

-- what is read past the end
abbrev false_number : DiagramId
false_number = record { n = 0; of = record {} }

pub loop-left-init : goal.loop-left-init
loop-left-init c =
    folded_none c.args.all_needed c.args.store.now c.args.parts.now (length c.args.parts.now) c.new-so_far.result.n refl
    (c.new-so_far.ensures ∙ c.from.ensures)

pub and-requires-clause-f_in : goal.and-requires-clause-f_in
and-requires-clause-f_in c =
    let ns = c.args.parts.now in
    let k = c.loop-left.left - 1 in
    let inside : k < length ns = omega (arith, c.loop-left-test.true, c.loop-left.invariant.left_in) in
    let m = get_or ns k false_number in
    still c.args.store.now.store c.loop-left.store.store m.n c.loop-left.invariant.grows.store
    (c.requires.each k m (stands_get ns k false_number inside))

pub or-requires-clause-f_in : goal.or-requires-clause-f_in
or-requires-clause-f_in c =
    let ns = c.args.parts.now in
    let k = c.loop-left.left - 1 in
    let inside : k < length ns = omega (arith, c.loop-left-test.true, c.loop-left.invariant.left_in) in
    let m = get_or ns k false_number in
    still c.args.store.now.store c.loop-left.store.store m.n c.loop-left.invariant.grows.store
    (c.requires.each k m (stands_get ns k false_number inside))

pub loop-left-preserved-in_ok-so_far : goal.loop-left-preserved-in_ok-so_far
loop-left-preserved-in_ok-so_far c =
    let all = c.args.all_needed in
    let old = c.args.store.now in
    let ns = c.args.parts.now in
    let k = c.loop-left.left - 1 in
    let inside : k < length ns = omega (arith, c.loop-left-test.true, c.loop-left.invariant.left_in) in
    let up : c.loop-left.left ≡ k + 1 = omega (arith, c.loop-left-test.true) in
    let m = get_or ns k false_number in
    let at = stands_get ns k false_number inside in
    let before = subst (λ z. IsFolded all old ns z c.loop-left.store c.loop-left.so_far.n) up c.loop-left.invariant in
    let d = c.in_ok-so_far.ensures.drawn.ok in
    folded_more all old ns k c.loop-left.store c.and.new.self m c.loop-left.so_far.n c.in_ok-so_far.so_far.n at
    (c.requires.each k m at) before
    (record {
      store = c.in_ok-so_far.ensures.drawn.grows;
      costs = c.in_ok-so_far.ensures.bounds.0;
      most = c.in_ok-so_far.ensures.bounds.1;
    })
    (subst (λ (b : Bool). IsJoined b c.loop-left.store m.n c.loop-left.so_far.n c.and.new.self.store c.in_ok-so_far.so_far.n)
    (sym c.if-all_needed.true) (record {
      number = d.number;
      same = λ modes h. d.value 0 modes (from_first c.loop-left.store.store m.n, from_first c.loop-left.store.store c.loop-left.so_far.n) h;
    }))

pub loop-left-preserved : goal.loop-left-preserved
loop-left-preserved c =
    let all = c.args.all_needed in
    let old = c.args.store.now in
    let ns = c.args.parts.now in
    let k = c.loop-left.left - 1 in
    let inside : k < length ns = omega (arith, c.loop-left-test.true, c.loop-left.invariant.left_in) in
    let up : c.loop-left.left ≡ k + 1 = omega (arith, c.loop-left-test.true) in
    let m = get_or ns k false_number in
    let at = stands_get ns k false_number inside in
    let before = subst (λ z. IsFolded all old ns z c.loop-left.store c.loop-left.so_far.n) up c.loop-left.invariant in
    let d = c.in_ok-so_far-2.ensures.drawn.ok in
    folded_more all old ns k c.loop-left.store c.or.new.self m c.loop-left.so_far.n c.in_ok-so_far-2.so_far.n at
    (c.requires.each k m at) before
    (record {
      store = c.in_ok-so_far-2.ensures.drawn.grows;
      costs = c.in_ok-so_far-2.ensures.bounds.0;
      most = c.in_ok-so_far-2.ensures.bounds.1;
    })
    (subst (λ (b : Bool). IsJoined b c.loop-left.store m.n c.loop-left.so_far.n c.or.new.self.store c.in_ok-so_far-2.so_far.n)
    (sym c.if-all_needed.false) (record {
      number = d.number;
      same = λ modes h. d.value 0 modes (from_first c.loop-left.store.store m.n, from_first c.loop-left.store.store c.loop-left.so_far.n) h;
    }))

pub returns-clause-joint : goal.returns-clause-joint
returns-clause-joint c =
    folded_all c.args.all_needed c.args.store.now c.args.parts.now c.loop-left.left c.loop-left.store
    c.loop-left.so_far.n (omega (arith, c.loop-left-test.false)) c.loop-left.invariant
