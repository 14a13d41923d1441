use Rattle.std.proofs.Common.{rules, false, [], ◌∷◌, ◌++◌, map, length, replicate, refl, sym, ap, ◌∙◌, subst}
use Rattle.std.proofs.lemmas.List.{length-map, length-replicate}
use Rattle.eq_core.specs.ValuesInside.{IsBelow}
use Rattle.eq_core.specs.Views.{gate_of, operand_of}
use Rattle.event_order.specs.declared.visiting.Walk.{Walk}
use Rattle.event_order.proofs.Walking.{walk_begins, top_below, walk_next, walk_ends, walk_uses}
use Rattle.event_order.proofs.visiting.first_uses.Goals as goal

pub loop-operand-init : goal.loop-operand-init
loop-operand-init c =
    let gates = c.args.gates.now in
    let long = length-map gates gate_of in
    let w : Walk = record { stack = c.push.new.self; seen = c.in_ok-vec.field-0; numbering = c.new-2.result } in
    let none = c.in_ok-vec.ensures.items_if_clones_equal (λ y e. e) ∙ ap (λ n. replicate n false) (sym long) in
    walk_begins c.args.trees.now (map gate_of gates) (operand_of c.args.root) w c.args.root
    (c.in_ok-push.ensures.items ∙ ap (λ z. z ++ c.args.root ∷ []) c.new.ensures.items) refl none
    (ap length none ∙ length-replicate (length (map gate_of gates)) false) (c.new-2.ensures c.args.trees.now) (c.new-2.ensures [])
    (subst (λ n. IsBelow n (operand_of c.args.root)) (sym long) c.requires.root_in)

pub look-requires-clause-below : goal.look-requires-clause-below
look-requires-clause-below c =
    let gates = c.args.gates.now in
    subst (λ n. IsBelow n (operand_of c.in-Some.operand)) (length-map gates gate_of)
    (top_below c.args.trees.now (map gate_of gates) (operand_of c.args.root) c.loop-operand.walk c.pop.new.self.items
    c.in-Some.operand c.in-Some.ensures.items c.loop-operand.invariant)

pub loop-operand-preserved : goal.loop-operand-preserved
loop-operand-preserved c =
    let w = c.loop-operand.walk in
    let mid : Walk = record { stack = c.pop.new.self; seen = w.seen; numbering = w.numbering } in
    walk_next c.args.trees.now (map gate_of c.args.gates.now) (operand_of c.args.root) c.requires.ordered w mid
    c.look.new.walk c.in-Some.operand c.in-Some.ensures.items refl refl c.loop-operand.invariant c.in_ok-look.ensures

pub returns-clause-names : goal.returns-clause-names
returns-clause-names c =
    walk_ends c.args.trees.now (map gate_of c.args.gates.now) (operand_of c.args.root) c.loop-operand.walk
    (search rules) c.loop-operand.invariant

pub returns-clause-no_others : goal.returns-clause-no_others
returns-clause-no_others c =
    walk_uses c.args.trees.now (map gate_of c.args.gates.now) (operand_of c.args.root) c.loop-operand.walk
    c.loop-operand.invariant
