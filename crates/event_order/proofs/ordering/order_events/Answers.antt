use Rattle.std.proofs.Common.{length, map, sym, ◌∙◌, subst, arith}
use Rattle.std.proofs.lemmas.List.{length-map}
use Rattle.ar_base.proofs.Standing.{along_length}
use Rattle.eq_core.specs.ValuesInside.{IsBelow}
use Rattle.eq_core.specs.Views.{gate_of, operand_of}
use Rattle.event_order.proofs.Drawable.{new_few, new_numbered, new_apart, new_different, new_small}
use Rattle.event_order.proofs.Values.{renamed_below, renamed_ordered}
use Rattle.event_order.proofs.ordering.order_events.Goals as goal

pub returns-clause-order : goal.returns-clause-order
returns-clause-order c = record {
  trees_are = c.in_ok-trees.ensures.taken.trees_are;
  names_are = c.in_ok-trees.ensures.names;
  no_others = c.in_ok-trees.ensures.no_others;
  gates_are = c.in_ok-gates.ensures;
  root_is = c.renamed-root.ensures;
}

pub returns-clause-drawable : goal.returns-clause-drawable
returns-clause-drawable c =
    let names = c.in_ok-trees.field-0.numbers.names.items in
    let olds = c.args.trees.now in
    let news = c.in_ok-trees.field-0.trees.items in
    let old_gates = map gate_of c.args.gates.now in
    let new_gates = map gate_of c.in_ok-gates.gates.items in
    let root = operand_of c.args.root in
    let other = operand_of c.renamed-root.result in
    let r = c.in_ok-trees.ensures.taken.trees_are in
    let along = c.in_ok-gates.ensures in
    record {
      few = let l = new_few names olds news r in let f = c.requires.few in omega (arith, l, f);
      numbered = new_numbered names olds news r c.requires.numbered;
      apart = new_apart names olds news r;
      different = new_different names olds news r c.requires.different;
      small = new_small names olds news r c.requires.small;
      ordered = renamed_ordered names old_gates new_gates along c.requires.ordered;
      root_in = renamed_below names (length new_gates) root other c.renamed-root.ensures
          (subst (λ n. IsBelow n root)
          (sym (length-map c.args.gates.now gate_of) ∙ along_length old_gates new_gates along) c.requires.root_in);
    }
