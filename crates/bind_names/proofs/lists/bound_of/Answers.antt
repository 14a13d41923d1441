use Rattle.std.proofs.Common.{arith}
use Rattle.bind_names.proofs.BoundLists.{bound_of_lists}
use Rattle.bind_names.proofs.lists.bound_of.Goals as goal

pub returns : goal.returns
returns c = λ m units s.
    let tree = s.are.is_tree in
    let before = c.in_ok-prefixes.ensures m units tree in
    let paths = c.in_ok-paths.ensures m units tree (rw c.deref-3.ensures.value before) in
    bound_of_lists m units c.args.scopes.now.tree.now _ (record {
      is_tree = tree;
      symbols = c.in_ok-symbols.ensures m units tree;
      symbols_few = omega (arith, c.if-len.false, c.len.ensures);
      units_are = c.in_ok-units.ensures m units tree (rw c.deref.ensures.value before);
      variables_are = c.in_ok-variables.ensures m units tree s.values (rw c.deref-2.ensures.value before);
      events_are = c.in_ok-events.ensures m units s (rw c.deref-4.ensures.value paths);
      assertions_are = c.in_ok-assertions.ensures m units s;
      observers_are = c.in_ok-observers.ensures m units s (rw c.deref-5.ensures.value before);
    })
