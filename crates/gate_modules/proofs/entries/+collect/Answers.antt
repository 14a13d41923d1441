use Rattle.std.proofs.Common.{sym, ap, ◌∙◌, subst}
use Rattle.zdd_nodes.specs.Nodes.{family}
use Rattle.zdd_nodes.specs.Bounds.{node_numbers}
use Rattle.zdd_nodes.proofs.Numbering.{numbers_push}
use Rattle.gate_modules.specs.Entries.{IsCovered, AddsSections}
use Rattle.gate_modules.proofs.Entering.{covered_more, covered_node, seen_set, seen_more, adds_node, covered_leaf, adds_leaf}
use Rattle.gate_modules.proofs.entries.+collect.Goals as goal

pub returns-in_ok-collect-in-Some-2-clause-covered : goal.returns-in_ok-collect-in-Some-2-clause-covered
returns-in_ok-collect-in-Some-2-clause-covered t c =
    covered_node c.args.store.now c.args.from c.args.number.n _ c.in-Some.lo.n c.in-Some.hi.n
    (node_numbers c.collect-in-Some.new.entries.items) c.in-Some.ensures.halves
    (covered_more c.args.store.now c.args.from c.in-Some.lo.n (family c.args.store.now c.in-Some.hi.n)
    (node_numbers c.collect.new.entries.items) (node_numbers c.collect-in-Some.new.entries.items)
    c.in_ok-collect-in-Some.ensures.covered c.in_ok-collect-in-Some-2.ensures.added)
    c.in_ok-collect-in-Some-2.ensures.covered

pub returns-in_ok-collect-in-Some-2-clause-known : goal.returns-in_ok-collect-in-Some-2-clause-known
returns-in_ok-collect-in-Some-2-clause-known t c =
    seen_set c.args.store.now c.args.from c.args.number.n c.collect-in-Some.new.seen
    (node_numbers c.collect-in-Some.new.entries.items) c.in_ok-collect-in-Some-2.ensures.known
    (returns-in_ok-collect-in-Some-2-clause-covered t c)

pub returns-in_ok-collect-in-Some-2-clause-added : goal.returns-in_ok-collect-in-Some-2-clause-added
returns-in_ok-collect-in-Some-2-clause-added t c =
    adds_node c.args.store.now c.args.from c.args.number.n _ c.in-Some.lo.n c.in-Some.hi.n
    (node_numbers c.args.entries.now.items) (node_numbers c.collect.new.entries.items)
    (node_numbers c.collect-in-Some.new.entries.items) c.in-Some.ensures.halves
    c.in_ok-collect-in-Some.ensures.added c.in_ok-collect-in-Some-2.ensures.added

pub returns-in_ok-push-in-None-clause-covered : goal.returns-in_ok-push-in-None-clause-covered
returns-in_ok-push-in-None-clause-covered t c =
    subst (λ z. IsCovered c.args.store.now c.args.from z (family c.args.store.now c.args.number.n))
    (sym (ap node_numbers c.in_ok-push-in-None.ensures.items ∙ numbers_push c.args.entries.now.items c.args.number))
    (covered_leaf c.args.store.now c.args.from c.args.number.n (node_numbers c.args.entries.now.items)
    c.in-None.ensures.halves)

pub returns-in_ok-push-in-None-clause-added : goal.returns-in_ok-push-in-None-clause-added
returns-in_ok-push-in-None-clause-added t c =
    subst (λ z. AddsSections c.args.store.now c.args.from c.args.number.n (node_numbers c.args.entries.now.items) z)
    (sym (ap node_numbers c.in_ok-push-in-None.ensures.items ∙ numbers_push c.args.entries.now.items c.args.number))
    (adds_leaf c.args.store.now c.args.from c.args.number.n (node_numbers c.args.entries.now.items) c.requires.in_store
    c.in-None.ensures.halves)

pub returns-in_ok-push-in-None-clause-known : goal.returns-in_ok-push-in-None-clause-known
returns-in_ok-push-in-None-clause-known t c =
    seen_set c.args.store.now c.args.from c.args.number.n c.args.seen.now (node_numbers c.push.new.self.items)
    (seen_more c.args.store.now c.args.from c.args.number.n c.args.seen.now (node_numbers c.args.entries.now.items)
    (node_numbers c.push.new.self.items) c.requires.known (returns-in_ok-push-in-None-clause-added t c))
    (returns-in_ok-push-in-None-clause-covered t c)
