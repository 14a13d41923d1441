use Rattle.class_table.specs.TablesInside.{site_of}
use Rattle.unit_rules.proofs.ToTest.{left_next}
use Rattle.unit_rules.proofs.left.WrongSearch.add.Goals as goal

pub returns-clause-left : goal.returns-clause-left
returns-clause-left c = λ m known t.
    let h = c.in_ok-insert.ensures.updates in
    left_next m c.args.self.now _ (site_of c.args.site) c.args.tested.now c.args.wrong c.count_before-count.result h.1 h.2
    c.earliest-self.ensures c.count_before-count.ensures t known
