use Rattle.std.proofs.Common.{rules, List, Contains, subst, sym, ◌∙◌}
use Rattle.domains.specs.Domains.{Holds}
use Rattle.flow_propagate.proofs.Putting.{puts_new, row_here}
use Rattle.ar_meaning.proofs.Found.{fails}
use Rattle.domains.specs.declared.Value.{Value}
use Rattle.flow_propagate.proofs.facts.put.Goals as goal

pub returns : goal.returns
returns c =
    let has : Holds c.args.domain.now c.args.v = search rules in
    puts_new c.args.domain.now c.args.target c.args.v c.args.table.now.rows.items c.index_mut.result.now c.push.new.self
    c.requires.in_range c.index_mut.ensures.value c.in_ok-push.ensures.items has
    (λ h. fails _ _ c.if-has.false c.has.ensures
    (subst (λ (z : List Value). Contains z c.args.v)
    (row_here c.args.table.now.rows.items c.args.target c.index.result.now c.requires.in_range c.index.ensures
    ∙ sym c.deref.ensures.value) h))
