use Rattle.std.proofs.Common.{List, refl, sym, subst}
use Rattle.ar_base.specs.Lists.{Along}
use Rattle.class_table.specs.TablesInside.{IsBodyOf}
use Rattle.class_table.specs.declared.tables.Body.{Body}
use Rattle.unit_rules.specs.Naming.{inner_names, alias_names}
use Rattle.unit_rules.proofs.Named.{inner_listed, aliases_listed}
use Rattle.unit_rules.proofs.Nodes.{at_members}
use Rattle.unit_rules.proofs.naming.node_of.Goals as goal

pub returns : goal.returns
returns c = λ m units u t a s o.
    let at = c.members_of-all.ensures m u t o.body in
    let inner = c.in_ok-inner.ensures m.declared m units u
    (subst (λ (bs : List Body). Along IsBodyOf bs m.declared.bodies) (sym c.deref.ensures.value)
    t.table.holds.bodies) a s in
    let aliases = c.in_ok-aliases.ensures m.declared m units u
    (subst (λ (bs : List Body). Along IsBodyOf bs m.declared.bodies) (sym c.deref-2.ensures.value)
    t.table.holds.bodies) a s in
    record {
      owner = o.owner;
      name = o.name;
      body = o.body;
      inner = inner_listed t.kept (at_members inner_names at refl inner)
          c.in_ok-in_order.ensures.same c.in_ok-in_order.ensures.ordered;
      aliases = aliases_listed t.kept (at_members alias_names at refl aliases)
          c.in_ok-in_order-2.ensures.same c.in_ok-in_order-2.ensures.ordered;
    }
