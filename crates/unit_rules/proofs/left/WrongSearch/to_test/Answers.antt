use Rattle.std.proofs.Common.{List, refl, sym, subst}
use Rattle.ar_syntax.specs.declared.members.Setting.{Setting}
use Rattle.class_table.specs.TablesInside.{site_of}
use Rattle.unit_rules.specs.ToTest.{NoneBeforeFrom}
use Rattle.unit_rules.proofs.ToTest.{all_to_test}
use Rattle.unit_rules.proofs.left.WrongSearch.to_test.Goals as goal

pub returns-then-count-settings : goal.returns-then-count-settings
returns-then-count-settings c = λ m known same. record {
  n = c.in-Some.count.now;
  first = refl;
  rest = subst (λ (xs : List Setting). NoneBeforeFrom xs c.in-Some.count.now c.args.self.now.found) (sym same)
      (known.each (site_of c.args.site) c.in-Some.count.now (sym c.in-Some.ensures.value));
}

pub returns-else-count-settings : goal.returns-else-count-settings
returns-else-count-settings c = λ m known same. all_to_test _ _

pub returns-in_default : goal.returns-in_default
returns-in_default c = λ m known same. all_to_test _ _
