use Rattle.std.proofs.Common.{ℕ}
use Rattle.ar_syntax.specs.declared.items.Item.{Item}
use Rattle.class_table.specs.Earliest.{IsEarliest, Until}
use Rattle.class_table.specs.Items.{IsNoDomainItem}
use Rattle.class_table.proofs.Looping.{AtItem}
use Rattle.class_table.proofs.items.first_no_domain.Given as goal

abbrev pub invariant-loop-item : goal.invariant-loop-item
invariant-loop-item l = IsEarliest (Until (AtItem l.items (λ (k : ℕ) (i : Item). IsNoDomainItem i)) l.item-index)
    l.found
