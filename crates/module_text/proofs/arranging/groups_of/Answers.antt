use Rattle.std.proofs.Common.{◌≡◌, List, map, take_all, refl, subst}
use Rattle.ar_base.specs.Lists.{Along}
use Rattle.gate_modules.specs.declared.ranges.EventSet.{EventSet}
use Rattle.gate_modules.specs.declared.ranges.Module.{Module}
use Rattle.module_text.specs.Arranged.{IsGroupOf, part_pieces, pieces_of}
use Rattle.module_text.proofs.Pieces.{groups_more, no_groups}
use Rattle.module_text.proofs.arranging.groups_of.Goals as goal

pub loop-module-init : goal.loop-module-init
loop-module-init c = λ edges are. no_groups edges c.new-groups.result.items c.new-groups.ensures.items

pub loop-module-preserved : goal.loop-module-preserved
loop-module-preserved c = λ edges are.
    groups_more edges c.args.modules.now c.loop-module.module-index
    c.module-item.result c.loop-module.groups.items c.push.new.self.items _ c.loop-module-test.true c.module-item.is
    c.in_ok-push.ensures.items
    (record {
      unit = refl;
      lines = subst
          (λ (z : List EventSet). map pieces_of c.in_ok-lines.lines.items ≡ map (part_pieces edges) z)
          c.deref.ensures.value (c.in_ok-lines.ensures edges are);
    })
    (c.loop-module.invariant edges are)

pub returns : goal.returns
returns c = λ edges are.
    subst (λ (z : List Module). Along (IsGroupOf edges) z c.loop-module.groups.items)
    (take_all c.loop-module.module-index c.args.modules.now c.loop-module-test.false)
    (c.loop-module.invariant edges are)
