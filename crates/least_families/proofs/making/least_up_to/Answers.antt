use Rattle.std.proofs.Common.{None, sym, subst}
use Rattle.zdd_nodes.specs.Nodes.{family}
use Rattle.least_families.specs.Least.{covers}
use Rattle.least_families.specs.Kept.{IsLeastOf}
use Rattle.least_families.proofs.Held.{keeps_none}
use Rattle.least_families.proofs.Steps.{itself_least}
use Rattle.least_families.proofs.making.least_up_to.Goals as goal

pub returns-in-None-clause-kept : goal.returns-in-None-clause-kept
returns-in-None-clause-kept c = keeps_none c.args.ops.now c.args.memo.now c.requires.held

pub returns-in-None-clause-least : goal.returns-in-None-clause-least
returns-in-None-clause-least c =
    subst (λ o. IsLeastOf o (covers (family c.args.ops.now c.args.f.n)) c.args.ops.now c.args.f.n) (sym c.in-None.is)
    (record {
      in_store = c.requires.operand.in_store;
      least = itself_least None (family c.args.ops.now c.args.f.n) c.requires.operand.apart (λ s i. tt);
    })
