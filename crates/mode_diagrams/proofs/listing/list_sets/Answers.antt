use Rattle.std.proofs.Common.{sym, subst}
use Rattle.zdd_nodes.specs.Nodes.{family}
use Rattle.mode_diagrams.specs.Kept.{AreHeld}
use Rattle.mode_diagrams.specs.Sets.{HasSets, with_most, IsTrueFrom}
use Rattle.mode_diagrams.proofs.Holding.{held_none}
use Rattle.mode_diagrams.proofs.listing.list_sets.Goals as goal

pub family_from-requires-clause-held : goal.family_from-requires-clause-held
family_from-requires-clause-held c =
    subst (AreHeld c.args.trees.now c.args.diagrams.now c.new-ops.result) (sym c.new-held.ensures)
    (held_none c.args.trees.now c.args.diagrams.now c.new-ops.result)

pub returns-clause-sets : goal.returns-clause-sets
returns-clause-sets c =
    let trees = c.args.trees.now in
    let d = c.args.diagrams.now in
    let n = c.in_ok-root.root.n in
    subst (λ s. HasSets (IsTrueFrom trees 0 d c.args.f.n) (family s n)) (sym c.into_store.ensures.same)
    (subst (λ m. HasSets (IsTrueFrom trees 0 (with_most d m) c.args.f.n) (family c.family_from.new.ops n))
    c.most.ensures c.in_ok-root.ensures.sets)
