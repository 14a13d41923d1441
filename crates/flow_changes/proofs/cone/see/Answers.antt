use Rattle.std.proofs.Common.{◌≡◌, false, List, ℕ, set, true, ap, Some, sym, subst, ◌∙◌}
use Rattle.ar_base.specs.Lists.{Stands}
use Rattle.ar_base.proofs.Standing.{stands_item}
use Rattle.flow_propagate.specs.Marks.{AreMarked}
use Rattle.flow_changes.specs.Gathering.{Sees}
use Rattle.flow_changes.proofs.Seeing.{marking_more, sees_one}
use Rattle.flow_changes.proofs.cone.see.Goals as goal

pub returns-clause-marking : goal.returns-clause-marking
returns-clause-marking c =
    let marks = c.args.marks.now.items in
    let s : Stands marks c.args.n false =
    stands_item marks c.args.n c.index.result.now c.requires.within c.index.ensures
    ∙ ap Some c.if-index.false in
    subst (λ (z : List ℕ). AreMarked (set marks c.args.n true) z) (sym c.in_ok-push.ensures.items)
    (marking_more c.args.n marks c.args.found.now.items c.requires.marking s)

pub returns-clause-sees : goal.returns-clause-sees
returns-clause-sees c =
    let marks = c.args.marks.now.items in
    let found = c.args.found.now.items in
    let s : Stands marks c.args.n false =
    stands_item marks c.args.n c.index.result.now c.requires.within c.index.ensures
    ∙ ap Some c.if-index.false in
    subst (λ (z : List ℕ). Sees (λ m. m ≡ c.args.n) marks found (set marks c.args.n true) z)
    (sym c.in_ok-push.ensures.items) (sees_one c.args.n marks found c.requires.marking s)
