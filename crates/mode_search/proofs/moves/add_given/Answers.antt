use Rattle.std.proofs.Common.{ap, ◌∙◌, ◌++◌, List, Bool, map, subst}
use Rattle.ar_base.proofs.Results.{ok_as}
use Rattle.ar_base.specs.Numbers.{VarId}
use Rattle.ar_meaning.proofs.Found.{holds}
use Rattle.ar_meaning.specs.Facts.{PassesConditions}
use Rattle.gts_core.specs.View.{condition_of}
use Rattle.mode_search.proofs.FactsAt.{gives_set, tells}
use Rattle.mode_search.proofs.moves.add_given.Goals as goal
use Rattle.mode_search.specs.Moves.{HasAt}
use Rattle.typed_expr.specs.declared.expr.Expr.{Expr}

pub returns : goal.returns
returns c =
    let x = c.args.at.now.variable.n in
    let values = c.args.at.now.values.now in
    let passes = subst (λ (cs : List (Expr VarId × Bool)). PassesConditions (HasAt x values) (map condition_of cs))
    c.deref.ensures.value (holds _ _ c.if-not-reaches.false c.in_ok-reaches.ensures) in
    let yields = tells x values c.args.assign.now.value c.in_ok-set.set c.in_ok-set.ensures.yields in
    ok_as _ _ c.add_all.result (λ h. gives_set x values c.args.assign.now c.in_ok-set.set
    c.args.values.now.items c.add_all.new.values.items c.if-assign-at.false (passes, yields)
    (h ∙ ap (λ z. c.args.values.now.items ++ z) c.values.ensures.values)) c.add_all.ensures
