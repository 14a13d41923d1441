use Rattle.std.proofs.Common.{◌∙◌, Bool, false, List, Contains, get_or, map, sym, subst}
use Rattle.ar_base.specs.Numbers.{VarId}
use Rattle.ar_base.proofs.Standing.{stands_get}
use Rattle.domains.specs.declared.Value.{Value}
use Rattle.domains.specs.declared.Value.TheVariants.{Truth}
use Rattle.typed_expr.specs.declared.expr.Expr.{Expr}
use Rattle.ar_meaning.specs.Facts.{PassesConditions}
use Rattle.ar_meaning.specs.Found.{IsAnswer}
use Rattle.ar_meaning.proofs.Found.{holds, fails}
use Rattle.gts_core.specs.View.{condition_of}
use Rattle.flow_reasons.specs.Marks.{Known}
use Rattle.flow_reasons.proofs.Marking.{open_from, not_open}
use Rattle.flow_reasons.proofs.Knowing.{tells, brings_answer}
use Rattle.flow_reasons.proofs.known.brings.Goals as goal

pub returns-then-is_known : goal.returns-then-is_known
returns-then-is_known c = λ b.
    not_open c.args.marks.now c.args.assign.now.target.n (sym c.is_known.ensures ∙ c.if-is_known.true)
    b.is_open

pub returns-then-not-reaches : goal.returns-then-not-reaches
returns-then-not-reaches c = λ b.
    fails _ _ c.if-not-reaches.true c.in_ok-reaches.ensures
    (subst (λ (z : List (Expr VarId × Bool)). PassesConditions (Known c.args.values.now c.args.marks.now)
    (map condition_of z))
    (sym c.deref.ensures.value) b.passes)

pub returns : goal.returns
returns c =
    let values = c.args.values.now in
    let marks = c.args.marks.now in
    let a = c.args.assign.now in
    let v : Value = get_or values a.target.n (Truth false) in
    brings_answer values marks a c.in_ok-set.set v c.has-yields.result
    (open_from marks a.target.n c.requires.marks (sym c.is_known.ensures ∙ c.if-is_known.false))
    (stands_get values a.target.n (Truth false) c.requires.values)
    (subst (λ (z : List (Expr VarId × Bool)). PassesConditions (Known values marks) (map condition_of z))
    c.deref.ensures.value
    (holds _ _ c.if-not-reaches.false c.in_ok-reaches.ensures))
    (tells values marks a.value c.in_ok-set.set c.in_ok-set.ensures.yields)
    (subst (λ (z : List Value). IsAnswer c.has-yields.result (Contains z v)) c.values.ensures.values
    c.has-yields.ensures)
