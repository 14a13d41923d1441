use Rattle.std.proofs.Common.{◌≡◌, ◌∷◌, Some, refl, sym, ◌∙◌, ap}
use Rattle.std.proofs.lemmas.List.{nil_from_length}
use Rattle.hierarchy.specs.Units.{numbers}
use Rattle.unit_walks.specs.Tables.{known_at}
use Rattle.unit_walks.specs.Walking.{weight}
use Rattle.unit_walks.specs.declared.tables.Known.TheVariants as known
use Rattle.unit_walks.proofs.Stepping.{if_ok, answer_weighs, unit_weighs, arrived_alias, step_unit, step_nothing, step_loops, step_following}
use Rattle.unit_walks.proofs.walking.take_step.Goals as goal

pub returns-in-Some-ToUnit-clause-step : goal.returns-in-Some-ToUnit-clause-step
returns-in-Some-ToUnit-clause-step c = λ m below f w.
    let more : numbers c.args.top.now.rest.now ≡ c.in-Some.name.now.n ∷ numbers c.in-Some.rest.now =
    ap numbers c.in-Some.ensures.cases.0 in
    step_unit m below c.args.top.now c.args.table.now c.in-Some.name.now.n (numbers c.in-Some.rest.now) w more _
    (sym c.in-Some-ToUnit.ensures ∙ ap Some
    (c.in-Some-ToUnit.field-0-is ∙ ap known.ToUnit (sym c.in-Some-ToUnit.at-is))) refl refl refl refl refl

pub returns-in-Some-Nothing-clause-step : goal.returns-in-Some-Nothing-clause-step
returns-in-Some-Nothing-clause-step c = λ m below f w.
    let more : numbers c.args.top.now.rest.now ≡ c.in-Some.name.now.n ∷ numbers c.in-Some.rest.now =
    ap numbers c.in-Some.ensures.cases.0 in
    let e : known_at c.args.table.now c.args.top.now.at c.in-Some.name.now.n ≡ Some known.Nothing =
    sym c.in-Some-Nothing.ensures ∙ ap Some c.in-Some-Nothing.field-0-is in
    if_ok c.answer-in-Some-Nothing.result (λ r h. step_nothing m below c.args.top.now c.args.table.now c.in-Some.name.now.n
    (numbers c.in-Some.rest.now) w more c.answer-in-Some-Nothing.new.table r e h.0 h.1) c.answer-in-Some-Nothing.ensures

pub returns-in-Some-Loops-clause-step : goal.returns-in-Some-Loops-clause-step
returns-in-Some-Loops-clause-step c = λ m below f w.
    let more : numbers c.args.top.now.rest.now ≡ c.in-Some.name.now.n ∷ numbers c.in-Some.rest.now =
    ap numbers c.in-Some.ensures.cases.0 in
    let e : known_at c.args.table.now c.args.top.now.at c.in-Some.name.now.n ≡ Some known.Loops =
    sym c.in-Some-Loops.ensures ∙ ap Some c.in-Some-Loops.field-0-is in
    if_ok c.answer-in-Some-Loops.result
    (λ r h. step_loops m below c.args.top.now c.args.table.now c.in-Some.name.now.n (numbers c.in-Some.rest.now) w
    more c.answer-in-Some-Loops.new.table r e h.0 h.1) c.answer-in-Some-Loops.ensures

pub returns-in-Some-Following-clause-step : goal.returns-in-Some-Following-clause-step
returns-in-Some-Following-clause-step c = λ m below f w.
    let more : numbers c.args.top.now.rest.now ≡ c.in-Some.name.now.n ∷ numbers c.in-Some.rest.now =
    ap numbers c.in-Some.ensures.cases.0 in
    let e : known_at c.args.table.now c.args.top.now.at c.in-Some.name.now.n ≡ Some known.Following =
    sym c.in-Some-Following.ensures ∙ ap Some c.in-Some-Following.field-0-is in
    if_ok c.answer-in-Some-Following.result
    (λ r h. step_following m below c.args.top.now c.args.table.now c.in-Some.name.now.n (numbers c.in-Some.rest.now)
    w more c.answer-in-Some-Following.new.table r e h.0 h.1) c.answer-in-Some-Following.ensures

pub returns-then-top-clause-step : goal.returns-then-top-clause-step
returns-then-top-clause-step c = λ m below f w. if_ok c.copy.result (λ r h. h m below w)
    (c.copy.ensures.step (nil_from_length c.args.top.now.rest.now c.in_default.ensures.cases) c.if-top.true)

pub returns-then-top-clause-weighs : goal.returns-then-top-clause-weighs
returns-then-top-clause-weighs c = c.copy.ensures.weighs

pub returns-in_default-clause-step : goal.returns-in_default-clause-step
returns-in_default-clause-step c = λ m below f w. if_ok c.answer.result
    (λ r h. arrived_alias c.args.top.now c.args.table.now c.answer.new.table r c.if-top.false
    (nil_from_length c.args.top.now.rest.now c.in_default.ensures.cases) h.0 h.1 m below w) c.answer.ensures

pub returns-in_default-clause-weighs : goal.returns-in_default-clause-weighs
returns-in_default-clause-weighs c = if_ok c.answer.result (λ r h. answer_weighs c.args.top.now c.args.table.now
    c.answer.new.table c.args.top.now.unit c.args.top.now.name.n (known.ToUnit c.args.top.now.at) r h.0 h.1)
    c.answer.ensures

pub returns-in-None-clause-step : goal.returns-in-None-clause-step
returns-in-None-clause-step c = λ m below f w. if_ok c.look.result
    (λ r h. h m below (numbers c.in-Some.rest.now) f w (ap numbers c.in-Some.ensures.cases.0)) c.look.ensures.step

pub returns-in-None-clause-weighs : goal.returns-in-None-clause-weighs
returns-in-None-clause-weighs c = c.look.ensures.weighs

pub returns-in-Some-ToUnit-clause-weighs : goal.returns-in-Some-ToUnit-clause-weighs
returns-in-Some-ToUnit-clause-weighs c = unit_weighs (weight c.args.table.now) c.args.top.now.rest.now
    c.in-Some.rest.now c.in-Some.name.now c.in-Some.ensures.cases.0

pub returns-in-Some-Nothing-clause-weighs : goal.returns-in-Some-Nothing-clause-weighs
returns-in-Some-Nothing-clause-weighs c = if_ok c.answer-in-Some-Nothing.result (λ r h. answer_weighs c.args.top.now c.args.table.now
    c.answer-in-Some-Nothing.new.table c.args.top.now.unit c.args.top.now.name.n known.Nothing r h.0 h.1) c.answer-in-Some-Nothing.ensures

pub returns-in-Some-Loops-clause-weighs : goal.returns-in-Some-Loops-clause-weighs
returns-in-Some-Loops-clause-weighs c = if_ok c.answer-in-Some-Loops.result
    (λ r h. answer_weighs c.args.top.now c.args.table.now c.answer-in-Some-Loops.new.table c.args.top.now.unit
    c.args.top.now.name.n known.Loops r h.0 h.1) c.answer-in-Some-Loops.ensures

pub returns-in-Some-Following-clause-weighs : goal.returns-in-Some-Following-clause-weighs
returns-in-Some-Following-clause-weighs c = if_ok c.answer-in-Some-Following.result
    (λ r h. answer_weighs c.args.top.now c.args.table.now c.answer-in-Some-Following.new.table c.args.top.now.unit
    c.args.top.now.name.n known.Loops r h.0 h.1) c.answer-in-Some-Following.ensures
