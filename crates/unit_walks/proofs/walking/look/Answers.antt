use Rattle.std.proofs.Common.{◌≡◌, Some, refl, sym, ◌∙◌, ap}
use Rattle.unit_walks.specs.Forms.{form_at}
use Rattle.unit_walks.specs.declared.forms.UnitForm.TheVariants as form
use Rattle.unit_walks.specs.declared.tables.Known.TheVariants as known
use Rattle.unit_walks.proofs.Stepping.{if_ok, answer_weighs, look_absent, look_inner, look_clone, look_alias}
use Rattle.class_table.proofs.MemberNames.{none_of}
use Rattle.unit_walks.proofs.TableSteps.{unit_there}
use Rattle.unit_walks.proofs.walking.look.Goals as goal

pub returns-in_default-clause-step : goal.returns-in_default-clause-step
returns-in_default-clause-step c = if_ok c.answer.result
    (λ r h m below more forms w rest. absurd (unit_there m _ c.args.table.now w.table c.args.top.now.at w.here w.frame.at
    (sym (none_of c.unit.result c.in_default.not-Some) ∙ c.unit.ensures))) c.answer.ensures

pub returns-in-None-clause-step : goal.returns-in-None-clause-step
returns-in-None-clause-step c = if_ok c.answer-in-None.result
    (λ r h. look_absent c.args.forms.now c.args.top.now c.args.table.now c.in-Some.here c.args.name.n c.in-Some.ensures
    c.answer-in-None.new.table r c.in-None.ensures h.0 h.1) c.answer-in-None.ensures

pub returns-in_ok-enter-in-Some-Inner-clause-step : goal.returns-in_ok-enter-in-Some-Inner-clause-step
returns-in_ok-enter-in-Some-Inner-clause-step c =
    let e : Some (form.Inner c.in-Some-Inner.body c.in-Some-Inner.set_at)
    ≡ form_at c.args.forms.now c.in-Some.here.body.n c.args.name.n =
    ap Some (sym c.in-Some-Inner.field-0-is) ∙ c.in-Some-Inner.ensures in
    look_inner c.args.forms.now c.args.top.now c.args.table.now c.in-Some.here c.args.name.n c.in-Some.ensures
    c.enter.new.table
    (record {
      owner = Some c.args.top.now.at;
      name = c.args.name;
      body = c.in-Some-Inner.body;
      set_at = c.in-Some-Inner.set_at;
    }) c.in_ok-enter-in-Some-Inner.field-0 c.args.name c.in-Some-Inner.body
    c.in-Some-Inner.set_at
    refl e refl c.in_ok-enter-in-Some-Inner.ensures

pub returns-in-Some-Clone-clause-step : goal.returns-in-Some-Clone-clause-step
returns-in-Some-Clone-clause-step c =
    let e : Some (form.Clone c.in-Some-Clone.path) ≡ form_at c.args.forms.now c.in-Some.here.body.n c.args.name.n =
    ap Some (sym c.in-Some-Clone.field-0-is) ∙ c.in-Some-Clone.ensures in
    if_ok c.follow.result (λ r h. look_clone c.args.forms.now c.args.top.now c.args.table.now c.in-Some.here
    c.args.name.n c.in-Some.ensures c.follow.new.table r c.in-Some-Clone.path e h) c.follow.ensures.step

pub returns-in-Some-Alias-clause-step : goal.returns-in-Some-Alias-clause-step
returns-in-Some-Alias-clause-step c =
    let e : Some (form.Alias c.in-Some-Alias.path) ≡ form_at c.args.forms.now c.in-Some.here.body.n c.args.name.n =
    ap Some (sym c.in-Some-Alias.field-0-is) ∙ c.in-Some-Alias.ensures in
    if_ok c.follow-in-Some-Alias.result
    (λ r h. look_alias c.args.forms.now c.args.top.now c.args.table.now c.in-Some.here c.args.name.n
    c.in-Some.ensures c.follow-in-Some-Alias.new.table r c.in-Some-Alias.path e h)
    c.follow-in-Some-Alias.ensures.step

pub returns-in_default-clause-weighs : goal.returns-in_default-clause-weighs
returns-in_default-clause-weighs c = if_ok c.answer.result (λ r h. answer_weighs c.args.top.now c.args.table.now
    c.answer.new.table c.args.top.now.unit c.args.top.now.name.n known.Nothing r h.0 h.1) c.answer.ensures

pub returns-in-None-clause-weighs : goal.returns-in-None-clause-weighs
returns-in-None-clause-weighs c = if_ok c.answer-in-None.result
    (λ r h. answer_weighs c.args.top.now c.args.table.now c.answer-in-None.new.table c.args.top.now.unit
    c.args.top.now.name.n known.Nothing r h.0 h.1) c.answer-in-None.ensures

pub returns-in-Some-Clone-clause-weighs : goal.returns-in-Some-Clone-clause-weighs
returns-in-Some-Clone-clause-weighs c = c.follow.ensures.weighs

pub returns-in-Some-Alias-clause-weighs : goal.returns-in-Some-Alias-clause-weighs
returns-in-Some-Alias-clause-weighs c = c.follow-in-Some-Alias.ensures.weighs
