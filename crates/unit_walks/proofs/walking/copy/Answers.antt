use Rattle.std.proofs.Common.{Some, refl, sym, ◌∙◌}
use Rattle.unit_walks.proofs.Stepping.{if_ok, arrived_above, arrived_clone}
use Rattle.class_table.proofs.MemberNames.{none_of}
use Rattle.unit_walks.proofs.TableSteps.{unit_there}
use Rattle.unit_walks.proofs.walking.copy.Goals as goal

pub returns-in_default-clause-step : goal.returns-in_default-clause-step
returns-in_default-clause-step c = λ over cloned. if_ok c.answer.result
    (λ r h m below w. absurd (unit_there m _ c.args.table.now w.table c.args.top.now.at w.here w.frame.at
    (sym (none_of c.unit.result c.in_default.not-Some) ∙ c.unit.ensures))) c.answer.ensures

pub returns-then-has_body-clause-step : goal.returns-then-has_body-clause-step
returns-then-has_body-clause-step c =
    λ over cloned. if_ok c.answer-then-has_body.result
    (λ r h. arrived_above c.args.top.now c.args.table.now c.answer-then-has_body.new.table r c.in-Some.target cloned over h.0 h.1
    c.in-Some.ensures (λ s frames u t p. sym c.if-has_body.true ∙ c.has_body.ensures s frames u t p))
    c.answer-then-has_body.ensures

pub returns-clause-step : goal.returns-clause-step
returns-clause-step c = λ over cloned. if_ok c.answer-2.result
    (λ r h. arrived_clone c.args.top.now c.args.table.now c.meet.new.self c.answer-2.new.table r c.in-Some.target
    (record {
      owner = Some c.args.top.now.unit;
      name = c.args.top.now.name;
      body = c.in-Some.target.body;
      set_at = c.in-Some.target.set_at;
    }) c.in_ok-unit.unit cloned over h.0 refl c.in_ok-unit.ensures h.1
    c.in-Some.ensures (λ s frames u t p. sym c.if-has_body.false ∙ c.has_body.ensures s frames u t p))
    c.answer-2.ensures
