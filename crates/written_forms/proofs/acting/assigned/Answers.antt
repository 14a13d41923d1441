use Rattle.std.proofs.Common.{sym, ◌∙◌}
use Rattle.written_forms.specs.Acting.{assign, no_target}
use Rattle.written_forms.proofs.ActedForms.{opened_skip, opened_set}
use Rattle.written_forms.proofs.acting.assigned.Goals as goal

pub returns-in-Constant : goal.returns-in-Constant
returns-in-Constant g c = no_target c.in-Constant.field-0 (sym c.leaf.ensures ∙ c.in-Constant.is) opened_skip

pub returns-in_ok-bound-in-Variable : goal.returns-in_ok-bound-in-Variable
returns-in_ok-bound-in-Variable g c =
    assign c.in-Variable.target c.in_ok-bound-in-Variable.bound (sym c.leaf.ensures ∙ c.in-Variable.is)
    c.in_ok-bound-in-Variable.ensures
    (opened_set c.in-Variable.target c.in_ok-bound-in-Variable.bound c.args.path.now.at)
