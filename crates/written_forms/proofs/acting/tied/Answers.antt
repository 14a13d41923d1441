use Rattle.std.proofs.Common.{sym, ◌∙◌}
use Rattle.ar_base.proofs.Results.{ok_map}
use Rattle.written_forms.specs.Acting.{tie, no_left, no_right}
use Rattle.written_forms.proofs.ActedForms.{opened_skip}
use Rattle.written_forms.proofs.acting.tied.Goals as goal

pub returns-in-Constant : goal.returns-in-Constant
returns-in-Constant g c = no_left c.in-Constant.field-0 (sym c.leaf.ensures ∙ c.in-Constant.is) opened_skip

pub returns-in-Constant-leaf : goal.returns-in-Constant-leaf
returns-in-Constant-leaf g c = no_right c.in-Constant-leaf.field-0
    (sym c.leaf-in-Variable.ensures ∙ c.in-Constant-leaf.is) opened_skip

pub returns-in-Variable-leaf : goal.returns-in-Variable-leaf
returns-in-Variable-leaf g c =
    ok_map c.both_ways.result (λ a h. tie c.in-Variable.first c.in-Variable-leaf.second
    (sym c.leaf.ensures ∙ c.in-Variable.is) (sym c.leaf-in-Variable.ensures ∙ c.in-Variable-leaf.is) h)
    c.both_ways.ensures
