use Rattle.bind_names.proofs.RulesWhole.{tree_earliest}
use Rattle.bind_names.proofs.written_rules.first_in.Goals as goal

pub returns : goal.returns
returns c = λ m units are.
    tree_earliest m units c.args.rule c.in_variables.result c.in_parameters.result c.earliest-values.result
    c.in_observers.result c.in_units.result c.earliest-others.result c.earliest.result
    (c.in_variables.ensures m units are) (c.in_parameters.ensures m units are) c.earliest-values.ensures
    (c.in_observers.ensures m units are) (c.in_units.ensures m units are) c.earliest-others.ensures c.earliest.ensures
