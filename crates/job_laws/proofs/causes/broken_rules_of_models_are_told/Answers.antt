use Rattle.job_stages.specs.declared.refusals.Refusal.TheVariants.{Rule, Size}
use Rattle.job_laws.proofs.CausesOfTexts.{of_rule, of_limit, of_unit_rules, of_name_rules, of_way_rules}
use Rattle.job_laws.proofs.causes.broken_rules_of_models_are_told.Goals as goal

pub returns-clause-refused_rule : goal.returns-clause-refused_rule
returns-clause-refused_rule c =
    λ k s asked texts text m r p gave known is l i read h.
    c.refusals_are_told.ensures k s asked (Rule r p) gave known is
    (of_rule k.files asked texts text l i m read r p h)

pub returns-clause-refused_limit : goal.returns-clause-refused_limit
returns-clause-refused_limit c =
    λ k s asked texts text m n gave known is l i read h.
    c.refusals_are_told.ensures k s asked (Size n) gave known is
    (of_limit k.files asked texts text l i m read n h)

pub returns-clause-broken_rules_of_units_are_told : goal.returns-clause-broken_rules_of_units_are_told
returns-clause-broken_rules_of_units_are_told c =
    λ k s asked texts text m root t r p gave known is l i read table unfolds fits h.
    c.refusals_are_told.ensures k s asked (Rule r p) gave known is
    (of_unit_rules k.files asked texts text l i m read root table t unfolds fits r p h)

pub returns-clause-broken_rules_of_names_are_told : goal.returns-clause-broken_rules_of_names_are_told
returns-clause-broken_rules_of_names_are_told c =
    λ k s asked texts text m root t r p gave known is l i read table tree h.
    c.refusals_are_told.ensures k s asked (Rule r p) gave known is
    (of_name_rules k.files asked texts text l i m read root table t tree r p h)

pub returns-clause-broken_rules_of_ways_are_told : goal.returns-clause-broken_rules_of_ways_are_told
returns-clause-broken_rules_of_ways_are_told c =
    λ k s asked texts text m root t d p gave known is l i read table tree binds h.
    c.refusals_are_told.ensures k s asked (Rule 14 p) gave known is
    (of_way_rules k.files asked texts text l i m read root table t tree d binds p h)
