use Rattle.job_laws.proofs.Readings.{parses_one}
use Rattle.job_laws.proofs.Tabled.{tables_one}
use Rattle.job_laws.proofs.OneSource.{unfolding_one}
use Rattle.job_laws.proofs.answer_laws.one_stage_each.Goals as goal

pub returns-clause-one_reading_or_refusal : goal.returns-clause-one_reading_or_refusal
returns-clause-one_reading_or_refusal c = λ text x y h k. parses_one text (c.one_reading.ensures.one_tree text) x y h k

pub returns-clause-one_table_or_refusal : goal.returns-clause-one_table_or_refusal
returns-clause-one_table_or_refusal c = λ text main x y a b h i p q.
    tables_one c.texts_are_seen_alike.ensures c.texts_break_the_same_rules.ensures text main x y a b h i p q

pub returns-clause-one_unfolding_or_refusal : goal.returns-clause-one_unfolding_or_refusal
returns-clause-one_unfolding_or_refusal c = λ text main x y a b h i p q.
    unfolding_one c.texts_are_seen_alike.ensures c.texts_break_the_same_rules.ensures text main
    c.one_tree_of_a_text.ensures x y a b h i p q
