use Rattle.source_laws.proofs.laws.one_table_of_a_text.Goals as goal

pub returns : goal.returns
returns c = λ text n x y d e h k p q. c.tables_agree.ensures x y d e (c.one_reading.ensures.one_tree text n x y h k) p q
