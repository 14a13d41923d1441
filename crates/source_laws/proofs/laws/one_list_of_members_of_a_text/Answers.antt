use Rattle.source_laws.proofs.laws.one_list_of_members_of_a_text.Goals as goal

pub returns : goal.returns
returns c =
    λ text n x y d e h k p q b xs ys m o. c.members_agree.ensures d e
    (c.one_table_of_a_text.ensures text n x y d e h k p q) b xs ys m o
