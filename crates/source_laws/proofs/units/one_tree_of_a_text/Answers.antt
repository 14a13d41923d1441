use Rattle.source_laws.proofs.units.one_tree_of_a_text.Goals as goal

pub returns : goal.returns
returns c = λ text k x y main m n h i p q kept a b u v.
    c.units_agree.ensures.one_tree_or_refusal m n (c.one_root_of_a_text.ensures text k x y main m n h i p q kept) a b u v
