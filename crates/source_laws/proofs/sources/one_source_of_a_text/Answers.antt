use Rattle.source_laws.proofs.sources.one_source_of_a_text.Goals as goal

pub returns : goal.returns
returns c = λ text k x y main m n h i p q kept a b u v.
    c.one_source_or_refusal.ensures m n (c.one_root_of_a_text.ensures text k x y main m n h i p q kept)
    (record { model = y; main = main; rooted = q; kept = kept }) a b u v
