use Rattle.source_laws.proofs.OneText.{text_one}
use Rattle.source_laws.proofs.bindings.one_binding_of_a_text.Goals as goal

pub returns : goal.returns
returns c = λ text k x y main m n h i p q kept a b u v.
    text_one c.units_agree.ensures.one_tree_or_refusal c.agreement_opens.ensures.form c.agreement_opens.ensures.step
    c.agreement_opens.ensures.kind m n (c.one_root_of_a_text.ensures text k x y main m n h i p q kept)
    (record { model = y; main = main; rooted = q; kept = kept }) a b u v
