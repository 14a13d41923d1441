use Rattle.std.proofs.Common.{◌∙◌, ◌++◌, ◌+◌, ap, codes, decimal}
use Rattle.run_words.specs.Generator.{flow}
use Rattle.run_words.proofs.Pieces.{line_of_three, one_more}
use Rattle.run_words.proofs.generator.put_flows.Goals as goal

pub loop-j-preserved : goal.loop-j-preserved
loop-j-preserved c =
    let j = c.loop-j.j in
    one_more flow j _ _ _ c.loop-j.invariant (c.in_ok-put-2.ensures
    ∙ ap (λ t. t ++ codes " (reset = false);\n")
    (c.in_ok-put_number.ensures ∙ ap (λ t. t ++ decimal (j + 1)) c.in_ok-put.ensures)
    ∙ line_of_three c.loop-j.text.items (codes "  Boolean f") (decimal (j + 1)) (codes " (reset = false);"))
