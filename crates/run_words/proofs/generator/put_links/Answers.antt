use Rattle.std.proofs.Common.{◌∙◌, ◌++◌, ◌+◌, ap, codes, decimal}
use Rattle.run_words.specs.Generator.{link, pair_works}
use Rattle.run_words.proofs.Pieces.{line_of_seven, one_more}
use Rattle.run_words.proofs.generator.put_links.Goals as goal

pub loop-j-preserved : goal.loop-j-preserved
loop-j-preserved c =
    let n = c.args.number in
    let j = c.loop-j.j + 1 in
    let second = c.in_ok-put_number.ensures ∙ ap (λ t. t ++ decimal (j + 1)) c.in_ok-put.ensures in
    let third = c.in_ok-put-2.ensures ∙ ap (λ t. t ++ codes " := f") second in
    let fourth = c.in_ok-put_number-2.ensures ∙ ap (λ t. t ++ decimal j) third in
    let fifth = c.in_ok-put-3.ensures ∙ ap (λ t. t ++ codes " and (") fourth in
    let sixth = c.in_ok-put_pair_works.ensures ∙ ap (λ t. t ++ pair_works n (j + 1)) fifth in
    one_more (link n) c.loop-j.j _ _ _ c.loop-j.invariant (c.in_ok-put-4.ensures ∙ ap (λ t. t ++ codes ");\n") sixth
    ∙ line_of_seven c.loop-j.text.items (codes "    f") (decimal (j + 1)) (codes " := f") (decimal j) (codes " and (")
    (pair_works n (j + 1)) (codes ");"))
