use Rattle.std.proofs.Common.{◌∙◌, ◌++◌, ◌-◌, ap, codes, decimal}
use Rattle.ar_base.specs.Texts.{line}
use Rattle.run_words.specs.Generator.{classes, component, first_link, flow, lines, link, observer, pair_works, pairs, up_to}
use Rattle.run_words.proofs.Pieces.{eight, line_of_three}
use Rattle.run_words.proofs.generator.make_text.Goals as goal

pub returns : goal.returns
returns c =
    let n = c.args.number in
    let first = c.in_ok-put.ensures ∙ ap (λ t. t ++ lines classes) c.new-text.ensures.items in
    let second = c.in_ok-put_components.ensures ∙ ap (λ t. t ++ up_to component n) first in
    let third = c.in_ok-put_flows.ensures ∙ ap (λ t. t ++ up_to flow c.pairs.result) second
    ∙ ap (λ k. (lines classes ++ up_to component n) ++ up_to flow k) c.pairs.ensures in
    let shown = c.in_ok-put-3.ensures
    ∙ ap (λ t. t ++ codes ";\n") (c.in_ok-put_number.ensures ∙ ap (λ t. t ++ decimal c.pairs-2.result) c.in_ok-put-2.ensures)
    ∙ line_of_three _ (codes "  observer Boolean lost = not f") (decimal c.pairs-2.result) (codes ";") in
    let fourth = shown ∙ ap (λ t. t ++ observer c.pairs-2.result) third
    ∙ ap (λ k. ((lines classes ++ up_to component n) ++ up_to flow (pairs n)) ++ observer k)
    c.pairs-2.ensures in
    let fifth = c.in_ok-put-4.ensures ∙ ap (λ t. t ++ line (codes "  assertion")) fourth in
    let linked = c.in_ok-put-6.ensures
    ∙ ap (λ t. t ++ codes ";\n") (c.in_ok-put_pair_works.ensures ∙ ap (λ t. t ++ pair_works n 1) c.in_ok-put-5.ensures)
    ∙ line_of_three _ (codes "    f1 := ") (pair_works n 1) (codes ";") in
    let sixth = linked ∙ ap (λ t. t ++ first_link n) fifth in
    let seventh = c.in_ok-put_links.ensures ∙ ap (λ t. t ++ up_to (link n) (pairs n - 1)) sixth in
    c.in_ok-put-7.ensures ∙ ap (λ t. t ++ line (codes "end")) seventh
    ∙ eight (lines classes) (up_to component n) (up_to flow (pairs n)) (observer (pairs n)) (line (codes "  assertion"))
    (first_link n) (up_to (link n) (pairs n - 1)) (line (codes "end"))
