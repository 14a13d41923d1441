use Rattle.std.proofs.Common.{◌≡◌, false, length, replicate, ap, ◌∙◌, rules, refl}
use Rattle.std.proofs.lemmas.List.{length-replicate}
use Rattle.class_table.proofs.Searches.{none_open}
use Rattle.class_table.proofs.Ordered.{sorting_start}
use Rattle.class_table.proofs.order.Sorting.new.Goals as goal

pub returns : goal.returns
returns c = λ pending all low.
    let placed : c.in_ok-vec.field-0.items ≡ replicate c.len-count.result false =
    c.in_ok-vec.ensures.items_if_clones_equal (search rules) in
    let number : c.len-count.result ≡ length c.args.rows.items = c.len-count.ensures ∙ c.args.rows.ok.0 in
    sorting_start _ _ pending c.requires refl (c.in_ok-empty_rows.ensures.long ∙ number)
    (ap length placed ∙ length-replicate _ false ∙ number) c.in_ok-empty_rows.ensures.none
    (none_open _ _ _ placed c.new.ensures.items) c.new.ensures.items all low
