-- The row of one number has one more bit.
use Rattle.std.proofs.Common.{◌≡◌, ℕ, ◌<◌, ◌↔◌, ◌⊎◌, List, length, get_or, sym, ap, ◌∙◌, subst, arith}
use Rattle.std.specs.Vec.{with_items}
use Rattle.lane_rows.specs.Rows.{IsSet, words_for}
use Rattle.flow_blocks.specs.Bits.{HasBit, AreRows}
use Rattle.flow_blocks.proofs.RowLemmas.{Row, row_got, rows_set, has_more, items_over}
use Rattle.flow_blocks.proofs.closing.mark.Goals as goal

inside : (count from : ℕ) (rows : List Row) → AreRows count rows → from < count → from < length rows
inside count from rows are lt = omega (arith, are.long)

pub set-requires : goal.set-requires
set-requires c =
    let row = row_got c.args.rows.now c.args.from c.index-rows-from.result
    (inside c.args.count c.args.from c.args.rows.now c.requires.rows c.requires.from) in
    let long : length c.deref_mut.result.now ≡ words_for c.args.count =
    ap length (c.deref_mut.ensures.value ∙ row) ∙ c.requires.rows.wide c.args.from c.requires.from in
    omega (arith, long, c.requires.to)

-- what the row has in the end
written : (c : goal.After-rows-1) → (with_items (get_or c.args.rows.now c.args.from c.index-rows-from.result)
    c.set.new.row).items ≡ c.set.new.row
written c = items_over (get_or c.args.rows.now c.args.from c.index-rows-from.result) c.set.new.row
    (c.set.auto.row ∙ c.deref_mut.ensures.len)

pub returns-clause-rows : goal.returns-clause-rows
returns-clause-rows c =
    let row = row_got c.args.rows.now c.args.from c.index-rows-from.result
    (inside c.args.count c.args.from c.args.rows.now c.requires.rows c.requires.from) in
    rows_set c.args.count c.args.rows.now c.args.from
    (with_items (get_or c.args.rows.now c.args.from c.index-rows-from.result) c.set.new.row) c.requires.rows
    c.requires.from
    (ap length (written c) ∙ c.set.auto.row ∙ ap length (c.deref_mut.ensures.value ∙ row)
    ∙ c.requires.rows.wide c.args.from c.requires.from)

pub returns-clause-bits : goal.returns-clause-bits
returns-clause-bits c =
    let lt = inside c.args.count c.args.from c.args.rows.now c.requires.rows c.requires.from in
    let row = c.deref_mut.ensures.value ∙ row_got c.args.rows.now c.args.from c.index-rows-from.result lt in
    has_more c.args.rows.now c.args.from
    (with_items (get_or c.args.rows.now c.args.from c.index-rows-from.result) c.set.new.row) (λ n. n ≡ c.args.to) lt
    (λ n. subst (λ (new : List ℕ). IsSet new n ↔ (HasBit c.args.rows.now c.args.from n ⊎ (n ≡ c.args.to)))
    (sym (written c))
    (subst (λ (old : List ℕ). IsSet c.set.new.row n ↔ (IsSet old n ⊎ (n ≡ c.args.to))) row (c.set.ensures n)))
