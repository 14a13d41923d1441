-- The row of one number has the bits of another's too.
use Rattle.std.proofs.Common.{◌≡◌, ℕ, ◌+◌, ◌<◌, ◌↔◌, ◌⊎◌, List, length, set, sym, ap, ◌∙◌, subst, arith, inr}
use Rattle.std.specs.Vec.{with_items}
use Rattle.std.proofs.lemmas.List.{length-set}
use Rattle.lane_rows.specs.Rows.{IsSet}
use Rattle.flow_blocks.specs.Bits.{row_of, HasBit, AreRows, room_of, room_left}
use Rattle.flow_blocks.proofs.RowLemmas.{Row, row_got, row_taken, row_set_other, rows_again, more_again, room_again, items_over}
use Rattle.flow_blocks.proofs.closing.join.Goals as goal

inside : (count from : ℕ) (rows : List Row) → AreRows count rows → from < count → from < length rows
inside count from rows are lt = omega (arith, are.long)

-- the row that grows is the old one
own : (c : goal.After-drop-rows) → c.deref_mut.result.now ≡ row_of c.args.rows.now c.args.from
own c = c.deref_mut.ensures.value ∙ ap (λ (v : Row). v.items) c.replace-row.ensures.value
    ∙ row_got c.args.rows.now c.args.from c.index-rows-from.result
    (inside c.args.count c.args.from c.args.rows.now c.requires.rows c.requires.from)

-- the other row is that of the other number
others : (c : goal.After-drop-rows) → c.deref.result.now ≡ row_of c.args.rows.now c.args.to
others c = c.deref.ensures.value
    ∙ row_got (set c.args.rows.now c.args.from c.replace-row.new.dest) c.args.to c.index-rows-to.result
    (omega (arith, length-set c.args.rows.now c.args.from c.replace-row.new.dest, c.requires.rows.long, c.requires.to))
    ∙ row_set_other c.args.rows.now c.args.from c.args.to c.replace-row.new.dest (λ same. c.if-from-to.false (sym same))

-- what the row has in the end
written : (c : goal.After-drop-rows)
    → (with_items c.replace-row.result c.add-changed.new.row).items ≡ c.add-changed.new.row
written c = items_over c.replace-row.result c.add-changed.new.row (c.add-changed.auto.row ∙ c.deref_mut.ensures.len)

pub add-changed-requires : goal.add-changed-requires
add-changed-requires c =
    let mine = c.deref_mut.ensures.value
    ∙ row_taken c.args.count c.args.rows.now c.args.from c.index-rows-from.result c.replace-row.result
    c.requires.rows c.requires.from c.replace-row.ensures.value in
    let other = c.deref.ensures.value
    ∙ row_got (set c.args.rows.now c.args.from c.replace-row.new.dest) c.args.to c.index-rows-to.result
    (omega (arith, length-set c.args.rows.now c.args.from c.replace-row.new.dest, c.requires.rows.long, c.requires.to))
    ∙ row_set_other c.args.rows.now c.args.from c.args.to c.replace-row.new.dest
    (λ same. c.if-from-to.false (sym same)) in
    ap length mine ∙ c.requires.rows.wide c.args.from c.requires.from
    ∙ sym (ap length other ∙ c.requires.rows.wide c.args.to c.requires.to)

pub returns-clause-rows : goal.returns-clause-rows
returns-clause-rows c =
    let lt = inside c.args.count c.args.from c.args.rows.now c.requires.rows c.requires.from in
    rows_again c.args.count c.args.rows.now c.args.from c.replace-row.new.dest
    (with_items c.replace-row.result c.add-changed.new.row) c.requires.rows c.requires.from
    (ap length (written c) ∙ c.add-changed.auto.row ∙ ap length (own c)
    ∙ c.requires.rows.wide c.args.from c.requires.from)

pub returns-clause-bits : goal.returns-clause-bits
returns-clause-bits c =
    let lt = inside c.args.count c.args.from c.args.rows.now c.requires.rows c.requires.from in
    more_again c.args.rows.now c.args.from c.replace-row.new.dest
    (with_items c.replace-row.result c.add-changed.new.row) (λ n. HasBit c.args.rows.now c.args.to n) lt
    (λ n. subst (λ (new : List ℕ). IsSet new n
    ↔ (HasBit c.args.rows.now c.args.from n ⊎ HasBit c.args.rows.now c.args.to n)) (sym (written c))
    (subst (λ (old : List ℕ). IsSet c.add-changed.new.row n ↔ (IsSet old n ⊎ HasBit c.args.rows.now c.args.to n))
    (own c)
    (subst (λ (other : List ℕ). IsSet c.add-changed.new.row n ↔ (IsSet c.deref_mut.result.now n ⊎ IsSet other n))
    (others c) (c.add-changed.ensures.bits n))))

pub returns-clause-still : goal.returns-clause-still
returns-clause-still c = λ no_change n is.
    let there = subst (λ (r : List ℕ). IsSet r n) (sym (others c)) is in
    subst (λ (r : List ℕ). IsSet r n) (c.add-changed.ensures.still no_change ∙ own c)
    ((c.add-changed.ensures.bits n).1 (inr there))

-- the room in the end
room : (c : goal.After-drop-rows) → room_left
    (set (set c.args.rows.now c.args.from c.replace-row.new.dest) c.args.from
    (with_items c.replace-row.result c.add-changed.new.row)) + room_of c.deref_mut.result.now
    ≡ room_left c.args.rows.now + room_of c.add-changed.new.row
room c =
    let lt = inside c.args.count c.args.from c.args.rows.now c.requires.rows c.requires.from in
    ap (λ (r : List ℕ). room_left (set (set c.args.rows.now c.args.from c.replace-row.new.dest) c.args.from
    (with_items c.replace-row.result c.add-changed.new.row)) + room_of r) (own c)
    ∙ room_again c.args.rows.now c.args.from c.replace-row.new.dest
    (with_items c.replace-row.result c.add-changed.new.row) lt
    ∙ ap (λ (r : List ℕ). room_left c.args.rows.now + room_of r) (written c)

pub returns-clause-less : goal.returns-clause-less
returns-clause-less c = λ yes. let less = c.add-changed.ensures.less yes in omega (arith, less, room c)

pub returns-clause-no_more : goal.returns-clause-no_more
returns-clause-no_more c = omega (arith, c.add-changed.ensures.no_more, room c)
