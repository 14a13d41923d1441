use Rattle.std.proofs.Common.{◌≡◌, ◌+◌, [], ◌∷◌, length, ap, ◌∙◌, arith, length-append}
use Rattle.class_table.proofs.Ordered.{no_rows, empty_more}
use Rattle.class_table.proofs.order.empty_rows.Goals as goal

pub loop-alloc-init : goal.loop-alloc-init
loop-alloc-init c = record {
  within = (let e = ap length c.in_ok-rows.ensures.items in omega (arith, e));
  none = no_rows _ c.in_ok-rows.ensures.items;
}

pub loop-alloc-preserved : goal.loop-alloc-preserved
loop-alloc-preserved c =
    let grown = c.in_ok-push.ensures.items in
    let long : length c.push.new.self.items ≡ length c.loop-alloc.rows.items + 1 =
    ap length grown ∙ length-append c.loop-alloc.rows.items (c.new.result ∷ []) in
    record {
      within = omega (arith, long, c.loop-alloc-test.true, c.len.ensures);
      none = empty_more _ _ _ grown c.new.ensures.items c.loop-alloc.invariant.none;
    }
