use Rattle.std.proofs.Common.{ℕ, List, sym, subst, ◌∙◌, arith}
use Rattle.ar_base.specs.Lists.{IsOneOf}
use Rattle.class_table.proofs.order.put_in_order.Goals as goal

pub settle_all-requires : goal.settle_all-requires
settle_all-requires c = (
  0,
  record {
    rows = c.args.rows.items;
    is = c.in_ok-sorting.ensures c.deref.result.now
        (λ a l. subst (λ (xs : List ℕ). IsOneOf xs a) (sym c.deref.ensures.value)
        (c.in_ok-all.ensures.all a (let e = c.len.ensures ∙ c.args.rows.ok.0 in omega (arith, l, e))))
        (λ a o. let m = c.in_ok-all.ensures.below a (subst (λ (xs : List ℕ). IsOneOf xs a) c.deref.ensures.value o) in let e = c.len.ensures ∙ c.args.rows.ok.0 in omega (arith, m, e));
  },
)

pub release_all-requires : goal.release_all-requires
release_all-requires c = record {
  rows = c.args.rows.items;
  is = c.in_ok-settle_all.ensures c.args.rows.items 0 (c.in_ok-sorting.ensures c.deref.result.now
      (λ a l. subst (λ (xs : List ℕ). IsOneOf xs a) (sym c.deref.ensures.value)
      (c.in_ok-all.ensures.all a (let e = c.len.ensures ∙ c.args.rows.ok.0 in omega (arith, l, e))))
      (λ a o. let m = c.in_ok-all.ensures.below a (subst (λ (xs : List ℕ). IsOneOf xs a) c.deref.ensures.value o) in let e = c.len.ensures ∙ c.args.rows.ok.0 in omega (arith, m, e)));
}

pub returns : goal.returns
returns c = c.in_ok-release_all.ensures c.args.rows.items
    (c.in_ok-settle_all.ensures c.args.rows.items 0 (c.in_ok-sorting.ensures c.deref.result.now
    (λ a l. subst (λ (xs : List ℕ). IsOneOf xs a) (sym c.deref.ensures.value)
    (c.in_ok-all.ensures.all a (let e = c.len.ensures ∙ c.args.rows.ok.0 in omega (arith, l, e))))
    (λ a o. let m = c.in_ok-all.ensures.below a (subst (λ (xs : List ℕ). IsOneOf xs a) c.deref.ensures.value o) in let e = c.len.ensures ∙ c.args.rows.ok.0 in omega (arith, m, e))))
