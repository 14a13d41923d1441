use Rattle.std.proofs.Common.{length}
use borrow.Author.Count.{falls}
use Rattle.typed_expr.proofs.Kinded as kinded
use Rattle.typed_expr.proofs.Shrinking as smaller
use Rattle.typed_expr.proofs.kinds.+typed.Goals as goal

pub typed-returns-in-Constant : goal.typed-returns-in-Constant
typed-returns-in-Constant g t c =
    let kinds = g.E.Env.kind_at c.args.env.now in
    kinded.constant-arm kinds c.args.expr.now c.in-Constant.v c.kind_of.result c.in-Constant.is c.kind_of.ensures

pub typed-returns-in-Variable : goal.typed-returns-in-Variable
typed-returns-in-Variable g t c =
    let kinds = g.E.Env.kind_at c.args.env.now in
    kinded.variable-arm kinds c.args.expr.now c.in-Variable.x c.kind.result c.in-Variable.is c.kind.ensures

pub typed-returns-in-Not : goal.typed-returns-in-Not
typed-returns-in-Not g t c =
    let kinds = g.E.Env.kind_at c.args.env.now in
    kinded.not-arm kinds c.args.expr.now c.deref.result.now c.in-Not.a c.typed.result c.kind_where.result
    c.is_kind.result c.in-Not.is c.deref.ensures c.typed.ensures c.is_kind.ensures c.kind_where.ensures

pub typed-returns-in-All : goal.typed-returns-in-All
typed-returns-in-All g t c =
    let kinds = g.E.Env.kind_at c.args.env.now in
    kinded.all-arm kinds c.args.expr.now c.deref-in-All.result.now c.in-All.es c.kind_where-in-All.result
    c.each_has.result c.in-All.is c.deref-in-All.ensures.value c.each_has.ensures c.kind_where-in-All.ensures

pub typed-returns-in-Any : goal.typed-returns-in-Any
typed-returns-in-Any g t c =
    let kinds = g.E.Env.kind_at c.args.env.now in
    kinded.any-arm kinds c.args.expr.now c.deref-in-Any.result.now c.in-Any.es c.kind_where-in-Any.result
    c.each_has-in-Any.result c.in-Any.is c.deref-in-Any.ensures.value c.each_has-in-Any.ensures
    c.kind_where-in-Any.ensures

pub typed-returns-in-Product : goal.typed-returns-in-Product
typed-returns-in-Product g t c =
    let kinds = g.E.Env.kind_at c.args.env.now in
    kinded.product-arm kinds c.args.expr.now c.deref-in-Product.result.now c.in-Product.es
    c.kind_where-in-Product.result c.each_has-in-Product.result c.in-Product.is c.deref-in-Product.ensures.value
    c.each_has-in-Product.ensures c.kind_where-in-Product.ensures

pub typed-returns-in-Least : goal.typed-returns-in-Least
typed-returns-in-Least g t c =
    let kinds = g.E.Env.kind_at c.args.env.now in
    kinded.least-arm kinds c.args.expr.now c.deref-in-Least.result.now c.in-Least.es c.kind_where-in-Least.result
    c.each_has-in-Least.result c.in-Least.is c.deref-in-Least.ensures.value c.each_has-in-Least.ensures
    c.kind_where-in-Least.ensures

pub typed-returns-in-Greatest : goal.typed-returns-in-Greatest
typed-returns-in-Greatest g t c =
    let kinds = g.E.Env.kind_at c.args.env.now in
    kinded.greatest-arm kinds c.args.expr.now c.deref-in-Greatest.result.now c.in-Greatest.es
    c.kind_where-in-Greatest.result c.each_has-in-Greatest.result c.in-Greatest.is c.deref-in-Greatest.ensures.value
    c.each_has-in-Greatest.ensures c.kind_where-in-Greatest.ensures

pub typed-returns-in-Count : goal.typed-returns-in-Count
typed-returns-in-Count g t c =
    let kinds = g.E.Env.kind_at c.args.env.now in
    kinded.count-arm kinds c.args.expr.now c.deref-in-Count.result.now c.in-Count.es c.kind_where-in-Count.result
    c.each_has-in-Count.result c.in-Count.is c.deref-in-Count.ensures.value c.each_has-in-Count.ensures
    c.kind_where-in-Count.ensures

pub typed-returns-in-Sum : goal.typed-returns-in-Sum
typed-returns-in-Sum g t c =
    let kinds = g.E.Env.kind_at c.args.env.now in
    kinded.sum-arm kinds c.args.expr.now c.deref-in-Sum.result.now c.in-Sum.parts c.kind_where-in-Sum.result
    c.each_part.result c.in-Sum.is c.deref-in-Sum.ensures.value c.each_part.ensures c.kind_where-in-Sum.ensures

pub typed-returns-in-Some : goal.typed-returns-in-Some
typed-returns-in-Some g t c =
    let kinds = g.E.Env.kind_at c.args.env.now in
    kinded.compare-arm kinds c.args.expr.now c.deref-in-Compare.result.now c.deref-in-Some.result.now
    c.in-Compare.relation c.in-Compare.a c.in-Compare.b c.in-Some.kind c.typed-in-Some.result
    c.kind_where-in-Some.result c.compares.result
    c.is_kind-same.result c.both.result c.in-Compare.is c.deref-in-Compare.ensures c.deref-in-Some.ensures
    c.in-Some.ensures c.typed-in-Some.ensures c.compares.ensures c.is_kind-same.ensures c.both.ensures
    c.kind_where-in-Some.ensures

pub typed-returns-in-None : goal.typed-returns-in-None
typed-returns-in-None g t c =
    let kinds = g.E.Env.kind_at c.args.env.now in
    kinded.compare-none kinds c.args.expr.now c.deref-in-Compare.result.now c.in-Compare.relation c.in-Compare.a
    c.in-Compare.b c.in-Compare.is c.deref-in-Compare.ensures c.in-None.ensures

pub typed-returns-in-Some-typed : goal.typed-returns-in-Some-typed
typed-returns-in-Some-typed g t c =
    let kinds = g.E.Env.kind_at c.args.env.now in
    kinded.choice-arm kinds c.args.expr.now c.deref-in-Choose.result.now c.deref-in-Some-typed.result.now
    c.in-Choose.cases c.in-Choose.other c.in-Some-typed.kind c.kind_where-in-Some-typed.result c.each_case.result
    c.in-Choose.is c.deref-in-Some-typed.ensures.value c.deref-in-Choose.ensures c.in-Some-typed.ensures
    c.each_case.ensures c.kind_where-in-Some-typed.ensures

pub typed-returns-in-None-typed : goal.typed-returns-in-None-typed
typed-returns-in-None-typed g t c =
    let kinds = g.E.Env.kind_at c.args.env.now in
    kinded.choice-none kinds c.args.expr.now c.deref-in-Choose.result.now c.in-Choose.cases c.in-Choose.other
    c.in-Choose.is c.deref-in-Choose.ensures c.in-None-typed.ensures

pub each_has-loop-e-init : goal.each_has-loop-e-init
each_has-loop-e-init g t c =
    let kinds = g.E.Env.kind_at c.args.env.now in
    kinded.each-begins kinds c.args.es.now c.args.kind

pub each_has-loop-e-preserved : goal.each_has-loop-e-preserved
each_has-loop-e-preserved g t c =
    let kinds = g.E.Env.kind_at c.args.env.now in
    kinded.each-goes-on kinds c.args.es.now c.loop-e.e-index c.e-item.result c.args.kind c.typed.result c.is_kind.result
    c.loop-e-test.true c.e-item.is c.typed.ensures c.is_kind.ensures c.if-not-is_kind.false c.loop-e.invariant

pub each_has-returns-then-not-is_kind : goal.each_has-returns-then-not-is_kind
each_has-returns-then-not-is_kind g t c =
    let kinds = g.E.Env.kind_at c.args.env.now in
    kinded.each-fails kinds c.args.es.now c.loop-e.e-index c.e-item.result c.args.kind c.typed.result c.is_kind.result
    c.loop-e-test.true c.e-item.is c.typed.ensures c.is_kind.ensures c.if-not-is_kind.true

pub each_has-returns : goal.each_has-returns
each_has-returns g t c =
    let kinds = g.E.Env.kind_at c.args.env.now in
    kinded.each-ends kinds c.args.es.now c.loop-e.e-index c.args.kind
    (kinded.not-empty (length c.args.es.now) c.is_empty.result c.is_empty.ensures c.if-is_empty.false)
    c.loop-e-test.false c.loop-e.invariant

pub each_part-loop-e-init : goal.each_part-loop-e-init
each_part-loop-e-init g t c =
    let kinds = g.E.Env.kind_at c.args.env.now in
    kinded.parts-begin kinds c.args.parts.now

pub each_part-loop-e-preserved : goal.each_part-loop-e-preserved
each_part-loop-e-preserved g t c =
    let kinds = g.E.Env.kind_at c.args.env.now in
    kinded.parts-go-on kinds c.args.parts.now c.loop-e.e-index c.loop-e-item.result c.typed.result c.is_kind.result
    c.loop-e-test.true c.loop-e-item.is c.typed.ensures c.is_kind.ensures c.if-not-is_kind.false c.loop-e.invariant

pub each_part-returns-then-not-is_kind : goal.each_part-returns-then-not-is_kind
each_part-returns-then-not-is_kind g t c =
    let kinds = g.E.Env.kind_at c.args.env.now in
    kinded.parts-fail kinds c.args.parts.now c.loop-e.e-index c.loop-e-item.result c.typed.result c.is_kind.result
    c.loop-e-test.true c.loop-e-item.is c.typed.ensures c.is_kind.ensures c.if-not-is_kind.true

pub each_part-returns : goal.each_part-returns
each_part-returns g t c =
    let kinds = g.E.Env.kind_at c.args.env.now in
    kinded.parts-end kinds c.args.parts.now c.loop-e.e-index
    (kinded.not-empty (length c.args.parts.now) c.is_empty.result c.is_empty.ensures c.if-is_empty.false)
    c.loop-e-test.false c.loop-e.invariant

pub each_case-loop-test-init : goal.each_case-loop-test-init
each_case-loop-test-init g t c =
    let kinds = g.E.Env.kind_at c.args.env.now in
    kinded.cases-begin kinds c.args.cases.now c.args.kind

pub each_case-loop-test-preserved : goal.each_case-loop-test-preserved
each_case-loop-test-preserved g t c =
    let kinds = g.E.Env.kind_at c.args.env.now in
    kinded.cases-go-on kinds c.args.cases.now c.loop-test.test-index c.loop-test-item.result c.args.kind c.typed.result
    c.typed-in-loop-test.result c.is_kind.result c.is_kind-in-loop-test.result c.loop-test-test.true
    c.loop-test-item.is
    c.typed.ensures c.is_kind.ensures c.if-not-is_kind.false c.typed-in-loop-test.ensures c.is_kind-in-loop-test.ensures
    c.if-not-is_kind-2.false c.loop-test.invariant

pub each_case-returns-then-not-is_kind : goal.each_case-returns-then-not-is_kind
each_case-returns-then-not-is_kind g t c =
    let kinds = g.E.Env.kind_at c.args.env.now in
    kinded.test-fails kinds c.args.cases.now c.loop-test.test-index c.loop-test-item.result c.args.kind c.typed.result
    c.is_kind.result c.loop-test-test.true c.loop-test-item.is c.typed.ensures c.is_kind.ensures
    c.if-not-is_kind.true

pub each_case-returns-then-not-is_kind-2 : goal.each_case-returns-then-not-is_kind-2
each_case-returns-then-not-is_kind-2 g t c =
    let kinds = g.E.Env.kind_at c.args.env.now in
    kinded.value-fails kinds c.args.cases.now c.loop-test.test-index c.loop-test-item.result c.args.kind
    c.typed-in-loop-test.result c.is_kind-in-loop-test.result c.loop-test-test.true c.loop-test-item.is
    c.typed-in-loop-test.ensures c.is_kind-in-loop-test.ensures c.if-not-is_kind-2.true

pub each_case-returns : goal.each_case-returns
each_case-returns g t c =
    let kinds = g.E.Env.kind_at c.args.env.now in
    kinded.cases-end kinds c.args.cases.now c.loop-test.test-index c.args.kind
    (kinded.not-empty (length c.args.cases.now) c.is_empty.result c.is_empty.ensures c.if-is_empty.false)
    c.loop-test-test.false c.loop-test.invariant

pub each_case-returns-then-is_empty : goal.each_case-returns-then-is_empty
each_case-returns-then-is_empty g t c =
    kinded.empty-has-none _ c.is_empty.result _ c.is_empty.ensures c.if-is_empty.true

pub each_case-offset_bounds-cases-test-index : goal.each_case-offset_bounds-cases-test-index
each_case-offset_bounds-cases-test-index g t c =
    c.loop-test.auto.test-index-end

pub each_case-typed-requires : goal.each_case-typed-requires
each_case-typed-requires g t c =
    λ κs within. (
      smaller.item_falls _ _ t
          (smaller.up-test c.args.cases.now c.loop-test.test-index c.loop-test-item.result c.loop-test-test.true
          c.loop-test-item.is) c.decreases,
      within,
    )

pub each_case-typed-requires-in-loop-test : goal.each_case-typed-requires-in-loop-test
each_case-typed-requires-in-loop-test g t c =
    λ κs within. (
      smaller.item_falls _ _ t
          (smaller.up-value c.args.cases.now c.loop-test.test-index c.loop-test-item.result c.loop-test-test.true
          c.loop-test-item.is) c.decreases,
      within,
    )

pub each_case-loop-test-smaller : goal.each_case-loop-test-smaller
each_case-loop-test-smaller g t c =
    falls _ c.loop-test.test-index c.loop-test-test.true

pub each_has-returns-then-is_empty : goal.each_has-returns-then-is_empty
each_has-returns-then-is_empty g t c =
    kinded.empty-has-none _ c.is_empty.result _ c.is_empty.ensures c.if-is_empty.true

pub each_has-offset_bounds-es-e-index : goal.each_has-offset_bounds-es-e-index
each_has-offset_bounds-es-e-index g t c =
    c.loop-e.auto.e-index-end

pub each_has-typed-requires : goal.each_has-typed-requires
each_has-typed-requires g t c =
    λ κs within. (
      smaller.item_falls _ _ t
          (smaller.up-item c.args.es.now c.loop-e.e-index c.e-item.result c.loop-e-test.true
          c.e-item.is) c.decreases,
      within,
    )

pub each_has-loop-e-smaller : goal.each_has-loop-e-smaller
each_has-loop-e-smaller g t c =
    falls _ c.loop-e.e-index c.loop-e-test.true

pub each_part-returns-then-is_empty : goal.each_part-returns-then-is_empty
each_part-returns-then-is_empty g t c =
    kinded.empty-has-none _ c.is_empty.result _ c.is_empty.ensures c.if-is_empty.true

pub each_part-offset_bounds-parts-e-index : goal.each_part-offset_bounds-parts-e-index
each_part-offset_bounds-parts-e-index g t c =
    c.loop-e.auto.e-index-end

pub each_part-typed-requires : goal.each_part-typed-requires
each_part-typed-requires g t c =
    λ κs within. (
      smaller.item_falls _ _ t
          (smaller.up-part c.args.parts.now c.loop-e.e-index c.loop-e-item.result c.loop-e-test.true
          c.loop-e-item.is) c.decreases,
      within,
    )

pub each_part-loop-e-smaller : goal.each_part-loop-e-smaller
each_part-loop-e-smaller g t c =
    falls _ c.loop-e.e-index c.loop-e-test.true

pub typed-typed-requires : goal.typed-typed-requires
typed-typed-requires g t c =
    λ κs within. (
      smaller.one_falls _ _ t
          (smaller.less-not c.args.expr.now c.deref.result.now c.in-Not.a c.in-Not.is c.deref.ensures) c.decreases,
      within,
    )

pub typed-each_has-requires : goal.typed-each_has-requires
typed-each_has-requires g t c =
    λ κs within. (
      smaller.list_falls _ _ t
          (smaller.less-all c.args.expr.now c.in-All.es c.deref-in-All.result.now c.in-All.is
          c.deref-in-All.ensures.value) c.decreases,
      within,
    )

pub typed-each_has-requires-in-Any : goal.typed-each_has-requires-in-Any
typed-each_has-requires-in-Any g t c =
    λ κs within. (
      smaller.list_falls _ _ t
          (smaller.less-any c.args.expr.now c.in-Any.es c.deref-in-Any.result.now c.in-Any.is
          c.deref-in-Any.ensures.value) c.decreases,
      within,
    )

pub typed-each_has-requires-in-Product : goal.typed-each_has-requires-in-Product
typed-each_has-requires-in-Product g t c =
    λ κs within. (
      smaller.list_falls _ _ t
          (smaller.less-product c.args.expr.now c.in-Product.es c.deref-in-Product.result.now c.in-Product.is
          c.deref-in-Product.ensures.value) c.decreases,
      within,
    )

pub typed-each_has-requires-in-Least : goal.typed-each_has-requires-in-Least
typed-each_has-requires-in-Least g t c =
    λ κs within. (
      smaller.list_falls _ _ t
          (smaller.less-least c.args.expr.now c.in-Least.es c.deref-in-Least.result.now c.in-Least.is
          c.deref-in-Least.ensures.value) c.decreases,
      within,
    )

pub typed-each_has-requires-in-Greatest : goal.typed-each_has-requires-in-Greatest
typed-each_has-requires-in-Greatest g t c =
    λ κs within. (
      smaller.list_falls _ _ t
          (smaller.less-greatest c.args.expr.now c.in-Greatest.es c.deref-in-Greatest.result.now c.in-Greatest.is
          c.deref-in-Greatest.ensures.value) c.decreases,
      within,
    )

pub typed-each_has-requires-in-Count : goal.typed-each_has-requires-in-Count
typed-each_has-requires-in-Count g t c =
    λ κs within. (
      smaller.list_falls _ _ t
          (smaller.less-count c.args.expr.now c.in-Count.es c.deref-in-Count.result.now c.in-Count.is
          c.deref-in-Count.ensures.value) c.decreases,
      within,
    )

pub typed-typed-requires-in-Compare : goal.typed-typed-requires-in-Compare
typed-typed-requires-in-Compare g t c =
    λ κs within. (
      smaller.one_falls _ _ t
          (smaller.less-left c.args.expr.now c.deref-in-Compare.result.now c.in-Compare.relation c.in-Compare.a
          c.in-Compare.b c.in-Compare.is c.deref-in-Compare.ensures) c.decreases,
      within,
    )

pub typed-typed-requires-in-Some : goal.typed-typed-requires-in-Some
typed-typed-requires-in-Some g t c =
    λ κs within. (
      smaller.one_falls _ _ t
          (smaller.less-right c.args.expr.now c.deref-in-Some.result.now c.in-Compare.relation c.in-Compare.a
          c.in-Compare.b c.in-Compare.is c.deref-in-Some.ensures) c.decreases,
      within,
    )

pub typed-each_part-requires : goal.typed-each_part-requires
typed-each_part-requires g t c =
    λ κs within. (
      smaller.list_falls _ _ t
          (smaller.less-parts c.args.expr.now c.in-Sum.parts c.deref-in-Sum.result.now c.in-Sum.is
          c.deref-in-Sum.ensures.value) c.decreases,
      within,
    )

pub typed-typed-requires-in-Choose : goal.typed-typed-requires-in-Choose
typed-typed-requires-in-Choose g t c =
    λ κs within. (
      smaller.one_falls _ _ t
          (smaller.less-other c.args.expr.now c.deref-in-Choose.result.now c.in-Choose.cases c.in-Choose.other
          c.in-Choose.is c.deref-in-Choose.ensures) c.decreases,
      within,
    )

pub typed-each_case-requires : goal.typed-each_case-requires
typed-each_case-requires g t c =
    λ κs within. (
      smaller.list_falls _ _ t
          (smaller.less-cases c.args.expr.now c.in-Choose.cases c.in-Choose.other c.deref-in-Some-typed.result.now
          c.in-Choose.is c.deref-in-Some-typed.ensures.value) c.decreases,
      within,
    )
