use Rattle.std.proofs.Common.{◌≡◌, ◌<◌, ◌≤◌, inl, inr, ℕ, List, length, get_or, subst, arith}
use Rattle.ar_base.specs.Lists.{Stands}
use Rattle.typed_expr.specs.Possible.{IsWide}
use Rattle.typed_expr.specs.declared.expr.Expr.{out-Expr}
use Rattle.ar_meaning.specs.Facts.{Allows}
use Rattle.ar_base.proofs.Standing.{stands_one, stands_within, stands_item, at_most}
use Rattle.ar_base.proofs.Comparing.{first_place}
use Rattle.gts_core.specs.View.{net_of, numbered}
use Rattle.gts_core.specs.declared.system.Observer.{Observer}
use Rattle.mode_search.specs.Wide.{IsWideObserver}
use Rattle.ar_meaning.proofs.Found.{holds, fails}
use Rattle.mode_search.proofs.searches.first_observer.Goals as goal

pub returns-then-wide : goal.returns-then-wide
returns-then-wide c =
    let items = c.deref-observer-items.ensures.value in
    let below = subst (λ (z : List Observer). c.loop-n.n < length z) items c.loop-n-test.true in
    let is = subst (λ (z : List Observer). c.observer-item.result ≡ get_or z c.loop-n.n c.observer-item.result) items
    c.observer-item.is in
    let st = stands_item c.args.parts.now.observers.items c.loop-n.n c.observer-item.result below is in
    first_place (IsWideObserver c.args.parts.now) c.loop-n.n
    (record {
      observer = c.observer-item.result;
      stands = st;
      wide = holds _ _ c.if-wide.true (c.in_ok-wide.ensures c.args.parts.now c.requires.domains);
    }) c.loop-n.invariant

pub loop-n-preserved : goal.loop-n-preserved
loop-n-preserved c =
    let items = c.deref-observer-items.ensures.value in
    let below = subst (λ (z : List Observer). c.loop-n.n < length z) items c.loop-n-test.true in
    let is = subst (λ (z : List Observer). c.observer-item.result ≡ get_or z c.loop-n.n c.observer-item.result) items
    c.observer-item.is in
    let st = stands_item c.args.parts.now.observers.items c.loop-n.n c.observer-item.result below is in
    λ k l q. elim (at_most k c.loop-n.n l) [
      | inl h ↦ c.loop-n.invariant k h q
      | inr e ↦ (let same = stands_one c.args.parts.now.observers.items c.loop-n.n q.observer c.observer-item.result (subst (λ (z : ℕ). Stands c.args.parts.now.observers.items z q.observer) e q.stands) st in
          fails _ _ c.if-wide.false (c.in_ok-wide.ensures c.args.parts.now c.requires.domains)
          (subst (λ (z : Observer). IsWide (Allows (net_of c.args.parts.now)) 64 (out-Expr ℕ (numbered z.value)))
          same q.wide))
    ]

pub returns : goal.returns
returns c = λ n q.
    let past = subst (λ (z : List Observer). length z ≤ c.loop-n.n) c.deref-observer-items.ensures.value
    c.loop-n-test.false in
    let w = stands_within c.args.parts.now.observers.items n q.observer q.stands in
    c.loop-n.invariant n (omega arith) q
