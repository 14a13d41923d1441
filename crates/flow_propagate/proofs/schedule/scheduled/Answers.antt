use Rattle.std.proofs.Common.{◌≡◌, ℕ, List, length, rules, sym, subst, ◌∙◌, arith}
use Rattle.ar_base.specs.Lists.{Stands}
use Rattle.flow_propagate.specs.Plan.{IsNumberOrder}
use Rattle.flow_propagate.proofs.Worklists.{order_moved}
use Rattle.flow_propagate.proofs.schedule.scheduled.Goals as goal

pub places_in-requires : goal.places_in-requires
places_in-requires c =
    let n = length c.args.parts.now.assigns.items in
    let whole : c.len-count.result ≡ n = search rules in
    let numbers : IsNumberOrder n c.in_ok-order.order.items = record { all = λ k h. c.in_ok-order.ensures.all k (omega (arith, h, whole)); below = λ k h. let l = c.in_ok-order.ensures.below k h in omega (arith, l, whole) } in
    subst (λ (k : ℕ). IsNumberOrder k c.deref.result.now) (sym whole)
    (subst (λ (z : List ℕ). IsNumberOrder n z) (sym c.deref.ensures.value)
    (order_moved n c.in_ok-order.order.items c.sort_by_key.new.self.items c.sort_by_key.ensures.permutation numbers))

pub returns : goal.returns
returns c =
    let n = length c.args.parts.now.assigns.items in
    let whole : c.len-count.result ≡ n = search rules in
    let numbers : IsNumberOrder n c.in_ok-order.order.items = record { all = λ k h. c.in_ok-order.ensures.all k (omega (arith, h, whole)); below = λ k h. let l = c.in_ok-order.ensures.below k h in omega (arith, l, whole) } in
    record {
      is_order = order_moved n c.in_ok-order.order.items c.sort_by_key.new.self.items c.sort_by_key.ensures.permutation
          numbers;
      long = c.in_ok-places.ensures.long ∙ whole;
      placed = λ n place s. subst (λ (z : List ℕ). Stands z place n) c.deref.ensures.value
          (c.in_ok-places.ensures.placed n place s);
    }
