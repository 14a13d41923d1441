use Rattle.std.proofs.Common.{◌≡◌, ◌<◌, ◌≤◌, ◌+◌, ℕ, Bool, List, [], take, drop, ◌++◌, length, rules, sym, ap, ◌∙◌, subst, arith}
use Rattle.ar_base.proofs.Standing.{stands_item}
use Rattle.flow_reasons.specs.Answers.{numbers_of, reasons_of}
use Rattle.flow_reasons.specs.Cones.{SeesAll}
use Rattle.flow_reasons.proofs.Placing.{written}
use Rattle.flow_reasons.proofs.Followed.{Closing, closing_start, closing_more, closing_done}
use Rattle.flow_reasons.proofs.cones.reached.Goals as goal

pub see_all-requires-clause-below : goal.see_all-requires-clause-below
see_all-requires-clause-below c = λ n o.
    let h = c.requires.below n o in
    let l : length c.in_ok-seen.seen.items ≡ c.args.count = search rules in
    let e = ap (λ (z : List Bool). length z) c.deref_mut.ensures.value in omega (arith, h, l, e)

pub follow-init : goal.follow-init
follow-init c =
    let seen = c.in_ok-seen.seen.items in
    let new = c.see_all.new.seen in
    let l : length seen ≡ c.args.count = search rules in
    let first = numbers_of c.args.first.now in
    let h = subst (λ (z : List Bool). SeesAll first z new [] c.see_all.new.found.items) c.deref_mut.ensures.value
    (subst (λ (z : List ℕ). SeesAll first c.deref_mut.result.now new z c.see_all.new.found.items)
    c.new-found.ensures.items c.in_ok-see_all.ensures) in
    let e : take c.in_ok-seen.seen.len (new ++ drop (length new) seen) ≡ new =
    written new seen c.in_ok-seen.seen.len h.long c.in_ok-seen.seen.ok.0 in
    record {
      long = ap (λ (z : List Bool). length z) e ∙ (h.long ∙ l);
      closing = subst (λ (z : List Bool). Closing (reasons_of c.args.reasons.now) first z c.see_all.new.found.items 0)
          (sym e)
          (closing_start (reasons_of c.args.reasons.now) first seen new c.see_all.new.found.items h);
      within = omega arith;
    }

pub see_all-requires-in-follow-clause-below : goal.see_all-requires-in-follow-clause-below
see_all-requires-in-follow-clause-below c = λ n o.
    let r = (c.rests_upon.ensures.each n).0 o in
    let h = c.requires.orderly.below r.reason n r.is_one r.rests in
    let e = ap (λ (z : List Bool). length z) c.deref_mut-in-follow.ensures.value in omega (arith, h, e, c.follow.invariant.long)

pub follow-preserved : goal.follow-preserved
follow-preserved c =
    let seen = c.follow.seen.items in
    let new = c.see_all-in-follow.new.seen in
    let found = c.follow.found.items in
    let more = c.see_all-in-follow.new.found.items in
    let first = numbers_of c.args.first.now in
    let numbers = numbers_of c.rests_upon.result.now in
    let w : c.follow.at < length found = search rules in
    let h = subst (λ (z : List Bool). SeesAll numbers z new found more) c.deref_mut-in-follow.ensures.value
    c.in_ok-see_all-2.ensures in
    let e : take c.follow.seen.len (new ++ drop (length new) seen) ≡ new =
    written new seen c.follow.seen.len h.long c.follow.seen.ok.0 in
    record {
      long = ap (λ (z : List Bool). length z) e ∙ (h.long ∙ c.follow.invariant.long);
      closing = subst (λ (z : List Bool). Closing (reasons_of c.args.reasons.now) first z more (c.follow.at + 1))
          (sym e)
          (closing_more (reasons_of c.args.reasons.now) first seen new found more c.follow.at c.index.result.now numbers
          c.follow.invariant.closing
          (stands_item found c.follow.at c.index.result.now w c.index.ensures) c.rests_upon.ensures h);
      within = (let k = h.longer in omega (arith, k, w));
    }

pub returns-clause-reached : goal.returns-clause-reached
returns-clause-reached c =
    let past : length c.follow.found.items ≤ c.follow.at = search rules in
    closing_done (reasons_of c.args.reasons.now) (numbers_of c.args.first.now) c.follow.seen.items c.follow.found.items
    c.follow.at past c.follow.invariant.closing
