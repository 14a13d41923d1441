use Rattle.std.proofs.Common.{Bool, ap, not, refl, sym, ◌∙◌, subst, arith}
use Rattle.ar_base.specs.Lists.{Stands}
use Rattle.ar_base.specs.Stages.{broken}
use Rattle.ar_base.proofs.Standing.{stands_get}
use Rattle.sync_expand.proofs.DeclaredLemmas.{part_named}
use Rattle.sync_expand.proofs.Placed.{is_nothing}
use Rattle.sync_expand.proofs.RuleLemmas.{falls_of, level_of, broken_of, climb_named, first_link, link_within}
use Rattle.sync_expand.proofs.Walking.{counts_level, counts_back}
use Rattle.sync_expand.proofs.links.falling_ranks.Goals as goal

pub returns-in_default-clause-falls : goal.returns-in_default-clause-falls
returns-in_default-clause-falls c =
    falls_of _ _ _ c.in_default.is (rw c.deref.ensures.value at c.first_climb.ensures)

pub reached_from-requires-clause-from : goal.reached_from-requires-clause-from
reached_from-requires-clause-from c =
    let events = c.args.events.now in
    let ranks = c.deref.result.now in
    (link_within events ranks c.requires 0 c.in-Some.link
    (first_link events ranks c.first_climb.result c.in-Some.link c.in-Some.is c.first_climb.ensures)).1

pub index-requires : goal.index-requires
index-requires c =
    let events = c.args.events.now in
    let ranks = c.deref.result.now in
    let w = link_within events ranks c.requires 0 c.in-Some.link
    (first_link events ranks c.first_climb.result c.in-Some.link c.in-Some.is c.first_climb.ensures) in
    let l = w.0 in
    let n = c.in_ok-reached.ensures.long in
    let ok = c.in_ok-reached.reached.ok.0 in
    omega (arith, l, n, ok)

pub returns-then-index-clause-refused : goal.returns-then-index-clause-refused
returns-then-index-clause-refused c =
    let events = c.args.events.now in
    let ranks = c.in_ok-ranks.ranks.items in
    let marks = c.in_ok-reached.reached.items in
    let link = c.in-Some.link in
    let first = rw c.deref.ensures.value at c.first_climb.ensures in
    let rises = rw c.deref-2.ensures.value at c.first_climb-2.ensures in
    let l = (link_within events ranks c.requires 0 link
    (first_link events ranks c.first_climb.result link c.in-Some.is first)).0 in
    let n = c.in_ok-reached.ensures.long in
    let s = stands_get marks link.event.n c.index.result.now (omega (arith, l, n)) in
    broken (broken_of events ranks c.first_climb.result link c.in-Some.is first
    (level_of events ranks c.first_climb-2.result (is_nothing _ (c.is_none.ensures ∙ ap not c.if-is_none.true)) rises)
    (c.in_ok-reached.ensures.only link.event.n
    (subst (λ (b : Bool). Stands marks link.event.n b) (sym c.index.ensures ∙ c.if-index.true) s)))

pub returns-in-Some-first_climb-clause-refused : goal.returns-in-Some-first_climb-clause-refused
returns-in-Some-first_climb-clause-refused c =
    let events = c.args.events.now in
    let counts = c.in_ok-counts.counts.items in
    let link = c.in-Some-first_climb.link in
    let first = rw c.deref-3.ensures.value at c.first_climb-3.ensures in
    let climb = first_link events counts c.first_climb-3.result link c.in-Some-first_climb.is first in
    let part = part_named events link.event.n link.part.n (climb_named events counts 0 link climb) in
    let high = climb.climb.climb.climb.climbs in
    broken (broken_of events counts c.first_climb-3.result link c.in-Some-first_climb.is first
    (counts_level events c.requires counts c.in_ok-counts.ensures)
    (counts_back events c.requires counts c.in_ok-counts.ensures link.event.n link.part.n part (omega (arith, high))))

pub returns-clause-falls : goal.returns-clause-falls
returns-clause-falls c =
    falls_of c.args.events.now c.in_ok-counts.counts.items _ c.in-None.is
    (rw c.deref-3.ensures.value at c.first_climb-3.ensures)
