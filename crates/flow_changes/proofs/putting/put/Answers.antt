use Rattle.std.proofs.Common.{◌≡◌, true, false, rules, refl, inl, ◌∙◌, ap, Some, None}
use Rattle.ar_base.proofs.Standing.{stands_item}
use Rattle.ar_base.specs.Lists.{Stands}
use Rattle.domains.specs.Domains.{Holds}
use Rattle.flow_changes.proofs.Puts.{touches_not, touches_new, puts_new, puts_again, barred_again}
use Rattle.flow_changes.proofs.putting.put.Goals as goal

pub returns-then-not-holds-clause-touches : goal.returns-then-not-holds-clause-touches
returns-then-not-holds-clause-touches c =
    touches_not c.args.domain.now c.args.target c.args.values.now.items c.args.known.now.items

pub returns-then-not-holds-clause-none : goal.returns-then-not-holds-clause-none
returns-then-not-holds-clause-none c =
    let no : Holds c.args.domain.now c.args.v → ⊥ = search rules in inl no

pub returns-then-eq-clause-touches : goal.returns-then-eq-clause-touches
returns-then-eq-clause-touches c =
    touches_not c.args.domain.now c.args.target c.args.values.now.items c.args.known.now.items

pub returns-then-eq-clause-puts : goal.returns-then-eq-clause-puts
returns-then-eq-clause-puts c =
    let has : Holds c.args.domain.now c.args.v = search rules in
    let same : c.index-then-index.result.now ≡ c.args.v = search rules in
    let m : Stands c.args.known.now.items c.args.target true =
    stands_item c.args.known.now.items c.args.target c.index.result.now c.requires.marked c.index.ensures
    ∙ ap Some c.if-index.true in
    let s = stands_item c.args.values.now.items c.args.target c.index-then-index.result.now c.requires.within
    c.index-then-index.ensures in
    puts_again c.args.domain.now c.args.target c.args.v c.index-then-index.result.now c.args.values.now.items
    c.args.known.now.items m s (Some false) has (refl, same)

pub returns-else-eq-clause-touches : goal.returns-else-eq-clause-touches
returns-else-eq-clause-touches c =
    touches_not c.args.domain.now c.args.target c.args.values.now.items c.args.known.now.items

pub returns-else-eq-clause-none : goal.returns-else-eq-clause-none
returns-else-eq-clause-none c =
    let other : c.index-then-index.result.now ≡ c.args.v → ⊥ = search rules in
    let m : Stands c.args.known.now.items c.args.target true =
    stands_item c.args.known.now.items c.args.target c.index.result.now c.requires.marked c.index.ensures
    ∙ ap Some c.if-index.true in
    let s = stands_item c.args.values.now.items c.args.target c.index-then-index.result.now c.requires.within
    c.index-then-index.ensures in
    barred_again c.args.domain.now c.args.target c.args.v c.index-then-index.result.now c.args.values.now.items
    c.args.known.now.items m s None other

pub returns-clause-touches : goal.returns-clause-touches
returns-clause-touches c =
    let has : Holds c.args.domain.now c.args.v = search rules in
    let m : Stands c.args.known.now.items c.args.target false =
    stands_item c.args.known.now.items c.args.target c.index.result.now c.requires.marked c.index.ensures
    ∙ ap Some c.if-index.false in
    touches_new c.args.domain.now c.args.target c.args.v c.args.values.now.items c.args.known.now.items m
    c.requires.within has

pub returns-clause-puts : goal.returns-clause-puts
returns-clause-puts c =
    let has : Holds c.args.domain.now c.args.v = search rules in
    let m : Stands c.args.known.now.items c.args.target false =
    stands_item c.args.known.now.items c.args.target c.index.result.now c.requires.marked c.index.ensures
    ∙ ap Some c.if-index.false in
    puts_new c.args.domain.now c.args.target c.args.v c.args.values.now.items c.args.known.now.items m c.requires.within
    has
