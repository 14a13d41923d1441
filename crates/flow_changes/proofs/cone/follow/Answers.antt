use Rattle.std.proofs.Common.{◌<◌, ◌≤◌, length, rules, ◌∙◌, arith}
use Rattle.ar_base.specs.Lists.{Stands}
use Rattle.ar_base.proofs.Standing.{stands_item}
use Rattle.flow_propagate.proofs.Worklists.{readers_below}
use Rattle.flow_changes.proofs.Seeing.{follows_more, follows_done}
use Rattle.flow_changes.proofs.cone.follow.Goals as goal

pub see_targets-requires-clause-within : goal.see_targets-requires-clause-within
see_targets-requires-clause-within c =
    λ r o. readers_below c.args.parts.now c.args.readers.now.pairs.items c.requires.readers r
    (c.pairs_of-run.ensures.among r o)

pub follow-preserved : goal.follow-preserved
follow-preserved c =
    let p = c.args.parts.now in
    let v = c.follow.invariant in
    let e = c.in_ok-see_targets.ensures in
    let found = c.follow.found.items in
    let w : c.follow.at < length found = search rules in
    let st : Stands found c.follow.at c.index.result.now =
    stands_item found c.follow.at c.index.result.now w c.index.ensures in
    record {
      long = e.long ∙ v.long;
      marking = e.marking;
      followed = follows_more p c.requires.sound c.args.readers.now.pairs.items c.requires.readers c.args.new.now found
          c.see_targets.new.found.items c.follow.at c.index.result.now st c.pairs_of-run.result.now
          c.pairs_of-run.ensures.all
          c.follow.marks.items c.see_targets.new.marks.items e.sees v.followed;
      within = (let l = e.sees.longer in omega (arith, l, w));
    }

pub follow-smaller : goal.follow-smaller
follow-smaller c =
    let found = c.follow.found.items in
    let w : c.follow.at < length found = search rules in
    let l = c.in_ok-see_targets.ensures.sees.left in
    let m = c.in_ok-see_targets.ensures.sees.longer in
    omega (arith, w, l, m)

pub returns-clause-reached : goal.returns-clause-reached
returns-clause-reached c =
    let past : length c.follow.found.items ≤ c.follow.at = search rules in
    follows_done c.args.parts.now c.args.new.now c.follow.found.items c.follow.at past c.follow.invariant.within
    c.follow.invariant.followed
