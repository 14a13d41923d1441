use Rattle.std.proofs.Common.{take, subst, sym, arith}
use Rattle.std.proofs.lemmas.List.{take_all}
use Rattle.ar_base.proofs.Standing.{stands_get, one_here, along_length}
use Rattle.class_table.specs.Listing.{HaveMembersListed}
use Rattle.class_table.proofs.Taken.{take_next}
use Rattle.class_table.proofs.Listed.{none_listed, keeps_listed, all_listed, next_done}
use Rattle.class_table.proofs.members.list_members.Goals as goal

pub loop-body-init : goal.loop-body-init
loop-body-init c = record { room = omega arith; listed = λ d shown can. none_listed d _ shown.as_text }

pub members_of-requires : goal.members_of-requires
members_of-requires c =
    let order = c.args.order.now in
    let i = c.loop-body.body-index in
    let s = stands_get order i 0 c.loop-body-test.true in
    let d = c.requires.0 in
    let can = c.requires.2 in
    let h = c.loop-body.invariant.listed d c.requires.1 can in
    record {
      there = (let l = can.complete.within _ (one_here order i _ s) in let e = along_length c.loop-body.bodies d.bodies h.as_text in omega (arith, l, e));
      room = c.loop-body.invariant.room;
      done = (d, take i order, record { known = c.requires.1.known; listed = h }, next_done d order can i _ s);
    }

pub loop-body-preserved : goal.loop-body-preserved
loop-body-preserved c =
    let order = c.args.order.now in
    let i = c.loop-body.body-index in
    let s = stands_get order i 0 c.loop-body-test.true in
    record {
      room = omega (arith, c.loop-body.invariant.room);
      listed = λ d shown can.
          let h = c.loop-body.invariant.listed d shown can in
          let l = can.complete.within _ (one_here order i _ s) in
          let e = along_length c.loop-body.bodies d.bodies h.as_text in
          let m = c.in_ok-all.ensures d (take i order) (record { known = shown.known; listed = h })
          (next_done d order can i _ s) in
          subst (HaveMembersListed d _) (sym (take_next order i _ s)) (keeps_listed d _ _ _ _ _ (omega (arith, l, e)) h m);
    }

pub returns : goal.returns
returns c = λ d shown can. all_listed d _ _ can
    (subst (HaveMembersListed d c.loop-body.bodies) (take_all c.loop-body.body-index c.args.order.now (omega arith))
    (c.loop-body.invariant.listed d shown can))

pub bounds-bodies-body : goal.bounds-bodies-body
bounds-bodies-body c =
    let s = stands_get c.args.order.now c.loop-body.body-index 0 c.loop-body-test.true in
    let h = c.loop-body.invariant.listed c.requires.0 c.requires.1 c.requires.2 in
    let l = c.requires.2.complete.within _ (one_here c.args.order.now c.loop-body.body-index _ s) in
    let e = along_length c.loop-body.bodies c.requires.0.bodies h.as_text in
    omega (arith, l, e)

pub bounds-bodies-body-in_ok-all : goal.bounds-bodies-body-in_ok-all
bounds-bodies-body-in_ok-all c =
    let s = stands_get c.args.order.now c.loop-body.body-index 0 c.loop-body-test.true in
    let h = c.loop-body.invariant.listed c.requires.0 c.requires.1 c.requires.2 in
    let l = c.requires.2.complete.within _ (one_here c.args.order.now c.loop-body.body-index _ s) in
    let e = along_length c.loop-body.bodies c.requires.0.bodies h.as_text in
    omega (arith, l, e)
