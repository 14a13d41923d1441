use Rattle.std.proofs.Common.{◌≡◌, ◌+◌, ◌-◌, ◌<◌, length, vec_len, refl, ◌∙◌, arith}
use Rattle.ar_base.specs.Lists.{Stands}
use Rattle.ar_base.specs.Numbers.{WayId}
use Rattle.way_flags.proofs.Lists.{read_stands}
use Rattle.way_flags.proofs.Meeting.{taking_first, taking_next, taking_all, met_within, few_met, is_alone}
use Rattle.way_flags.proofs.takers.takers.Goals as goal

pub loop-done-init : goal.loop-done-init
loop-done-init c = taking_first c.args.parts.now c.requires.sound c.args.flags.now c.args.way.n c.requires.inside
    c.args.way c.meet.new.met refl
    (is_alone c.args.way (record { ways = c.new.result; numbers = c.new-2.result }) c.meet.new.met
    c.new.ensures.items c.in_ok-meet.ensures)

pub index-requires : goal.index-requires
index-requires c =
    let p = c.args.parts.now in
    let met = c.loop-done.met in
    let done = c.loop-done.done in
    let id : WayId = c.index-next.result.now in
    let count : c.len.result ≡ length met.ways.items = c.len.ensures ∙ (let h : vec_len met.ways ≡ length met.ways.items = omega (arith, met.ways.ok.0) in h) in
    let below : done < length met.ways.items = (let h = c.loop-done-test.true in omega (arith, h, count)) in
    let at : Stands met.ways.items done id = read_stands met.ways.items done id below c.index-next.ensures in
    let within = met_within p c.requires.sound c.args.flags.now c.args.way.n c.requires.inside done met done id
    c.loop-done.invariant at in
    let ways : vec_len p.ways ≡ length p.ways.items = omega (arith, p.ways.ok.0) in
    omega (arith, within, ways)

pub loop-done-smaller : goal.loop-done-smaller
loop-done-smaller c =
    let p = c.args.parts.now in
    let met = c.loop-done.met in
    let done = c.loop-done.done in
    let count : c.len.result ≡ length met.ways.items = c.len.ensures ∙ (let h : vec_len met.ways ≡ length met.ways.items = omega (arith, met.ways.ok.0) in h) in
    let below : done < length met.ways.items = (let h = c.loop-done-test.true in omega (arith, h, count)) in
    let few = few_met p c.requires.sound c.args.flags.now c.args.way.n c.requires.inside done met
    c.loop-done.invariant in
    let smaller : length p.ways.items - (done + 1) < length p.ways.items - done = omega (arith, below, few) in
    smaller

pub loop-done-preserved : goal.loop-done-preserved
loop-done-preserved c =
    let p = c.args.parts.now in
    let met = c.loop-done.met in
    let done = c.loop-done.done in
    let id : WayId = c.index-next.result.now in
    let count : c.len.result ≡ length met.ways.items = c.len.ensures ∙ (let h : vec_len met.ways ≡ length met.ways.items = omega (arith, met.ways.ok.0) in h) in
    let below : done < length met.ways.items = (let h = c.loop-done-test.true in omega (arith, h, count)) in
    let at : Stands met.ways.items done id = read_stands met.ways.items done id below c.index-next.ensures in
    let within = met_within p c.requires.sound c.args.flags.now c.args.way.n c.requires.inside done met done id
    c.loop-done.invariant at in
    taking_next p c.requires.sound c.args.flags.now c.args.way.n c.requires.inside done met c.meet_parts.new.met id
    c.index.result.now at (read_stands p.ways.items id.n c.index.result.now within c.index.ensures)
    c.in_ok-meet_parts.ensures c.loop-done.invariant

pub returns : goal.returns
returns c =
    let met = c.loop-done.met in
    let count : c.len.result ≡ length met.ways.items = c.len.ensures ∙ (let h : vec_len met.ways ≡ length met.ways.items = omega (arith, met.ways.ok.0) in h) in
    taking_all c.args.parts.now c.requires.sound c.args.flags.now c.args.way.n c.requires.inside c.loop-done.done met (let h = c.loop-done-test.false in omega (arith, h, count)) c.loop-done.invariant
