use Rattle.std.proofs.Common.{◌<◌, ◌^◌, length, refl, ap, arith}
use Rattle.ar_base.proofs.Standing.{stands_one}
use Rattle.class_table.proofs.Taken.{item_stands}
use Rattle.gts_core.specs.declared.bound.DeclaredEvent.{DeclaredEvent}
use Rattle.bind_names.specs.Gathering.{there, nowhere}
use Rattle.bind_names.proofs.gathering.put.Goals as goal

pub returns : goal.returns
returns c =
    let events = c.args.events.now.items in
    let n = c.args.event.n in
    let event = c.index_mut.result.now in
    let l : n < length events = omega (arith, c.if-n-len.false, c.len.ensures, c.args.events.now.ok.0) in
    let s = item_stands events n event l c.index_mut.ensures.value in
    let e = ap (λ (d : DeclaredEvent). length d.ways.items)
    (stands_one events n c.index.result.now event (item_stands events n c.index.result.now l c.index.ensures)
    s) in
    let few : length c.push.new.self.items < 2 ^ 32 =
    omega (
      arith,
      c.if-len.false,
      c.len-2.ensures,
      c.index.result.now.ways.ok.0,
      event.ways.ok.0,
      e,
      c.in_ok-push.ensures.len,
      c.push.new.self.ok.0,
    ) in
    there (record {
      event = event;
      stands = s;
      ways = c.push.new.self;
      is = c.in_ok-push.ensures.items;
      few = few;
      new_is = refl;
    })

pub returns-then-n-len : goal.returns-then-n-len
returns-then-n-len c = nowhere (omega (arith, c.if-n-len.true, c.len.ensures, c.args.events.now.ok.0)) refl
