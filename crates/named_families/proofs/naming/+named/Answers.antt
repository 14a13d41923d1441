use Rattle.std.proofs.Common.{◌<◌, ◌+◌, length, get_or, sym, ap, ◌∙◌, subst, arith}
use Rattle.ar_base.specs.NumbersInside.{EventId}
use Rattle.ar_base.proofs.Standing.{stands_within, stands_get}
use Rattle.zdd_nodes.specs.Nodes.{NodeId, family}
use Rattle.diagram_steps.proofs.Growing.{extends_none, extends_then}
use Rattle.named_families.specs.Named.{AreNumbers, HasAllSets}
use Rattle.named_families.proofs.Named.{numbers_none, numbers_grow, numbers_more, kept_grow, kept_set, known_named}
use Rattle.named_families.proofs.Parts.{AreParts, parts_none, parts_grow, upper_names, event_name, parts_more, parts_done}
use Rattle.named_families.proofs.naming.+named.Goals as goal

abbrev no_event : EventId
no_event = record { n = 0; of = record {} }

pub loop-event-init : goal.loop-event-init
loop-event-init t c =
    let names = c.args.names.now in
    let s = c.args.ops.now in
    let f = family c.args.source.now c.args.number.n in
    record {
      before = omega arith;
      grows = extends_none s;
      kept = c.requires.kept;
      numbers = subst (AreNumbers s) (sym c.new-parts.ensures.items) (numbers_none s);
      parts = subst (AreParts names f f s) (sym c.new-parts.ensures.items) (parts_none names f s);
    }

pub named-requires : goal.named-requires
named-requires t c =
    let i = c.in-Some.ensures in
    let v = c.loop-event.invariant in
    let source = c.args.source.now in (
      omega (arith, i.hi_before, v.before),
      (
        c.requires.sound,
        (
          omega (arith, i.hi_before, v.before, c.requires.number_in),
          (
            upper_names c.args.names.now (family source c.args.number.n) source.families c.loop-event.left.n
                c.in-Some.event.n c.in-Some.lo.n c.in-Some.hi.n i v.parts.within c.requires.names,
            v.kept,
          ),
        ),
      ),
    )

pub returns-in_err-upper-clause-grows : goal.returns-in_err-upper-clause-grows
returns-in_err-upper-clause-grows t c =
    extends_then c.args.ops.now c.loop-event.ops c.named.new.ops c.loop-event.invariant.grows
    c.in_err-upper.ensures.grows

pub bounds-names-event : goal.bounds-names-event
bounds-names-event t c =
    let source = c.args.source.now in
    let e = event_name c.args.names.now (family source c.args.number.n) source.families c.loop-event.left.n
    c.in-Some.event.n c.in-Some.lo.n c.in-Some.hi.n c.in-Some.ensures c.loop-event.invariant.parts.within
    c.requires.names in
    stands_within c.args.names.now c.in-Some.event.n e.0 e.1

pub returns-in_err-part-clause-grows : goal.returns-in_err-part-clause-grows
returns-in_err-part-clause-grows t c =
    extends_then c.args.ops.now c.named.new.ops c.put_in_all.new.ops
    (extends_then c.args.ops.now c.loop-event.ops c.named.new.ops c.loop-event.invariant.grows
    c.in_ok-upper.ensures.grows)
    c.in_err-part.ensures.grows

pub returns-in_err-part-clause-kept : goal.returns-in_err-part-clause-kept
returns-in_err-part-clause-kept t c =
    kept_grow c.args.names.now c.args.source.now c.named.new.ops c.put_in_all.new.ops c.named.new.kept
    c.in_err-part.ensures.grows c.in_ok-upper.ensures.kept

pub returns-in_err-push-clause-grows : goal.returns-in_err-push-clause-grows
returns-in_err-push-clause-grows t c =
    extends_then c.args.ops.now c.named.new.ops c.put_in_all.new.ops
    (extends_then c.args.ops.now c.loop-event.ops c.named.new.ops c.loop-event.invariant.grows
    c.in_ok-upper.ensures.grows)
    c.in_ok-part.ensures.grows

pub returns-in_err-push-clause-kept : goal.returns-in_err-push-clause-kept
returns-in_err-push-clause-kept t c =
    kept_grow c.args.names.now c.args.source.now c.named.new.ops c.put_in_all.new.ops c.named.new.kept
    c.in_ok-part.ensures.grows c.in_ok-upper.ensures.kept

pub loop-event-preserved : goal.loop-event-preserved
loop-event-preserved t c =
    let names = c.args.names.now in
    let source = c.args.source.now in
    let f = family source c.args.number.n in
    let i = c.in-Some.ensures in
    let v = c.loop-event.invariant in
    let parts = c.loop-event.parts.items in
    let s = c.loop-event.ops in
    let w = c.named.new.ops in
    let u = c.put_in_all.new.ops in
    let part = c.in_ok-part.part in
    let event = c.in-Some.event.n in
    let lo = c.in-Some.lo.n in
    let hi = c.in-Some.hi.n in
    let left = c.loop-event.left.n in
    let e = extends_then s w u c.in_ok-upper.ensures.grows c.in_ok-part.ensures.grows in
    let n = event_name names f source.families left event lo hi i v.parts.within c.requires.names in
    let st = stands_get names event no_event (stands_within names event n.0 n.1) in
    let grown = parts_grow names f (family source left) s u parts e v.numbers v.parts in
    record {
      before = omega (arith, i.lo_before, v.before);
      grows = extends_then c.args.ops.now s u v.grows e;
      kept = kept_grow names source w u c.named.new.kept c.in_ok-part.ensures.grows c.in_ok-upper.ensures.kept;
      numbers = subst (AreNumbers u) (sym c.in_ok-push.ensures.items)
          (numbers_more u parts part (numbers_grow s u parts e v.numbers) c.in_ok-part.ensures.in_store);
      parts = subst (AreParts names f (family source lo) u) (sym c.in_ok-push.ensures.items)
          (parts_more names f source.families left event lo hi i u parts grown (get_or names event no_event) st
          (family w c.in_ok-upper.upper.n) c.in_ok-upper.ensures.named part c.in_ok-part.ensures.sets);
    }

pub union_of-requires : goal.union_of-requires
union_of-requires t c =
    let v = c.loop-event.invariant in
    let s = c.loop-event.ops in
    let left = c.loop-event.left in
    let within : left.n < length c.args.source.now.families + 2 = omega (arith, v.before, c.requires.number_in) in
    let k = known_named c.args.names.now c.args.source.now s c.loop-event.kept left.n left c.known.result within v.kept
    (λ h. ap (λ (x : NodeId). x.n) (c.known.ensures.small h)) c.known.ensures.others c.in_default.ensures in
    record {
      numbers = subst (AreNumbers s) (sym (c.deref.ensures.value ∙ c.in_ok-push-2.ensures.items))
          (numbers_more s c.loop-event.parts.items c.known.result v.numbers k.0);
    }

pub returns-in_err-whole-clause-grows : goal.returns-in_err-whole-clause-grows
returns-in_err-whole-clause-grows t c =
    extends_then c.args.ops.now c.loop-event.ops c.union_of.new.ops c.loop-event.invariant.grows
    c.in_err-whole.ensures.grows

pub returns-in_err-whole-clause-kept : goal.returns-in_err-whole-clause-kept
returns-in_err-whole-clause-kept t c =
    kept_grow c.args.names.now c.args.source.now c.loop-event.ops c.union_of.new.ops c.loop-event.kept
    c.in_err-whole.ensures.grows c.loop-event.invariant.kept

pub returns-clause-grows : goal.returns-clause-grows
returns-clause-grows t c =
    extends_then c.args.ops.now c.loop-event.ops c.union_of.new.ops c.loop-event.invariant.grows
    c.in_ok-whole.ensures.grows

pub returns-clause-named : goal.returns-clause-named
returns-clause-named t c =
    let v = c.loop-event.invariant in
    let s = c.loop-event.ops in
    let left = c.loop-event.left in
    let names = c.args.names.now in
    let source = c.args.source.now in
    let within : left.n < length source.families + 2 = omega (arith, v.before, c.requires.number_in) in
    let k = known_named names source s c.loop-event.kept left.n left c.known.result within v.kept
    (λ h. ap (λ (x : NodeId). x.n) (c.known.ensures.small h)) c.known.ensures.others c.in_default.ensures in
    let whole = family c.union_of.new.ops c.in_ok-whole.whole.n in
    parts_done names (family source c.args.number.n) (family source left.n) s c.loop-event.parts.items c.known.result
    whole v.parts k.1
    (subst (λ z. HasAllSets s z whole) (c.deref.ensures.value ∙ c.in_ok-push-2.ensures.items)
    c.in_ok-whole.ensures.sets)

pub returns-clause-kept : goal.returns-clause-kept
returns-clause-kept t c =
    let v = c.loop-event.invariant in
    let s = c.loop-event.ops in
    let u = c.union_of.new.ops in
    let left = c.loop-event.left in
    let names = c.args.names.now in
    let source = c.args.source.now in
    let within : left.n < length source.families + 2 = omega (arith, v.before, c.requires.number_in) in
    let k = known_named names source s c.loop-event.kept left.n left c.known.result within v.kept
    (λ h. ap (λ (x : NodeId). x.n) (c.known.ensures.small h)) c.known.ensures.others c.in_default.ensures in
    let whole = family u c.in_ok-whole.whole.n in
    kept_set names source u c.loop-event.kept c.args.number.n c.in_ok-whole.whole
    (kept_grow names source s u c.loop-event.kept c.in_ok-whole.ensures.grows v.kept) c.in_ok-whole.ensures.in_store
    (parts_done names (family source c.args.number.n) (family source left.n) s c.loop-event.parts.items c.known.result
    whole v.parts k.1
    (subst (λ z. HasAllSets s z whole) (c.deref.ensures.value ∙ c.in_ok-push-2.ensures.items)
    c.in_ok-whole.ensures.sets))
