use Rattle.std.proofs.Common.{◌≡◌, Bool, ℕ, Option, length, map, subst, sym, arith}
use Rattle.std.proofs.lemmas.Bool.{not-true, not-false}
use Rattle.ar_base.specs.Lists.{IsOneOf}
use Rattle.ar_base.proofs.Standing.{stands_item}
use Rattle.ar_base.proofs.Results.{ok_as}
use Rattle.flow_propagate.specs.Plan.{Reader, plain_pair}
use Rattle.flow_propagate.specs.Closing.{AppliesAssignment, AddsWork, Hears}
use Rattle.flow_propagate.proofs.Worklists.{by_length, adds_pairs, readers_below}
use Rattle.flow_propagate.proofs.Looking.{looks_still, looks_more}
use Rattle.flow_propagate.proofs.Hearing.{hears_still, hears_more}
use Rattle.flow_propagate.proofs.closing.look_at.Goals as goal

pub apply-requires-clause-one : goal.apply-requires-clause-one
apply-requires-clause-one c = record {
  place = c.args.n;
  stands = stands_item c.args.parts.now.assigns.items c.args.n c.index-assign.result.now
      c.requires.below c.index-assign.ensures;
}

pub returns-then-not-look : goal.returns-then-not-look
returns-then-not-look c =
    let p = c.args.parts.now in
    let a = c.index-assign.result.now in
    let old = c.args.table.now.rows.items in
    let new = c.apply.new.table.rows.items in
    let st = stands_item p.assigns.items c.args.n a c.requires.below c.index-assign.ensures in
    let m = subst (λ (b : Bool). AppliesAssignment p a old new b) (not-true _ c.if-not-look.true) c.in_ok-look.ensures.applies in
    record {
      looks = looks_still p (length c.args.readers.now.pairs.items) c.args.n a old new c.args.work.now c.requires.work
          st m;
      hears = subst (λ (o : Option ℕ). Hears p c.args.n old c.args.outside.now c.args.work.now new o c.args.work.now)
          (sym c.with_target.ensures)
          (hears_still p c.args.n a st old new c.in_ok-look.look.outside c.args.outside.now c.in_ok-look.ensures.outside
          c.args.work.now m);
    }

pub add_readers-requires-clause-is : goal.add_readers-requires-clause-is
add_readers-requires-clause-is c = by_length _ _ c.requires.work

pub add_readers-requires-clause-below : goal.add_readers-requires-clause-below
add_readers-requires-clause-below c = λ r o. let h = readers_below c.args.parts.now c.args.readers.now.pairs.items c.requires.readers r o in omega (arith, h, c.requires.work.long)

pub returns : goal.returns
returns c =
    let p = c.args.parts.now in
    let a = c.index-assign.result.now in
    let old = c.args.table.now.rows.items in
    let new = c.apply.new.table.rows.items in
    let readers = c.args.readers.now.pairs.items in
    let st = stands_item p.assigns.items c.args.n a c.requires.below c.index-assign.ensures in
    let m = subst (λ (b : Bool). AppliesAssignment p a old new b) (not-false _ c.if-not-look.false)
    c.in_ok-look.ensures.applies in
    let adds : AddsWork (length c.args.work.now.places.now) (length readers)
    (λ m. (r : Reader) × IsOneOf readers r × (r.0.n ≡ a.target.n) × (r.1.n ≡ m)) c.args.work.now
    c.add_readers.new.work → AddsWork (length p.assigns.items) (length readers)
    (λ m. IsOneOf (map plain_pair readers) (a.target.n, m)) c.args.work.now c.add_readers.new.work =
    λ h. subst (λ (z : ℕ). AddsWork z (length readers) (λ m. IsOneOf (map plain_pair readers) (a.target.n, m))
    c.args.work.now c.add_readers.new.work) c.requires.work.long
    (adds_pairs _ (length readers) readers a.target.n c.args.work.now c.add_readers.new.work h) in
    record {
      looks = ok_as _ _ c.add_readers.result
          (λ h. looks_more p (map plain_pair readers) (length readers) c.args.n a old new c.args.work.now
          c.add_readers.new.work c.requires.readers st m (adds h)) c.add_readers.ensures;
      hears = ok_as _ _ c.add_readers.result
          (λ h. subst (λ (o : Option ℕ). Hears p c.args.n old c.args.outside.now c.args.work.now new o
          c.add_readers.new.work) (sym c.with_target.ensures)
          (hears_more p c.args.n a st old new c.in_ok-look.look.outside c.args.outside.now c.in_ok-look.ensures.outside
          (map plain_pair readers) (length readers) c.args.work.now c.add_readers.new.work c.requires.readers m
          (adds h))) c.add_readers.ensures;
    }
