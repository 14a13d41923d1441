use Rattle.std.proofs.Common.{arith, ◌≡◌, ◌+◌, ◌++◌, ◌∷◌, [], length, sym, ap, ◌∙◌, cond, refl}
use Rattle.zdd_nodes.specs.SectionsInside.{IsMade}
use Rattle.zdd_nodes.specs.Nodes.MakesFamily.{known}
use Rattle.zdd_nodes.specs.declared.Node.{Node}
use Rattle.zdd_nodes.proofs.Stored.{IsCall}
use Rattle.zdd_nodes.proofs.Calls.{asked, sound_seen, number_of_lo, number_found, no_room_not, no_room, is_full, room_left, makes_new, draws_new, store_new, IsStore-same, from_ok, ok_from_not_err, not_ok, popped_same, derived_lookup, derived_updates}
use Rattle.zdd_nodes.proofs.Growing.{Draws-stays, Draws-full}
use Rattle.zdd_nodes.proofs.Store.node.Goals as goal

pub returns-then-hi-eq0-clause-made : goal.returns-then-hi-eq0-clause-made
returns-then-hi-eq0-clause-made c =
    let n : Node = record { event = c.args.event; lo = c.args.lo; hi = c.args.hi } in
    let t = number_of_lo c.args.self.now n c.requires.lo_in c.if-hi-eq0.true in
    known c.args.lo.n t.0 t.1

pub returns-then-hi-eq0-clause-full : goal.returns-then-hi-eq0-clause-full
returns-then-hi-eq0-clause-full c =
    let n : Node = record { event = c.args.event; lo = c.args.lo; hi = c.args.hi } in
    let t = number_of_lo c.args.self.now n c.requires.lo_in c.if-hi-eq0.true in
    (λ e. cc, λ f. absurd (no_room_not (asked c.args.self.now n) c.args.self.now c.args.lo.n t f))

pub returns-then-hi-eq0-clause-drawn : goal.returns-then-hi-eq0-clause-drawn
returns-then-hi-eq0-clause-drawn c =
    let n : Node = record { event = c.args.event; lo = c.args.lo; hi = c.args.hi } in
    let t = number_of_lo c.args.self.now n c.requires.lo_in c.if-hi-eq0.true in
    Draws-stays (IsMade (asked c.args.self.now n)) (asked c.args.self.now n) c.args.self.now c.args.lo t.0 t.1

pub returns-then-hi-eq0-clause-sound : goal.returns-then-hi-eq0-clause-sound
returns-then-hi-eq0-clause-sound c =
    sound_seen _ _ _ c.args.self.now c.self.view_is c.self.invariant

pub returns-in-Some-clause-made : goal.returns-in-Some-clause-made
returns-in-Some-clause-made c =
    let n : Node = record { event = c.args.event; lo = c.args.lo; hi = c.args.hi } in
    let hit = sym (derived_lookup n c.self.inside.index.entries) ∙ sym c.get.ensures.value ∙ sym c.copied.ensures
    ∙ c.in-Some.is in
    let t = number_found _ _ _ c.args.self.now n c.in-Some.number c.self.view_is c.self.invariant hit in
    known c.in-Some.number.n t.0 t.1

pub returns-in-Some-clause-full : goal.returns-in-Some-clause-full
returns-in-Some-clause-full c =
    let n : Node = record { event = c.args.event; lo = c.args.lo; hi = c.args.hi } in
    let hit = sym (derived_lookup n c.self.inside.index.entries) ∙ sym c.get.ensures.value ∙ sym c.copied.ensures
    ∙ c.in-Some.is in
    let t = number_found _ _ _ c.args.self.now n c.in-Some.number c.self.view_is c.self.invariant hit in
    (λ e. cc, λ f. absurd (no_room_not (asked c.args.self.now n) c.args.self.now c.in-Some.number.n t f))

pub returns-in-Some-clause-drawn : goal.returns-in-Some-clause-drawn
returns-in-Some-clause-drawn c =
    let n : Node = record { event = c.args.event; lo = c.args.lo; hi = c.args.hi } in
    let hit = sym (derived_lookup n c.self.inside.index.entries) ∙ sym c.get.ensures.value ∙ sym c.copied.ensures
    ∙ c.in-Some.is in
    let t = number_found _ _ _ c.args.self.now n c.in-Some.number c.self.view_is c.self.invariant hit in
    Draws-stays (IsMade (asked c.args.self.now n)) (asked c.args.self.now n) c.args.self.now c.in-Some.number t.0 t.1

pub returns-in-Some-clause-sound : goal.returns-in-Some-clause-sound
returns-in-Some-clause-sound c =
    sound_seen _ _ _ c.args.self.now c.self.view_is c.self.invariant

pub returns-then-count-self-clause-full : goal.returns-then-count-self-clause-full
returns-then-count-self-clause-full c =
    let n : Node = record { event = c.args.event; lo = c.args.lo; hi = c.args.hi } in
    let miss = sym (derived_lookup n c.self.inside.index.entries) ∙ sym c.get.ensures.value ∙ sym c.copied.ensures
    ∙ c.in_default.is in
    let k : IsCall c.args.self.now.families n =
    record {
      lo_in = c.requires.lo_in;
      hi_in = c.requires.hi_in;
      hi_some = omega arith;
      lo_above = c.requires.lo_above;
      hi_above = c.requires.hi_above;
    } in (
      λ _. no_room _ _ _ c.args.self.now n c.self.view_is c.self.invariant k miss
          (omega (arith, c.self.inside.nodes.ok.0)),
      λ _. refl,
    )

pub returns-then-count-self-clause-drawn : goal.returns-then-count-self-clause-drawn
returns-then-count-self-clause-drawn c =
    let n : Node = record { event = c.args.event; lo = c.args.lo; hi = c.args.hi } in
    let miss = sym (derived_lookup n c.self.inside.index.entries) ∙ sym c.get.ensures.value ∙ sym c.copied.ensures
    ∙ c.in_default.is in
    let k : IsCall c.args.self.now.families n =
    record {
      lo_in = c.requires.lo_in;
      hi_in = c.requires.hi_in;
      hi_some = omega arith;
      lo_above = c.requires.lo_above;
      hi_above = c.requires.hi_above;
    } in
    Draws-full (IsMade (asked c.args.self.now n)) (asked c.args.self.now n) c.args.self.now
    (is_full _ _ _ c.args.self.now n c.self.view_is c.self.invariant k miss
    (omega (arith, c.self.inside.nodes.ok.0)))

pub returns-then-count-self-clause-sound : goal.returns-then-count-self-clause-sound
returns-then-count-self-clause-sound c =
    sound_seen _ _ _ c.args.self.now c.self.view_is c.self.invariant

pub returns-then-is_err-clause-full : goal.returns-then-is_err-clause-full
returns-then-is_err-clause-full c =
    let n : Node = record { event = c.args.event; lo = c.args.lo; hi = c.args.hi } in (
      λ e. cc,
      λ f. absurd (room_left c.self.inside.nodes.items c.self.inside.limit c.args.self.now
          (asked c.args.self.now n) c.self.view_is (omega (arith, c.self.inside.nodes.ok.0)) f),
    )

pub returns-then-is_err-clause-sound : goal.returns-then-is_err-clause-sound
returns-then-is_err-clause-sound c =
    let n : Node = record { event = c.args.event; lo = c.args.lo; hi = c.args.hi } in
    sound_seen c.push.new.self.items _ _ _ refl
    (IsStore-same _ _ _ _ c.self.inside.limit
    (c.push.ensures.items ∙ ap (λ b. cond b (c.self.inside.nodes.items ++ n ∷ []) c.self.inside.nodes.items)
    (not_ok c.push.result (sym c.is_err.ensures.value ∙ c.if-is_err.true))) refl c.self.invariant)

pub returns-then-is_err-2-clause-full : goal.returns-then-is_err-2-clause-full
returns-then-is_err-2-clause-full c =
    let n : Node = record { event = c.args.event; lo = c.args.lo; hi = c.args.hi } in (
      λ e. cc,
      λ f. absurd (room_left c.self.inside.nodes.items c.self.inside.limit c.args.self.now
          (asked c.args.self.now n) c.self.view_is (omega (arith, c.self.inside.nodes.ok.0)) f),
    )

pub returns-then-is_err-2-clause-sound : goal.returns-then-is_err-2-clause-sound
returns-then-is_err-2-clause-sound c =
    let n : Node = record { event = c.args.event; lo = c.args.lo; hi = c.args.hi } in
    let pushed : c.push.new.self.items ≡ c.self.inside.nodes.items ++ n ∷ [] =
    c.push.ensures.items ∙ ap (λ b. cond b (c.self.inside.nodes.items ++ n ∷ []) c.self.inside.nodes.items)
    (ok_from_not_err c.push.result (sym c.is_err.ensures.value ∙ c.if-is_err.false)) in
    sound_seen c.pop.new.self.items c.self.inside.index.entries _ _ refl
    (IsStore-same _ _ _ _ c.self.inside.limit (popped_same _ _ _ n _ pushed (omega arith) c.pop.ensures.rest) refl
    c.self.invariant)

pub invariant_of-self-else-is_err-2 : goal.invariant_of-self-else-is_err-2
invariant_of-self-else-is_err-2 c =
    let n : Node = record { event = c.args.event; lo = c.args.lo; hi = c.args.hi } in
    let miss = sym (derived_lookup n c.self.inside.index.entries) ∙ sym c.get.ensures.value ∙ sym c.copied.ensures
    ∙ c.in_default.is in
    let k : IsCall c.args.self.now.families n =
    record {
      lo_in = c.requires.lo_in;
      hi_in = c.requires.hi_in;
      hi_some = omega arith;
      lo_above = c.requires.lo_above;
      hi_above = c.requires.hi_above;
    } in
    let pushed : c.push.new.self.items ≡ c.self.inside.nodes.items ++ n ∷ [] =
    c.push.ensures.items ∙ ap (λ b. cond b (c.self.inside.nodes.items ++ n ∷ []) c.self.inside.nodes.items)
    (ok_from_not_err c.push.result (sym c.is_err.ensures.value ∙ c.if-is_err.false)) in
    let is : c.new-number.result.n ≡ length c.self.inside.nodes.items + 2 =
    omega (arith, c.self.inside.nodes.ok.0, c.new-number.ensures) in
    let u = from_ok c.insert.result _ (sym c.is_err-2.ensures.value ∙ c.if-is_err-2.false) c.insert.ensures.updates in
    store_new _ _ c.self.inside.index.entries c.insert.new.self.entries _ c.args.self.now n c.new-number.result
    c.self.view_is c.self.invariant k miss (omega (arith, c.self.inside.nodes.ok.0)) pushed is
    (derived_updates n c.new-number.result c.self.inside.index.entries c.insert.new.self.entries u.0)

pub returns-clause-made : goal.returns-clause-made
returns-clause-made c =
    let n : Node = record { event = c.args.event; lo = c.args.lo; hi = c.args.hi } in
    let miss = sym (derived_lookup n c.self.inside.index.entries) ∙ sym c.get.ensures.value ∙ sym c.copied.ensures
    ∙ c.in_default.is in
    let k : IsCall c.args.self.now.families n =
    record {
      lo_in = c.requires.lo_in;
      hi_in = c.requires.hi_in;
      hi_some = omega arith;
      lo_above = c.requires.lo_above;
      hi_above = c.requires.hi_above;
    } in
    let pushed : c.push.new.self.items ≡ c.self.inside.nodes.items ++ n ∷ [] =
    c.push.ensures.items ∙ ap (λ b. cond b (c.self.inside.nodes.items ++ n ∷ []) c.self.inside.nodes.items)
    (ok_from_not_err c.push.result (sym c.is_err.ensures.value ∙ c.if-is_err.false)) in
    let is : c.new-number.result.n ≡ length c.self.inside.nodes.items + 2 =
    omega (arith, c.self.inside.nodes.ok.0, c.new-number.ensures) in
    makes_new _ _ c.self.inside.index.entries c.insert.new.self.entries _ c.args.self.now n c.new-number.result
    c.self.view_is c.self.invariant k miss (omega (arith, c.self.inside.nodes.ok.0)) pushed is

pub returns-clause-full : goal.returns-clause-full
returns-clause-full c =
    let n : Node = record { event = c.args.event; lo = c.args.lo; hi = c.args.hi } in (
      λ e. cc,
      λ f. absurd (room_left c.self.inside.nodes.items c.self.inside.limit c.args.self.now
          (asked c.args.self.now n) c.self.view_is (omega (arith, c.self.inside.nodes.ok.0)) f),
    )

pub returns-clause-drawn : goal.returns-clause-drawn
returns-clause-drawn c =
    let n : Node = record { event = c.args.event; lo = c.args.lo; hi = c.args.hi } in
    let miss = sym (derived_lookup n c.self.inside.index.entries) ∙ sym c.get.ensures.value ∙ sym c.copied.ensures
    ∙ c.in_default.is in
    let k : IsCall c.args.self.now.families n =
    record {
      lo_in = c.requires.lo_in;
      hi_in = c.requires.hi_in;
      hi_some = omega arith;
      lo_above = c.requires.lo_above;
      hi_above = c.requires.hi_above;
    } in
    let pushed : c.push.new.self.items ≡ c.self.inside.nodes.items ++ n ∷ [] =
    c.push.ensures.items ∙ ap (λ b. cond b (c.self.inside.nodes.items ++ n ∷ []) c.self.inside.nodes.items)
    (ok_from_not_err c.push.result (sym c.is_err.ensures.value ∙ c.if-is_err.false)) in
    let is : c.new-number.result.n ≡ length c.self.inside.nodes.items + 2 =
    omega (arith, c.self.inside.nodes.ok.0, c.new-number.ensures) in
    draws_new _ _ c.self.inside.index.entries c.insert.new.self.entries _ c.args.self.now n c.new-number.result
    c.self.view_is c.self.invariant k miss (omega (arith, c.self.inside.nodes.ok.0)) pushed is

pub returns-clause-sound : goal.returns-clause-sound
returns-clause-sound c =
    let n : Node = record { event = c.args.event; lo = c.args.lo; hi = c.args.hi } in
    let miss = sym (derived_lookup n c.self.inside.index.entries) ∙ sym c.get.ensures.value ∙ sym c.copied.ensures
    ∙ c.in_default.is in
    let k : IsCall c.args.self.now.families n =
    record {
      lo_in = c.requires.lo_in;
      hi_in = c.requires.hi_in;
      hi_some = omega arith;
      lo_above = c.requires.lo_above;
      hi_above = c.requires.hi_above;
    } in
    let pushed : c.push.new.self.items ≡ c.self.inside.nodes.items ++ n ∷ [] =
    c.push.ensures.items ∙ ap (λ b. cond b (c.self.inside.nodes.items ++ n ∷ []) c.self.inside.nodes.items)
    (ok_from_not_err c.push.result (sym c.is_err.ensures.value ∙ c.if-is_err.false)) in
    let is : c.new-number.result.n ≡ length c.self.inside.nodes.items + 2 =
    omega (arith, c.self.inside.nodes.ok.0, c.new-number.ensures) in
    let u = from_ok c.insert.result _ (sym c.is_err-2.ensures.value ∙ c.if-is_err-2.false) c.insert.ensures.updates in
    sound_seen c.push.new.self.items c.insert.new.self.entries c.self.inside.limit _ refl
    (store_new _ _ c.self.inside.index.entries c.insert.new.self.entries _ c.args.self.now n c.new-number.result
    c.self.view_is c.self.invariant k miss (omega (arith, c.self.inside.nodes.ok.0)) pushed is
    (derived_updates n c.new-number.result c.self.inside.index.entries c.insert.new.self.entries u.0))
