use Rattle.std.proofs.Common.{List, [], ◌∷◌, ◌++◌, refl, ap, ◌∙◌, arith}
use Rattle.domains.specs.Domains.{values_of}
use Rattle.domains.proofs.Domains.{listed}
use Rattle.domains.specs.declared.Value.{Value}
use Rattle.ar_base.proofs.Standing.{stands_item}
use Rattle.mode_search.specs.Reached.{Setting}
use Rattle.mode_search.proofs.Reaching.{start_reaching, reaching_next}
use Rattle.mode_search.proofs.Ending.{modes_few, reached_end}
use Rattle.mode_search.proofs.searching.reached.Goals as goal

pub loop-next-init : goal.loop-next-init
loop-next-init c =
    let place = c.index-place.result.now in
    let st = stands_item c.args.parts.now.variables.items c.args.variable.n place c.requires.variable
    c.index-place.ensures in
    let s : Setting = record {
      parts = c.args.parts.now;
      number = c.args.variable.n;
      domain = values_of place.domain;
      ways = c.args.ways.now;
    } in
    start_reaching s place.value _
    (listed place.domain place.value (c.requires.sound.variables c.args.variable.n place st).value) (record {
      modes = c.in_ok-push.ensures.items ∙ ap (λ (z : List Value). z ++ place.value ∷ []) c.new-modes.ensures.items;
      edges = c.new.ensures.items;
      wrong = refl;
      again = refl;
    })

pub expand-requires-clause-domain : goal.expand-requires-clause-domain
expand-requires-clause-domain c =
    let place = c.index-place.result.now in
    let st = stands_item c.args.parts.now.variables.items c.args.variable.n place c.requires.variable
    c.index-place.ensures in
    (c.requires.sound.variables c.args.variable.n place st).domain

pub loop-next-smaller : goal.loop-next-smaller
loop-next-smaller c =
    let place = c.index-place.result.now in
    let s : Setting = record {
      parts = c.args.parts.now;
      number = c.args.variable.n;
      domain = values_of place.domain;
      ways = c.args.ways.now;
    } in
    let few = modes_few s place.value c.loop-next.next 0 c.loop-next.found c.loop-next.invariant in
    omega (arith, few, c.loop-next-test.true, c.len.ensures)

pub loop-next-preserved : goal.loop-next-preserved
loop-next-preserved c =
    let place = c.index-place.result.now in
    let s : Setting = record {
      parts = c.args.parts.now;
      number = c.args.variable.n;
      domain = values_of place.domain;
      ways = c.args.ways.now;
    } in
    let at = stands_item c.loop-next.found.modes.items c.loop-next.next c.index-mode.result.now
    (omega (arith, c.loop-next-test.true, c.len.ensures)) c.index-mode.ensures in
    let k = c.in_ok-expand.ensures.on place.value c.loop-next.next c.requires.apart at c.loop-next.invariant in
    reaching_next s place.value c.loop-next.next c.expand.new.found k.1

pub returns : goal.returns
returns c =
    let place = c.index-place.result.now in
    let st = stands_item c.args.parts.now.variables.items c.args.variable.n place c.requires.variable
    c.index-place.ensures in
    let s : Setting = record {
      parts = c.args.parts.now;
      number = c.args.variable.n;
      domain = values_of place.domain;
      ways = c.args.ways.now;
    } in
    record {
      variable = place;
      stands = st;
      is = reached_end s place.value c.loop-next.next c.loop-next.found
          (omega (arith, c.len.ensures, c.loop-next-test.false)) c.loop-next.invariant;
    }
