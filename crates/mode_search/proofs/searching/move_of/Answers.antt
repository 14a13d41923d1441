use Rattle.std.proofs.Common.{◌≡◌, ◌∙◌, List, sym, ap, subst}
use Rattle.ar_base.proofs.Standing.{stands_one, stands_item}
use Rattle.domains.specs.Domains.{values_of}
use Rattle.gts_core.specs.declared.system.Way.{Way}
use Rattle.gts_core.specs.declared.system.Assign.{Assign}
use Rattle.ar_firing.specs.Fragment.{At}
use Rattle.mode_search.specs.Modes.{transition_of}
use Rattle.mode_search.specs.Moves.{IsMove}
use Rattle.mode_search.proofs.Ending.{led_is}
use Rattle.mode_search.proofs.searching.move_of.Goals as goal

pub returns-in-Sync : goal.returns-in-Sync
returns-in-Sync c = λ g act loc can.
    let same : loc.way ≡ c.index.result.now =
    stands_one c.args.parts.now.ways.items c.args.way.n loc.way c.index.result.now loc.stands
    (stands_item c.args.parts.now.ways.items c.args.way.n c.index.result.now c.requires.inside
    c.index.ensures) in
    let e = sym loc.body ∙ ap (λ (z : Way). z.body) same ∙ c.in-Sync.is in
    cc

pub returns-in_ok-led-in-Local : goal.returns-in_ok-led-in-Local
returns-in_ok-led-in-Local c =
    let p = c.args.parts.now in
    led_is p c.args.variable.n (values_of c.args.domain.now) c.args.way.n c.args.mode c.in-Local.guard c.in-Local.action
    (record {
      way = c.index.result.now;
      stands = stands_item p.ways.items c.args.way.n c.index.result.now c.requires.inside c.index.ensures;
      body =
          c.in-Local.is;
    })
    c.in_ok-led-in-Local.led
    (subst (λ (z : List Assign). IsMove (At c.args.variable.n c.args.mode) (transition_of c.in-Local.guard z)
    c.args.variable.n (values_of c.args.domain.now) c.in_ok-led-in-Local.led) c.deref.ensures.value
    c.in_ok-led-in-Local.ensures)
