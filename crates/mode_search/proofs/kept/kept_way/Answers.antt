use Rattle.std.proofs.Common.{◌≡◌, ◌∙◌, List, Option, MatchOption, refl, sym, ap, subst}
use Rattle.ar_base.specs.Lists.{HasNo}
use Rattle.ar_base.proofs.Standing.{stands_one, stands_item}
use Rattle.ar_firing.specs.Fragment.{IsStateOf}
use Rattle.gts_core.specs.View.{net_of}
use Rattle.gts_core.specs.declared.system.Assign.{Assign}
use Rattle.gts_core.specs.declared.system.Way.{Way}
use Rattle.mode_search.specs.Modes.{IsWayMode, transition_of}
use Rattle.mode_search.specs.declared.modes.WayMode.{WayMode}
use Rattle.mode_search.proofs.kept.kept_way.Goals as goal

pub returns-in-Some : goal.returns-in-Some
returns-in-Some c =
    let p = c.args.parts.now in
    let unit = c.args.event.now.unit.n in
    let m = subst (λ (z : Option WayMode). MatchOption z (HasNo (net_of p).variables (IsStateOf unit))
    (IsWayMode p unit (transition_of c.in-Local.guard c.deref.result.now))) c.in-Some.is
    c.in_ok-mode-in-Local.ensures in
    record {
      guard = c.in-Local.guard;
      action = c.in-Local.action;
      local = record {
        way = c.index.result.now;
        stands = stands_item p.ways.items c.args.way.n c.index.result.now c.requires.inside c.index.ensures;
        body =
            c.in-Local.is;
      };
      is_event = refl;
      is_way = refl;
      visible = refl;
      mode = subst (λ (z : List Assign). IsWayMode p unit (transition_of c.in-Local.guard z) c.in-Some.mode)
          c.deref.ensures.value m;
    }

pub returns-in-Sync : goal.returns-in-Sync
returns-in-Sync c = λ g act loc.
    let same : loc.way ≡ c.index.result.now =
    stands_one c.args.parts.now.ways.items c.args.way.n loc.way c.index.result.now loc.stands
    (stands_item c.args.parts.now.ways.items c.args.way.n c.index.result.now c.requires.inside
    c.index.ensures) in
    let e = sym loc.body ∙ ap (λ (z : Way). z.body) same ∙ c.in-Sync.is in
    cc
