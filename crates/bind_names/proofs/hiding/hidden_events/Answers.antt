use Rattle.std.proofs.Common.{◌≡◌, ◌<◌, ◌≤◌, ◌+◌, ℕ, List, Bool, [], take, take_all, length, replicate, false, sym, ◌∙◌, ap, subst, arith}
use Rattle.std.specs.List.{flat_map}
use Rattle.ar_base.specs.Lists.{Stands}
use Rattle.ar_base.proofs.Standing.{stands_some, one_none, along_length}
use Rattle.class_table.specs.Members.{Site, owned_at}
use Rattle.hierarchy.specs.Units.{UnitPath}
use Rattle.hierarchy.specs.Listing.{events, form_of, forms_at}
use Rattle.source_meaning.specs.Systems.{IsHidden}
use Rattle.bind_names.specs.Hiding.{HidesIn, Marks}
use Rattle.bind_names.proofs.Marked.{marks_none, marks_join, marks_tell, hidden_next, hidden_back}
use Rattle.bind_names.proofs.hiding.hidden_events.Goals as goal

pub loop-place-init : goal.loop-place-init
loop-place-init c = λ m units is.
    let n : c.len.result ≡ length c.args.scopes.now.tree.now.events.items =
    omega (arith, c.len.ensures, c.args.scopes.now.tree.now.events.ok.0) in
    let e = c.in_ok-marks.ensures ∙ ap (λ (k : ℕ). replicate k false) n in
    let unset = replicate (length c.args.scopes.now.tree.now.events.items) false in
    subst (λ (z : List Bool). Marks (events m units) (IsHidden m []) unset z) (sym e)
    (marks_none (events m units) (IsHidden m []) unset (λ t h. one_none h.clause h.is_clause))

pub loop-place-preserved : goal.loop-place-preserved
loop-place-preserved c = λ m units is.
    let i = c.loop-place.place in
    let n : c.len-place-end.result ≡ length c.args.scopes.now.tree.now.units.items =
    omega (arith, c.len-place-end.ensures, c.args.scopes.now.tree.now.units.ok.0) in
    let k = along_length units c.args.scopes.now.tree.now.units.items is.units_are in
    let l : i < length units = omega (arith, c.loop-place-test.true, n, k) in
    let w = stands_some units i l in
    let at = subst (λ (z : ℕ). Stands units z w.0) (sym c.new-unit.ensures) w.1 in
    let sites = c.sites_of-sites.ensures m units w.0 is at in
    let marked = c.hide_in.ensures m units w.0 is at in
    let here = subst (λ (ss : List Site). Marks (events m units)
    (HidesIn m w.0 (flat_map (λ (s : Site). form_of (owned_at m.declared s)) ss)) c.loop-place.marks.items
    c.hide_in.new.marks.items) sites marked in
    marks_join (events m units) (IsHidden m (take i units)) (HidesIn m w.0 (forms_at m w.0))
    (IsHidden m (take (i + 1) units)) (replicate (length c.args.scopes.now.tree.now.events.items) false)
    c.loop-place.marks.items c.hide_in.new.marks.items
    (λ t h. hidden_next m units i w.0 w.1 t h) (λ t h. hidden_back m units i w.0 w.1 t h)
    (c.loop-place.invariant m units is) here

pub returns : goal.returns
returns c = λ m units is.
    let n : c.len-place-end.result ≡ length c.args.scopes.now.tree.now.units.items =
    omega (arith, c.len-place-end.ensures, c.args.scopes.now.tree.now.units.ok.0) in
    let k = along_length units c.args.scopes.now.tree.now.units.items is.units_are in
    let j = along_length (events m units) c.args.scopes.now.tree.now.events.items is.events_are in
    let l : length units ≤ c.loop-place.place = omega (arith, c.loop-place-test.false, n, k) in
    let unset = replicate (length c.args.scopes.now.tree.now.events.items) false in
    marks_tell m units (length c.args.scopes.now.tree.now.events.items) c.loop-place.marks.items (sym j)
    (subst (λ (us : List UnitPath). Marks (events m units) (IsHidden m us) unset c.loop-place.marks.items)
    (take_all c.loop-place.place units l) (c.loop-place.invariant m units is))
