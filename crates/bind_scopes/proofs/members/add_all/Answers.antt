use Rattle.std.proofs.Common.{◌<◌, ◌∙◌, length, Some, List, refl, sym, ap, subst, arith}
use Rattle.std.proofs.lemmas.List.{take_all}
use Rattle.ar_base.specs.Numbers.{NameId}
use Rattle.ar_base.specs.declared.places.Place.{Place}
use Rattle.ar_base.proofs.Standing.{stands_get}
use Rattle.class_table.specs.Members.{NamedMember, all_named}
use Rattle.class_table.proofs.Taken.{take_next}
use Rattle.bind_scopes.specs.Members.{AddsMemberNames}
use Rattle.bind_scopes.proofs.NameSets.{adds_none, adds_more, all_next}
use Rattle.bind_scopes.proofs.members.add_all.Goals as goal

pub loop-name-init : goal.loop-name-init
loop-name-init c = λ s kind. adds_none c.args.body.n c.args.names.now

pub loop-name-preserved : goal.loop-name-preserved
loop-name-preserved c = λ s kind.
    let l : c.loop-name.name-index < length c.args.list.now = omega arith in
    let none : NameId × Place = (record { n = 0; of = record {} }, record { line = 0; column = 0 }) in
    let st = stands_get c.args.list.now c.loop-name.name-index none l in
    let e = ap (λ (ns : List (NameId × Place)). all_named s (Some kind) ns)
    (take_next c.args.list.now c.loop-name.name-index _ st) ∙ all_next s kind _ _ in
    subst (λ (gs : List NamedMember). AddsMemberNames c.args.body.n gs c.args.names.now c.add.new.names) (sym e)
    (adds_more c.args.body.n _ _ _ _ _ (c.loop-name.invariant s kind) (c.in_ok-add.ensures _ refl))

pub returns : goal.returns
returns c = λ s kind.
    let e = take_all c.loop-name.name-index c.args.list.now (omega arith) in
    subst (λ (ns : List (NameId × Place)). AddsMemberNames c.args.body.n (all_named s (Some kind) ns) c.args.names.now
    c.loop-name.names) e (c.loop-name.invariant s kind)
