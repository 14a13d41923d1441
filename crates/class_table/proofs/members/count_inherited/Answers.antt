use Rattle.std.proofs.Common.{◌≡◌, ℕ, length, map, sym, ap, ◌∙◌, subst, arith}
use Rattle.std.proofs.lemmas.Option.{same_Some}
use Rattle.class_table.specs.Members.{Members, class_named}
use Rattle.class_table.specs.TablesInside.{site_of}
use Rattle.class_table.proofs.Inheriting.{members_one}
use Rattle.class_table.proofs.Retested.{members_there}
use Rattle.class_table.proofs.Taken.{item_stands, length_map}
use Rattle.class_table.proofs.members.count_inherited.Goals as goal

pub returns-in-Some-get : goal.returns-in-Some-get
returns-in-Some-get c = λ d x class sites shown listed e named m.
    let name : c.in-Some.name.n ≡ x = same_Some _ _ (c.in-Some.ensures ∙ e) in
    let number : c.in-Some-class.class.n ≡ class =
    same_Some _ _ (c.in-Some-class.ensures d shown.known ∙ (ap (class_named d) name ∙ named)) in
    let body = c.in-Some-get.body.now in
    let s = item_stands c.args.bodies.now c.in-Some-class.class.n body c.in-Some-get.ensures.lookup.3.0
    c.in-Some-get.ensures.lookup.1 in
    let here = subst (λ (k : ℕ). Members d k (map site_of body.all.items)) number (listed.members _ body s) in
    let all = members_one d class (map site_of body.all.items) sites here m in
    c.len.ensures ∙ (body.all.ok.0 ∙ (sym (length_map site_of body.all.items) ∙ ap length all))

pub returns-in-None : goal.returns-in-None
returns-in-None c = λ d x class sites shown listed e named m.
    let name : c.in-Some.name.n ≡ x = same_Some _ _ (c.in-Some.ensures ∙ e) in
    let number : c.in-Some-class.class.n ≡ class =
    same_Some _ _ (c.in-Some-class.ensures d shown.known ∙ (ap (class_named d) name ∙ named)) in
    let l = members_there d c.args.bodies.now shown.as_text class sites m in
    absurd (omega (arith, l, number, c.in-None.ensures.lookup.3))
