use Rattle.std.proofs.Common.{◌≡◌, Some, None, option_copied, nat_eq, sym, ◌∙◌, ap, subst}
use Rattle.std.specs.HashMap as hash
use Rattle.ar_base.proofs.Standing.{stands_one, stands_within}
use Rattle.class_table.specs.Members.{type_named}
use Rattle.class_table.proofs.Taken.{item_stands}
use Rattle.unit_rules.specs.TypingInside.{IsFound}
use Rattle.unit_rules.proofs.Found.{found_none, found_some}
use Rattle.std.proofs.Common.{arith}
use Rattle.unit_rules.proofs.types.TypePlaces.find.Goals as goal

pub returns-in_err-place : goal.returns-in_err-place
returns-in_err-place c = λ d a known.
    let e : hash.get nat_eq c.args.self.now.places c.args.name.n ≡ None = sym c.in_err-place.ensures.value in
    let r : None ≡ option_copied c.from_residual.result = sym (ap (λ o. option_copied o) c.from_residual.ensures) in
    subst (IsFound d.symbols (type_named d c.args.name.n)) r
    (found_none d c.args.types.now a c.args.name.n (sym (known.each c.args.name.n) ∙ e))

pub returns-in-Some : goal.returns-in-Some
returns-in-Some c = λ d a known.
    let e : hash.get nat_eq c.args.self.now.places c.args.name.n ≡ Some c.in_ok-place.field-0.now =
    sym c.in_ok-place.ensures.value in
    let w = found_some d c.args.types.now a c.args.name.n c.in_ok-place.field-0.now
    (sym (known.each c.args.name.n) ∙ e) in
    let s = item_stands c.args.types.now c.in_ok-place.field-0.now c.in-Some.found.now c.in-Some.ensures.lookup.3.0
    c.in-Some.ensures.lookup.1 in
    let same = stands_one c.args.types.now c.in_ok-place.field-0.now w.0 c.in-Some.found.now w.1 s in
    rw same at w.2

pub returns-in-None : goal.returns-in-None
returns-in-None c = λ d a known.
    let e : hash.get nat_eq c.args.self.now.places c.args.name.n ≡ Some c.in_ok-place.field-0.now =
    sym c.in_ok-place.ensures.value in
    let w = found_some d c.args.types.now a c.args.name.n c.in_ok-place.field-0.now
    (sym (known.each c.args.name.n) ∙ e) in
    let l = stands_within c.args.types.now c.in_ok-place.field-0.now w.0 w.1 in
    absurd (omega (arith, c.in-None.ensures.lookup.3))
