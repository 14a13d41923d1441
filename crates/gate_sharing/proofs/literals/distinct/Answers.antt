use Rattle.std.proofs.Common.{◌≡◌, false, List, slice_get, [], get_or, length, ◌-◌, sym, ap, ◌∙◌, subst, rules, take_all}
use Rattle.ar_base.specs.Lists.{Stands}
use Rattle.ar_base.proofs.Standing.{one_here}
use Rattle.gate_sharing.specs.Literals.{literal_of}
use Rattle.gate_sharing.specs.declared.literals.Literal.{Literal}
use Rattle.gate_sharing.specs.declared.literals.Literal.TheVariants.{Event}
use Rattle.gate_sharing.proofs.Alls.{Same, same_self, same_passes, same_keeps, opposites_found, literals_enough}
use Rattle.gate_sharing.proofs.literals.distinct.Goals as goal

pub loop-literal-init : goal.loop-literal-init
loop-literal-init c = subst (λ (z : List Literal). Same [] z) (sym c.new-all.ensures.items) (same_self [])

pub loop-literal-preserved-then-eq : goal.loop-literal-preserved-then-eq
loop-literal-preserved-then-eq c =
    let kept = c.loop-literal.all.items in
    let xs = c.args.sorted.now in
    let i = c.loop-literal.literal-index in
    let last = c.in-Some.last in
    let stands : Stands kept (length kept - 1) last =
    ap (λ z. slice_get z (length z - 1)) (sym c.deref.ensures.value) ∙ sym c.last.ensures.value ∙ sym c.copied.ensures ∙ c.in-Some.is in
    let same : last ≡ get_or xs i (Event 0 false) = search (rules, c.eq.ensures, c.if-eq.true) in
    same_passes kept xs i (Event 0 false) last c.loop-literal-test.true (one_here kept (length kept - 1) last stands) same c.loop-literal.invariant

pub returns-then-eq-2 : goal.returns-then-eq-2
returns-then-eq-2 c =
    let kept = c.loop-literal.all.items in
    let xs = c.args.sorted.now in
    let i = c.loop-literal.literal-index in
    let last = c.in-Some.last in
    let stands : Stands kept (length kept - 1) last =
    ap (λ z. slice_get z (length z - 1)) (sym c.deref.ensures.value) ∙ sym c.last.ensures.value ∙ sym c.copied.ensures ∙ c.in-Some.is in
    let same : last ≡ c.negated.result = search (rules, c.eq-in-Some.ensures, c.if-eq-2.true) in
    opposites_found kept xs i (Event 0 false) last c.loop-literal-test.true (one_here kept (length kept - 1) last stands)
    (ap literal_of same ∙ c.negated.ensures) c.loop-literal.invariant

pub loop-literal-preserved : goal.loop-literal-preserved
loop-literal-preserved c =
    same_keeps c.loop-literal.all.items c.push.new.self.items c.args.sorted.now c.loop-literal.literal-index (Event 0 false) c.loop-literal-test.true
    c.in_ok-push.ensures.items c.loop-literal.invariant

pub returns : goal.returns
returns c =
    literals_enough c.args.sorted.now c.loop-literal.all.items
    (subst (λ (z : List Literal). Same z c.loop-literal.all.items)
    (take_all c.loop-literal.literal-index c.args.sorted.now c.loop-literal-test.false) c.loop-literal.invariant)
