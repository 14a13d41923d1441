use Rattle.std.proofs.Common.{◌≡◌, ◌++◌, ◌∷◌, [], true, false, Bool, List, set, sym, ap, ◌∙◌, subst, arith}
use Rattle.ar_base.proofs.Standing.{stands_some}
use Rattle.ar_base.specs.Numbers.{WayId}
use Rattle.way_flags.specs.Parts.{flag_at}
use Rattle.way_flags.specs.Ways.{IsPlacing}
use Rattle.way_flags.proofs.Lists.{flag_kept, flag_same}
use Rattle.way_flags.proofs.Placing.{place_more}
use Rattle.way_flags.proofs.order.put.Goals as goal

pub returns-clause-order : goal.returns-clause-order
returns-clause-order c =
    let p = c.args.parts.now in
    let placed = c.args.placing.now.placed.items in
    let order = c.args.placing.now.order.items in
    let id = c.args.way in
    let fresh : flag_at placed id.n ≡ false =
    ap (λ (z : List Bool). flag_at z id.n) (sym c.deref.ensures.value) ∙ sym c.is_set.ensures
    ∙ c.if-is_set.false in
    let grown : c.push.new.self.items ≡ order ++ id ∷ [] = c.in_ok-push.ensures.items in
    let there = stands_some p.ways.items id.n c.requires.within in
    subst (λ (z : List WayId). IsPlacing p z (set placed id.n true)) (sym grown)
    (place_more p order placed c.requires.order id there.0 there.1 (λ h. let e = h in cc) (c.requires.ready there.0 there.1))

pub returns-clause-keeps : goal.returns-clause-keeps
returns-clause-keeps c = record { keeps = λ n h. flag_kept c.args.placing.now.placed.items c.args.way.n n h }

pub returns-clause-placed : goal.returns-clause-placed
returns-clause-placed c = flag_same c.args.placing.now.placed.items c.args.way.n true
    (omega (arith, c.requires.within, c.requires.order.long))
