use Rattle.std.proofs.Common.{◌<◌, length, false, ap, subst, arith}
use Rattle.std.proofs.lemmas.List.{length-map}
use Rattle.eq_core.specs.ValuesInside.{IsBelow}
use Rattle.eq_core.specs.Views.{gate_of}
use Rattle.gate_sharing.specs.declared.literals.Literal.{Literal}
use Rattle.gate_sharing.specs.declared.literals.Literal.TheVariants.{Event}
use Rattle.gate_sharing.specs.Literals.{literal_of}
use Rattle.gate_sharing.proofs.Absorbings.{literal_below}
use Rattle.gate_sharing.proofs.sharing.Sharing.meet.Goals as goal

pub index-requires : goal.index-requires
index-requires c =
    let gates = c.self.inside.gates in
    let n = c.in-Gate.number in
    let asked : n < length c.args.self.now =
    subst (λ (l : Literal). IsBelow (length c.args.self.now) (literal_of l)) c.in-Gate.is
    (literal_below (length c.args.self.now) c.args.literals.now c.loop-literal.literal-index (Event 0 false)
    c.loop-literal-test.true c.requires) in
    omega (arith, asked, ap length c.self.view_is, length-map gates.items gate_of, gates.ok.0)
