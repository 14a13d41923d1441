use Rattle.std.proofs.Common.{◌≡◌, ◌<◌, Bool, List, IfSome, map, length, rules, sym, ap, subst, arith}
use Rattle.std.proofs.lemmas.List.{length-map}
use Rattle.ar_base.specs.Lists.{Stands}
use Rattle.ar_base.proofs.Standing.{stands_item, stands_map}
use Rattle.eq_core.specs.Gates.{Gate, GateIs}
use Rattle.eq_core.specs.Values.{signed}
use Rattle.eq_core.specs.ValuesInside.{IsBelow}
use Rattle.eq_core.specs.Views.{all_needed, gate_of}
use Rattle.eq_core.specs.declared.joints.Joint.{Joint}
use Rattle.eq_core.proofs.Telling.{place_below}
use Rattle.gate_sharing.specs.declared.literals.Literal.{Literal}
use Rattle.gate_sharing.specs.Literals.{literal_of}
use Rattle.gate_sharing.specs.Votes.{IsOfTerm}
use Rattle.gate_sharing.proofs.Voting.{if_some, term_of_gate}
use Rattle.gate_sharing.proofs.sharing.Sharing.term_for.Goals as goal

pub returns : goal.returns
returns c =
    let gates = c.self.inside.gates.items in
    let n = c.in-Gate.number in
    let gate = c.index-gate.result.now in
    let both = all_needed c.args.whole in
    let asked : n < length c.args.self.now =
    subst (λ (l : Literal). IsBelow (length c.args.self.now) (literal_of l)) c.in-Gate.is c.requires in
    let short : n < length gates = omega (arith, asked, ap length c.self.view_is, length-map gates gate_of) in
    let stands : Stands (map gate_of gates) n (gate_of gate) =
    stands_map gate_of gates n gate (stands_item gates n gate short c.index-gate.ensures) in
    let inside : n < length (map gate_of gates) = omega (arith, short, length-map gates gate_of) in
    let same : c.whole_joint.result ≡ c.args.whole = search (rules, c.ne.ensures, c.if-ne.false) in
    let whole : (b : Bool) → signed both b ≡ signed c.in-Gate.sign (signed (all_needed gate.joint) b) =
    subst (λ (j : Joint). (b : Bool) → signed (all_needed j) b ≡ signed c.in-Gate.sign (signed (all_needed gate.joint) b)) same
    c.whole_joint.ensures in
    subst (λ (l : Literal). IfSome c.term_of.result (λ term. IsOfTerm both c.args.self.now (literal_of l) term)) (sym c.in-Gate.is)
    (subst (λ (z : List Gate). IfSome c.term_of.result (λ term. IsOfTerm both z (GateIs n c.in-Gate.sign) term)) c.self.view_is
    (if_some c.term_of.result (λ term e. term_of_gate (map gate_of gates) n (gate_of gate) c.in-Gate.sign both term inside
    (place_below (c.self.invariant.ordered.each n (gate_of gate) stands)) whole stands e) c.term_of.ensures))
