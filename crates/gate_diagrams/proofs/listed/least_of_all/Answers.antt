use Rattle.std.proofs.Common.{map, sym, ap, ◌∙◌, subst}
use Rattle.zdd_nodes.specs.Families.{minimal}
use Rattle.zdd_nodes.specs.Nodes.{family}
use Rattle.eq_core.specs.Views.{gate_of, operand_of}
use Rattle.coherent_cuts.specs.Gates.{HasLeastFirable}
use Rattle.gate_diagrams.proofs.ByModes.{least_are}
use Rattle.gate_diagrams.proofs.listed.least_of_all.Goals as goal

pub returns : goal.returns
returns c =
    let order = c.args.order in
    let views = map gate_of c.args.gates.now in
    let root = operand_of c.args.root in
    let listed = c.in_ok-listed.listed in
    let whole = c.in_ok-whole.ensures.drawn.ok in
    let made = c.in_ok-root.ensures.drawn.ok in
    let v = c.minimal.new.self in
    subst (λ z. HasLeastFirable order c.args.trees.now views root (record { store = z; root = c.in_ok-root.root }))
    (sym c.into_store.ensures.same)
    (record {
      sound = c.in_ok-root.ensures.sound;
      in_store = made.0;
      are = λ forest b.
          least_are order forest views root (family listed.store listed.root.n) (family v c.in_ok-root.root.n)
          (c.in_ok-listed.ensures.are forest b) (made.1 ∙ ap minimal whole.1);
    })
