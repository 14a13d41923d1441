use Rattle.std.proofs.Common.{◌≡◌, Some, refl}
use Rattle.class_table.specs.Members.{Site}
use Rattle.class_table.specs.Retested.{MayGive, giver_of}
use Rattle.class_table.specs.TablesInside.{site_of}
use Rattle.class_table.proofs.GivenNames.{adds_name}
use Rattle.class_table.proofs.given.Given.add.Goals as goal
use Rattle.class_table.proofs.given.Given.add.Goals.{in-None, in-Some}

pub returns : goal.returns
returns c =
    let site = site_of c.args.site in
    let joined : MayGive (Some c.match-get.giver) site
    × ((s : Site) → MayGive (giver_of c.args.self.now c.args.name.n) s → MayGive (Some c.match-get.giver) s) =
    elim c.match-get.branch [
      | in-None w ↦ rw (w.giver-is, ← w.in-None.ensures.value) ((refl, refl), λ s m. absurd m)
      | in-Some w ↦ rw w.giver-is (tt, λ s m. tt)
    ] in
    let same : c.match-get.self ≡ c.args.self.now = elim c.match-get.branch [
      | in-None w ↦ w.self-is
      | in-Some w ↦ w.self-is
    ] in
    adds_name site c.args.name.n c.match-get.giver c.args.self.now
    (record { names = c.insert-2.new.self; givers = c.insert.new.self }) (rw same at c.in_ok-insert-2.ensures.updates.0)
    (rw same at c.in_ok-insert.ensures.updates.0) joined.0 joined.1
