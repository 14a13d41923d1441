use Rattle.std.proofs.Common.{ℕ, unwrap_or, slice_get, [], ◌≡◌, ◌∙◌, ap, subst}
use Rattle.ar_base.proofs.Standing.{along_back, stands_one}
use Rattle.class_table.proofs.Taken.{item_stands}
use Rattle.hierarchy.specs.Units.{UnitPath, body_of}
use Rattle.bind_names.proofs.members.sites_of.Goals as goal

pub returns : goal.returns
returns c = λ m units u is at.
    let node = c.index-node.result.now in
    let nodes = c.args.tree.now.units.items in
    let n = item_stands nodes c.args.unit.n node c.requires c.index-node.ensures in
    let w = along_back units nodes is.units_are c.args.unit.n node n in
    let b = subst (λ (v : UnitPath). node.body.n ≡ body_of m v) (stands_one units c.args.unit.n w.0 u w.1 at)
    w.2.body in
    c.members_of.ensures m is.table.table ∙ ap (λ (k : ℕ). unwrap_or (slice_get m.members k) []) b
