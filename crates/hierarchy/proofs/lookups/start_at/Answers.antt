use Rattle.std.proofs.Common.{◌≡◌, slice_index_or, rules}
use Rattle.hierarchy.proofs.Looking.{owner_at}
use Rattle.hierarchy.proofs.lookups.start_at.Goals as goal

pub returns-in-Owner : goal.returns-in-Owner
returns-in-Owner c = λ m units u t s. (let e = c.in-Owner.is in let q : c.index.result.now ≡ slice_index_or c.args.tree.now.units.items c.args.from.n c.index.result.now = search rules in rw e (owner_at t s c.requires c.index.result.now q))
