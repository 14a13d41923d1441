use Rattle.std.proofs.Common.{◌++◌, ap, ◌∙◌, Contains, ◌⊎◌}
use Rattle.typed_expr.proofs.Gathering.{exactly-sorted, exactly-both}
use Rattle.typed_expr.proofs.sets.together.Goals as goal

pub returns : goal.returns
returns c =
    exactly-sorted c.extend_from_slice.new.self.items c.sort.new.self.items
    (λ v. Contains c.args.set.now v ⊎ Contains c.args.values.now v)
    (exactly-both c.args.set.now c.args.values.now c.extend_from_slice.new.self.items
    (c.in_ok-extend_from_slice.ensures.items ∙ ap (λ l. l ++ c.args.values.now) c.in_ok-all.ensures.items))
    c.sort.ensures.permutation
