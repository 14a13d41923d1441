use Rattle.std.proofs.Common.{◌≡◌, ℕ, List, [], ◌∷◌, ◌++◌, ◌+◌, map, rules}
use Rattle.std.specs.List.{range_with_len}
use Rattle.domains.specs.declared.Value.{Value}
use Rattle.gts_core.proofs.Gathering.{range_pushed}
use Rattle.gts_core.proofs.rows.between.Goals as goal

pushed : (f : ℕ → Value) (k : ℕ) (found new : List Value) (v : Value) → found ≡ map f (range_with_len 0 k)
    → new ≡ found ++ v ∷ [] → v ≡ f k → new ≡ map f (range_with_len 0 (k + 1))
pushed f k found new v i e j = range_pushed f k found new v i j e

pub loop-k-preserved : goal.loop-k-preserved
loop-k-preserved c = pushed _ c.loop-k.k c.loop-k.found.items c.push.new.self.items _ c.loop-k.invariant
    c.in_ok-push.ensures.items (search rules)
