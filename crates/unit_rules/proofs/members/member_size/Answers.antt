use Rattle.std.proofs.Common.{◌≡◌, length, refl, ◌∙◌, arith}
use Rattle.ar_syntax.specs.declared.members.Member.{out-Member}
use Rattle.unit_rules.specs.Counting.{capped}
use Rattle.unit_rules.proofs.members.member_size.Goals as goal

pub returns-in-Sync : goal.returns-in-Sync
unfolding out-Member denote.Hole.Carrier.out
returns-in-Sync c = rw c.in-Sync.is (
    let e = c.in-Sync.parts.ok.0 in
    let n : c.len-in-Sync.result ≡ capped (length c.in-Sync.parts.items) = omega arith in
    let k : c.len-in-Sync-2.result ≡ capped (length c.in-Sync.parts.items) = omega arith in
    c.both-in-Sync-2.ensures 1 _ refl (c.both-in-Sync.ensures _ _ n k) ∙ omega arith)
