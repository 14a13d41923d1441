use Rattle.std.proofs.Common.{◌≡◌, ◌⊎◌, ◌||◌, Bool, true, false, true≢false, refl, inl, inr}
use Rattle.std.proofs.lemmas.List.{get_or_default}
use Rattle.flow_propagate.proofs.Putting.{puts_more}
use Rattle.flow_propagate.proofs.facts.put_all.Goals as goal

neither : (a b : Bool) → (a || b) ≡ false → (a ≡ false) × (b ≡ false)
neither true b e = absurd (true≢false e)
neither false b e = (refl, e)

one_of_both : (a b : Bool) → (a || b) ≡ true → (a ≡ true) ⊎ (b ≡ true)
one_of_both true b e = inl refl
one_of_both false b e = inr e

pub loop-v-preserved : goal.loop-v-preserved
loop-v-preserved c = puts_more c.args.domain.now c.args.target c.args.values.now c.loop-v.v-index _ _ _ _ _ _ _
    c.loop-v-test.true (get_or_default c.args.values.now c.loop-v.v-index _ _ c.loop-v-test.true) c.loop-v.invariant
    c.in_ok-more.ensures (neither c.loop-v.changed c.in_ok-more.more) (one_of_both c.loop-v.changed c.in_ok-more.more)
