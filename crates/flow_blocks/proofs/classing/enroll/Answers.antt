-- The classes noted so far.
use Rattle.std.proofs.Common.{◌≡◌, ℕ, ◌+◌, ◌<◌, inl, inr, take, length, get_or, sym, ◌∙◌, subst, arith, set}
use Rattle.std.proofs.lemmas.Bool.{cases_eq}
use Rattle.std.proofs.lemmas.List.{length-set}
use Rattle.ar_base.specs.Lists.{Stands, IsOneOf}
use Rattle.flow_blocks.proofs.UseLemmas.{one_at, one_of_more, next_one, one_of_next, set_stands, set_keeps}
use Rattle.flow_blocks.proofs.classing.enroll.Goals as goal

pub bounds-class_of-member : goal.bounds-class_of-member
bounds-class_of-member c = let lt = c.requires _ (one_at c.args.members.now c.loop-member.member-index 0 c.loop-member-test.true) in omega (arith, lt, c.loop-member.invariant.long)

pub loop-member-preserved : goal.loop-member-preserved
loop-member-preserved c =
    let member = get_or c.args.members.now c.loop-member.member-index 0 in
    let lt = c.requires member (one_at c.args.members.now c.loop-member.member-index 0 c.loop-member-test.true) in
    let inside : member < length c.loop-member.class_of = omega (arith, lt, c.loop-member.invariant.long) in
    record {
      long = length-set c.loop-member.class_of member c.args.class ∙ c.loop-member.invariant.long;
      members = λ n one. elim (cases_eq n member) [
        | inl same ↦ subst (λ (k : ℕ). Stands (set c.loop-member.class_of member c.args.class) k c.args.class)
            (sym same) (set_stands c.loop-member.class_of member c.args.class inside)
        | inr other ↦ set_keeps c.loop-member.class_of member n c.args.class other
            ∙ (elim (one_of_next c.args.members.now c.loop-member.member-index 0 n c.loop-member-test.true one) [
              | inl earlier ↦ c.loop-member.invariant.members n earlier
              | inr this ↦ absurd (other this)
            ])
      ];
      others = λ n lacks.
          let not_this = λ (same : n ≡ member). lacks
          (subst (λ (k : ℕ). IsOneOf (take (c.loop-member.member-index + 1) c.args.members.now) k) (sym same)
          (next_one c.args.members.now c.loop-member.member-index 0 c.loop-member-test.true)) in
          set_keeps c.loop-member.class_of member n c.args.class not_this
          ∙ c.loop-member.invariant.others n
          (λ earlier. lacks (one_of_more c.args.members.now c.loop-member.member-index n earlier));
    }
