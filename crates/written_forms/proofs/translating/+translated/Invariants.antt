use Rattle.std.proofs.Common.{take}
use Rattle.written_forms.specs.Translating.{All_become_by, Parts_become_by, Cases_become_by}
use Rattle.written_forms.proofs.translating.+translated.Given as goal

abbrev pub invariant-all_translated-loop-e : goal.invariant-all_translated-loop-e
invariant-all_translated-loop-e g l = All_become_by (g.L.Leaves.leaf_at l.leaves) (take l.e-index l.es) l.out.items

abbrev pub invariant-terms_translated-loop-plus : goal.invariant-terms_translated-loop-plus
invariant-terms_translated-loop-plus g l =
    Parts_become_by (g.L.Leaves.leaf_at l.leaves) (take l.plus-index l.parts) l.out.items

abbrev pub invariant-cases_translated-loop-test : goal.invariant-cases_translated-loop-test
invariant-cases_translated-loop-test g l =
    Cases_become_by (g.L.Leaves.leaf_at l.leaves) (take l.test-index l.choices) l.out.items
