use Rattle.flow_blocks.proofs.LawLemmas.{same_blocks, in_some, in_one, in_earlier}
use Rattle.flow_blocks.proofs.ExistenceLemmas.{some_list}
use Rattle.std.proofs.Common.{inl, inr}
use Rattle.ar_base.proofs.Standing.{stands_none}
use Rattle.flow_blocks.proofs.laws.block_laws.Goals as goal

pub returns-clause-some_list : goal.returns-clause-some_list
returns-clause-some_list c = λ count uses low. some_list count uses low

pub returns-clause-one_list : goal.returns-clause-one_list
returns-clause-one_list c = λ count uses xs ys f g. same_blocks xs ys f g

pub returns-clause-some_class : goal.returns-clause-some_class
returns-clause-some_class c = λ count uses blocks f n lt. elim (in_some blocks f n lt)
    [ inl none ↦ absurd (stands_none none.is_one.place none.members none.is_one.stands) | inr there ↦ there ]

pub returns-clause-one_class : goal.returns-clause-one_class
returns-clause-one_class c = λ count uses blocks f j k n xs ys p q a b. in_one blocks f j k n xs ys p q a b

pub returns-clause-earlier_class : goal.returns-clause-earlier_class
returns-clause-earlier_class c = λ count uses blocks f k a n xs lt p one d. elim (in_earlier blocks f k a n xs lt p one d) [
  | inl own ↦ inl own
  | inr other ↦ elim other [
    | inl none ↦ absurd (stands_none none.is_one.place none.members none.is_one.stands)
    | inr there ↦ inr there
  ]
]
