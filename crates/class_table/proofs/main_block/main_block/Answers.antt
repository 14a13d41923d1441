use Rattle.std.proofs.Common.{◌∙◌}
use Rattle.class_table.proofs.MainOnes.{last_some, last_none, main_some, main_none, main_absent, some_map, none_map}
use Rattle.class_table.proofs.main_block.main_block.Goals as goal

pub returns-in-None-clause-some : goal.returns-in-None-clause-some
returns-in-None-clause-some c = λ d shown same. rw c.in-None.is
    (last_some c.args.names.now d _ _ same (c.copied.ensures ∙ c.last.ensures.value))

pub returns-in-None-clause-none : goal.returns-in-None-clause-none
returns-in-None-clause-none c = λ d shown same. rw c.in-None.is
    (last_none c.args.names.now d _ _ same (c.copied.ensures ∙ c.last.ensures.value))

pub returns-in-None-find-clause-none : goal.returns-in-None-find-clause-none
returns-in-None-find-clause-none c = λ d shown same. rw c.in-Some.is
    (main_absent c.args.names.now d _ c.in-None-find.ensures.absent)

pub returns-in-Some-find-clause-some : goal.returns-in-Some-find-clause-some
returns-in-Some-find-clause-some c = λ d shown same. rw c.in-Some.is
    (some_map _ (main_some _ d _ _ shown same _ _ c.in-Some-find.ensures.found) c.block_named.ensures.some)

pub returns-in-Some-find-clause-none : goal.returns-in-Some-find-clause-none
returns-in-Some-find-clause-none c = λ d shown same. rw c.in-Some.is (none_map _
    (main_none _ d _ _ shown same _ _ c.in-Some-find.ensures.found c.in-Some-find.ensures.different)
    c.block_named.ensures.none)
