use Rattle.std.proofs.Common.{ℕ, List}
use Rattle.ar_firing.specs.Cuts.{Makes, MeetsConflict}
use Rattle.ar_firing.specs.Operands.{IsFirableWith}
use Rattle.ar_firing.proofs.Cutting.{made_is_counted, counted_is_made, no_conflict}
use Rattle.ar_firing.proofs.MakingLines.{line_makes}
use Rattle.ar_firing.proofs.LeastSets.{least_on, least_back, in_words, from_words, least_refuted}
use Rattle.ar_firing.proofs.Meeting.{met_is_conflicting, conflict_is_met}
use Rattle.ar_firing.proofs.ConflictLines.{legal_meets}
use Rattle.ar_firing.proofs.RunsTold.{makes_told, meets_told, makes_as, meets_as}
use Rattle.ar_firing.proofs.LeastThere.{least_there}
use Rattle.ar_firing.proofs.least.least_sets.Goals as goal

pub returns-clause-no_conflict_by_tests : goal.returns-clause-no_conflict_by_tests
returns-clause-no_conflict_by_tests g c =
    λ sys dropped both observer wanted conflict top agrees free. no_conflict sys dropped both.keyed both.static observer
    wanted conflict top agrees free

pub returns-clause-makes_by_tests : goal.returns-clause-makes_by_tests
returns-clause-makes_by_tests g c = λ sys dropped both observer wanted conflict top agrees free set.
    let calm = no_conflict sys dropped both.keyed both.static observer wanted conflict top agrees free in (
      λ m. made_is_counted sys dropped both.keyed both.static observer wanted conflict top agrees calm m,
      λ f. counted_is_made sys dropped both.keyed both.static observer wanted conflict top agrees calm f,
    )

pub returns-clause-cuts_by_tests : goal.returns-clause-cuts_by_tests
returns-clause-cuts_by_tests g c = λ sys dropped both observer wanted conflict top agrees free set.
    let calm = no_conflict sys dropped both.keyed both.static observer wanted conflict top agrees free in
    let on : (s : List ℕ) → Makes sys dropped observer wanted s → IsFirableWith sys dropped top s =
    λ s m. made_is_counted sys dropped both.keyed both.static observer wanted conflict top agrees calm
    {set = s} m in
    let back : (s : List ℕ) → IsFirableWith sys dropped top s → Makes sys dropped observer wanted s =
    λ s f. counted_is_made sys dropped both.keyed both.static observer wanted conflict top agrees calm
    {set = s} f in (
      λ m. least_on (IsFirableWith sys dropped top) (Makes sys dropped observer wanted) back (λ s l. on s l.has) m,
      λ f. least_on (Makes sys dropped observer wanted) (IsFirableWith sys dropped top) on (λ s l. back s l.has) f,
    )

pub returns-clause-lines_of_cuts : goal.returns-clause-lines_of_cuts
returns-clause-lines_of_cuts g c = λ sys dropped both observer wanted conflict top agrees free set ls m h.
    line_makes sys dropped both.keyed both.static observer wanted conflict top agrees
    (no_conflict sys dropped both.keyed both.static observer wanted conflict top agrees free) m h

pub returns-clause-met_by_tests : goal.returns-clause-met_by_tests
returns-clause-met_by_tests g c =
    λ sys dropped both observer wanted conflict top agrees set m. met_is_conflicting sys dropped both.keyed both.static
    observer wanted conflict top agrees m

pub returns-clause-free_by_tests : goal.returns-clause-free_by_tests
returns-clause-free_by_tests g c = λ sys dropped both observer wanted conflict top agrees calm set m.
    let f = met_is_conflicting sys dropped both.keyed both.static observer wanted conflict top agrees m in
    let e = calm set f.values f.is_firable in let h = f.holds in cc

pub returns-clause-conflict_sets_by_tests : goal.returns-clause-conflict_sets_by_tests
returns-clause-conflict_sets_by_tests g c = λ sys dropped both observer wanted conflict top agrees set.
    let on : (s : List ℕ) → MeetsConflict sys dropped s → IsFirableWith sys dropped conflict s =
    λ s m. met_is_conflicting sys dropped both.keyed both.static observer wanted conflict top agrees {set = s} m in
    let back = conflict_is_met sys dropped both.keyed both.static observer wanted conflict top agrees in (
      λ m. least_back (MeetsConflict sys dropped) (IsFirableWith sys dropped conflict) on back m,
      λ f. least_on (MeetsConflict sys dropped) (IsFirableWith sys dropped conflict) on back f,
    )

pub returns-clause-every_order : goal.returns-clause-every_order
returns-clause-every_order g c = λ sys dropped both observer wanted conflict top agrees set ls m o.
    let on : (s : List ℕ) → MeetsConflict sys dropped s → IsFirableWith sys dropped conflict s =
    λ s m. met_is_conflicting sys dropped both.keyed both.static observer wanted conflict top agrees {set = s} m in
    let back = conflict_is_met sys dropped both.keyed both.static observer wanted conflict top agrees in
    legal_meets sys dropped both.keyed both.static observer wanted conflict top agrees ls
    (least_back (MeetsConflict sys dropped) (IsFirableWith sys dropped conflict) on back m) o

pub returns-clause-cuts_in_words : goal.returns-clause-cuts_in_words
returns-clause-cuts_in_words g c =
    λ sys dropped observer wanted set.
    (in_words (Makes sys dropped observer wanted), from_words (Makes sys dropped observer wanted))

pub returns-clause-conflict_sets_in_words : goal.returns-clause-conflict_sets_in_words
returns-clause-conflict_sets_in_words g c =
    λ sys dropped set. (in_words (MeetsConflict sys dropped), from_words (MeetsConflict sys dropped))

pub returns-clause-makes_told : goal.returns-clause-makes_told
returns-clause-makes_told g c = λ told sys dropped observer wanted set. makes_told told sys dropped set observer wanted

pub returns-clause-conflicts_told : goal.returns-clause-conflicts_told
returns-clause-conflicts_told g c = λ told sys dropped set. meets_told told sys dropped set

pub returns-clause-cut_within : goal.returns-clause-cut_within
returns-clause-cut_within g c = λ told sys dropped observer wanted set m.
    least_there (Makes sys dropped observer wanted) (λ s. makes_told told sys dropped s observer wanted)
    (makes_as sys dropped observer wanted) set m

pub returns-clause-conflict_set_within : goal.returns-clause-conflict_set_within
returns-clause-conflict_set_within g c =
    λ told sys dropped set m. least_there (MeetsConflict sys dropped) (λ s. meets_told told sys dropped s)
    (meets_as sys dropped) set m

pub returns-clause-not_no_cut : goal.returns-clause-not_no_cut
returns-clause-not_no_cut g c =
    λ sys dropped observer wanted set m none. least_refuted (Makes sys dropped observer wanted) set none m

pub returns-clause-not_no_conflict_set : goal.returns-clause-not_no_conflict_set
returns-clause-not_no_conflict_set g c = λ sys dropped set m none. least_refuted (MeetsConflict sys dropped) set none m
