use Rattle.ar_firing.proofs.Lines.{line_is_legal, one_line}
use Rattle.ar_firing.proofs.MakingLines.{has_line}
use Rattle.ar_firing.specs.Cuts.{Cut, ConflictSet}
use Rattle.ar_firing.proofs.OneListing.{listed_same, not_itself, not_both, before_then}
use Rattle.ar_firing.proofs.listing.listings.Goals as goal

pub returns-clause-some_line : goal.returns-clause-some_line
returns-clause-some_line g c = λ sys dropped set t f. has_line sys dropped f

pub returns-clause-legal_line : goal.returns-clause-legal_line
returns-clause-legal_line g c = λ sys dropped both set ls h. line_is_legal sys dropped both.keyed both.static h

pub returns-clause-one_line : goal.returns-clause-one_line
returns-clause-one_line g c = λ sys dropped both set other ls ks h k a b. one_line sys dropped both.keyed both.static h k a b

pub returns-clause-one_listing_of_cuts : goal.returns-clause-one_listing_of_cuts
returns-clause-one_listing_of_cuts g c =
    λ sys dropped observer wanted xs ys a b. listed_same xs ys (Cut sys dropped observer wanted) a b

pub returns-clause-one_listing_of_conflict_sets : goal.returns-clause-one_listing_of_conflict_sets
returns-clause-one_listing_of_conflict_sets g c = λ sys dropped xs ys a b. listed_same xs ys (ConflictSet sys dropped) a b

pub returns-clause-not_before_itself : goal.returns-clause-not_before_itself
returns-clause-not_before_itself g c = λ s t a w. not_itself a w

pub returns-clause-not_both_before : goal.returns-clause-not_both_before
returns-clause-not_both_before g c = λ s t a b. not_both a b

pub returns-clause-before_later : goal.returns-clause-before_later
returns-clause-before_later g c = λ s t u a b. before_then a b
