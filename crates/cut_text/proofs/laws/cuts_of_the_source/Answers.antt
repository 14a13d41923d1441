use Rattle.cut_text.proofs.Source.{cut_text, is_keyed, is_static, first_line, conflict_is, replays}
use Rattle.std.proofs.Common.{ℕ, List, refl}
use Rattle.ar_firing.specs.Cuts.{MeetsConflict, ConflictSet, Cut}
use Rattle.ar_firing.specs.Operands.{IsFirableWith}
use Rattle.ar_firing.proofs.Meeting.{met_is_conflicting, conflict_is_met}
use Rattle.ar_firing.proofs.ConflictLines.{legal_meets}
use Rattle.ar_firing.proofs.LeastSets.{least_back}
use Rattle.ar_firing.proofs.Lines.{line_is_legal}
use Rattle.ar_firing.proofs.Cutting.{calm_within}
use Rattle.ar_firing.proofs.MakingLines.{line_within}
use Rattle.ar_firing.proofs.SmallSets.{free_within}
use Rattle.cut_text.proofs.UpToOrder.{has_it, is_small}
use Rattle.cut_text.proofs.laws.cuts_of_the_source.Goals as goal

pub returns-clause-cuts_of_the_source : goal.returns-clause-cuts_of_the_source
returns-clause-cuts_of_the_source c = λ x p flat dropped f h observer other q wanted order sets lists listed g.
    cut_text x p flat dropped f (c.one_system.ensures.one p) h observer other q wanted order sets lists listed g

pub returns-clause-conflicts_of_the_source : goal.returns-clause-conflicts_of_the_source
returns-clause-conflicts_of_the_source c = λ x p flat dropped f h other wanted conflict top agrees order set sets events lists listed g.
    let one = c.one_system.ensures.one p in
    let keyed = is_keyed x p flat dropped f one h in
    let static = is_static x p flat dropped f one h in
    let on : (s : List ℕ) → MeetsConflict flat dropped s → IsFirableWith flat dropped conflict s =
    λ s m. met_is_conflicting flat dropped keyed static other wanted conflict top agrees {set = s} m in
    let back = conflict_is_met flat dropped keyed static other wanted conflict top agrees in
    legal_meets flat dropped keyed static other wanted conflict top agrees _
    (least_back (MeetsConflict flat dropped) (IsFirableWith flat dropped conflict) on back
    (has_it order (ConflictSet flat dropped) set (listed.sound 0 set refl)))
    (line_is_legal flat dropped keyed static (first_line x p flat dropped f one h set sets events lists g))

pub returns-clause-conflict_text_of_the_source : goal.returns-clause-conflict_text_of_the_source
returns-clause-conflict_text_of_the_source c = λ x p flat dropped f h order set sets events lists fault listed g k.
    conflict_is x p flat dropped f (c.one_system.ensures.one p) h order set sets events lists fault listed g k

pub returns-clause-lines_of_the_source_replay : goal.returns-clause-lines_of_the_source_replay
returns-clause-lines_of_the_source_replay c = λ x p flat dropped f h observer other q wanted conflict top agrees order free sets listed set o ls is.
    let one = c.one_system.ensures.one p in
    let keyed = is_keyed x p flat dropped f one h in
    let static = is_static x p flat dropped f one h in
    let cut = listed.sound o.place set o.stands in
    let small = is_small order (Cut x.system dropped observer wanted) set cut in
    replays x p flat dropped f one h observer other q wanted set
    (λ ks m k. line_within flat dropped keyed static other wanted conflict top agrees
    (calm_within flat dropped keyed static other wanted conflict top agrees set
    (free_within order flat dropped free set small)) m k)
    ls (has_it order (Cut x.system dropped observer wanted) set cut).has is
