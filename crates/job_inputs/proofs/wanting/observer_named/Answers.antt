use Rattle.std.proofs.Common.{ℕ, List, [], Option, IfSome, Vec, Global, sym, subst}
use Rattle.ar_base.specs.Lists.{Stands, AreDifferent}
use Rattle.ar_base.specs.Numbers.{NameId}
use Rattle.ar_syntax.specs.declared.paths.PathStart.TheVariants.{Here}
use Rattle.hierarchy.specs.Listing.{observers}
use Rattle.hierarchy.specs.Tie.{AnswersThing}
use Rattle.hierarchy.specs.Units.{numbers}
use Rattle.hierarchy.specs.Walks.{is_observer}
use Rattle.hierarchy.proofs.Looking.{main_first}
use Rattle.job_inputs.specs.Reads.{AnswersNames}
use Rattle.job_inputs.proofs.Observers.{names_observer, no_observer_named}
use Rattle.job_inputs.proofs.wanting.observer_named.Goals as goal

pub returns-in-Some : goal.returns-in-Some
returns-in-Some c = λ x of.
    let m = x.declarations.model in
    let units = x.declarations.units in
    let table = c.args.tree.now.classes.names in
    let different = subst (λ (o : Option (Vec NameId Global)). IfSome o (λ _. AreDifferent table)) c.in-Some.is
    c.in_ok-names.ensures.different in
    let spelled = subst (λ (o : Option (Vec NameId Global)). AnswersNames table c.args.path.now o) c.in-Some.is
    (c.in_ok-names.ensures.names) in
    let first = subst (λ (n : ℕ). Stands units n []) (sym c.new.ensures) (main_first of.is_tree.are_units) in
    let found = c.observer_at.ensures m units [] of.is_tree first in
    names_observer of c.args.path.now c.in-Some.names.items c.observer_at.result different spelled
    (subst (λ (ns : List NameId). AnswersThing m (observers m units) is_observer [] Here (numbers ns)
    c.observer_at.result) c.deref.ensures.value found)

pub returns-in-None : goal.returns-in-None
returns-in-None c = λ x of.
    let table = c.args.tree.now.classes.names in
    let none = subst (λ (o : Option (Vec NameId Global)). AnswersNames table c.args.path.now o) c.in-None.is
    (c.in_ok-names.ensures.names) in
    no_observer_named of c.args.path.now none
