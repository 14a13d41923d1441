use Rattle.std.proofs.Common.{ℕ, List, [], Option, option_map, IfSome, Vec, Global, sym, subst}
use Rattle.ar_base.specs.Lists.{Stands, AreDifferent}
use Rattle.ar_base.specs.Numbers.{NameId}
use Rattle.ar_base.specs.NumbersInside.{EventId}
use Rattle.ar_syntax.specs.declared.paths.PathStart.TheVariants.{Here}
use Rattle.hierarchy.specs.Listing.{events}
use Rattle.hierarchy.specs.Tie.{AnswersThing}
use Rattle.hierarchy.specs.Units.{numbers}
use Rattle.hierarchy.specs.Walks.{is_event}
use Rattle.hierarchy.proofs.Looking.{main_first}
use Rattle.job_inputs.specs.Reads.{AnswersNames}
use Rattle.job_inputs.proofs.VisibleLemmas.{names_event, no_event_named}
use Rattle.job_inputs.proofs.paths.event_named.Goals as goal

pub returns-in-Some : goal.returns-in-Some
returns-in-Some c = λ x of.
    let m = x.declarations.model in
    let units = x.declarations.units in
    let table = c.args.tree.now.classes.names in
    let different = subst (λ (o : Option (Vec NameId Global)). IfSome o (λ _. AreDifferent table)) c.in-Some.is
    c.in_ok-names.ensures.different in
    let spelled = subst (λ (o : Option (Vec NameId Global)). AnswersNames table c.args.path.now o) c.in-Some.is
    (c.in_ok-names.ensures.names) in
    let first = subst (λ (n : ℕ). Stands units n []) (sym c.new.ensures) (main_first of.is_tree.are_units) in
    let found = c.event_at.ensures m units [] of.is_tree first in
    names_event of c.args.path.now c.in-Some.names.items c.event_at.result different spelled
    (subst (λ (ns : List NameId). AnswersThing m (events m units) is_event [] Here (numbers ns)
    (option_map (λ (e : EventId). e.n) c.event_at.result)) c.deref.ensures.value found)

pub returns-in-None : goal.returns-in-None
returns-in-None c = λ x of.
    let table = c.args.tree.now.classes.names in
    let none = subst (λ (o : Option (Vec NameId Global)). AnswersNames table c.args.path.now o) c.in-None.is
    (c.in_ok-names.ensures.names) in
    no_event_named of c.args.path.now none
