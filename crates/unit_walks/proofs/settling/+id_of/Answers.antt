use Rattle.std.proofs.Common.{◌≡◌, [], sym, subst, ◌∙◌, arith, rules}
use Rattle.ar_base.specs.Lists.{Stands, IsOneOf}
use Rattle.hierarchy.proofs.Looking.{main_first}
use Rattle.hierarchy.specs.Tie.{IsNameOfUnit}
use Rattle.unit_walks.specs.Settling.{IsUnitNumber}
use Rattle.unit_walks.specs.Tables.{table_paths}
use Rattle.unit_walks.proofs.Listed.{above_listed}
use Rattle.unit_walks.proofs.Outcomes.{above_none, above_some, child_found}
use Rattle.unit_walks.proofs.TableSteps.{above_before, met_there, unit_there}
use Rattle.unit_walks.proofs.settling.+id_of.Goals as goal

pub returns-in_err-met : goal.returns-in_err-met
returns-in_err-met t c = λ m units v once are k w s j.
    absurd (unit_there m [] c.args.table.now k c.args.number v s c.in_err-met.ensures)

pub returns-in_default : goal.returns-in_default
returns-in_default t c = λ m units v once are k w s j.
    let is = met_there m [] c.args.table.now k c.args.number v c.in_ok-met.met s c.in_ok-met.ensures in
    let top = above_none (table_paths c.args.table.now) v c.in_ok-met.met.owner is.owner c.in_default.is in
    let zero : c.new.result.n ≡ 0 = search (rules, c.new.ensures) in
    subst (λ u. Stands units c.new.result.n u) (sym top) (subst (λ n. Stands units n []) (sym zero) (main_first are))

pub returns-then-owner-number : goal.returns-then-owner-number
returns-then-owner-number t c = λ m units v once are k w s j.
    let is = met_there m [] c.args.table.now k c.args.number v c.in_ok-met.met s c.in_ok-met.ensures in
    let up = above_some (table_paths c.args.table.now) v c.in_ok-met.met.owner c.in-Some.owner is.owner c.in-Some.is in
    let less = above_before c.args.table.now.units.items [] c.args.number c.args.number c.in-Some.owner c.in_ok-met.met
    up.0 up.1 (omega arith) (sym c.in_ok-met.ensures)
    (subst (λ u. Stands (table_paths c.args.table.now) c.args.number u) up.2 s) c.in-Some.is in
    absurd (omega (arith, less, c.if-owner-number.true))

pub returns-in_err-above : goal.returns-in_err-above
returns-in_err-above t c = λ m units v once are k w s j.
    let is = met_there m [] c.args.table.now k c.args.number v c.in_ok-met.met s c.in_ok-met.ensures in
    let up = above_some (table_paths c.args.table.now) v c.in_ok-met.met.owner c.in-Some.owner is.owner c.in-Some.is in
    absurd (c.in_err-above.ensures m units up.1 once are k w up.3
    (above_listed m units are up.0 up.1 (subst (λ u. IsOneOf units u) up.2 j)))

pub returns : goal.returns
returns t c = λ m units v once are k w s j.
    let is = met_there m [] c.args.table.now k c.args.number v c.in_ok-met.met s c.in_ok-met.ensures in
    let up = above_some (table_paths c.args.table.now) v c.in_ok-met.met.owner c.in-Some.owner is.owner c.in-Some.is in
    let here = subst (λ u. IsOneOf units u) up.2 j in
    let n = c.in_ok-above.ensures m units up.1 once are k w up.3 (above_listed m units are up.0 up.1 here) in
    let name = subst (λ u. IsNameOfUnit u c.in_ok-met.met.name) up.2 is.name in
    subst (λ u. IsUnitNumber units u c.copied.result) (sym up.2)
    (child_found m units c.args.children.now up.0 up.1 c.in_ok-above.above.n c.in_ok-met.met.name.n c.copied.result
    once are w here n name (c.copied.ensures ∙ c.get.ensures.value))
