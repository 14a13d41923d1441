use Rattle.std.proofs.Common.{◌≡◌, sym, ◌∙◌, rules, arith}
use Rattle.std.proofs.lemmas.Grind.{common_steps}
use Rattle.bind_names.proofs.Remembering.{known_same, known_more}
use Rattle.bind_names.proofs.computing.value_once.Goals as goal

pub returns-then-is_same_value-clause-value : goal.returns-then-is_same_value-clause-value
returns-then-is_same_value-clause-value c = λ known.
    let e : c.in-Some.attribute ≡ c.args.value = first_of (search rules, grind (arith, common_steps)) in
    known_same c.args.scopes.now c.args.parameters.now c.args.known.now _ c.in-Some.attribute c.args.value
    c.in-Some.found (sym c.get.ensures.value ∙ sym c.in-Some.ensures) e known

pub returns-clause-known : goal.returns-clause-known
returns-clause-known c = λ known.
    known_more c.args.scopes.now c.args.parameters.now c.args.known.now c.insert.new.self _ c.args.value
    c.in_ok-found.found c.in_ok-insert.ensures.updates.0 known c.in_ok-found.ensures
