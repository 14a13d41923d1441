-- The number of a text is its place, and a text without one is none of the table.
use Rattle.std.proofs.Common.{◌≡◌, ℕ, List, sym, subst}
use Rattle.std.specs.HashMap.{get_by_text}
use Rattle.ar_base.specs.Lists.{Stands, HasNo, AreDifferent}
use Rattle.ar_base.specs.TextsInside.{bytes_of_all}
use Rattle.ar_base.proofs.Tables.{lacks, differ}
use Rattle.ar_base.proofs.table.Names.find.Goals as goal

pub returns-in_err-number-clause-absent : goal.returns-in_err-number-clause-absent
returns-in_err-number-clause-absent c =
    rw c.from_residual.ensures (subst (λ (all : List (List ℕ)). HasNo all (λ t. t ≡ c.args.text.now)) c.self.view_is
    (lacks (bytes_of_all c.self.inside.texts.items) (get_by_text c.self.inside.numbers) c.self.invariant.2
    c.args.text.now (sym c.in_err-number.ensures.value)))

pub returns-in_err-number-clause-different : goal.returns-in_err-number-clause-different
returns-in_err-number-clause-different c = subst AreDifferent c.self.view_is
    (differ (bytes_of_all c.self.inside.texts.items) (get_by_text c.self.inside.numbers) c.self.invariant.2)

pub returns-clause-found : goal.returns-clause-found
returns-clause-found c =
    rw c.new.ensures (subst (λ (all : List (List ℕ)). Stands all c.in_ok-number.number.now c.args.text.now)
    c.self.view_is
    (c.self.invariant.2.found c.args.text.now c.in_ok-number.number.now (sym c.in_ok-number.ensures.value)))

pub returns-clause-different : goal.returns-clause-different
returns-clause-different c = subst AreDifferent c.self.view_is
    (differ (bytes_of_all c.self.inside.texts.items) (get_by_text c.self.inside.numbers) c.self.invariant.2)
