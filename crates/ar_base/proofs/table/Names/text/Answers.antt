-- The texts of a table differ.
use Rattle.std.proofs.Common.{subst}
use Rattle.std.specs.HashMap.{get_by_text}
use Rattle.ar_base.specs.Lists.{AreDifferent}
use Rattle.ar_base.specs.TextsInside.{bytes_of_all}
use Rattle.ar_base.proofs.Tables.{differ}
use Rattle.ar_base.proofs.table.Names.text.Goals as goal

pub returns-clause-different : goal.returns-clause-different
returns-clause-different c = subst AreDifferent c.self.view_is
    (differ (bytes_of_all c.self.inside.texts.items) (get_by_text c.self.inside.numbers) c.self.invariant.2)
