-- Bytes that are not UTF-8 are none of the texts.
use Rattle.std.proofs.Common.{subst}
use Rattle.std.specs.HashMap.{get_by_text}
use Rattle.std.specs.Str.{IsUtf8}
use Rattle.ar_base.specs.Lists.{AreDifferent}
use Rattle.ar_base.specs.TextsInside.{bytes_of_all, AreUtf8}
use Rattle.ar_base.proofs.Tables.{differ}
use Rattle.ar_base.proofs.table.Names.find_bytes.Goals as goal

pub returns-in-Err-clause-absent : goal.returns-in-Err-clause-absent
returns-in-Err-clause-absent c =
    let all : AreUtf8 c.args.self.now = subst AreUtf8 c.self.view_is c.self.invariant.1 in
    record { has_not = λ n t p same. c.in-Err.ensures.cases.0 (subst IsUtf8 same (all.each n t p)) }

pub returns-in-Err-clause-different : goal.returns-in-Err-clause-different
returns-in-Err-clause-different c = subst AreDifferent c.self.view_is
    (differ (bytes_of_all c.self.inside.texts.items) (get_by_text c.self.inside.numbers) c.self.invariant.2)
