use Rattle.std.proofs.Common.{length, ◌+◌, ◌*◌}
use Rattle.ar_grammar.specs.Parts.{member_tokens, later_tokens}
use Rattle.ar_grammar.specs.Members.{ReadsMember, ReadsLater, ReadsBody}
use Rattle.ar_grammar.specs.Results.{ends_members, ends_body}
use Rattle.ar_grammar.proofs.BodyParts.{GathersGroups}
use Rattle.ar_grammar.proofs.body.+body.Given as goal

abbrev pub decreases-body : goal.decreases-body
decreases-body l = 8 * l.left + 0

abbrev pub decreases-unit : goal.decreases-unit
decreases-unit l = 8 * l.left + 1

abbrev pub decreases-keyed : goal.decreases-keyed
decreases-keyed l = 8 * l.left + 2

abbrev pub decreases-member : goal.decreases-member
decreases-member l = 8 * l.left + 3

abbrev pub decreases-later_clause : goal.decreases-later_clause
decreases-later_clause l = 8 * l.left + 3

abbrev pub decreases-opening_members : goal.decreases-opening_members
decreases-opening_members l = 8 * l.left + 4

abbrev pub decreases-later_clauses : goal.decreases-later_clauses
decreases-later_clauses l = 8 * l.left + 4

abbrev pub decreases-sections : goal.decreases-sections
decreases-sections l = 8 * l.left + 5

abbrev pub invariant-opening_members-loop-parser : goal.invariant-opening_members-loop-parser
invariant-opening_members-loop-parser l =
    GathersGroups (ReadsMember l.left (ReadsBody l.left)) member_tokens ends_members l.fn.members.items l.members.items
    l.fn.parser.rest.now l.parser.rest.now

abbrev pub decreases-opening_members-loop-parser : goal.decreases-opening_members-loop-parser
decreases-opening_members-loop-parser l = length l.parser.rest.now

abbrev pub invariant-later_clauses-loop-parser : goal.invariant-later_clauses-loop-parser
invariant-later_clauses-loop-parser l =
    GathersGroups (ReadsLater l.left (ReadsBody l.left)) later_tokens ends_body l.fn.members.items l.members.items
    l.fn.parser.rest.now l.parser.rest.now

abbrev pub decreases-later_clauses-loop-parser : goal.decreases-later_clauses-loop-parser
decreases-later_clauses-loop-parser l = length l.parser.rest.now
