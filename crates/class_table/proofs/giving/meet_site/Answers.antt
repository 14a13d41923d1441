use Rattle.std.proofs.Common.{sym}
use Rattle.std.proofs.lemmas.List.{append-nil}
use Rattle.class_table.proofs.giving.meet_site.Goals as goal

pub returns-in-None : goal.returns-in-None
returns-in-None c = λ d known. rw (← c.in-None.ensures d known.as_text) (sym (append-nil _))

pub returns-in-Some : goal.returns-in-Some
returns-in-Some c = λ d known. rw (← c.in-Some.ensures d known.as_text) (c.meet.ensures d _ known.known)
