use Rattle.parser_laws.proofs.OneModel.{one_tree}
use Rattle.ar_lexer.proofs.Laws.{tokens_one, fault_one, tokens_no_fault}
use Rattle.parser_laws.proofs.Keeping.{trees_keep}
use Rattle.parser_laws.proofs.SomeCut.{tokens_or_fault}
use Rattle.parser_laws.proofs.readings.one_reading.Goals as goal

pub returns-clause-one_tree : goal.returns-clause-one_tree
returns-clause-one_tree c = one_tree

pub returns-clause-cut : goal.returns-clause-cut
returns-clause-cut c = tokens_or_fault

pub returns-clause-tokens : goal.returns-clause-tokens
returns-clause-tokens c = tokens_one

pub returns-clause-fault : goal.returns-clause-fault
returns-clause-fault c = fault_one

pub returns-clause-apart : goal.returns-clause-apart
returns-clause-apart c = tokens_no_fault

pub returns-clause-trees_keep : goal.returns-clause-trees_keep
returns-clause-trees_keep c = trees_keep
