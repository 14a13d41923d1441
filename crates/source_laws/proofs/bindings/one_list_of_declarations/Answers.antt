use Rattle.source_laws.proofs.Itself.{rooted_itself}
use Rattle.source_laws.proofs.OneBinding.{models_given}
use Rattle.source_laws.proofs.OneDeclarations.{declarations_same}
use Rattle.source_laws.proofs.bindings.one_list_of_declarations.Goals as goal

pub returns : goal.returns
returns c = λ m us kept are d e p q.
    declarations_same m us kept are d e (models_given m m d e (rooted_itself m) p.model q.model) p q
