use Rattle.source_meaning.proofs.OneMeaning.{means_same, value_same}
use Rattle.source_meaning.proofs.laws.one_meaning.Goals as goal

pub returns-clause-means : goal.returns-clause-means
returns-clause-means c = λ m different u e l k d f. means_same m different d f

pub returns-clause-values : goal.returns-clause-values
returns-clause-values c = λ m different t v w d f. value_same m different d f
