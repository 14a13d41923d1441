use Rattle.ar_firing.proofs.Shapes.{are_trees}
use Rattle.mode_trees.specs.Views.{trees_of}
use Rattle.cut_text.proofs.Relabelled.{trees_as, one_way, known}
use Rattle.cut_text.proofs.laws.edges_of_forests.Goals as goal

pub returns-clause-trees : goal.returns-clause-trees
returns-clause-trees c = λ system dropped both number f is.
    trees_as number (λ n. n) f.trees.items (are_trees system dropped both.keyed both.static (trees_of number f) is)

pub returns-clause-one_way : goal.returns-clause-one_way
returns-clause-one_way c = λ system dropped both number f is.
    one_way number (λ n. n) f.trees.items (are_trees system dropped both.keyed both.static (trees_of number f) is)

pub returns-clause-known : goal.returns-clause-known
returns-clause-known c = λ f sets lists h. known f.trees.items sets lists h
