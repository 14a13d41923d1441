-- What is drawn over new numbers, by its names.
use Rattle.event_order.specs.Laws.{LeastByNames}
use Rattle.event_order.specs.Ordered.{gates_of, root_of}
use Rattle.event_order.proofs.Again.{forest_for, forest_by_modes}
use Rattle.event_order.proofs.Drawable.{new_numbered, new_apart, new_different}
use Rattle.event_order.proofs.Least.{have_names, least_by}

pub least_by_names : LeastByNames
least_by_names order trees gates root o ordered root_in is forest b =
    let names = o.names.items in
    let news = o.trees.items in
    let d = forest_by_modes news (new_numbered names trees news is.trees_are b.numbered) (new_apart names trees news is.trees_are)
    (new_different names trees news is.trees_are b.different) in (
      forest_for news,
      record {
        by_modes = d;
        have = λ f l. have_names order names trees news gates (gates_of o) root (root_of o) ordered root_in is.trees_are is.names_are
            is.gates_are is.root_is forest (forest_for news) b d f l;
        least = λ f g l n family. least_by order names trees news gates (gates_of o) root (root_of o) ordered root_in is.trees_are
            is.names_are is.gates_are is.root_is forest (forest_for news) b d f g l n family;
      },
    )
