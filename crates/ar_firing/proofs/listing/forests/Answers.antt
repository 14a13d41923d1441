use Rattle.ar_firing.proofs.OneForest.{forest_same}
use Rattle.ar_firing.proofs.TreeEdges.{row_is_live, live_is_row}
use Rattle.ar_firing.proofs.Shapes.{are_trees}
use Rattle.ar_firing.proofs.ModesOfSets.{stays, entered, enters_and_stays, stays_at_first, comes_by}
use Rattle.ar_firing.proofs.listing.forests.Goals as goal

pub returns-clause-one_forest : goal.returns-clause-one_forest
returns-clause-one_forest g c = λ sys dropped both ts us a b. forest_same sys dropped both.keyed both.static a b

pub returns-clause-tree_edges : goal.returns-clause-tree_edges
returns-clause-tree_edges g c = λ sys dropped both tree h r. (
  λ o. row_is_live sys dropped both.keyed both.static tree h r o,
  λ k. live_is_row sys dropped both.keyed
      both.static tree h r k,
)

pub returns-clause-forest_trees : goal.returns-clause-forest_trees
returns-clause-forest_trees g c = λ sys dropped both trees f. are_trees sys dropped both.keyed both.static trees f

pub returns-clause-initial_mode : goal.returns-clause-initial_mode
returns-clause-initial_mode g c =
    λ sys dropped both set t f n x s i. (
      λ h. stays sys dropped both.keyed both.static f n x s i x.value h,
      λ k. stays_at_first sys dropped both.keyed
          both.static f n x s i k,
    )

pub returns-clause-entered_mode : goal.returns-clause-entered_mode
returns-clause-entered_mode g c = λ sys dropped both set t f n x s i l from m h. (
  λ v. (
    entered sys dropped both.keyed both.static f n x s i l from m h v,
    stays sys dropped both.keyed both.static f n x
        s i m v,
  ),
  λ k. enters_and_stays sys dropped both.keyed both.static f n x s i l from m h k.0 k.1,
)

pub returns-clause-no_other_mode : goal.returns-clause-no_other_mode
returns-clause-no_other_mode g c =
    λ sys dropped both set t f n x s i m v. comes_by sys dropped both.keyed both.static f n x s i m v
