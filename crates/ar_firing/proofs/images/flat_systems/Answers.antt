use Rattle.typed_expr.specs.PairsInside.{turned_pairs}
use Rattle.ar_meaning.specs.FlatOf.{IsNumber}
use Rattle.ar_meaning.proofs.FlatSystems.{flat_image, flat_back}
use Rattle.ar_firing.proofs.ImageCuts.{reaches_there, conflicts_there, meets_there, makes_there, makes_back, cut_there, cut_back, conflict_set_there}
use Rattle.ar_firing.proofs.ImageModes.{firable_there, line_there, mode_tree_there, forest_there}
use Rattle.ar_firing.proofs.ImageRules.{keeps_there, breaks_there, first_broken_there, keeps_all_there, keeps_asked_there}
use Rattle.ar_firing.proofs.images.flat_systems.Goals as goal

pub returns-clause-reaches : goal.returns-clause-reaches
returns-clause-reaches g c =
    λ things sys flat f dropped ls t. (
      λ h. reaches_there (IsNumber things) sys flat (flat_image things sys flat f) dropped h,
      λ h. reaches_there
          (turned_pairs (IsNumber things)) flat sys (flat_back things sys flat f) dropped h,
    )

pub returns-clause-conflicts : goal.returns-clause-conflicts
returns-clause-conflicts g c =
    λ things sys flat f dropped ls k. (
      λ h. conflicts_there (IsNumber things) sys flat (flat_image things sys flat f) dropped h,
      λ h. conflicts_there
          (turned_pairs (IsNumber things)) flat sys (flat_back things sys flat f) dropped h,
    )

pub returns-clause-makes : goal.returns-clause-makes
returns-clause-makes g c =
    λ things sys flat f dropped observer other q wanted set. (
      λ h. makes_there (IsNumber things) sys flat (flat_image things sys flat f) dropped observer other q wanted set h,
      λ h. makes_back (IsNumber things) sys flat (flat_image things sys flat f) dropped observer other q wanted set h,
    )

pub returns-clause-cuts : goal.returns-clause-cuts
returns-clause-cuts g c =
    λ things sys flat f dropped observer other q wanted set. (
      λ h. cut_there (IsNumber things) sys flat (flat_image things sys flat f) dropped observer other q wanted set h,
      λ h. cut_back (IsNumber things) sys flat (flat_image things sys flat f) dropped observer other q wanted set h,
    )

pub returns-clause-conflict_sets : goal.returns-clause-conflict_sets
returns-clause-conflict_sets g c =
    λ things sys flat f dropped set. (
      λ h. conflict_set_there (IsNumber things) sys flat (flat_image things sys flat f) dropped set h,
      λ h.
          conflict_set_there (turned_pairs (IsNumber things)) flat sys (flat_back things sys flat f) dropped set h,
    )

pub returns-clause-meets : goal.returns-clause-meets
returns-clause-meets g c =
    λ things sys flat f dropped set. (
      λ h. meets_there (IsNumber things) sys flat (flat_image things sys flat f) dropped h,
      λ h. meets_there
          (turned_pairs (IsNumber things)) flat sys (flat_back things sys flat f) dropped h,
    )

pub returns-clause-firable : goal.returns-clause-firable
returns-clause-firable g c =
    λ things sys flat f dropped set t. (
      λ h. firable_there (IsNumber things) sys flat (flat_image things sys flat f) dropped h,
      λ h. firable_there
          (turned_pairs (IsNumber things)) flat sys (flat_back things sys flat f) dropped h,
    )

pub returns-clause-lines : goal.returns-clause-lines
returns-clause-lines g c =
    λ things sys flat f dropped set ls. (
      λ h. line_there (IsNumber things) sys flat (flat_image things sys flat f) dropped h,
      λ h. line_there
          (turned_pairs (IsNumber things)) flat sys (flat_back things sys flat f) dropped h,
    )

pub returns-clause-forests : goal.returns-clause-forests
returns-clause-forests g c =
    λ things sys flat f dropped trees. (
      λ h. forest_there (IsNumber things) sys flat (flat_image things sys flat f) dropped h,
      λ h. forest_there
          (turned_pairs (IsNumber things)) flat sys (flat_back things sys flat f) dropped h,
    )

pub returns-clause-trees : goal.returns-clause-trees
returns-clause-trees g c =
    λ things sys flat f dropped tree. (
      λ h. mode_tree_there (IsNumber things) sys flat (flat_image things sys flat f) dropped tree h,
      λ h. mode_tree_there
          (turned_pairs (IsNumber things)) flat sys (flat_back things sys flat f) dropped tree h,
    )

pub returns-clause-keeps : goal.returns-clause-keeps
returns-clause-keeps g c =
    λ things sys flat f dropped rule. (
      λ h. keeps_there (IsNumber things) sys flat (flat_image things sys flat f) dropped rule h,
      λ h. keeps_there
          (turned_pairs (IsNumber things)) flat sys (flat_back things sys flat f) dropped rule h,
    )

pub returns-clause-breaks : goal.returns-clause-breaks
returns-clause-breaks g c =
    λ things sys flat f dropped rule spot. (
      λ h. breaks_there (IsNumber things) sys flat (flat_image things sys flat f) dropped h,
      λ h. breaks_there
          (turned_pairs (IsNumber things)) flat sys (flat_back things sys flat f) dropped h,
    )

pub returns-clause-first_broken : goal.returns-clause-first_broken
returns-clause-first_broken g c =
    λ things sys flat f dropped rule spot. (
      λ h. first_broken_there (IsNumber things) sys flat (flat_image things sys flat f) dropped h,
      λ h.
          first_broken_there (turned_pairs (IsNumber things)) flat sys (flat_back things sys flat f) dropped h,
    )

pub returns-clause-all : goal.returns-clause-all
returns-clause-all g c =
    λ things sys flat f dropped. (
      λ h. keeps_all_there (IsNumber things) sys flat (flat_image things sys flat f) dropped h,
      λ h. keeps_all_there
          (turned_pairs (IsNumber things)) flat sys (flat_back things sys flat f) dropped h,
    )

pub returns-clause-all_asked : goal.returns-clause-all_asked
returns-clause-all_asked g c =
    λ things sys flat f order dropped. (
      λ h. keeps_asked_there (IsNumber things) sys flat (flat_image things sys flat f) dropped h,
      λ h. keeps_asked_there
          (turned_pairs (IsNumber things)) flat sys (flat_back things sys flat f) dropped h,
    )
