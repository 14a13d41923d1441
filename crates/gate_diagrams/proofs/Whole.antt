-- From the firable sets of a forest to the answer.
use Rattle.std.proofs.Common.{◌≡◌, inl, ℕ, List, [], Option, map, Result, Ok, Err, IfOk, sym, ◌∙◌, subst}
use Rattle.std.specs.List.{All}
use Rattle.std.proofs.lemmas.List.Elements.{All-nil}
use Rattle.ar_firing.specs.Forest.{ModeTree}
use Rattle.ar_firing.specs.Listed.{AreListed}
use Rattle.ar_firing.specs.Trees.{HaveOwnEvents}
use Rattle.mode_trees.specs.declared.forests.ModeTree.{ModeTree as Tree}
use Rattle.mode_trees.specs.declared.forests.Forest.{Forest}
use Rattle.mode_trees.specs.Views.{tree_of, trees_of}
use Rattle.zdd_nodes.specs.Families.{Family}
use Rattle.zdd_nodes.specs.Sections.{IsCounted, IsMoreThan}
use Rattle.zdd_nodes.proofs.Sections.{IsMoreThan-weaker}
use Rattle.zdd_nodes.specs.Nodes.{NodeId, Stored, family, IsFamilyNumber, Draws}
use Rattle.zdd_nodes.specs.declared.NodeFault.{NodeFault}
use Rattle.zdd_nodes.specs.declared.NodeFault.TheVariants.{Full}
use Rattle.zdd_nodes.proofs.Limits.{full_is_more}
use Rattle.eq_core.specs.Gates.{Table}
use Rattle.firable_families.specs.FirableInside.{IsFirableUpTo}
use Rattle.firable_families.specs.Walk.{left, few_of, AreTreeFamilies}
use Rattle.firable_families.proofs.Few.{few_listed}
use Rattle.firable_families.proofs.Trees.{walk_lists}
use Rattle.gate_diagrams.specs.Needed.{IsNeeded, IsNeededByBoth}
use Rattle.gate_diagrams.specs.NodeLimits.{NodesMayUpTo}
use Rattle.gate_diagrams.specs.Needed.IsNeeded.{of_firable}
use Rattle.gate_diagrams.specs.Walked.{families_left}
use Rattle.gate_diagrams.specs.Answers.{AreNeeded}
use Rattle.gate_diagrams.specs.declared.answer.Drawn.{Drawn}
use Rattle.gate_diagrams.proofs.Answering.{all_stored}
use Rattle.gate_diagrams.proofs.FirableSets.{listed_one}
use Rattle.gate_diagrams.proofs.Going.{bound}

-- the list of the sets that are firable in the trees and have at most as many events as are asked for, drawn in an empty store
-- with this limit
pub record IsWalk (order : Option ℕ) (trees : List ModeTree) (s t : Stored) (limit : ℕ) (r : Result NodeId NodeFault) : Type 0 where
  pub none : s.families ≡ []
  pub limited : s.limit ≡ limit
  pub all : Family
  pub is_all : AreListed (IsFirableUpTo order trees) all
  pub drawn : Draws (IsCounted all) all s t r

-- what a call that draws the firable sets says, where these are the numbers of the families of the trees' paths
abbrev pub DrawsFirable : Option ℕ → Stored → List NodeId → Stored → Stored → Result NodeId NodeFault → Type 0
DrawsFirable order paths ns s t r =
    (trees : List ModeTree) → AreTreeFamilies trees (families_left paths ns) → HaveOwnEvents trees
    → (all : Family) → AreListed (IsFirableUpTo order trees) all → Draws (IsCounted all) all s t r

-- the numbers stand for the same families in the store that is handed on
pub in_forest : (forest : Forest) (items : List Tree) (made paths : Stored) (ns : List NodeId)
    → items ≡ forest.trees.items → paths ≡ made → AreTreeFamilies (map (tree_of (λ n. n)) items) (families_left made ns)
    → AreTreeFamilies (trees_of (λ n. n) forest) (families_left paths ns)
in_forest forest items made paths ns e same a =
    subst (λ z. AreTreeFamilies (trees_of (λ n. n) forest) (families_left z ns)) (sym same)
    (subst (λ z. AreTreeFamilies (map (tree_of (λ n. n)) z) (families_left made ns)) e a)

pub a_walk : {order : Option ℕ} {trees : List ModeTree} {s t : Stored} {limit : ℕ} {r : Result NodeId NodeFault}
    (paths : Stored) (ns : List NodeId) → AreTreeFamilies trees (families_left paths ns) → HaveOwnEvents trees
    → s.families ≡ [] → s.limit ≡ limit → DrawsFirable order paths ns s t r → IsWalk order trees s t limit r
a_walk {order = order} {trees = trees} paths ns families apart none limited d =
    let fs = families_left paths ns in
    let n = bound fs in
    let all = few_of order (left n.0 0 fs) in
    let listed = few_listed order trees (left n.0 0 fs) (walk_lists trees fs families n.0 apart n.1) in
    record { none = none; limited = limited; all = all; is_all = listed; drawn = d trees families apart all listed }

walk_stored : {order : Option ℕ} {trees : List ModeTree} {s t : Stored} {limit : ℕ} {r : Result NodeId NodeFault}
    → (w : IsWalk order trees s t limit r) → All (IsCounted w.all) t.families
walk_stored {s = s} {t = t} w =
    let P = IsCounted w.all in
    all_stored P s t (subst (All P) (sym w.none) (All-nil P)) w.drawn.grows

-- where the store is full of the sections of the firable sets
pub walk_full : {order : Option ℕ} {trees : List ModeTree} {s t : Stored} {limit : ℕ} {r : Result NodeId NodeFault} (table : Table)
    → IsWalk order trees s t limit r → r ≡ Err Full → NodesMayUpTo order trees table limit
walk_full {trees = trees} {s = s} {t = t} {limit = limit} table w e =
    let P = IsCounted w.all in
    let Q = IsNeeded w.all table.gates table.conflict in
    let m : IsMoreThan limit P =
    subst (λ z. IsMoreThan z P) (w.drawn.grows.limit ∙ w.limited) (full_is_more P t (walk_stored w) (w.drawn.full e)) in
    let c = IsMoreThan-weaker limit P Q (λ h x. of_firable x) m in
    record {
      all = w.all;
      is_all = w.is_all;
      where_some = λ set x. c;
      where_none = λ x. IsMoreThan-weaker limit Q (IsNeededByBoth w.all table) (λ h y. inl y) c;
    }

module _ {order : Option ℕ} {trees : List ModeTree} {s t : Stored} {limit : ℕ} {n : NodeId}
    (w : IsWalk order trees s t limit (Ok n)) where
  pub firable_listed : AreListed (IsFirableUpTo order trees) (family t n.n)
  firable_listed = subst (AreListed (IsFirableUpTo order trees)) (sym w.drawn.ok.1) w.is_all

  pub firable_in : IsFamilyNumber t n.n
  firable_in = w.drawn.ok.0

  pub firable_stored : All (IsCounted (family t n.n)) t.families
  firable_stored = subst (λ z. All (IsCounted z) t.families) (sym w.drawn.ok.1) (walk_stored w)

  pub limit_kept : t.limit ≡ limit
  limit_kept = w.drawn.grows.limit ∙ w.limited

  pub answer_needed : (table : Table) (r : Result Drawn NodeFault) → IfOk r (λ a. AreNeeded (family t n.n) table a)
      → (all : Family) → AreListed (IsFirableUpTo order trees) all → IfOk r (λ a. AreNeeded all table a)
  answer_needed table r k all l =
      subst (λ z. IfOk r (λ a. AreNeeded z table a)) (listed_one (family t n.n) all firable_listed l) k

-- the firable sets are listed, where the families of the trees' paths are there
pub all_listed : (order : Option ℕ) {trees : List ModeTree} (paths : Stored) (ns : List NodeId)
    → AreTreeFamilies trees (families_left paths ns) → HaveOwnEvents trees
    → (all : Family) × AreListed (IsFirableUpTo order trees) all
all_listed order {trees = trees} paths ns families apart =
    let fs = families_left paths ns in
    let n = bound fs in (
      few_of order (left n.0 0 fs),
      few_listed order trees (left n.0 0 fs) (walk_lists trees fs families n.0 apart n.1),
    )
