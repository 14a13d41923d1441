-- A list of the firable sets is one list: what the walk draws is it.
use Rattle.std.proofs.Common.{◌≡◌, ℕ, true, List, [], Option, Result, sym, subst}
use Rattle.ar_base.specs.Sets.{Ascends}
use Rattle.ar_base.proofs.Truths.{alike}
use Rattle.ar_firing.specs.Forest.{ModeTree}
use Rattle.ar_firing.specs.Listed.{AreListed}
use Rattle.ar_firing.specs.Trees.{HaveOwnEvents}
use Rattle.ar_firing.proofs.OneListing.{ascending_same}
use Rattle.zdd_nodes.specs.Families.{Family, has}
use Rattle.zdd_nodes.specs.Sections.{IsCounted}
use Rattle.zdd_nodes.proofs.Minimal.{member_of}
use Rattle.zdd_nodes.proofs.OneList.{same_sets}
use Rattle.zdd_nodes.specs.Nodes.{NodeId, Stored, Draws}
use Rattle.zdd_nodes.specs.declared.NodeFault.{NodeFault}
use Rattle.firable_families.specs.FirableInside.{IsFirableUpTo}
use Rattle.firable_families.specs.Walk.{left, few_of, AreTreeFamilies}
use Rattle.firable_families.proofs.Few.{few_listed}
use Rattle.firable_families.proofs.Listing.{Lists, listed_lists}
use Rattle.firable_families.proofs.Trees.{walk_lists}
use Rattle.gate_diagrams.specs.Walked.{families_left, AreWalked}
use Rattle.gate_diagrams.proofs.Going.{bound, DrawsLeft}

of_other : {P : List ℕ → Type 0} (f g : Family) → Lists P f → Lists P g → (s : List ℕ) → has f s ≡ true → has g s ≡ true
of_other f g a b s h =
    let w = b.whole s (a.sound s h) in
    subst (λ z. has g z ≡ true) (sym (ascending_same s w.0 (member_of Ascends f s a.is_family.ascending h)
    (member_of Ascends g w.0 b.is_family.ascending w.1) w.2 w.3)) w.1

pub listed_one : {P : List ℕ → Type 0} (f g : Family) → AreListed P f → AreListed P g → f ≡ g
listed_one f g a b =
    let x = listed_lists a in
    let y = listed_lists b in
    same_sets f g x.is_family.in_order y.is_family.in_order
    (λ s. alike (has f s) (has g s) (of_other f g x y s) (of_other g f y x s))

pub firable_drawn : (order : Option ℕ) (trees : Stored) (paths : List NodeId) (s t : Stored) (r : Result NodeId NodeFault)
    → DrawsLeft order trees paths s t r → (forest : List ModeTree)
    → AreTreeFamilies forest (families_left trees paths) → HaveOwnEvents forest → (all : Family)
    → AreListed (IsFirableUpTo order forest) all → Draws (IsCounted all) all s t r
firable_drawn order trees paths s t r d forest families apart all listed =
    let fs = families_left trees paths in
    let n = bound fs in
    subst (λ z. Draws (IsCounted z) z s t r)
    (listed_one (few_of order (left n.0 0 fs)) all
    (few_listed order forest (left n.0 0 fs) (walk_lists forest fs families n.0 apart n.1)) listed) (d n.0 n.1)

-- no state is held in an empty list
pub none_walked : (trees made : Stored) → AreWalked trees made []
none_walked trees made k n h = let wrong : ⊥ = cc in absurd wrong
