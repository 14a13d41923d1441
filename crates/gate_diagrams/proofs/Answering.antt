-- From the minimal sets of the two operands to the answer.
use Rattle.std.proofs.Common.{◌≡◌, ◌≢◌, inl, inr, ℕ, ◌<◌, ◌||◌, List, [], ◌∷◌, Option, filter, Result, Ok, Err, refl, sym, ap, ◌∙◌, subst, arith, true≢false}
use Rattle.std.specs.List.{All, list_any}
use Rattle.std.proofs.lemmas.List.Elements.{All-append, All-weaker}
use Rattle.ar_firing.specs.Forest.{ModeTree}
use Rattle.ar_firing.specs.Listed.{AreListed}
use Rattle.zdd_nodes.specs.Families.{Family, within, has, minimal}
use Rattle.zdd_nodes.specs.FamiliesInside.{IsFamily}
use Rattle.zdd_nodes.specs.Sections.{IsCounted, IsHalf, IsMoreThan}
use Rattle.zdd_nodes.proofs.Filters.{IsFamily-filter}
use Rattle.zdd_nodes.proofs.Laws.{same-refl, within-refl}
use Rattle.zdd_nodes.proofs.Minimal.{any_within-minimal}
use Rattle.zdd_nodes.proofs.Sections.{IsMoreThan-weaker}
use Rattle.zdd_nodes.specs.Nodes.{NodeId, Stored, family, IsFamilyNumber, IsSoundStore, Grows, Draws}
use Rattle.zdd_nodes.specs.declared.NodeFault.{NodeFault}
use Rattle.zdd_nodes.specs.declared.NodeFault.TheVariants.{Full}
use Rattle.zdd_nodes.proofs.Growing.{Draws-after, kept, full_weaker}
use Rattle.zdd_nodes.proofs.Lists.{some_sets}
use Rattle.zdd_nodes.proofs.Limits.{full_is_more}
use Rattle.eq_core.specs.Gates.{Operand, Gate, Table}
use Rattle.eq_core.specs.Values.{value_at}
use Rattle.firable_families.specs.FirableInside.{IsFirableUpTo, ListsLeastUpTo}
use Rattle.firable_families.proofs.Listing.{true_lists, least_listed}
use Rattle.gate_diagrams.specs.Needed.{family_at, IsNeeded, IsNeededByBoth}
use Rattle.gate_diagrams.specs.NodeLimits.{IsConflictUpTo, NodesMayUpTo}
use Rattle.gate_diagrams.specs.Needed.IsNeeded.{of_firable}
use Rattle.gate_diagrams.proofs.Filters.{of_members}
use Rattle.gate_diagrams.proofs.Needing.{minimal_drawn}

pub all_stored : (P : Family → Type 0) (s t : Stored) → All P s.families → Grows P s t → All P t.families
all_stored P s t a g = subst (All P) (sym g.families) (All-append P s.families g.added a g.all)

-- the minimal sets, once the operand's family is drawn
pub least_drawn : (all : Family) (gates : List Gate) (o : Operand) (s t u : Stored) (n : NodeId)
    (r : Result NodeId NodeFault)
    → Draws (IsNeeded all gates o) (family_at all gates o) s t (Ok n)
    → Draws (IsHalf (family t n.n)) (minimal (family t n.n)) t u r
    → Draws (IsNeeded all gates o) (minimal (family_at all gates o)) s u r
least_drawn all gates o s t u n r a d =
    Draws-after (IsNeeded all gates o) (minimal (family_at all gates o)) s t u r a.grows
    (minimal_drawn all gates o t u r (subst (λ z. Draws (IsHalf z) (minimal z) t u r) a.ok.1 d))

minimal_none : (f : Family) → IsFamily f → minimal f ≡ [] → f ≡ []
minimal_none [] k e = refl
minimal_none (s ∷ f) k e = absurd (true≢false
    (sym (ap (λ b. b || list_any (λ t. within t s) f) (within-refl s)) ∙ any_within-minimal (s ∷ f) k.ascending s
    ∙ ap (list_any (λ t. within t s)) e))

minimal_of_none : minimal [] ≡ []
unfolding minimal
minimal_of_none = refl

at_family : (all : Family) (gates : List Gate) (o : Operand) → IsFamily all → IsFamily (family_at all gates o)
unfolding family_at
at_family all gates o k = IsFamily-filter (value_at gates o) all k

module _ (order : Option ℕ) (trees : List ModeTree) (table : Table) (all : Family)
    (is_all : AreListed (IsFirableUpTo order trees) all) where
  lists_least : (o : Operand) → ListsLeastUpTo order trees (value_at table.gates o) (minimal (family_at all table.gates o))
  unfolding family_at
  lists_least o = least_listed order trees (value_at table.gates o) (of_members table.gates o) all is_all

  none_so : family_at all table.gates table.conflict ≡ [] → (set : List ℕ) → IsConflictUpTo order trees table set → ⊥
  unfolding family_at
  none_so e set t =
      let w = (true_lists order trees (value_at table.gates table.conflict) (of_members table.gates table.conflict) all
      is_all).whole set t in
      true≢false (sym w.1 ∙ ap (λ z. has z w.0) e)

  some_so : family_at all table.gates table.conflict ≢ [] → (set : List ℕ) × IsConflictUpTo order trees table set
  unfolding family_at
  some_so n = at (filter (value_at table.gates table.conflict) all) refl
    where
      at : (f : Family) → filter (value_at table.gates table.conflict) all ≡ f
          → (set : List ℕ) × IsConflictUpTo order trees table set
      at [] e = absurd (n e)
      at (s ∷ f) e = (
        s,
        (true_lists order trees (value_at table.gates table.conflict) (of_members table.gates table.conflict) all
            is_all).sound s
            (ap (λ z. has z s) e ∙ ap (λ b. b || has f s) (same-refl s)),
      )

module _ (table : Table) (all : Family) (is_family : IsFamily all) (s0 s1 : Stored)
    (stored : All (IsNeeded all table.gates table.conflict) s0.families) where
  abbrev NeededConflict : Family → Type 0
  NeededConflict = IsNeeded all table.gates table.conflict

  abbrev NeededBoth : Family → Type 0
  NeededBoth = IsNeededByBoth all table

  module _ (r : Result NodeId NodeFault)
      (d : Draws NeededConflict (minimal (family_at all table.gates table.conflict)) s0 s1 r) where
    pub needed_conflict : All NeededConflict s1.families
    needed_conflict = all_stored NeededConflict s0 s1 stored d.grows

    pub full_conflict : (order : Option ℕ) (trees : List ModeTree)
        → AreListed (IsFirableUpTo order trees) all → r ≡ Err Full
        → NodesMayUpTo order trees table s0.limit
    full_conflict order trees is_all e =
        let m = subst (λ z. IsMoreThan z NeededConflict) d.grows.limit
        (full_is_more NeededConflict s1 needed_conflict (d.full e)) in
        record {
          all = all;
          is_all = is_all;
          where_some = λ set t. m;
          where_none = λ none. IsMoreThan-weaker s0.limit NeededConflict NeededBoth (λ h x. inl x) m;
        }

  module _ (n : NodeId)
      (d : Draws NeededConflict (minimal (family_at all table.gates table.conflict)) s0 s1 (Ok n)) where
    pub sets_conflict : IsSoundStore s1 → (n.n ≡ 0 → ⊥) → (order : Option ℕ) (trees : List ModeTree)
        → AreListed (IsFirableUpTo order trees) all
        → ((set : List ℕ) × IsConflictUpTo order trees table set)
        × (IsFamilyNumber s1 n.n × ListsLeastUpTo order trees (value_at table.gates table.conflict) (family s1 n.n))
    sets_conflict k some order trees is_all =
        let positive : 0 < n.n = grind (arith, some) in
        let there : family s1 n.n ≢ [] = some_sets s1.families k.different n.n positive d.ok.0 in (
          some_so order trees table all is_all (λ e. there (d.ok.1 ∙ ap minimal e ∙ minimal_of_none)),
          (
            d.ok.0,
            subst (ListsLeastUpTo order trees (value_at table.gates table.conflict)) (sym d.ok.1)
                (lists_least order trees table all is_all table.conflict),
          ),
        )

    none_at : n.n ≡ 0 → family_at all table.gates table.conflict ≡ []
    none_at e = minimal_none (family_at all table.gates table.conflict)
        (at_family all table.gates table.conflict is_family) (sym d.ok.1 ∙ ap (family s1) e)

    module _ (s2 : Stored) (q : Result NodeId NodeFault) (none : n.n ≡ 0)
        (t : Draws (IsNeeded all table.gates table.top) (minimal (family_at all table.gates table.top)) s1 s2 q) where
      pub needed_both : All NeededBoth s2.families
      needed_both = all_stored NeededBoth s1 s2
          (All-weaker NeededConflict NeededBoth (λ h x. inl x) s1.families (needed_conflict (Ok n) d))
          (record {
            limit = t.grows.limit;
            added = t.grows.added;
            families = t.grows.families;
            all = All-weaker (IsNeeded all table.gates table.top) NeededBoth (λ h x. inr x) t.grows.added t.grows.all;
          })

      pub full_both : (order : Option ℕ) (trees : List ModeTree)
          → AreListed (IsFirableUpTo order trees) all → q ≡ Err Full
          → NodesMayUpTo order trees table s0.limit
      full_both order trees is_all e = record {
        all = all;
        is_all = is_all;
        where_some = λ set x. absurd (none_so order trees table all is_all (none_at none) set x);
        where_none = λ x. subst (λ z. IsMoreThan z NeededBoth) (t.grows.limit ∙ d.grows.limit)
            (full_is_more NeededBoth s2 needed_both
            (full_weaker (IsNeeded all table.gates table.top) NeededBoth s2 (λ h y. inr y) (t.full e)));
      }

    pub sets_top : (s2 : Stored) (m : NodeId) → n.n ≡ 0
        → Draws (IsNeeded all table.gates table.top) (minimal (family_at all table.gates table.top)) s1 s2 (Ok m)
        → (order : Option ℕ) (trees : List ModeTree)
        → AreListed (IsFirableUpTo order trees) all
        → ((set : List ℕ) → IsConflictUpTo order trees table set → ⊥)
        × (IsFamilyNumber s2 m.n × ListsLeastUpTo order trees (value_at table.gates table.top) (family s2 m.n))
    sets_top s2 m none t order trees is_all = (
      none_so order trees table all is_all (none_at none),
      (
        t.ok.0,
        subst (ListsLeastUpTo order trees (value_at table.gates table.top)) (sym t.ok.1)
            (lists_least order trees table all is_all table.top),
      ),
    )

-- where the firable sets are the family of a number of the store
module _ (table : Table) (f : ℕ) (s0 s1 : Stored) (sound : IsSoundStore s0) (f_in : IsFamilyNumber s0 f)
    (stored : All (IsCounted (family s0 f)) s0.families) where
  abbrev all : Family
  all = family s0 f

  abbrev Conflict : Family → Type 0
  Conflict = IsNeeded all table.gates table.conflict

  abbrev Both : Family → Type 0
  Both = IsNeededByBoth all table

  stored_needed : All Conflict s0.families
  stored_needed = All-weaker (IsCounted all) Conflict (λ h c. of_firable c) s0.families stored

  module _ (r : Result NodeId NodeFault)
      (d : Draws Conflict (minimal (family_at all table.gates table.conflict)) s0 s1 r) where
    pub conflict_needed : All Conflict s1.families
    conflict_needed = needed_conflict table all (sound.families f f_in) s0 s1 stored_needed r d

    pub conflict_full : (order : Option ℕ) (trees : List ModeTree)
        → AreListed (IsFirableUpTo order trees) all → r ≡ Err Full
        → NodesMayUpTo order trees table s0.limit
    conflict_full = full_conflict table all (sound.families f f_in) s0 s1 stored_needed r d

  module _ (n : NodeId) (d : Draws Conflict (minimal (family_at all table.gates table.conflict)) s0 s1 (Ok n)) where
    pub conflict_sets : IsSoundStore s1 → (n.n ≡ 0 → ⊥) → (order : Option ℕ) (trees : List ModeTree)
        → AreListed (IsFirableUpTo order trees) all
        → ((set : List ℕ) × IsConflictUpTo order trees table set)
        × (IsFamilyNumber s1 n.n × ListsLeastUpTo order trees (value_at table.gates table.conflict) (family s1 n.n))
    conflict_sets = sets_conflict table all (sound.families f f_in) s0 s1 stored_needed n d

    module _ (s2 : Stored) (q : Result NodeId NodeFault) (none : n.n ≡ 0)
        (t : Draws (IsNeeded (family s1 f) table.gates table.top)
        (minimal (family_at (family s1 f) table.gates table.top)) s1 s2 q) where
      top_drawn : Draws (IsNeeded all table.gates table.top) (minimal (family_at all table.gates table.top)) s1 s2 q
      top_drawn = subst (λ z. Draws (IsNeeded z table.gates table.top) (minimal (family_at z table.gates table.top)) s1
          s2 q) (kept Conflict s0 s1 f d.grows f_in) t

      pub both_needed : All Both s2.families
      both_needed = needed_both table all (sound.families f f_in) s0 s1 stored_needed n d s2 q none top_drawn

      pub both_full : (order : Option ℕ) (trees : List ModeTree)
          → AreListed (IsFirableUpTo order trees) all → q ≡ Err Full
          → NodesMayUpTo order trees table s0.limit
      both_full = full_both table all (sound.families f f_in) s0 s1 stored_needed n d s2 q none top_drawn

    pub top_sets : (s2 : Stored) (m : NodeId) → n.n ≡ 0
        → Draws (IsNeeded (family s1 f) table.gates table.top) (minimal (family_at (family s1 f) table.gates table.top))
        s1 s2 (Ok m)
        → (order : Option ℕ) (trees : List ModeTree)
        → AreListed (IsFirableUpTo order trees) all
        → ((set : List ℕ) → IsConflictUpTo order trees table set → ⊥)
        × (IsFamilyNumber s2 m.n × ListsLeastUpTo order trees (value_at table.gates table.top) (family s2 m.n))
    top_sets s2 m none t = sets_top table all (sound.families f f_in) s0 s1 stored_needed n d s2 m none
        (top_drawn s2 (Ok m) none t)
