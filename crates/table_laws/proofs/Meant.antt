-- What is drawn is what the system's firing orders mean.
use Rattle.std.proofs.Common.{◌≡◌, ℕ, zero, suc, Bool, true, List, [], ◌∷◌, Option, Some, None, refl, subst}
use Rattle.std.specs.List.{AllByRecursion}
use Rattle.std.proofs.lemmas.Bool.{cases_eq}
use Rattle.ar_base.specs.Lists.{Stands}
use Rattle.ar_base.proofs.Sets.{within_self}
use Rattle.ar_base.proofs.Standing.{one_none}
use Rattle.domains.specs.declared.Value.{Value}
use Rattle.typed_expr.specs.declared.expr.Expr.{Expr}
use Rattle.ar_meaning.specs.Systems.{System}
use Rattle.ar_firing.specs.Cuts.{IsLeast, MeetsConflict, ConflictSet, Cut, IsConflictFreeUpTo}
use Rattle.ar_firing.specs.CutsInside.{UpTo}
use Rattle.ar_firing.specs.Forest.{ModeTree, IsForest}
use Rattle.ar_firing.specs.Listed.{AreListed}
use Rattle.ar_firing.specs.Operands.{Agrees, IsFirableWith}
use Rattle.ar_firing.specs.Static.{IsKeyedStatic}
use Rattle.ar_firing.proofs.Cutting.{calm_within}
use Rattle.ar_firing.proofs.SmallSets.{part_up_to, least_of_small, small_and_least, free_within, told_free}
use Rattle.ar_firing.proofs.LeastThere.{least_there}
use Rattle.ar_firing.proofs.Meeting.{met_is_conflicting}
use Rattle.ar_firing.proofs.RunsTold.{meets_told, meets_as}
use Rattle.ar_firing.proofs.OneListing.{listed_as}
use Rattle.mode_trees.specs.Views.{trees_of}
use Rattle.mode_trees.specs.declared.forests.Forest.{Forest}
use Rattle.zdd_nodes.specs.Families.{Family as Sets, has}
use Rattle.zdd_nodes.proofs.Minimal.{member_of}
use Rattle.zdd_nodes.specs.Nodes.{IsFamilyNumber}
use Rattle.eq_core.specs.Gates.{Table}
use Rattle.eq_core.specs.Values.{value_at}
use Rattle.firable_families.specs.Firable.{AndUpTo}
use Rattle.firable_families.specs.FirableInside.{IsFirableOf, IsFirableUpTo, IsTrueUpTo, ListsLeastUpTo}
use Rattle.firable_families.proofs.Alike.{firable_seen}
use Rattle.firable_families.proofs.Few.{and_up_to, firable_of, small_of, firable_up_to}
use Rattle.firable_families.proofs.InForests.{firable_in_trees, firable_in_system, true_in_system}
use Rattle.gate_diagrams.specs.Answers.{IsAnswerUpTo}
use Rattle.gate_diagrams.specs.NodeLimits.{IsConflictUpTo, NodesMayUpTo}
use Rattle.gate_diagrams.specs.declared.answer.Drawn.{Drawn}
use Rattle.gate_diagrams.specs.declared.answer.Drawn.TheVariants.{Conflicts, Cuts}
use Rattle.table_laws.specs.GateLaws.{ShowsLeast}
use Rattle.table_laws.specs.Drawn.{AreDrawnUpTo, sets_of, family_of}

least_as : {P Q : List ℕ → Type 0} → ((s : List ℕ) → P s → Q s) → ((s : List ℕ) → Q s → P s) → (s : List ℕ)
    → IsLeast P s → IsLeast Q s
least_as on back s l = record { has = on s l.has; least = λ part w q. l.least part w (back part q) }

-- of P and Q, where each is the other, the sets of at most so many events
up_to_as : (order : Option ℕ) (P Q : List ℕ → Type 0) → ((s : List ℕ) → UpTo order s → P s → Q s) → (s : List ℕ)
    → AndUpTo order P s → AndUpTo order Q s
up_to_as None P Q on s p = on s tt p
up_to_as (Some k) P Q on s p = (on s p.1 p.0, p.1)

-- the least of the small sets are the least that are small
least_up_to : (order : Option ℕ) (P : List ℕ → Type 0) (s : List ℕ) → IsLeast (AndUpTo order P) s
    → AndUpTo order (IsLeast P) s
least_up_to None P s l = l
least_up_to (Some k) P s l = least_of_small (Some k) P l

up_to_least : (order : Option ℕ) (P : List ℕ → Type 0) (s : List ℕ) → AndUpTo order (IsLeast P) s
    → IsLeast (AndUpTo order P) s
up_to_least None P s l = l
up_to_least (Some k) P s l = small_and_least (Some k) P l

-- the same sets are firable in the trees by other numbers of ways
module _ (order : Option ℕ) (number other : ℕ → ℕ) (forest : Forest) where
  seen : (s : List ℕ) → IsFirableUpTo order (trees_of number forest) s → IsFirableUpTo order (trees_of other forest) s
  seen = up_to_as order (IsFirableOf (trees_of number forest)) (IsFirableOf (trees_of other forest))
      (λ s u f. firable_seen number other forest s f)

  true_seen : (test : List ℕ → Bool) (s : List ℕ) → IsTrueUpTo order (trees_of number forest) test s
      → IsTrueUpTo order (trees_of other forest) test s
  true_seen test s t = record { is_firable = seen s t.is_firable; holds = t.holds }

pub least_seen : (order : Option ℕ) (number other : ℕ → ℕ) (forest : Forest) (test : List ℕ → Bool)
    (sets : List (List ℕ)) → ListsLeastUpTo order (trees_of number forest) test sets
    → ListsLeastUpTo order (trees_of other forest) test sets
least_seen order number other forest test sets l =
    listed_as (least_as (true_seen order number other forest test) (true_seen order other number forest test))
    (least_as (true_seen order other number forest test) (true_seen order number other forest test)) l

pub nodes_seen : (order : Option ℕ) (number other : ℕ → ℕ) (forest : Forest) (table : Table) (limit : ℕ)
    → NodesMayUpTo order (trees_of number forest) table limit → NodesMayUpTo order (trees_of other forest) table limit
nodes_seen order number other forest table limit n = record {
  all = n.all;
  is_all = listed_as (seen order number other forest) (seen order other number forest) n.is_all;
  where_some = λ s c. n.where_some s (true_seen order other number forest (value_at table.gates table.conflict) s c);
  where_none = λ none. n.where_none (λ s c. none s
      (true_seen order number other forest (value_at table.gates table.conflict) s c));
}

module _ (order : Option ℕ) (sys : System ℕ) (dropped : List ℕ) (static : IsKeyedStatic sys dropped) (number : ℕ → ℕ)
    (forest : Forest) (is_forest : IsForest sys dropped (trees_of number forest)) (observer : Expr ℕ) (wanted : Value)
    (table : Table)
    (agrees : Agrees sys dropped observer wanted (value_at table.gates table.conflict) (value_at table.gates table.top))
    (shows : ShowsLeast sys dropped observer wanted table) where
  abbrev conflict : List ℕ → Bool
  conflict = value_at table.gates table.conflict

  abbrev top : List ℕ → Bool
  top = value_at table.gates table.top

  -- what is true at a small set in the trees is so in the system
  to_sys : (test : List ℕ → Bool) (s : List ℕ) → IsTrueUpTo order (trees_of number forest) test s
      → AndUpTo order (IsFirableWith sys dropped test) s
  to_sys test s t = by order t
    where
      by : (k : Option ℕ) → IsTrueUpTo k (trees_of number forest) test s → AndUpTo k (IsFirableWith sys dropped test) s
      by None t = (true_in_system sys dropped static.keyed static.static (trees_of number forest) is_forest test s).0 t
      by (Some k) t = (
        (true_in_system sys dropped static.keyed static.static (trees_of number forest) is_forest test s).0
            (record { is_firable = t.is_firable.0; holds = t.holds }),
        t.is_firable.1,
      )

  to_trees : (test : List ℕ → Bool) (s : List ℕ) → AndUpTo order (IsFirableWith sys dropped test) s
      → IsTrueUpTo order (trees_of number forest) test s
  to_trees test s t = by order t
    where
      by : (k : Option ℕ) → AndUpTo k (IsFirableWith sys dropped test) s → IsTrueUpTo k (trees_of number forest) test s
      by None t = (true_in_system sys dropped static.keyed static.static (trees_of number forest) is_forest test s).1 t
      by (Some k) t =
          let h = (true_in_system sys dropped static.keyed static.static (trees_of number forest) is_forest test s).1 t.0 in
          record { is_firable = (h.is_firable, t.1); holds = h.holds }

  -- what is listed of the trees is listed of the system
  in_sys : (test : List ℕ → Bool) (sets : List (List ℕ)) → ListsLeastUpTo order (trees_of (λ n. n) forest) test sets
      → AreListed (AndUpTo order (IsLeast (IsFirableWith sys dropped test))) sets
  in_sys test sets l =
      listed_as (λ s f. least_up_to order (IsFirableWith sys dropped test) s (least_as (to_sys test) (to_trees test) s f))
      (λ s f. least_as (to_trees test) (to_sys test) s (up_to_least order (IsFirableWith sys dropped test) s f))
      (least_seen order (λ n. n) number forest test sets l)

  conflicts_listed : (sets : List (List ℕ)) → ListsLeastUpTo order (trees_of (λ n. n) forest) conflict sets
      → AreListed (AndUpTo order (ConflictSet sys dropped)) sets
  conflicts_listed sets l =
      listed_as
      (up_to_as order (IsLeast (IsFirableWith sys dropped conflict)) (ConflictSet sys dropped)
      (λ s u. (shows.conflict_sets s).1))
      (up_to_as order (ConflictSet sys dropped) (IsLeast (IsFirableWith sys dropped conflict))
      (λ s u. (shows.conflict_sets s).0))
      (in_sys conflict sets l)

  -- without a conflict set there is no firable set at which the conflict operand is true
  none_true : AreListed (AndUpTo order (ConflictSet sys dropped)) [] → (set : List ℕ)
      → IsConflictUpTo order (trees_of (λ n. n) forest) table set → ⊥
  none_true l set t =
      let free : IsConflictFreeUpTo order sys dropped = told_free order sys dropped (λ s u m.
      let r = least_there (MeetsConflict sys dropped) (λ u. meets_told cases_eq sys dropped u)
      (meets_as sys dropped) s m in
      let o = l.whole r.0 (and_up_to order (ConflictSet sys dropped) r.0 r.2 (part_up_to order r.1 u)) in
      one_none o.0 o.1) in
      let firable = firable_of order (trees_of (λ n. n) forest) set t.is_firable in
      let small = small_of order (trees_of (λ n. n) forest) set t.is_firable in
      let seen = firable_seen (λ n. n) number forest set firable in
      let f = firable_in_system sys dropped static.keyed static.static (trees_of number forest) is_forest set seen in
      let no = calm_within sys dropped static.keyed static.static observer wanted conflict top agrees set
      (free_within order sys dropped free set small) set f.0 (within_self set) f.1 in
      let yes : conflict set ≡ true = t.holds in
      cc

  pub meant : (drawn : Drawn) → IsAnswerUpTo order (trees_of (λ n. n) forest) table drawn
      → AreDrawnUpTo order sys dropped observer wanted drawn
  meant (Conflicts f) a =
      let listed = conflicts_listed (sets_of f) a.2 in (
        (λ e. none_true (subst (λ z. AreListed (AndUpTo order (ConflictSet sys dropped)) z) e listed) a.0.0 a.0.1),
        listed,
      )
  meant (Cuts f) a =
      let free : IsConflictFreeUpTo order sys dropped = told_free order sys dropped (λ s u m.
      let met = met_is_conflicting sys dropped static.keyed static.static observer wanted conflict top agrees {set = s}
      m in
      let seen = firable_in_trees sys dropped static.keyed static.static (trees_of number forest) is_forest s
      met.values met.is_firable in
      a.0 s (record {
        is_firable = firable_up_to order (trees_of (λ n. n) forest) s (firable_seen number (λ n. n) forest s seen) u;
        holds = met.holds;
      })) in (
        free,
        listed_as
            (up_to_as order (IsLeast (IsFirableWith sys dropped top)) (Cut sys dropped observer wanted)
            (λ s u. (shows.cuts order free s u).1))
            (up_to_as order (Cut sys dropped observer wanted) (IsLeast (IsFirableWith sys dropped top))
            (λ s u. (shows.cuts order free s u).0))
            (in_sys top (sets_of f) a.2),
      )

-- what is listed is firable
listed_firable : (order : Option ℕ) (trees : List ModeTree) (test : List ℕ → Bool) (sets : Sets)
    → ListsLeastUpTo order trees test sets → (s : List ℕ) → has sets s ≡ true → IsFirableUpTo order trees s
listed_firable order trees test sets l s h =
    member_of (IsFirableUpTo order trees) sets s
    (all_of sets (λ k set at. let f = l.sound k set at in let t = f.has in t.is_firable)) h
  where
    all_of : {P : List ℕ → Type 0} (fs : Sets) → ((k : ℕ) (set : List ℕ) → Stands fs k set → P set)
        → AllByRecursion P fs
    all_of [] each = tt
    all_of (x ∷ xs) each = (each zero x refl, all_of xs (λ k set h. each (suc k) set h))

pub drawn_firable : (order : Option ℕ) (trees : List ModeTree) (table : Table) (drawn : Drawn)
    → IsAnswerUpTo order trees table drawn → (s : List ℕ) → has (sets_of (family_of drawn)) s ≡ true → IsFirableOf trees s
drawn_firable order trees table (Conflicts f) a = λ s h.
    firable_of order trees s (listed_firable order trees (value_at table.gates table.conflict) (sets_of f) a.2 s h)
drawn_firable order trees table (Cuts f) a = λ s h.
    firable_of order trees s (listed_firable order trees (value_at table.gates table.top) (sets_of f) a.2 s h)

pub drawn_stored : (order : Option ℕ) (trees : List ModeTree) (table : Table) (drawn : Drawn)
    → IsAnswerUpTo order trees table drawn → IsFamilyNumber (family_of drawn).store (family_of drawn).root.n
drawn_stored order trees table (Conflicts f) a = a.1
drawn_stored order trees table (Cuts f) a = a.1
