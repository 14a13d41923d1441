-- The step of the walk as its code takes it: the trees' families are nodes or lie above the least event.
use Rattle.std.proofs.Common.{◌≡◌, ◌≢◌, ℕ, suc, ◌+◌, ◌<◌, true, false, not, cond, ◌||◌, eqb, List, [], ◌∷◌, Option, Some, map, filter, Result, refl, sym, ap, ap₂, ◌∙◌, subst, arith}
use Rattle.std.specs.List.{list_any}
use Rattle.zdd_nodes.specs.Families.{Family, holds}
use Rattle.zdd_nodes.specs.FamiliesInside.{node, IsAbove}
use Rattle.zdd_nodes.specs.Sections.{upper, lower, IsCounted}
use Rattle.zdd_nodes.proofs.Laws.{IsAbove_set, filter-node, filter-none, filter-all, every, each_of, holds_here, holds-above}
use Rattle.zdd_nodes.proofs.Sections.{IsCounted-lower, IsCounted-upper}
use Rattle.zdd_nodes.proofs.Halves.{taken_off}
use Rattle.zdd_nodes.specs.Nodes.{NodeId, Stored, Draws}
use Rattle.zdd_nodes.specs.declared.NodeFault.{NodeFault}
use Rattle.zdd_nodes.proofs.Growing.{Draws-weaker, counted_made}
use Rattle.zdd_nodes.proofs.Halved.{Halved}
use Rattle.firable_families.specs.Walk.{left, all_lower, all_taken, some_occurs, few_of, occurs, taken}
use Rattle.firable_families.proofs.Few.{few_upper, few_node, few_above, upper_above}
use Rattle.firable_families.proofs.Products.{Lacks, left_halves, left_skip, lower_lacks, taken_lacks}
use Rattle.firable_families.proofs.Walking.{left_above}

pub none_above : (v : ℕ) (f : Family) → IsAbove v f → occurs v f ≡ false
none_above v [] a = refl
none_above v (s ∷ f) a = ap₂ (λ b c. b || c) (holds-above v s a.0) (none_above v f a.1)

-- a family above the event stays as it is
pub lower_above : (v : ℕ) (f : Family) → IsAbove v f → lower v f ≡ f
lower_above v f a = filter-all (λ s. not (holds v s)) f
    (each_of (IsAbove_set v) (λ s. not (holds v s) ≡ true) (λ s k. ap not (holds-above v s k)) f a)

pub taken_above : (v : ℕ) (f : Family) → IsAbove v f → taken v f ≡ f
taken_above v f a = ap (λ b. cond b (upper v f) f) (none_above v f a)

-- a node of the event becomes its halves
module _ (v : ℕ) (lo hi : Family) (a : IsAbove v lo) (b : IsAbove v hi) where
  pub lower_node : lower v (node v lo hi) ≡ lo
  lower_node = filter-node v (λ s. not (holds v s)) lo hi ∙ ap₂ (node v)
      (filter-all (λ s. not (holds v s)) lo
      (each_of (IsAbove_set v) (λ s. not (holds v s) ≡ true) (λ s k. ap not (holds-above v s k)) lo a))
      (filter-none (λ s. not (holds v (v ∷ s))) hi
      (every (λ s. not (holds v (v ∷ s)) ≡ false) (λ s. ap not (holds_here v s)) hi))

  upper_node : upper v (node v lo hi) ≡ hi
  upper_node = ap (map (filter (λ x. not (eqb v x)))) (filter-node v (holds v) lo hi ∙ ap₂ (node v)
      (filter-none (holds v) lo (each_of (IsAbove_set v) (λ s. holds v s ≡ false) (λ s k. holds-above v s k) lo a))
      (filter-all (λ s. holds v (v ∷ s)) hi (every (λ s. holds v (v ∷ s) ≡ true) (λ s. holds_here v s) hi)))
      ∙ taken_off v hi b

  pub occurs_node : hi ≢ [] → occurs v (node v lo hi) ≡ true
  occurs_node n = some hi n
    where
      some : (h : Family) → h ≢ [] → occurs v (node v lo h) ≡ true
      some [] n = absurd (n refl)
      some (s ∷ h) n = ap (λ b. b || list_any (holds v) (node v lo h)) (holds_here v s)

  pub taken_node : hi ≢ [] → taken v (node v lo hi) ≡ hi
  taken_node n = ap (λ b. cond b (upper v (node v lo hi)) (node v lo hi)) (occurs_node n) ∙ upper_node

-- ---- above the least event
passed : (v : ℕ) (c n k e : ℕ) (fs : List Family) → n ≡ c + k → e ≡ c + 0 → v < e → ((x : ℕ) → x < e → Lacks x fs)
    → IsAbove v (left n 0 fs)
passed v c n k e fs m q l h = subst (IsAbove v) (sym (left_skip c n k 0 e fs m q (λ x y u. h x u)))
    (left_above v k e fs l)

-- a state of the walk at its least event, and of its sets those of at most as many events as are asked for
module _ (order : Option ℕ) (m n v : ℕ) (fs : List Family) (q : n ≡ v + suc m) (h : (x : ℕ) → x < v → Lacks x fs)
    (o : some_occurs v fs ≡ true) where
  abbrev Made : Family
  Made = few_of order (left n 0 fs)

  abbrev Without : Family
  Without = few_of order (left n 0 (all_lower v fs))

  abbrev With : Family
  With = few_upper order (left n 0 (all_taken v fs))

  made_is : Made ≡ node v Without With
  made_is = ap (few_of order) (left_halves m n v fs q h o)
      ∙ few_node order v (left n 0 (all_lower v fs)) (left n 0 (all_taken v fs))

  without_above : IsAbove v Without
  without_above = few_above order v (left n 0 (all_lower v fs))
      (passed v (suc v) n m (suc v) (all_lower v fs) (omega (arith, q)) (omega arith) (omega arith)
      (λ x u. lower_lacks v x fs (h x) u))

  with_above : IsAbove v With
  with_above = upper_above order v (left n 0 (all_taken v fs))
      (passed v (suc v) n m (suc v) (all_taken v fs) (omega (arith, q)) (omega arith) (omega arith)
      (λ x u. taken_lacks v x fs (h x) u))

  pub walk_halved : Halved (IsCounted Made) Made v Without With
  walk_halved = record {
    is = made_is;
    lower_above = without_above;
    upper_above = with_above;
    whole = counted_made Made;
  }

  -- where no event is left to take, the whole is the lower half
  pub walk_only : order ≡ Some 0 → Made ≡ Without
  walk_only none = made_is
      ∙ ap (λ z. node v Without (few_upper z (left n 0 (all_taken v fs)))) none

  pub walk_lower : (s t : Stored) (r : Result NodeId NodeFault) → Draws (IsCounted Without) Without s t r
      → Draws (IsCounted Made) Without s t r
  walk_lower s t r d = Draws-weaker (IsCounted Without) (IsCounted Made) Without s t r
      (λ g x. subst (λ z. IsCounted z g) (sym made_is) (IsCounted-lower v Without With g without_above x)) d

  pub walk_upper : (s t : Stored) (r : Result NodeId NodeFault) → Draws (IsCounted With) With s t r
      → Draws (IsCounted Made) With s t r
  walk_upper s t r d = Draws-weaker (IsCounted With) (IsCounted Made) With s t r
      (λ g x. subst (λ z. IsCounted z g) (sym made_is) (IsCounted-upper v Without With g without_above with_above x)) d
