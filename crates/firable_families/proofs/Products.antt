-- The family of a state of the walk, by halves at the least event that is possible in it.
use Rattle.std.proofs.Common.{◌≡◌, ◌⊎◌, ⊎_elim, ℕ, zero, suc, ◌+◌, ◌<◌, ◌≤◌, Bool, true, false, not, cond, ◌||◌, eqb, List, [], ◌∷◌, map, filter, refl, sym, ap, ap₂, ◌∙◌, subst, arith, true≢false}
use Rattle.std.proofs.lemmas.Bool.{false_from_ne_true}
use Rattle.std.specs.List.{AllByRecursion, list_all}
use Rattle.zdd_nodes.specs.Families.{Family, holds, has}
use Rattle.zdd_nodes.specs.FamiliesInside.{node}
use Rattle.zdd_nodes.specs.Sections.{upper, lower}
use Rattle.zdd_nodes.proofs.Laws.{filter-all}
use Rattle.firable_families.specs.Walk.{left, all_lower, all_taken, some_occurs, occurs, taken}
use Rattle.firable_families.proofs.Merging.{lower_occurs, taken_occurs, remove}

-- the event is in no set of any of the families
abbrev pub Lacks : ℕ → List Family → Type 0
Lacks e fs = some_occurs e fs ≡ false

or_parts : (a b : Bool) → (a || b) ≡ false → (a ≡ false) × (b ≡ false)
or_parts true b h = absurd (true≢false h)
or_parts false b h = (refl, h)

none_holds : (e : ℕ) (f : Family) → occurs e f ≡ false → AllByRecursion (λ s. not (holds e s) ≡ true) f
none_holds e [] h = tt
none_holds e (s ∷ f) h = let p = or_parts (holds e s) (occurs e f) h in (ap not p.0, none_holds e f p.1)

lower_none : (e : ℕ) (f : Family) → occurs e f ≡ false → lower e f ≡ f
lower_none e f h = filter-all (λ s. not (holds e s)) f (none_holds e f h)

all_lower_none : (e : ℕ) (fs : List Family) → Lacks e fs → all_lower e fs ≡ fs
all_lower_none e [] h = refl
all_lower_none e (f ∷ fs) h = let p = or_parts (occurs e f) (some_occurs e fs) h in ap₂ (λ (x : Family) (xs : List Family). x ∷ xs) (lower_none e f p.0) (all_lower_none e fs p.1)

-- events that none has are passed over
pub left_skip : (c n k i e : ℕ) (fs : List Family) → n ≡ c + k → e ≡ c + i → ((x : ℕ) → i ≤ x → x < e → Lacks x fs)
    → left n i fs ≡ left k e fs
left_skip zero n k i e fs m q h = let a : n ≡ k = omega (arith, m) in let b : i ≡ e = omega (arith, q) in ap₂ (λ x y. left x y fs) a b
left_skip (suc c) zero k i e fs m q h = absurd (omega (arith, m))
left_skip (suc c) (suc n) k i e fs m q h =
    let o : Lacks i fs = h i (omega arith) (omega (arith, q)) in
    ap (λ b. node i (left n (suc i) (all_lower i fs)) (cond b (left n (suc i) (all_taken i fs)) [])) o
    ∙ ap (left n (suc i)) (all_lower_none i fs o)
    ∙ left_skip c n k (suc i) e fs (omega (arith, m)) (omega (arith, q)) (λ x l u. h x (omega (arith, l)) u)

-- ---- what is left lacks the event, and what lacked an event still does
remove_gone : (e : ℕ) (s : List ℕ) → holds e (remove e s) ≡ false
remove_gone e [] = refl
remove_gone e (x ∷ s) = step (remove_gone e s) (eqb e x) refl
  where
    step : holds e (remove e s) ≡ false → (b : Bool) → eqb e x ≡ b → holds e (remove e (x ∷ s)) ≡ false
    step ih true q = ap (λ b. holds e (cond (not b) (x ∷ remove e s) (remove e s))) q ∙ ih
    step ih false q = ap (λ b. holds e (cond (not b) (x ∷ remove e s) (remove e s))) q
        ∙ ap (λ b. b || holds e (remove e s)) q ∙ ih

none_lower : (e : ℕ) (f : Family) → occurs e (lower e f) ≡ false
none_lower e [] = refl
none_lower e (s ∷ f) = step (none_lower e f) (holds e s) refl
  where
    step : occurs e (lower e f) ≡ false → (b : Bool) → holds e s ≡ b → occurs e (lower e (s ∷ f)) ≡ false
    step ih true q = ap (λ b. occurs e (cond (not b) (s ∷ lower e f) (lower e f))) q ∙ ih
    step ih false q = ap (λ b. occurs e (cond (not b) (s ∷ lower e f) (lower e f))) q
        ∙ ap (λ b. b || occurs e (lower e f)) q ∙ ih

none_map : (e : ℕ) (f : Family) → occurs e (map (remove e) f) ≡ false
none_map e [] = refl
none_map e (s ∷ f) = ap₂ (λ a b. a || b) (remove_gone e s) (none_map e f)

none_taken : (e : ℕ) (f : Family) → occurs e (taken e f) ≡ false
none_taken e f = step (occurs e f) refl
  where
    step : (b : Bool) → occurs e f ≡ b → occurs e (taken e f) ≡ false
    step true q = ap (λ b. occurs e (cond b (upper e f) f)) q ∙ none_map e (filter (holds e) f)
    step false q = ap (λ b. occurs e (cond b (upper e f) f)) q ∙ q

lacks_map : (g : Family → Family) (x : ℕ) (fs : List Family)
    → ((f : Family) → occurs x f ≡ false → occurs x (g f) ≡ false) → Lacks x fs → Lacks x (map g fs)
lacks_map g x [] h l = refl
lacks_map g x (f ∷ fs) h l = let p = or_parts (occurs x f) (some_occurs x fs) l in ap₂ (λ a b. a || b) (h f p.0) (lacks_map g x fs h p.1)

lacks_each : (g : Family → Family) (x : ℕ) (fs : List Family) → ((f : Family) → occurs x (g f) ≡ false)
    → Lacks x (map g fs)
lacks_each g x [] h = refl
lacks_each g x (f ∷ fs) h = ap₂ (λ a b. a || b) (h f) (lacks_each g x fs h)

pub lower_lacks : (v x : ℕ) (fs : List Family) → (x < v → Lacks x fs) → x < suc v → Lacks x (all_lower v fs)
lower_lacks v x fs h l = ⊎_elim
    (λ a. lacks_map (lower v) x fs (λ f k. false_from_ne_true (occurs x (lower v f))
    (λ y. true≢false (sym (lower_occurs v x f y) ∙ k))) (h a))
    (λ e. subst (λ z. Lacks z (all_lower v fs)) (sym e) (lacks_each (lower v) v fs (none_lower v))) split
  where
    split : (x < v) ⊎ (x ≡ v)
    split = grind arith

pub taken_lacks : (v x : ℕ) (fs : List Family) → (x < v → Lacks x fs) → x < suc v → Lacks x (all_taken v fs)
taken_lacks v x fs h l = ⊎_elim
    (λ a. lacks_map (taken v) x fs (λ f k. false_from_ne_true (occurs x (taken v f))
    (λ y. true≢false (sym (taken_occurs v x f y) ∙ k))) (h a))
    (λ e. subst (λ z. Lacks z (all_taken v fs)) (sym e) (lacks_each (taken v) v fs (none_taken v))) split
  where
    split : (x < v) ⊎ (x ≡ v)
    split = grind arith

-- at the least event that is possible: the family without it, and with it
pub left_halves : (m n v : ℕ) (fs : List Family) → n ≡ v + suc m → ((x : ℕ) → x < v → Lacks x fs)
    → some_occurs v fs ≡ true
    → left n 0 fs ≡ node v (left n 0 (all_lower v fs)) (left n 0 (all_taken v fs))
left_halves m n v fs q h o =
    left_skip v n (suc m) 0 v fs q (omega arith) (λ x l u. h x u)
    ∙ ap (λ b. node v (left m (suc v) (all_lower v fs)) (cond b (left m (suc v) (all_taken v fs)) [])) o
    ∙ ap₂ (node v)
    (sym (left_skip (suc v) n m 0 (suc v) (all_lower v fs) (omega (arith, q)) (omega arith)
    (λ x l u. lower_lacks v x fs (h x) u)))
    (sym (left_skip (suc v) n m 0 (suc v) (all_taken v fs) (omega (arith, q)) (omega arith)
    (λ x l u. taken_lacks v x fs (h x) u)))

-- where no event is possible any more
pub left_end : (n : ℕ) (fs : List Family) → ((x : ℕ) → x < n → Lacks x fs)
    → left n 0 fs ≡ cond (list_all (λ f. has f []) fs) ([] ∷ []) []
left_end n fs h = left_skip n n 0 0 n fs (omega arith) (omega arith) (λ x l u. h x u)
