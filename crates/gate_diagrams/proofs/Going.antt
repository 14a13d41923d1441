-- The walk through the firable sets, step by step.
use Rattle.std.proofs.Common.{◌≡◌, ◌≢◌, ⊎_elim, ℕ, zero, suc, ◌+◌, ◌-◌, ◌<◌, Bool, true, false, cond, ◌||◌, nat_eq, eqb, eqb-true, List, [], ◌∷◌, Option, Some, Result, Ok, Err, refl, sym, ap, ap₂, ◌∙◌, subst, arith, true≢false}
use Rattle.std.specs.List.{list_any, list_all}
use Rattle.ar_base.specs.Lists.{Stands}
use Rattle.ar_base.proofs.Standing.{stands_map, stands_map_back}
use Rattle.zdd_nodes.specs.Families.{Family, has, holds}
use Rattle.zdd_nodes.specs.FamiliesInside.{node, IsAbove}
use Rattle.zdd_nodes.specs.Sections.{IsCounted}
use Rattle.zdd_nodes.specs.SectionsInside.{IsMade}
use Rattle.zdd_nodes.proofs.Laws.{holds_here}
use Rattle.zdd_nodes.specs.Nodes.{NodeId, Stored, family, IsFamilyNumber, IsSoundStore, Grows, Draws}
use Rattle.zdd_nodes.specs.declared.NodeFault.{NodeFault}
use Rattle.zdd_nodes.specs.declared.NodeFault.TheVariants.{Memory}
use Rattle.zdd_nodes.proofs.Growing.{Draws-refused, Draws-after, kept, still}
use Rattle.zdd_nodes.proofs.Halved as h
use Rattle.zdd_nodes.proofs.Lists.{some_sets}
use Rattle.firable_families.specs.Walk.{left, occurs, some_occurs, all_lower, all_taken, few_of, one_fewer, AreEventsBelow}
use Rattle.firable_families.proofs.Merging.{map_stands, lower_occurs, taken_occurs, some_place, all_place, place_all}
use Rattle.firable_families.proofs.Products.{left_end}
use Rattle.firable_families.proofs.Few.{few_upper, upper_fewer}
use Rattle.firable_families.proofs.Halving.{walk_halved, walk_lower, walk_upper, walk_only}
use Rattle.gate_diagrams.specs.declared.walked.State.{State}
use Rattle.gate_diagrams.specs.Walked.{families_left, AreNumbers, AreHalves, IsWalked, AreWalked}
use Rattle.gate_diagrams.proofs.Holding.{Remembers}
use Rattle.gate_diagrams.proofs.Stepping.{lacks_at}
use Rattle.gate_diagrams.proofs.Tables.{memory_drawn}

-- ---- where nothing is possible in one of the trees
abbrev ended : Bool → Family
ended b = cond b ([] ∷ []) []

pub left_dead : (n i : ℕ) (fs : List Family) (k : ℕ) → Stands fs k [] → left n i fs ≡ []
left_dead zero i fs k s = step (list_all (λ (f : Family). has f []) fs) refl
  where
    step : (b : Bool) → list_all (λ (f : Family). has f []) fs ≡ b → ended (list_all (λ (f : Family). has f []) fs) ≡ []
    step true e = absurd (true≢false (sym (all_place (λ f. has f []) fs e k [] s)))
    step false e = ap ended e
left_dead (suc n) i fs k s =
    ap₂ (λ (lo hi : Family). node i lo (cond (some_occurs i fs) hi []))
    (left_dead n (suc i) (all_lower i fs) k (stands_map _ fs k [] s))
    (left_dead n (suc i) (all_taken i fs) k (stands_map _ fs k [] s))
    ∙ elim (some_occurs i fs) as (λ b. node i [] (cond b [] []) ≡ []) [ true ↦ refl | false ↦ refl ]

pub dead_at : (trees : Stored) (state : List NodeId) → list_any (λ (n : NodeId). nat_eq n.n 0) state ≡ true
    → (k : ℕ) × Stands (families_left trees state) k []
dead_at trees [] e = absurd (true≢false (sym e))
dead_at trees (n ∷ state) e = step (dead_at trees state) (nat_eq n.n 0) refl
  where
    step : (list_any (λ (n : NodeId). nat_eq n.n 0) state ≡ true → (k : ℕ) × Stands (families_left trees state) k [])
        → (b : Bool) → nat_eq n.n 0 ≡ b
        → (k : ℕ) × Stands (families_left trees (n ∷ state)) k []
    step ih true q = let z : n.n ≡ 0 = eqb-true n.n 0 q in (zero, subst (λ m. Stands (family trees m ∷ families_left trees state) 0 []) (sym z) refl)
    step ih false q = let r = ih (ap (λ b. b || list_any (λ (n : NodeId). nat_eq n.n 0) state) (sym q) ∙ e) in (suc r.0, r.1)

-- ---- where no event is possible
alive_at : (state : List NodeId) → list_any (λ (n : NodeId). nat_eq n.n 0) state ≡ false → (k : ℕ) (n : NodeId)
    → Stands state k n → 0 < n.n
alive_at [] e k n s = cc
alive_at (m ∷ state) e k n s = step (λ h j i. alive_at state h j n i) (nat_eq m.n 0) refl k s
  where
    positive : (a : ℕ) → nat_eq a 0 ≡ false → 0 < a
    positive zero q = absurd (true≢false q)
    positive (suc a) q = omega arith

    step : (list_any (λ (n : NodeId). nat_eq n.n 0) state ≡ false → (k : ℕ) → Stands state k n → 0 < n.n) → (b : Bool)
        → nat_eq m.n 0 ≡ b
        → (k : ℕ) → Stands (m ∷ state) k n → 0 < n.n
    step ih true q k s = absurd (true≢false (ap (λ b. b || list_any (λ (n : NodeId). nat_eq n.n 0) state) (sym q) ∙ e))
    step ih false q zero s = let is : m ≡ n = cc in subst (λ (z : NodeId). 0 < z.n) is (positive m.n q)
    step ih false q (suc k) s = ih (ap (λ b. b || list_any (λ (n : NodeId). nat_eq n.n 0) state) (sym q) ∙ e) k s

has_none : (f : Family) → f ≢ [] → ((x : ℕ) → occurs x f ≡ false) → has f [] ≡ true
has_none [] n h = absurd (n refl)
has_none ([] ∷ f) n h = refl
has_none ((x ∷ s) ∷ f) n h = absurd (true≢false (sym (ap (λ b. b || occurs x f) (holds_here x s)) ∙ h x))

pub left_done : (trees : Stored) → IsSoundStore trees → (state : List NodeId) → AreNumbers trees state
    → list_any (λ (n : NodeId). nat_eq n.n 0) state ≡ false
    → ((x : ℕ) → some_occurs x (families_left trees state) ≡ false) → (n : ℕ)
    → left n 0 (families_left trees state) ≡ [] ∷ []
left_done trees sound state numbers alive none n =
    let fs = families_left trees state in
    left_end n fs (λ x l. none x)
    ∙ ap ended (place_all (λ f. has f []) fs (λ k f s.
    let r = stands_map_back (λ (m : NodeId). family trees m.n) state k f s in
    subst (λ z. has z [] ≡ true) r.2 (has_none (family trees r.0.n)
    (some_sets trees.families sound.different r.0.n (alive_at state alive k r.0 r.1) (numbers.each k r.0 r.1))
    (λ x. lacks_at x fs k (family trees r.0.n) (subst (Stands fs k) (sym r.2) s) (none x)))))

-- ---- a number above all events
set_bound : (s : List ℕ) → (n : ℕ) × ((x : ℕ) → holds x s ≡ true → x < n)
set_bound [] = (0, λ x h. absurd (true≢false (sym h)))
set_bound (y ∷ s) = let r = set_bound s in (suc y + r.0, λ x h. step r.0 (r.1 x) (eqb x y) refl h)
  where
    step : (m : ℕ) {x : ℕ} → (holds x s ≡ true → x < m) → (b : Bool) → eqb x y ≡ b → (eqb x y || holds x s) ≡ true
        → x < suc y + m
    step m {x} ih true q h = omega (arith, eqb-true x y q)
    step m {x} ih false q h = let l = ih (ap (λ b. b || holds x s) (sym q) ∙ h) in omega (arith, l)

family_bound : (f : Family) → (n : ℕ) × ((x : ℕ) → occurs x f ≡ true → x < n)
family_bound [] = (0, λ x h. absurd (true≢false (sym h)))
family_bound (s ∷ f) = let a = set_bound s in let r = family_bound f in (a.0 + r.0, λ x h. step a.0 r.0 (a.1 x) (r.1 x) (holds x s) refl h)
  where
    step : (a m : ℕ) {x : ℕ} → (holds x s ≡ true → x < a) → (occurs x f ≡ true → x < m) → (b : Bool) → holds x s ≡ b
        → (holds x s || occurs x f) ≡ true → x < a + m
    step a m {x} one ih true q h = let l = one q in omega (arith, l)
    step a m {x} one ih false q h = let l = ih (ap (λ b. b || occurs x f) (sym q) ∙ h) in omega (arith, l)

pub bound : (fs : List Family) → (n : ℕ) × AreEventsBelow n fs
bound [] = (0, record { each = λ m e f s h. cc })
bound (f ∷ fs) = let a = family_bound f in let r = bound fs in (a.0 + r.0, record { each = λ m e g s h. by a.0 r.0 a.1 r.1 m e g s h })
  where
    by : (a n : ℕ) → ((x : ℕ) → occurs x f ≡ true → x < a) → AreEventsBelow n fs → (m e : ℕ) (g : Family)
        → Stands (f ∷ fs) m g → occurs e g ≡ true → e < a + n
    by a n one b zero e g s h = let is : f ≡ g = cc in let l = one e (ap (occurs e) is ∙ h) in omega (arith, l)
    by a n one b (suc m) e g s h = let l = b.each m e g s h in omega (arith, l)

below_lower : (n e : ℕ) (fs : List Family) → AreEventsBelow n fs → AreEventsBelow n (all_lower e fs)
below_lower n e fs b = record { each = λ m x f s h. let r = map_stands _ fs m f s in b.each m x r.0 r.1 (lower_occurs e x r.0 (ap (occurs x) (sym r.2) ∙ h)) }

below_taken : (n e : ℕ) (fs : List Family) → AreEventsBelow n fs → AreEventsBelow n (all_taken e fs)
below_taken n e fs b = record { each = λ m x f s h. let r = map_stands _ fs m f s in b.each m x r.0 r.1 (taken_occurs e x r.0 (ap (occurs x) (sym r.2) ∙ h)) }

-- what a call of the walk says of a state
abbrev pub DrawsLeft : Option ℕ → Stored → List NodeId → Stored → Stored → Result NodeId NodeFault → Type 0
DrawsLeft order trees state s t r = (n : ℕ) → AreEventsBelow n (families_left trees state)
    → let made = few_of order (left n 0 (families_left trees state)) in Draws (IsCounted made) made s t r

pub walked_grows : (P : Family → Type 0) (trees s t : Stored) (order : Option ℕ) (state : List NodeId) (n : ℕ)
    → Grows P s t → IsWalked trees s order state n → IsWalked trees t order state n
walked_grows P trees s t order state n g w =
    record { in_store = still P s t n g w.in_store; is = λ below b. kept P s t n g w.in_store ∙ w.is below b }

-- what is held is right also with a new state
pub more_walked : (trees s t : Stored) (k : State) (made : NodeId) (P : Family → Type 0) → Grows P s t
    → IsWalked trees t k.order k.left.items made.n → (old new : List (State × NodeId)) → AreWalked trees s old
    → Remembers k made old new → AreWalked trees t new
more_walked trees s t k made P g here old new a r q m x = ⊎_elim
    (λ y. walked_grows P trees s t q.order q.left.items m.n g (a q m y))
    (λ y. subst (λ z. IsWalked trees t z q.left.items m.n) (sym y.1)
    (subst (λ z. IsWalked trees t k.order z m.n) (sym y.0)
    (subst (λ (z : NodeId). IsWalked trees t k.order k.left.items z.n) (sym y.2) here)))
    (r q m x)

-- ---- a state at its least event
module _ (order : Option ℕ) (trees : Stored) (state : List NodeId) (e : ℕ)
    (o : some_occurs e (families_left trees state) ≡ true)
    (least : (x : ℕ) → x < e → some_occurs x (families_left trees state) ≡ false)
    (without : List NodeId) (w : AreHalves trees e false state without) (s0 s1 : Stored) where
  abbrev fs : List Family
  fs = families_left trees state

  abbrev Made : ℕ → Family
  Made n = few_of order (left n 0 fs)

  rest : (n : ℕ) → AreEventsBelow n fs → n ≡ e + suc (n - suc e)
  rest n b = let p = some_place (occurs e) fs o in let l = b.each p.0 e p.1 p.2 p.3 in omega (arith, l)

  lower_drawn : (n : ℕ) → AreEventsBelow n fs → (r : Result NodeId NodeFault) → DrawsLeft order trees without s0 s1 r
      → Draws (IsCounted (Made n)) (few_of order (left n 0 (all_lower e fs))) s0 s1 r
  lower_drawn n b r d =
      walk_lower order (n - suc e) n e fs (rest n b) least o s0 s1 r
      (subst (λ z. Draws (IsCounted (few_of order (left n 0 z))) (few_of order (left n 0 z)) s0 s1 r) w.are
      (d n (subst (AreEventsBelow n) (sym w.are) (below_lower n e fs b))))

  pub lower_refused : (x : NodeFault) → DrawsLeft order trees without s0 s1 (Err x)
      → DrawsLeft order trees state s0 s1 (Err x)
  lower_refused x d n b = Draws-refused (IsCounted (Made n)) (few_of order (left n 0 (all_lower e fs))) (Made n) s0 s1 x
      (lower_drawn n b (Err x) d)

  pub lower_memory : (r : Result NodeId NodeFault) → DrawsLeft order trees without s0 s1 r
      → DrawsLeft order trees state s0 s1 (Err Memory)
  lower_memory r d n b = memory_drawn (IsCounted (Made n)) (Made n) s0 s1 (lower_drawn n b r d).grows

  -- where no event is left to take, the lower half is the whole
  pub lower_whole : order ≡ Some 0 → (r : Result NodeId NodeFault) → DrawsLeft order trees without s0 s1 r
      → DrawsLeft order trees state s0 s1 r
  lower_whole none r d n b =
      subst (λ z. Draws (IsCounted (Made n)) z s0 s1 r)
      (sym (walk_only order (n - suc e) n e fs (rest n b) least o none)) (lower_drawn n b r d)

  module _ (some : order ≡ Some 0 → ⊥) (with_it : List NodeId) (t : AreHalves trees e true state with_it) (lo : NodeId)
      (dl : DrawsLeft order trees without s0 s1 (Ok lo)) (s2 : Stored) where
    upper_drawn : (n : ℕ) → AreEventsBelow n fs → (r : Result NodeId NodeFault)
        → DrawsLeft (one_fewer order) trees with_it s1 s2 r
        → Draws (IsCounted (Made n)) (few_upper order (left n 0 (all_taken e fs))) s1 s2 r
    upper_drawn n b r d =
        walk_upper order (n - suc e) n e fs (rest n b) least o s1 s2 r
        (subst (λ z. Draws (IsCounted z) z s1 s2 r) (sym (upper_fewer order (left n 0 (all_taken e fs)) some))
        (subst (λ z. Draws (IsCounted (few_of (one_fewer order) (left n 0 z))) (few_of (one_fewer order) (left n 0 z))
        s1 s2 r) t.are (d n (subst (AreEventsBelow n) (sym t.are) (below_taken n e fs b)))))

    pub upper_refused : (x : NodeFault) → DrawsLeft (one_fewer order) trees with_it s1 s2 (Err x)
        → DrawsLeft order trees state s0 s2 (Err x)
    upper_refused x d n b = Draws-after (IsCounted (Made n)) (Made n) s0 s1 s2 (Err x)
        (lower_drawn n b (Ok lo) dl).grows
        (Draws-refused (IsCounted (Made n)) (few_upper order (left n 0 (all_taken e fs))) (Made n) s1 s2 x
        (upper_drawn n b (Err x) d))

    module _ (hi : NodeId) (dh : DrawsLeft (one_fewer order) trees with_it s1 s2 (Ok hi)) where
      abbrev n0 : ℕ
      n0 = (bound fs).0

      abbrev b0 : AreEventsBelow n0 fs
      b0 = (bound fs).1

      abbrev Lower : ℕ → Family
      Lower n = few_of order (left n 0 (all_lower e fs))

      abbrev Upper : ℕ → Family
      Upper n = few_upper order (left n 0 (all_taken e fs))

      pub lo_in : IsFamilyNumber s2 lo.n
      lo_in = h.lo_in (IsCounted (Made n0)) (Made n0) e (Lower n0) (Upper n0)
          (walk_halved order (n0 - suc e) n0 e fs (rest n0 b0) least o)
          s0 s1 s2 lo hi (lower_drawn n0 b0 (Ok lo) dl) (upper_drawn n0 b0 (Ok hi) dh)

      pub hi_in : IsFamilyNumber s2 hi.n
      hi_in = (upper_drawn n0 b0 (Ok hi) dh).ok.0

      pub lo_above : IsAbove e (family s2 lo.n)
      lo_above = h.lo_above (IsCounted (Made n0)) (Made n0) e (Lower n0) (Upper n0)
          (walk_halved order (n0 - suc e) n0 e fs (rest n0 b0) least o)
          s0 s1 s2 lo hi (lower_drawn n0 b0 (Ok lo) dl) (upper_drawn n0 b0 (Ok hi) dh)

      pub hi_above : IsAbove e (family s2 hi.n)
      hi_above = h.hi_above (IsCounted (Made n0)) (Made n0) e (Lower n0) (Upper n0)
          (walk_halved order (n0 - suc e) n0 e fs (rest n0 b0) least o)
          s0 s1 s2 lo hi (lower_drawn n0 b0 (Ok lo) dl) (upper_drawn n0 b0 (Ok hi) dh)

      pub whole_drawn : (s3 : Stored) (r : Result NodeId NodeFault)
          → (let m = node e (family s2 lo.n) (family s2 hi.n) in Draws (IsMade m) m s2 s3 r)
          → DrawsLeft order trees state s0 s3 r
      whole_drawn s3 r d n b = h.done (IsCounted (Made n)) (Made n) e (Lower n) (Upper n)
          (walk_halved order (n - suc e) n e fs (rest n b) least o)
          s0 s1 s2 lo hi (lower_drawn n b (Ok lo) dl) (upper_drawn n b (Ok hi) dh) s3 r d

-- the number of a state that is drawn
pub drawn_walked : (order : Option ℕ) (trees s t : Stored) (state : List NodeId) (made : NodeId)
    → DrawsLeft order trees state s t (Ok made) → IsWalked trees t order state made.n
drawn_walked order trees s t state made d =
    let n = bound (families_left trees state) in
    record { in_store = (d n.0 n.1).ok.0; is = λ m b. (d m b).ok.1 }
