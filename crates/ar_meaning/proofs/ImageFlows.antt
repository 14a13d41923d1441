-- An image has the same flows and steps.
use Rattle.std.proofs.Common.{◌≡◌, ℕ, zero, suc, Bool, true, false, List, ◌∷◌, Contains, refl, sym, ◌∙◌, subst}
use Rattle.ar_base.specs.Lists.{Stands, IsOneOf, IsFirst, HasNo, Along}
use Rattle.ar_base.specs.Lists as l
use Rattle.ar_meaning.specs.Systems.{Assign, Variable, Transition, Way, Leaf, Branches, Net}
use Rattle.ar_meaning.specs.Facts.{PassesConditions, Fact, given, Allows, HasValue, HasStateValue, FactOf}
use Rattle.ar_meaning.specs.Facts as f
use Rattle.ar_meaning.specs.Flows.{HasTwo, IsOutside, IsBrokenAssign, Completes, none, state, known, unknown, Outcome, Flows, two, outside, broken, all_hold}
use Rattle.ar_meaning.specs.Ways.{has_must, Can, guard_holds, all_musts, some_may, Musts_can, must, may, Some_can, this, later, Effects, acts, by_part, Part_effects, by_must, by_may, by_later}
use Rattle.ar_meaning.specs.Ways as w
use Rattle.ar_meaning.specs.Steps.{Clashes, LeavesDomain, Receives, Answer, Step, not_enabled, clash, range, flow, moves}
use Rattle.ar_meaning.specs.Steps as s
use Rattle.ar_meaning.specs.Image.{Conditions_rename, Assign_renames, Variable_renames, Transition_renames, Way_renames, leaves, joints, no_branch, branch}
use Rattle.ar_meaning.specs.ImageInside.{Branches_rename, IsNetImage}
use Rattle.ar_meaning.specs.Image as i
use Rattle.domains.specs.declared.Value.{Value}
use Rattle.typed_expr.specs.declared.expr.Expr.{Expr}
use Rattle.ar_meaning.proofs.Least.{least, closed}
use Rattle.typed_expr.proofs.Renaming.{carries}
use Rattle.typed_expr.specs.PairsInside.{turned_pairs}
use Rattle.ar_meaning.proofs.ImageTurned.{net_turned, way_turned}

-- the item at the same place of the other list
pub record Partner {A B : Type 0} (R : A → B → Type 0) (ys : List B) (n : ℕ) (a : A) : Type 0 where
  pub item : B
  pub stands : Stands ys n item
  pub related : R a item

pub partner : {A B : Type 0} {R : A → B → Type 0} {xs : List A} {ys : List B} → Along R xs ys → (n : ℕ) (a : A)
    → Stands xs n a → Partner R ys n a
partner l.none n a e = cc
partner {R = R} (l.one_and {a = x} {b = y} r d) zero a e =
    let h : x ≡ a = cc in
    record { item = y; stands = refl; related = subst (λ z. R z y) h r }
partner (l.one_and r d) (suc n) a e =
    let p = partner d n a e in
    record { item = p.item; stands = p.stands; related = p.related }

module _ {A B : Type 0} {R : A → B → Type 0} {S : B → A → Type 0} {P : A → Type 0} {Q : B → Type 0} {xs : List A}
    {ys : List B}
    (there : Along R xs ys) (here : Along S ys xs) (on : (a : A) (b : B) → R a b → P a → Q b)
    (back : (b : B) (a : A) → S b a → Q b → P a) where
  pub first_there : {n : ℕ} → IsFirst xs P n → IsFirst ys Q n
  first_there {n = n} h =
      let p = partner there n h.item h.stands in
      record {
        item = p.item;
        stands = p.stands;
        has = on h.item p.item p.related h.has;
        before = λ k b m e q. let o = partner here k b e in h.before k o.item m o.stands (back b o.item o.related q);
      }

  pub none_there : HasNo xs P → HasNo ys Q
  none_there h = record {
    has_not = λ k b e q. let o = partner here k b e in h.has_not k o.item o.stands (back b o.item o.related q);
  }

pub passes_carry : (V W : Type 0) (P : V → Value → Type 0) (Q : W → Value → Type 0) (same : V → W → Type 0)
    (kept : (x : V) (y : W) (v : Value) → same x y → P x v → Q y v) {es : List (Expr V × Bool)}
    {fs : List (Expr W × Bool)}
    → PassesConditions P es → Conditions_rename same es fs → PassesConditions Q fs
passes_carry V W P Q same kept f.none i.none = f.none
passes_carry V W P Q same kept (f.one_and d ds) (i.one_and r rs) =
    f.one_and (carries V W P Q same kept d r) (passes_carry V W P Q same kept ds rs)

must_same : {V W : Type 0} {same : V → W → Type 0} {bs : Branches (Transition V)} {cs : Branches (Transition W)}
    → Branches_rename same bs cs → has_must bs ≡ has_must cs
must_same no_branch = refl
must_same (branch {must = true} q qs) = refl
must_same (branch {must = false} q qs) = must_same qs

-- what ways can do
module _ (V W : Type 0) (P : V → Value → Type 0) (Q : W → Value → Type 0) (same : V → W → Type 0)
    (kept : (x : V) (y : W) (v : Value) → same x y → P x v → Q y v)
    (one : (x : V) (y z : W) → same x y → same x z → y ≡ z) where
  mutual
    pub can_there : {v : Way V} {w : Way W} → Way_renames same v w → Can P v → Can Q w
    can_there (leaves q) (guard_holds y) = guard_holds (carries V W P Q same kept y q.guard)
    can_there (joints q) (all_musts e c) = all_musts (sym (must_same q) ∙ e) (musts_there q c)
    can_there (joints q) (some_may e c) = some_may (sym (must_same q) ∙ e) (some_there q c)

    pub musts_there : {bs : Branches (Transition V)} {cs : Branches (Transition W)} → Branches_rename same bs cs
        → Musts_can P bs → Musts_can Q cs
    musts_there no_branch w.no_part = w.no_part
    musts_there (branch q qs) (must c cs) = must (can_there q c) (musts_there qs cs)
    musts_there (branch q qs) (may cs) = may (musts_there qs cs)

    pub some_there : {bs : Branches (Transition V)} {cs : Branches (Transition W)} → Branches_rename same bs cs
        → Some_can P bs → Some_can Q cs
    some_there (branch q qs) (this c) = this (can_there q c)
    some_there (branch q qs) (later c) = later (some_there qs c)
    some_there no_branch c = elim c [ ]

  mutual
    pub effects_there : {v : Way V} {w : Way W} {x : V} {y : W} {d : Value} → Way_renames same v w → same x y
        → Effects P v x d → Effects Q w y d
    effects_there {y = y} {d = d} (leaves {e = f} q) s (acts a m p e) =
        let b = partner q.action m.place a m.stands in
        subst (λ z. Effects Q (Leaf f) z d) (one a.target b.item.target y b.related.target s)
        (acts b.item (record { place = m.place; stands = b.stands })
        (passes_carry V W P Q same kept p b.related.conditions) (carries V W P Q same kept e b.related.value))
    effects_there (joints q) s (by_part e) = by_part (part_effects_there q s e)

    pub part_effects_there : {bs : Branches (Transition V)} {cs : Branches (Transition W)} {x : V} {y : W} {d : Value}
        → Branches_rename same bs cs → same x y → Part_effects P bs x d → Part_effects Q cs y d
    part_effects_there (branch q qs) s (by_must e) = by_must (effects_there q s e)
    part_effects_there (branch q qs) s (by_may c e) = by_may (can_there q c) (effects_there q s e)
    part_effects_there (branch q qs) s (by_later e) = by_later (part_effects_there qs s e)
    part_effects_there no_branch s e = elim e [ ]

-- what holds here holds there
module _ {V W : Type 0} (same : V → W → Type 0) (A : Net V) (B : Net W) (image : IsNetImage same A B) where
  pub value_there : (t : List Value) (x : V) (y : W) (v : Value) → same x y → HasValue A t x v → HasValue B t y v
  value_there t x y v s h =
      let p = partner image.variables h.place h.variable h.stands in
      record {
        place = h.place;
        variable = p.item;
        stands = p.stands;
        is_key = image.one x p.item.key y (subst (λ z. same z p.item.key) h.is_key p.related.key) s;
        value = h.value;
      }

  pub given_there : (t : List Value) (x : V) (y : W) (v : Value) → same x y → HasStateValue A t x v
      → HasStateValue B t y v
  given_there t x y v s h =
      let p = partner image.variables h.place h.variable h.stands in
      record {
        place = h.place;
        variable = p.item;
        stands = p.stands;
        is_key = image.one x p.item.key y (subst (λ z. same z p.item.key) h.is_key p.related.key) s;
        is_state = sym p.related.is_state ∙ h.is_state;
        value = h.value;
      }

  pub allows_there : (x : V) (y : W) (v : Value) → same x y → Allows A x v → Allows B y v
  allows_there x y v s h =
      let p = partner image.variables h.place h.variable h.stands in
      record {
        place = h.place;
        variable = p.item;
        stands = p.stands;
        is_key = image.one x p.item.key y (subst (λ z. same z p.item.key) h.is_key p.related.key) s;
        has = subst (λ d. Contains d v) p.related.domain h.has;
      }

  pub fact_there : (t : List Value) (x : V) (y : W) (v : Value) → same x y → FactOf A t x v → FactOf B t y v
  fact_there t x y v s h =
      let P : V → Value → Type 0 = λ x v. (y : W) → same x y → FactOf B t y v in
      let go : (x : V) (y : W) (w : Value) → same x y → P x w → FactOf B t y w = λ x y w r h. h y r in
      least A.assertions (Allows A) (HasStateValue A t) P
      (λ x v h y q. given (given_there t x y v q h))
      (λ a v m p d l y q.
      let b = partner image.assertions m.place a m.stands in
      let k = closed B.assertions (Allows B) (HasStateValue B t) b.item v
      (record { place = m.place; stands = b.stands })
      (passes_carry V W P (FactOf B t) same go p b.related.conditions)
      (carries V W P (FactOf B t) same go d b.related.value)
      (allows_there a.target b.item.target v b.related.target l) in
      subst (λ z. FactOf B t z v) (image.one a.target b.item.target y b.related.target q) k)
      x v h y s

  pub two_there : (t : List Value) (x : Variable V) (y : Variable W) → Variable_renames same x y → HasTwo A t x
      → HasTwo B t y
  two_there t x y r h = record {
    is_flow = sym r.is_state ∙ h.is_flow;
    first = h.first;
    second = h.second;
    is_first = fact_there t x.key y.key h.first r.key h.is_first;
    is_second = fact_there t x.key y.key h.second r.key h.is_second;
    differ = h.differ;
  }

  pub outside_there : (t : List Value) (x : Variable V) (y : Variable W) → Variable_renames same x y → IsOutside A t x
      → IsOutside B t y
  outside_there t x y r h =
      let b = partner image.assertions h.is_one.place h.assign h.is_one.stands in
      let go = λ (x : V) (y : W) (v : Value) (s : same x y) (d : FactOf A t x v). fact_there t x y v s d in
      record {
        is_flow = sym r.is_state ∙ h.is_flow;
        assign = b.item;
        value = h.value;
        is_one = record { place = h.is_one.place; stands = b.stands };
        is_target =
            image.one x.key b.item.target y.key (subst (λ z. same z b.item.target) h.is_target b.related.target) r.key;
        passes = passes_carry V W (FactOf A t) (FactOf B t) same go h.passes b.related.conditions;
        yields = carries V W (FactOf A t) (FactOf B t) same go h.yields b.related.value;
        outside = λ c. h.outside (subst (λ d. Contains d h.value) (sym r.domain) c);
      }

pub completes_there : {V W : Type 0} {same : V → W → Type 0} {P : V → Value → Type 0} {Q : W → Value → Type 0}
    {xs : List (Variable V)} {ys : List (Variable W)} {vs ws : List Value}
    → ((x : V) (y : W) (v : Value) → same x y → P x v → Q y v)
    → ((y : W) (x : V) (v : Value) → same x y → Q y v → P x v)
    → Along (Variable_renames same) xs ys → Completes P xs vs ws → Completes Q ys vs ws
completes_there on off l.none none = none
completes_there on off (l.one_and r rs) (state s d) = state (sym r.is_state ∙ s) (completes_there on off rs d)
completes_there on off (l.one_and {a = x} {b = y} r rs) (known {w = w} s h d) =
    known (sym r.is_state ∙ s) (on x.key y.key w r.key h) (completes_there on off rs d)
completes_there {Q = Q} {ys = y ∷ ys} {vs = v ∷ vs} {ws = w ∷ ws} on off (l.one_and {a = x} r rs) (unknown s h d) =
    subst (λ z. Completes Q (y ∷ ys) (v ∷ vs) (z ∷ ws)) (sym r.value)
    (unknown (sym r.is_state ∙ s) (λ u q. h u (off y.key x.key u r.key q)) (completes_there on off rs d))

pub receives_there : {V W : Type 0} {same : V → W → Type 0} {P : V → Value → Type 0} {Q : W → Value → Type 0}
    {xs : List (Variable V)} {ys : List (Variable W)} {vs ws : List Value}
    → ((x : V) (y : W) (v : Value) → same x y → P x v → Q y v)
    → ((y : W) (x : V) (v : Value) → same x y → Q y v → P x v)
    → Along (Variable_renames same) xs ys → Receives P xs vs ws → Receives Q ys vs ws
receives_there on off l.none s.none = s.none
receives_there on off (l.one_and {a = x} {b = y} r rs) (s.changed {w = w} h d) =
    s.changed (on x.key y.key w r.key h) (receives_there on off rs d)
receives_there on off (l.one_and {a = x} {b = y} r rs) (s.kept h d) =
    s.kept (λ u q. h u (off y.key x.key u r.key q)) (receives_there on off rs d)

-- denials want both ways
module _ {V W : Type 0} (same : V → W → Type 0) (A : Net V) (B : Net W) (image : IsNetImage same A B) where
  broken_there : (t : List Value) (a : Assign V) (b : Assign W) → Assign_renames same a b → IsBrokenAssign A t a
      → IsBrokenAssign B t b
  broken_there t a b r h =
      let go =
      λ (x : V) (y : W) (v : Value) (s : same x y) (d : HasValue A t x v). value_there same A B image t x y v s d in
      record {
        passes = passes_carry V W (HasValue A t) (HasValue B t) same go h.passes r.conditions;
        value = h.value;
        yields = carries V W (HasValue A t) (HasValue B t) same go h.yields r.value;
        differs = λ d.
            h.differs (value_there (turned_pairs same) B A (net_turned same image) t b.target a.target h.value r.target d);
      }

  clashes_there : (P : V → Value → Type 0) (Q : W → Value → Type 0)
      → ((x : V) (y : W) (v : Value) → same x y → P x v → Q y v)
      → (x : Variable V) (y : Variable W) → Variable_renames same x y → Clashes P x → Clashes Q y
  clashes_there P Q on x y r h = record {
    first = h.first;
    second = h.second;
    is_first = on x.key y.key h.first r.key h.is_first;
    is_second = on x.key y.key h.second r.key h.is_second;
    differ = h.differ;
  }

  leaves_there : (P : V → Value → Type 0) (Q : W → Value → Type 0)
      → ((x : V) (y : W) (v : Value) → same x y → P x v → Q y v)
      → (x : Variable V) (y : Variable W) → Variable_renames same x y → LeavesDomain P x → LeavesDomain Q y
  leaves_there P Q on x y r h = record {
    value = h.value;
    received = on x.key y.key h.value r.key h.received;
    outside = λ c. h.outside (subst (λ d. Contains d h.value) (sym r.domain) c);
  }

module _ {V W : Type 0} (same : V → W → Type 0) (A : Net V) (B : Net W) (image : IsNetImage same A B) where
  pub flows_there : {t : List Value} {o : Outcome} → Flows A t o → Flows B t o
  flows_there {t = t} {o = o} h =
      let back = net_turned same image in
      let no_two =
      none_there image.variables back.variables (two_there same A B image t) (two_there (turned_pairs same) B A back t) in
      let no_outside =
      none_there image.variables back.variables (outside_there same A B image t)
      (outside_there (turned_pairs same) B A back t) in
      let on =
      λ (x : V) (y : W) (v : Value) (s : same x y) (d : FactOf A t x v). fact_there same A B image t x y v s d in
      let off =
      λ (y : W) (x : V) (v : Value) (s : same x y) (d : FactOf B t y v). fact_there
      (turned_pairs same) B A back t y x v s d in
      elim h as (λ k _. Flows B t k) [
        | two f ↦
            two
            (first_there image.variables back.variables (two_there same A B image t)
            (two_there (turned_pairs same) B A back t) f)
        | outside n f ↦
            outside (no_two n)
            (first_there image.variables back.variables (outside_there same A B image t)
            (outside_there (turned_pairs same) B A back t) f)
        | broken total n m c f ↦ broken total (no_two n) (no_outside m) (completes_there on off image.variables c)
            (first_there image.assertions back.assertions (broken_there same A B image total)
            (broken_there (turned_pairs same) B A back total) f)
        | all_hold {total = total} n m c f ↦
            all_hold (no_two n) (no_outside m) (completes_there on off image.variables c)
            (none_there image.assertions back.assertions (broken_there same A B image total)
            (broken_there (turned_pairs same) B A back total) f)
      ]

  pub step_there : {t : List Value} {v : Way V} {w : Way W} {o : Answer} → Way_renames same v w → Step A t v o
      → Step B t w o
  step_there {t = t} {v = v} {w = w} {o = o} q h =
      let back = net_turned same image in
      let value_on =
      λ (x : V) (y : W) (d : Value) (s : same x y) (h : HasValue A t x d). value_there same A B image t x y d s h in
      let value_off =
      λ (y : W) (x : V) (d : Value) (s : same x y) (h : HasValue B t y d). value_there
      (turned_pairs same) B A back t y x d s h in
      let P = Effects (HasValue A t) v in
      let Q = Effects (HasValue B t) w in
      let on =
      λ (x : V) (y : W) (d : Value) (s : same x y) (h : P x d). effects_there V W (HasValue A t)
      (HasValue B t) same value_on image.one q s h in
      let off =
      λ (y : W) (x : V) (d : Value) (s : same x y) (h : Q y d). effects_there W V (HasValue B t) (HasValue A t)
      (turned_pairs same) value_off back.one (way_turned same q) s h in
      let can : Can (HasValue A t) v → Can (HasValue B t) w =
      can_there V W (HasValue A t) (HasValue B t) same value_on image.one q in
      let can_back : Can (HasValue B t) w → Can (HasValue A t) v =
      can_there W V (HasValue B t) (HasValue A t) (turned_pairs same) value_off back.one (way_turned same q) in
      let no_clash =
      none_there image.variables back.variables (clashes_there same A B image P Q on)
      (clashes_there (turned_pairs same) B A back Q P off) in
      let no_leave =
      none_there image.variables back.variables (leaves_there same A B image P Q on)
      (leaves_there (turned_pairs same) B A back Q P off) in
      elim h as (λ k _. Step B t w k) [
        | not_enabled n ↦ not_enabled (λ c. n (can_back c))
        | clash c f ↦
            clash (can c)
            (first_there image.variables back.variables (clashes_there same A B image P Q on)
            (clashes_there (turned_pairs same) B A back Q P off) f)
        | range c n f ↦
            range (can c) (no_clash n)
            (first_there image.variables back.variables (leaves_there same A B image P Q on)
            (leaves_there (turned_pairs same) B A back Q P off) f)
        | flow u c n m r f ↦
            flow u (can c) (no_clash n) (no_leave m) (receives_there on off image.variables r) (flows_there f)
        | moves u c n m r f ↦
            moves u (can c) (no_clash n) (no_leave m) (receives_there on off image.variables r) (flows_there f)
      ]
