-- Flows, the assignments to each variable, and blocks by numbers.
use Rattle.std.proofs.Common.{◌≡◌, ℕ, zero, suc, ◌+◌, ◌<◌, inl, inr, Bool, true, false, not, cond, if◌then◌else◌, nat_eq, List, [], ◌∷◌, ◌++◌, length, take, drop, set, map, Some, Vec, Global, refl, sym, ap, ◌∙◌, subst, arith, append_assoc, append-nil, add-one}
use Rattle.std.proofs.lemmas.List.Sums.{sum_by-cons}
use Rattle.std.proofs.lemmas.Bool.Decides.{nat_tests}
use Rattle.std.proofs.lemmas.Option.{same_Some}
use Rattle.ar_base.specs.Lists.{Stands, Along, IsOneOf}
use Rattle.ar_base.specs.Lists as l
use Rattle.ar_base.proofs.Standing.{one_cases, one_none, along_length, along_on, along_back, stands_within}
use Rattle.ar_base.proofs.Items.{along_push}
use Rattle.ar_meaning.specs.Systems as s
use Rattle.ar_meaning.specs.Systems.{Net}
use Rattle.ar_meaning.specs.Dependence.{IsFlow, flow_count}
use Rattle.flow_blocks.specs.Bits.{row_of}
use Rattle.flow_blocks.specs.Blocks.{Depends, directly, through, Together, same, each_other, IsClass, MayBeGiven, Follow, all_given, next}
use Rattle.flow_blocks.proofs.RowLemmas.{row_set_same}
use Rattle.gts_core.specs.View.{net_of, variables_from, variable_of}
use Rattle.gts_core.specs.declared.system.Variable.{Variable}
use Rattle.gts_core.specs.declared.system.Assign.{Assign}
use Rattle.gts_core.specs.declared.system.GtsParts.{GtsParts}
use Rattle.flow_propagate.specs.Plan as plan
use Rattle.eq_build.specs.Steps.{flows_from, AreBlocks}
use Rattle.tree_equations.specs.Index.{to_target, AreNumbersOf, AreByTarget, AreFlows, AreUnder}
use Rattle.tree_equations.specs.Blocks.{StandAtPlaces, ArePlacedBlocks}

pub along_as : {A B : Type 0} (R S : A → B → Type 0) → ((x : A) (y : B) → R x y → S x y) → {xs : List A} {ys : List B}
    → Along R xs ys → Along S xs ys
along_as R S f l.none = l.none
along_as R S f (l.one_and {a = x} {b = y} r a) = l.one_and (f x y r) (along_as R S f a)

-- the flows among the variables from place i on go behind those before
pub record FlowsSoFar (variables : List Variable) (i : ℕ) (flows : List ℕ) : Type 0 where
  pub on : (ns : List ℕ) → AreFlows variables ns (flows_from i (variables_from i (drop i variables)))
      → AreFlows variables (flows ++ ns) (flows_from 0 (variables_from 0 variables))

module _ (variables : List Variable) where
  pub flows_start : (flows : List ℕ) → flows ≡ [] → FlowsSoFar variables 0 flows
  flows_start flows e = record {
    on = λ ns a. subst (λ (z : List ℕ). AreFlows variables (z ++ ns) (flows_from 0 (variables_from 0 variables)))
        (sym e) a;
  }

  abbrev Rest : ℕ → List ℕ → List Variable → Type 0
  Rest i ns ys = AreFlows variables ns (flows_from i (variables_from i ys))

  pub flows_state : (i : ℕ) (x : Variable) (flows : List ℕ) → drop i variables ≡ x ∷ drop (suc i) variables
      → x.is_state ≡ true → FlowsSoFar variables i flows → FlowsSoFar variables (i + 1) flows
  flows_state i x flows at is f = record {
    on = λ ns a. f.on ns (subst (Rest i ns) (sym at) (by x.is_state is (step ns a)));
  }
    where
      step : (ns : List ℕ) → Rest (i + 1) ns (drop (i + 1) variables)
          → AreFlows variables ns (flows_from (i + 1) (variables_from (i + 1) (drop (suc i) variables)))
      step ns a = subst (λ (k : ℕ). AreFlows variables ns
          (flows_from (i + 1) (variables_from (i + 1) (drop k variables))))
          (add-one i) a

      by : {ns : List ℕ} (b : Bool) → b ≡ true
          → AreFlows variables ns (flows_from (i + 1) (variables_from (i + 1) (drop (suc i) variables)))
          → AreFlows variables ns (if b then flows_from (i + 1) (variables_from (i + 1) (drop (suc i) variables))
          else (i, variable_of i x) ∷ flows_from (i + 1) (variables_from (i + 1) (drop (suc i) variables)))
      by true e a = a
      by false e a = absurd (cc e)

  pub flows_flow : (i : ℕ) (x : Variable) (flows new : List ℕ) (n : ℕ)
      → drop i variables ≡ x ∷ drop (suc i) variables → Stands variables i x → x.is_state ≡ false → n ≡ i
      → new ≡ flows ++ n ∷ [] → FlowsSoFar variables i flows → FlowsSoFar variables (i + 1) new
  flows_flow i x flows new n at st is e pushed f = record {
    on = λ ns a. subst (λ (z : List ℕ). AreFlows variables z (flows_from 0 (variables_from 0 variables)))
        (sym (append_assoc flows (i ∷ []) ns)
        ∙ ap (λ (z : List ℕ). z ++ ns) (ap (λ (z : ℕ). flows ++ z ∷ []) (sym e) ∙ sym pushed))
        (f.on (i ∷ ns) (subst (Rest i (i ∷ ns)) (sym at) (by x.is_state is (step ns a))));
  }
    where
      step : (ns : List ℕ) → Rest (i + 1) ns (drop (i + 1) variables)
          → AreFlows variables ns (flows_from (i + 1) (variables_from (i + 1) (drop (suc i) variables)))
      step ns a = subst (λ (k : ℕ). AreFlows variables ns
          (flows_from (i + 1) (variables_from (i + 1) (drop k variables))))
          (add-one i) a

      by : {ns : List ℕ} (b : Bool) → b ≡ false
          → AreFlows variables ns (flows_from (i + 1) (variables_from (i + 1) (drop (suc i) variables)))
          → AreFlows variables (i ∷ ns) (if b then flows_from (i + 1) (variables_from (i + 1) (drop (suc i) variables))
          else (i, variable_of i x) ∷ flows_from (i + 1) (variables_from (i + 1) (drop (suc i) variables)))
      by true h a = absurd (cc h)
      by false h a = l.one_and (record { variable = x; stands = st; is = refl }) a

  pub flows_end : (i : ℕ) (flows : List ℕ) → drop i variables ≡ [] → FlowsSoFar variables i flows
      → AreFlows variables flows (flows_from 0 (variables_from 0 variables))
  flows_end i flows e f =
      subst (λ (z : List ℕ). AreFlows variables z (flows_from 0 (variables_from 0 variables))) (append-nil flows)
      (f.on [] (subst (Rest i []) (sym e) l.none))

  -- the numbers in the pairs are those of the flows
  pub flow_pairs : {flows : List ℕ} {pairs : List (ℕ × s.Variable ℕ)} → AreFlows variables flows pairs
      → map (λ (p : ℕ × s.Variable ℕ). p.0) pairs ≡ flows
  flow_pairs l.none = refl
  flow_pairs (l.one_and {a = n} {ys = pairs} r a) =
      ap (λ (q : ℕ × s.Variable ℕ). q.0 ∷ map (λ (p : ℕ × s.Variable ℕ). p.0) pairs) r.is
      ∙ ap (λ z. n ∷ z) (flow_pairs a)

  -- each flow's number is that of a variable
  pub flows_under : {flows : List ℕ} {pairs : List (ℕ × s.Variable ℕ)} → AreFlows variables flows pairs
      → AreUnder (length variables) flows
  flows_under l.none = λ n o. absurd (one_none n o)
  flows_under (l.one_and {a = m} {xs = flows} r a) = λ n o. elim (one_cases m flows n o) [
    | inl e ↦ subst (λ (z : ℕ). z < length variables) e (stands_within variables m r.variable r.stands)
    | inr h ↦ flows_under a n h
  ]

-- a flow, by how many stand before it
record IsFlowAt (m : ℕ) (ys : List (s.Variable ℕ)) (k : ℕ) (pair : ℕ × s.Variable ℕ) : Type 0 where
  pub place : ℕ
  pub number : pair.0 ≡ m + place
  pub stands : Stands ys place pair.1
  pub is_flow : pair.1.is_state ≡ false
  pub before : flow_count (take place ys) ≡ k

flow_at : (m : ℕ) (ys : List (s.Variable ℕ)) (k : ℕ) (pair : ℕ × s.Variable ℕ) → Stands (flows_from m ys) k pair
    → IsFlowAt m ys k pair
flow_at m [] k pair st = absurd (cc st)
flow_at m (y ∷ ys) k pair st = by y.is_state refl (λ j h. flow_at (m + 1) ys j pair h) st
  where
    later : (j : ℕ) → (w : IsFlowAt (m + 1) ys j pair)
        → flow_count (y ∷ take w.place ys) ≡ k → IsFlowAt m (y ∷ ys) k pair
    later j w e = record {
      place = suc w.place;
      number = let h = w.number in omega (arith, h);
      stands = w.stands;
      is_flow = w.is_flow;
      before = e;
    }

    count : (xs : List (s.Variable ℕ)) → flow_count (y ∷ xs) ≡ cond (not y.is_state) 1 0 + flow_count xs
    count xs = sum_by-cons (λ (x : s.Variable ℕ). cond (not x.is_state) 1 0) y xs

    by : (b : Bool) → y.is_state ≡ b
        → ((j : ℕ) → Stands (flows_from (m + 1) ys) j pair → IsFlowAt (m + 1) ys j pair)
        → Stands (if b then flows_from (m + 1) ys else (m, y) ∷ flows_from (m + 1) ys) k pair
        → IsFlowAt m (y ∷ ys) k pair
    by true is rest h =
        let w = rest k h in
        let c = count (take w.place ys) ∙ ap (λ (b : Bool). cond (not b) 1 0 + flow_count (take w.place ys)) is in
        later k w (let d = w.before in omega (arith, c, d))
    by false is rest h = first k h
      where
        first : (k : ℕ) → Stands ((m, y) ∷ flows_from (m + 1) ys) k pair → IsFlowAt m (y ∷ ys) k pair
        first zero f =
            let e : (m, y) ≡ pair = same_Some _ _ f in record {
              place = 0;
              number = ap (λ (p : ℕ × s.Variable ℕ). p.0) (sym e) ∙ omega arith;
              stands = ap (λ (p : ℕ × s.Variable ℕ). Some p.1) e;
              is_flow = ap (λ (p : ℕ × s.Variable ℕ). p.1.is_state) (sym e) ∙ is;
              before = refl;
            }
        first (suc j) f =
            let w = rest j f in
            let c = count (take w.place ys) ∙ ap (λ (b : Bool). cond (not b) 1 0 + flow_count (take w.place ys)) is in
            record {
              place = suc w.place;
              number = let h = w.number in omega (arith, h);
              stands = w.stands;
              is_flow = w.is_flow;
              before = let d = w.before in omega (arith, c, d);
            }

flow_long : (m : ℕ) (ys : List (s.Variable ℕ)) → length (flows_from m ys) ≡ flow_count ys
flow_long m [] = refl
flow_long m (y ∷ ys) = by y.is_state refl (flow_long (m + 1) ys)
  where
    count : flow_count (y ∷ ys) ≡ cond (not y.is_state) 1 0 + flow_count ys
    count = sum_by-cons (λ (x : s.Variable ℕ). cond (not x.is_state) 1 0) y ys

    by : (b : Bool) → y.is_state ≡ b → length (flows_from (m + 1) ys) ≡ flow_count ys
        → length (if b then flows_from (m + 1) ys else (m, y) ∷ flows_from (m + 1) ys) ≡ flow_count (y ∷ ys)
    by true is d =
        let c = count ∙ ap (λ (b : Bool). cond (not b) 1 0 + flow_count ys) is in omega (arith, c, d)
    by false is d =
        let c = count ∙ ap (λ (b : Bool). cond (not b) 1 0 + flow_count ys) is in omega (arith, c, d)

module _ (p : GtsParts) (flows : List ℕ)
    (are : AreFlows p.variables.items flows (flows_from 0 (net_of p).variables)) where
  pub flows_long : length flows ≡ flow_count (net_of p).variables
  flows_long = along_length flows (flows_from 0 (net_of p).variables) are
      ∙ flow_long 0 (net_of p).variables

  pub is_flow : (k n : ℕ) → Stands flows k n → IsFlow (net_of p) k n
  is_flow k n st =
      let q = along_on flows (flows_from 0 (net_of p).variables) are k n st in
      let w = flow_at 0 (net_of p).variables k q.0 q.1 in
      let number : q.0.0 ≡ n = ap (λ (z : ℕ × s.Variable ℕ). z.0) q.2.is in
      let key : q.0.1.key ≡ n = ap (λ (z : ℕ × s.Variable ℕ). z.1.key) q.2.is in record {
        place = w.place;
        variable = q.0.1;
        stands = w.stands;
        is_key = key;
        is_flow = w.is_flow;
        before = w.before;
      }

-- each number in a list of classes is below the count
pub follow_under : (count : ℕ) (uses : List (ℕ × ℕ)) (given blocks : List (List ℕ)) → Follow count uses given blocks
    → (members : List ℕ) → IsOneOf blocks members → AreUnder count members
follow_under count uses given [] f members o = absurd (one_none members o)
follow_under count uses given (b ∷ blocks) (next {rest = rest} n f) members o = elim (one_cases b blocks members o) [
  | inl e ↦ subst (λ (z : List ℕ). AreUnder count z) e n.is_class.below
  | inr h ↦ follow_under count uses (given ++ b ∷ []) blocks f members h
]

-- uses that say the same give the same blocks
module _ (count : ℕ) (uses others : List (ℕ × ℕ)) (on : (a b : ℕ) → IsOneOf uses (a, b) → IsOneOf others (a, b)) where
  depends_on : {a b : ℕ} → Depends uses a b → Depends others a b
  depends_on (directly {a = a} {b = b} o) = directly (on a b o)
  depends_on (through {a = a} {b = b} o d) = through (on a b o) (depends_on d)

  together_on : {a b : ℕ} → Together uses a b → Together others a b
  together_on same = same
  together_on (each_other d e) = each_other (depends_on d) (depends_on e)

module _ (count : ℕ) (uses others : List (ℕ × ℕ)) (on : (a b : ℕ) → IsOneOf uses (a, b) → IsOneOf others (a, b))
    (back : (a b : ℕ) → IsOneOf others (a, b) → IsOneOf uses (a, b)) where
  may_on : (given : List (List ℕ)) (n : ℕ) → MayBeGiven uses given n → MayBeGiven others given n
  may_on given n m = λ b k t d. elim (m b k (together_on count others uses back t)
      (depends_on count others uses back d)) [
        | inl h ↦ inl (together_on count uses others on h)
        | inr h ↦ inr h
      ]

  class_on : (members : List ℕ) → IsClass count uses members → IsClass count others members
  class_on members c = record {
    one = c.one;
    is_member = c.is_member;
    below = c.below;
    only = λ n o. together_on count uses others on (c.only n o);
    all = λ n l t. c.all n l (together_on count others uses back t);
    ascending = c.ascending;
  }

module _ (count : ℕ) (uses others : List (ℕ × ℕ)) (on : (a b : ℕ) → IsOneOf uses (a, b) → IsOneOf others (a, b))
    (back : (a b : ℕ) → IsOneOf others (a, b) → IsOneOf uses (a, b)) where
  pub follow_on : {given blocks : List (List ℕ)} → Follow count uses given blocks → Follow count others given blocks
  follow_on (all_given h) = all_given h
  follow_on (next {given = given} {members = members} n f) =
      next (record {
        is_class = class_on count uses others on back members n.is_class;
        is_new = n.is_new;
        may = λ k o. may_on count uses others on back given k (n.may k o);
        least = λ m k st l no may. n.least m k st l no (may_on count others uses back on given k may);
      }) (follow_on f)

-- flows before which as many flows stand are at one place
flow_place : (ys : List (s.Variable ℕ)) (i j : ℕ) (x y : s.Variable ℕ) → Stands ys i x → Stands ys j y
    → x.is_state ≡ false → y.is_state ≡ false → flow_count (take i ys) ≡ flow_count (take j ys) → i ≡ j
flow_place [] i j x y st su f g e = absurd (cc st)
flow_place (z ∷ ys) zero zero x y st su f g e = refl
flow_place (z ∷ ys) zero (suc j) x y st su f g e =
    let c = sum_by-cons (λ (x : s.Variable ℕ). cond (not x.is_state) 1 0) z (take j ys) in
    let d = ap (λ (b : Bool). cond (not b) 1 0 + flow_count (take j ys))
    (ap (λ (v : s.Variable ℕ). v.is_state) (same_Some _ _ st) ∙ f) in
    let h : 0 ≡ flow_count (z ∷ take j ys) = e in absurd (omega (arith, c, d, h))
flow_place (z ∷ ys) (suc i) zero x y st su f g e =
    let c = sum_by-cons (λ (x : s.Variable ℕ). cond (not x.is_state) 1 0) z (take i ys) in
    let d = ap (λ (b : Bool). cond (not b) 1 0 + flow_count (take i ys))
    (ap (λ (v : s.Variable ℕ). v.is_state) (same_Some _ _ su) ∙ g) in
    let h : flow_count (z ∷ take i ys) ≡ 0 = e in absurd (omega (arith, c, d, h))
flow_place (z ∷ ys) (suc i) (suc j) x y st su f g e =
    let c = sum_by-cons (λ (x : s.Variable ℕ). cond (not x.is_state) 1 0) z (take i ys) in
    let d = sum_by-cons (λ (x : s.Variable ℕ). cond (not x.is_state) 1 0) z (take j ys) in
    let h : flow_count (z ∷ take i ys) ≡ flow_count (z ∷ take j ys) = e in
    let r = flow_place ys i j x y st su f g (omega (arith, c, d, h)) in omega (arith, r)

-- the blocks by numbers are those of the net
pub are_blocks : (p : GtsParts) (flows : List ℕ) (classes blocks : List (List ℕ))
    → AreFlows p.variables.items flows (flows_from 0 (net_of p).variables) → plan.AreFlowClasses p classes
    → ArePlacedBlocks flows classes blocks → AreBlocks (net_of p) blocks
are_blocks p flows classes blocks are c placed = record {
  uses = c.uses;
  are_uses = c.are;
  classes = classes;
  follow = c.follow;
  are = along_as (StandAtPlaces flows) (Along (λ (k n : ℕ). IsFlow (net_of p) k n))
      (λ x y d. along_as (λ (k n : ℕ). Stands flows k n) (λ (k n : ℕ). IsFlow (net_of p) k n) (is_flow p flows are) d)
      placed;
}

-- the numbers in blocks are those of variables
pub blocks_under : (net : Net ℕ) (n : ℕ) (blocks : List (List ℕ)) → length net.variables ≡ n
    → ((k : ℕ) (x : s.Variable ℕ) → Stands net.variables k x → x.key ≡ k) → AreBlocks net blocks
    → (block : List ℕ) → IsOneOf blocks block → AreUnder n block
blocks_under net n blocks long keys b block o m k =
    let classes = along_back b.classes blocks b.are o.place block o.stands in
    let f = along_back classes.0 block classes.2 k.place m k.stands in
    let w = stands_within net.variables f.2.place f.2.variable f.2.stands in
    let e = keys f.2.place f.2.variable f.2.stands in
    let i = f.2.is_key in omega (arith, w, sym e ∙ i, long)

-- the assignments to a variable, with one more
pub to_target_push : (n : ℕ) (xs : List Assign) (a : Assign)
    → to_target n (xs ++ a ∷ []) ≡ (if nat_eq a.target.n n then to_target n xs ++ a ∷ [] else to_target n xs)
to_target_push n [] a = by (nat_eq a.target.n n)
  where
    by : (b : Bool) → (if b then a ∷ [] else []) ≡ (if b then [] ++ a ∷ [] else [])
    by true = refl
    by false = refl
to_target_push n (x ∷ xs) a =
    ap (λ z. if nat_eq x.target.n n then x ∷ z else z) (to_target_push n xs a)
    ∙ by (nat_eq x.target.n n) (nat_eq a.target.n n)
  where
    by : (b c : Bool) → (if b then x ∷ (if c then to_target n xs ++ a ∷ [] else to_target n xs)
        else (if c then to_target n xs ++ a ∷ [] else to_target n xs))
        ≡ (if c then (if b then x ∷ to_target n xs else to_target n xs) ++ a ∷ []
        else (if b then x ∷ to_target n xs else to_target n xs))
    by true true = refl
    by true false = refl
    by false true = refl
    by false false = refl

abbrev Row : Type 0
Row = Vec ℕ Global

set_other : (rows : List Row) (a b : ℕ) (v : Row) → (b ≡ a → ⊥) → row_of (set rows a v) b ≡ row_of rows b
set_other [] a b v n = refl
set_other (r ∷ rows) zero zero v n = absurd (n refl)
set_other (r ∷ rows) zero (suc b) v n = refl
set_other (r ∷ rows) (suc a) zero v n = refl
set_other (r ∷ rows) (suc a) (suc b) v n = set_other rows a b v (λ e. n (omega (arith, e)))

set_long : (rows : List Row) (a : ℕ) (v : Row) → length (set rows a v) ≡ length rows
set_long [] a v = refl
set_long (r ∷ rows) zero v = refl
set_long (r ∷ rows) (suc a) v = let e = set_long rows a v in omega (arith, e)

-- no assignment yet
pub target_start : (count : ℕ) (assigns : List Assign) (rows : List Row) → length rows ≡ count
    → ((n : ℕ) → row_of rows n ≡ []) → AreByTarget count assigns [] rows
target_start count assigns rows long none = record {
  long = long;
  row = λ n h. subst (λ (z : List ℕ). AreNumbersOf assigns z []) (sym (none n)) l.none;
}

-- one assignment more
pub target_next : (count : ℕ) (assigns old : List Assign) (k : ℕ) (a : Assign) (rows new : List Row) (pushed : Row)
    (n : ℕ) → Stands assigns k a → a.target.n < count → n ≡ k
    → pushed.items ≡ row_of rows a.target.n ++ n ∷ [] → new ≡ set rows a.target.n pushed
    → AreByTarget count assigns old rows → AreByTarget count assigns (old ++ a ∷ []) new
target_next count assigns old k a rows new pushed n st under at is e f = record {
  long = ap length e ∙ set_long rows a.target.n pushed ∙ f.long;
  row = λ m l. subst (λ (z : List Row). AreNumbersOf assigns (row_of z m) (to_target m (old ++ a ∷ []))) (sym e)
      (subst (λ (z : List Assign). AreNumbersOf assigns (row_of (set rows a.target.n pushed) m) z)
      (sym (to_target_push m old a)) (by m l (nat_eq a.target.n m) refl));
}
  where
    by : (m : ℕ) → m < count → (b : Bool) → nat_eq a.target.n m ≡ b
        → AreNumbersOf assigns (row_of (set rows a.target.n pushed) m)
        (if b then to_target m old ++ a ∷ [] else to_target m old)
    by m l true t =
        let i : a.target.n ≡ m = grind (arith, nat_tests) in
        let here : row_of (set rows a.target.n pushed) m ≡ row_of rows m ++ n ∷ [] =
        ap (row_of (set rows a.target.n pushed)) (sym i)
        ∙ row_set_same rows a.target.n pushed (omega (arith, under, f.long)) ∙ is
        ∙ ap (λ (z : ℕ). row_of rows z ++ n ∷ []) i in
        subst (λ (z : List ℕ). AreNumbersOf assigns z (to_target m old ++ a ∷ [])) (sym here)
        (along_push _ _ n a (f.row m l) (subst (λ (z : ℕ). Stands assigns z a) (sym at) st))
    by m l false t =
        let i : m ≡ a.target.n → ⊥ = λ e. differs a.target.n m t (sym e) in
        subst (λ (z : List ℕ). AreNumbersOf assigns z (to_target m old)) (sym (set_other rows a.target.n m pushed i))
        (f.row m l)
      where
        differs : (x y : ℕ) → nat_eq x y ≡ false → x ≡ y → ⊥
        differs x y h = grind (arith, nat_tests)

-- one empty row more
pub none_more : (rows : List Row) (r : Row) → r.items ≡ [] → ((n : ℕ) → row_of rows n ≡ []) → (n : ℕ)
    → row_of (rows ++ r ∷ []) n ≡ []
none_more [] r e h zero = e
none_more [] r e h (suc n) = refl
none_more (x ∷ rows) r e h zero = h zero
none_more (x ∷ rows) r e h (suc n) = none_more rows r e (λ k. h (suc k)) n
