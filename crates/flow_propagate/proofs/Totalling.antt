-- Total valuations, and the assignments that do not hold under them.
use Rattle.std.proofs.Common.{◌≡◌, ℕ, suc, ◌+◌, ◌<◌, ◌≤◌, ◌⊎◌, inl, inr, Bool, true, false, List, [], ◌∷◌, ◌++◌, length, Contains, refl, sym, ap, ◌∙◌, subst, arith, length-append}
use Rattle.std.specs.List.{list_all}
use Rattle.ar_base.specs.Lists.{Stands, IsOneOf, IsFirst, HasNo}
use Rattle.ar_base.proofs.Standing.{stands_one, stands_map, stands_map_back, stands_within, stands_left, stands_next, at_most}
use Rattle.domains.specs.declared.Value.{Value}
use Rattle.ar_meaning.specs.Systems as s
use Rattle.ar_meaning.specs.Facts.{FactOf, HasValue, PassesConditions}
use Rattle.ar_meaning.specs.Flows.{IsBrokenAssign, Completes}
use Rattle.ar_meaning.specs.Flows as flows
use Rattle.ar_meaning.proofs.Found.{holds, fails}
use Rattle.ar_meaning.proofs.ByNumber.{value_at, value_from}
use Rattle.gts_core.specs.View.{assign_of, net_of, variable_of, variables_from}
use Rattle.gts_core.proofs.Viewing.{variable_there, are_numbered}
use Rattle.gts_core.specs.Readings.{IsTotal, is_met, value_in}
use Rattle.gts_core.specs.Sound.{IsSound, IsAssignTo}
use Rattle.gts_core.proofs.Reading.{passes_answer, value_yielded, yielded_value}
use Rattle.gts_core.specs.declared.system.Variable.{Variable}
use Rattle.gts_core.specs.declared.system.Assign.{Assign}
use Rattle.gts_core.specs.declared.system.GtsParts.{GtsParts}
use Rattle.typed_expr.specs.Rows.{Rows, known_row_at}
use Rattle.flow_propagate.specs.Table.{AreFacts}
use Rattle.flow_propagate.specs.Totals.{Completed, completed_value, Breaks}

pub completed_more : (vars : List Variable) (values : List Value) (rows : Rows) (i : ℕ) (x : Variable) (v : Value)
    (total new : List Value) (w : Value)
    → Completed vars values rows i total → Stands vars i x → Stands values i v
    → w ≡ completed_value x.is_state v (known_row_at rows i) x.value → new ≡ total ++ w ∷ []
    → Completed vars values rows (i + 1) new
completed_more vars values rows i x v total new w c sx sv is e =
    let P : List Value → Type 0 = λ z. Completed vars values rows (i + 1) z in
    subst P (sym e) (record {
      long = (let l = length-append total (w ∷ []) in omega (arith, l, c.long));
      value = λ n y u below sy su. go n y u sy su (at_most n i below);
    })
  where
    go : (n : ℕ) (y : Variable) (u : Value) → Stands vars n y → Stands values n u → (n < i) ⊎ (n ≡ i)
        → Stands (total ++ w ∷ []) n (completed_value y.is_state u (known_row_at rows n) y.value)
    go n y u sy su (inl l) = stands_left total (w ∷ []) n _ (c.value n y u l sy su)
    go n y u sy su (inr j) =
        let same : y ≡ x = stands_one vars i y x (subst (λ (z : ℕ). Stands vars z y) j sy) sx in
        let one : u ≡ v = stands_one values i u v (subst (λ (z : ℕ). Stands values z u) j su) sv in
        let at : Stands (total ++ w ∷ []) i w =
        subst (λ (z : ℕ). Stands (total ++ w ∷ []) z w) c.long (stands_next total w []) in
        let val : w ≡ completed_value y.is_state u (known_row_at rows n) y.value =
        is ∙ ap (λ (z : Variable). completed_value z.is_state v (known_row_at rows i) z.value) (sym same)
        ∙ ap (λ (z : Value). completed_value y.is_state z (known_row_at rows i) y.value) (sym one)
        ∙ ap (λ (z : ℕ). completed_value y.is_state u (known_row_at rows z) y.value) (sym j) in
        subst (λ (z : Value). Stands (total ++ w ∷ []) n z) val
        (subst (λ (z : ℕ). Stands (total ++ w ∷ []) z w) (sym j) at)

module _ (p : GtsParts) (t : List Value) (rows : Rows) (facts : AreFacts (net_of p) t rows) where
  one_variable : (k : ℕ) (x : Variable) (xs : List Variable) (v : Value) (vs ws : List Value) (b : Bool)
      → x.is_state ≡ b → (row : List Value) → row ≡ known_row_at rows k → (w : Value) → w ≡ completed_value b v row x.value
      → Completes (FactOf (net_of p) t) (variables_from (k + 1) xs) vs ws
      → Completes (FactOf (net_of p) t) (variable_of k x ∷ variables_from (k + 1) xs) (v ∷ vs) (w ∷ ws)
  one_variable k x xs v vs ws true is row at w e c =
      subst (λ (z : Value). Completes (FactOf (net_of p) t) (variable_of k x ∷ variables_from (k + 1) xs) (v ∷ vs)
      (z ∷ ws)) (sym e) (flows.state is c)
  one_variable k x xs v vs ws false is [] at w e c =
      subst (λ (z : Value). Completes (FactOf (net_of p) t) (variable_of k x ∷ variables_from (k + 1) xs) (v ∷ vs)
      (z ∷ ws)) (sym e)
      (flows.unknown is (λ u f. let h : Contains [] u = subst (λ (z : List Value). Contains z u) (sym at) (facts.complete k u f) in omega (arith, h.1)) c)
  one_variable k x xs v vs ws false is (r ∷ row) at w e c =
      subst (λ (z : Value). Completes (FactOf (net_of p) t) (variable_of k x ∷ variables_from (k + 1) xs) (v ∷ vs)
      (z ∷ ws)) (sym e)
      (flows.known is (facts.sound k r (subst (λ (z : List Value). Contains z r) at (0, omega arith, refl))) c)

  completes_from : (k : ℕ) (xs : List Variable) (vs ws : List Value) → length vs ≡ length xs → length ws ≡ length xs
      → ((n m : ℕ) (x : Variable) (v : Value) → m ≡ k + n → Stands xs n x → Stands vs n v
      → Stands ws n (completed_value x.is_state v (known_row_at rows m) x.value))
      → Completes (FactOf (net_of p) t) (variables_from k xs) vs ws
  completes_from k [] [] [] l m h = flows.none
  completes_from k [] (v ∷ vs) ws l m h = absurd (omega (arith, l))
  completes_from k [] [] (w ∷ ws) l m h = absurd (omega (arith, m))
  completes_from k (x ∷ xs) [] ws l m h = absurd (omega (arith, l))
  completes_from k (x ∷ xs) (v ∷ vs) [] l m h = absurd (omega (arith, m))
  completes_from k (x ∷ xs) (v ∷ vs) (w ∷ ws) l m h =
      let here : Stands (w ∷ ws) 0 (completed_value x.is_state v (known_row_at rows k) x.value) =
      h 0 k x v (omega arith) refl refl in
      let is : w ≡ completed_value x.is_state v (known_row_at rows k) x.value = cc in
      one_variable k x xs v vs ws x.is_state refl (known_row_at rows k) refl w is
      (completes_from (k + 1) xs vs ws (omega (arith, l)) (omega (arith, m))
      (λ n j y u e sy su. h (suc n) j y u (omega (arith, e)) sy su))

  pub completes : (total : List Value) → length t ≡ length p.variables.items
      → Completed p.variables.items t rows (length p.variables.items) total
      → Completes (FactOf (net_of p) t) (net_of p).variables t total
  completes total long c = completes_from 0 p.variables.items t total long c.long
      (λ n m x v e sx sv. subst (λ (z : ℕ). Stands total n (completed_value x.is_state v (known_row_at rows z) x.value)) (let i : n ≡ m = omega (arith, e) in i) (c.value n x v (stands_within p.variables.items n x sx) sx sv))

module _ (p : GtsParts) (sound : IsSound p) (total : List Value) (is : IsTotal p total) where
  typed : (a : Assign) → IsOneOf p.assigns.items a → IsAssignTo p false a
  typed a one = sound.assertions a one

  broken_there : (a : Assign) → IsOneOf p.assigns.items a → Breaks total a
      → IsBrokenAssign (net_of p) total (assign_of a)
  broken_there a one h = record {
    passes = holds _ _ h.met (passes_answer p total is a.when.items (typed a one).conditions);
    value = value_in total a.value;
    yields = value_yielded p total is a.value _ (typed a one).value;
    differs = λ c. h.differs (value_at (net_of p) (are_numbered p) total a.target.n _ c);
  }

  met : (a : Assign) → IsOneOf p.assigns.items a → PassesConditions (HasValue (net_of p) total) (assign_of a).conditions
      → (b : Bool) → list_all (is_met total) a.when.items ≡ b → b ≡ true
  met a one h true e = refl
  met a one h false e = absurd (fails _ _ e (passes_answer p total is a.when.items (typed a one).conditions) h)

  broken_back : (a : Assign) → IsOneOf p.assigns.items a → IsBrokenAssign (net_of p) total (assign_of a)
      → Breaks total a
  broken_back a one h = record {
    met = met a one h.passes (list_all (is_met total) a.when.items) refl;
    differs = λ st.
        let x = typed a one in
        let same : h.value ≡ value_in total a.value = yielded_value p total is a.value _ x.value h.value h.yields in
        h.differs (value_from (net_of p) (are_numbered p) total a.target.n (variable_of a.target.n x.variable) h.value
        (variable_there p a.target.n x.variable x.stands)
        (subst (λ (z : Value). Stands total a.target.n z) (sym same) st));
  }

  pub broken_found : (n : ℕ) → IsFirst p.assigns.items (Breaks total) n
      → IsFirst (net_of p).assertions (IsBrokenAssign (net_of p) total) n
  broken_found n f = record {
    item = assign_of f.item;
    stands = stands_map assign_of p.assigns.items n f.item f.stands;
    has = broken_there f.item (record { place = n; stands = f.stands }) f.has;
    before = λ k a below st h.
        let r = stands_map_back assign_of p.assigns.items k a st in
        f.before k r.0 below r.1 (broken_back r.0 (record { place = k; stands = r.1 })
        (subst (λ (z : s.Assign ℕ). IsBrokenAssign (net_of p) total z) (sym r.2) h));
  }

  pub broken_none : HasNo p.assigns.items (Breaks total) → HasNo (net_of p).assertions (IsBrokenAssign (net_of p) total)
  broken_none f = record {
    has_not = λ k a st h.
        let r = stands_map_back assign_of p.assigns.items k a st in
        f.has_not k r.0 r.1 (broken_back r.0 (record { place = k; stands = r.1 })
        (subst (λ (z : s.Assign ℕ). IsBrokenAssign (net_of p) total z) (sym r.2) h));
  }

pub no_items : {A : Type 0} (xs : List A) (n : ℕ) (P : A → Type 0) → length xs ≤ n
    → ((k : ℕ) (x : A) → k < n → Stands xs k x → P x → ⊥) → HasNo xs P
no_items xs n P h before = record { has_not = λ k x st q. let below = stands_within xs k x st in before k x (omega (arith, below)) st q }
