-- The flows with their numbers, and the assignments to them that may leave their domains.
use Rattle.std.proofs.Common.{◌≡◌, ℕ, zero, suc, ◌+◌, inl, inr, Bool, true, false, if◌then◌else◌, List, [], ◌∷◌, Some, refl, sym, ap, ◌∙◌, subst, arith}
use Rattle.ar_base.specs.Lists.{Stands, IsOneOf}
use Rattle.ar_base.proofs.Standing.{stands_none, one_cases, one_first, one_rest, one_none, one_left, one_right, one_split}
use Rattle.ar_meaning.specs.Systems.{Assign, Variable, Net}
use Rattle.eq_build.specs.Steps.{MayLeave, MayLeaveOf, no_assign, may, may_not, AllMayLeave, no_variable, state_and, flow_and, flows_from}
use Rattle.table_laws.proofs.AssignsTell.{one_assign, assign_one}

-- the flows of a list of variables that begins at number n
pub flow_in : (vs : List (Variable ℕ)) (n k m : ℕ) (x : Variable ℕ) → m ≡ n + k → Stands vs k x → x.is_state ≡ false
    → IsOneOf (flows_from n vs) (m, x)
flow_in [] n k m x e s f = absurd (stands_none k x s)
flow_in (v ∷ vs) n zero m x e s f = go v.is_state refl
  where
    go : (b : Bool) → v.is_state ≡ b
        → IsOneOf (if b then flows_from (n + 1) vs else (n, v) ∷ flows_from (n + 1) vs) (m, x)
    go true i =
        let h : v ≡ x = cc in
        absurd (let q : v.is_state ≡ false = ap (λ (z : Variable ℕ). z.is_state) h ∙ f in cc)
    go false i =
        let h : v ≡ x = cc in
        let q : n ≡ m = omega (arith, e) in
        subst (λ (z : ℕ). IsOneOf ((n, v) ∷ flows_from (n + 1) vs) (z, x)) q
        (subst (λ (y : Variable ℕ). IsOneOf ((n, v) ∷ flows_from (n + 1) vs) (n, y)) h
        (one_first (n, v) (flows_from (n + 1) vs)))
flow_in (v ∷ vs) n (suc k) m x e s f = go v.is_state (flow_in vs (n + 1) k m x (omega (arith, e)) s f)
  where
    go : (b : Bool) → IsOneOf (flows_from (n + 1) vs) (m, x)
        → IsOneOf (if b then flows_from (n + 1) vs else (n, v) ∷ flows_from (n + 1) vs) (m, x)
    go true r = r
    go false r = one_rest (n, v) (flows_from (n + 1) vs) (m, x) r

-- what is in the list of flows
pub record IsFlowIn (vs : List (Variable ℕ)) (n : ℕ) (p : ℕ × Variable ℕ) : Type 0 where
  pub place : ℕ
  pub is : p.0 ≡ n + place
  pub stands : Stands vs place p.1
  pub is_flow : p.1.is_state ≡ false

pub in_flow : (vs : List (Variable ℕ)) (n : ℕ) (p : ℕ × Variable ℕ) → IsOneOf (flows_from n vs) p → IsFlowIn vs n p
in_flow [] n p o = absurd (one_none p o)
in_flow (v ∷ vs) n p o = go v.is_state refl o (λ q. in_flow vs (n + 1) p q)
  where
    later : IsFlowIn vs (n + 1) p → IsFlowIn (v ∷ vs) n p
    later r = record {
      place = suc r.place;
      is = (let i = r.is in omega (arith, i));
      stands = r.stands;
      is_flow = r.is_flow;
    }

    go : (b : Bool) → v.is_state ≡ b
        → IsOneOf (if b then flows_from (n + 1) vs else (n, v) ∷ flows_from (n + 1) vs) p
        → (IsOneOf (flows_from (n + 1) vs) p → IsFlowIn vs (n + 1) p) → IsFlowIn (v ∷ vs) n p
    go true i q r = later (r q)
    go false i q r = elim (one_cases (n, v) (flows_from (n + 1) vs) p q) [
      | inl e ↦ record {
        place = 0;
        is = sym (ap (λ (z : ℕ × Variable ℕ). z.0) e) ∙ omega arith;
        stands = ap (λ (z : ℕ × Variable ℕ). Some z.1) e;
        is_flow = subst (λ (z : ℕ × Variable ℕ). z.1.is_state ≡ false) e i;
      }
      | inr u ↦ later (r u)
    ]

-- the assignments that may leave a domain
leave_in : (net : Net ℕ) (x : Variable ℕ) {assigns : List (Assign ℕ)} {ys : List (Variable ℕ × Assign ℕ)}
    → MayLeaveOf net x assigns ys → (y : Variable ℕ × Assign ℕ) → IsOneOf ys y → (y.0 ≡ x) × IsOneOf assigns y.1
leave_in net x no_assign y o = absurd (one_none y o)
leave_in net x (may {a = a} {xs = xs} {ys = ys} m c) y o = elim (one_cases (x, a) ys y o) [
  | inl e ↦ (
    sym (ap (λ (z : Variable ℕ × Assign ℕ). z.0) e),
    subst (λ (z : Variable ℕ × Assign ℕ). IsOneOf (a ∷ xs) z.1) e (one_first a xs),
  )
  | inr q ↦ let r = leave_in net x c y q in (r.0, one_rest a xs y.1 r.1)
]
leave_in net x (may_not {a = a} {xs = xs} m c) y o = let r = leave_in net x c y o in (r.0, one_rest a xs y.1 r.1)

in_leave : (net : Net ℕ) (x : Variable ℕ) {assigns : List (Assign ℕ)} {ys : List (Variable ℕ × Assign ℕ)}
    → MayLeaveOf net x assigns ys → (a : Assign ℕ) → IsOneOf assigns a → MayLeave net a x → IsOneOf ys (x, a)
in_leave net x no_assign a o m = absurd (one_none a o)
in_leave net x (may {a = b} {xs = xs} {ys = ys} n c) a o m = elim (one_cases b xs a o) [
  | inl e ↦ subst (λ z. IsOneOf ((x, b) ∷ ys) (x, z)) e (one_first (x, b) ys)
  | inr q ↦ one_rest (x, b) ys (x, a) (in_leave net x c a q m)
]
in_leave net x (may_not {a = b} {xs = xs} n c) a o m = elim (one_cases b xs a o) [
  | inl e ↦ absurd (n (subst (λ z. MayLeave net z x) (sym e) m))
  | inr q ↦ in_leave net x c a q m
]

-- an assignment to a flow, looked at for it
pub record IsLooked (net : Net ℕ) (vs : List (Variable ℕ)) (n : ℕ) (y : Variable ℕ × Assign ℕ) : Type 0 where
  pub place : ℕ
  pub stands : Stands vs place y.0
  pub is_flow : y.0.is_state ≡ false
  pub is_one : IsOneOf net.assertions y.1
  pub is_target : y.1.target ≡ n + place

looked_later : (net : Net ℕ) (v : Variable ℕ) (vs : List (Variable ℕ)) (n : ℕ) (y : Variable ℕ × Assign ℕ)
    → IsLooked net vs (n + 1) y → IsLooked net (v ∷ vs) n y
looked_later net v vs n y r = record {
  place = suc r.place;
  stands = r.stands;
  is_flow = r.is_flow;
  is_one = r.is_one;
  is_target = (let i = r.is_target in omega (arith, i));
}

pub looked_at : (net : Net ℕ) (n : ℕ) {vs : List (Variable ℕ)} {ys : List (Variable ℕ × Assign ℕ)}
    → AllMayLeave net n vs ys → (y : Variable ℕ × Assign ℕ) → IsOneOf ys y → IsLooked net vs n y
looked_at net n no_variable y o = absurd (one_none y o)
looked_at net n (state_and {x = x} {xs = xs} s c) y o = looked_later net x xs n y (looked_at net (n + 1) c y o)
looked_at net n (flow_and {x = x} {xs = xs} {ys = ys} {zs = zs} s d c) y o = elim (one_split ys zs y o) [
  | inl p ↦
      let r = leave_in net x d y p in
      let q = one_assign n net.assertions y.1 r.1 in
      record {
        place = 0;
        stands = ap (λ (z : Variable ℕ). Some z) (sym r.0);
        is_flow = subst (λ (z : Variable ℕ). z.is_state ≡ false) (sym r.0) s;
        is_one = q.0;
        is_target = (let i = q.1 in omega (arith, i));
      }
  | inr p ↦ looked_later net x xs n y (looked_at net (n + 1) c y p)
]

pub looks_at : (net : Net ℕ) (n : ℕ) {vs : List (Variable ℕ)} {ys : List (Variable ℕ × Assign ℕ)}
    → AllMayLeave net n vs ys → (k : ℕ) (x : Variable ℕ) (a : Assign ℕ) → Stands vs k x → x.is_state ≡ false
    → IsOneOf net.assertions a → a.target ≡ n + k → MayLeave net a x → IsOneOf ys (x, a)
looks_at net n no_variable k x a s f o t m = absurd (stands_none k x s)
looks_at net n (state_and {x = v} i c) zero x a s f o t m =
    let h : v ≡ x = cc in
    absurd (let q : v.is_state ≡ false = ap (λ (z : Variable ℕ). z.is_state) h ∙ f in cc)
looks_at net n (state_and i c) (suc k) x a s f o t m = looks_at net (n + 1) c k x a s f o (omega (arith, t)) m
looks_at net n (flow_and {x = v} {ys = ys} {zs = zs} i d c) zero x a s f o t m =
    let h : v ≡ x = cc in
    let j : a.target ≡ n = omega (arith, t) in
    one_left ys zs (x, a) (subst (λ (z : Variable ℕ). IsOneOf ys (z, a)) h
    (in_leave net v d a (assign_one n net.assertions a o j)
    (subst (λ (z : Variable ℕ). MayLeave net a z) (sym h) m)))
looks_at net n (flow_and {ys = ys} {zs = zs} i d c) (suc k) x a s f o t m =
    one_right ys zs (x, a) (looks_at net (n + 1) c k x a s f o (omega (arith, t)) m)
