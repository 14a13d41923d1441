-- The numbers of flows among the flows.
use Rattle.std.proofs.Common.{◌≡◌, ℕ, zero, suc, ◌+◌, ◌<◌, ⊎_elim, false, not, cond, List, [], ◌∷◌, take, refl, sym, ap, ◌∙◌, subst, arith}
use Rattle.std.proofs.lemmas.List.Sums.{sum_by-cons}
use Rattle.std.proofs.lemmas.Bool.{cases_order}
use Rattle.ar_base.specs.Lists.{Stands}
use Rattle.ar_base.proofs.Standing.{stands_none, stands_one}
use Rattle.ar_meaning.specs.Systems.{Variable, Net}
use Rattle.ar_meaning.specs.FactsInside.{AreKeyed}
use Rattle.ar_meaning.specs.Dependence.{flow_count, IsFlow}
use Rattle.eq_build.proofs.Uses.{before_flow}

-- a variable more
one_counted : (v : Variable ℕ) (vs : List (Variable ℕ))
    → flow_count (v ∷ vs) ≡ cond (not v.is_state) 1 0 + flow_count vs
one_counted v vs = sum_by-cons (λ (x : Variable ℕ). cond (not x.is_state) 1 0) v vs

flow_counted : (v : Variable ℕ) (vs : List (Variable ℕ)) → v.is_state ≡ false → flow_count (v ∷ vs) ≡ 1 + flow_count vs
flow_counted v vs e = one_counted v vs ∙ ap (λ b. cond (not b) 1 0 + flow_count vs) e

-- before a flow stand fewer flows than up to a later place
before_later : (vs : List (Variable ℕ)) (p q : ℕ) (x : Variable ℕ) → p < q → Stands vs p x → x.is_state ≡ false
    → flow_count (take p vs) < flow_count (take q vs)
before_later [] p q x l s f = absurd (stands_none p x s)
before_later (v ∷ vs) p zero x l s f = absurd (omega (arith, l))
before_later (v ∷ vs) zero (suc q) x l s f =
    let i : x ≡ v = stands_one (v ∷ vs) zero x v s refl in
    let e = flow_counted v (take q vs) (subst (λ (z : Variable ℕ). z.is_state ≡ false) i f) in
    subst (λ n. flow_count (take zero (v ∷ vs)) < n) (sym e) (omega arith)
before_later (v ∷ vs) (suc p) (suc q) x l s f =
    let r = before_later vs p q x (omega (arith, l)) s f in
    let a = one_counted v (take p vs) in
    let b = one_counted v (take q vs) in
    omega (arith, r, a, b)

module _ (net : Net ℕ) where
  pub flow_within : (k x : ℕ) → IsFlow net k x → k < flow_count net.variables
  flow_within k x f =
      subst (λ n. n < flow_count net.variables) f.before
      (before_flow net.variables f.place f.variable f.stands f.is_flow)

  -- a flow has one number
  pub flow_number : AreKeyed net → (j k x : ℕ) → IsFlow net j x → IsFlow net k x → j ≡ k
  flow_number keyed j k x f g =
      let i : f.place ≡ g.place =
      keyed.one f.place g.place f.variable g.variable f.stands g.stands (f.is_key ∙ sym g.is_key) in
      sym f.before ∙ ap (λ n. flow_count (take n net.variables)) i ∙ g.before

  -- a number is that of one flow
  pub number_flow : (k x y : ℕ) → IsFlow net k x → IsFlow net k y → x ≡ y
  number_flow k x y f g = ⊎_elim same (λ o. absurd (⊎_elim less more o)) (cases_order f.place g.place)
    where
      same : f.place ≡ g.place → x ≡ y
      same i =
          let j : f.variable ≡ g.variable =
          stands_one net.variables g.place f.variable g.variable
          (subst (λ z. Stands net.variables z f.variable) i f.stands) g.stands in
          sym f.is_key ∙ ap (λ (z : Variable ℕ). z.key) j ∙ g.is_key

      less : f.place < g.place → ⊥
      less l =
          let r = before_later net.variables f.place g.place f.variable l f.stands f.is_flow in
          let a = f.before in
          let b = g.before in
          omega (arith, r, a, b)

      more : g.place < f.place → ⊥
      more l =
          let r = before_later net.variables g.place f.place g.variable l g.stands g.is_flow in
          let a = f.before in
          let b = g.before in
          omega (arith, r, a, b)
