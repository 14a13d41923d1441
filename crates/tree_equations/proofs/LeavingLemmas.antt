-- The assignments that may leave the domains of their targets, in order.
use Rattle.std.proofs.Common.{◌≡◌, ℕ, zero, suc, ◌+◌, Bool, true, false, if◌then◌else◌, nat_eq, List, [], ◌∷◌, ◌++◌, map, drop, refl, sym, ap, ◌∙◌, subst, arith, append_assoc, append-nil, add-one}
use Rattle.std.proofs.lemmas.Bool.Decides.{nat_tests}
use Rattle.ar_base.specs.Lists.{Stands, Along}
use Rattle.ar_base.specs.Lists as l
use Rattle.ar_meaning.specs.Systems as s
use Rattle.gts_core.specs.View.{net_of, variables_from, variable_of, assign_of}
use Rattle.gts_core.specs.declared.system.Variable.{Variable}
use Rattle.gts_core.specs.declared.system.Assign.{Assign}
use Rattle.gts_core.specs.declared.system.GtsParts.{GtsParts}
use Rattle.eq_build.specs.Steps.{MayLeave, MayLeaveOf, AllMayLeave}
use Rattle.eq_build.specs.Steps as t
use Rattle.tree_equations.specs.Index.{to_target, IsLeaving, AreLeaving, AddsLeaving}
use Rattle.tree_equations.specs.Leaving.{MayGiveOutside}
use Rattle.tree_equations.proofs.Flowing.{targets_seen}

along_both : {A B : Type 0} {R : A → B → Type 0} {xs : List A} {ys : List B} {vs : List A} {ws : List B}
    → Along R xs ys → Along R vs ws → Along R (xs ++ vs) (ys ++ ws)
along_both l.none b = b
along_both (l.one_and r a) b = l.one_and r (along_both a b)

-- the first of what is left from a place on
first_left : {A : Type 0} (xs : List A) (i : ℕ) (x : A) (rest : List A) → drop i xs ≡ x ∷ rest → Stands xs i x
first_left [] zero x rest e = absurd (cc e)
first_left [] (suc i) x rest e = absurd (cc e)
first_left (y ∷ xs) zero x rest e = cc
first_left (y ∷ xs) (suc i) x rest e = first_left xs i x rest e

-- the assignments to a variable have it as their target
target_is : (n : ℕ) (xs : List Assign) (k : ℕ) (a : Assign) → Stands (to_target n xs) k a → a.target.n ≡ n
target_is n [] k a st = absurd (cc st)
target_is n (x ∷ xs) k a st = by (nat_eq x.target.n n) refl (λ j h. target_is n xs j a h) st
  where
    by : (b : Bool) → nat_eq x.target.n n ≡ b → ((j : ℕ) → Stands (to_target n xs) j a → a.target.n ≡ n)
        → Stands (if b then x ∷ to_target n xs else to_target n xs) k a → a.target.n ≡ n
    by true e rest h = first k h
      where
        first : (k : ℕ) → Stands (x ∷ to_target n xs) k a → a.target.n ≡ n
        first zero g =
            let same : x ≡ a = cc in
            let i : x.target.n ≡ n = grind (arith, nat_tests) in ap (λ (z : Assign). z.target.n) (sym same) ∙ i
        first (suc j) g = rest j g
    by false e rest h = rest k h

module _ (p : GtsParts) (flow : ℕ) (x : Variable) (at : Stands p.variables.items flow x) (old : List ℕ) where
  abbrev here : s.Variable ℕ
  here = variable_of flow x

  abbrev all : List Assign
  all = to_target flow p.assigns.items

  -- what is left goes behind
  pub record OneSoFar (i : ℕ) (leaving : List ℕ) : Type 0 where
    pub on : (ys : List (s.Variable ℕ × s.Assign ℕ)) (ns : List ℕ)
        → MayLeaveOf (net_of p) here (map assign_of (drop i all)) ys → Along (IsLeaving p) ns ys
        → AddsLeaving p here (map assign_of all) old (leaving ++ ns)

  pub one_start : OneSoFar 0 old
  one_start = record {
    on = λ ys ns m a. record { added = ns; leaving = ys; are_all = m; are = a; is = refl };
  }

  module _ (i k : ℕ) (leaving : List ℕ) (a : Assign) (left : drop i all ≡ a ∷ drop (suc i) all)
      (st : Stands p.assigns.items k a) (f : OneSoFar i leaving) where
    target : a.target.n ≡ flow
    target = target_is flow p.assigns.items i a (first_left all i a (drop (suc i) all) left)

    is_leaving : IsLeaving p k (here, assign_of a)
    is_leaving = record {
      assign = a;
      stands = st;
      variable = x;
      is_target = subst (λ (z : ℕ). Stands p.variables.items z x) (sym target) at;
      is = ap (λ (z : ℕ). (variable_of z x, assign_of a)) (sym target);
    }

    leaves_here : MayGiveOutside x a p → MayLeave (net_of p) (assign_of a) here
    leaves_here m = subst (λ (z : ℕ). MayLeave (net_of p) (assign_of a) (variable_of z x)) target m

    stays_here : (MayGiveOutside x a p → ⊥) → MayLeave (net_of p) (assign_of a) here → ⊥
    stays_here never m = never (subst (λ (z : ℕ). MayLeave (net_of p) (assign_of a) (variable_of z x)) (sym target) m)

    pub one_leaves : (new : List ℕ) → new ≡ leaving ++ k ∷ [] → MayGiveOutside x a p → OneSoFar (i + 1) new
    one_leaves new e m = record {
      on = λ ys ns d g. subst (λ (z : List ℕ). AddsLeaving p here (map assign_of all) old z)
          (sym (append_assoc leaving (k ∷ []) ns) ∙ ap (λ z. z ++ ns) (sym e))
          (f.on ((here, assign_of a) ∷ ys) (k ∷ ns)
          (subst (λ (z : List Assign). MayLeaveOf (net_of p) here (map assign_of z) ((here, assign_of a) ∷ ys))
          (sym left)
          (t.may (leaves_here m) (rest ys d))) (l.one_and is_leaving g));
    }
      where
        rest : (ys : List (s.Variable ℕ × s.Assign ℕ))
            → MayLeaveOf (net_of p) here (map assign_of (drop (i + 1) all)) ys
            → MayLeaveOf (net_of p) here (map assign_of (drop (suc i) all)) ys
        rest ys d = subst (λ (z : ℕ). MayLeaveOf (net_of p) here (map assign_of (drop z all)) ys) (add-one i) d

    pub one_stays : (MayGiveOutside x a p → ⊥) → OneSoFar (i + 1) leaving
    one_stays never = record {
      on = λ ys ns d g. f.on ys ns
          (subst (λ (z : List Assign). MayLeaveOf (net_of p) here (map assign_of z) ys) (sym left)
          (t.may_not (stays_here never) (rest ys d))) g;
    }
      where
        rest : (ys : List (s.Variable ℕ × s.Assign ℕ))
            → MayLeaveOf (net_of p) here (map assign_of (drop (i + 1) all)) ys
            → MayLeaveOf (net_of p) here (map assign_of (drop (suc i) all)) ys
        rest ys d = subst (λ (z : ℕ). MayLeaveOf (net_of p) here (map assign_of (drop z all)) ys) (add-one i) d

  pub one_end : (i : ℕ) (leaving : List ℕ) → drop i all ≡ [] → OneSoFar i leaving
      → AddsLeaving p here (map assign_of all) old leaving
  one_end i leaving e f =
      subst (λ (z : List ℕ). AddsLeaving p here (map assign_of all) old z) (append-nil leaving)
      (f.on [] [] (subst (λ (z : List Assign). MayLeaveOf (net_of p) here (map assign_of z) []) (sym e) t.no_assign)
      l.none)

module _ (p : GtsParts) where
  abbrev rest_of : ℕ → List (s.Variable ℕ)
  rest_of n = variables_from n (drop n p.variables.items)

  -- what the variables that are left have goes behind
  pub record AllSoFar (n : ℕ) (leaving : List ℕ) : Type 0 where
    pub on : (ys : List (s.Variable ℕ × s.Assign ℕ)) (ns : List ℕ) → AllMayLeave (net_of p) n (rest_of n) ys
        → Along (IsLeaving p) ns ys → AreLeaving p (leaving ++ ns)

  pub all_start : (leaving : List ℕ) → leaving ≡ [] → AllSoFar 0 leaving
  all_start leaving e = record {
    on = λ ys ns d a. subst (λ (z : List ℕ). AreLeaving p (z ++ ns)) (sym e)
        (record { leaving = ys; all = d; are = a });
  }

  module _ (n : ℕ) (leaving : List ℕ) (x : Variable)
      (left : drop n p.variables.items ≡ x ∷ drop (suc n) p.variables.items)
      (f : AllSoFar n leaving) where
    later : (ys : List (s.Variable ℕ × s.Assign ℕ)) → AllMayLeave (net_of p) (n + 1) (rest_of (n + 1)) ys
        → AllMayLeave (net_of p) (n + 1) (variables_from (n + 1) (drop (suc n) p.variables.items)) ys
    later ys d =
        subst (λ (z : ℕ). AllMayLeave (net_of p) (n + 1) (variables_from (n + 1) (drop z p.variables.items)) ys)
        (add-one n) d

    pub all_state : x.is_state ≡ true → AllSoFar (n + 1) leaving
    all_state is = record {
      on = λ ys ns d a. f.on ys ns
          (subst (λ (z : List Variable). AllMayLeave (net_of p) n (variables_from n z) ys) (sym left)
          (t.state_and is (later ys d))) a;
    }

    pub all_flow : (new : List ℕ) → x.is_state ≡ false
        → AddsLeaving p (variable_of n x) (map assign_of (to_target n p.assigns.items)) leaving new
        → AllSoFar (n + 1) new
    all_flow new is h = record {
      on = λ ys ns d a. subst (λ (z : List ℕ). AreLeaving p z)
          (sym (append_assoc leaving h.added ns) ∙ ap (λ z. z ++ ns) (sym h.is))
          (f.on (h.leaving ++ ys) (h.added ++ ns)
          (subst (λ (z : List Variable). AllMayLeave (net_of p) n (variables_from n z) (h.leaving ++ ys)) (sym left)
          (t.flow_and is
          (subst (λ (z : List (s.Assign ℕ)). MayLeaveOf (net_of p) (variable_of n x) z h.leaving)
          (targets_seen n p.assigns.items) h.are_all) (later ys d))) (along_both h.are a));
    }

  pub all_end : (n : ℕ) (leaving : List ℕ) → drop n p.variables.items ≡ [] → AllSoFar n leaving → AreLeaving p leaving
  all_end n leaving e f =
      subst (λ (z : List ℕ). AreLeaving p z) (append-nil leaving)
      (f.on [] [] (subst (λ (z : List Variable). AllMayLeave (net_of p) n (variables_from n z) []) (sym e)
      t.no_variable)
      l.none)
