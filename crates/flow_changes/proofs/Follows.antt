-- The quick way gives what the new state determines.
use Rattle.std.proofs.Common.{◌≡◌, ℕ, zero, suc, ◌<◌, ◌⊎◌, inl, inr, Bool, true, false, List, [], ◌∷◌, length, slice_get, refl, sym, ap, ◌∙◌, subst, arith}
use Rattle.ar_base.specs.Lists.{Stands, IsOneOf}
use Rattle.ar_base.specs.Numbers.{VarId}
use Rattle.ar_base.proofs.Standing.{stands_one, stands_some, stands_within, stands_map, stands_map_back, one_here}
use Rattle.ar_base.proofs.Sets.{member_told}
use Rattle.domains.specs.Domains.{Holds}
use Rattle.domains.specs.declared.Value.{Value}
use Rattle.typed_expr.proofs.Facts.{yields_more}
use Rattle.ar_meaning.specs.Facts.{FactOf, given}
use Rattle.ar_meaning.specs.Flows.{IsBrokenAssign}
use Rattle.ar_meaning.proofs.Least.{passes_more}
use Rattle.ar_meaning.proofs.ByNumber as number
use Rattle.gts_core.specs.Readings.{IsTotal}
use Rattle.gts_core.specs.Sound.{IsSound}
use Rattle.gts_core.specs.View.{net_of, assign_of, variable_of}
use Rattle.gts_core.specs.declared.system.Variable.{Variable}
use Rattle.gts_core.specs.declared.system.Assign.{Assign}
use Rattle.gts_core.specs.declared.system.GtsParts.{GtsParts}
use Rattle.gts_core.proofs.Viewing.{variable_there, are_numbered}
use Rattle.flow_propagate.specs.Determined.{IsDetermined, IsDeterminedBy}
use Rattle.flow_propagate.specs.NewValues.{written, AreNewValues, IsRenewed}
use Rattle.flow_propagate.specs.Plan.{IsPlan}
use Rattle.flow_propagate.specs.declared.plan.Plan.{Plan}
use Rattle.flow_propagate.proofs.Written.{written_long}
use Rattle.flow_changes.specs.Cone.{IsFlowAt, IsCone, Knows}
use Rattle.flow_changes.specs.Known.{changing_numbers, Resets}
use Rattle.flow_changes.specs.Picking.{KeepsOthers, AreSet}
use Rattle.flow_changes.specs.Following.{ClosesUp}
use Rattle.flow_changes.proofs.Written.{written_not, written_at, written_total}
use Rattle.flow_changes.proofs.Begun.{new_inside}
use Rattle.flow_changes.proofs.Knowing.{known_there, known_back}
use Rattle.flow_changes.proofs.Settling.{AreKnown, IsSettledTo, facts_there, settled_known, settled_flows, own_flows, own_facts}

-- what is known of a valuation that its state determines
pub are_known : (p : GtsParts) (values : List Value) (known : List Bool) → IsDetermined p values known
    → AreKnown p values values known
are_known p values known d = record {
  sound = λ n v k. d.facts.sound n v (known_there values known n v k);
  complete = λ n v f. known_back values known n v (d.facts.complete n v f);
}

module _ (p : GtsParts) (sound : IsSound p) (old : List Value) (known : List Bool) (was : IsDetermined p old known)
    (new : List (VarId × Value)) (good : AreNewValues p new) (members : List ℕ) (cone : IsCone p new members) where
  abbrev u : List Value
  u = written old new

  pub state_total : IsTotal p u
  state_total = written_total p old new good.each was.total

  -- the members are variables of the system
  pub inside : (n : ℕ) → IsOneOf members n → n < length p.variables.items
  inside n o = elim (cone.only n o) [
    | inl r ↦ new_inside p new good n (subst (λ (z : ℕ). IsOneOf (changing_numbers new) z) r.is (number_of r))
    | inr f ↦ stands_within p.variables.items n f.variable f.stands
  ]
    where
      number_of : (r : IsRenewed new n) → IsOneOf (changing_numbers new) r.pair.0.n
      number_of r = record { place = r.is_one.place; stands = ap_stands r.is_one.place r.pair r.is_one.stands }
        where
          ap_stands : (k : ℕ) (q : VarId × Value) → Stands new k q → Stands (changing_numbers new) k q.0.n
          ap_stands k q s = stands_map (λ (r : VarId × Value). r.0.n) new k q s

  renewed_of : (n : ℕ) → IsOneOf (changing_numbers new) n → IsRenewed new n
  renewed_of n o = let r = stands_map_back (λ (r : VarId × Value). r.0.n) new o.place n o.stands in record { pair = r.0; is_one = one_here new o.place r.0 r.1; is = r.2 }

  -- a flow gets no new value
  flow_not : (n : ℕ) → IsFlowAt p n → IsOneOf (changing_numbers new) n → ⊥
  flow_not n f o =
      let r = renewed_of n o in
      let is = good.each r.pair r.is_one in
      let same : is.variable ≡ f.variable =
      stands_one p.variables.items n is.variable f.variable
      (subst (λ (z : ℕ). Stands p.variables.items z is.variable) r.is is.stands) f.stands in
      let e : is.variable.is_state ≡ f.variable.is_state = ap (λ (z : Variable). z.is_state) same in
      cc (sym is.is_state ∙ e ∙ f.is_flow)

  module _ (cleared first : List Bool) (clears : AreSet false members known cleared)
      (marks : AreSet true (changing_numbers new) cleared first) where
    renewed_first : (r : VarId × Value) → IsOneOf new r → Knows u first r.0.n r.1
    renewed_first r o = record {
      marked = marks.each r.0.n (record {
        place = o.place;
        stands = stands_map (λ (z : VarId × Value). z.0.n) new o.place r o.stands;
      });
      value = written_at old new r good.ascend o (let is = good.each r o in let w = stands_within p.variables.items r.0.n is.variable is.stands in let l = was.total.long in omega (arith, w, l));
    }

    outside_mark : (n : ℕ) → (IsOneOf members n → ⊥) → slice_get first n ≡ slice_get known n
    outside_mark n o = marks.keeps.others n (λ h. o (cone.starts n (renewed_of n h))) ∙ clears.keeps.others n o

    outside_value : (n : ℕ) → (IsOneOf members n → ⊥) → slice_get u n ≡ slice_get old n
    outside_value n o = written_not old new n (λ r. o (cone.starts n r))

    pub first_long : length first ≡ length p.variables.items
    first_long = marks.keeps.long ∙ clears.keeps.long ∙ was.long

    -- what is known at the start are facts of the new state
    pub first_sound : (n : ℕ) (v : Value) → Knows u first n v → FactOf (net_of p) u n v
    first_sound n v k = by (member_told members n)
      where
        given_one : IsRenewed new n → FactOf (net_of p) u n v
        given_one r =
            let is = good.each r.pair r.is_one in
            let st : Stands p.variables.items n is.variable =
            subst (λ (z : ℕ). Stands p.variables.items z is.variable) r.is is.stands in
            given (number.given_from (net_of p) (are_numbered p) u n (variable_of n is.variable) v
            (variable_there p n is.variable st) is.is_state k.value)

        unmarked : IsOneOf members n → IsFlowAt p n → FactOf (net_of p) u n v
        unmarked o f =
            let e : Stands first n false = marks.keeps.others n (flow_not n f) ∙ clears.each n o in
            let i : true ≡ false = stands_one first n true false k.marked e in
            absurd (cc i)

        by : IsOneOf members n ⊎ (IsOneOf members n → ⊥) → FactOf (net_of p) u n v
        by (inl o) = elim (cone.only n o) [ inl r ↦ given_one r | inr f ↦ unmarked o f ]
        by (inr o) = facts_there p sound old known was.total was.flows (are_known p old known was) new good members cone
            n v o
            ((are_known p old known was).sound n v
            (record { marked = sym (outside_mark n o) ∙ k.marked; value = sym (outside_value n o) ∙ k.value }))

    module _ (plan : Plan) (is_plan : IsPlan p plan) (closed : List Value) (marked : List Bool) (list : List ℕ)
        (of_values : KeepsOthers members u closed) (of_marks : KeepsOthers members first marked)
        (up : ClosesUp p plan members u first closed marked list) (values : List Value)
        (resets : Resets p members marked closed values) where
      known_now : (n : ℕ) (v : Value) → Knows values marked n v → Knows closed marked n v
      known_now n v k = record { marked = k.marked; value = sym (resets.marked n k.marked) ∙ k.value }

      known_then : (n : ℕ) (v : Value) → Knows closed marked n v → Knows values marked n v
      known_then n v k = record { marked = k.marked; value = resets.marked n k.marked ∙ k.value }

      pub reset_total : IsTotal p values
      reset_total = record {
        long = resets.keeps.long ∙ up.total.long;
        in_domain = λ n x v sx sv. at n x v sx sv (member_told members n) (marked_or_not marked n);
      }
        where
          marked_or_not : (bs : List Bool) (k : ℕ) → (Stands bs k true) ⊎ (Stands bs k true → ⊥)
          marked_or_not [] k = inr (λ e. cc)
          marked_or_not (true ∷ bs) zero = inl refl
          marked_or_not (false ∷ bs) zero = inr (λ e. cc)
          marked_or_not (b ∷ bs) (suc k) = marked_or_not bs k

          at : (n : ℕ) (x : Variable) (v : Value) → Stands p.variables.items n x → Stands values n v
              → IsOneOf members n ⊎ (IsOneOf members n → ⊥) → (Stands marked n true) ⊎ (Stands marked n true → ⊥)
              → Holds x.domain v
          at n x v sx sv o (inl m) = up.total.in_domain n x v sx (sym (resets.marked n m) ∙ sv)
          at n x v sx sv (inl o) (inr f) =
              subst (λ (z : Value). Holds x.domain z) (sym (resets.declared n x v o sx f sv))
              (sound.variables n x sx).value
          at n x v sx sv (inr o) (inr f) = up.total.in_domain n x v sx (sym (resets.keeps.others n o) ∙ sv)

      pub kept_values : KeepsOthers members old values
      kept_values = record {
        long = resets.keeps.long ∙ of_values.long ∙ written_long old new;
        others = λ n o. resets.keeps.others n o ∙ of_values.others n o ∙ outside_value n o;
      }

      module _ (holds : (q n : ℕ) (a : Assign) → IsOneOf list q → Stands plan.order.items q n
          → Stands p.assigns.items n a → IsBrokenAssign (net_of p) values (assign_of a) → ⊥) where
        settled : IsSettledTo p old known new members values marked
        settled = record {
          total = reset_total;
          kept_values = kept_values.others;
          kept_marks = λ n o. of_marks.others n o ∙ outside_mark n o;
          renewed = λ r o. known_then r.0.n r.1 (up.grows r.0.n r.1 (renewed_first r o));
          sound = λ n v k. up.sound n v (known_now n v k);
          has_all = λ m a sa o v pass y. known_then a.target.n v
              (up.has_all m a sa o v (passes_more ℕ (Knows values marked) (Knows closed marked) known_now pass)
              (yields_more ℕ (Knows values marked) (Knows closed marked) known_now y));
          reset = λ n x w o sx not sw. resets.declared n x w o sx not sw;
          holds = λ m a sa o b.
              let q = stands_some plan.places.items m (let h = stands_within p.assigns.items m a sa in omega (arith, h, is_plan.schedule.long)) in
              holds q.0 m a (up.places.all m q.0 a sa o q.1) (is_plan.schedule.placed m q.0 q.1) sa b;
        }

        pub follows : IsDeterminedBy p u values marked
        follows =
            let facts = are_known p old known was in
            let flows = settled_flows p sound old known was.total was.flows facts new good members cone values marked
            settled in
            let all = settled_known p sound old known was.total was.flows facts new good members cone values marked
            settled in
            let own = own_facts p u values state_total.long reset_total.long flows values marked all in
            record {
              is = record {
                total = reset_total;
                flows = own_flows p u values state_total.long reset_total.long flows;
                long = of_marks.long ∙ first_long;
                facts = record {
                  sound = λ n v t. own.sound n v (known_back values marked n v t);
                  complete = λ n v f. known_there values marked n v (own.complete n v f);
                };
              };
              flows = flows;
            }

-- where only members are written after the new values, all others keep what they had
pub kept_through : (p : GtsParts) (old : List Value) (new : List (VarId × Value)) (members : List ℕ)
    → IsCone p new members → (values : List Value) → KeepsOthers members (written old new) values
    → KeepsOthers members old values
kept_through p old new members cone values k =
    record {
      long = k.long ∙ written_long old new;
      others = λ n o. k.others n o
          ∙ written_not old new n (λ r. o (cone.starts n r));
    }

pub marks_through : (p : GtsParts) (new : List (VarId × Value)) (members : List ℕ) → IsCone p new members
    → (known cleared first marked : List Bool) → AreSet false members known cleared
    → AreSet true (changing_numbers new) cleared first → KeepsOthers members first marked → KeepsOthers members known marked
marks_through p new members cone known cleared first marked a b k = record {
  long = k.long ∙ b.keeps.long ∙ a.keeps.long;
  others = λ n o. k.others n o ∙ b.keeps.others n (λ h. o (cone.starts n (of_number n h))) ∙ a.keeps.others n o;
}
  where
    of_number : (n : ℕ) → IsOneOf (changing_numbers new) n → IsRenewed new n
    of_number n o = let r = stands_map_back (λ (r : VarId × Value). r.0.n) new o.place n o.stands in record { pair = r.0; is_one = one_here new o.place r.0 r.1; is = r.2 }
