-- An image has the same rounds, reasons and cones.
use Rattle.std.proofs.Common.{ℕ, zero, suc, List, inl, inr, sym, ◌∙◌, subst}
use Rattle.ar_base.specs.Lists.{Along}
use Rattle.ar_base.specs.Lists as l
use Rattle.domains.specs.declared.Value.{Value}
use Rattle.typed_expr.specs.PairsInside.{turned_pairs}
use Rattle.typed_expr.specs.declared.expr.Expr.{Expr}
use Rattle.typed_expr.proofs.Renaming.{carries, Mentioned, mentions_carry}
use Rattle.ar_meaning.specs.Systems.{Assign, Variable, Net}
use Rattle.ar_meaning.specs.Dependence.{Names}
use Rattle.ar_meaning.specs.Image.{Assign_renames, Variable_renames, Expr_renames}
use Rattle.ar_meaning.specs.ImageInside.{IsNetImage}
use Rattle.ar_meaning.proofs.Dependence.{tests_there}
use Rattle.ar_meaning.proofs.ImageFlows.{partner, passes_carry, given_there, allows_there, fact_there}
use Rattle.ar_meaning.proofs.ImageTurned.{net_turned, assign_turned}
use Rattle.flow_reasons.specs.Rounds.{AddsFact, Round}
use Rattle.flow_reasons.specs.Reasons.{Reason, IsNamedFact, IsDerived, IsReason, derived, reset, AreReasonsFrom, none, state, flow, InCone, named, rested_on}

-- what holds here holds there
module _ {V W : Type 0} (same : V → W → Type 0) (A : Net V) (B : Net W) (image : IsNetImage same A B) where
  adds_there : (P : V → Value → Type 0) (Q : W → Value → Type 0)
      → ((x : V) (y : W) (v : Value) → same x y → P x v → Q y v)
      → (x : V) (y : W) (v : Value) → same x y → (a : Assign V) (b : Assign W) → Assign_renames same a b
      → AddsFact A P x v a
      → AddsFact B Q y v b
  adds_there P Q kept x y v s a b r h = record {
    is_target = image.one x b.target y (subst (λ z. same z b.target) h.is_target r.target) s;
    passes = passes_carry V W P Q same kept h.passes r.conditions;
    yields = carries V W P Q same kept h.yields r.value;
    allowed = allows_there same A B image x y v s h.allowed;
  }

  pub round_there : (t : List Value) (k : ℕ) (x : V) (y : W) (v : Value) → same x y → Round A t k x v → Round B t k y v
  round_there t zero x y v s h = given_there same A B image t x y v s h
  round_there t (suc k) x y v s (inl h) = inl (round_there t k x y v s h)
  round_there t (suc k) x y v s (inr h) =
      let b = partner image.assertions h.is_one.place h.assign h.is_one.stands in
      inr (record {
        assign = b.item;
        is_one = record { place = h.is_one.place; stands = b.stands };
        adds = adds_there (Round A t k) (Round B t k) (λ x y v s h. round_there t k x y v s h) x y v s h.assign b.item
            b.related h.adds;
      })

  related_is : {x : V} {R : W → Type 0} → Mentioned same x R → (y : W) → same x y → R y
  related_is {x = x} {R = R} m y s = subst R (image.one x m.other y m.related s) m.stands

  names_there : (x : V) (y : W) → same x y → (a : Assign V) (b : Assign W) → Assign_renames same a b → Names a x
      → Names b y
  names_there x y s a b r (inl m) = inl (related_is (mentions_carry same x m r.value) y s)
  names_there x y s a b r (inr m) = inr (related_is (tests_there r.conditions m) y s)

  named_there : (t : List Value) (k : ℕ) (a : Assign V) (b : Assign W) → Assign_renames same a b → (n : ℕ)
      → IsNamedFact A (Round A t k) a n → IsNamedFact B (Round B t k) b n
  named_there t k a b r n h =
      let p = partner image.variables n h.variable h.stands in
      record {
        variable = p.item;
        stands = p.stands;
        names = names_there h.variable.key p.item.key p.related.key a b r h.names;
        value = h.value;
        has = round_there t k h.variable.key p.item.key h.value p.related.key h.has;
      }

module _ {V W : Type 0} (same : V → W → Type 0) (A : Net V) (B : Net W) (image : IsNetImage same A B) where
  abbrev behind : IsNetImage (turned_pairs same) B A
  behind = net_turned same image

  derived_there : (t : List Value) (x : Variable V) (y : Variable W) → Variable_renames same x y → (r : Reason)
      → IsDerived A t x r → IsDerived B t y r
  derived_there t x y q r d =
      let p = partner image.assertions d.assertion d.first.item d.first.stands in
      record {
        before = d.before;
        round = d.round;
        not_yet = λ h. d.not_yet (round_there (turned_pairs same) B A behind t d.before y.key x.key r.value q.key h);
        assertion = d.assertion;
        by = d.by;
        first = record {
          item = p.item;
          stands = p.stands;
          has = adds_there same A B image (Round A t d.before) (Round B t d.before)
              (λ x y v s h. round_there same A B image t d.before x y v s h) x.key y.key r.value q.key d.first.item
              p.item p.related d.first.has;
          before = λ k b l s h.
              let o = partner behind.assertions k b s in
              d.first.before k o.item l o.stands
              (adds_there (turned_pairs same) B A behind (Round B t d.before) (Round A t d.before)
              (λ y x v s h. round_there (turned_pairs same) B A behind t d.before y x v s h) y.key x.key r.value q.key b
              o.item o.related h);
        };
        rests_on = record {
          ascends = d.rests_on.ascends;
          sound = λ n o. named_there same A B image t d.before d.first.item p.item p.related n (d.rests_on.sound n o);
          whole = λ n h. d.rests_on.whole n
              (named_there (turned_pairs same) B A behind t d.before p.item d.first.item
              (assign_turned same d.first.item p.item p.related) n h);
        };
      }

  reason_there : (t : List Value) (x : Variable V) (y : Variable W) → Variable_renames same x y → (r : Reason)
      → IsReason A t x r → IsReason B t y r
  reason_there t x y q r (derived d) = derived (derived_there t x y q r d)
  reason_there t x y q r (reset d) = reset (record {
    no_fact = λ v f. d.no_fact v (fact_there (turned_pairs same) B A behind t y.key x.key v q.key f);
    value = d.value ∙ q.value;
    round = d.round;
    by = d.by;
    rests_on = d.rests_on;
  })

  pub reasons_there : (t : List Value) {xs : List (Variable V)} {ys : List (Variable W)}
      → Along (Variable_renames same) xs ys
      → {n : ℕ} {rs : List Reason} → AreReasonsFrom A t n xs rs → AreReasonsFrom B t n ys rs
  reasons_there t l.none none = none
  reasons_there t (l.one_and q qs) (state s d) = state (sym q.is_state ∙ s) (reasons_there t qs d)
  reasons_there t (l.one_and {a = x} {b = y} q qs) (flow {r = r} s i w d) =
      flow (sym q.is_state ∙ s) i (reason_there t x y q r w) (reasons_there t qs d)

  pub cone_there : (reasons : List Reason) (e : Expr V) (f : Expr W) → Expr_renames same e f → {n : ℕ}
      → InCone A reasons e n → InCone B reasons f n
  cone_there reasons e f q {n = n} (named x s m) =
      let p = partner image.variables n x s in
      named p.item p.stands (related_is same A B image (mentions_carry same x.key m q.renames) p.item.key p.related.key)
  cone_there reasons e f q (rested_on r o c i) = rested_on r o (cone_there reasons e f q c) i
