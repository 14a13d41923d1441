-- What an expression yields from more facts, from finitely many, and from those of its own variables.
use Rattle.std.proofs.Common.{Bool, true, false, List, [], ◌∷◌, ◌++◌, arith, subst, ⊎_elim}
use Rattle.std.proofs.lemmas.List.Elements.{Contains-append_left, Contains-append_right, Contains-append_cases, Contains-push, Contains-push_cases}
use Rattle.domains.specs.declared.Value.{Value}
use Rattle.domains.specs.declared.Value.TheVariants.{Truth}
use Rattle.typed_expr.specs.Pairs.{Pair, HasPair}
use Rattle.typed_expr.specs.PairsInside.{Needs}
use Rattle.typed_expr.specs.Yields.{Level, Yields, Some_yields, All_yield, Picks, Picks_parts, Takes}
use Rattle.typed_expr.specs.Yields as y
use Rattle.typed_expr.specs.Mentions.{Mentions, Some_mentions, Parts_mention, Cases_mention}
use Rattle.typed_expr.specs.Mentions as m
use Rattle.typed_expr.specs.declared.expr.Expr.{Expr}

-- facts of the variables that stand in the expression suffice
module _ {V : Type 0} {P Q : V → Value → Type 0} where
  mutual
    pub yields_named : {e : Level V} {v : Value} → ((x : V) (w : Value) → Mentions x e → P x w → Q x w) → Yields P e v
        → Yields Q e v
    yields_named k y.constant = y.constant
    yields_named k (y.variable {x = x} {v = v} h) = y.variable (k x v m.itself h)
    yields_named k (y.opposite d) = y.opposite (yields_named (λ x w n p. k x w (m.in_not n) p) d)
    yields_named k (y.one_false d) = y.one_false (some_named (λ x w n p. k x w (m.in_all n) p) d)
    yields_named k (y.all_true d) = y.all_true (all_named (λ x w n p. k x w (m.in_all n) p) d)
    yields_named k (y.one_true d) = y.one_true (some_named (λ x w n p. k x w (m.in_any n) p) d)
    yields_named k (y.all_false d) = y.all_false (all_named (λ x w n p. k x w (m.in_any n) p) d)
    yields_named k (y.compared c d) =
        y.compared (yields_named (λ x w n p. k x w (m.in_left n) p) c)
        (yields_named (λ x w n p. k x w (m.in_right n) p) d)
    yields_named k (y.sum d) = y.sum (parts_named (λ x w n p. k x w (m.in_sum n) p) d)
    yields_named k (y.product d) = y.product (picks_named (λ x w n p. k x w (m.in_product n) p) d)
    yields_named k (y.least d) = y.least (picks_named (λ x w n p. k x w (m.in_least n) p) d)
    yields_named k (y.greatest d) = y.greatest (picks_named (λ x w n p. k x w (m.in_greatest n) p) d)
    yields_named k (y.count d) = y.count (picks_named (λ x w n p. k x w (m.in_count n) p) d)
    yields_named k (y.choice d) =
        y.choice (takes_named (λ x w n p. k x w (m.in_cases n) p) (λ x w n p. k x w (m.in_other n) p) d)

    pub some_named : {es : List (Expr V)} {v : Value} → ((x : V) (w : Value) → Some_mentions x es → P x w → Q x w)
        → Some_yields P es v → Some_yields Q es v
    some_named k (y.here d) = y.here (yields_named (λ x w n p. k x w (m.here n) p) d)
    some_named k (y.later d) = y.later (some_named (λ x w n p. k x w (m.later n) p) d)

    pub all_named : {es : List (Expr V)} {v : Value} → ((x : V) (w : Value) → Some_mentions x es → P x w → Q x w)
        → All_yield P es v → All_yield Q es v
    all_named k y.none = y.none
    all_named k (y.one_and d ds) =
        y.one_and (yields_named (λ x w n p. k x w (m.here n) p) d) (all_named (λ x w n p. k x w (m.later n) p) ds)

    pub picks_named : {es : List (Expr V)} {vs : List Value}
        → ((x : V) (w : Value) → Some_mentions x es → P x w → Q x w) → Picks P es vs → Picks Q es vs
    picks_named k y.no_operand = y.no_operand
    picks_named k (y.operand d ds) =
        y.operand (yields_named (λ x w n p. k x w (m.here n) p) d) (picks_named (λ x w n p. k x w (m.later n) p) ds)

    pub parts_named : {ps : List (Bool × Expr V)} {vs : List (Bool × Value)}
        → ((x : V) (w : Value) → Parts_mention x ps → P x w → Q x w) → Picks_parts P ps vs → Picks_parts Q ps vs
    parts_named k y.no_part = y.no_part
    parts_named k (y.part d ds) =
        y.part (yields_named (λ x w n p. k x w (m.this_part n) p) d)
        (parts_named (λ x w n p. k x w (m.later_part n) p) ds)

    pub takes_named : {cs : List (Expr V × Expr V)} {e : Level V} {v : Value}
        → ((x : V) (w : Value) → Cases_mention x cs → P x w → Q x w)
        → ((x : V) (w : Value) → Mentions x e → P x w → Q x w) → Takes P cs e v → Takes Q cs e v
    takes_named k l (y.otherwise d) = y.otherwise (yields_named l d)
    takes_named k l (y.taken t d) =
        y.taken (yields_named (λ x w n p. k x w (m.in_test n) p) t) (yields_named (λ x w n p. k x w (m.in_value n) p) d)
    takes_named k l (y.passed t d) =
        y.passed (yields_named (λ x w n p. k x w (m.in_test n) p) t)
        (takes_named (λ x w n p. k x w (m.later_case n) p) l d)

-- more facts yield no less
module _ (V : Type 0) (P Q : V → Value → Type 0) (more : (x : V) (v : Value) → P x v → Q x v) where
  pub yields_more : {e : Level V} {v : Value} → Yields P e v → Yields Q e v
  yields_more d = yields_named (λ x w n p. more x w p) d

  pub some_more : {es : List (Expr V)} {v : Value} → Some_yields P es v → Some_yields Q es v
  some_more d = some_named (λ x w n p. more x w p) d

  pub all_more : {es : List (Expr V)} {v : Value} → All_yield P es v → All_yield Q es v
  all_more d = all_named (λ x w n p. more x w p) d

  pub picks_more : {es : List (Expr V)} {vs : List Value} → Picks P es vs → Picks Q es vs
  picks_more d = picks_named (λ x w n p. more x w p) d

  pub parts_more : {ps : List (Bool × Expr V)} {vs : List (Bool × Value)} → Picks_parts P ps vs → Picks_parts Q ps vs
  parts_more d = parts_named (λ x w n p. more x w p) d

  pub takes_more : {cs : List (Expr V × Expr V)} {e : Level V} {v : Value} → Takes P cs e v → Takes Q cs e v
  takes_more d = takes_named (λ x w n p. more x w p) (λ x w n p. more x w p) d

pub either_holds : {V : Type 0} (P : V → Value → Type 0) (K L : List (Pair V))
    → ((x : V) (v : Value) → HasPair K x v → P x v) → ((x : V) (v : Value) → HasPair L x v → P x v)
    → (x : V) (v : Value) → HasPair (K ++ L) x v → P x v
either_holds P K L h k x v n = ⊎_elim (λ a. h x v a) (λ b. k x v b) (Contains-append_cases K L (x, v) n)

pub nothing_holds : {V : Type 0} (x : V) (v : Value) → HasPair [] x v → ⊥
nothing_holds x v (k, h, e) = absurd (omega (arith, h))

only_holds : {V : Type 0} (P : V → Value → Type 0) (x : V) (v : Value) → P x v → (z : V) (w : Value)
    → HasPair ((x, v) ∷ []) z w → P z w
only_holds P x v h z w n =
    ⊎_elim (λ a. absurd (nothing_holds z w a)) (λ e. let Q : Pair _ → Type 0 = λ k. P k.0 k.1 in subst Q e h)
    (Contains-push_cases [] (x, v) (z, w) n)

-- two that need finitely many facts need finitely many together
pub needs_both : (V : Type 0) (P : V → Value → Type 0) (R S T : (V → Value → Type 0) → Type 0)
    → ((F G : V → Value → Type 0) → ((x : V) (v : Value) → F x v → G x v) → R F → R G)
    → ((F G : V → Value → Type 0) → ((x : V) (v : Value) → F x v → G x v) → S F → S G)
    → ((F : V → Value → Type 0) → R F → S F → T F) → Needs V P R → Needs V P S → Needs V P T
needs_both V P R S T more_r more_s both n k = record {
  pairs = n.pairs ++ k.pairs;
  hold = either_holds P n.pairs k.pairs n.hold k.hold;
  suffice =
      both (HasPair (n.pairs ++ k.pairs))
      (more_r (HasPair n.pairs) (HasPair (n.pairs ++ k.pairs)) (λ x v h. Contains-append_left n.pairs k.pairs (x, v) h)
      n.suffice)
      (more_s (HasPair k.pairs) (HasPair (n.pairs ++ k.pairs)) (λ x v h. Contains-append_right n.pairs k.pairs (x, v) h)
      k.suffice);
}

-- finitely many of the facts suffice
module _ (V : Type 0) (P : V → Value → Type 0) where
  mutual
    pub needs : {e : Level V} {v : Value} → Yields P e v → Needs V P (λ F. Yields F e v)
    needs y.constant = record { pairs = []; hold = λ x v n. absurd (nothing_holds x v n); suffice = y.constant }
    needs (y.variable {x = x} {v = v} h) = record {
      pairs = (x, v) ∷ [];
      hold = only_holds P x v h;
      suffice = y.variable (Contains-push [] (x, v));
    }
    needs (y.opposite d) = let n = needs d in record { pairs = n.pairs; hold = n.hold; suffice = y.opposite n.suffice }
    needs (y.one_false d) =
        let n = some_need d in
        record { pairs = n.pairs; hold = n.hold; suffice = y.one_false n.suffice }
    needs (y.all_true d) =
        let n = all_need d in
        record { pairs = n.pairs; hold = n.hold; suffice = y.all_true n.suffice }
    needs (y.one_true d) =
        let n = some_need d in
        record { pairs = n.pairs; hold = n.hold; suffice = y.one_true n.suffice }
    needs (y.all_false d) =
        let n = all_need d in
        record { pairs = n.pairs; hold = n.hold; suffice = y.all_false n.suffice }
    needs (y.compared {r = r} {a = a} {b = b} {v = v} {w = w} c d) =
        needs_both V P (λ F. Yields F _ v) (λ F. Yields F _ w) (λ F. Yields F _ _)
        (λ F G k h. yields_more V F G k h) (λ F G k h. yields_more V F G k h) (λ F h k. y.compared h k) (needs c)
        (needs d)
    needs (y.sum d) = let n = parts_need d in record { pairs = n.pairs; hold = n.hold; suffice = y.sum n.suffice }
    needs (y.product d) =
        let n = picks_need d in
        record { pairs = n.pairs; hold = n.hold; suffice = y.product n.suffice }
    needs (y.least d) = let n = picks_need d in record { pairs = n.pairs; hold = n.hold; suffice = y.least n.suffice }
    needs (y.greatest d) =
        let n = picks_need d in
        record { pairs = n.pairs; hold = n.hold; suffice = y.greatest n.suffice }
    needs (y.count d) = let n = picks_need d in record { pairs = n.pairs; hold = n.hold; suffice = y.count n.suffice }
    needs (y.choice d) = let n = takes_need d in record { pairs = n.pairs; hold = n.hold; suffice = y.choice n.suffice }

    pub some_need : {es : List (Expr V)} {v : Value} → Some_yields P es v → Needs V P (λ F. Some_yields F es v)
    some_need (y.here d) = let n = needs d in record { pairs = n.pairs; hold = n.hold; suffice = y.here n.suffice }
    some_need (y.later d) =
        let n = some_need d in
        record { pairs = n.pairs; hold = n.hold; suffice = y.later n.suffice }

    pub all_need : {es : List (Expr V)} {v : Value} → All_yield P es v → Needs V P (λ F. All_yield F es v)
    all_need y.none = record { pairs = []; hold = λ x v n. absurd (nothing_holds x v n); suffice = y.none }
    all_need {v = v} (y.one_and d ds) = needs_both V P (λ F. Yields F _ v) (λ F. All_yield F _ v) (λ F. All_yield F _ v)
        (λ F G k h. yields_more V F G k h) (λ F G k h. all_more V F G k h) (λ F h k. y.one_and h k) (needs d)
        (all_need ds)

    pub picks_need : {es : List (Expr V)} {vs : List Value} → Picks P es vs → Needs V P (λ F. Picks F es vs)
    picks_need y.no_operand = record {
      pairs = [];
      hold = λ x v n. absurd (nothing_holds x v n);
      suffice = y.no_operand;
    }
    picks_need (y.operand {v = v} {vs = vs} d ds) =
        needs_both V P (λ F. Yields F _ v) (λ F. Picks F _ vs) (λ F. Picks F _ (v ∷ vs))
        (λ F G k h. yields_more V F G k h) (λ F G k h. picks_more V F G k h) (λ F h k. y.operand h k) (needs d)
        (picks_need ds)

    pub parts_need : {ps : List (Bool × Expr V)} {vs : List (Bool × Value)} → Picks_parts P ps vs
        → Needs V P (λ F. Picks_parts F ps vs)
    parts_need y.no_part = record { pairs = []; hold = λ x v n. absurd (nothing_holds x v n); suffice = y.no_part }
    parts_need (y.part {v = v} {vs = vs} d ds) =
        needs_both V P (λ F. Yields F _ v) (λ F. Picks_parts F _ vs) (λ F. Picks_parts F _ _)
        (λ F G k h. yields_more V F G k h) (λ F G k h. parts_more V F G k h) (λ F h k. y.part h k) (needs d)
        (parts_need ds)

    pub takes_need : {cs : List (Expr V × Expr V)} {e : Level V} {v : Value} → Takes P cs e v
        → Needs V P (λ F. Takes F cs e v)
    takes_need (y.otherwise d) =
        let n = needs d in
        record { pairs = n.pairs; hold = n.hold; suffice = y.otherwise n.suffice }
    takes_need {v = v} (y.taken t d) =
        needs_both V P (λ F. Yields F _ (Truth true)) (λ F. Yields F _ v) (λ F. Takes F _ _ v)
        (λ F G k h. yields_more V F G k h) (λ F G k h. yields_more V F G k h) (λ F h k. y.taken h k) (needs t) (needs d)
    takes_need {v = v} (y.passed t d) =
        needs_both V P (λ F. Yields F _ (Truth false)) (λ F. Takes F _ _ v) (λ F. Takes F _ _ v)
        (λ F G k h. yields_more V F G k h) (λ F G k h. takes_more V F G k h) (λ F h k. y.passed h k) (needs t)
        (takes_need d)
