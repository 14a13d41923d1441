-- From at most one fact for each variable an expression yields at most one value.
use Rattle.std.proofs.Common.{◌≡◌, Bool, List, refl, ap}
use Rattle.domains.specs.declared.Value.{Value}
use Rattle.domains.specs.declared.Value.TheVariants.{Whole}
use Rattle.typed_expr.specs.Values.{sum_of, product_of, least_of, greatest_of, count_of}
use Rattle.typed_expr.specs.Yields.{Level, Yields, Some_yields, All_yield, Picks, Picks_parts, Takes}
use Rattle.typed_expr.specs.Yields as y
use Rattle.typed_expr.specs.declared.expr.Expr.{Expr}

module _ (V : Type 0) (facts : V → Value → Type 0) (one : (x : V) (v w : Value) → facts x v → facts x w → v ≡ w) where
  mutual
    pub yields_one : {e : Level V} {v w : Value} → Yields facts e v → Yields facts e w → v ≡ w
    yields_one y.constant y.constant = refl
    yields_one (y.variable {x = x} {v = v} h) (y.variable {v = w} k) = one x v w h k
    yields_one (y.opposite d) (y.opposite d') = let i = yields_one d d' in cc
    yields_one (y.one_false d) (y.one_false d') = refl
    yields_one (y.one_false d) (y.all_true d') = some_all d d'
    yields_one (y.all_true d) (y.one_false d') = all_some d d'
    yields_one (y.all_true d) (y.all_true d') = refl
    yields_one (y.one_true d) (y.one_true d') = refl
    yields_one (y.one_true d) (y.all_false d') = some_all d d'
    yields_one (y.all_false d) (y.one_true d') = all_some d d'
    yields_one (y.all_false d) (y.all_false d') = refl
    yields_one (y.compared a b) (y.compared c d) = let i = yields_one a c in let j = yields_one b d in cc
    yields_one (y.sum d) (y.sum d') = ap (λ vs. Whole (sum_of vs)) (parts_one d d')
    yields_one (y.product d) (y.product d') = ap (λ vs. Whole (product_of vs)) (picks_one d d')
    yields_one (y.least d) (y.least d') = ap (λ vs. Whole (least_of vs)) (picks_one d d')
    yields_one (y.greatest d) (y.greatest d') = ap (λ vs. Whole (greatest_of vs)) (picks_one d d')
    yields_one (y.count d) (y.count d') = ap (λ vs. Whole (count_of vs)) (picks_one d d')
    yields_one (y.choice d) (y.choice d') = takes_one d d'

    pub some_all : {es : List (Expr V)} {v w : Value} → Some_yields facts es v → All_yield facts es w → v ≡ w
    some_all (y.here d) (y.one_and k ks) = yields_one d k
    some_all (y.later d) (y.one_and k ks) = some_all d ks

    pub all_some : {es : List (Expr V)} {v w : Value} → All_yield facts es v → Some_yields facts es w → v ≡ w
    all_some (y.one_and d ds) (y.here k) = yields_one d k
    all_some (y.one_and d ds) (y.later k) = all_some ds k
    all_some y.none k = elim k [ ]

    pub picks_one : {es : List (Expr V)} {vs ws : List Value} → Picks facts es vs → Picks facts es ws → vs ≡ ws
    picks_one y.no_operand y.no_operand = refl
    picks_one (y.operand d ds) (y.operand k ks) = let i = yields_one d k in let j = picks_one ds ks in cc

    pub parts_one : {ps : List (Bool × Expr V)} {vs ws : List (Bool × Value)} → Picks_parts facts ps vs
        → Picks_parts facts ps ws → vs ≡ ws
    parts_one y.no_part y.no_part = refl
    parts_one (y.part d ds) (y.part k ks) = let i = yields_one d k in let j = parts_one ds ks in cc

    pub takes_one : {cs : List (Expr V × Expr V)} {e : Level V} {v w : Value} → Takes facts cs e v → Takes facts cs e w
        → v ≡ w
    takes_one (y.otherwise d) (y.otherwise k) = yields_one d k
    takes_one (y.taken t d) (y.taken u k) = yields_one d k
    takes_one (y.taken t d) (y.passed u k) = let i = yields_one t u in cc
    takes_one (y.passed t d) (y.taken u k) = let i = yields_one t u in cc
    takes_one (y.passed t d) (y.passed u k) = takes_one d k
