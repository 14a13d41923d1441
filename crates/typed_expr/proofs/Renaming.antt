-- Expressions that differ in their variables alone.
use Rattle.std.proofs.Common.{Bool, List}
use Rattle.domains.specs.declared.Value.{Value}
use Rattle.typed_expr.specs.PairsInside.{turned_pairs}
use Rattle.typed_expr.specs.Yields.{Level, Yields, Some_yields, All_yield, Picks, Picks_parts, Takes}
use Rattle.typed_expr.specs.Yields as y
use Rattle.typed_expr.specs.Mentions.{Mentions, Some_mentions, Parts_mention, Cases_mention}
use Rattle.typed_expr.specs.Mentions as m
use Rattle.typed_expr.specs.Renames.{Renames, All_rename, Parts_rename, Cases_rename}
use Rattle.typed_expr.specs.Renames as r
use Rattle.typed_expr.specs.declared.expr.Expr.{Expr}

-- what an expression yields, the renamed one yields from facts that hold wherever the related ones do
module _ (V W : Type 0) (facts : V → Value → Type 0) (facts' : W → Value → Type 0) (same : V → W → Type 0)
    (kept : (x : V) (y : W) (v : Value) → same x y → facts x v → facts' y v) where
  mutual
    pub carries : {e : Level V} {f : Level W} {v : Value} → Yields facts e v → Renames same e f → Yields facts' f v
    carries y.constant r.constant = y.constant
    carries (y.variable {x = x} {v = v} h) (r.variable {y = w} q) = y.variable (kept x w v q h)
    carries (y.opposite d) (r.opposite q) = y.opposite (carries d q)
    carries (y.one_false d) (r.all q) = y.one_false (some_carries d q)
    carries (y.all_true d) (r.all q) = y.all_true (all_carry d q)
    carries (y.one_true d) (r.any q) = y.one_true (some_carries d q)
    carries (y.all_false d) (r.any q) = y.all_false (all_carry d q)
    carries (y.compared c d) (r.compared p q) = y.compared (carries c p) (carries d q)
    carries (y.sum d) (r.sum q) = y.sum (parts_carry d q)
    carries (y.product d) (r.product q) = y.product (picks_carry d q)
    carries (y.least d) (r.least q) = y.least (picks_carry d q)
    carries (y.greatest d) (r.greatest q) = y.greatest (picks_carry d q)
    carries (y.count d) (r.count q) = y.count (picks_carry d q)
    carries (y.choice d) (r.choice p q) = y.choice (takes_carry d p q)

    pub some_carries : {es : List (Expr V)} {fs : List (Expr W)} {v : Value} → Some_yields facts es v
        → All_rename same es fs → Some_yields facts' fs v
    some_carries (y.here d) (r.one_and q qs) = y.here (carries d q)
    some_carries (y.later d) (r.one_and q qs) = y.later (some_carries d qs)

    pub all_carry : {es : List (Expr V)} {fs : List (Expr W)} {v : Value} → All_yield facts es v → All_rename same es fs
        → All_yield facts' fs v
    all_carry y.none r.none = y.none
    all_carry (y.one_and d ds) (r.one_and q qs) = y.one_and (carries d q) (all_carry ds qs)

    pub picks_carry : {es : List (Expr V)} {fs : List (Expr W)} {vs : List Value} → Picks facts es vs
        → All_rename same es fs → Picks facts' fs vs
    picks_carry y.no_operand r.none = y.no_operand
    picks_carry (y.operand d ds) (r.one_and q qs) = y.operand (carries d q) (picks_carry ds qs)

    pub parts_carry : {ps : List (Bool × Expr V)} {qs : List (Bool × Expr W)} {vs : List (Bool × Value)}
        → Picks_parts facts ps vs → Parts_rename same ps qs → Picks_parts facts' qs vs
    parts_carry y.no_part r.no_part = y.no_part
    parts_carry (y.part d ds) (r.part q qs) = y.part (carries d q) (parts_carry ds qs)

    pub takes_carry : {cs : List (Expr V × Expr V)} {ds : List (Expr W × Expr W)} {e : Level V} {f : Level W}
        {v : Value}
        → Takes facts cs e v → Cases_rename same cs ds → Renames same e f → Takes facts' ds f v
    takes_carry (y.otherwise d) r.no_case q = y.otherwise (carries d q)
    takes_carry (y.taken t d) (r.case_and p q qs) o = y.taken (carries t p) (carries d q)
    takes_carry (y.passed t d) (r.case_and p q qs) o = y.passed (carries t p) (takes_carry d qs o)

-- a renaming, the other way round
module _ {V W : Type 0} (same : V → W → Type 0) where
  mutual
    pub renames_turned : {e : Level V} {f : Level W} → Renames same e f → Renames (turned_pairs same) f e
    renames_turned r.constant = r.constant
    renames_turned (r.variable q) = r.variable q
    renames_turned (r.opposite q) = r.opposite (renames_turned q)
    renames_turned (r.all q) = r.all (all_turned q)
    renames_turned (r.any q) = r.any (all_turned q)
    renames_turned (r.compared p q) = r.compared (renames_turned p) (renames_turned q)
    renames_turned (r.sum q) = r.sum (parts_turned q)
    renames_turned (r.product q) = r.product (all_turned q)
    renames_turned (r.least q) = r.least (all_turned q)
    renames_turned (r.greatest q) = r.greatest (all_turned q)
    renames_turned (r.count q) = r.count (all_turned q)
    renames_turned (r.choice p q) = r.choice (cases_turned p) (renames_turned q)

    pub all_turned : {es : List (Expr V)} {fs : List (Expr W)} → All_rename same es fs → All_rename (turned_pairs same) fs es
    all_turned r.none = r.none
    all_turned (r.one_and q qs) = r.one_and (renames_turned q) (all_turned qs)

    pub parts_turned : {ps : List (Bool × Expr V)} {qs : List (Bool × Expr W)} → Parts_rename same ps qs
        → Parts_rename (turned_pairs same) qs ps
    parts_turned r.no_part = r.no_part
    parts_turned (r.part q qs) = r.part (renames_turned q) (parts_turned qs)

    pub cases_turned : {cs : List (Expr V × Expr V)} {ds : List (Expr W × Expr W)} → Cases_rename same cs ds
        → Cases_rename (turned_pairs same) ds cs
    cases_turned r.no_case = r.no_case
    cases_turned (r.case_and p q qs) = r.case_and (renames_turned p) (renames_turned q) (cases_turned qs)

-- a renaming of a renaming
module _ {U V W : Type 0} (first : U → V → Type 0) (second : V → W → Type 0) (third : U → W → Type 0)
    (through : (x : U) (y : V) (z : W) → first x y → second y z → third x z) where
  mutual
    pub renames_joined : {e : Level U} {f : Level V} {g : Level W} → Renames first e f → Renames second f g
        → Renames third e g
    renames_joined r.constant r.constant = r.constant
    renames_joined (r.variable {x = x} p) (r.variable {x = y} {y = z} q) = r.variable (through x y z p q)
    renames_joined (r.opposite p) (r.opposite q) = r.opposite (renames_joined p q)
    renames_joined (r.all p) (r.all q) = r.all (all_joined p q)
    renames_joined (r.any p) (r.any q) = r.any (all_joined p q)
    renames_joined (r.compared p p') (r.compared q q') = r.compared (renames_joined p q) (renames_joined p' q')
    renames_joined (r.sum p) (r.sum q) = r.sum (parts_joined p q)
    renames_joined (r.product p) (r.product q) = r.product (all_joined p q)
    renames_joined (r.least p) (r.least q) = r.least (all_joined p q)
    renames_joined (r.greatest p) (r.greatest q) = r.greatest (all_joined p q)
    renames_joined (r.count p) (r.count q) = r.count (all_joined p q)
    renames_joined (r.choice p p') (r.choice q q') = r.choice (cases_joined p q) (renames_joined p' q')

    pub all_joined : {es : List (Expr U)} {fs : List (Expr V)} {gs : List (Expr W)} → All_rename first es fs
        → All_rename second fs gs → All_rename third es gs
    all_joined r.none r.none = r.none
    all_joined (r.one_and p ps) (r.one_and q qs) = r.one_and (renames_joined p q) (all_joined ps qs)

    pub parts_joined : {ps : List (Bool × Expr U)} {qs : List (Bool × Expr V)} {rs : List (Bool × Expr W)}
        → Parts_rename first ps qs → Parts_rename second qs rs
        → Parts_rename third ps rs
    parts_joined r.no_part r.no_part = r.no_part
    parts_joined (r.part p ps) (r.part q qs) = r.part (renames_joined p q) (parts_joined ps qs)

    pub cases_joined : {bs : List (Expr U × Expr U)} {cs : List (Expr V × Expr V)} {ds : List (Expr W × Expr W)}
        → Cases_rename first bs cs → Cases_rename second cs ds
        → Cases_rename third bs ds
    cases_joined r.no_case r.no_case = r.no_case
    cases_joined (r.case_and p p' ps) (r.case_and q q' qs) =
        r.case_and (renames_joined p q) (renames_joined p' q') (cases_joined ps qs)

-- a variable that stands in an expression has a related one in the renamed expression
pub record Mentioned {V W : Type 0} (same : V → W → Type 0) (x : V) (R : W → Type 0) : Type 0 where
  pub other : W
  pub related : same x other
  pub stands : R other

module _ {V W : Type 0} (same : V → W → Type 0) (x : V) where
  mutual
    pub mentions_carry : {e : Level V} {f : Level W} → Mentions x e → Renames same e f
        → Mentioned same x (λ y. Mentions y f)
    mentions_carry m.itself (r.variable {y = y} q) = record { other = y; related = q; stands = m.itself }
    mentions_carry (m.in_not d) (r.opposite q) =
        let n = mentions_carry d q in
        record { other = n.other; related = n.related; stands = m.in_not n.stands }
    mentions_carry (m.in_all d) (r.all q) =
        let n = some_mention d q in
        record { other = n.other; related = n.related; stands = m.in_all n.stands }
    mentions_carry (m.in_any d) (r.any q) =
        let n = some_mention d q in
        record { other = n.other; related = n.related; stands = m.in_any n.stands }
    mentions_carry (m.in_left d) (r.compared p q) =
        let n = mentions_carry d p in
        record { other = n.other; related = n.related; stands = m.in_left n.stands }
    mentions_carry (m.in_right d) (r.compared p q) =
        let n = mentions_carry d q in
        record { other = n.other; related = n.related; stands = m.in_right n.stands }
    mentions_carry (m.in_sum d) (r.sum q) =
        let n = parts_mention d q in
        record { other = n.other; related = n.related; stands = m.in_sum n.stands }
    mentions_carry (m.in_product d) (r.product q) =
        let n = some_mention d q in
        record { other = n.other; related = n.related; stands = m.in_product n.stands }
    mentions_carry (m.in_least d) (r.least q) =
        let n = some_mention d q in
        record { other = n.other; related = n.related; stands = m.in_least n.stands }
    mentions_carry (m.in_greatest d) (r.greatest q) =
        let n = some_mention d q in
        record { other = n.other; related = n.related; stands = m.in_greatest n.stands }
    mentions_carry (m.in_count d) (r.count q) =
        let n = some_mention d q in
        record { other = n.other; related = n.related; stands = m.in_count n.stands }
    mentions_carry (m.in_cases d) (r.choice p q) =
        let n = cases_mention d p in
        record { other = n.other; related = n.related; stands = m.in_cases n.stands }
    mentions_carry (m.in_other d) (r.choice p q) =
        let n = mentions_carry d q in
        record { other = n.other; related = n.related; stands = m.in_other n.stands }

    pub some_mention : {es : List (Expr V)} {fs : List (Expr W)} → Some_mentions x es → All_rename same es fs
        → Mentioned same x (λ y. Some_mentions y fs)
    some_mention (m.here d) (r.one_and q qs) =
        let n = mentions_carry d q in
        record { other = n.other; related = n.related; stands = m.here n.stands }
    some_mention (m.later d) (r.one_and q qs) =
        let n = some_mention d qs in
        record { other = n.other; related = n.related; stands = m.later n.stands }

    pub parts_mention : {ps : List (Bool × Expr V)} {qs : List (Bool × Expr W)} → Parts_mention x ps
        → Parts_rename same ps qs → Mentioned same x (λ y. Parts_mention y qs)
    parts_mention (m.this_part d) (r.part q qs) =
        let n = mentions_carry d q in
        record { other = n.other; related = n.related; stands = m.this_part n.stands }
    parts_mention (m.later_part d) (r.part q qs) =
        let n = parts_mention d qs in
        record { other = n.other; related = n.related; stands = m.later_part n.stands }

    pub cases_mention : {cs : List (Expr V × Expr V)} {ds : List (Expr W × Expr W)} → Cases_mention x cs
        → Cases_rename same cs ds → Mentioned same x (λ y. Cases_mention y ds)
    cases_mention (m.in_test d) (r.case_and p q qs) =
        let n = mentions_carry d p in
        record { other = n.other; related = n.related; stands = m.in_test n.stands }
    cases_mention (m.in_value d) (r.case_and p q qs) =
        let n = mentions_carry d q in
        record { other = n.other; related = n.related; stands = m.in_value n.stands }
    cases_mention (m.later_case d) (r.case_and p q qs) =
        let n = cases_mention d qs in
        record { other = n.other; related = n.related; stands = m.later_case n.stands }
