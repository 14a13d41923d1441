use Rattle.std.proofs.lemmas.Result.{err_from_is_err_and}
use Rattle.instantiate.specs.Settled.{IsSettled}
use Rattle.instantiate.proofs.Joined.{units_stop, limits_stop, rules_stop, outlines_of, settled}
use Rattle.instantiate.proofs.unfolding.settled_units.Goals as goal

pub returns-in_err-unfolded-clause-settled : goal.returns-in_err-unfolded-clause-settled
returns-in_err-unfolded-clause-settled c = λ m t.
    let r = err_from_is_err_and c.from_residual.result c.from_residual.ensures.1 in
    units_stop m (IsSettled c.args.classes.now) _ _ _ r.1 r.2 (c.in_err-unfolded.ensures.limit m t)

pub returns-in_err-fit-clause-settled : goal.returns-in_err-fit-clause-settled
returns-in_err-fit-clause-settled c = λ m t.
    let u = c.in_ok-unfolded.ensures.ok m t in
    let r = err_from_is_err_and c.from_residual-in_err-fit.result c.from_residual-in_err-fit.ensures.1 in
    let h = rw c.deref.ensures.value at c.in_err-fit.ensures in
    limits_stop m (IsSettled c.args.classes.now) c.args.classes.now _ u.0 u.1 _ _ _ r.1 r.2
    (h m u.0 (outlines_of m c.args.classes.now t u.0 _ u.1))

pub keep_rules-requires : goal.keep_rules-requires
keep_rules-requires c = rw (c.deref-2.ensures.value, c.in_ok-walks.ensures.outlines) c.in_ok-unfolded.ensures.few.0

pub returns-in_err-keep_rules-clause-settled : goal.returns-in_err-keep_rules-clause-settled
returns-in_err-keep_rules-clause-settled c = λ m t.
    let u = c.in_ok-unfolded.ensures.ok m t in
    let r = err_from_is_err_and c.from_residual-in_err-keep_rules.result c.from_residual-in_err-keep_rules.ensures.1 in
    let o = outlines_of m c.args.classes.now t u.0 _ u.1 in
    let f = rw c.deref.ensures.value at c.in_ok-fit.ensures in
    let w = c.in_ok-walks.ensures.walks m u.0 u.1 in
    let k = rw (c.deref-2.ensures.value, c.in_ok-walks.ensures.outlines) at c.in_err-keep_rules.ensures in
    rules_stop m (IsSettled c.args.classes.now) c.args.classes.now _ u.0 u.1 _ _ _ _ r.1 r.2 (f m u.0 o) (k m u.0 o w)

pub returns-clause-settled : goal.returns-clause-settled
returns-clause-settled c = λ m t.
    let u = c.in_ok-unfolded.ensures.ok m t in
    let o = outlines_of m c.args.classes.now t u.0 _ u.1 in
    let f = rw c.deref.ensures.value at c.in_ok-fit.ensures in
    let w = c.in_ok-walks.ensures.walks m u.0 u.1 in
    let k = rw (c.deref-2.ensures.value, c.in_ok-walks.ensures.outlines) at c.in_ok-keep_rules.ensures in
    settled m c.args.classes.now t u.0 _ _ _ _ u.1 c.in_ok-walks.ensures.outlines w (f m u.0 o) (k m u.0 o w)

pub returns-clause-few : goal.returns-clause-few
returns-clause-few c = rw c.in_ok-walks.ensures.outlines c.in_ok-unfolded.ensures.few.0
