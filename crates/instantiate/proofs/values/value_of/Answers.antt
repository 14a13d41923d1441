use Rattle.std.proofs.Common.{map, subst}
use Rattle.hierarchy.specs.Settings.{target_word_of, outermost}
use Rattle.instantiate.specs.InForce.{AreAttribute}
use Rattle.instantiate.proofs.InForce.{value_set, value_own}
use Rattle.instantiate.proofs.values.value_of.Goals as goal

pub returns-in-Some : goal.returns-in-Some
returns-in-Some c = λ m units classes t g value h tells node e f.
    let a = c.in_ok-set.ensures m units classes t.unit h tells node.unit in
    value_set m units t g c.args.node node (map target_word_of c.args.target.items) e c.in-Some.set
    (subst (AreAttribute units (outermost m t.unit (map target_word_of c.args.target.items))) c.in-Some.is a)

pub returns-in-None : goal.returns-in-None
returns-in-None c = λ m units classes t g value h tells node e f.
    let a = c.in_ok-set.ensures m units classes t.unit h tells node.unit in
    value_own m units t g c.args.node node (map target_word_of c.args.target.items) e c.args.own value f
    (subst (AreAttribute units (outermost m t.unit (map target_word_of c.args.target.items))) c.in-None.is a)
