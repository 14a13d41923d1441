use Rattle.std.proofs.Common.{ℕ, Option, None, map, sym, subst}
use Rattle.class_table.specs.Members.{Site}
use Rattle.class_table.specs.TablesInside.{site_of}
use Rattle.hierarchy.specs.Settings.{target_word_of, set_by, settings_at}
use Rattle.hierarchy.specs.Settings as s
use Rattle.instantiate.specs.SettingPlaces.{SetsAt}
use Rattle.instantiate.specs.InForce.{AreAttribute, none}
use Rattle.instantiate.proofs.Upward.{set_none, set_some, set_there}
use Rattle.instantiate.proofs.outermost.set_here.Goals as goal

pub returns-in_default : goal.returns-in_default
returns-in_default c = λ m units above site tells at t.
    subst (λ (z : Option Site). AreAttribute units (set_by m above z (map target_word_of c.args.target.now)) None)
    (sym (set_none site _ at c.in_default.is)) none

pub returns-in-None : goal.returns-in-None
returns-in-None c = λ m units above site tells at t.
    let here = site_of c.in-Some.site in
    let sets = subst (λ (o : Option ℕ). SetsAt above here (settings_at m here) (map target_word_of c.args.target.now) o)
    c.in-None.is (c.in_ok-find.ensures m above tells) in
    subst (λ (z : Option Site). AreAttribute units (set_by m above z (map target_word_of c.args.target.now)) None)
    (sym (set_some site _ c.in-Some.site at c.in-Some.is))
    (subst (λ (a : Option s.Attribute). AreAttribute units a None) (sym sets) none)

pub returns-in-Ok : goal.returns-in-Ok
returns-in-Ok c = λ m units above site tells at t.
    let here = site_of c.in-Some.site in
    set_there m units above (map target_word_of c.args.target.now) site _ c.in-Some.site c.in-Some-2.place c.in-Ok.setting
    c.args.owner at c.in-Some.is c.in-Ok.ensures.1 t
    (subst (λ (o : Option ℕ). SetsAt above here (settings_at m here) (map target_word_of c.args.target.now) o)
    c.in-Some-2.is (c.in_ok-find.ensures m above tells))
