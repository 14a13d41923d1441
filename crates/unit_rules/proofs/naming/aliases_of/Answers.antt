use Rattle.std.proofs.Common.{ℕ, List, [], map, get_or, sym, ◌∙◌, ap, subst}
use Rattle.std.proofs.lemmas.List.{take_all}
use Rattle.ar_base.specs.Numbers.{BodyId}
use Rattle.ar_base.proofs.Standing.{stands_get}
use Rattle.class_table.specs.Members.{owned_at}
use Rattle.class_table.specs.TablesInside.{site_of}
use Rattle.class_table.proofs.Taken.{map_next}
use Rattle.unit_rules.specs.Naming.{NameEntry, AddsNames, none, alias_names, names_if, names_at_sites}
use Rattle.unit_rules.proofs.Adding.{adds_more, sites_next}
use Rattle.unit_rules.proofs.naming.aliases_of.Goals as goal
use Rattle.unit_rules.proofs.naming.aliases_of.Goals.{in-Some+in_ok-add_alias, in_default}

pub loop-site-init : goal.loop-site-init
loop-site-init c = λ d m units u k a s. subst (λ (new : List NameEntry). AddsNames m units u [] [] new)
    (sym c.new-aliases.ensures.items) none

pub loop-site-preserved : goal.loop-site-preserved
loop-site-preserved c = λ d m units u k a s.
    let first : BodyId × ℕ = (record { n = 0; of = record {} }, 0) in
    let site = site_of (get_or c.args.all.now c.loop-site.site-index first) in
    let e = map_next site_of c.args.all.now c.loop-site.site-index _
    (stands_get c.args.all.now c.loop-site.site-index first c.loop-site-test.true) in
    let more : AddsNames m units u c.loop-site.aliases.items (names_if alias_names (owned_at d site))
    c.match-owned_at.aliases.items =
    elim c.match-owned_at.branch [
      | in-Some+in_ok-add_alias w ↦ rw (← w.in-Some.ensures d k, w.aliases-is) (w.in_ok-add_alias.ensures m units u a s)
      | in_default w ↦ rw (← w.in_default.ensures d k, w.aliases-is) none
    ] in
    subst (λ (xs : List ℕ). AddsNames m units u [] xs c.match-owned_at.aliases.items)
    (sym (ap (names_at_sites alias_names d) e ∙ sites_next alias_names d _ _))
    (adds_more _ (c.loop-site.invariant d m units u k a s) more)

pub returns : goal.returns
returns c = λ d m units u k a s.
    subst (λ (ns : List (BodyId × ℕ)). AddsNames m units u [] (names_at_sites alias_names d (map site_of ns))
    c.loop-site.aliases.items) (take_all c.loop-site.site-index c.args.all.now c.loop-site-test.false)
    (c.loop-site.invariant d m units u k a s)
