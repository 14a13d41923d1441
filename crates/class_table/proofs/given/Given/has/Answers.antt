use Rattle.std.proofs.Common.{inl, inr, ◌∙◌, ℕ, false, List, map, sym, subst, refl}
use Rattle.std.proofs.lemmas.List.{take_all}
use Rattle.ar_base.proofs.Truths.{not_both}
use Rattle.ar_base.specs.Numbers.{BodyId}
use Rattle.ar_base.proofs.Standing.{stands_get, stands_map}
use Rattle.class_table.specs.Members.{Site}
use Rattle.class_table.specs.Repeating.{IsNamed}
use Rattle.class_table.specs.Retested.{member_names_at}
use Rattle.class_table.specs.TablesInside.{site_of}
use Rattle.class_table.proofs.Taken.{map_next}
use Rattle.class_table.proofs.GivenNames.{named_within, named_more}
use Rattle.class_table.proofs.given.Given.has.Goals as goal
use Rattle.class_table.proofs.given.Given.has.Goals.{else-may_give-via-then-may_give+else-contains, else-may_give-via-else-may_give}

pub returns-then-contains : goal.returns-then-contains
returns-then-contains c = λ d known.
    let none : BodyId × ℕ = (record { n = 0; of = record {} }, 0) in
    let st = stands_get c.args.sites.now c.loop-site.site-index none c.loop-site-test.true in (
      λ e. named_within d (map site_of c.args.sites.now) c.loop-site.site-index _ _
          (stands_map site_of c.args.sites.now c.loop-site.site-index _ st)
          ((known.each _ _).0 (sym c.contains.ensures ∙ c.if-contains.true)),
      λ n. refl,
    )

pub loop-site-preserved : goal.loop-site-preserved
loop-site-preserved c = λ d known n.
    let none : BodyId × ℕ = (record { n = 0; of = record {} }, 0) in
    let st = stands_get c.args.sites.now c.loop-site.site-index none c.loop-site-test.true in
    let e = map_next site_of c.args.sites.now c.loop-site.site-index _ st in
    elim (named_more d _ _ _ (subst (λ (ss : List Site). IsNamed (member_names_at d ss) c.args.name.n) e n)) [
      | inl m ↦ c.loop-site.invariant d known m
      | inr m ↦ elim c.else-may_give.branch [
        | else-may_give-via-then-may_give+else-contains w ↦
            (let k = (known.each _ _).1 m in absurd (not_both _ (sym w.contains.ensures ∙ w.if-contains.false) k))
        | else-may_give-via-else-may_give w ↦
            absurd (not_both _ w.if-may_give.false
            (c.may_give.ensures.1 (rw (c.copied-giver.ensures, c.get.ensures.value) (known.admitted _ _ m))))
      ]
    ]

pub returns : goal.returns
returns c = λ d known. (
  λ e. absurd (not_both false refl e),
  λ n. absurd (c.loop-site.invariant d known
      (subst (λ (xs : List (BodyId × ℕ)). IsNamed (member_names_at d (map site_of xs)) c.args.name.n)
      (sym (take_all c.loop-site.site-index c.args.sites.now c.loop-site-test.false)) n)),
)
