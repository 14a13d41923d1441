use Rattle.std.proofs.Common.{ℕ, ◌<◌, length, get_or, sym, ◌∙◌, subst}
use Rattle.std.proofs.lemmas.Option.{same_Some}
use Rattle.ar_base.specs.Lists.{Stands}
use Rattle.ar_base.proofs.Standing.{stands_get}
use Rattle.class_table.proofs.members.listed_of.Goals as goal

pub unreachable-requires : goal.unreachable-requires
unreachable-requires c = let e = c.in-None.ensures c.requires.0 c.requires.2.known in let f = c.requires.3.is_named in cc

pub bounds-bodies-class : goal.bounds-bodies-class
bounds-bodies-class c =
    let e = same_Some _ _ (c.in-Some.ensures c.requires.0 c.requires.2.known ∙ c.requires.3.is_named) in
    subst (λ (k : ℕ). k < length c.args.bodies.now) (sym e) (c.requires.2.listed.there _ c.requires.3.is_done)

pub returns : goal.returns
returns c = λ d done lists is.
    let e = same_Some _ _ (c.in-Some.ensures d lists.known ∙ is.is_named) in
    let lt = subst (λ (k : ℕ). k < length c.args.bodies.now) (sym e) (lists.listed.there _ is.is_done) in
    let body = get_or c.args.bodies.now c.in-Some.class.n c.index-bodies-class.result in
    let s = stands_get c.args.bodies.now c.in-Some.class.n c.index-bodies-class.result lt in
    record {
      class = is.class;
      is_named = is.is_named;
      are_members = rw c.deref.ensures.value (lists.listed.members is.class body is.is_done
          (subst (λ (k : ℕ). Stands c.args.bodies.now k body) e s));
    }
