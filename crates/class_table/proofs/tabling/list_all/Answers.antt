use Rattle.std.proofs.Common.{[], ◌∷◌, ◌∙◌, ap, sym, subst, Err, arith}
use Rattle.std.proofs.lemmas.Result.{err_from_is_err_and}
use Rattle.ar_base.specs.Stages.{Keeps}
use Rattle.ar_base.proofs.Standing.{along_length}
use Rattle.class_table.specs.Declaring.{Declared}
use Rattle.class_table.specs.Listing.{CanList}
use Rattle.class_table.specs.Shown.{AreMembersListed}
use Rattle.class_table.specs.Rules.{BreaksTextRule}
use Rattle.class_table.proofs.Answering.{answers4, refuses2, passes2, refuses3, passes3, can_list, refused_later, shows_kept, meets_err}
use Rattle.class_table.proofs.Nesting.{inside_there}
use Rattle.class_table.proofs.tabling.list_all.Goals as goal

pub put_in_order-requires : goal.put_in_order-requires
put_in_order-requires c =
    let h = c.requires.declared in
    let s = shows_kept h.0 h.2 _ _ h.3 _ (c.in_ok-kinds.ensures h.2 h.3.as_types) in
    let i = c.in_ok-rows.ensures.inner h.2 s in
    let e = along_length _ _ s.as_text in
    record {
      within = λ x y r. let l = inside_there h.3.declared x y (i.to x y r) in omega (arith, l, i.long);
      few = omega (arith, i.long, e, c.requires.few);
    }

pub list_members-requires : goal.list_members-requires
list_members-requires c =
    let h = c.requires.declared in
    let s = shows_kept h.0 h.2 _ _ h.3 _ (c.in_ok-kinds.ensures h.2 h.3.as_types) in
    let k = passes2 h.0 h.1 h.2 _ _ h.4 (c.first_misnamed.ensures h.2 s) c.in_ok-keep.ensures in
    let i = c.in_ok-rows.ensures.inner h.2 s in
    let f = rw c.deref.ensures.value at c.in_ok-first_inside_itself.ensures in
    let k3 = passes3 h.0 h.1 h.2 _ _ k (f h.2 _ s i c.in_ok-order.ensures) c.in_ok-keep-2.ensures in (
      h.2,
      s,
      subst (CanList h.2) (sym c.deref-2.ensures.value)
          (can_list h.0 h.1 h.2 _ _ h.3.declared k3 i c.in_ok-order.ensures),
    )

pub returns-in_err-keep : goal.returns-in_err-keep
returns-in_err-keep c = λ model main d h below.
    let s = shows_kept model d _ _ h _ (c.in_ok-kinds.ensures d h.as_types) in
    let t = refuses2 model main d _ _ below (c.first_misnamed.ensures d s) c.in_err-keep.ensures in
    let r = err_from_is_err_and c.from_residual-in_err-keep.result c.from_residual-in_err-keep.ensures.1 in
    meets_err (Keeps (1 ∷ 2 ∷ 3 ∷ 4 ∷ []) (BreaksTextRule model main))
    (λ (e : Declared) (u : Unit {0}). AreMembersListed e c.args.bodies.now) d _ _ (r.1 ∙ ap (λ e. Err e) r.2) (refused_later model main d _ t)

pub returns-in_err-keep-2 : goal.returns-in_err-keep-2
returns-in_err-keep-2 c = λ model main d h below.
    let s = shows_kept model d _ _ h _ (c.in_ok-kinds.ensures d h.as_types) in
    let k = passes2 model main d _ _ below (c.first_misnamed.ensures d s) c.in_ok-keep.ensures in
    let i = c.in_ok-rows.ensures.inner d s in
    let f = rw c.deref.ensures.value at c.in_ok-first_inside_itself.ensures in
    let t = refuses3 model main d _ _ k (f d _ s i c.in_ok-order.ensures) c.in_err-keep-2.ensures in
    let r = err_from_is_err_and c.from_residual-in_err-keep-2.result c.from_residual-in_err-keep-2.ensures.1 in
    meets_err (Keeps (1 ∷ 2 ∷ 3 ∷ 4 ∷ []) (BreaksTextRule model main))
    (λ (e : Declared) (u : Unit {0}). AreMembersListed e c.args.bodies.now) d _ _ (r.1 ∙ ap (λ e. Err e) r.2) (refused_later model main d _ t)

pub returns : goal.returns
returns c = λ model main d h below.
    let n = c.in_ok-kinds.ensures d h.as_types in
    let s = shows_kept model d _ _ h _ n in
    let k = passes2 model main d _ _ below (c.first_misnamed.ensures d s) c.in_ok-keep.ensures in
    let i = c.in_ok-rows.ensures.inner d s in
    let f = rw c.deref.ensures.value at c.in_ok-first_inside_itself.ensures in
    let k3 = passes3 model main d _ _ k (f d _ s i c.in_ok-order.ensures) c.in_ok-keep-2.ensures in
    let can = can_list model main d _ _ h.declared k3 i c.in_ok-order.ensures in
    let listed = c.in_ok-list_members.ensures d s (subst (CanList d) (sym c.deref-2.ensures.value) can) in
    answers4 model main d _ _ c.keep-3.result c.keep-3.ensures k3 (c.in_ok-first_named_twice.ensures d n listed) listed
