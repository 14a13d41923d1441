use Rattle.std.proofs.Common.{◌≡◌, map, length, option_map, ◌∙◌, sym, refl, ap, subst, Err, arith}
use Rattle.std.proofs.lemmas.List.{take_at}
use Rattle.std.proofs.lemmas.Result.{err_from_is_err_and}
use Rattle.ar_base.specs.Numbers.{BodyId}
use Rattle.class_table.specs.Shown.{AreMembersListed}
use Rattle.class_table.specs.Tabling.{Tabulates}
use Rattle.class_table.specs.declared.tables.Classes.{Classes}
use Rattle.class_table.proofs.Answering.{declared_of, declares, given_parts, given_kept, keeps_parts, blocks_parts, first_kept, refused_apart, refused_table, passed_all, refuses5, gives, table_of, meets_err, meets_ok, lacks}
use Rattle.class_table.proofs.MemberNames.{none_of}
use Rattle.class_table.proofs.tabling.table.Goals as goal

pub list_all-requires : goal.list_all-requires
list_all-requires c =
    let a = given_parts _ _ c.in_ok-declared.ensures.parts in
    let d = declared_of _ _ a in
    let k = first_kept c.args.model (option_map (λ t. t.now) c.args.main) d
    (given_kept _ _ c.in_ok-declared.ensures.parts) in
    record {
      few = rw c.deref_mut.ensures.value c.in_ok-declared.ensures.few;
      declared = (
        c.args.model,
        option_map (λ t. t.now) c.args.main,
        d,
        rw (c.deref_mut.ensures.value, c.deref.ensures.value) (keeps_parts c.args.model _ a),
        k,
      );
    }

pub returns-in_err-declared : goal.returns-in_err-declared
returns-in_err-declared c =
    let r = err_from_is_err_and c.from_residual.result c.from_residual.ensures.1 in
    meets_err (Tabulates (option_map (λ t. t.now) c.args.main)) (λ (c answer : Classes). answer ≡ c) c.args.model _ _
    (r.1 ∙ ap (λ e. Err e) r.2)
    (refused_apart c.args.model (option_map (λ t. t.now) c.args.main) _ c.in_err-declared.ensures.parts)

pub returns-in_err-list_all : goal.returns-in_err-list_all
returns-in_err-list_all c =
    let a = given_parts _ _ c.in_ok-declared.ensures.parts in
    let d = declared_of _ _ a in
    let main = option_map (λ t. t.now) c.args.main in
    let k = first_kept c.args.model main d (given_kept _ _ c.in_ok-declared.ensures.parts) in
    let l = c.in_err-list_all.ensures c.args.model main d
    (rw (c.deref_mut.ensures.value, c.deref.ensures.value) (keeps_parts c.args.model _ a)) k in
    let r = err_from_is_err_and c.from_residual-in_err-list_all.result c.from_residual-in_err-list_all.ensures.1 in
    meets_err (Tabulates (option_map (λ t. t.now) c.args.main)) (λ (c answer : Classes). answer ≡ c) c.args.model _ _
    (r.1 ∙ ap (λ e. Err e) r.2) (refused_table c.args.model main d _ (declares c.args.model _ a) l)

pub returns-in_default : goal.returns-in_default
returns-in_default c =
    let a = given_parts _ _ c.in_ok-declared.ensures.parts in
    let d = declared_of _ _ a in
    let main = option_map (λ t. t.now) c.args.main in
    let k = first_kept c.args.model main d (given_kept _ _ c.in_ok-declared.ensures.parts) in
    let l = c.in_ok-list_all.ensures c.args.model main d
    (rw (c.deref_mut.ensures.value, c.deref.ensures.value) (keeps_parts c.args.model _ a)) k in
    let p = passed_all c.args.model main d _ l.0 l.1 l.2 in
    let e : length c.list_all.new.bodies ≡ c.in_ok-declared.declared.bodies.len =
    (let x = c.list_all.auto.bodies in let y = c.in_ok-declared.declared.bodies.ok.0 in let z = ap length c.deref_mut.ensures.value in omega arith) in
    let shown = subst (AreMembersListed d) (sym (c.deref-2.ensures.value ∙ take_at c.list_all.new.bodies _ _ e)) p.1 in
    let blocks = ap (map (λ (x : BodyId). x.n)) c.deref-3.ensures.value ∙ blocks_parts c.args.model _ a in
    refuses5 c.args.model main d (declares c.args.model _ a) p.0
    (lacks c.main_block.result (none_of c.main_block.result c.in_default.not-Some)
    (c.main_block.ensures.none d shown.as_text blocks))

pub returns : goal.returns
returns c =
    let a = given_parts _ _ c.in_ok-declared.ensures.parts in
    let d = declared_of _ _ a in
    let main = option_map (λ t. t.now) c.args.main in
    let k = first_kept c.args.model main d (given_kept _ _ c.in_ok-declared.ensures.parts) in
    let l = c.in_ok-list_all.ensures c.args.model main d
    (rw (c.deref_mut.ensures.value, c.deref.ensures.value) (keeps_parts c.args.model _ a)) k in
    let p = passed_all c.args.model main d _ l.0 l.1 l.2 in
    let e : length c.list_all.new.bodies ≡ c.in_ok-declared.declared.bodies.len =
    (let x = c.list_all.auto.bodies in let y = c.in_ok-declared.declared.bodies.ok.0 in let z = ap length c.deref_mut.ensures.value in omega arith) in
    let shown = subst (AreMembersListed d) (sym (c.deref-2.ensures.value ∙ take_at c.list_all.new.bodies _ _ e)) p.1 in
    let blocks = ap (map (λ (x : BodyId). x.n)) c.deref-3.ensures.value ∙ blocks_parts c.args.model _ a in
    let is_main = c.in-Some.ensures.some d shown.as_text blocks in
    meets_ok c.args.model main _ (gives c.args.model main d _ p.0
    (table_of c.args.model _ a _ _ refl refl refl (subst (AreMembersListed d) c.deref-2.ensures.value shown) is_main))
