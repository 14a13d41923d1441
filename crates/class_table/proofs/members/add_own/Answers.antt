use Rattle.std.proofs.Common.{◌≡◌, ℕ, ◌+◌, ◌++◌, ◌∷◌, [], List, map, take, length, sym, ◌∙◌, ap, arith, append_assoc}
use Rattle.std.proofs.lemmas.List.{take_all, length-take-le, append-nil}
use Rattle.class_table.specs.Members.{Site, sites_from}
use Rattle.class_table.specs.TablesInside.{site_of}
use Rattle.class_table.specs.declared.tables.Owned.{Owned}
use Rattle.class_table.proofs.Taken.{take_item, map_join}
use Rattle.class_table.proofs.Inheriting.{sites_next}
use Rattle.class_table.proofs.members.add_own.Goals as goal

pub loop-place-init : goal.loop-place-init
loop-place-init c = sym (append-nil _)

pub loop-place-preserved : goal.loop-place-preserved
loop-place-preserved c =
    let i = c.loop-place.place in
    let own = c.args.own.now in
    let e = take_item own i c.index-own-place.result (omega arith) c.index-own-place.is in
    let n : c.loop-place.place ≡ 0 + length (take i own) = (let b = length-take-le i own (omega arith) in omega arith) in
    ap (map site_of) c.in_ok-push.ensures.items
    ∙ (map_join site_of c.loop-place.all.items _
    ∙ (ap (λ (ss : List Site). ss ++ record { body = c.args.body.n; place = c.loop-place.place } ∷ [])
    c.loop-place.invariant
    ∙ (append_assoc (map site_of c.args.all.now.items) (sites_from c.args.body.n 0 (take i own))
    (record { body = c.args.body.n; place = c.loop-place.place } ∷ [])
    ∙ ap (λ (ss : List Site). map site_of c.args.all.now.items ++ ss)
    (ap (λ (k : ℕ). sites_from c.args.body.n 0 (take i own) ++ record { body = c.args.body.n; place = k } ∷ []) n
    ∙ sym (ap (sites_from c.args.body.n 0) e ∙ sites_next c.args.body.n 0 (take i own) c.index-own-place.result)))))

pub returns : goal.returns
returns c = c.loop-place.invariant ∙ ap
    (λ (os : List Owned). map site_of c.args.all.now.items ++ sites_from c.args.body.n 0 os)
    (take_all c.loop-place.place c.args.own.now (omega arith))
