-- The class of the number is added.
use Rattle.std.proofs.Common.{◌≡◌, ℕ, ◌+◌, ◌≤◌, List, [], ◌∷◌, ◌++◌, take, drop, length, slice_get, Some, sym, ap, ◌∙◌, subst, arith, length-append}
use Rattle.std.proofs.lemmas.List.{map-append, length-map, take_at}
use Rattle.std.proofs.lemmas.Option.{slice_get-get_or}
use Rattle.ar_base.specs.Lists.{Stands, IsOneOf}
use Rattle.flow_blocks.specs.declared.dependences.Block.{Block}
use Rattle.flow_blocks.specs.Table.{members_of, IsPartTable}
use Rattle.flow_blocks.proofs.TableLemmas.{lone, part_more, passed}
use Rattle.flow_blocks.proofs.classing.look_at.Goals as goal

pub enroll-requires : goal.enroll-requires
enroll-requires c = λ n one.
    let within = c.in_ok-members.ensures.within n (subst (λ (l : List ℕ). IsOneOf l n) c.deref.ensures.value one) in
    let long : length c.deref_mut.result.now ≡ c.args.count = ap length c.deref_mut.ensures.value ∙ c.requires.long in
    omega (arith, within.1, long)

pub returns-clause-table : goal.returns-clause-table
returns-clause-table c = λ uses all t.
    let old = c.args.table.now.class_of.items in
    let classes = members_of c.args.table.now.blocks.items in
    let members = c.in_ok-members.members.items in
    let free : Stands old c.args.number 4294967295 =
    slice_get-get_or old c.args.number c.index.result.now (omega (arith, c.requires.long, c.requires.below))
    ∙ ap (λ (k : ℕ). Some k) (sym c.index.ensures ∙ c.if-index.false) in
    let low : c.args.count ≤ 4294967295 = omega (arith, c.ranges.count) in
    let cl = c.in_ok-members.ensures.is_class uses all
    (lone c.args.count 4294967295 uses c.args.number classes old t free c.requires.below low) in
    let number : c.len.result ≡ length classes =
    c.len.ensures ∙ c.args.table.now.blocks.ok.0
    ∙ sym (length-map c.args.table.now.blocks.items (λ (b : Block). b.members.items)) in
    let grown : members_of c.push.new.self.items ≡ classes ++ members ∷ [] =
    ap members_of c.in_ok-push.ensures.items
    ∙ map-append (λ (b : Block). b.members.items) c.args.table.now.blocks.items _ in
    let written : take c.args.table.now.class_of.len (c.enroll.new.class_of ++ drop (length c.enroll.new.class_of) old)
    ≡ c.enroll.new.class_of =
    take_at c.enroll.new.class_of (drop (length c.enroll.new.class_of) old) c.args.table.now.class_of.len
    (c.enroll.auto.class_of ∙ c.deref_mut.ensures.len) in
    let made = part_more c.args.count 4294967295 uses c.args.number classes old t free c.requires.below low members
    c.enroll.new.class_of cl c.in_ok-members.ensures.first
    (c.enroll.auto.class_of ∙ ap length c.deref_mut.ensures.value ∙ c.requires.long)
    (λ n one. subst (λ (k : ℕ). Stands c.enroll.new.class_of n k) number
    (c.enroll.ensures.members n (subst (λ (l : List ℕ). IsOneOf l n) (sym c.deref.ensures.value) one)))
    (λ n lacks. c.enroll.ensures.others n (λ one. lacks (subst (λ (l : List ℕ). IsOneOf l n) c.deref.ensures.value one))
    ∙ ap (λ (l : List ℕ). slice_get l n) c.deref_mut.ensures.value) in
    subst (λ (l : List (List ℕ)). IsPartTable c.args.count 4294967295 uses (c.args.number + 1) l
    (take c.args.table.now.class_of.len (c.enroll.new.class_of ++ drop (length c.enroll.new.class_of) old)))
    (sym grown)
    (subst (λ (l : List ℕ). IsPartTable c.args.count 4294967295 uses (c.args.number + 1) (classes ++ members ∷ []) l)
    (sym written) made)

pub returns-then-index-clause-table : goal.returns-then-index-clause-table
returns-then-index-clause-table c = λ uses all t.
    passed c.args.count 4294967295 uses c.args.number _ _ c.index.result.now t c.requires.below c.index.ensures
    c.if-index.true

pub returns-clause-few : goal.returns-clause-few
returns-clause-few c =
    let e = ap length c.in_ok-push.ensures.items ∙ length-append c.args.table.now.blocks.items _ in
    omega (arith, e, c.requires.few)

pub returns-clause-long : goal.returns-clause-long
returns-clause-long c =
    let old = c.args.table.now.class_of.items in
    ap length (take_at c.enroll.new.class_of (drop (length c.enroll.new.class_of) old) c.args.table.now.class_of.len
    (c.enroll.auto.class_of ∙ c.deref_mut.ensures.len))
    ∙ c.enroll.auto.class_of ∙ ap length c.deref_mut.ensures.value ∙ c.requires.long
