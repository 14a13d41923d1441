use Rattle.std.proofs.Common.{◌≡◌, ◌<◌, ◌+◌, ◌++◌, ◌∷◌, [], ℕ, List, Vec, Global, length, get_or, false, rules, sym, ap, ◌∙◌, subst, arith}
use Rattle.ar_base.specs.Lists.{Stands}
use Rattle.ar_base.specs.Numbers.{VarId}
use Rattle.ar_base.proofs.Standing.{stands_get, stands_item}
use Rattle.domains.specs.declared.Value.TheVariants.{Truth}
use Rattle.flow_changes.specs.Codes.{coded}
use Rattle.flow_changes.proofs.Found.{AreFound, found_none, found_more, found_same, found_all}
use Rattle.flow_changes.proofs.changes.changed_values.Goals as goal
use Rattle.flow_changes.proofs.changes.changed_values.Goals.{then-ne+in_ok-push+in_ok-push-2, else-ne}

pub loop-place-init : goal.loop-place-init
loop-place-init c =
    let p = c.args.parts.now in
    let m = c.args.members.now in
    let none : AreFound p m 0 c.args.old.now c.args.values.now [] [] =
    found_none p m c.args.old.now c.args.values.now c.requires.ascend in
    subst (λ (z : List ℕ). AreFound p m 0 c.args.old.now c.args.values.now c.new-variables.result.items z)
    (sym c.new-codes.ensures.items)
    (subst (λ (z : List VarId). AreFound p m 0 c.args.old.now c.args.values.now z [])
    (sym c.new-variables.ensures.items) none)

pub bounds-values-x : goal.bounds-values-x
bounds-values-x c =
    let m = c.args.members.now in
    let i = c.loop-place.place in
    let h = c.requires.within (get_or m i 0) (record { place = i; stands = stands_get m i 0 c.loop-place-test.true }) in omega (arith, h, c.requires.values_long)

pub index-requires : goal.index-requires
index-requires c =
    let m = c.args.members.now in
    let i = c.loop-place.place in
    let h = c.requires.within (get_or m i 0) (record { place = i; stands = stands_get m i 0 c.loop-place-test.true }) in search (rules, h)

pub code_of-requires : goal.code_of-requires
code_of-requires c =
    let m = c.args.members.now in
    let i = c.loop-place.place in
    let n = get_or m i 0 in
    let xs = c.args.parts.now.variables.items in
    let h = c.requires.within n (record { place = i; stands = stands_get m i 0 c.loop-place-test.true }) in
    (c.requires.sound.variables n c.index.result.now (stands_item xs n c.index.result.now h c.index.ensures)).domain

pub loop-place-preserved : goal.loop-place-preserved
loop-place-preserved c =
    let p = c.args.parts.now in
    let m = c.args.members.now in
    let old = c.args.old.now in
    let new = c.args.values.now in
    let i = c.loop-place.place in
    let n = get_or m i 0 in
    let xs = c.loop-place.variables.items in
    let cs = c.loop-place.codes.items in
    let v = get_or old i (Truth false) in
    let w = get_or new n (Truth false) in
    let s : Stands m i n = stands_get m i 0 c.loop-place-test.true in
    let h : n < length p.variables.items = c.requires.within n (record { place = i; stands = s }) in
    let below : n < length new = omega (arith, h, c.requires.values_long) in
    let also : i < length old = omega (arith, c.loop-place-test.true, c.requires.old_long) in
    let at : Stands old i v = stands_get old i (Truth false) also in
    let there : Stands new n w = stands_get new n (Truth false) below in
    elim c.if-ne.branch [
      | then-ne+in_ok-push+in_ok-push-2 b ↦
          let x = b.new.result in
          let one = b.index.result.now in
          let d = coded one.domain v in
          let variables : c.if-ne.variables.items ≡ xs ++ x ∷ [] =
          ap (λ (z : Vec VarId Global). z.items) b.variables-is ∙ b.in_ok-push.ensures.items in
          let pushed : c.if-ne.codes.items ≡ cs ++ b.code_of.result ∷ [] =
          ap (λ (z : Vec ℕ Global). z.items) b.codes-is ∙ b.in_ok-push-2.ensures.items in
          let codes : c.if-ne.codes.items ≡ cs ++ d ∷ [] =
          pushed ∙ ap (λ (z : ℕ). cs ++ z ∷ []) b.code_of.ensures in
          let more : AreFound p m (i + 1) old new (xs ++ x ∷ []) (cs ++ d ∷ []) =
          found_more p m old new c.requires.ascend i n xs cs s c.loop-place.invariant v w at there
          (let d : w ≡ v → ⊥ = search rules in λ e. d (sym e)) x b.new.ensures one
          (stands_item p.variables.items n one h b.index.ensures) in
          subst (λ (z : List ℕ). AreFound p m (i + 1) old new c.if-ne.variables.items z) (sym codes)
          (subst (λ (z : List VarId). AreFound p m (i + 1) old new z (cs ++ d ∷ [])) (sym variables) more)
      | else-ne b ↦
          let more : AreFound p m (i + 1) old new xs cs =
          found_same p m old new c.requires.ascend i n xs cs s c.loop-place.invariant v w at there
          (let e : w ≡ v = search rules in sym e) in
          subst (λ (z : Vec ℕ Global). AreFound p m (i + 1) old new c.if-ne.variables.items z.items)
          (sym b.codes-is) (subst (λ (z : Vec VarId Global). AreFound p m (i + 1) old new z.items cs)
          (sym b.variables-is) more)
    ]

pub returns : goal.returns
returns c = found_all c.args.parts.now c.args.members.now c.args.old.now c.args.values.now c.requires.ascend
    c.loop-place.place c.loop-place.variables.items c.loop-place.codes.items c.loop-place-test.false
    c.loop-place.invariant
