use Rattle.std.proofs.Common.{◌≡◌, ◌+◌, ◌++◌, ◌∷◌, [], ℕ, List, take, take_all, get_or, map, refl, sym, ap, ◌∙◌}
use Rattle.std.proofs.lemmas.List.{take_more}
use Rattle.ar_base.specs.Numbers.{VarId}
use Rattle.way_flags.proofs.waiting.numbers_of.Goals as goal

none : VarId
none = record { n = 0; of = record {} }

map_last : (xs : List VarId) (x : VarId)
    → map (λ (x : VarId). x.n) (xs ++ x ∷ []) ≡ map (λ (x : VarId). x.n) xs ++ x.n ∷ []
map_last [] x = refl
map_last (y ∷ xs) x = ap (λ z. y.n ∷ z) (map_last xs x)

pub loop-variable-preserved : goal.loop-variable-preserved
unfolding none
loop-variable-preserved c =
    let xs = c.args.variables.now in
    let i = c.loop-variable.variable-index in
    let x = get_or xs i none in
    let more : take (i + 1) xs ≡ take i xs ++ x ∷ [] = take_more xs i none c.loop-variable-test.true in
    c.in_ok-push.ensures.items ∙ ap (λ (z : List ℕ). z ++ x.n ∷ []) c.loop-variable.invariant
    ∙ sym (ap (λ z. map (λ (x : VarId). x.n) z) more ∙ map_last (take i xs) x)

pub returns : goal.returns
returns c = c.loop-variable.invariant
    ∙ ap (λ z. map (λ (x : VarId). x.n) z)
    (take_all c.loop-variable.variable-index c.args.variables.now c.loop-variable-test.false)
