use Rattle.std.proofs.Common.{◌≡◌, ◌+◌, ◌++◌, ◌∷◌, [], List, take, take_all, get_or, sym, subst}
use Rattle.std.proofs.lemmas.List.{take_more}
use Rattle.ar_base.specs.Lists.{IsOneOf}
use Rattle.ar_base.specs.Numbers.{VarId}
use Rattle.flow_propagate.specs.Named.{AddsNamed}
use Rattle.flow_propagate.proofs.NamedPairs.{pairs_none, pairs_more}
use Rattle.flow_propagate.proofs.naming.add_each.Goals as goal

no_name : VarId
no_name = record { n = 0; of = record {} }

pub loop-name-init : goal.loop-name-init
loop-name-init c = pairs_none _ _

pub loop-name-preserved : goal.loop-name-preserved
unfolding no_name
loop-name-preserved c =
    let xs = c.args.names.now in
    let i = c.loop-name.name-index in
    let x = get_or xs i no_name in
    let more : take (i + 1) xs ≡ take i xs ++ x ∷ [] = take_more xs i no_name c.loop-name-test.true in
    let adds : List VarId → Type 0 =
    λ z. AddsNamed c.args.number (λ x. IsOneOf z x) c.args.found.now.items c.push.new.self.items in
    subst adds (sym more)
    (pairs_more c.args.number (take i xs) x c.args.found.now.items c.loop-name.found.items c.push.new.self.items
    c.loop-name.invariant c.in_ok-push.ensures.items)

pub returns : goal.returns
returns c =
    let adds : List VarId → Type 0 =
    λ z. AddsNamed c.args.number (λ x. IsOneOf z x) c.args.found.now.items c.loop-name.found.items in
    subst adds (take_all c.loop-name.name-index c.args.names.now c.loop-name-test.false) c.loop-name.invariant
