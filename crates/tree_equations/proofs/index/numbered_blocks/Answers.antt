use Rattle.std.proofs.Common.{ℕ, List, [], ◌∷◌, ◌++◌, take, sym, ap, ◌∙◌, subst, take_all, Vec, Global}
use Rattle.std.proofs.lemmas.List.{take_more, map-append}
use Rattle.ar_base.specs.Lists.{IsOneOf}
use Rattle.ar_base.specs.Lists as l
use Rattle.ar_base.proofs.Standing.{one_here, stands_map, stands_item}
use Rattle.ar_base.proofs.Items.{along_push}
use Rattle.flow_blocks.specs.Table.{members_of}
use Rattle.flow_blocks.specs.declared.dependences.Block.{Block}
use Rattle.tree_equations.specs.Blocks.{StandAtPlaces, ArePlacedBlocks, blocks_in}
use Rattle.tree_equations.proofs.index.numbered_blocks.Goals as goal

pub loop-block-init : goal.loop-block-init
loop-block-init c =
    subst (λ (z : List (Vec ℕ Global)). ArePlacedBlocks c.args.flows.now [] (blocks_in z))
    (sym c.new-found.ensures.items) l.none

pub numbers_at-requires : goal.numbers_at-requires
numbers_at-requires c =
    let bs = c.args.blocks.now in
    let i = c.loop-block.block-index in
    let b = c.block-item.result in
    let st = stands_map (λ (b : Block). b.members.items) bs i b
    (stands_item bs i b c.loop-block-test.true c.block-item.is) in
    λ n o. c.requires b.members.items (one_here (members_of bs) i b.members.items st) n
    (subst (λ (z : List ℕ). IsOneOf z n) c.deref.ensures.value o)

pub loop-block-preserved : goal.loop-block-preserved
loop-block-preserved c =
    let bs = c.args.blocks.now in
    let fs = c.args.flows.now in
    let i = c.loop-block.block-index in
    let b = c.block-item.result in
    let view : Block → List ℕ = λ (b : Block). b.members.items in
    let placed = subst (λ (z : List ℕ). StandAtPlaces fs z c.in_ok-numbers.numbers.items) c.deref.ensures.value
    c.in_ok-numbers.ensures in
    let more = ap members_of (take_more bs i b c.loop-block-test.true
    ∙ ap (λ (z : Block). take i bs ++ z ∷ []) (sym c.block-item.is)) ∙ map-append view (take i bs) (b ∷ []) in
    let out = ap blocks_in c.in_ok-push.ensures.items
    ∙ map-append (λ (b : Vec ℕ Global). b.items) c.loop-block.found.items (c.in_ok-numbers.numbers ∷ []) in
    subst (λ (z : List (List ℕ)). ArePlacedBlocks fs z (blocks_in c.push.new.self.items)) (sym more)
    (subst (λ (z : List (List ℕ)). ArePlacedBlocks fs (members_of (take i bs) ++ b.members.items ∷ []) z) (sym out)
    (along_push _ _ b.members.items c.in_ok-numbers.numbers.items c.loop-block.invariant placed))

pub returns : goal.returns
returns c =
    subst (λ (z : List Block). ArePlacedBlocks c.args.flows.now (members_of z) (blocks_in c.loop-block.found.items))
    (take_all c.loop-block.block-index c.args.blocks.now c.loop-block-test.false) c.loop-block.invariant
