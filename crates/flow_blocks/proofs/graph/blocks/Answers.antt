-- The pieces join.
use Rattle.std.proofs.Common.{ℕ, ◌↔◌, List, drop, length, sym, ◌∙◌, subst}
use Rattle.std.proofs.lemmas.List.{take_at}
use Rattle.ar_base.specs.Lists.{IsOneOf}
use Rattle.flow_blocks.specs.Blocks.{Depends, directly, through}
use Rattle.flow_blocks.specs.Bits.{HasBit, AreRows, AreDependences, AreClosed, AreAllDependences}
use Rattle.flow_blocks.proofs.RowLemmas.{Row}
use Rattle.flow_blocks.proofs.graph.blocks.Goals as goal

pub direct_rows-requires : goal.direct_rows-requires
direct_rows-requires c = λ a b one. c.requires a b
    (subst (λ (l : List (ℕ × ℕ)). IsOneOf l (a, b)) c.deref-2.ensures.value one)

pub close-requires-clause-below : goal.close-requires-clause-below
close-requires-clause-below c = λ a b one. c.requires a b
    (subst (λ (l : List (ℕ × ℕ)). IsOneOf l (a, b)) c.deref-3.ensures.value one)

-- rows that are closed and have the uses have all dependences
complete : (uses : List (ℕ × ℕ)) (rows : List Row)
    → ((a b n : ℕ) → IsOneOf uses (a, b) → HasBit rows b n → HasBit rows a n)
    → ((a n : ℕ) → IsOneOf uses (a, n) → HasBit rows a n)
    → (a n : ℕ) → Depends uses a n → HasBit rows a n
complete uses rows closed base a n (directly one) = base a n one
complete uses rows closed base a n (through {b = b} one rest) =
    closed a b n one (complete uses rows closed base b n rest)

all : (count : ℕ) (uses : List (ℕ × ℕ)) (old new : List Row) → AreRows count new
    → ((a n : ℕ) → HasBit old a n → HasBit new a n) → (AreDependences uses old → AreDependences uses new)
    → AreClosed uses new → ((a n : ℕ) → HasBit old a n ↔ IsOneOf uses (a, n)) → AreAllDependences count uses new
all count uses old new rows grows sound closed bits = record {
  are_rows = rows;
  sound = sound (λ a n h. directly ((bits a n).0 h));
  complete = λ a n lt d. complete uses new closed.closed (λ a n one. grows a n ((bits a n).1 one)) a n d;
}

-- the rows are those of the dependences
reached : (c : goal.After-found-2-1)
    → AreAllDependences c.args.graph.now.count c.deref-6.result.now c.deref-5.result.now
reached c =
    let count = c.args.graph.now.count in
    let used = c.deref-3.result.now in
    let bits : (a n : ℕ) → HasBit c.deref_mut.result.now a n ↔ IsOneOf used (a, n) =
    λ a n. subst (λ (rows : List Row). HasBit rows a n ↔ IsOneOf used (a, n)) (sym c.deref_mut.ensures.value)
    (subst (λ (uses : List (ℕ × ℕ)). HasBit c.in_ok-rows.rows.items a n ↔ IsOneOf uses (a, n))
    (c.deref-2.ensures.value ∙ sym c.deref-3.ensures.value) (c.in_ok-rows.ensures.bits a n)) in
    let found = all count used c.deref_mut.result.now c.close.new.rows c.close.ensures.rows c.close.ensures.grows
    c.close.ensures.sound c.close.ensures.closed bits in
    let written = take_at c.close.new.rows (drop (length c.close.new.rows) c.in_ok-rows.rows.items)
    c.in_ok-rows.rows.len (c.close.auto.rows ∙ c.deref_mut.ensures.len) in
    subst (λ (rows : List Row). AreAllDependences count c.deref-6.result.now rows)
    (sym (c.deref-5.ensures.value ∙ written))
    (subst (λ (uses : List (ℕ × ℕ)). AreAllDependences count uses c.close.new.rows)
    (c.deref-3.ensures.value ∙ sym c.deref-6.ensures.value) found)

pub in_order-requires-clause-table : goal.in_order-requires-clause-table
in_order-requires-clause-table c = c.in_ok-found.ensures c.deref-6.result.now (reached c)

pub in_order-requires-clause-below : goal.in_order-requires-clause-below
in_order-requires-clause-below c = λ a b one. c.requires a b
    (subst (λ (l : List (ℕ × ℕ)). IsOneOf l (a, b)) c.deref-6.ensures.value one)

pub in_order-requires-clause-reaches : goal.in_order-requires-clause-reaches
in_order-requires-clause-reaches c = (c.deref-5.result.now, reached c)
