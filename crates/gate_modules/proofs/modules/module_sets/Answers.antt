use Rattle.std.proofs.Common.{◌≡◌, ◌∙◌, ◌<◌, ◌++◌, [], ℕ, List, length, map, sym, ap, subst, arith}
use Rattle.std.proofs.lemmas.List.{length-map}
use Rattle.ar_base.specs.Lists.{Stands, IsOneOf}
use Rattle.ar_base.proofs.Standing.{one_here, stands_map}
use Rattle.zdd_nodes.specs.Families.{Family}
use Rattle.zdd_nodes.specs.Nodes.{NodeId, Stored, family, IsFamilyNumber}
use Rattle.gate_modules.specs.Parts.{AreSomeHeads, AddsSomeHeads}
use Rattle.gate_modules.specs.ShortenedInside.{set_of}
use Rattle.zdd_nodes.specs.Bounds.{node_numbers, AllEnd, IsReference}
use Rattle.gate_modules.specs.Entries.{EntriesAnswer}
use Rattle.gate_modules.proofs.Deciding.{event_not_end, none_is_module, differs_no_module, few_no_module, is_module}
use Rattle.gate_modules.proofs.Exchange.{from_or_none}
use Rattle.gate_modules.proofs.modules.module_sets.Goals as goal

-- the entry at a place is an entry
inside : (P : ℕ → Type 0) (xs ys : List NodeId) → xs ≡ ys → ((e : ℕ) → IsOneOf (node_numbers ys) e → P e)
    → (k : ℕ) (e : NodeId) → Stands xs k e → P e.n
inside P xs ys is h k e i = h e.n (one_here (node_numbers ys) k e.n
    (stands_map (λ (n : NodeId). n.n) ys k e (subst (λ z. Stands z k e) is i)))

-- the parts are all that was added
some_parts : (s : Stored) (b n : ℕ) (old new : Family) → AddsSomeHeads s b n old new → old ≡ []
    → AreSomeHeads b (family s n) new
some_parts s b n old new a e =
    subst (AreSomeHeads b (family s n)) (sym (a.is ∙ ap (λ z. z ++ a.heads) e)) a.are_heads

pub returns-then-range-clause-sets : goal.returns-then-range-clause-sets
returns-then-range-clause-sets c = λ m.
    let some = from_or_none c.args.range m.one_is.set (λ e. m.one_is.some (sym m.one_is.is ∙ e)) in
    omega (arith, some, c.if-range.true)

pub first_with_event-requires : goal.first_with_event-requires
first_with_event-requires c = inside (IsFamilyNumber c.args.store.now) c.deref.result.now c.in_ok-entries.entries.items
    c.deref.ensures.value c.in_ok-entries.ensures.inside

pub returns-in_default-clause-sets : goal.returns-in_default-clause-sets
returns-in_default-clause-sets c =
    none_is_module c.args.store.now c.requires.sound c.args.root.n c.requires.root c.args.range
    (node_numbers c.in_ok-entries.entries.items) c.in_ok-entries.ensures
    (subst (λ z. AllEnd c.args.store.now c.args.range.to (node_numbers z)) c.deref.ensures.value c.in_default.ensures)

pub entry_exit-requires-clause-some : goal.entry_exit-requires-clause-some
entry_exit-requires-clause-some c = let h = c.in-Some.ensures.event in event_not_end c.args.store.now c.args.range.to c.in-Some.node.n h.event h.lo h.hi h.has

pub entries_agree-requires-clause-in_store : goal.entries_agree-requires-clause-in_store
entries_agree-requires-clause-in_store c =
    inside (IsFamilyNumber c.args.store.now) c.deref-2.result.now c.in_ok-entries.entries.items c.deref-2.ensures.value
    c.in_ok-entries.ensures.inside

pub entries_agree-requires-clause-room : goal.entries_agree-requires-clause-room
entries_agree-requires-clause-room c =
    inside (λ e. e < length c.args.twins.now) c.deref-2.result.now c.in_ok-entries.entries.items c.deref-2.ensures.value
    (λ e i. subst (λ z. e < z) (sym c.requires.room) (c.in_ok-entries.ensures.inside e i))

pub returns-then-not-entries_agree-clause-sets : goal.returns-then-not-entries_agree-clause-sets
returns-then-not-entries_agree-clause-sets c =
    let ref = subst (λ z. IsReference c.args.store.now c.args.range.to (node_numbers z) c.in-Some.node.n)
    c.deref.ensures.value c.in-Some.ensures in
    let answer = subst (λ z. EntriesAnswer c.args.store.now c.args.range.to c.in-Some.node.n c.entry_exit.result.n
    (node_numbers z) c.entries_agree.result) c.deref-2.ensures.value c.entries_agree.ensures.is in
    differs_no_module c.args.store.now c.requires.sound c.args.root.n c.requires.root c.args.range
    (node_numbers c.in_ok-entries.entries.items) c.in_ok-entries.ensures
    c.in-Some.node.n c.entry_exit.result.n ref.is_entry c.entry_exit.ensures (answer.no c.if-not-entries_agree.true)

pub returns-then-len-lt2-clause-sets : goal.returns-then-len-lt2-clause-sets
returns-then-len-lt2-clause-sets c =
    let ref = subst (λ z. IsReference c.args.store.now c.args.range.to (node_numbers z) c.in-Some.node.n)
    c.deref.ensures.value c.in-Some.ensures in
    let long = length-map c.add_some_parts.new.sets.items set_of in
    few_no_module c.args.store.now c.requires.sound c.args.root.n c.requires.root c.args.range
    (node_numbers c.in_ok-entries.entries.items) c.in_ok-entries.ensures
    c.in-Some.node.n c.entry_exit.result.n ref.is_entry c.entry_exit.ensures (map set_of c.add_some_parts.new.sets.items)
    (some_parts _ _ _ _ _ c.in_ok-add_some_parts.ensures (ap (map set_of) c.new-sets.ensures.items)) (omega (arith, long, c.if-len-lt2.true, c.len.ensures))

pub returns-clause-sets : goal.returns-clause-sets
returns-clause-sets c =
    let ref = subst (λ z. IsReference c.args.store.now c.args.range.to (node_numbers z) c.in-Some.node.n)
    c.deref.ensures.value c.in-Some.ensures in
    let answer = subst (λ z. EntriesAnswer c.args.store.now c.args.range.to c.in-Some.node.n c.entry_exit.result.n
    (node_numbers z) c.entries_agree.result) c.deref-2.ensures.value c.entries_agree.ensures.is in
    let long = length-map c.add_some_parts.new.sets.items set_of in
    is_module c.args.store.now c.requires.sound c.args.root.n c.requires.root c.args.range
    (node_numbers c.in_ok-entries.entries.items) c.in_ok-entries.ensures
    c.in-Some.node.n c.entry_exit.result.n ref.is_entry c.entry_exit.ensures (map set_of c.add_some_parts.new.sets.items)
    (some_parts _ _ _ _ _ c.in_ok-add_some_parts.ensures (ap (map set_of) c.new-sets.ensures.items)) (omega (arith, long, c.if-len-lt2.false, c.len.ensures))
    (answer.yes c.if-not-entries_agree.false)
