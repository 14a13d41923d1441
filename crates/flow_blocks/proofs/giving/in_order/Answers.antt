-- The classes come one after the other.
use Rattle.std.proofs.Common.{◌≡◌, ℕ, ◌<◌, Bool, List, [], ◌∷◌, ◌++◌, length, append-nil, append_assoc, Some, sym, ap, ◌∙◌, subst, arith}
use Rattle.std.proofs.lemmas.List.{length-map, map-append}
use Rattle.std.proofs.lemmas.Option.{slice_get-get_or}
use Rattle.ar_base.specs.Lists.{Stands, IsOneOf}
use Rattle.ar_base.proofs.Standing.{stands_none, stands_within, stands_map}
use Rattle.flow_blocks.specs.declared.dependences.Block.{Block}
use Rattle.flow_blocks.specs.Blocks.{Follow, all_given, next, IsGiven}
use Rattle.flow_blocks.specs.Table.{members_of}
use Rattle.flow_blocks.specs.Waits.{IsWaiting, WasGiven, AreGivenTogether, left_to_give}
use Rattle.flow_blocks.proofs.OrderLemmas.{next_class, taken_state, given_more}
use Rattle.flow_blocks.proofs.DescentLemmas.{all_given_now, gives_less}
use Rattle.flow_blocks.proofs.giving.in_order.Goals as goal

-- there are as many lists of members as blocks
as_many : (blocks : List Block) → length (members_of blocks) ≡ length blocks
as_many blocks = length-map blocks (λ (b : Block). b.members.items)

pub new-requires-clause-below : goal.new-requires-clause-below
new-requires-clause-below c = λ a b one. let h = c.requires.below a b one in (omega (arith, h.0, c.requires.table.long), omega (arith, h.1, c.requires.table.long))

pub new-requires-clause-classes : goal.new-requires-clause-classes
new-requires-clause-classes c = λ n d p.
    let found = c.requires.table.member_of_class n d p in
    let within = stands_within (members_of c.args.table.now.blocks.items) d found.0 found.1 in
    omega (arith, within, as_many c.args.table.now.blocks.items)

pub numbers_below-requires : goal.numbers_below-requires
numbers_below-requires c = omega (
  arith,
  c.len.ensures,
  c.args.table.now.blocks.ok.0,
  as_many
      c.args.table.now.blocks.items,
  c.requires.table.few,
  c.ranges.count,
)

pub examine_all-requires : goal.examine_all-requires
examine_all-requires c =
    let blocks = c.args.table.now.blocks in
    let number : c.len.result ≡ length blocks.items = c.len.ensures ∙ blocks.ok.0 in
    record {
      count = length blocks.items;
      uses = c.args.uses.now;
      class_of = c.args.table.now.class_of.items;
      waits = c.in_ok-waiting.ensures.waits c.deref.result.now
          (λ e lt. subst (λ (l : List ℕ). IsOneOf l e) (sym c.deref.ensures.value)
          (c.in_ok-all.ensures.all e (omega (arith, lt, number))))
          (λ e one. let low = c.in_ok-all.ensures.below e (subst (λ (l : List ℕ). IsOneOf l e) c.deref.ensures.value one) in omega (arith, low, number));
    }

pub loop-class-init : goal.loop-class-init
loop-class-init c =
    let blocks = c.args.table.now.blocks in
    let number : c.len.result ≡ length blocks.items = c.len.ensures ∙ blocks.ok.0 in
    let none : members_of c.new-ordered.result.items ≡ [] = ap members_of c.new-ordered.ensures.items in
    let not_given = λ (e : ℕ) (g : WasGiven c.examine_all.new.self.given.items e).
    c.in_ok-waiting.ensures.given e (subst (λ (l : List Bool). WasGiven l e) c.in_ok-examine_all.ensures.given g) in
    record {
      waits = subst (λ (n : ℕ). IsWaiting n c.args.uses.now c.args.table.now.class_of.items c.examine_all.new.self [])
          (sym (as_many blocks.items))
          (c.in_ok-examine_all.ensures.waits (length blocks.items) c.args.uses.now c.args.table.now.class_of.items
          (c.in_ok-waiting.ensures.waits c.deref.result.now
          (λ e lt. subst (λ (l : List ℕ). IsOneOf l e) (sym c.deref.ensures.value)
          (c.in_ok-all.ensures.all e (omega (arith, lt, number))))
          (λ e one. let low = c.in_ok-all.ensures.below e (subst (λ (l : List ℕ). IsOneOf l e) c.deref.ensures.value one) in omega (arith, low, number))));
      together = record {
        number = λ n e p g. absurd (not_given e g);
        class = λ n e p given. absurd (let there = subst (λ (l : List (List ℕ)). IsGiven l n) none given in stands_none there.is_one.place there.members there.is_one.stands);
      };
      follow = λ rest f.
          subst (λ (l : List (List ℕ)). Follow c.args.count c.args.uses.now [] (l ++ rest)) (sym none)
          (subst (λ (l : List (List ℕ)). Follow c.args.count c.args.uses.now l rest) none f);
    }

pub give-requires : goal.give-requires
give-requires c =
    let classes = members_of c.args.table.now.blocks.items in
    let state = taken_state c.args.count c.args.uses.now classes c.args.table.now.class_of.items c.requires.table
    c.requires.below c.loop-class.waiting (members_of c.loop-class.ordered.items)
    c.loop-class.invariant.waits c.loop-class.invariant.together c.in-Some.class c.take_least.new.ready
    c.in-Some.ensures.some c.in-Some.ensures.rest in (
      record {
        count = length classes;
        uses = c.args.uses.now;
        class_of = c.args.table.now.class_of.items;
        waits = state.0;
      },
      state.1,
    )

pub loop-class-smaller : goal.loop-class-smaller
loop-class-smaller c =
    let ready = c.loop-class.invariant.waits.ready c.in-Some.class c.in-Some.ensures.some in
    let less = gives_less c.loop-class.waiting.given.items c.in-Some.class
    (omega (arith, ready.0, c.loop-class.invariant.waits.long_given)) ready.1 in
    subst (λ (l : List Bool). left_to_give l < left_to_give c.loop-class.waiting.given.items)
    (sym c.in_ok-give.ensures.given) less

pub loop-class-preserved : goal.loop-class-preserved
loop-class-preserved c =
    let classes = members_of c.args.table.now.blocks.items in
    let class = c.in-Some.class in
    let lists = members_of c.loop-class.ordered.items in
    let waits = c.loop-class.invariant.waits in
    let ready = waits.ready class c.in-Some.ensures.some in
    let members = c.in_ok-members.members.items in
    let state = taken_state c.args.count c.args.uses.now classes c.args.table.now.class_of.items c.requires.table
    c.requires.below c.loop-class.waiting lists
    waits c.loop-class.invariant.together class c.take_least.new.ready c.in-Some.ensures.some c.in-Some.ensures.rest in
    let inside : class < length c.args.table.now.blocks.items =
    omega (arith, ready.0, as_many c.args.table.now.blocks.items) in
    let block : Stands c.args.table.now.blocks.items class c.index.result.now =
    slice_get-get_or c.args.table.now.blocks.items class c.index.result.now inside
    ∙ ap (λ (b : Block). Some b) (sym c.index.ensures) in
    let at : Stands classes class members =
    stands_map (λ (b : Block). b.members.items) c.args.table.now.blocks.items class c.index.result.now block
    ∙ ap (λ (l : List ℕ). Some l) (sym (c.in_ok-members.ensures.items ∙ c.deref-in-Some.ensures.value)) in
    let grown : members_of c.push.new.self.items ≡ lists ++ members ∷ [] =
    ap members_of c.in_ok-push.ensures.items
    ∙ map-append (λ (b : Block). b.members.items) c.loop-class.ordered.items _ in
    record {
      waits = c.in_ok-give.ensures.waits (length classes) c.args.uses.now c.args.table.now.class_of.items state.0
          state.1;
      together = subst (λ (l : List (List ℕ)). AreGivenTogether c.args.table.now.class_of.items
          c.give.new.self.given.items l) (sym grown)
          (given_more c.args.count c.args.uses.now classes c.args.table.now.class_of.items c.requires.table
          c.requires.below c.loop-class.waiting lists waits c.loop-class.invariant.together
          class members c.give.new.self.given.items at (omega (arith, ready.0, waits.long_given))
          c.in_ok-give.ensures.given);
      follow = λ rest f.
          subst (λ (l : List (List ℕ)). Follow c.args.count c.args.uses.now [] l)
          (sym (append_assoc lists (members ∷ []) rest) ∙ ap (λ (l : List (List ℕ)). l ++ rest) (sym grown))
          (c.loop-class.invariant.follow (members ∷ rest) (next
          (next_class c.args.count c.args.uses.now classes c.args.table.now.class_of.items c.requires.table
          c.requires.below c.loop-class.waiting lists waits c.loop-class.invariant.together
          class members at c.in-Some.ensures.some c.in-Some.ensures.least)
          (subst (λ (l : List (List ℕ)). Follow c.args.count c.args.uses.now l rest) grown f)));
    }

pub returns : goal.returns
returns c =
    let classes = members_of c.args.table.now.blocks.items in
    let lists = members_of c.loop-class.ordered.items in
    let done = all_given_now c.args.count c.args.uses.now classes c.args.table.now.class_of.items c.requires.table
    c.requires.below c.requires.reaches.0 c.requires.reaches.1 c.loop-class.waiting
    c.loop-class.invariant.waits (c.in_default.ensures.none) lists c.loop-class.invariant.together in
    subst (λ (l : List (List ℕ)). Follow c.args.count c.args.uses.now [] l) (append-nil lists)
    (c.loop-class.invariant.follow [] (all_given done))

pub index-requires : goal.index-requires
index-requires c =
    let ready = c.loop-class.invariant.waits.ready c.in-Some.class c.in-Some.ensures.some in
    omega (arith, ready.0, as_many c.args.table.now.blocks.items, c.args.table.now.blocks.ok.0)
