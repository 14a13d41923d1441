-- The class watches another one, or may be given.
use Rattle.std.proofs.Common.{◌≡◌, ℕ, ◌<◌, ◌⊎◌, Bool, List, ◌∷◌, ◌++◌, [], length, refl, sym, ap, ◌∙◌, subst, arith}
use Rattle.std.proofs.lemmas.List.{length-set}
use Rattle.ar_base.specs.Lists.{IsOneOf}
use Rattle.ar_base.proofs.Standing.{one_first}
use Rattle.flow_blocks.specs.Bits.{row_of}
use Rattle.flow_blocks.specs.Waits.{WasGiven}
use Rattle.flow_blocks.proofs.RowLemmas.{Row, row_got}
use Rattle.flow_blocks.proofs.WaitLemmas.{trimmed_set, pushed_new, pushed_kept, pushed_split, watches_now, ready_now}
use Rattle.flow_blocks.proofs.giving.Waiting.examine.Goals as goal

pub index_mut-requires : goal.index_mut-requires
index_mut-requires c =
    let w = c.requires.1 in
    let lt = (w.waits.to_look_at c.args.class (one_first c.args.class c.requires.0)).0 in
    omega (arith, lt, w.waits.long_targets, c.args.self.now.targets.ok.0)

pub next_target-requires : goal.next_target-requires
next_target-requires c = λ d one.
    let w = c.requires.1 in
    let lt = (w.waits.to_look_at c.args.class (one_first c.args.class c.requires.0)).0 in
    let row : c.index_mut.result.now.items ≡ row_of c.args.self.now.targets.items c.args.class =
    ap (λ (r : Row). r.items) c.index_mut.ensures.value
    ∙ row_got c.args.self.now.targets.items c.args.class _ (omega (arith, lt, w.waits.long_targets)) in
    let low = w.waits.crossed c.args.class d
    (w.waits.targets c.args.class d (subst (λ (l : List ℕ). IsOneOf l d) row one)) in
    omega (arith, low, w.waits.long_given, ap length c.deref.ensures.value)

pub index_mut-requires-in-Some : goal.index_mut-requires-in-Some
index_mut-requires-in-Some c =
    let w = c.requires.1 in
    let lt = (w.waits.to_look_at c.args.class (one_first c.args.class c.requires.0)).0 in
    let row : c.index_mut.result.now.items ≡ row_of c.args.self.now.targets.items c.args.class =
    ap (λ (r : Row). r.items) c.index_mut.ensures.value
    ∙ row_got c.args.self.now.targets.items c.args.class _ (omega (arith, lt, w.waits.long_targets)) in
    let low = w.waits.crossed c.args.class c.in-Some.target
    (w.waits.targets c.args.class c.in-Some.target
    (subst (λ (l : List ℕ). IsOneOf l c.in-Some.target) row c.in-Some.ensures.some.0)) in
    omega (arith, low, w.waits.long_watchers, c.args.self.now.watchers.ok.0)

pub returns-in_ok-push-in-Some-clause-waits : goal.returns-in_ok-push-in-Some-clause-waits
returns-in_ok-push-in-Some-clause-waits c = λ count uses class_of pending waits.
    let lt = (waits.to_look_at c.args.class (one_first c.args.class pending)).0 in
    let inside : c.args.class < length c.args.self.now.targets.items = omega (arith, lt, waits.long_targets) in
    let row : c.index_mut.result.now.items ≡ row_of c.args.self.now.targets.items c.args.class =
    ap (λ (r : Row). r.items) c.index_mut.ensures.value
    ∙ row_got c.args.self.now.targets.items c.args.class _ inside in
    let some = c.in-Some.ensures.some in
    let is_target = subst (λ (l : List ℕ). IsOneOf l c.in-Some.target) row some.0 in
    let low = waits.crossed c.args.class c.in-Some.target (waits.targets c.args.class c.in-Some.target is_target) in
    let inside_w : c.in-Some.target < length c.args.self.now.watchers.items = omega (arith, low, waits.long_watchers) in
    let given = c.deref.ensures.value in
    let trimmed = trimmed_set c.args.self.now.targets.items c.args.class c.next_target.new.targets
    c.args.self.now.given.items inside
    (λ d one. subst (λ (l : List ℕ). IsOneOf l d) row (c.next_target.ensures.fewer d one))
    (λ d one. subst (λ (g : List Bool). (d ≡ c.args.class) ⊎ (WasGiven g d ⊎ IsOneOf c.next_target.new.targets.items d))
    given (c.next_target.ensures.kept d (subst (λ (l : List ℕ). IsOneOf l d) (sym row) one))) in
    let pushed : c.push.new.self.items ≡ row_of c.args.self.now.watchers.items c.in-Some.target ++ c.args.class ∷ [] =
    c.in_ok-push-in-Some.ensures.items
    ∙ ap (λ (l : List ℕ). l ++ c.args.class ∷ [])
    (ap (λ (r : Row). r.items) c.index_mut-in-Some.ensures.value
    ∙ row_got c.args.self.now.watchers.items c.in-Some.target _ inside_w) in
    watches_now count uses class_of c.args.self.now _ c.args.class pending waits refl trimmed c.in-Some.target is_target
    some.1
    (λ g. some.2 (subst (λ (l : List Bool). WasGiven l c.in-Some.target) (sym given) g)) refl
    (length-set c.args.self.now.watchers.items c.in-Some.target c.push.new.self)
    (pushed_split c.args.self.now.watchers.items c.in-Some.target c.args.class c.push.new.self inside_w pushed)
    (pushed_kept c.args.self.now.watchers.items c.in-Some.target c.args.class c.push.new.self inside_w pushed)
    (pushed_new c.args.self.now.watchers.items c.in-Some.target c.args.class c.push.new.self inside_w pushed)

pub returns-in_ok-add_ready-in-None-clause-waits : goal.returns-in_ok-add_ready-in-None-clause-waits
returns-in_ok-add_ready-in-None-clause-waits c = λ count uses class_of pending waits.
    let lt = (waits.to_look_at c.args.class (one_first c.args.class pending)).0 in
    let inside : c.args.class < length c.args.self.now.targets.items = omega (arith, lt, waits.long_targets) in
    let row : c.index_mut.result.now.items ≡ row_of c.args.self.now.targets.items c.args.class =
    ap (λ (r : Row). r.items) c.index_mut.ensures.value
    ∙ row_got c.args.self.now.targets.items c.args.class _ inside in
    let given = c.deref.ensures.value in
    let trimmed = trimmed_set c.args.self.now.targets.items c.args.class c.next_target.new.targets
    c.args.self.now.given.items inside
    (λ d one. subst (λ (l : List ℕ). IsOneOf l d) row (c.next_target.ensures.fewer d one))
    (λ d one. subst (λ (g : List Bool). (d ≡ c.args.class) ⊎ (WasGiven g d ⊎ IsOneOf c.next_target.new.targets.items d))
    given (c.next_target.ensures.kept d (subst (λ (l : List ℕ). IsOneOf l d) (sym row) one))) in
    let none = λ (d : ℕ) (one : IsOneOf (row_of c.args.self.now.targets.items c.args.class) d).
    subst (λ (g : List Bool). (d ≡ c.args.class) ⊎ WasGiven g d) given
    (c.in-None.ensures.none d (subst (λ (l : List ℕ). IsOneOf l d) (sym row) one)) in
    ready_now count uses class_of c.args.self.now _ c.args.class pending waits refl trimmed none
    c.in_ok-add_ready-in-None.ensures refl
