use Rattle.std.proofs.Common.{◌≡◌, ℕ, List, length, sym, subst, ◌∙◌, arith}
use Rattle.gts_core.specs.declared.system.GtsParts.{GtsParts}
use Rattle.gts_core.specs.Sound.{IsSound}
use Rattle.flow_propagate.specs.Plan.{AreReaders, AreGivers, IsPlan}
use Rattle.flow_propagate.proofs.ReaderPairs.{read_below, given_below}
use Rattle.flow_propagate.specs.declared.plan.Plan.{Plan}
use Rattle.flow_propagate.proofs.plan.make_plan.Goals as goal

-- a plan of a system is one of the same system
moved : {p q : GtsParts} {plan : Plan} → p ≡ q → IsPlan p plan → IsPlan q plan
moved {plan = plan} e is = subst (λ (z : GtsParts). IsPlan z plan) e is

pub readers-requires : goal.readers-requires
readers-requires c = subst IsSound (sym c.parts-parts.ensures.parts) c.parts-parts.ensures.sound

pub classes-requires-clause-sound : goal.classes-requires-clause-sound
classes-requires-clause-sound c = subst IsSound (sym c.parts-parts.ensures.parts) c.parts-parts.ensures.sound

pub classes-requires-clause-readers : goal.classes-requires-clause-readers
classes-requires-clause-readers c = subst (λ (z : List (ℕ × ℕ)). AreReaders c.parts-parts.result.now z)
    (sym c.deref.ensures.value) c.in_ok-pairs.ensures

pub in_runs-requires : goal.in_runs-requires
in_runs-requires c =
    let p = c.parts-parts.result.now in
    let sound = subst IsSound (sym c.parts-parts.ensures.parts) c.parts-parts.ensures.sound in
    let count : c.len-count.result ≡ length p.variables.items = c.len-count.ensures ∙ p.variables.ok.0 in
    let few = sound.short.variables in
    let are = subst (λ (z : List (ℕ × ℕ)). AreReaders p z) (sym c.deref-2.ensures.value) c.in_ok-pairs.ensures in
    record {
      ascending = are.ascending;
      below = λ q o. let h = read_below p sound c.deref-2.result.now are q o in omega (arith, h, count);
      few = omega (arith, few, count);
    }

pub givers-requires : goal.givers-requires
givers-requires c = subst IsSound (sym c.parts-parts.ensures.parts) c.parts-parts.ensures.sound

pub in_runs-requires-2 : goal.in_runs-requires-2
in_runs-requires-2 c =
    let p = c.parts-parts.result.now in
    let sound = subst IsSound (sym c.parts-parts.ensures.parts) c.parts-parts.ensures.sound in
    let count : c.len-count.result ≡ length p.variables.items = c.len-count.ensures ∙ p.variables.ok.0 in
    let few = sound.short.variables in
    let are = subst (λ (z : List (ℕ × ℕ)). AreGivers p z) (sym c.deref-3.ensures.value) c.in_ok-given.ensures in
    record {
      ascending = are.ascending;
      below = λ q o. let h = given_below p sound c.deref-3.result.now are q o in omega (arith, h, count);
      few = omega (arith, few, count);
    }

pub scheduled-requires : goal.scheduled-requires
scheduled-requires c = subst IsSound (sym c.parts-parts.ensures.parts) c.parts-parts.ensures.sound

pub returns : goal.returns
returns c =
    let p = c.parts-parts.result.now in
    moved c.parts-parts.ensures.parts (record {
      blocks = c.in_ok-blocks.ensures;
      readers = subst (λ (z : List (ℕ × ℕ)). AreReaders p z) (sym c.in_ok-readers.ensures)
          (subst (λ (z : List (ℕ × ℕ)). AreReaders p z) (sym c.deref-2.ensures.value) c.in_ok-pairs.ensures);
      givers = subst (λ (z : List (ℕ × ℕ)). AreGivers p z) (sym c.in_ok-givers.ensures)
          (subst (λ (z : List (ℕ × ℕ)). AreGivers p z) (sym c.deref-3.ensures.value) c.in_ok-given.ensures);
      schedule = c.in_ok-order.ensures;
    })
