-- The effects of one more assignment and of one more way.
use Rattle.std.proofs.Common.{◌≡◌, cond, List, [], ◌∷◌, ◌++◌, slice_get, sym, ap, ◌∙◌, append_assoc}
use Rattle.std.specs.List.{list_all}
use Rattle.std.proofs.lemmas.List.{append-nil}
use Rattle.ar_base.specs.Numbers.{WayId}
use Rattle.domains.specs.declared.Value.{Value}
use Rattle.gts_core.specs.declared.system.Assign.{Assign}
use Rattle.gts_core.specs.declared.system.Way.{Way}
use Rattle.gts_core.specs.Readings.{is_met}
use Rattle.way_flags.specs.Effects.{effect_of, action_effects, found_effects, taken_effects}
use Rattle.way_flags.specs.declared.effects.Effect.{Effect}

-- the effect of one assignment, where it is reached
abbrev pub one_effect : List Value → Assign → List Effect
one_effect t a = cond (list_all (is_met t) a.when.items) (effect_of t a ∷ []) []

pub action_more : (t : List Value) (more : List Assign) (a : Assign)
    → action_effects t (more ++ a ∷ []) ≡ action_effects t more ++ one_effect t a
action_more t [] a = append-nil (one_effect t a)
action_more t (b ∷ more) a = ap (λ (z : List Effect). one_effect t b ++ z) (action_more t more a)
    ∙ sym (append_assoc (one_effect t b) (action_effects t more) (one_effect t a))

pub taken_more : (t : List Value) (ways : List Way) (more : List WayId) (a : WayId)
    → taken_effects t ways (more ++ a ∷ []) ≡ taken_effects t ways more ++ found_effects t (slice_get ways a.n)
taken_more t ways [] a = append-nil (found_effects t (slice_get ways a.n))
taken_more t ways (b ∷ more) a =
    ap (λ (z : List Effect). found_effects t (slice_get ways b.n) ++ z) (taken_more t ways more a)
    ∙ sym (append_assoc (found_effects t (slice_get ways b.n)) (taken_effects t ways more)
    (found_effects t (slice_get ways a.n)))
