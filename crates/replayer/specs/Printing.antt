-- The texts of a replay as they are written: the lines of values, of changes and of what can fire, by the parts of a
-- flat system.
use Rattle.std.specs.Prelude.{ℕ, ◌+◌, if◌then◌else◌, List, [], ◌∷◌, ◌++◌, map, codes, slice_get, Option, Some, None, false}
use Rattle.ar_base.specs.Numbers.{WayId}
use Rattle.ar_base.specs.Texts.{line}
use Rattle.domains.specs.declared.Value.{Value}
use Rattle.domains.specs.declared.Value.TheVariants.{Truth}
use Rattle.domains.specs.Same.{is_same}
use Rattle.ar_meaning.specs.TraceText.{variable_line, observer_line, all_lines}
use Rattle.gts_core.specs.Readings.{value_in}
use Rattle.gts_core.specs.declared.system.GtsParts.{GtsParts}
use Rattle.gts_core.specs.declared.system.Observer.{Observer}
use Rattle.gts_flatten.specs.Flat.{naming_of_parts}
use Rattle.text_pieces.specs.WayLabels.{way_label}

-- the value of each of these observers under a valuation
abbrev pub seen_by : List Observer → List Value → List Value
seen_by observers t = map (λ (o : Observer). value_in t o.value) observers

-- the values of the observers
abbrev pub seen_in : GtsParts → List Value → List Value
seen_in p t = seen_by p.observers.items t

-- the lines of all variables and observers
abbrev pub values_text : GtsParts → List Value → List ℕ
values_text p t = all_lines (naming_of_parts p) t (seen_in p t)

-- the value of an observer that was looked up, false where there is none
abbrev pub observed_value : Option Observer → List Value → Value
observed_value (Some o) t = value_in t o.value
observed_value None t = Truth false

-- the value of the observer of this number
abbrev pub observer_value : GtsParts → List Value → ℕ → Value
observer_value p t n = observed_value (slice_get p.observers.items n) t

-- the texts of these numbers
abbrev pub numbered_texts : (ℕ → List ℕ) → List ℕ → List ℕ
numbered_texts text [] = []
numbered_texts text (n ∷ ns) = text n ++ numbered_texts text ns

-- the line of the new value, where it differs from the old one
abbrev pub change_text : (ℕ → Value → List ℕ) → ℕ → Value → Value → List ℕ
change_text one n v w = if is_same v w then [] else one n w

-- the lines of those new values that differ from the old ones, numbered from n on
abbrev pub changes_from : (ℕ → Value → List ℕ) → ℕ → List Value → List Value → List ℕ
changes_from one n [] ws = []
changes_from one n (v ∷ vs) [] = []
changes_from one n (v ∷ vs) (w ∷ ws) = change_text one n v w ++ changes_from one (n + 1) vs ws

-- the lines of those of these observers, numbered from n on, whose value changed
abbrev pub observer_changes : GtsParts → List Value → List Value → ℕ → List Observer → List ℕ
observer_changes p old new n [] = []
observer_changes p old new n (o ∷ os) =
    change_text (observer_line (naming_of_parts p)) n (value_in old o.value) (value_in new o.value)
    ++ observer_changes p old new (n + 1) os

-- the lines of these observers, numbered from n on
abbrev pub observer_lines : GtsParts → List Value → ℕ → List Observer → List ℕ
observer_lines p t n [] = []
observer_lines p t n (o ∷ os) = observer_line (naming_of_parts p) n (value_in t o.value) ++ observer_lines p t (n + 1)
    os

-- the lines of the variables and observers that changed
abbrev pub changes_text : GtsParts → List Value → List Value → List ℕ
changes_text p old new =
    changes_from (variable_line (naming_of_parts p)) 0 old new ++ observer_changes p old new 0 p.observers.items

-- the lines of these ways
abbrev pub way_lines : GtsParts → List WayId → List ℕ
way_lines p [] = []
way_lines p (w ∷ ws) = line (codes "  " ++ way_label p w.n) ++ way_lines p ws
