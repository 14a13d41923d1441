-- The words of settings, by what they set.
use Rattle.std.proofs.Common.{◌≡◌, true, false, List, [], ◌∷◌, refl}
use Rattle.ar_syntax.specs.declared.members.Setting.{Setting}
use Rattle.hierarchy.specs.Settings.{TargetWord, Named, Init, Reset, target_of, is_init, is_reset, is_state, is_flow}

-- the one word init
pub one_init : (ws : List TargetWord) → is_init ws ≡ true → ws ≡ Init ∷ []
one_init [] e = cc
one_init (Init ∷ []) e = refl
one_init (Named x ∷ ws) e = cc
one_init (Reset ∷ ws) e = cc
one_init (Init ∷ (w ∷ ws)) e = cc

-- the one word reset
pub one_reset : (ws : List TargetWord) → is_reset ws ≡ true → ws ≡ Reset ∷ []
one_reset [] e = cc
one_reset (Reset ∷ []) e = refl
one_reset (Named x ∷ ws) e = cc
one_reset (Init ∷ ws) e = cc
one_reset (Reset ∷ (w ∷ ws)) e = cc

-- a flow is no state variable
pub no_init : (words : List TargetWord) → is_reset words ≡ true → is_init words ≡ false
no_init [] e = refl
no_init (Named x ∷ words) e = refl
no_init (Init ∷ []) e = cc
no_init (Init ∷ w ∷ words) e = refl
no_init (Reset ∷ words) e = refl

-- the same of the settings of a flow
pub no_state : (settings : List Setting) → is_flow settings ≡ true → is_state settings ≡ false
no_state [] e = refl
no_state (s ∷ []) e = no_init (target_of s) e
no_state (s ∷ r ∷ settings) e = refl
