-- Where the words of a target lead, word by word.
use Rattle.std.proofs.Common.{◌≡◌, ◌==◌, ◌≤◌, ◌↔◌, ◌⊎◌, inl, inr, ℕ, Bool, true, false, IsTrue, List, [], ◌∷◌, map, length, Option, Some, None, option_map, option_and_then, refl, sym, ◌∙◌, ap, subst, arith, ne_eqb}
use Rattle.ar_base.specs.Lists.{Stands}
use Rattle.ar_base.specs.Numbers.{NameId}
use Rattle.ar_base.proofs.Standing.{stands_one, stands_within, one_here, along_on, along_length}
use Rattle.ar_syntax.specs.declared.members.Setting.{Setting}
use Rattle.ar_syntax.specs.declared.members.Word.{Word}
use Rattle.ar_syntax.specs.declared.members.Word.TheVariants as word
use Rattle.class_table.specs.Members.{NamedMember, MemberKind, Inner, Clone, Alias, Variable, Parameter, Kept, Event, Observer}
use Rattle.hierarchy.specs.Models.{RootedModel}
use Rattle.hierarchy.specs.Units.{UnitPath, body_of, names_at, name_at, kind_at}
use Rattle.hierarchy.specs.Walks.{thing, PassesTest, is_parameter, Reaches, WalkOutcome, NameLeads}
use Rattle.hierarchy.specs.WalksInside.{LeadsFrom}
use Rattle.hierarchy.specs.Listing.{is_inner}
use Rattle.hierarchy.specs.Settings.{TargetWord, Named, Init, Reset, target_word_of, is_init, is_reset, is_state, is_flow, is_state_variable, is_flow_variable}
use Rattle.hierarchy.specs.Tie.{AreOutlines}
use Rattle.hierarchy.specs.declared.outline.Outline.{Outline}
use Rattle.class_table.specs.declared.tables.Classes.{Classes}
use Rattle.hierarchy.proofs.Apart.{named_back}
use Rattle.hierarchy.proofs.Outcomes.{leads_same}
use Rattle.hierarchy.proofs.TargetWords.{one_init, one_reset, no_state}
use Rattle.unit_rules.specs.Rules.{IsSettingTarget, parameter, init, reset, inside}
use Rattle.unit_rules.specs.declared.settables.Settable.{Settable}
use Rattle.unit_rules.specs.declared.settables.Settable.TheVariants as settable
use Rattle.unit_rules.specs.declared.settables.Settables.{Settables}
use Rattle.unit_rules.specs.Settables.{state_or_flow, variable_set, settable_of, kept_at, AreSettables}

-- Kinds

of_flow : (settings : List Setting) → is_flow settings ≡ true → variable_set settings ≡ Some settable.Flow
of_flow settings e = ap (λ (b : Bool). state_or_flow b (is_flow settings)) (no_state settings e)
    ∙ ap (state_or_flow false) e

kind_parameter : (k : MemberKind) → is_parameter k ≡ true → settable_of k ≡ Some settable.Parameter
kind_parameter (Parameter t e) h = refl
kind_parameter Kept h = refl
kind_parameter (Inner b from) h = cc
kind_parameter (Clone p) h = cc
kind_parameter (Alias p) h = cc
kind_parameter (Variable d settings) h = cc
kind_parameter Event h = cc
kind_parameter (Observer t e) h = cc

kind_state : (k : MemberKind) → is_state_variable k ≡ true → settable_of k ≡ Some settable.State
kind_state (Variable d settings) h = ap (λ (b : Bool). state_or_flow b (is_flow settings)) h
kind_state (Parameter t e) h = cc
kind_state Kept h = cc
kind_state (Inner b from) h = cc
kind_state (Clone p) h = cc
kind_state (Alias p) h = cc
kind_state Event h = cc
kind_state (Observer t e) h = cc

kind_flow : (k : MemberKind) → is_flow_variable k ≡ true → settable_of k ≡ Some settable.Flow
kind_flow (Variable d settings) h = of_flow settings h
kind_flow (Parameter t e) h = cc
kind_flow Kept h = cc
kind_flow (Inner b from) h = cc
kind_flow (Clone p) h = cc
kind_flow (Alias p) h = cc
kind_flow Event h = cc
kind_flow (Observer t e) h = cc

kind_inner : (k : MemberKind) → is_inner k ≡ true → settable_of k ≡ Some settable.Inner
kind_inner (Inner b from) h = refl
kind_inner (Clone p) h = refl
kind_inner (Parameter t e) h = cc
kind_inner Kept h = cc
kind_inner (Alias p) h = cc
kind_inner (Variable d settings) h = cc
kind_inner Event h = cc
kind_inner (Observer t e) h = cc

-- the other way round
settable_variable : (r : Settable) (a b : Bool) → state_or_flow a b ≡ Some r
    → ((a ≡ true) × (r ≡ settable.State)) ⊎ ((b ≡ true) × (r ≡ settable.Flow))
settable_variable r true b e = inl (refl, cc)
settable_variable r false true e = inr (refl, cc)
settable_variable r false false e = cc

abbrev IsKindOf : Settable → MemberKind → Type 0
IsKindOf settable.Inner k = is_inner k ≡ true
IsKindOf settable.Parameter k = is_parameter k ≡ true
IsKindOf settable.State k = is_state_variable k ≡ true
IsKindOf settable.Flow k = is_flow_variable k ≡ true

kind_back : (k : MemberKind) (r : Settable) → settable_of k ≡ Some r → IsKindOf r k
kind_back (Inner b from) r e = subst (λ (s : Settable). IsKindOf s (Inner b from)) (let f : settable.Inner ≡ r = cc in f) refl
kind_back (Clone p) r e = subst (λ (s : Settable). IsKindOf s (Clone p)) (let f : settable.Inner ≡ r = cc in f) refl
kind_back (Parameter t v) r e = subst (λ (s : Settable). IsKindOf s (Parameter t v)) (let f : settable.Parameter ≡ r = cc in f) refl
kind_back Kept r e = subst (λ (s : Settable). IsKindOf s Kept) (let f : settable.Parameter ≡ r = cc in f) refl
kind_back (Alias p) r e = cc
kind_back Event r e = cc
kind_back (Observer t v) r e = cc
kind_back (Variable d settings) r e = elim (settable_variable r (is_state settings) (is_flow settings) e) [
  | inl h ↦ subst (λ (s : Settable). IsKindOf s (Variable d settings)) (sym h.1) h.0
  | inr h ↦ subst (λ (s : Settable). IsKindOf s (Variable d settings)) (sym h.1) h.0
]

-- Words

-- what the name x is in the unit u, as it may be set
abbrev pub found_at : RootedModel → UnitPath → ℕ → Option Settable
found_at m u x = option_and_then settable_of (kind_at m u x)

-- a target that begins with a name: what the name is, and what follows
data Begins (m : RootedModel) (u : UnitPath) (x : ℕ) : Option Settable → List TargetWord → Type 0 where
  at_parameter : Begins m u x (Some settable.Parameter) []
  at_state : Begins m u x (Some settable.State) (Init ∷ [])
  at_flow : Begins m u x (Some settable.Flow) (Reset ∷ [])
  into_unit : {v : UnitPath} {ws : List TargetWord} → LeadsFrom m u x (Reaches v) → IsSettingTarget m v ws
      → Begins m u x (Some settable.Inner) ws

module _ (m : RootedModel) (u : UnitPath) where
  pub no_words : IsSettingTarget m u [] → ⊥
  no_words t = elim t [ ]

  pub no_init : (ws : List TargetWord) → IsSettingTarget m u (Init ∷ ws) → ⊥
  no_init ws t = elim t [ ]

  pub no_reset : (ws : List TargetWord) → IsSettingTarget m u (Reset ∷ ws) → ⊥
  no_reset ws t = elim t [ ]

  begins : {x : ℕ} {ws : List TargetWord} → IsSettingTarget m u (Named x ∷ ws) → Begins m u x (found_at m u x) ws
  begins {x = x} (parameter h) = subst (λ (o : Option Settable). Begins m u x o [])
      (sym (ap (option_and_then settable_of) h.is ∙ kind_parameter h.kind h.passes)) at_parameter
  begins {x = x} (init h) = subst (λ (o : Option Settable). Begins m u x o (Init ∷ []))
      (sym (ap (option_and_then settable_of) h.is ∙ kind_state h.kind h.passes)) at_state
  begins {x = x} (reset h) = subst (λ (o : Option Settable). Begins m u x o (Reset ∷ []))
      (sym (ap (option_and_then settable_of) h.is ∙ kind_flow h.kind h.passes)) at_flow
  begins {x = x} {ws = ws} (inside {v = v} g e k t) =
      let named = named_back (names_at m u) x g e in
      let kind : kind_at m u x ≡ Some g.kind = ap (option_map (λ (h : NamedMember). h.kind)) e in
      subst (λ (o : Option Settable). Begins m u x o ws)
      (sym (ap (option_and_then settable_of) kind ∙ kind_inner g.kind k.inner))
      (into_unit (subst (λ (w : Option MemberKind). NameLeads m [] u x w (Reaches v)) (sym kind)
      (subst (λ (y : ℕ). NameLeads m [] u y (Some g.kind) (Reaches v)) named.1 k.leads)) t)

  only_parameter : {x : ℕ} {ws : List TargetWord} → Begins m u x (Some settable.Parameter) ws → ws ≡ []
  only_parameter at_parameter = refl

  only_state : {x : ℕ} {ws : List TargetWord} → Begins m u x (Some settable.State) ws → is_init ws ≡ true
  only_state at_state = refl

  only_flow : {x : ℕ} {ws : List TargetWord} → Begins m u x (Some settable.Flow) ws → is_reset ws ≡ true
  only_flow at_flow = refl

  module _ (x : ℕ) where
    -- what gives the name, where it may be set or gone into
    given : (r : Settable) → found_at m u x ≡ Some r
        → (g : NamedMember) × (name_at m u x ≡ Some g) × (settable_of g.kind ≡ Some r)
    given r e = go (name_at m u x) refl e
      where
        go : (n : Option NamedMember) → name_at m u x ≡ n
            → option_and_then settable_of (option_map (λ (g : NamedMember). g.kind) n) ≡ Some r
            → (g : NamedMember) × (name_at m u x ≡ Some g) × (settable_of g.kind ≡ Some r)
        go None f h = cc
        go (Some g) f h = (g, f, h)

    has : (r : Settable) → found_at m u x ≡ Some r → (test : MemberKind → Bool)
        → ((k : MemberKind) → IsKindOf r k → test k ≡ true) → PassesTest m test (thing u x)
    has r e test f = let w = given r e in record { kind = w.0.kind; is = ap (option_map (λ (h : NamedMember). h.kind)) w.1; passes = f w.0.kind (kind_back w.0.kind r w.2) }

    module _ (ws : List TargetWord) where
      as_found : (o : Option Settable) → found_at m u x ≡ o → IsSettingTarget m u (Named x ∷ ws) → Begins m u x o ws
      as_found o e t = subst (λ (z : Option Settable). Begins m u x z ws) e (begins t)

      -- nothing may be set by the name
      pub none_named : found_at m u x ≡ None → IsSettingTarget m u (Named x ∷ ws) → ⊥
      none_named e t = elim (as_found None e t) [ ]

      -- a parameter is set by its name alone
      pub parameter_named : found_at m u x ≡ Some settable.Parameter → (ws ≡ []) ↔ IsSettingTarget m u (Named x ∷ ws)
      parameter_named e = (
        (λ q. subst (λ (vs : List TargetWord). IsSettingTarget m u (Named x ∷ vs)) (sym q)
            (parameter (has settable.Parameter e is_parameter (λ k h. h)))),
        λ t. only_parameter (as_found _ e t),
      )

      pub state_named : found_at m u x ≡ Some settable.State → (is_init ws ≡ true) ↔ IsSettingTarget m u (Named x ∷ ws)
      state_named e = (
        (λ q. subst (λ (vs : List TargetWord). IsSettingTarget m u (Named x ∷ vs)) (sym (one_init ws q))
            (init (has settable.State e is_state_variable (λ k h. h)))),
        λ t. only_state (as_found _ e t),
      )

      pub flow_named : found_at m u x ≡ Some settable.Flow → (is_reset ws ≡ true) ↔ IsSettingTarget m u (Named x ∷ ws)
      flow_named e = (
        (λ q. subst (λ (vs : List TargetWord). IsSettingTarget m u (Named x ∷ vs)) (sym (one_reset ws q))
            (reset (has settable.Flow e is_flow_variable (λ k h. h)))),
        λ t. only_flow (as_found _ e t),
      )

      -- a unit is gone into
      pub inner_named : found_at m u x ≡ Some settable.Inner → (v : UnitPath) → LeadsFrom m u x (Reaches v)
          → IsSettingTarget m v ws ↔ IsSettingTarget m u (Named x ∷ ws)
      inner_named e v l = (go_in, λ t. come_out (as_found _ e t))
        where
          go_in : IsSettingTarget m v ws → IsSettingTarget m u (Named x ∷ ws)
          go_in t =
              let w = given settable.Inner e in
              let named = named_back (names_at m u) x w.0 w.1 in
              let kind : kind_at m u x ≡ Some w.0.kind = ap (option_map (λ (h : NamedMember). h.kind)) w.1 in
              inside w.0 w.1 (record {
                inner = kind_back w.0.kind settable.Inner w.2;
                leads = subst (λ (y : ℕ). NameLeads m [] u y (Some w.0.kind) (Reaches v)) (sym named.1)
                    (subst (λ (k : Option MemberKind). NameLeads m [] u x k (Reaches v)) kind l);
              }) t

          come_out : Begins m u x (Some settable.Inner) ws → IsSettingTarget m v ws
          come_out (into_unit {v = y} k t) = subst (λ (z : UnitPath). IsSettingTarget m z ws) (let q : Reaches y ≡ Reaches v = leads_same k l in let f : y ≡ v = cc in f) t

      -- a name that leads to no unit is not gone into
      pub not_inner : found_at m u x ≡ Some settable.Inner → (o : WalkOutcome) → LeadsFrom m u x o
          → ((v : UnitPath) → o ≡ Reaches v → ⊥) → IsSettingTarget m u (Named x ∷ ws) → ⊥
      not_inner e o l n t = go (as_found _ e t)
        where
          go : Begins m u x (Some settable.Inner) ws → ⊥
          go (into_unit {v = v} k h) = n v (leads_same l k)

-- What is looked up

-- the words of a target that begins with a name
pub named_words : (ws rest : List Word) (w : Word) (x : NameId) → ws ≡ w ∷ rest → w ≡ word.Name x
    → map target_word_of ws ≡ Named x.n ∷ map target_word_of rest
named_words ws rest w x e f = ap (map target_word_of) e ∙ ap (λ (v : Word). target_word_of v ∷ map target_word_of rest)
    f

-- a target that begins with another word
pub other_word : (m : RootedModel) (u : UnitPath) (w : Word) (ws : List TargetWord)
    → ((x : NameId) → w ≡ word.Name x → ⊥) → IsSettingTarget m u (target_word_of w ∷ ws) → ⊥
other_word m u (word.Name x) ws n t = n x refl
other_word m u word.Init ws n t = no_init m u ws t
other_word m u word.Reset ws n t = no_reset m u ws t

module _ (m : RootedModel) (units : List UnitPath) (classes : Classes) (outlines : List Outline)
    (h : AreOutlines m units classes outlines) (n : ℕ) (u : UnitPath) (there : Stands units n u) where
  -- the outline is that of the unit
  pub body_here : (o : Outline) → Stands outlines n o → o.body.n ≡ body_of m u
  body_here o s =
      let w = along_on units outlines h.along n u there in
      ap (λ (z : Outline). z.body.n) (stands_one outlines n o w.0 s w.1) ∙ w.2.body

  pub found_here : (t : Settables) → AreSettables m units t → (o : Outline) → Stands outlines n o
      → (x : ℕ) (r : Option Settable) → r ≡ kept_at t o.body.n x → found_at m u x ≡ r
  found_here t k o s x r e = sym (e ∙ (ap (λ (b : ℕ). kept_at t b x) (body_here o s)
      ∙ k.each u x (one_here units n u there)))

  -- there is an outline
  pub outline_there : length outlines ≤ n → ⊥
  outline_there l = let a = along_length units outlines h.along in let b = stands_within units n u there in omega arith

-- What is told

pub never : (m : RootedModel) (u : UnitPath) (ws vs : List TargetWord) → ws ≡ vs → (IsSettingTarget m u vs → ⊥)
    → IsTrue false ↔ IsSettingTarget m u ws
never m u ws vs e n = (λ f. absurd cc, λ t. absurd (n (subst (IsSettingTarget m u) e t)))

pub told_by : (m : RootedModel) (u v : UnitPath) (r : Bool) (ws vs xs : List TargetWord) → ws ≡ vs
    → IsSettingTarget m v xs ↔ IsSettingTarget m u vs → IsTrue r ↔ IsSettingTarget m v xs
    → IsTrue r ↔ IsSettingTarget m u ws
told_by m u v r ws vs xs e f g = subst (λ (zs : List TargetWord). IsTrue r ↔ IsSettingTarget m u zs) (sym e)
    (λ h. f.0 (g.0 h), λ t. g.1 (f.1 t))

pub told_so : (m : RootedModel) (u : UnitPath) (r b : Bool) (ws vs : List TargetWord) → ws ≡ vs
    → (b ≡ true) ↔ IsSettingTarget m u vs → r ≡ b → IsTrue r ↔ IsSettingTarget m u ws
told_so m u r b ws vs e f g = subst (λ (zs : List TargetWord). IsTrue r ↔ IsSettingTarget m u zs) (sym e)
    (λ h. f.0 (sym g ∙ h), λ t. g ∙ f.1 t)

-- no words, by their number
pub no_length : (m : RootedModel) (u : UnitPath) (ws : List Word) → length ws ≡ 0
    → IsSettingTarget m u (map target_word_of ws) → ⊥
no_length m u [] e t = no_words m u t
no_length m u (w ∷ ws) e t = omega (arith, e)

pub told_empty : (m : RootedModel) (u : UnitPath) (r : Bool) (ws : List TargetWord) (vs : List TargetWord)
    (rest : List Word) → ws ≡ vs → (map target_word_of rest ≡ []) ↔ IsSettingTarget m u vs → r ≡ (length rest == 0)
    → IsTrue r ↔ IsSettingTarget m u ws
told_empty m u r ws vs [] e f g = told_so m u r true ws vs e (λ _. f.0 refl, λ _. refl) g
told_empty m u r ws vs (w ∷ rest) e f g = told_so m u r false ws vs e (λ h. absurd cc, λ t. absurd (let h = f.1 t in cc)) (g ∙ ne_eqb (length (w ∷ rest)) 0 (λ q. omega (arith, q)))
