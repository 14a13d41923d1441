-- Declarations that are wrong.
use Rattle.std.proofs.Common.{◌≡◌, true, false, List, [], ◌∷◌, Vec, Global, Some, None, refl, sym, ◌∙◌, ap, subst, inl, inr, length, ◌≤◌, arith}
use Rattle.ar_base.specs.Lists.{Stands}
use Rattle.ar_base.specs.Numbers.{NameId}
use Rattle.ar_base.specs.declared.places.Place.{Place}
use Rattle.ar_base.proofs.Standing.{one_cases, one_none, one_first, stands_one, stands_none}
use Rattle.ar_base.proofs.Comparing.{not_before}
use Rattle.ar_syntax.specs.declared.members.Member.TheOpen as member
use Rattle.ar_syntax.specs.declared.members.Member.{Member, Declare, out-Member}
use Rattle.class_table.specs.declared.tables.Owned.TheVariants.{Plain}
use Rattle.hierarchy.specs.Listing.{form_of}
use Rattle.ar_syntax.specs.declared.members.Setting.{Setting}
use Rattle.ar_syntax.specs.declared.members.TypeName.{TypeName}
use Rattle.class_table.specs.Declaring.{MemberForm, Declared}
use Rattle.class_table.specs.Earliest.{IsEarliest, nowhere, there}
use Rattle.hierarchy.specs.Settings.{is_state, is_flow}
use Rattle.unit_rules.specs.Typing.{bounds_variables}
use Rattle.unit_rules.specs.Rules.{BreaksForm, declares}
use Rattle.unit_rules.specs.Searched.{BreaksOne}

module _ (d : Declared) where
  -- no form is wrong where there is none
  pub none_wrong : IsEarliest (BreaksOne d []) None
  none_wrong = nowhere (λ p b. one_none b.form b.is_one)

  -- a form is wrong nowhere, or at this place alone
  pub form_right : (f : MemberForm) → ((p : Place) → BreaksForm d f p → ⊥) → IsEarliest (BreaksOne d (f ∷ [])) None
  form_right f n = nowhere (λ p b. elim (one_cases f [] b.form b.is_one)
      [ inl e ↦ n p (subst (λ (g : MemberForm). BreaksForm d g p) (sym e) b.breaks) | inr h ↦ one_none b.form h ])

  pub form_wrong : (f : MemberForm) (p : Place) → BreaksForm d f p → ((q : Place) → BreaksForm d f q → q ≡ p)
      → IsEarliest (BreaksOne d (f ∷ [])) (Some p)
  form_wrong f p h one = there (record { form = f; is_one = one_first f []; breaks = h })
      (λ q e b. elim (one_cases f [] b.form b.is_one) [
        | inl i ↦ not_before q p e (one q (subst (λ (g : MemberForm). BreaksForm d g q) (sym i) b.breaks))
        | inr j ↦ one_none b.form j
      ])

  module _ (t : TypeName) (names : Vec (NameId × Place) Global) (settings : Vec Setting Global) where
    -- a declaration that is right, by each of its parts
    pub no_domain : bounds_variables d t.form ≡ false → (p : Place) → BreaksForm d (member.Declare t names settings) p
        → ⊥
    no_domain e p (declares x more b s f n) = cc

    pub a_state : is_state settings.items ≡ true → (p : Place) → BreaksForm d (member.Declare t names settings) p → ⊥
    a_state e p (declares x more b s f n) = cc

    pub a_flow : is_flow settings.items ≡ true → (p : Place) → BreaksForm d (member.Declare t names settings) p → ⊥
    a_flow e p (declares x more b s f n) = cc

    pub no_names : names.items ≡ [] → (p : Place) → BreaksForm d (member.Declare t names settings) p → ⊥
    no_names e p (declares x more b s f n) = cc

    -- it is wrong at one place
    pub one_place : (z : NameId × Place) (rest : List (NameId × Place)) → names.items ≡ z ∷ rest → (q : Place)
        → BreaksForm d (member.Declare t names settings) q → q ≡ z.1
    one_place z rest e q (declares x more b s f n) = let i : (x, q) ∷ more ≡ z ∷ rest = sym n ∙ e in let j : (x, q) ≡ z = cc in ap (λ (w : NameId × Place). w.1) j

  -- no other form is wrong
  pub other_right : (f : MemberForm) → ((t : TypeName) (names : Vec (NameId × Place) Global)
      (settings : Vec Setting Global) → f ≡ member.Declare t names settings → ⊥)
      → (p : Place) → BreaksForm d f p → ⊥
  other_right f n p (declares {type = t} {names = names} {settings = settings} x more b s g e) = n t names settings refl

-- a list in which something stands first
pub first_of : {A : Type 0} (xs : List A) (a : A) → Stands xs 0 a → (rest : List A) × (xs ≡ a ∷ rest)
first_of [] a s = absurd (stands_none 0 a s)
first_of {A = A} (x ∷ xs) a s = (xs, ap (λ (y : A). y ∷ xs) (stands_one (x ∷ xs) 0 x a refl s))

pub none_first : {A : Type 0} (xs : List A) → length xs ≤ 0 → xs ≡ []
none_first [] l = refl
none_first (x ∷ xs) l = absurd (omega arith)

-- a member that is no declaration
pub default_right : (d : Declared) (m : Member)
    → ((t : TypeName) (names : Vec (NameId × Place) Global) (settings : Vec Setting Global)
    → m ≡ Declare t names settings → ⊥)
    → IsEarliest (BreaksOne d (form_of (Some (Plain m)))) None
unfolding out-Member denote.Hole.Carrier.out
default_right d (Declare t names settings) n = absurd (n t names settings refl)
default_right d m n = form_right d (out-Member m) (λ p b. elim b [ ])
