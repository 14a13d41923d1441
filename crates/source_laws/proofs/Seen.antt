-- Models that agree are seen alike from their main blocks.
use Rattle.std.proofs.Common.{◌≡◌, ℕ, zero, suc, List, [], ◌∷◌, Option, length, refl, sym, ap, subst, ◌∙◌, arith}
use Rattle.ar_base.specs.Lists.{Stands, IsOneOf}
use Rattle.ar_base.specs.Numbers.{NameId}
use Rattle.ar_base.proofs.Standing.{along_on, along_length}
use Rattle.parser_laws.specs.Members.{SameMember}
use Rattle.parser_laws.specs.Models.{SameModel}
use Rattle.parser_laws.specs.Opened.{SameKind}
use Rattle.ar_syntax.specs.declared.items.Model.{Model}
use Rattle.ar_syntax.specs.declared.members.Member.{Member, out-Member}
use Rattle.class_table.specs.Declaring.{Declared, IsDeclared}
use Rattle.class_table.specs.Members.{Site, Members}
use Rattle.class_table.specs.Tables.{IsMain, named, last}
use Rattle.hierarchy.specs.Models.{RootedModel, IsRootedIn}
use Rattle.source_laws.specs.Tables.{SameTable, AreSeenAlike}
use Rattle.source_laws.proofs.Inherited.{members_same}
use Rattle.source_laws.proofs.Items.{table_there}

-- lists of one length with the same items are one
same_lists : {A : Type 0} (xs ys : List A) → length xs ≡ length ys
    → ((k : ℕ) (a c : A) → Stands xs k a → Stands ys k c → a ≡ c) → xs ≡ ys
same_lists [] [] e h = refl
same_lists [] (y ∷ ys) e h = absurd (omega (arith, e))
same_lists (x ∷ xs) [] e h = absurd (omega (arith, e))
same_lists (x ∷ xs) (y ∷ ys) e h =
    let i : x ≡ y = h zero x y refl refl in
    let j : length xs ≡ length ys = omega (arith, e) in
    ap (λ z. z ∷ xs) i ∙ ap (λ z. y ∷ z) (same_lists xs ys j (λ k a c s t. h (suc k) a c s t))

-- the main block
pub main_there : (names : List (List ℕ)) (d e : Declared) → SameTable d e → (main : Option (List ℕ)) (b : ℕ)
    → IsMain names d main b → IsMain names e main b
main_there names d e agree _ b (named {text = text} block one stands is) =
    let other = along_on d.bodies e.bodies agree.bodies b block stands in
    named other.0 (subst (λ (z : List ℕ). IsOneOf z b) agree.blocks one) other.1
    (subst (λ (z : NameId). Stands names z.n text) other.2.name is)
main_there names d e agree _ b (last front is) = last front (sym agree.blocks ∙ is)

module _ (opens : (m n : Member) → SameMember m n → SameKind (out-Member m) (out-Member n))
    (one_table : (model : Model) (d e : Declared) → IsDeclared model d → IsDeclared model e → d ≡ e)
    (one_list : (d : Declared) (b : ℕ) (xs ys : List Site) → Members d b xs → Members d b ys → xs ≡ ys) where
  pub seen_alike : (x y : Model) (main : Option (List ℕ)) (m n : RootedModel) → SameModel x y
      → IsRootedIn x main m → IsRootedIn y main n → AreSeenAlike main m n
  seen_alike x y main m n s h k =
      let agree = table_there opens one_table x y m.declared n.declared s h.declared k.declared in
      let names : m.names ≡ n.names = h.names ∙ s.names ∙ sym k.names in
      let long : length m.members ≡ length n.members =
      h.bodies ∙ along_length m.declared.bodies n.declared.bodies agree.bodies ∙ sym k.bodies in
      record {
        declared = agree;
        members = same_lists m.members n.members long
            (λ b xs ys p q. members_same opens m.declared n.declared agree one_list b xs ys (h.members b xs p)
            (k.members b ys q));
        names = names;
        is_main = main_there n.names m.declared n.declared agree main m.main
            (subst (λ (z : List (List ℕ)). IsMain z m.declared main m.main) names h.is_main);
      }
