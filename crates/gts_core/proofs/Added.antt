-- Lists that are gathered item by item.
use Rattle.std.proofs.Common.{◌≡◌, ℕ, ◌+◌, ◌<◌, ◌≤◌, ◌⊎◌, inl, inr, List, [], ◌∷◌, ◌++◌, length, drop, get_or}
use Rattle.std.proofs.Common.{sym, ap, ◌∙◌, subst}
use Rattle.std.proofs.lemmas.List.{at_drop_more, at_drop_all}
use Rattle.ar_base.specs.Lists.{IsOneOf}
use Rattle.ar_base.proofs.Standing.{one_none, one_first, one_split, one_left, one_right, only_item}
use Rattle.gts_core.specs.Adding.{Adds, HasThose}

module _ {A : Type 0} where
  pub adds_none : (P : A → Type 0) (xs : List A) → ((x : A) → P x → ⊥) → Adds P xs xs
  adds_none P xs lacks = record { grows = λ q o. o; only = λ q o. inl o; all = λ x p. absurd (lacks x p) }

  pub adds_then : (P Q R : A → Type 0) (a b c : List A) → Adds P a b → Adds Q b c → ((x : A) → R x → P x ⊎ Q x)
      → ((x : A) → P x → R x) → ((x : A) → Q x → R x) → Adds R a c
  adds_then P Q R a b c f g split left right = record {
    grows = λ q o. g.grows q (f.grows q o);
    only = λ q o. elim (g.only q o) [
      | inl h ↦ (elim (f.only q h) [ inl k ↦ inl k | inr k ↦ inr (left q k) ])
      | inr k ↦ inr (right q k)
    ];
    all = λ x r. elim (split x r) [ inl p ↦ g.grows x (f.all x p) | inr q ↦ g.all x q ];
  }

  pub adds_as : (P R : A → Type 0) (a b : List A) → ((x : A) → R x → P x) → ((x : A) → P x → R x) → Adds P a b
      → Adds R a b
  adds_as P R a b back there f = record {
    grows = f.grows;
    only = λ q o. elim (f.only q o) [ inl k ↦ inl k | inr k ↦ inr (there q k) ];
    all = λ x r. f.all x (back x r);
  }

  -- these items more
  pub adds_these : (R : A → Type 0) (ys a b : List A) → ((x : A) → IsOneOf ys x → R x) → ((x : A) → R x → IsOneOf ys x)
      → b ≡ a ++ ys → Adds R a b
  adds_these R ys a b has only e = record {
    grows = λ q o. subst (λ (z : List A). IsOneOf z q) (sym e) (one_left a ys q o);
    only = λ q o. elim (one_split a ys q (subst (λ (z : List A). IsOneOf z q) e o))
        [ inl k ↦ inl k | inr i ↦ inr (has q i) ];
    all = λ x r. subst (λ (z : List A). IsOneOf z x) (sym e) (one_right a ys x (only x r));
  }

  pub adds_one : (R : A → Type 0) (y : A) (a b : List A) → R y → ((x : A) → R x → x ≡ y) → b ≡ a ++ y ∷ [] → Adds R a b
  adds_one R y a b has only e = adds_these R (y ∷ []) a b (λ x o. subst R (only_item y x o) has)
      (λ x r. subst (λ (z : A). IsOneOf (y ∷ []) z) (sym (only x r)) (one_first y [])) e

  pub those_of_empty : (P : A → Type 0) (a b : List A) → a ≡ [] → Adds P a b → HasThose P b
  those_of_empty P a b e h = record {
    only = λ x o. elim (h.only x o) [
      | inl k ↦ absurd (one_none x (subst (λ (z : List A). IsOneOf z x) e k))
      | inr k ↦ k
    ];
    each = h.all;
  }

  -- once the things of what is left are there, the things of the whole are
  pub record Remains (left whole : A → Type 0) (old now : List A) : Type 0 where
    pub on : (end : List A) → Adds left now end → Adds whole old end

  pub remains_start : (P : A → Type 0) (xs : List A) → Remains P P xs xs
  remains_start P xs = record { on = λ f h. h }

  pub remains_on : (P left after whole : A → Type 0) (old now new : List A) → Remains left whole old now
      → Adds P now new
      → ((x : A) → left x → P x ⊎ after x) → ((x : A) → P x → left x) → ((x : A) → after x → left x)
      → Remains after whole old new
  remains_on P left after whole old now new r p split a b =
      record { on = λ f h. r.on f (adds_then P after left now new f p h split a b) }

  pub remains_all : (left whole : A → Type 0) (old now : List A) → Remains left whole old now → ((x : A) → left x → ⊥)
      → Adds whole old now
  remains_all left whole old now r lacks = r.on now (adds_none left now lacks)
