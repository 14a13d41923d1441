-- Where the third rule is kept, no body is inside itself.
use Rattle.std.proofs.Common.{ℕ, ◌≤◌, ◌⊎◌, inl, inr, refl, arith}
use Rattle.ar_base.specs.declared.places.Place.{Place}
use Rattle.ar_syntax.specs.declared.members.Member.{Member, out-Member}
use Rattle.class_table.specs.Declaring.{Declared}
use Rattle.class_table.specs.Rules.{NamesClass, HasInside, class, block, IsWithin, itself, further, BreaksContainment, StandsIn, l3}
use Rattle.hierarchy.specs.Models.{RootedModel}
use Rattle.hierarchy.specs.ModelsInside.{KeepsTextRules}
use Rattle.source_laws.proofs.Nesting.{block_later}

-- inside what is inside
pub within_all : {d : Declared} {a b c : ℕ} → IsWithin d a b → IsWithin d b c → IsWithin d a c
within_all itself w = w
within_all (further e i w) v = further e i (within_all w v)

-- a class that is named somewhere between two bodies
record IsBetween (d : Declared) (a b : ℕ) : Type 0 where
  pub body : ℕ
  pub member : Member
  pub stands : StandsIn d body member
  pub class : ℕ
  pub at : Place
  pub names : NamesClass d (out-Member member) class at
  pub before : IsWithin d a body
  pub after : IsWithin d class b

module _ {m : RootedModel} (k : KeepsTextRules m) where
  d : Declared
  d = m.declared

  between : {a b : ℕ} → IsWithin m.declared a b → (a ≤ b) ⊎ IsBetween m.declared a b
  between itself = inl (omega arith)
  between {a = a} (further c (class {p = p} x s n) w) =
      inr (record { body = a; member = x; stands = s; class = c; at = p; names = n; before = itself; after = w })
  between (further c (block x at id s) w) = elim (between w) [
    | inl l ↦ (let g = block_later k.rooted.declared _ x at id s in inl (omega (arith, l, g)))
    | inr b ↦ inr (record {
      body = b.body;
      member = b.member;
      stands = b.stands;
      class = b.class;
      at = b.at;
      names = b.names;
      before = further c (block x at id s) b.before;
      after = b.after;
    })
  ]

  broken : (p : Place) → BreaksContainment m.declared p → ⊥
  broken p b = k.kept.kept 3 p (record { place = 2; stands = refl }) (l3 b)

  -- no body is inside one that is inside it
  pub not_again : {a b : ℕ} → HasInside m.declared a b → IsWithin m.declared b a → ⊥
  not_again {a = a} {b = b} (class x s n) w =
      broken _ (record { body = a; member = x; stands = s; class = b; names = n; again = w })
  not_again {a = a} (block x at id s) w = elim (between w) [
    | inl l ↦ (let g = block_later k.rooted.declared a x at id s in absurd (omega (arith, l, g)))
    | inr i ↦ broken i.at (record {
      body = i.body;
      member = i.member;
      stands = i.stands;
      class = i.class;
      names = i.names;
      again = within_all i.after (further id.n (block x at id s) i.before);
    })
  ]
