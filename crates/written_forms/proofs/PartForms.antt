-- The earliest place in an instruction, by its form.
use Rattle.std.proofs.Common.{◌≡◌, ℕ, ◌⊎◌, inl, inr, List, Option, Some, None, Box, Vec, Global, refl, sym, subst}
use Rattle.ar_base.specs.Lists.{Stands, IsOneOf}
use Rattle.ar_base.specs.declared.places.Place.{Place}
use Rattle.ar_base.proofs.Standing.{one_here}
use Rattle.ar_syntax.specs.declared.expressions.RawExpr.{RawExpr}
use Rattle.ar_syntax.specs.declared.instructions.Instr.{Instr, out-Instr}
use Rattle.ar_syntax.specs.declared.instructions.Instr.TheOpen as instr
use Rattle.ar_syntax.specs.declared.paths.Path.{Path}
use Rattle.class_table.specs.Earliest.{IsEarliest, IsEarlierOf}
use Rattle.class_table.proofs.FirstPlaces.{earliest_both, earliest_same}
use Rattle.class_table.proofs.Looping.{AtItem}
use Rattle.written_forms.specs.Parts.{InstrForm, IsPartOf}
use Rattle.written_forms.specs.PartsInside.{BreaksInside, BreaksInOne}
use Rattle.written_forms.specs.Parts as part

-- The parts of each form

skip_only : (i : InstrForm) → IsPartOf i instr.Skip → i ≡ instr.Skip
skip_only i part.itself = refl

assign_only : (i : InstrForm) (p : Path) (e : RawExpr) → IsPartOf i (instr.Assign p e) → i ≡ instr.Assign p e
assign_only i p e part.itself = refl

tie_only : (i : InstrForm) (p q : Path) → IsPartOf i (instr.Tie p q) → i ≡ instr.Tie p q
tie_only i p q part.itself = refl

split_one : (i : InstrForm) (r : RawExpr) (a : Box Instr Global) → IsPartOf i (instr.If r a None)
    → (i ≡ instr.If r a None) ⊎ IsPartOf i (out-Instr a.value)
split_one i r a part.itself = inl refl
split_one i r a (part.first h) = inr h

split_two : (i : InstrForm) (r : RawExpr) (a b : Box Instr Global) → IsPartOf i (instr.If r a (Some b))
    → (i ≡ instr.If r a (Some b)) ⊎ (IsPartOf i (out-Instr a.value) ⊎ IsPartOf i (out-Instr b.value))
split_two i r a b part.itself = inl refl
split_two i r a b (part.first h) = inr (inl h)
split_two i r a b (part.second h) = inr (inr h)

split_all : (i : InstrForm) (is : Vec Instr Global) → IsPartOf i (instr.All is)
    → (i ≡ instr.All is) ⊎ ((j : Instr) × IsOneOf is.items j × IsPartOf i (out-Instr j))
split_all i is part.itself = inl refl
split_all i is (part.item j o h) = inr (j, o, h)

module _ (breaks : InstrForm → Place → Type 0) where
  alone : (l : InstrForm) → ((i : InstrForm) → IsPartOf i l → i ≡ l) → (f : Option Place) → IsEarliest (breaks l) f
      → IsEarliest (BreaksInside breaks l) f
  alone l only f h = earliest_same f to from h
    where
      to : (p : Place) → breaks l p → BreaksInside breaks l p
      to p b = record { part = l; is_part = part.itself; broken = b }

      from : (p : Place) → BreaksInside breaks l p → breaks l p
      from p b = subst (λ (z : InstrForm). breaks z p) (only b.part b.is_part) b.broken

  moved : (i : Instr) (l : InstrForm) (f : Option Place) → out-Instr i ≡ l → IsEarliest (BreaksInside breaks l) f
      → IsEarliest (BreaksInside breaks (out-Instr i)) f
  moved i l f e h = subst (λ (z : InstrForm). IsEarliest (BreaksInside breaks z) f) (sym e) h

  own : (i : Instr) (l : InstrForm) (f : Option Place) → out-Instr i ≡ l → IsEarliest (breaks (out-Instr i)) f
      → IsEarliest (breaks l) f
  own i l f e h = subst (λ (z : InstrForm). IsEarliest (breaks z) f) e h

  pub skip_inside : (i : Instr) (f : Option Place) → out-Instr i ≡ instr.Skip → IsEarliest (breaks (out-Instr i)) f
      → IsEarliest (BreaksInside breaks (out-Instr i)) f
  skip_inside i f e h = moved i instr.Skip f e (alone instr.Skip skip_only f (own i instr.Skip f e h))

  pub assign_inside : (i : Instr) (p : Path) (r : RawExpr) (f : Option Place) → out-Instr i ≡ instr.Assign p r
      → IsEarliest (breaks (out-Instr i)) f → IsEarliest (BreaksInside breaks (out-Instr i)) f
  assign_inside i p r f e h = moved i (instr.Assign p r) f e
      (alone (instr.Assign p r) (λ j k. assign_only j p r k) f (own i (instr.Assign p r) f e h))

  pub tie_inside : (i : Instr) (p q : Path) (f : Option Place) → out-Instr i ≡ instr.Tie p q
      → IsEarliest (breaks (out-Instr i)) f → IsEarliest (BreaksInside breaks (out-Instr i)) f
  tie_inside i p q f e h = moved i (instr.Tie p q) f e
      (alone (instr.Tie p q) (λ j k. tie_only j p q k) f (own i (instr.Tie p q) f e h))

  pub one_inside : (i : Instr) (r : RawExpr) (a : Box Instr Global) (f g h : Option Place)
      → out-Instr i ≡ instr.If r a None → IsEarliest (breaks (out-Instr i)) f
      → IsEarliest (BreaksInside breaks (out-Instr a.value)) g → IsEarlierOf f g h
      → IsEarliest (BreaksInside breaks (out-Instr i)) h
  one_inside i r a f g h e k m o = moved i (instr.If r a None) h e
      (earliest_same h to from (earliest_both f g h (own i (instr.If r a None) f e k) m o))
    where
      to : (p : Place) → breaks (instr.If r a None) p ⊎ BreaksInside breaks (out-Instr a.value) p
          → BreaksInside breaks (instr.If r a None) p
      to p (inl b) = record { part = instr.If r a None; is_part = part.itself; broken = b }
      to p (inr b) = record { part = b.part; is_part = part.first b.is_part; broken = b.broken }

      from : (p : Place) → BreaksInside breaks (instr.If r a None) p
          → breaks (instr.If r a None) p ⊎ BreaksInside breaks (out-Instr a.value) p
      from p b = elim (split_one b.part r a b.is_part) [
        | inl q ↦ inl (subst (λ (z : InstrForm). breaks z p) q b.broken)
        | inr s ↦ inr (record { part = b.part; is_part = s; broken = b.broken })
      ]

  pub two_inside : (i : Instr) (r : RawExpr) (a c : Box Instr Global) (f g h j s : Option Place)
      → out-Instr i ≡ instr.If r a (Some c) → IsEarliest (breaks (out-Instr i)) f
      → IsEarliest (BreaksInside breaks (out-Instr a.value)) g → IsEarliest (BreaksInside breaks (out-Instr c.value)) h
      → IsEarlierOf g h j → IsEarlierOf f j s
      → IsEarliest (BreaksInside breaks (out-Instr i)) s
  two_inside i r a c f g h j s e k m n o q =
      moved i (instr.If r a (Some c)) s e
      (earliest_same s to from (earliest_both f j s (own i (instr.If r a (Some c)) f e k)
      (earliest_both g h j m n o) q))
    where
      to : (p : Place) → breaks (instr.If r a (Some c)) p
          ⊎ (BreaksInside breaks (out-Instr a.value) p ⊎ BreaksInside breaks (out-Instr c.value) p)
          → BreaksInside breaks (instr.If r a (Some c)) p
      to p (inl b) = record { part = instr.If r a (Some c); is_part = part.itself; broken = b }
      to p (inr (inl b)) = record { part = b.part; is_part = part.first b.is_part; broken = b.broken }
      to p (inr (inr b)) = record { part = b.part; is_part = part.second b.is_part; broken = b.broken }

      from : (p : Place) → BreaksInside breaks (instr.If r a (Some c)) p
          → breaks (instr.If r a (Some c)) p
          ⊎ (BreaksInside breaks (out-Instr a.value) p ⊎ BreaksInside breaks (out-Instr c.value) p)
      from p b = elim (split_two b.part r a c b.is_part) [
        | inl t ↦ inl (subst (λ (z : InstrForm). breaks z p) t b.broken)
        | inr t ↦ elim t [
          | inl v ↦ inr (inl (record { part = b.part; is_part = v; broken = b.broken }))
          | inr v ↦ inr (inr (record { part = b.part; is_part = v; broken = b.broken }))
        ]
      ]

  pub all_inside : (i : Instr) (is : Vec Instr Global) (f g h : Option Place) → out-Instr i ≡ instr.All is
      → IsEarliest (breaks (out-Instr i)) f → IsEarliest (BreaksInOne breaks is.items) g
      → IsEarlierOf f g h → IsEarliest (BreaksInside breaks (out-Instr i)) h
  all_inside i is f g h e k m o = moved i (instr.All is) h e
      (earliest_same h to from (earliest_both f g h (own i (instr.All is) f e k) m o))
    where
      to : (p : Place) → breaks (instr.All is) p ⊎ BreaksInOne breaks is.items p → BreaksInside breaks (instr.All is) p
      to p (inl b) = record { part = instr.All is; is_part = part.itself; broken = b }
      to p (inr b) = record {
        part = b.inside.part;
        is_part = part.item b.instr b.is_one b.inside.is_part;
        broken = b.inside.broken;
      }

      from : (p : Place) → BreaksInside breaks (instr.All is) p
          → breaks (instr.All is) p ⊎ BreaksInOne breaks is.items p
      from p b = elim (split_all b.part is b.is_part) [
        | inl t ↦ inl (subst (λ (z : InstrForm). breaks z p) t b.broken)
        | inr t ↦ inr (record {
          instr = t.0;
          is_one = t.1;
          inside = record { part = b.part; is_part = t.2; broken = b.broken };
        })
      ]

  -- a loop over instructions
  pub one_to : (is : List Instr) (k : ℕ) (i : Instr) (p : Place) → Stands is k i → BreaksInside breaks (out-Instr i) p
      → BreaksInOne breaks is p
  one_to is k i p s b = record { instr = i; is_one = one_here is k i s; inside = b }

  pub one_back : (is : List Instr) (p : Place) → BreaksInOne breaks is p
      → (k : ℕ) × AtItem is (λ (k : ℕ) (i : Instr). BreaksInside breaks (out-Instr i)) k p
  one_back is p b = (b.is_one.place, record { item = b.instr; stands = b.is_one.stands; has = b.inside })
