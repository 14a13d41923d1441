-- The unit is a module exactly where each section at its range that has an event of it agrees with one of them.
use Rattle.std.proofs.Common.{◌≡◌, ◌≢◌, ◌⊎◌, inl, inr, ℕ, true, List, [], ◌∷◌, refl, sym, ap, ◌∙◌, subst}
use Rattle.ar_base.specs.Lists.{IsOneOf}
use Rattle.zdd_nodes.specs.Families.{Family, has}
use Rattle.zdd_nodes.specs.Sections.{section}
use Rattle.zdd_nodes.proofs.Sections.{section-nil}
use Rattle.zdd_nodes.specs.Nodes.{Stored, family, IsFamilyNumber, IsSoundStore}
use Rattle.gate_modules.specs.Ends.{Alike, AgreeSome}
use Rattle.gate_modules.specs.Modules.{joined_sets, IsPartOfUnit, IsRest, IsModule}
use Rattle.gate_modules.specs.Walked.{AgreesSome, AreEnds, EntryAgrees}
use Rattle.gate_modules.specs.Walked.EntryAgrees.{no_part, alike}
use Rattle.gate_modules.specs.declared.ranges.Range.{Range}
use Rattle.gate_modules.specs.declared.twins.Question.{Question}
use Rattle.gate_modules.proofs.Sections.{section_end}
use Rattle.gate_modules.proofs.Splitting.{has_some, some_has}
use Rattle.gate_modules.proofs.Numbers.{not_empty}
use Rattle.gate_modules.proofs.Exchange.{exit, Together, exit_has, has_exit, together_part, exits_alike, part_found, rest_found, joined_three}

module _ (s : Stored) (sound : IsSoundStore s) (root : ℕ) (root_in : IsFamilyNumber s root) (r : Range) where
  -- what follows a part in an entry, where the unit is a module
  entry_part : (e x : ℕ) (p a : List ℕ) → family s e ≡ section r.from p (family s root) → a ≢ []
      → section r.to a (family s e) ≢ [] → exit (family s root) r p a ≢ []
  entry_part e x p a is n some = λ z. some (ap (section r.to a) is ∙ z)

  -- a section of an entry that is not empty tells of a part
  pub part_of_entry : (e : ℕ) (p a : List ℕ) → family s e ≡ section r.from p (family s root) → a ≢ []
      → section r.to a (family s e) ≢ [] → IsPartOfUnit (family s root) r a
  part_of_entry e p a is n some =
      let q = has_some (exit (family s root) r p a) (λ z. some (ap (section r.to a) is ∙ z)) in
      together_part s sound root root_in r p a q.0 n (exit_has s sound root root_in r p a q.0 n q.1)

  -- in a module both entries go on as their exits say, after each part
  module _ (m : IsModule (family s root) r) where
    pub follows : (e x : ℕ) (p b : List ℕ) → family s e ≡ section r.from p (family s root) → b ≢ []
        → section r.to b (family s e) ≡ family s x → family s x ≢ []
        → (a : List ℕ) → IsPartOfUnit (family s root) r a → section r.to a (family s e) ≡ family s x
    follows e x p b is n at some a i =
        ap (section r.to a) is
        ∙ exits_alike s sound root root_in r m p b a n (λ z. some (sym at ∙ ap (section r.to b) is ∙ z)) i
        ∙ ap (section r.to b) (sym is) ∙ at

    pub module_agrees : (e e0 : ℕ) (asked : Question) (p p0 b b0 : List ℕ) → asked.to ≡ r.to → AreEnds s asked
        → family s e ≡ section r.from p (family s root) → b ≢ [] → section r.to b (family s e) ≡ family s asked.end.n
        → family s e0 ≡ section r.from p0 (family s root) → b0 ≢ []
        → section r.to b0 (family s e0) ≡ family s asked.node_end.n
        → AgreesSome s asked e e0
    module_agrees e e0 asked p p0 b b0 to ends is n at is0 n0 at0 =
        record {
          each = λ a na. subst (λ t. Alike t (family s e) (family s e0) (family s asked.end.n)
              (family s asked.node_end.n) a) (sym to) (alike a na);
        }
      where
        both : (a : List ℕ) → IsPartOfUnit (family s root) r a
            → Alike r.to (family s e) (family s e0) (family s asked.end.n) (family s asked.node_end.n) a
        both a i = inr (
          follows e asked.end.n p b is n at (not_empty s sound asked.end.n ends.end_some ends.end_in) a i,
          follows e0 asked.node_end.n p0 b0 is0 n0 at0
              (not_empty s sound asked.node_end.n ends.node_end_some ends.node_end_in) a i,
        )

        alike : (a : List ℕ) → a ≢ [] → Alike r.to (family s e) (family s e0) (family s asked.end.n)
            (family s asked.node_end.n) a
        alike a na = first (section r.to a (family s e)) refl
          where
            second : (g : Family) → section r.to a (family s e0) ≡ g → section r.to a (family s e) ≡ []
                → Alike r.to (family s e) (family s e0) (family s asked.end.n) (family s asked.node_end.n) a
            second [] k z = inl (z, k)
            second (t ∷ g) k z = both a (part_of_entry e0 p0 a is0 na (λ w. let no : t ∷ g ≡ [] = sym k ∙ w in cc))

            first : (g : Family) → section r.to a (family s e) ≡ g
                → Alike r.to (family s e) (family s e0) (family s asked.end.n) (family s asked.node_end.n) a
            first [] k = second (section r.to a (family s e0)) refl k
            first (t ∷ g) k = both a (part_of_entry e p a is na (λ w. let no : t ∷ g ≡ [] = sym k ∙ w in cc))

  -- the other way: each section is an entry's family, and each entry has no part or agrees with e0
  module _ (entries : List ℕ) (e0 y : ℕ) (y_some : family s y ≢ [])
      (covered : (p : List ℕ) → (section r.from p (family s root) ≡ [])
      ⊎ ((e : ℕ) × IsOneOf entries e × (section r.from p (family s root) ≡ family s e)))
      (each : (e : ℕ) → IsOneOf entries e → EntryAgrees s r.to e0 y e) where
    -- an entry with a part agrees
    agrees : (p a q : List ℕ) → a ≢ [] → Together (family s root) r p a q
        → (e : ℕ) × (x : ℕ) × (section r.from p (family s root) ≡ family s e)
        × (AgreeSome r.to (family s e) (family s e0) (family s x) (family s y))
    agrees p a q n t = elim (covered p)
        [ inl none ↦ absurd (no_exit none) | inr some ↦ by some.0 some.2 (each some.0 some.1) ]
      where
        there : exit (family s root) r p a ≢ []
        there = some_has (exit (family s root) r p a) q (has_exit s sound root root_in r p a q t)

        no_exit : section r.from p (family s root) ≡ [] → ⊥
        no_exit none = there (ap (section r.to a) none ∙ section-nil r.to a)

        by : (e : ℕ) → section r.from p (family s root) ≡ family s e → EntryAgrees s r.to e0 y e
            → (e : ℕ) × (x : ℕ) × (section r.from p (family s root) ≡ family s e)
            × (AgreeSome r.to (family s e) (family s e0) (family s x) (family s y))
        by e is (no_part ends) = elim (section_end r.to a (family s e) ends.at_least)
            [ inl h ↦ absurd (n h.0) | inr h ↦ absurd (there (ap (section r.to a) is ∙ h.1)) ]
        by e is (alike x g) = (e, x, is, g)

    -- the parts are those of e0
    pub part_of_reference : (a : List ℕ) → IsPartOfUnit (family s root) r a → section r.to a (family s e0) ≡ family s y
    part_of_reference a i =
        let f = part_found s sound root root_in r a i in
        let g = agrees f.p a f.q i.some f.together in
        elim (g.3.each a i.some) [
          | inl none ↦ absurd (some_has (exit (family s root) r f.p a) f.q
              (has_exit s sound root root_in r f.p a f.q f.together) (ap (section r.to a) g.2 ∙ none.0))
          | inr some ↦ some.1
        ]

    pub exchanged : (a b : List ℕ) → IsPartOfUnit (family s root) r a → IsRest (family s root) r b
        → has (family s root) (joined_sets r a b) ≡ true
    exchanged a b i k =
        let f = rest_found s sound root root_in r b k in
        let g = agrees f.p f.part f.q f.some f.together in
        let t = f.together in
        let there : has (exit (family s root) r f.p f.part) f.q ≡ true =
        has_exit s sound root root_in r f.p f.part f.q t in
        let here : section r.to f.part (family s g.0) ≡ family s g.1 = elim (g.3.each f.part f.some) [
          | inl none ↦ absurd (some_has (exit (family s root) r f.p f.part) f.q there
              (ap (section r.to f.part) g.2 ∙ none.0))
          | inr some ↦ some.0
        ] in
        let other : section r.to a (family s g.0) ≡ family s g.1 = elim (g.3.each a i.some) [
          | inl none ↦ absurd (y_some (sym (part_of_reference a i) ∙ none.1))
          | inr some ↦ some.0
        ] in
        let same : exit (family s root) r f.p a ≡ exit (family s root) r f.p f.part =
        ap (section r.to a) g.2 ∙ other ∙ sym here ∙ sym (ap (section r.to f.part) g.2) in
        let set = exit_has s sound root root_in r f.p a f.q i.some (ap (λ h. has h f.q) same ∙ there) in
        ap (λ z. has (family s root) (joined_sets r a z)) f.is
        ∙ ap (has (family s root)) (joined_three r f.p a f.q set.three a) ∙ set.whole

    pub module_from : (p0 one other : List ℕ) → family s e0 ≡ section r.from p0 (family s root) → one ≢ [] → other ≢ []
        → section r.to one (family s e0) ≢ [] → section r.to other (family s e0) ≢ [] → one ≢ other
        → IsModule (family s root) r
    module_from p0 one other is n1 n2 s1 s2 d = record {
      one = one;
      other = other;
      one_is = part_of_entry e0 p0 one is n1 s1;
      other_is = part_of_entry e0 p0 other is n2 s2;
      differ = d;
      exchanged = exchanged;
    }
