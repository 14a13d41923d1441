-- Whether a unit is a module, by the entries of its range.
use Rattle.std.proofs.Common.{◌≡◌, ◌≢◌, inl, inr, ℕ, ◌<◌, ◌≤◌, true, List, [], ◌∷◌, length, refl, sym, ap, ◌∙◌, subst, arith, Less, Equal}
use Rattle.std.specs.List.{AllByRecursion}
use Rattle.ar_base.specs.Lists.{IsOneOf}
use Rattle.ar_base.proofs.Standing.{one_none, only_item}
use Rattle.ar_base.specs.Sets.{Within}
use Rattle.firable_families.proofs.Listing.{lists_listed, has_stands}
use Rattle.zdd_nodes.specs.Families.{Family, has}
use Rattle.zdd_nodes.specs.FamiliesInside.{order, node, IsFamily}
use Rattle.zdd_nodes.specs.Sections.{section}
use Rattle.zdd_nodes.proofs.Gates.{order-refl}
use Rattle.zdd_nodes.proofs.Laws.{has_each}
use Rattle.zdd_nodes.proofs.Sections.{section-nil}
use Rattle.zdd_nodes.specs.Nodes.{Stored, family, IsFamilyNumber, IsSoundStore}
use Rattle.gate_modules.specs.Ends.{IsSectionAt}
use Rattle.gate_modules.specs.Ends.IsSectionAt.{empty, taken}
use Rattle.zdd_nodes.specs.Bounds.{AllEnd, AtLeast, EndsBelow, HasBelow}
use Rattle.gate_modules.specs.Entries.{AreSectionsAt, IsEntryExit, EntryDiffers}
use Rattle.gate_modules.specs.Modules.{IsPartOfUnit, IsModule}
use Rattle.gate_modules.specs.Parts.{AreSomeHeads}
use Rattle.gate_modules.specs.Deciding.{IsModuleWith}
use Rattle.gate_modules.specs.Walked.{EntryAgrees}
use Rattle.gate_modules.specs.declared.ranges.Range.{Range}
use Rattle.gate_modules.proofs.Criterion.{module_agrees, part_of_entry, part_of_reference, module_from, follows}
use Rattle.gate_modules.proofs.Exchange.{exit, has_exit, part_found, Found}
use Rattle.gate_modules.proofs.Numbers.{not_empty}
use Rattle.gate_modules.proofs.Sections.{section_end}
use Rattle.gate_modules.proofs.Splitting.{some_has}

pub first_at_least : (to v : ℕ) (lo hi : Family) → hi ≢ [] → AllByRecursion (AtLeast to) (node v lo hi) → to ≤ v
first_at_least to v lo [] n a = absurd (n refl)
first_at_least to v lo (t ∷ hi) n a = a.0.0

-- a number with an event below the bound does not end there
pub event_not_end : (s : Stored) (to n v lo hi : ℕ) → HasBelow s to n v lo hi → EndsBelow s to n → ⊥
event_not_end s to n v lo hi h e =
    let l = first_at_least to v (family s lo) (family s hi) h.node.hi_some
    (subst (AllByRecursion (AtLeast to)) h.node.is e.at_least) in
    let k = h.below in
    omega (arith, l, k)

-- two sets of a list make it two long
long_from : (hs : Family) (a b : List ℕ) → IsOneOf hs a → IsOneOf hs b → (a ≡ b → ⊥) → 2 ≤ length hs
long_from [] a b i j n = absurd (one_none a i)
long_from (x ∷ []) a b i j n = absurd (n (sym (only_item x a i) ∙ only_item x b j))
long_from (x ∷ y ∷ hs) a b i j n = omega arith

pub record TwoSets (hs : Family) : Type 0 where
  pub one : List ℕ
  pub other : List ℕ
  pub one_in : has hs one ≡ true
  pub other_in : has hs other ≡ true
  pub differ : one ≢ other

pub two_sets : (hs : Family) → IsFamily hs → 2 ≤ length hs → TwoSets hs
two_sets [] f l = absurd (omega (arith, l))
two_sets (x ∷ []) f l = absurd (omega (arith, l))
two_sets (x ∷ y ∷ hs) f l = record {
  one = x;
  other = y;
  one_in = (has_each (x ∷ y ∷ hs)).0;
  other_in = (has_each (x ∷ y ∷ hs)).1.0;
  differ = λ e. apart (sym (order-refl x) ∙ ap (order x) e ∙ f.in_order.0.0);
}
  where
    apart : Equal ≡ Less → ⊥
    apart e = absurd (cc)

module _ (s : Stored) (sound : IsSoundStore s) (root : ℕ) (root_in : IsFamilyNumber s root) (r : Range) (es : List ℕ)
    (entries : AreSectionsAt s r.from root es) where
  -- without an event there is no part
  pub none_is_module : AllEnd s r.to es → IsModule (family s root) r → ⊥
  none_is_module ends m = elim (entries.covered f.p) [
    | inl none ↦ there (ap (section r.to m.one) none ∙ section-nil r.to m.one)
    | inr some ↦ by some.0 some.2 (ends.each some.0 some.1)
  ]
    where
      f : Found s sound root root_in r m.one
      f = part_found s sound root root_in r m.one m.one_is

      there : exit (family s root) r f.p m.one ≢ []
      there = some_has (exit (family s root) r f.p m.one) f.q (has_exit s sound root root_in r f.p m.one f.q f.together)

      by : (e : ℕ) → section r.from f.p (family s root) ≡ family s e → EndsBelow s r.to e → ⊥
      by e is h = elim (section_end r.to m.one (family s e) h.at_least)
          [ inl t ↦ m.one_is.some t.0 | inr t ↦ there (ap (section r.to m.one) is ∙ t.1) ]

  -- an entry with an exit is a section
  record Section (e : ℕ) : Type 0 where
    pub p : List ℕ
    pub is : family s e ≡ section r.from p (family s root)

  section_of : (e x : ℕ) → IsOneOf es e → IsEntryExit s r.to e x → Section e
  section_of e x i h = by (entries.sections e i)
    where
      by : IsSectionAt r.from (family s root) (family s e) → Section e
      by (empty z) = absurd (not_empty s sound x h.exit.some h.exit.inside
          (sym h.exit.is ∙ ap (section r.to h.exit.taken) z ∙ section-nil r.to h.exit.taken))
      by (taken p is) = record { p = p; is = is }

  module _ (e0 y : ℕ) (e0_in : IsOneOf es e0) (h0 : IsEntryExit s r.to e0 y) where
    pub differs_no_module : (e : ℕ) × IsOneOf es e × EntryDiffers s r.to e0 y e → IsModule (family s root) r → ⊥
    differs_no_module d m =
        let k = d.2 in
        let h = k.exit in
        let a = section_of d.0 k.asked.end.n d.1 h in
        let a0 = section_of e0 y e0_in h0 in
        k.differs (module_agrees s sound root root_in r m d.0 e0 k.asked a.p a0.p h.exit.taken h0.exit.taken k.to_is
        k.ends a.is h.taken_some h.exit.is a0.is h0.taken_some
        (h0.exit.is ∙ ap (family s) (sym k.y_is)))

    -- in a module each part is one of e0
    part_in_heads : (hs : Family) → AreSomeHeads r.to (family s e0) hs → IsModule (family s root) r → (a : List ℕ)
        → IsPartOfUnit (family s root) r a → has hs a ≡ true
    part_in_heads hs h m a i =
        let a0 = section_of e0 y e0_in h0 in
        let some = not_empty s sound y h0.exit.some h0.exit.inside in
        h.whole a i.some (λ z. some (sym (follows s sound root root_in r m e0 y a0.p h0.exit.taken a0.is h0.taken_some
        h0.exit.is some a i) ∙ z))

    pub few_no_module : (hs : Family) → AreSomeHeads r.to (family s e0) hs → length hs < 2 → IsModule (family s root) r
        → ⊥
    few_no_module hs h l m =
        let k = long_from hs m.one m.other (has_stands hs m.one (part_in_heads hs h m m.one m.one_is))
        (has_stands hs m.other (part_in_heads hs h m m.other m.other_is)) m.differ in
        omega (arith, l, k)

    pub is_module : (hs : Family) → AreSomeHeads r.to (family s e0) hs → 2 ≤ length hs
        → ((e : ℕ) → IsOneOf es e → EntryAgrees s r.to e0 y e) → IsModuleWith (family s root) r hs
    is_module hs h l each = record {
      is_module = module_from s sound root root_in r es e0 y y_some entries.covered each a0.p t.one t.other a0.is
          (h.sound t.one t.one_in).0 (h.sound t.other t.other_in).0 (h.sound t.one t.one_in).1
          (h.sound t.other t.other_in).1 t.differ;
      are_parts = lists_listed (record {
        is_family = h.is_family;
        sound = λ a k. part_of_entry s sound root root_in r e0 a0.p a a0.is (h.sound a k).0 (h.sound a k).1;
        whole = λ a i. (
          a,
          h.whole a i.some
              (λ z. y_some (sym (part_of_reference s sound root root_in r es e0 y y_some entries.covered each a i) ∙ z)),
          within a,
          within a,
        );
      });
    }
      where
        a0 : Section e0
        a0 = section_of e0 y e0_in h0

        t : TwoSets hs
        t = two_sets hs h.is_family l

        y_some : family s y ≢ []
        y_some = not_empty s sound y h0.exit.some h0.exit.inside

        within : (a : List ℕ) → Within a a
        within a = record { each = λ e i. i }
