-- What the searches say of the rules, one rule after the other.
use Rattle.std.proofs.Common.{◌≡◌, ◌+◌, ◌<◌, ℕ, ◌⊎◌, inl, inr, Bool, true, false, cond, nat_lt, List, length, Option, Some, None, Result, Ok, Err, IfErr, refl, sym, ap, ◌∙◌, subst, arith}
use Rattle.std.proofs.lemmas.Bool.{cases_eq, ltb-false}
use Rattle.ar_base.specs.Numbers.{VarId}
use Rattle.ar_meaning.specs.Systems.{System}
use Rattle.ar_firing.specs.Rules.{BreaksS3, BreaksS4, BreaksS5, BreaksS6, AtEvent, AtUnit, AtVariable, AtObserver, AtWhole, IsShownBefore, variables, Rule, S1, S2, S3, S4, S5, S6, S7, S8, BreaksStaticRule, s3, s4, s5, s6, s8, KeepsStaticRule, KeepsUpTo, IsAskedUpTo, rule_number}
use Rattle.ar_firing.specs.Rules as rules
use Rattle.ar_firing.proofs.RulesHold.{rule_of, numbered, asked_below}
use Rattle.ar_firing.proofs.Unbroken.{keeps_s3, keeps_s4, keeps_s5, keeps_s6}
use Rattle.gts_core.specs.View.{Views}
use Rattle.gts_core.specs.Sound.{IsSound}
use Rattle.gts_core.specs.declared.system.GtsParts.{GtsParts}
use Rattle.mode_search.specs.Events.{IsLeastNumber, AreMarks, AreMoving, AreFirstStates, IsJointAt, IsStateless}
use Rattle.mode_search.specs.Kept.{AreKeptWaysBefore, OtherInGuard, OtherInAction}
use Rattle.mode_search.specs.declared.kept.KeptWay.{KeptWay}
use Rattle.ar_base.proofs.Standing.{at_most}
use Rattle.ar_base.proofs.Comparing.{low}
use Rattle.mode_search.specs.declared.searching.Reach.{Reach}
use Rattle.mode_search.specs.Reaches.{IsWrongAt, IsAgainAt}
use Rattle.mode_search.specs.Sharing.{IsShared, IsSharing}
use Rattle.mode_search.specs.declared.listing.Live.{Live}
use Rattle.mode_search.specs.declared.sharing.Sharing.{Sharing}
use Rattle.mode_search.specs.Wide.{IsFirstWide}
use Rattle.mode_search.specs.declared.searches.Wide.{Wide}
use Rattle.mode_search.specs.declared.searches.Wide.TheVariants as wide
use Rattle.static_fragment.specs.Units.{AreUnitMarks}
use Rattle.static_fragment.specs.UnitShown.{IsFirstShown}
use Rattle.static_fragment.proofs.Units.{no_joint_keeps, no_stateless_keeps}
use Rattle.static_fragment.proofs.Values.{none_wide_keeps}
use Rattle.static_fragment.proofs.UnitShowing.{first_joint_shown, first_stateless_shown, first_wide_shown}
use Rattle.static_fragment.specs.Setting.{AreKeptWays, AreReached, AreLiveEdges}
use Rattle.static_fragment.proofs.Naming.{guard_breaks, guard_other, unbroken_s3, action_breaks}
use Rattle.static_fragment.proofs.Leading.{wrong_breaks, broken_s4, unbroken_s4}
use Rattle.static_fragment.proofs.Listing.{shared_breaks, breaks_shared, unbroken_s5, many_break, few_keep}
use Rattle.static_fragment.proofs.Entering.{again_breaks, breaks_again, unbroken_s6}
use Rattle.static_fragment.specs.declared.faults.FragmentFault.{FragmentFault}
use Rattle.static_fragment.specs.declared.faults.FragmentFault.TheVariants.{Outside, Memory}
use Rattle.static_fragment.specs.Recognised.{IsRefusedUpTo}
use Rattle.static_fragment.specs.Shown.{IsRuleShown, IsShownWith, IsWideShown, IsCountedUpTo, lesser_of_both}
use Rattle.static_fragment.specs.declared.stages.Units.{Units}
use Rattle.static_fragment.specs.Stages.{KeepsBelow, OnResult, HasUnits, HasReaches, HasSharing, IsSeenBelow}

-- what is refused is the error
pub on_err : {A : Type 0} (after : A → Type 0) (refused : FragmentFault → Type 0) (r : Result A FragmentFault)
    (e : FragmentFault) → r ≡ Err e → refused e → OnResult after refused r
on_err {A} after refused r e is h = subst (λ (z : Result A FragmentFault). OnResult after refused z) (sym is) h

pub if_err : {A : Type 0} (P : FragmentFault → Type 0) (r : Result A FragmentFault) (e : FragmentFault) → r ≡ Err e
    → P e → IfErr r P
if_err {A} P r e is h = subst (λ (z : Result A FragmentFault). IfErr z P) (sym is) h

-- the lesser of two least numbers is the least of either kind
pub lesser_least : (P Q : ℕ → Type 0) (a b : Option ℕ) → IsLeastNumber P a → IsLeastNumber Q b
    → IsLeastNumber (λ n. P n ⊎ Q n) (lesser_of_both a b)
lesser_least P Q None None h k = λ n q. elim q [ inl x ↦ h n x | inr x ↦ k n x ]
lesser_least P Q None (Some y) h k = (inr k.0, λ n q. elim q [ inl x ↦ absurd (h n x) | inr x ↦ k.1 n x ])
lesser_least P Q (Some x) None h k = (inl h.0, λ n q. elim q [ inl u ↦ h.1 n u | inr u ↦ absurd (k n u) ])
lesser_least P Q (Some x) (Some y) h k = by (nat_lt y x) refl
  where
    by : (c : Bool) → nat_lt y x ≡ c → IsLeastNumber (λ n. P n ⊎ Q n) (cond c (Some y) (Some x))
    by true e = (
      inr k.0,
      λ n q. elim q [
        | inl u ↦ (let l = h.1 n u in let m = low y x e in omega arith)
        | inr u ↦ k.1 n
            u
      ],
    )
    by false e = (
      inl h.0,
      λ n q. elim q [
        | inl u ↦ h.1 n u
        | inr u ↦
            (let l = k.1 n u in let m = ltb-false y x e in omega arith)
      ],
    )

-- where nothing is shown there is nothing
pub nowhere : (P : ℕ → Type 0) (number : ℕ) (spot : ℕ → rules.Spot) (least : Option ℕ) (u : Unit {0})
    → IsLeastNumber P least → IsShownWith number spot least (Ok u) → (n : ℕ) → P n → ⊥
nowhere P number spot None u h s = h
nowhere P number spot (Some k) u h s = absurd s

module _ (system : System ℕ) (dropped : List ℕ) where
  -- no rule comes before the first
  pub first_rule : KeepsBelow system dropped 1
  first_rule S1 l = absurd (omega (arith, l))
  first_rule S2 l = absurd (omega (arith, l))
  first_rule S3 l = absurd (omega (arith, l))
  first_rule S4 l = absurd (omega (arith, l))
  first_rule S5 l = absurd (omega (arith, l))
  first_rule S6 l = absurd (omega (arith, l))
  first_rule S7 l = absurd (omega (arith, l))
  first_rule S8 l = absurd (omega (arith, l))

  -- a rule more is kept
  pub next_rule : (r : Rule) → KeepsBelow system dropped (rule_number r) → KeepsStaticRule system dropped r
      → KeepsBelow system dropped (rule_number r + 1)
  next_rule r below k q l = elim (at_most (rule_number q) (rule_number r) l) [
    | inl h ↦ below q h
    | inr e ↦ (let same : r ≡ q = sym (numbered r) ∙ (ap rule_of (sym e) ∙ numbered q) in subst (KeepsStaticRule system
        dropped) same k)
  ]

  -- every rule is kept where those below the ninth are
  all_rules : KeepsBelow system dropped 9 → KeepsUpTo None system dropped
  all_rules below = record { each = λ rule asked. each rule }
    where
      each : (rule : Rule) → KeepsStaticRule system dropped rule
      each S1 = below S1 (omega arith)
      each S2 = below S2 (omega arith)
      each S3 = below S3 (omega arith)
      each S4 = below S4 (omega arith)
      each S5 = below S5 (omega arith)
      each S6 = below S6 (omega arith)
      each S7 = below S7 (omega arith)
      each S8 = below S8 (omega arith)

  outside : (order : Option ℕ) (r : Rule) → IsAskedUpTo order r → (spot : rules.Spot)
      → KeepsBelow system dropped (rule_number r)
      → IsFirstShown system dropped r spot → (e : FragmentFault)
      → IsRuleShown (rule_number r) spot e → IsRefusedUpTo order system dropped e
  outside order r asked spot below first (Outside number there) s = record {
    rule = r;
    is_rule = sym s.0;
    asked = asked;
    first = record {
      breaks = subst (BreaksStaticRule system dropped r) (sym s.1) first.breaks;
      lesser_kept = below;
      is_first = λ other k x. first.is_first other (subst (λ (z : rules.Spot). IsShownBefore other z) s.1 k) x;
    };
  }
  outside order r asked spot below first Memory s = absurd s

  -- the rule is broken first by the least number that was found
  refuse : (order : Option ℕ) (r : Rule) → rule_number r < 8 → (spot : ℕ → rules.Spot) (P : ℕ → Type 0)
      → KeepsBelow system dropped (rule_number r)
      → ((n : ℕ) → IsLeastNumber P (Some n) → IsFirstShown system dropped r (spot n))
      → (least : Option ℕ) → IsLeastNumber P least → (e : FragmentFault) → IsShownWith (rule_number r) spot least (Err e)
      → IsRefusedUpTo order system dropped e
  refuse order r seven spot P below first None h e s = absurd s
  refuse order r seven spot P below first (Some n) h e s =
      outside order r (asked_below order r seven) (spot n) below (first n h) e s

  -- the same, where it is shown with variables alone
  at_variables : (r : Rule) (P : ℕ → Type 0) → ((n : ℕ) → P n → BreaksStaticRule system dropped r (AtVariable n))
      → ((n : ℕ) → BreaksStaticRule system dropped r (AtVariable n) → P n)
      → (n : ℕ) → IsLeastNumber P (Some n) → IsFirstShown system dropped r (AtVariable n)
  at_variables r P there back n h = record { breaks = there n h.0; is_first = λ other l b. before l b }
    where
      before : {other : rules.Spot} → IsShownBefore other (AtVariable n) → BreaksStaticRule system dropped r other → ⊥
      before (variables {m = k} l) b = let q = h.1 k (back k b) in omega (arith, l, q)

  -- what a rule that is shown with variables alone says of one
  s3_of : {n : ℕ} → BreaksStaticRule system dropped S3 (AtVariable n) → BreaksS3 system dropped n
  s3_of (s3 b) = b

  s4_of : {n : ℕ} → BreaksStaticRule system dropped S4 (AtVariable n) → BreaksS4 system dropped n
  s4_of (s4 b) = b

  s5_of : {n : ℕ} → BreaksStaticRule system dropped S5 (AtVariable n) → BreaksS5 system dropped n
  s5_of (s5 b) = b

  s6_of : {n : ℕ} → BreaksStaticRule system dropped S6 (AtVariable n) → BreaksS6 system dropped n
  s6_of (s6 b) = b

  module _ (p : GtsParts) (views : Views p system) where
    pub refused1 : (order least : Option ℕ) → IsLeastNumber (IsJointAt p) least → (e : FragmentFault)
        → IsShownWith 1 AtEvent least (Err e) → IsRefusedUpTo order system dropped e
    refused1 order = refuse order S1 (omega arith) AtEvent (IsJointAt p) first_rule
        (first_joint_shown p system views dropped)

    pub kept1 : (least : Option ℕ) (u : Unit {0}) → IsLeastNumber (IsJointAt p) least → IsShownWith 1 AtEvent least (Ok u)
        → KeepsBelow system dropped 2
    kept1 least u h s = next_rule S1 first_rule (no_joint_keeps p system views
        (nowhere (IsJointAt p) 1 AtEvent least u h s))

    module _ (sound : IsSound p) (marks moving : List Bool) (firsts : List (Option VarId))
        (are : AreUnitMarks p dropped marks moving firsts) (below : KeepsBelow system dropped 2) where
      pub refused2 : (order least : Option ℕ) → IsLeastNumber (IsStateless moving firsts) least → (e : FragmentFault)
          → IsShownWith 2 AtUnit least (Err e) → IsRefusedUpTo order system dropped e
      refused2 order = refuse order S2 (omega arith) AtUnit (IsStateless moving firsts) below
          (first_stateless_shown p system views dropped sound marks moving firsts are)

      pub kept2 : (least : Option ℕ) (u : Unit {0}) → IsLeastNumber (IsStateless moving firsts) least
          → IsShownWith 2 AtUnit least (Ok u) → KeepsBelow system dropped 3
      kept2 least u h s = next_rule S2 below (no_stateless_keeps p system views sound dropped marks moving firsts are
          (nowhere (IsStateless moving firsts) 2 AtUnit least u h s))

    module _ (sound : IsSound p) (below : KeepsBelow system dropped 7) where
      pub judged7 : (order : Option ℕ) (found : Option Wide) → IsFirstWide p found
          → (r : Result (Unit {0}) FragmentFault)
          → IsWideShown found r → OnResult (λ u. KeepsBelow system dropped 8) (IsRefusedUpTo order system dropped) r
      judged7 order None h (Ok u) s = next_rule S7 below (none_wide_keeps p system views h)
      judged7 order None h (Err e) s = absurd s
      judged7 order (Some w) h (Ok u) s = absurd s
      judged7 order (Some (wide.Flow n)) h (Err e) s =
          outside order S7 (asked_below order S7 (omega arith)) (AtVariable n) below
          (first_wide_shown p system views dropped sound (wide.Flow n) h) e s
      judged7 order (Some (wide.Observer n)) h (Err e) s =
          outside order S7 (asked_below order S7 (omega arith)) (AtObserver n) below
          (first_wide_shown p system views dropped sound (wide.Observer n) h) e s

  module _ {p : GtsParts} {kept : List KeptWay} (c : AreKeptWays p system dropped kept)
      (below : KeepsBelow system dropped 3) where
    pub refused3 : (order least : Option ℕ) → IsLeastNumber (OtherInGuard kept) least → (e : FragmentFault)
        → IsShownWith 3 AtVariable least (Err e) → IsRefusedUpTo order system dropped e
    refused3 order = refuse order S3 (omega arith) AtVariable (OtherInGuard kept) below
        (at_variables S3 (OtherInGuard kept) (λ n h. s3 (guard_breaks c n h))
        (λ n b. guard_other c (below S1 (omega arith)) (below S2 (omega arith)) n (s3_of b)))

    pub kept3 : (least : Option ℕ) (u : Unit {0}) → IsLeastNumber (OtherInGuard kept) least
        → IsShownWith 3 AtVariable least (Ok u) → KeepsBelow system dropped 4
    kept3 least u h s = next_rule S3 below (keeps_s3 cases_eq system dropped (below S2 (omega arith))
        (unbroken_s3 c (below S1 (omega arith)) (below S2 (omega arith))
        (nowhere (OtherInGuard kept) 3 AtVariable least u h s)))

  module _ {p : GtsParts} {kept : List KeptWay} {reaches : List Reach} (a : AreReached p system dropped kept reaches)
    where
      abbrev BreaksFour : ℕ → Type 0
      BreaksFour n = OtherInAction kept n ⊎ IsWrongAt reaches n

      module _ (below : KeepsBelow system dropped 4) where
        break4 : (n : ℕ) → BreaksFour n → BreaksStaticRule system dropped S4 (AtVariable n)
        break4 n (inl h) = s4 (action_breaks a.ways n h)
        break4 n (inr h) = s4 (wrong_breaks a n h)

        pub refused4 : (order x y z : Option ℕ) → z ≡ lesser_of_both x y → IsLeastNumber (OtherInAction kept) x
            → IsLeastNumber (IsWrongAt reaches) y → (e : FragmentFault) → IsShownWith 4 AtVariable z (Err e)
            → IsRefusedUpTo order system dropped e
        refused4 order x y z is h k e s = refuse order S4 (omega arith) AtVariable BreaksFour below
            (at_variables S4 BreaksFour break4 (λ n b. broken_s4 a (below S1 (omega arith)) (below S2 (omega arith)) n
            (s4_of b)))
            (lesser_of_both x y) (lesser_least (OtherInAction kept) (IsWrongAt reaches) x y h k) e
            (subst (λ (o : Option ℕ). IsShownWith 4 AtVariable o (Err e)) is s)

        pub kept4 : (x y z : Option ℕ) (u : Unit {0}) → z ≡ lesser_of_both x y → IsLeastNumber (OtherInAction kept) x
            → IsLeastNumber (IsWrongAt reaches) y → IsShownWith 4 AtVariable z (Ok u) → KeepsBelow system dropped 5
        kept4 x y z u is h k s =
            let none = nowhere BreaksFour 4 AtVariable (lesser_of_both x y) u
            (lesser_least (OtherInAction kept) (IsWrongAt reaches) x y h k)
            (subst (λ (o : Option ℕ). IsShownWith 4 AtVariable o (Ok u)) is s) in
            next_rule S4 below (keeps_s4 cases_eq system dropped (unbroken_s4 a (below S1 (omega arith))
            (below S2 (omega arith)) (λ n q. none n (inl q)) (λ n q. none n (inr q))))

      module _ (below : KeepsBelow system dropped 6) where
        pub refused6 : (order least : Option ℕ) → IsLeastNumber (IsAgainAt reaches) least → (e : FragmentFault)
            → IsShownWith 6 AtVariable least (Err e) → IsRefusedUpTo order system dropped e
        refused6 order = refuse order S6 (omega arith) AtVariable (IsAgainAt reaches) below
            (at_variables S6 (IsAgainAt reaches) (λ n h. s6 (again_breaks a n h))
            (λ n b. breaks_again a (below S1 (omega arith)) (below S2 (omega arith)) n (s6_of b)))

        pub kept6 : (least : Option ℕ) (u : Unit {0}) → IsLeastNumber (IsAgainAt reaches) least
            → IsShownWith 6 AtVariable least (Ok u) → KeepsBelow system dropped 7
        kept6 least u h s = next_rule S6 below (keeps_s6 cases_eq system dropped
            (unbroken_s6 a (below S1 (omega arith)) (below S2 (omega arith))
            (nowhere (IsAgainAt reaches) 6 AtVariable least u h s)))

  module _ {p : GtsParts} {kept : List KeptWay} {reaches : List Reach} {live : List Live}
      (d : AreLiveEdges p system dropped kept reaches live) where
    module _ (below : KeepsBelow system dropped 5) where
      pub refused5 : (order least : Option ℕ) → IsLeastNumber (IsShared live (length live)) least → (e : FragmentFault)
          → IsShownWith 5 AtVariable least (Err e) → IsRefusedUpTo order system dropped e
      refused5 order = refuse order S5 (omega arith) AtVariable (IsShared live (length live)) below
          (at_variables S5 (IsShared live (length live)) (λ n h. s5
          (shared_breaks d (below S1 (omega arith)) (below S2 (omega arith)) n h))
          (λ n b. breaks_shared d (below S1 (omega arith)) (below S2 (omega arith)) n (s5_of b)))

      pub kept5 : (least : Option ℕ) (u : Unit {0}) → IsLeastNumber (IsShared live (length live)) least
          → IsShownWith 5 AtVariable least (Ok u) → KeepsBelow system dropped 6
      kept5 least u h s = next_rule S5 below (keeps_s5 cases_eq system dropped
          (unbroken_s5 d (below S1 (omega arith)) (below S2 (omega arith))
          (nowhere (IsShared live (length live)) 5 AtVariable least u h s)))

    module _ (count : ℕ) (s : Sharing) (is : IsSharing count live (length live) s) (below : KeepsBelow system dropped 8)
      where
        nothing_before : (other : rules.Spot) → IsShownBefore other AtWhole → BreaksStaticRule system dropped S8 other
            → ⊥
        nothing_before other h b = elim h [ ]

        -- where a number of events is given the rules that are asked are those below the eighth, else it is judged too
        pub counted : (order : Option ℕ) (r : Result (Unit {0}) FragmentFault)
            → IsCountedUpTo order (length s.events.items) r
            → OnResult (λ u. KeepsUpTo order system dropped) (IsRefusedUpTo order system dropped) r
        counted None (Ok u) h = all_rules (next_rule S8 below
            (few_keep d (below S1 (omega arith)) (below S2 (omega arith)) count s is h))
        counted None (Err e) h = outside None S8 tt AtWhole below (record {
          breaks = s8 (many_break d count s is h.0);
          is_first =
              nothing_before;
        }) e h.1
        counted (Some k) (Ok u) h = record { each = λ rule asked. below rule asked }
        counted (Some k) (Err e) h = absurd h

-- what is known of the units, as it is read
pub units_are : (p : GtsParts) (dropped given : List ℕ) (count : ℕ) (marks seen moving : List Bool)
    (firsts : List (Option VarId)) → dropped ≡ given → count ≡ length p.events.items → seen ≡ marks
    → AreMarks count given marks → AreMoving p seen (length p.events.items) moving
    → AreFirstStates p (length p.variables.items) firsts → AreUnitMarks p dropped marks moving firsts
units_are p dropped given count marks seen moving firsts i j k a b c = record {
  are_marks = subst (λ (z : List ℕ). AreMarks (length p.events.items) z marks) (sym i)
      (subst (λ (z : ℕ). AreMarks z given marks) j a);
  are_moving = subst (λ (z : List Bool). AreMoving p z (length p.events.items) moving) k b;
  are_firsts = c;
}

pub stateless_as : (moving seen : List Bool) (firsts read : List (Option VarId)) (least : Option ℕ) → seen ≡ moving
    → read ≡ firsts → IsLeastNumber (IsStateless seen read) least → IsLeastNumber (IsStateless moving firsts) least
stateless_as moving seen firsts read least i j h =
    subst (λ (z : List (Option VarId)). IsLeastNumber (IsStateless moving z) least) j
    (subst (λ (z : List Bool). IsLeastNumber (IsStateless z read) least) i h)

module _ (system : System ℕ) (dropped : List ℕ) where
  pub ways_are : (p : GtsParts) (u : Units) (seen : List Bool) (kept : List KeptWay) → IsSound p
      → HasUnits p u system dropped → seen ≡ u.marks.items
      → AreKeptWaysBefore p seen (length p.events.items) 0 kept → AreKeptWays p system dropped kept
  ways_are p u seen kept sound h i k = record {
    views = h.views;
    sound = sound;
    marks = u.marks.items;
    marked = h.units.are_marks;
    are = subst (λ (z : List Bool). AreKeptWaysBefore p z (length p.events.items) 0 kept) i k;
  }

  pub judged6 : (order : Option ℕ) (p : GtsParts) (reaches : List Reach) → HasReaches 6 p reaches system dropped
      → (least : Option ℕ) → IsLeastNumber (IsAgainAt reaches) least → (r : Result (Unit {0}) FragmentFault)
      → IsShownWith 6 AtVariable least r → OnResult (λ u. HasReaches 7 p reaches system dropped)
      (IsRefusedUpTo order system dropped) r
  judged6 order p reaches h least l (Ok u) s = record {
    kept = h.kept;
    reached = h.reached;
    keeps = kept6 system dropped
        h.reached h.keeps least u l s;
  }
  judged6 order p reaches h least l (Err e) s = refused6 system dropped h.reached h.keeps order least l e s

  -- what is known goes on where more rules are kept
  pub reaches_on : (m n : ℕ) (p : GtsParts) (reaches read : List Reach) → HasReaches m p reaches system dropped
      → KeepsBelow system dropped n → read ≡ reaches → HasReaches n p read system dropped
  reaches_on m n p reaches read h k i = subst (λ (z : List Reach). HasReaches n p z system dropped) (sym i)
      (record { kept = h.kept; reached = h.reached; keeps = k })

  pub sharing_on : (m n : ℕ) (s : Sharing) → HasSharing m s system dropped → KeepsBelow system dropped n
      → HasSharing n s system dropped
  sharing_on m n s h k = record {
    parts = h.parts;
    kept = h.kept;
    reaches = h.reaches;
    live = h.live;
    edges = h.edges;
    count = h.count;
    sharing = h.sharing;
    keeps = k;
  }

  -- what is known where a rule more is kept
  seen_next : (order : Option ℕ) (p : GtsParts) → IsSeenBelow 7 p system dropped
      → (r : Result (Unit {0}) FragmentFault)
      → OnResult (λ u. KeepsBelow system dropped 8) (IsRefusedUpTo order system dropped) r
      → OnResult (λ u. IsSeenBelow 8 p system dropped) (IsRefusedUpTo order system dropped) r
  seen_next order p h (Ok u) k = record { views = h.views; keeps = k }
  seen_next order p h (Err e) k = k

  pub values_judged : (order : Option ℕ) (p : GtsParts) → IsSound p → IsSeenBelow 7 p system dropped
      → (found : Option Wide) → IsFirstWide p found → (r : Result (Unit {0}) FragmentFault) → IsWideShown found r
      → OnResult (λ u. IsSeenBelow 8 p system dropped) (IsRefusedUpTo order system dropped) r
  values_judged order p sound h found f r s = seen_next order p h r
      (judged7 system dropped p h.views sound h.keeps order found f r s)

  pub events_judged : (order : Option ℕ) (s : Sharing) → HasSharing 8 s system dropped → (count : ℕ)
      → count ≡ length s.events.items
      → (r : Result (Unit {0}) FragmentFault) → IsCountedUpTo order count r
      → OnResult (λ u. KeepsUpTo order system dropped) (IsRefusedUpTo order system dropped) r
  events_judged order s h count i r k = counted system dropped h.edges h.count s h.sharing h.keeps order r
      (subst (λ (z : ℕ). IsCountedUpTo order z r) i k)
