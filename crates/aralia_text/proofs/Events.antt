-- An event at the front of a text.
use Rattle.std.proofs.Common.{◌≡◌, ℕ, suc, ◌+◌, ◌-◌, ◌≤◌, ◌<◌, ◌⊎◌, inl, inr, true, false, true≢false, List, [], ◌∷◌, ◌++◌, codes, length, take, drop, refl, sym, ap, ◌∙◌, subst, append_assoc, arith, unwrap_or, max}
use Rattle.std.proofs.lemmas.List.{append_cancel_left, length-take-le, length-drop, take-append-drop, take-append-le}
use Rattle.ar_base.specs.Lists.{Stands, HasNo, AreDifferent}
use Rattle.ar_base.specs.Texts.{text_at}
use Rattle.ar_base.proofs.Standing.{stands_one, stands_within, at_most}
use Rattle.ar_base.proofs.Comparing.{side}
use Rattle.aralia_text.specs.Readings.{is_path_byte, IsPath}
use Rattle.aralia_text.specs.Fronts.{PathStops, IsAny, BeginAlike, IsRead, AreBegun, none, part, IsStuck, IsStuckIn, AreCommon, IsPathOf, event_text, HasNoEvent, IsEventPart}
use Rattle.aralia_text.proofs.Runs.{IsRun, run_path, run_left, path_unique, path_byte}
use Rattle.aralia_text.proofs.Stuck.{alike_stops, stops_alike, alike_head, Compared, shorter, same, longer, compared, not_stuck}

-- the text of what stands there
pub text_is : (events : List (List ℕ)) (e : ℕ) (path : List ℕ) → Stands events e path → text_at events e ≡ path
text_is events e path s = ap (λ (z : _). unwrap_or z []) s

module _ (events : List (List ℕ)) (rest : List ℕ) where
  module _ (behind run left : List ℕ) (begun : rest ≡ codes "e." ++ behind) (cut : IsRun behind run left) where
    pub event_read : (n m : ℕ) → AreDifferent events → Stands events n run → m ≡ n
        → IsRead (IsPathOf events) (event_text events) PathStops rest m left
    event_read n m different stands new =
        subst (λ (k : ℕ). IsRead (IsPathOf events) (event_text events) PathStops rest k left) (sym new) (record {
          sought = record { path = run; stands = stands; is_path = run_path behind run left cut };
          joined = begun ∙ ap (λ (z : List ℕ). codes "e." ++ z)
              (cut.joined ∙ ap (λ (z : List ℕ). z ++ left) (sym (text_is events n run stands)));
          only = λ b back other is stop alike e.
              let path : run ++ other ≡ is.path ++ back =
              sym (ap (λ (z : List ℕ). z ++ other) (text_is events n run stands))
              ∙ append_cancel_left (codes "e.") (text_at events n ++ other) (text_at events b ++ back) e
              ∙ ap (λ (z : List ℕ). z ++ back) (text_is events b is.path is.stands) in
              let one = path_unique run is.path other back (run_path behind run left cut) is.is_path
              (alike_stops left other alike (run_left behind run left cut)) stop path in
              (different.one b n run (subst (λ (z : List ℕ). Stands events b z) one.0 is.stands) stands, one.1);
        })

    pub event_not_found : HasNo events (λ t. t ≡ run) → HasNoEvent events rest
    event_not_found lacks = record {
      none = λ e back is stop f.
          let path : run ++ left ≡ is.path ++ back =
          sym cut.joined ∙ append_cancel_left (codes "e.") behind (text_at events e ++ back) (sym begun ∙ f)
          ∙ ap (λ (z : List ℕ). z ++ back) (text_is events e is.path is.stands) in
          lacks.has_not e is.path is.stands
          (path_unique run is.path left back (run_path behind run left cut) is.is_path
          (run_left behind run left cut) stop path).0;
    }

  pub no_event_mark : (n : ℕ) → IsStuckIn (codes "e.") rest n → HasNoEvent events rest
  no_event_mark n k = record {
    none = λ e back is stop f. not_stuck (λ u. Unit {0}) (λ u. codes "e.") IsAny rest n k tt (text_at events e ++ back)
        tt tt f;
  }

  -- the bytes of a path behind `e.`
  inside : (a b : ℕ) (d : ℕ) (x more : List ℕ) → (is : IsPathOf events b)
      → event_text events b ≡ (event_text events a ++ (d ∷ x)) ++ more → is_path_byte d ≡ true
  inside a b d x more is e =
      let path : text_at events b ≡ (text_at events a ++ (d ∷ x)) ++ more =
      append_cancel_left (codes "e.") (text_at events b) ((text_at events a ++ (d ∷ x)) ++ more) e in
      path_byte (text_at events a) d (x ++ more)
      (subst IsPath (sym (text_is events b is.path is.stands) ∙ path ∙ append_assoc (text_at events a) (d ∷ x) more)
      is.is_path)

  pub event_stuck : (n : ℕ) → IsEventPart events rest n → HasNoEvent events rest
      → IsStuck (IsPathOf events) (event_text events) PathStops rest (length rest - n)
  event_stuck n event lacks = record {
    front = take n rest;
    left = drop n rest;
    joined = sym (take-append-drop n rest);
    count = length-drop n rest;
    begun = event.begun;
    wrong = λ a back other is stop alike e. by a back other is stop alike
        (compared (take n rest) (event_text events a) other back e);
  }
    where
      not_longer : (a : ℕ) (d : ℕ) (x : List ℕ) → is_path_byte d ≡ false → take n rest ≡ event_text events a ++ (d ∷ x)
          → AreBegun (IsPathOf events) (event_text events) (take n rest) → ⊥
      not_longer a d x stop i (none e) =
          let two : ◌≡◌ {A = List ℕ} [] (101 ∷ 46 ∷ (text_at events a ++ (d ∷ x))) = sym e ∙ i in
          let size : 0 ≡ length (101 ∷ 46 ∷ (text_at events a ++ (d ∷ x))) = ap length two in
          omega (arith, size)
      not_longer a d x stop i (part b more is e) =
          true≢false (sym (inside a b d x more is (e ∙ ap (λ (z : List ℕ). z ++ more) i)) ∙ stop)

      by : (a : ℕ) (back other : List ℕ) → IsPathOf events a → PathStops back → BeginAlike (drop n rest) other
          → Compared (take n rest) (event_text events a) other back → ⊥
      by a back other is stop alike (shorter d x i j) =
          let head = alike_head (drop n rest) other d (x ++ back) alike j in
          let short = event.most a is (take n rest) d head.0 x
          (sym (take-append-drop n rest) ∙ ap (λ (z : List ℕ). take n rest ++ z) head.1) i in
          let long = length-take-le n rest event.within in
          omega (arith, short, long)
      by a back other is stop alike (same i j) =
          lacks.none a (drop n rest) is (stops_alike (drop n rest) other alike (subst PathStops (sym j) stop))
          (sym (take-append-drop n rest) ∙ ap (λ (z : List ℕ). z ++ drop n rest) (sym i))
      by a back other is stop alike (longer d x i j) = not_longer a d x (subst PathStops j stop) i event.begun

  -- how far the events were looked through
  pub record IsPartSoFar (n most : ℕ) : Type 0 where
    pub within : most ≤ length rest
    pub begun : AreBegun (IsPathOf events) (event_text events) (take most rest)
    pub longest : (e : ℕ) → e < n → IsPathOf events e → (front : List ℕ) (c : ℕ) (x y : List ℕ) → rest ≡ front ++ c ∷ x
        → event_text events e ≡ front ++ c ∷ y → length front < most

  pub part_start : IsPartSoFar 0 0
  part_start = record { within = omega arith; begun = none refl; longest = λ e below. absurd (omega (arith, below)) }

  pub part_done : (n most : ℕ) → IsPartSoFar n most → length events ≤ n → IsEventPart events rest most
  part_done n most far all = record {
    within = far.within;
    begun = far.begun;
    most = λ e is. let inside = stands_within events e is.path is.stands in far.longest e (omega (arith, all, inside)) is;
  }

  pub part_passed : (n most : ℕ) (path : List ℕ) → IsPartSoFar n most → Stands events n path → (IsPath path → ⊥)
      → IsPartSoFar (n + 1) most
  part_passed n most path far stands other = record {
    within = far.within;
    begun = far.begun;
    longest = λ e below is front c x y i j. elim (at_most e n below) [
      | inl before ↦ far.longest e before is front c x y i j
      | inr now ↦ absurd (other (subst IsPath
          (stands_one events n is.path path (subst (λ (k : ℕ). Stands events k is.path) now is.stands) stands)
          is.is_path))
    ];
  }

  module _ (n most new k : ℕ) (path : List ℕ) (far : IsPartSoFar n most) (stands : Stands events n path)
      (is_path : IsPath path) (common : AreCommon rest (codes "e." ++ path) k) where
    here : IsPathOf events n
    here = record { path = path; stands = stands; is_path = is_path }

    path_begun : AreBegun (IsPathOf events) (event_text events) (take k rest)
    path_begun =
        part n (drop k (codes "e." ++ path)) here
        (ap (λ (z : List ℕ). codes "e." ++ z) (text_is events n path stands)
        ∙ sym (take-append-drop k (codes "e." ++ path))
        ∙ ap (λ (z : List ℕ). z ++ drop k (codes "e." ++ path)) (sym common.same))

    more : most ≤ new → k ≤ new → (new ≡ most) ⊎ (new ≡ k) → IsPartSoFar (n + 1) new
    more above over which = record {
      within = elim which [ inl i ↦ (let w = far.within in omega (arith, i, w)) | inr i ↦ (let w = common.in_a in omega (arith, i, w)) ];
      begun = elim which [
        | inl i ↦ subst (λ (z : ℕ). AreBegun (IsPathOf events) (event_text events) (take z rest)) (sym i) far.begun
        | inr i ↦ subst (λ (z : ℕ). AreBegun (IsPathOf events) (event_text events) (take z rest)) (sym i) path_begun
      ];
      longest = λ e below is front c x y i j. elim (at_most e n below) [
        | inl before ↦ (let l = far.longest e before is front c x y i j in omega (arith, l, above))
        | inr now ↦
            (let text : codes "e." ++ path ≡ front ++ c ∷ y = ap (λ (z : List ℕ). codes "e." ++ z) (sym (text_is events n path stands)) ∙ ap (event_text events) (sym now) ∙ j in
            let l = common.most front c x y i text in omega (arith, l, over))
      ];
    }

    pub part_more : new ≡ max most k → IsPartSoFar (n + 1) new
    part_more is =
        let above : most ≤ new = omega (arith, is) in
        let over : k ≤ new = omega (arith, is) in
        more above over (which (side k most))
      where
        which : (k ≤ most) ⊎ (most < k) → (new ≡ most) ⊎ (new ≡ k)
        which (inl l) = inl (omega (arith, is, l))
        which (inr l) = inr (omega (arith, is, l))

-- The same bytes of a text and of `e.` with a path behind it

module _ (rest path : List ℕ) where
  pub mark_common : (behind : List ℕ) (n : ℕ) → rest ≡ codes "e." ++ behind → AreCommon behind path n
      → AreCommon rest (codes "e." ++ path) (2 + n)
  mark_common behind n e common = record {
    in_a = let size : length rest ≡ length (codes "e." ++ behind) = ap length e in let w = common.in_a in omega (arith, size, w);
    in_b = let w = common.in_b in omega (arith, w);
    same = two_on n (ap (take (2 + n)) e) common.same;
    most = λ front c x y i j. by front c x y (sym e ∙ i) j;
  }
    where
      two_on : (m : ℕ) → take (2 + m) rest ≡ take (2 + m) (codes "e." ++ behind) → take m behind ≡ take m path
          → take (2 + m) rest ≡ take (2 + m) (codes "e." ++ path)
      two_on m i s =
          let q : 2 + m ≡ suc (suc m) = omega arith in
          i ∙ ap (λ (k : ℕ). take k (codes "e." ++ behind)) q ∙ ap (λ (z : List ℕ). codes "e." ++ z) s
          ∙ ap (λ (k : ℕ). take k (codes "e." ++ path)) (sym q)

      by : (front : List ℕ) (c : ℕ) (x y : List ℕ) → codes "e." ++ behind ≡ front ++ c ∷ x
          → codes "e." ++ path ≡ front ++ c ∷ y → length front < 2 + n
      by [] c x y i j = omega arith
      by (a ∷ []) c x y i j = omega arith
      by (a ∷ b ∷ front) c x y i j =
          let one : ◌≡◌ {A = List ℕ} (101 ∷ 46 ∷ behind) (a ∷ b ∷ (front ++ c ∷ x)) = i in
          let two : ◌≡◌ {A = List ℕ} (101 ∷ 46 ∷ path) (a ∷ b ∷ (front ++ c ∷ y)) = j in
          let l = common.most front c x y (cc) (cc) in
          omega (arith, l)

  -- `e.` itself does not stand there
  pub mark_part : (n k : ℕ) → IsStuckIn (codes "e.") rest k → AreCommon rest (codes "e.") n
      → AreCommon rest (codes "e." ++ path) n
  mark_part n k stuck common = record {
    in_a = common.in_a;
    in_b = let w = common.in_b in omega (arith, w);
    same = common.same ∙ sym (take-append-le n (codes "e.") path common.in_b);
    most = λ front c x y i j. by front c x y i j;
  }
    where
      by : (front : List ℕ) (c : ℕ) (x y : List ℕ) → rest ≡ front ++ c ∷ x → codes "e." ++ path ≡ front ++ c ∷ y
          → length front < n
      by [] c x y i j =
          let two : ◌≡◌ {A = List ℕ} (101 ∷ 46 ∷ path) (c ∷ y) = j in
          let head : ◌≡◌ {A = ℕ} 101 c = cc in
          common.most [] c x (46 ∷ []) i (ap (λ (z : ℕ). z ∷ 46 ∷ []) head)
      by (a ∷ []) c x y i j =
          let two : ◌≡◌ {A = List ℕ} (101 ∷ 46 ∷ path) (a ∷ c ∷ y) = j in
          let first : ◌≡◌ {A = ℕ} 101 a = cc in
          let second : ◌≡◌ {A = ℕ} 46 c = cc in
          common.most (a ∷ []) c x [] i (ap (λ (z : ℕ). z ∷ 46 ∷ []) first ∙ ap (λ (z : ℕ). a ∷ z ∷ []) second)
      by (a ∷ b ∷ front) c x y i j =
          let two : ◌≡◌ {A = List ℕ} (101 ∷ 46 ∷ path) (a ∷ b ∷ (front ++ c ∷ y)) = j in
          let first : ◌≡◌ {A = ℕ} 101 a = cc in
          let second : ◌≡◌ {A = ℕ} 46 b = cc in
          absurd (not_stuck (λ u. Unit {0}) (λ u. codes "e.") IsAny rest k stuck tt (front ++ c ∷ x) tt tt
          (i ∙ ap (λ (z : ℕ). z ∷ b ∷ (front ++ c ∷ x)) (sym first)
          ∙ ap (λ (z : ℕ). 101 ∷ z ∷ (front ++ c ∷ x)) (sym second)))
