-- Where a reading is stuck.
use Rattle.std.proofs.Common.{◌≡◌, ℕ, ◌+◌, ◌-◌, false, ◌==◌, List, [], ◌∷◌, ◌++◌, length, take, drop, refl, sym, ap, ◌∙◌, subst, append_assoc, append-nil, arith}
use Rattle.std.proofs.lemmas.List.{append_cancel_left, length-append, length-take-le, length-drop, take-append-drop}
use Rattle.aralia_text.specs.Readings.{is_path_byte}
use Rattle.aralia_text.specs.Fronts.{PathStops, IsAny, BeginAlike, begins_with, IsRead, AreBegun, none, part, IsStuck, IsStuckIn, AreCommon}

-- The same byte first

pub alike_self : (x : List ℕ) → BeginAlike x x
alike_self [] = tt
alike_self (b ∷ bs) = refl

pub alike_behind : (front left other : List ℕ) → BeginAlike left other → BeginAlike (front ++ left) (front ++ other)
alike_behind [] left other h = h
alike_behind (b ∷ front) left other h = refl

pub alike_first : (c : ℕ) (left other : List ℕ) → BeginAlike left other → begins_with c other ≡ begins_with c left
alike_first c [] [] h = refl
alike_first c [] (d ∷ ds) h = absurd h
alike_first c (b ∷ bs) [] h = absurd h
alike_first c (b ∷ bs) (d ∷ ds) h = ap (λ (z : ℕ). z == c) (sym h)

pub alike_stops : (left other : List ℕ) → BeginAlike left other → PathStops left → PathStops other
alike_stops [] [] h s = tt
alike_stops [] (d ∷ ds) h s = absurd h
alike_stops (b ∷ bs) [] h s = absurd h
alike_stops (b ∷ bs) (d ∷ ds) h s = subst (λ (z : ℕ). is_path_byte z ≡ false) h s

pub stops_alike : (left other : List ℕ) → BeginAlike left other → PathStops other → PathStops left
stops_alike [] [] h s = tt
stops_alike [] (d ∷ ds) h s = absurd h
stops_alike (b ∷ bs) [] h s = absurd h
stops_alike (b ∷ bs) (d ∷ ds) h s = subst (λ (z : ℕ). is_path_byte z ≡ false) (sym h) s

-- what stands first in `other`, which begins as `left` does
pub alike_head : (left other : List ℕ) (d : ℕ) (z : List ℕ) → BeginAlike left other → other ≡ d ∷ z
    → (y : List ℕ) × (left ≡ d ∷ y)
alike_head left other d z h e = by left (subst (BeginAlike left) e h)
  where
    by : (left : List ℕ) → BeginAlike left (d ∷ z) → (y : List ℕ) × (left ≡ d ∷ y)
    by [] i = absurd i
    by (b ∷ bs) i = (bs, ap (λ (c : ℕ). c ∷ bs) i)

-- Two ways to cut a text

pub data Compared (front text other back : List ℕ) : Type 0 where
  shorter : (d : ℕ) (x : List ℕ) → text ≡ front ++ (d ∷ x) → other ≡ d ∷ (x ++ back) → Compared front text other back
  same : text ≡ front → other ≡ back → Compared front text other back
  longer : (d : ℕ) (x : List ℕ) → front ≡ text ++ (d ∷ x) → back ≡ d ∷ (x ++ other) → Compared front text other back

further : (c d : ℕ) (front text other back : List ℕ) → c ≡ d → Compared front text other back
    → Compared (c ∷ front) (d ∷ text) other back
further c d front text other back h (shorter e x i j) =
    shorter e x (ap (λ (z : ℕ). z ∷ text) (sym h) ∙ ap (λ (z : List ℕ). c ∷ z) i) j
further c d front text other back h (same i j) =
    same (ap (λ (z : ℕ). z ∷ text) (sym h) ∙ ap (λ (z : List ℕ). c ∷ z) i) j
further c d front text other back h (longer e x i j) =
    longer e x (ap (λ (z : ℕ). z ∷ front) h ∙ ap (λ (z : List ℕ). d ∷ z) i) j

pub compared : (front text other back : List ℕ) → front ++ other ≡ text ++ back → Compared front text other back
compared [] [] other back e = same refl e
compared [] (d ∷ x) other back e = shorter d x refl e
compared (d ∷ x) [] other back e = longer d x refl (sym e)
compared (c ∷ front) (d ∷ text) other back e =
    let both : ◌≡◌ {A = List ℕ} (c ∷ (front ++ other)) (d ∷ (text ++ back)) = e in
    let head : ◌≡◌ {A = ℕ} c d = cc in
    let rest : ◌≡◌ {A = List ℕ} (front ++ other) (text ++ back) = cc in
    further c d front text other back head (compared front text other back rest)

-- What is stuck behind a front is stuck

module _ {A B : Type 0} (S : A → Type 0) (s : A → List ℕ) (E : List ℕ → Type 0) (T : B → Type 0) (t : B → List ℕ)
    (F : List ℕ → Type 0) where
  -- the text of something sought has this front and then that of the part
  pub record Whole (front : List ℕ) (a : A) : Type 0 where
    pub b : B
    pub more : List ℕ
    pub sought : T b
    pub is : t b ≡ front ++ (s a ++ more)

  -- a part stands here
  pub record Inside (other : List ℕ) : Type 0 where
    pub a : A
    pub back : List ℕ
    pub sought : S a
    pub ends : E back
    pub is : other ≡ s a ++ back

  -- the part is begun, so the whole is
  module _ (front part_front : List ℕ) (begun : AreBegun T t front) (whole : (a : A) → S a → Whole front a) where
    pub begun_behind : AreBegun S s part_front → AreBegun T t (front ++ part_front)
    begun_behind (none e) = subst (AreBegun T t) (sym (append-nil front) ∙ ap (λ (z : List ℕ). front ++ z) (sym e))
        begun
    begun_behind (part a more is e) =
        let w = whole a is in
        part w.b (more ++ w.more) w.sought
        (w.is ∙ ap (λ (z : List ℕ). front ++ (z ++ w.more)) e
        ∙ ap (λ (z : List ℕ). front ++ z) (append_assoc part_front more w.more)
        ∙ sym (append_assoc front part_front (more ++ w.more)))

  pub stuck_behind : (rest front behind : List ℕ) (n : ℕ) → rest ≡ front ++ behind → AreBegun T t front
      → ((a : A) → S a → Whole front a)
      → ((b : B) (back other : List ℕ) → T b → F back → BeginAlike behind other → front ++ other ≡ t b ++ back
      → Inside other)
      → IsStuck S s E behind n → IsStuck T t F rest n
  stuck_behind rest front behind n c begun whole split k = record {
    front = front ++ k.front;
    left = k.left;
    joined = c ∙ ap (λ (z : List ℕ). front ++ z) k.joined ∙ sym (append_assoc front k.front k.left);
    count = k.count;
    begun = begun_behind front k.front begun whole k.begun;
    wrong = λ b back other is ends alike e.
        let as_one : BeginAlike behind (k.front ++ other) =
        subst (λ (z : List ℕ). BeginAlike z (k.front ++ other)) (sym k.joined)
        (alike_behind k.front k.left other alike) in
        let i = split b back (k.front ++ other) is ends as_one (sym (append_assoc front k.front other) ∙ e) in
        k.wrong i.a i.back other i.sought i.ends alike i.is;
  }

  -- nothing stands before the part
  pub stuck_here : (rest : List ℕ) (n : ℕ) → ((a : A) → S a → Whole [] a)
      → ((b : B) (back other : List ℕ) → T b → F back → BeginAlike rest other → other ≡ t b ++ back → Inside other)
      → IsStuck S s E rest n → IsStuck T t F rest n
  stuck_here rest n whole split k = stuck_behind rest [] rest n refl (none refl) whole split k

module _ {A : Type 0} (S : A → Type 0) (s : A → List ℕ) (E : List ℕ → Type 0) where
  pub not_stuck : (rest : List ℕ) (n : ℕ) → IsStuck S s E rest n → (a : A) (back : List ℕ) → S a → E back
      → rest ≡ s a ++ back → ⊥
  not_stuck rest n k a back is ends e = k.wrong a back k.left is ends (alike_self k.left) (sym k.joined ∙ e)

  -- nothing is sought
  pub stuck_at_once : (rest : List ℕ) → ((a : A) → S a → ⊥) → IsStuck S s E rest (length rest)
  stuck_at_once rest lacks = record {
    front = [];
    left = rest;
    joined = refl;
    count = refl;
    begun = none refl;
    wrong = λ a back other is ends alike e. lacks a is;
  }

-- Fixed texts

pub text_first : (one more rest : List ℕ) (n : ℕ) → IsStuckIn one rest n → IsStuckIn (one ++ more) rest n
text_first one more rest n k =
    stuck_here (λ u. Unit {0}) (λ u. one) IsAny (λ u. Unit {0}) (λ u. one ++ more) IsAny rest n
    (λ a is. record { b = tt; more = more; sought = tt; is = refl })
    (λ b back other is ends alike e. record
    { a = tt; back = more ++ back; sought = tt; ends = tt; is = e ∙ append_assoc one more back }) k

pub text_next : (one two rest behind : List ℕ) (n : ℕ) → rest ≡ one ++ behind → IsStuckIn two behind n
    → IsStuckIn (one ++ two) rest n
text_next one two rest behind n c k =
    stuck_behind (λ u. Unit {0}) (λ u. two) IsAny (λ u. Unit {0}) (λ u. one ++ two) IsAny rest one behind n c
    (part tt two tt refl)
    (λ a is. record { b = tt; more = []; sought = tt; is = ap (λ (z : List ℕ). one ++ z) (sym (append-nil two)) })
    (λ b back other is ends alike e. record {
      a = tt;
      back = back;
      sought = tt;
      ends = tt;
      is = append_cancel_left one other (two ++ back) (e ∙ append_assoc one two back);
    }) k

-- as many bytes of the text as are common to both
module _ (text rest : List ℕ) (n : ℕ) (common : AreCommon rest text n) where
  text_begun : text ≡ take n rest ++ drop n text
  text_begun = sym (take-append-drop n text) ∙ ap (λ (z : List ℕ). z ++ drop n text) (sym common.same)

  pub text_stuck : ((back : List ℕ) → rest ≡ text ++ back → ⊥) → IsStuckIn text rest (length rest - n)
  text_stuck not_all = record {
    front = take n rest;
    left = drop n rest;
    joined = sym (take-append-drop n rest);
    count = length-drop n rest;
    begun = part tt (drop n text) tt text_begun;
    wrong = λ a back other is ends alike e. by back other alike (compared (take n rest) text other back e);
  }
    where
      by : (back other : List ℕ) → BeginAlike (drop n rest) other → Compared (take n rest) text other back → ⊥
      by back other alike (shorter d x i j) =
          let head = alike_head (drop n rest) other d (x ++ back) alike j in
          let short = common.most (take n rest) d head.0 x
          (sym (take-append-drop n rest) ∙ ap (λ (z : List ℕ). take n rest ++ z) head.1) i in
          let long = length-take-le n rest common.in_a in
          omega (arith, short, long)
      by back other alike (same i j) = not_all (drop n rest)
          (sym (take-append-drop n rest) ∙ ap (λ (z : List ℕ). z ++ drop n rest) (sym i))
      by back other alike (longer d x i j) =
          let size : length (take n rest) ≡ length text + length (d ∷ x) = ap length i ∙ length-append text (d ∷ x) in
          let some : length (d ∷ x) ≡ length x + 1 = omega arith in
          let long = length-take-le n rest common.in_a in
          let within = common.in_b in
          omega (arith, size, some, long, within)

-- What is sought behind a fixed text
module _ {A : Type 0} (S : A → Type 0) (s : A → List ℕ) (E : List ℕ → Type 0) (text rest : List ℕ) where
  abbrev prefixed : A → List ℕ
  prefixed a = text ++ s a

  pub no_prefix : (a : A) → S a → (n : ℕ) → IsStuckIn text rest n → IsStuck S prefixed E rest n
  no_prefix a sought n k =
      stuck_here (λ u. Unit {0}) (λ u. text) IsAny S prefixed E rest n
      (λ u is. record { b = a; more = s a; sought = sought; is = refl })
      (λ b back other is ends alike e. record
      { a = tt; back = s b ++ back; sought = tt; ends = tt; is = e ∙ append_assoc text (s b) back }) k

  module _ (behind : List ℕ) (begun : rest ≡ text ++ behind) where
    pub prefixed_stuck : (a : A) → S a → (n : ℕ) → IsStuck S s E behind n → IsStuck S prefixed E rest n
    prefixed_stuck a sought n k =
        stuck_behind S s E S prefixed E rest text behind n begun (part a (s a) sought refl)
        (λ b is. record { b = b; more = []; sought = is; is = ap (λ (z : List ℕ). text ++ z) (sym (append-nil (s b))) })
        (λ b back other is ends alike e. record {
          a = b;
          back = back;
          sought = is;
          ends = ends;
          is = append_cancel_left text other (s b ++ back) (e ∙ append_assoc text (s b) back);
        }) k

    pub prefixed_read : (a : A) (left : List ℕ) → IsRead S s E behind a left → IsRead S prefixed E rest a left
    prefixed_read a left r = record {
      sought = r.sought;
      joined = begun ∙ ap (λ (z : List ℕ). text ++ z) r.joined ∙ sym (append_assoc text (s a) left);
      only = λ b back other is ends alike e.
          r.only b back other is ends alike
          (append_cancel_left text (s a ++ other) (s b ++ back)
          (sym (append_assoc text (s a) other) ∙ e ∙ append_assoc text (s b) back));
    }
