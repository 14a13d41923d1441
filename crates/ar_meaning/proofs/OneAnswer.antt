-- Flows, steps have one answer.
use Rattle.std.proofs.Common.{◌≡◌, ◌<◌, inl, inr, ℕ, zero, suc, List, ◌∷◌, refl, sym, ap, subst, arith}
use Rattle.ar_base.specs.Lists.{IsFirst, HasNo}
use Rattle.ar_meaning.specs.Systems.{Variable, Net, Way}
use Rattle.ar_meaning.specs.Facts.{FactOf}
use Rattle.ar_meaning.specs.Flows.{HasTwo, IsBrokenAssign, Completes, none, state, known, unknown, Outcome, Fails, Total, Two, Outside, Broken, Flows, two, outside, broken, all_hold}
use Rattle.ar_meaning.specs.Steps.{Clashes, LeavesDomain, Receives, changed, kept, StepFault, Answer, Refused, Next, NotEnabled, Clash, Range, Flow, Step, not_enabled, clash, range, flow, moves}
use Rattle.ar_meaning.specs.Steps as r
use Rattle.domains.specs.declared.Value.{Value}
use Rattle.typed_expr.proofs.Listing.{value_told}

pub first_same : {A : Type 0} {all : List A} {P : A → Type 0} {m n : ℕ} → IsFirst all P m → IsFirst all P n → m ≡ n
first_same {m = m} {n = n} a b =
    let h : m < n → ⊥ = λ l. b.before m a.item l a.stands a.has in
    let k : n < m → ⊥ = λ l. a.before n b.item l b.stands b.has in
    omega arith

pub no_first : {A : Type 0} {all : List A} {P : A → Type 0} {n : ℕ} → HasNo all P → IsFirst all P n → ⊥
no_first {n = n} h a = h.has_not n a.item a.stands a.has

pub head_has_not : {A : Type 0} {x : A} {xs : List A} {P : A → Type 0} → HasNo (x ∷ xs) P → P x → ⊥
head_has_not {x = x} h p = h.has_not zero x refl p

pub rest_has_no : {A : Type 0} {x : A} {xs : List A} {P : A → Type 0} → HasNo (x ∷ xs) P → HasNo xs P
rest_has_no h = record { has_not = λ k a s p. h.has_not (suc k) a s p }

-- two values that are not different are one
pub same_value : (v w : Value) → ((v ≡ w → ⊥) → ⊥) → v ≡ w
same_value v w h = elim (value_told v w) [ inl e ↦ e | inr n ↦ absurd (h n) ]

module _ {V : Type 0} (net : Net V) where
  pub completes_same : (t : List Value) {xs : List (Variable V)} {vs ws us : List Value} → HasNo xs (HasTwo net t)
      → Completes (FactOf net t) xs vs ws → Completes (FactOf net t) xs vs us → ws ≡ us
  completes_same t h none none = refl
  completes_same t h (state {v = v} s d) (state s' d') = ap (λ us. v ∷ us) (completes_same t (rest_has_no h) d d')
  completes_same t h (state s d) (known s' f d') = cc
  completes_same t h (state s d) (unknown s' f d') = cc
  completes_same t h (known s f d) (state s' d') = cc
  completes_same t h (known {x = x} {w = w} s f d) (known {w = u} s' f' d') =
      let e : w ≡ u =
      same_value w u
      (λ n. head_has_not h (record { is_flow = s; first = w; second = u; is_first = f; is_second = f'; differ = n })) in
      let i = completes_same t (rest_has_no h) d d' in cc
  completes_same t h (known {w = w} s f d) (unknown s' n d') = absurd (n w f)
  completes_same t h (unknown s n d) (state s' d') = cc
  completes_same t h (unknown s n d) (known {w = w} s' f d') = absurd (n w f)
  completes_same t h (unknown {x = x} s n d) (unknown s' n' d') =
      ap (λ us. x.value ∷ us) (completes_same t (rest_has_no h) d d')

  pub flows_same : {t : List Value} {o p : Outcome} → Flows net t o → Flows net t p → o ≡ p
  flows_same (two a) (two b) = ap (λ n. Fails (Two n)) (first_same a b)
  flows_same (two a) (outside n b) = absurd (no_first n a)
  flows_same (two a) (broken t n m c b) = absurd (no_first n a)
  flows_same (two a) (all_hold n m c b) = absurd (no_first n a)
  flows_same (outside n a) (two b) = absurd (no_first n b)
  flows_same (outside n a) (outside n' b) = ap (λ n. Fails (Outside n)) (first_same a b)
  flows_same (outside n a) (broken t n' m c b) = absurd (no_first m a)
  flows_same (outside n a) (all_hold n' m c b) = absurd (no_first m a)
  flows_same (broken t n m c a) (two b) = absurd (no_first n b)
  flows_same (broken t n m c a) (outside n' b) = absurd (no_first m b)
  flows_same {t = s} (broken {i = i} t n m c a) (broken t' n' m' c' b) =
      let e = completes_same s n c c' in
      ap (λ n. Fails (Broken n)) (first_same (subst (λ z. IsFirst net.assertions (IsBrokenAssign net z) i) e a) b)
  flows_same {t = s} (broken t n m c a) (all_hold n' m' c' b) =
      let e =
      completes_same s n c c' in absurd
      (no_first (subst (λ z. HasNo net.assertions (IsBrokenAssign net z)) (sym e) b) a)
  flows_same (all_hold n m c a) (two b) = absurd (no_first n b)
  flows_same (all_hold n m c a) (outside n' b) = absurd (no_first m b)
  flows_same {t = s} (all_hold n m c a) (broken t' n' m' c' b) =
      let e = completes_same s n c c' in absurd
      (no_first (subst (λ z. HasNo net.assertions (IsBrokenAssign net z)) e a) b)
  flows_same {t = s} (all_hold n m c a) (all_hold n' m' c' b) = ap Total (completes_same s n c c')

pub receives_same : {V : Type 0} {effects : V → Value → Type 0} {xs : List (Variable V)} {vs ws us : List Value}
    → HasNo xs (Clashes effects)
    → Receives effects xs vs ws → Receives effects xs vs us → ws ≡ us
receives_same h r.none r.none = refl
receives_same h (changed {w = w} f d) (changed {w = u} f' d') =
    let e : w ≡ u =
    same_value w u
    (λ n. head_has_not h (record { first = w; second = u; is_first = f; is_second = f'; differ = n })) in
    let i = receives_same (rest_has_no h) d d' in cc
receives_same h (changed {w = w} f d) (kept n d') = absurd (n w f)
receives_same h (kept n d) (changed {w = w} f d') = absurd (n w f)
receives_same h (kept {v = v} n d) (kept n' d') = ap (λ us. v ∷ us) (receives_same (rest_has_no h) d d')

pub step_same : {V : Type 0} (net : Net V) {t : List Value} {w : Way V} {o p : Answer} → Step net t w o → Step net t w p
    → o ≡ p
step_same net (not_enabled n) (not_enabled n') = refl
step_same net (not_enabled n) (clash c f) = absurd (n c)
step_same net (not_enabled n) (range c h f) = absurd (n c)
step_same net (not_enabled n) (flow s c h k r f) = absurd (n c)
step_same net (not_enabled n) (moves s c h k r f) = absurd (n c)
step_same net (clash c f) (not_enabled n) = absurd (n c)
step_same net (clash c f) (clash c' f') = ap (λ n. Refused (Clash n)) (first_same f f')
step_same net (clash c f) (range c' h f') = absurd (no_first h f)
step_same net (clash c f) (flow s c' h k r f') = absurd (no_first h f)
step_same net (clash c f) (moves s c' h k r f') = absurd (no_first h f)
step_same net (range c h f) (not_enabled n) = absurd (n c)
step_same net (range c h f) (clash c' f') = absurd (no_first h f')
step_same net (range c h f) (range c' h' f') = ap (λ n. Refused (Range n)) (first_same f f')
step_same net (range c h f) (flow s c' h' k r f') = absurd (no_first k f)
step_same net (range c h f) (moves s c' h' k r f') = absurd (no_first k f)
step_same net (flow s c h k r f) (not_enabled n) = absurd (n c)
step_same net (flow s c h k r f) (clash c' f') = absurd (no_first h f')
step_same net (flow s c h k r f) (range c' h' f') = absurd (no_first k f')
step_same net (flow {f = x} s c h k r f) (flow s' c' h' k' r' f') =
    let e = receives_same h r r' in let i = flows_same net (subst (λ z. Flows net z (Fails x)) e f) f' in cc
step_same net (flow {f = x} s c h k r f) (moves s' c' h' k' r' f') =
    let e = receives_same h r r' in let i = flows_same net (subst (λ z. Flows net z (Fails x)) e f) f' in cc
step_same net (moves s c h k r f) (not_enabled n) = absurd (n c)
step_same net (moves s c h k r f) (clash c' f') = absurd (no_first h f')
step_same net (moves s c h k r f) (range c' h' f') = absurd (no_first k f')
step_same net (moves {next = x} s c h k r f) (flow s' c' h' k' r' f') =
    let e = receives_same h r r' in let i = flows_same net (subst (λ z. Flows net z (Total x)) e f) f' in cc
step_same net (moves {next = x} s c h k r f) (moves s' c' h' k' r' f') =
    let e = receives_same h r r' in let i = flows_same net (subst (λ z. Flows net z (Total x)) e f) f' in cc
