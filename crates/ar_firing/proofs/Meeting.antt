-- The least sets that meet a conflict are the least firable sets at which the conflict test is true.
use Rattle.std.proofs.Common.{◌≡◌, ◌+◌, ⊎_elim, ℕ, zero, suc, Bool, true, false, cond, ◌==◌, List, [], ◌∷◌, map, length, length-append, Some, refl, sym, ◌∙◌, ap, subst, arith}
use Rattle.std.proofs.lemmas.Bool.Decides.{nat_tests}
use Rattle.ar_base.specs.Lists.{Stands, IsOneOf}
use Rattle.ar_meaning.specs.Systems.{Variable, System}
use Rattle.ar_meaning.specs.FactsInside.{AreKeyed}
use Rattle.ar_meaning.specs.Flows.{FlowFault, Flows, Fails}
use Rattle.ar_meaning.specs.Steps.{flow}
use Rattle.ar_meaning.specs.Runs.{Label, first_values}
use Rattle.ar_firing.specs.Fragment.{Path, root, edge, Edge}
use Rattle.ar_firing.specs.Static.{IsStatic}
use Rattle.ar_firing.specs.Cuts.{IsLeast, Reaches, Conflicts, IsFirable, AreEvents, HasOrder, MeetsConflict}
use Rattle.ar_base.specs.Sets.{Within}
use Rattle.ar_firing.specs.Cuts as cuts
use Rattle.ar_firing.specs.Operands.{Agrees, HasFlows, IsFirableWith}
use Rattle.domains.specs.declared.Value.{Value}
use Rattle.typed_expr.specs.declared.expr.Expr.{Expr}
use Rattle.ar_meaning.proofs.OneAnswer.{flows_same}
use Rattle.ar_meaning.proofs.StatesAlone.{same_at}
use Rattle.std.proofs.lemmas.Bool.{cases_eq}
use Rattle.ar_firing.proofs.Firing.{conflict_firable, none_firable, all_firable, enabled, next_edge, moved}
use Rattle.ar_firing.proofs.Ends.{split_live, split, path_unique, live, firable_same}
use Rattle.ar_firing.proofs.EachHasOrder.{has_order, received, no_clash, no_leave}
use Rattle.ar_firing.proofs.Without.{without, kept, was}
use Rattle.ar_firing.proofs.SameSets.{firable_as, events_within, set_within}

-- another value at one place
abbrev changed_at : List Value → ℕ → Value → List Value
changed_at [] n v = []
changed_at (x ∷ xs) zero v = v ∷ xs
changed_at (x ∷ xs) (suc n) v = x ∷ changed_at xs n v

changed_long : (xs : List Value) (n : ℕ) (v : Value) → length (changed_at xs n v) ≡ length xs
changed_long [] n v = refl
changed_long (x ∷ xs) zero v = refl
changed_long (x ∷ xs) (suc n) v = ap suc (changed_long xs n v)

changed_here : (xs : List Value) (n : ℕ) (v w : Value) → Stands xs n w → Stands (changed_at xs n v) n v
changed_here [] n v w s = cc
changed_here (x ∷ xs) zero v w s = refl
changed_here (x ∷ xs) (suc n) v w s = changed_here xs n v w s

changed_there : (xs : List Value) (n m : ℕ) (v w : Value) → (m ≡ n → ⊥) → Stands xs m w → Stands (changed_at xs n v) m w
changed_there [] n m v w h s = cc
changed_there (x ∷ xs) zero zero v w h s = absurd (h refl)
changed_there (x ∷ xs) zero (suc m) v w h s = s
changed_there (x ∷ xs) (suc n) zero v w h s = s
changed_there (x ∷ xs) (suc n) (suc m) v w h s = changed_there xs n m v w (λ e. h (ap suc e)) s

abbrev put : ℕ → List Label → (ℕ → List Label) → ℕ → List Label
put n ls path k = cond (k == n) ls (path k)

put_here : (n : ℕ) (ls : List Label) (path : ℕ → List Label) → put n ls path n ≡ ls
put_here n ls path = let h : (n == n) ≡ true = grind (arith, nat_tests) in rw h refl

put_there : (n m : ℕ) (ls : List Label) (path : ℕ → List Label) → (m ≡ n → ⊥) → put n ls path m ≡ path m
put_there n m ls path k = let h : (m == n) ≡ false = grind (arith, nat_tests) in rw h refl

module _ {V : Type 0} (sys : System V) (dropped : List ℕ) (keyed : AreKeyed sys.net)
    (static : IsStatic sys dropped) where
  -- the set without the last event of one path
  module _ {set : List ℕ} {t : List Value} (f : IsFirable sys dropped set t) (n : ℕ) (x : Variable V)
      (st : Stands sys.net.variables n x) (state : x.is_state ≡ true)
      (l : Label) (ls : List Label) (from to : Value) (is : f.path n ≡ l ∷ ls) (p : Path sys dropped n ls from)
      (e : Edge sys dropped l n from to) where
    other : (m : ℕ) (y : Variable V) → Stands sys.net.variables m y → y.is_state ≡ true → (k : ℕ) (j : Label)
        → Stands (put n ls f.path m) k j → j.event ≡ l.event → ⊥
    other m y sy iy k j h q = ⊎_elim
        (λ i. let a : Stands ls k j = subst (λ z. Stands z k j) (put_here n ls f.path) (subst (λ z. Stands (put n ls f.path z) k j) i h) in
        let r = split sys dropped keyed static p k j a in
        let c =
        static.one_edge.one j l n n r.from from r.to to (split_live sys dropped keyed static r)
        (live sys dropped keyed static p e) q in
        let u : r.rest ≡ ls =
        path_unique sys dropped keyed static (subst (λ z. Path sys dropped n r.rest z) c.2 r.path) p in
        let g : length ls ≡ length r.front + suc (length r.rest) =
        ap length r.is ∙ length-append r.front (j ∷ r.rest) in
        let z : length r.rest ≡ length ls = ap length u in absurd (omega arith))
        (λ i. let a : Stands (f.path m) k j = subst (λ z. Stands z k j) (put_there n m ls f.path i) h in
        let w = f.walks m y sy iy in
        let r = split sys dropped keyed static w.2 k j a in
        let c =
        static.one_edge.one j l m n r.from from r.to to (split_live sys dropped keyed static r)
        (live sys dropped keyed static p e) q in i c.1)
        (cases_eq m n)

    still : (m : ℕ) (k : ℕ) (j : Label) → Stands (put n ls f.path m) k j → IsOneOf (f.path m) j
    still m k j h = ⊎_elim
        (λ i. let a : Stands ls k j = subst (λ z. Stands z k j) (put_here n ls f.path) (subst (λ z. Stands (put n ls f.path z) k j) i h) in
        let b : f.path m ≡ l ∷ ls = ap f.path i ∙ is in
        subst (λ z. IsOneOf z j) (sym b) (record { place = suc k; stands = a }))
        (λ i. record { place = k; stands = subst (λ z. Stands z k j) (put_there n m ls f.path i) h })
        (cases_eq m n)

    left : (m : ℕ) (j : Label) → IsOneOf (f.path m) j → (j.event ≡ l.event → ⊥) → IsOneOf (put n ls f.path m) j
    left m j o h = ⊎_elim
        (λ i. let b : f.path m ≡ l ∷ ls = ap f.path i ∙ is in
        let c : IsOneOf ls j = go o.place (subst (λ z. Stands z o.place j) b o.stands) in
        subst (λ z. IsOneOf (put n ls f.path z) j) (sym i) (subst (λ z. IsOneOf z j) (sym (put_here n ls f.path)) c))
        (λ i. subst (λ z. IsOneOf z j) (sym (put_there n m ls f.path i)) o)
        (cases_eq m n)
      where
        go : (k : ℕ) → Stands (l ∷ ls) k j → IsOneOf ls j
        go zero s = let q : l ≡ j = cc in absurd (h (sym (ap (λ z. z.event) q)))
        go (suc k) s = record { place = k; stands = s }

    pub shorter : IsFirable sys dropped (without l.event set) (changed_at t n from)
    shorter = record {
      long = changed_long t n from ∙ f.long;
      path = put n ls f.path;
      walks = λ m y sy iy. ⊎_elim
          (λ i. let w = f.walks n x st state in (
            from,
            subst (λ z. Stands (changed_at t n from) z from) (sym i) (changed_here t n from w.0 w.1),
            subst (λ z. Path sys dropped z (put n ls f.path z) from) (sym i)
                (subst (λ z. Path sys dropped n z from) (sym (put_here n ls f.path)) p),
          ))
          (λ i. let w = f.walks m y sy iy in (
            w.0,
            changed_there t n m from w.0 i w.1,
            subst (λ z. Path sys dropped m z w.0)
                (sym (put_there n m ls f.path i)) w.2,
          ))
          (cases_eq m n);
      sound = λ m y sy iy k j h.
          let a = still m k j h in
          let b = f.sound m y sy iy a.place j a.stands in
          kept l.event set b.place j.event b.stands (other m y sy iy k j h);
      whole = λ a o.
          let q = was l.event set o.place a o.stands in
          let w = f.whole a q.0 in
          (w.0, w.1, w.2, w.3, w.4, left w.0 w.2 w.5 (λ i. q.1 (sym w.6 ∙ i)), w.6);
    }

    pub stands_from : Stands (changed_at t n from) n from
    stands_from = let w = f.walks n x st state in changed_here t n from w.0 w.1

  module _ (observer : Expr V) (wanted : Value) (conflict top : List ℕ → Bool)
      (agrees : Agrees sys dropped observer wanted conflict top) where
    pub met_is_conflicting : {set : List ℕ} → MeetsConflict sys dropped set → IsFirableWith sys dropped conflict set
    met_is_conflicting {set = set} m =
        let c = conflict_firable sys dropped keyed static m.conflicts in
        let f =
        firable_as sys dropped (events_within m.labels set m.events)
        (set_within m.labels set m.events) c.is_firable in
        record { values = c.values; is_firable = f; holds = go c.values f c.flows (conflict set) refl }
      where
        go : (t : List Value) → IsFirable sys dropped set t → Flows sys.net t (Fails m.fault) → (b : Bool)
            → conflict set ≡ b → conflict set ≡ true
        go t f h true e = e
        go t f h false e = let s = agrees.total set t f e in let i = flows_same sys.net s.flows h in cc

    last_one : {n : ℕ} {ks : List Label} {m : Value} (set : List ℕ) (t : List Value) (f : IsFirable sys dropped set t)
        → IsLeast (IsFirableWith sys dropped conflict) set → (x : Variable V) → Stands sys.net.variables n x
        → x.is_state ≡ true
        → f.path n ≡ ks → Path sys dropped n ks m → (j : Label) → IsOneOf ks j → MeetsConflict sys dropped set
    last_one set t f c x st state is (root s i e) j o = let h = o.stands in cc
    last_one {n = n} set t f c x st state is (edge {l = l} {ls = ls} {m = from} {to = to} p e) j o =
        let part = without l.event set in
        let g = shorter f n x st state l ls from to is p e in
        let in_set : IsOneOf set l.event = f.sound n x st state zero l (subst (λ z. Stands z zero l) (sym is) refl) in
        let fine =
        λ (a : List ℕ) (u : List Value) (h : IsFirable sys dropped a u) (w : Within a part)
        (m : (f : FlowFault) → Flows sys.net u (Fails f) → (set : List ℕ) × Within set part × MeetsConflict sys dropped set).
        flows_of a u h w in_set (conflict a) refl in
        let r = has_order sys dropped keyed static part fine g (record { each = λ e o. o }) in
        let h = all_firable sys dropped keyed static r.1.reaches in
        let same =
        firable_same sys dropped keyed static g h (set_within r.1.labels part r.1.events)
        (events_within r.1.labels part r.1.events) in
        let value = same_at same n x st state from (stands_from f n x st state l ls from to is p e) in
        let can = enabled sys dropped keyed h static l n from to e value in
        let edge_on = next_edge sys dropped keyed static h l e.way e.is_open can in
        let new = received sys dropped keyed static h l e.way edge_on in
        let after = moved sys dropped keyed static h l e.way edge_on new.values new.receives in
        let all = firable_as sys dropped (back r.1.labels r.1.events in_set) (forth r.1.labels r.1.events) after in
        let k = agrees.fault set new.values all c.has.holds in
        record {
          labels = l ∷ r.1.labels;
          fault = k.fault;
          conflicts =
              cuts.fire e.way r.1.reaches e.is_open
              (flow new.values can (no_clash sys dropped keyed static h l e.way edge_on)
              (no_leave sys dropped keyed static h l e.way edge_on) new.receives k.flows);
          events = record {
            sound = λ k j s. sound_at r.1.labels r.1.events in_set k j s;
            whole = λ a o. whole_at r.1.labels r.1.events a o;
            once = once_at r.1.labels r.1.events;
          };
        }
      where
        flows_of : (a : List ℕ) (u : List Value) → IsFirable sys dropped a u → Within a (without l.event set)
            → IsOneOf set l.event → (b : Bool) → conflict a ≡ b → HasFlows sys.net u
        flows_of a u h w i true q =
            let inside : Within a set =
            record { each = λ e o. let r = w.each e o in (was l.event set r.place e r.stands).0 } in
            let all = c.least a inside (record { values = u; is_firable = h; holds = q }) in
            let o = w.each l.event (all.each l.event i) in
            absurd ((was l.event set o.place l.event o.stands).1 refl)
        flows_of a u h w i false q = let s = agrees.total a u h q in record { values = s.values; flows = s.flows }

        back : (ks : List Label) → AreEvents ks (without l.event set) → IsOneOf set l.event
            → Within (l.event ∷ map (λ l. l.event) ks) set
        back ks a i = record { each = λ e o. go e o.place o.stands }
          where
            go : (e k : ℕ) → Stands (l.event ∷ map (λ l. l.event) ks) k e → IsOneOf set e
            go e zero s = let q : l.event ≡ e = cc in subst (λ z. IsOneOf set z) q i
            go e (suc k) s =
                let r = (events_within ks (without l.event set) a).each e (record { place = k; stands = s }) in
                (was l.event set r.place e r.stands).0

        forth : (ks : List Label) → AreEvents ks (without l.event set) → Within set (l.event ∷ map (λ l. l.event) ks)
        forth ks a = record {
          each = λ e o. ⊎_elim
              (λ q. record { place = zero; stands = ap (λ z. Some z) (sym q) })
              (λ q. let k = kept l.event set o.place e o.stands q in let r = (set_within ks (without l.event set) a).each e k in record { place = suc r.place; stands = r.stands })
              (cases_eq e l.event);
        }

        sound_at : (ks : List Label) → AreEvents ks (without l.event set) → IsOneOf set l.event → (k : ℕ) (j : Label)
            → Stands (l ∷ ks) k j → IsOneOf set j.event
        sound_at ks a i zero j s = let q : l ≡ j = cc in subst (λ z. IsOneOf set z.event) q i
        sound_at ks a i (suc k) j s = let r = a.sound k j s in (was l.event set r.place j.event r.stands).0

        whole_at : (ks : List Label) → AreEvents ks (without l.event set) → (e : ℕ) → IsOneOf set e
            → (j : Label) × IsOneOf (l ∷ ks) j × (j.event ≡ e)
        whole_at ks a e o = ⊎_elim
            (λ q. let r : IsOneOf (l ∷ ks) l = record { place = zero; stands = refl } in (l, r, sym q))
            (λ q. let w = a.whole e (kept l.event set o.place e o.stands q) in let r : IsOneOf (l ∷ ks) w.0 = record { place = suc w.1.place; stands = w.1.stands } in (w.0, r, w.2))
            (cases_eq e l.event)

        never : (ks : List Label) → AreEvents ks (without l.event set) → (k : ℕ) (j : Label) → Stands ks k j
            → j.event ≡ l.event → ⊥
        never ks a k j s q = let r = a.sound k j s in (was l.event set r.place j.event r.stands).1 q

        once_at : (ks : List Label) → AreEvents ks (without l.event set) → (i k : ℕ) (a b : Label) → Stands (l ∷ ks) i a
            → Stands (l ∷ ks) k b → a.event ≡ b.event → i ≡ k
        once_at ks v zero zero a b s r q = refl
        once_at ks v zero (suc k) a b s r q =
            let j : l ≡ a = cc in
            absurd (never ks v k b r (sym q ∙ ap (λ z. z.event) (sym j)))
        once_at ks v (suc i) zero a b s r q =
            let j : l ≡ b = cc in
            absurd (never ks v i a s (q ∙ ap (λ z. z.event) (sym j)))
        once_at ks v (suc i) (suc k) a b s r q = ap suc (v.once i k a b s r q)

    pub conflict_is_met : (set : List ℕ) → IsLeast (IsFirableWith sys dropped conflict) set
        → MeetsConflict sys dropped set
    conflict_is_met [] c =
        let k = agrees.fault [] (first_values sys.net.variables) (none_firable sys dropped keyed) c.has.holds in
        record {
          labels = [];
          fault = k.fault;
          conflicts = cuts.start k.flows;
          events = record { sound = λ k l s. cc; whole = λ e o. let s = o.stands in cc; once = λ j k l m s r q. cc };
        }
    conflict_is_met (e ∷ es) c =
        let f = c.has.is_firable in
        let w = f.whole e (record { place = zero; stands = refl }) in
        let v = f.walks w.0 w.1 w.3 w.4 in
        last_one (e ∷ es) c.has.values f c w.1 w.3 w.4 refl v.2 w.2 w.5
