-- In a static system every order of one set ends in one valuation.
use Rattle.std.proofs.Common.{◌≡◌, ◌+◌, ℕ, zero, suc, true, List, [], ◌∷◌, ◌++◌, map, length, length-append, refl, sym, ◌∙◌, ap, subst, arith}
use Rattle.ar_base.specs.Lists.{Stands, IsOneOf}
use Rattle.ar_meaning.specs.Systems.{Variable, System}
use Rattle.ar_meaning.specs.FactsInside.{AreKeyed}
use Rattle.ar_meaning.specs.Flows.{Flows, Total}
use Rattle.ar_meaning.specs.Steps.{moves}
use Rattle.ar_meaning.specs.Runs.{Label, first_values}
use Rattle.ar_firing.specs.Fragment.{Edge, Path, root, edge, IsLive}
use Rattle.ar_firing.specs.Static.{IsStatic}
use Rattle.ar_firing.specs.Cuts.{Reaches, IsFirable}
use Rattle.ar_base.specs.Sets.{Within}
use Rattle.ar_firing.specs.Cuts as cuts
use Rattle.domains.specs.declared.Value.{Value}
use Rattle.ar_meaning.proofs.OneAnswer.{flows_same}
use Rattle.ar_base.proofs.Standing.{stands_one}
use Rattle.ar_meaning.proofs.StatesAlone.{Same_states, same_flows, states_same}
use Rattle.ar_firing.proofs.Firing.{ahead, none_firable, moved, next_edge, all_firable}

pub label_same : (k l : Label) → k.event ≡ l.event → k.way ≡ l.way → k ≡ l
label_same k l e f = joined k.event l.event k.way l.way e f
  where
    joined : (a b c d : ℕ) → a ≡ b → c ≡ d
        → ◌≡◌ {A = Label} (record { event = a; way = c }) (record { event = b; way = d })
    joined a b c d e f = cc

-- a label on a path, with the path before it
pub record Split {V : Type 0} (sys : System V) (dropped : List ℕ) (n : ℕ) (ls : List Label) (l : Label) : Type 0 where
  pub front : List Label
  pub rest : List Label
  pub is : ls ≡ front ++ (l ∷ rest)
  pub from : Value
  pub to : Value
  pub path : Path sys dropped n rest from
  pub edge : Edge sys dropped l n from to

module _ {V : Type 0} (sys : System V) (dropped : List ℕ) (keyed : AreKeyed sys.net)
    (static : IsStatic sys dropped) where
  pub split : {n : ℕ} {ls : List Label} {m : Value} → Path sys dropped n ls m → (k : ℕ) (l : Label) → Stands ls k l
      → Split sys dropped n ls l
  split (root s i e) k l h = cc
  split {n = n} (edge {l = j} {ls = ls} {m = m} {to = to} p e) zero l h =
      let i : j ≡ l = cc in
      record {
        front = [];
        rest = ls;
        is = ap (λ z. z ∷ ls) i;
        from = m;
        to = to;
        path = p;
        edge = subst (λ z. Edge sys dropped z n m to) i e;
      }
  split (edge {l = j} p e) (suc k) l h =
      let r = split p k l h in
      record {
        front = j ∷ r.front;
        rest = r.rest;
        is = ap (λ z. j ∷ z) r.is;
        from = r.from;
        to = r.to;
        path = r.path;
        edge = r.edge;
      }

  pub live : {n : ℕ} {ls : List Label} {l : Label} {from to : Value} → Path sys dropped n ls from
      → Edge sys dropped l n from to → IsLive sys dropped l n from to
  live {ls = ls} p e = record { reached = record { labels = ls; path = p }; edge = e }

  pub split_live : {n : ℕ} {ls : List Label} {l : Label} (s : Split sys dropped n ls l)
      → IsLive sys dropped l n s.from s.to
  split_live s = live s.path s.edge

  pub end_same : {n : ℕ} {l : Label} {from to on : Value} → Edge sys dropped l n from to → Edge sys dropped l n from on
      → to ≡ on
  end_same {from = from} {to = to} {on = on} e k =
      let a = ahead sys dropped keyed k e.way e.is_open e.variable e.is_variable in
      sym (e.one on a.gives)

  pub path_unique : {n : ℕ} {ls ks : List Label} {m : Value} → Path sys dropped n ls m → Path sys dropped n ks m
      → ls ≡ ks
  path_unique (root s i e) (root s' i' e') = refl
  path_unique {n = n} {m = m} (root {x = x} s i e) (edge {l = l} {m = u} p k) =
      absurd (static.enters_once.begins l n u x s (subst (λ z. IsLive sys dropped l n u z) (sym e) (live p k)))
  path_unique {n = n} {m = m} (edge {l = l} {m = u} p k) (root {x = x} s i e) =
      absurd (static.enters_once.begins l n u x s (subst (λ z. IsLive sys dropped l n u z) (sym e) (live p k)))
  path_unique {n = n} {m = m} (edge {l = l} {ls = ls} {m = u} p e) (edge {l = k} {ls = ks} {m = v} q f) =
      let a = static.enters_once.enters l k n u v m (live p e) (live q f) in
      let c : l ≡ k = label_same l k a.0 a.1 in
      let d : ls ≡ ks = path_unique p (subst (λ z. Path sys dropped n ks z) (sym a.2) q) in cc

  pub path_end : {n : ℕ} {ls : List Label} {m k : Value} → Path sys dropped n ls m → Path sys dropped n ls k → m ≡ k
  path_end {n = n} (root {x = x} s i e) (root {x = y} s' i' e') =
      let j : x ≡ y = stands_one sys.net.variables n x y s s' in
      let l = ap (λ z. z.value) j in
      sym e ∙ l ∙ e'
  path_end {n = n} {k = k} (edge {l = l} {m = u} p e) (edge {m = v} q f) =
      let a : u ≡ v = path_end p q in end_same e (subst (λ z. Edge sys dropped l n z k) (sym a) f)

  -- two paths with the same labels are one
  pub record Tail (ls ks : List Label) : Type 0 where
    pub front : List Label
    pub is : ks ≡ front ++ ls

  pub tail_of : {n : ℕ} {ls ks : List Label} {m k : Value} → Path sys dropped n ls m → Path sys dropped n ks k
      → ((l : Label) → IsOneOf ls l → IsOneOf ks l) → Tail ls ks
  tail_of {ks = ks} (root s i e) q h = record { front = ks; is = nil ks }
    where
      nil : (xs : List Label) → xs ≡ xs ++ []
      nil [] = refl
      nil (x ∷ xs) = ap (λ z. x ∷ z) (nil xs)
  tail_of {n = n} {ks = ks} (edge {l = l} {ls = ls} {m = u} {to = to} p e) q h =
      let o = h l (record { place = zero; stands = refl }) in
      let r = split q o.place l o.stands in
      let b = static.one_edge.one l l n n u r.from to r.to (live p e) (split_live r) refl in
      let c : ls ≡ r.rest = path_unique p (subst (λ z. Path sys dropped n r.rest z) (sym b.2) r.path) in
      record { front = r.front; is = r.is ∙ ap (λ z. r.front ++ (l ∷ z)) (sym c) }

  tails_same : {ls ks : List Label} → Tail ls ks → Tail ks ls → ls ≡ ks
  tails_same {ls = ls} {ks = ks} a b = go a.front a.is
    where
      go : (xs : List Label) → ks ≡ xs ++ ls → ls ≡ ks
      go [] e = sym e
      go (x ∷ xs) e =
          let i : length ks ≡ suc (length xs + length ls) = ap length e ∙ ap suc (length-append xs ls) in
          let j : length ls ≡ length b.front + length ks = ap length b.is ∙ length-append b.front ks in
          absurd (omega arith)

  pub path_same : {n : ℕ} {ls ks : List Label} {m k : Value} → Path sys dropped n ls m → Path sys dropped n ks k
      → ((l : Label) → IsOneOf ls l → IsOneOf ks l) → ((l : Label) → IsOneOf ks l → IsOneOf ls l) → ls ≡ ks
  path_same p q h k = tails_same (tail_of p q h) (tail_of q p k)

  -- the paths of one set are one
  pub on_path : {set part : List ℕ} {t u : List Value} (a : IsFirable sys dropped part t)
      (b : IsFirable sys dropped set u)
      → Within part set
      → (n : ℕ) (x : Variable V) → Stands sys.net.variables n x → x.is_state ≡ true → (l : Label) → IsOneOf (a.path n) l
      → IsOneOf (b.path n) l
  on_path a b h n x s i l o =
      let w = a.walks n x s i in
      let r = split w.2 o.place l o.stands in
      let m = b.whole l.event (h.each l.event (a.sound n x s i o.place l o.stands)) in
      let v = b.walks m.0 m.1 m.3 m.4 in
      let q = split v.2 m.5.place m.2 m.5.stands in
      let c = static.one_edge.one l m.2 n m.0 r.from q.from r.to q.to (split_live r) (split_live q) (sym m.6) in
      let d : l ≡ m.2 = label_same l m.2 (sym m.6) c.0 in
      let f : IsOneOf (b.path n) m.2 = subst (λ z. IsOneOf (b.path z) m.2) (sym c.1) m.5 in
      subst (λ z. IsOneOf (b.path n) z) (sym d) f

  pub firable_same : {set part : List ℕ} {t u : List Value} → IsFirable sys dropped part t → IsFirable sys dropped set u
      → Within part set → Within set part → Same_states sys.net.variables t u
  firable_same {u = u} a b h k = states_same sys.net.variables _ _ a.long b.long (λ n x s i.
      let w = a.walks n x s i in
      let v = b.walks n x s i in
      let e : a.path n ≡ b.path n = path_same w.2 v.2 (on_path a b h n x s i) (on_path b a k n x s i) in
      let m : w.0 ≡ v.0 = path_end (subst (λ z. Path sys dropped n z w.0) e w.2) v.2 in
      (w.0, w.1, subst (λ z. Stands u n z) (sym m) v.1))

  -- the state from which the last flows came
  pub record Came (set : List ℕ) (t : List Value) : Type 0 where
    pub values : List Value
    pub flows : Flows sys.net values (Total t)
    pub is_firable : IsFirable sys dropped set values

  pub came : {ls : List Label} {t : List Value} → Reaches sys dropped ls t → Came (map (λ l. l.event) ls) t
  came (cuts.start f) = record {
    values = first_values sys.net.variables;
    flows = f;
    is_firable = none_firable sys dropped keyed;
  }
  came (cuts.fire {l = l} w r o (moves new can n m d f)) =
      let h = all_firable sys dropped keyed static r in
      record {
        values = new;
        flows = f;
        is_firable = moved sys dropped keyed static h l w
            (next_edge sys dropped keyed static h l w o can) new d;
      }

  pub one_end : {ls ks : List Label} {t u : List Value} → Reaches sys dropped ls t → Reaches sys dropped ks u
      → Within (map (λ l. l.event) ls) (map (λ l. l.event) ks) → Within (map (λ l. l.event) ks) (map (λ l. l.event) ls)
      → t ≡ u
  one_end a b h k =
      let p = came a in let q = came b in
      let f = flows_same sys.net (same_flows sys.net (firable_same p.is_firable q.is_firable h k) p.flows) q.flows in cc
