-- A tree's family from a list of its modes with their sets.
use Rattle.std.proofs.Common.{◌≡◌, ℕ, List, ◌∷◌, refl, sym, ap, ap₂, ◌∙◌, subst}
use Rattle.ar_base.specs.Lists.{Stands, IsOneOf}
use Rattle.ar_base.proofs.Standing.{stands_one}
use Rattle.domains.specs.declared.Value.{Value}
use Rattle.ar_meaning.specs.Runs.{Label}
use Rattle.ar_base.specs.Sets.{Within}
use Rattle.ar_firing.specs.Trees.{IsTree}
use Rattle.ar_firing.specs.Listed.{AreListed}
use Rattle.ar_firing.specs.Forest.{Row, ModeTree}
use Rattle.zdd_nodes.specs.Families.{Family}
use Rattle.zdd_nodes.specs.FamiliesInside.{IsFamily}
use Rattle.firable_families.specs.FirableInside.{LeadsToMode, root, edge, HaveEvents, IsPathSet}
use Rattle.firable_families.specs.Entries.{AreTreeEntries, HasEntries}
use Rattle.firable_families.proofs.Listing.{lists_listed}

module _ (tree : ModeTree) (t : IsTree tree) where
  -- one path leads to a mode
  pub leads_one : {ls ks : List Label} {m n : Value} → LeadsToMode tree ls m → LeadsToMode tree ks n → m ≡ n → ls ≡ ks
  leads_one (root e) (root f) h = refl
  leads_one (root e) (edge p r) h = absurd (t.begins r.place _ r.stands (sym h ∙ sym e))
  leads_one (edge p r) (root f) h = absurd (t.begins r.place _ r.stands (h ∙ sym f))
  leads_one (edge {l = l} {m = a} {to = x} p q) (edge {l = k} {m = b} {to = y} s r) h =
      let j = t.enters q.place r.place _ _ q.stands r.stands h in
      let e : ◌≡◌ {A = Row} (record { from = a; label = l; to = x }) (record { from = b; label = k; to = y }) =
      stands_one tree.edges r.place (record { from = a; label = l; to = x }) (record { from = b; label = k; to = y })
      (subst (λ z. Stands tree.edges z (record { from = a; label = l; to = x })) j q.stands) r.stands in
      ap₂ (λ (c : Label) (cs : List Label). c ∷ cs) (ap (λ (z : Row). z.label) e)
      (leads_one p s (ap (λ (z : Row). z.from) e))

  same_events : {ls ks : List Label} {s u : List ℕ} → ls ≡ ks → HaveEvents ls s → HaveEvents ks u → Within s u
  same_events {ks = ks} {s = s} {u = u} e a b = record {
    each = λ x i. let w = a.whole x i in subst (IsOneOf u) w.2 (let j = subst (λ z. IsOneOf z w.0) e w.1 in b.sound j.place w.0 j.stands);
  }

  -- each path's set is that of an entry
  pub entry_of : (entries : List (Value × List ℕ)) → AreTreeEntries tree entries → (s : List ℕ) → IsPathSet tree s
      → (m : Value) × (set : List ℕ) × IsOneOf entries (m, set) × Within s set × Within set s
  entry_of entries a s p = at p.leads p.events
    where
      found : {ls : List Label} {m : Value} → LeadsToMode tree ls m → HaveEvents ls s → (set : List ℕ)
          → IsOneOf entries (m, set)
          → (m : Value) × (set : List ℕ) × IsOneOf entries (m, set) × Within s set × Within set s
      found {m = m} l h set i =
          let e = a.sound i.place m set i.stands in
          let q = leads_one l e.leads refl in
          (m, set, i, same_events q h e.events, same_events (sym q) e.events h)

      at : {ls : List Label} {m : Value} → LeadsToMode tree ls m → HaveEvents ls s
          → (m : Value) × (set : List ℕ) × IsOneOf entries (m, set) × Within s set × Within set s
      at (root e) h = found (root refl) h a.first.0 a.first.1
      at (edge {l = l} {m = m} {to = to} p r) h = let x = a.entered (record { from = m; label = l; to = to }) r in found (edge p r) h x.0 x.1

  -- the family of the entries' sets lists the paths
  pub entries_listed : (entries : List (Value × List ℕ)) → AreTreeEntries tree entries → (f : Family) → IsFamily f
      → HasEntries entries f → AreListed (IsPathSet tree) f
  entries_listed entries a f k has_them = lists_listed (record {
    is_family = k;
    sound = λ s h.
        let x = has_them.sound s h in
        let e = a.sound x.2.place x.0 x.1 x.2.stands in
        record {
          labels = e.labels;
          end = x.0;
          leads = e.leads;
          events = record {
            sound = λ j l i. x.4.each l.event (e.events.sound j l i);
            whole = λ y i. e.events.whole y (x.3.each y i);
          };
        };
    whole = λ s p.
        let x = entry_of entries a s p in
        let w = has_them.whole x.0 x.1 x.2 in (
          w.0,
          w.1,
          record { each = λ y i. w.2.each y (x.3.each y i) },
          record
              { each = λ y i. x.4.each y (w.3.each y i) },
        );
  })
