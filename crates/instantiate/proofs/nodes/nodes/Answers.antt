use Rattle.std.proofs.Common.{◌≡◌, ◌<◌, ℕ, ◌++◌, ◌∷◌, [], List, length, None, get_or, unwrap_or, slice_get, take, sym, ◌∙◌, ap, subst, arith, rules}
use Rattle.std.specs.List.{flat_map}
use Rattle.std.proofs.lemmas.List.{take_all, append-nil}
use Rattle.std.proofs.lemmas.List.Concat.{flat_map-append}
use Rattle.ar_base.specs.Lists.{Stands, Along}
use Rattle.ar_base.specs.Lists.Along.{none as along_none}
use Rattle.ar_base.proofs.Standing.{along_back, along_length, stands_get}
use Rattle.class_table.proofs.Laid.{along_append}
use Rattle.class_table.specs.Members.{Site, named_at}
use Rattle.class_table.proofs.Taken.{item_stands, take_next}
use Rattle.hierarchy.specs.Units.{UnitPath, Thing, names_at}
use Rattle.hierarchy.specs.Listing.{things_in}
use Rattle.hierarchy.specs.declared.outline.Outline.{Outline}
use Rattle.instantiate.specs.Nodes.{test_of, nodes_of_members, IsNodeSo}
use Rattle.instantiate.proofs.OneName.{unit_nodes, members_there, members_past}
use Rattle.instantiate.proofs.nodes.nodes.Goals as goal
use Rattle.instantiate.proofs.nodes.nodes.Goals.{in-Some+in_ok-add_sites, in_default}

pub loop-place-init : goal.loop-place-init
loop-place-init c = λ m units h known.
    subst (Along (IsNodeSo m units (test_of c.args.listed)) []) (sym c.new-nodes.ensures.items) along_none

pub loop-place-preserved : goal.loop-place-preserved
loop-place-preserved c = λ m units h known.
    let l : c.loop-place.place < length c.args.outlines.now = omega arith in
    let none : Outline = record {
      name = record { n = 0; of = record {} };
      owner = None;
      body = record { n = 0; of = record {} };
      set_at = None;
    } in
    let s = stands_get c.args.outlines.now c.loop-place.place none l in
    let w = along_back units c.args.outlines.now h.along c.loop-place.place _ s in
    let n : c.new-unit.result.n ≡ c.loop-place.place = search (rules, c.new-unit.ensures) in
    let test = test_of c.args.listed in
    let there = subst (λ (k : ℕ). Stands units k w.0) (sym n) w.1 in
    let body = (get_or c.args.outlines.now c.loop-place.place none).body.n in
    let grown : c.match-get.nodes.items
    ≡ c.loop-place.nodes.items ++ nodes_of_members c.new-unit.result test (names_at m w.0) =
    elim c.match-get.branch [
      | in-Some+in_ok-add_sites v ↦
          (let l = rw c.deref.ensures.value at v.in-Some.ensures.lookup.3.0 in
          let i = rw c.deref.ensures.value at v.in-Some.ensures.lookup.1 in
          let s = item_stands c.args.classes.now.bodies.items body v.in-Some.body.now l i in
          let e = members_there m c.args.classes.now h.table.table body v.in-Some.body.now s
          ∙ ap (λ (n : ℕ). unwrap_or (slice_get m.members n) []) w.2.body in
          let a = rw v.deref-in-Some.ensures.value at (v.in_ok-add_sites.ensures m.declared h.table.table.holds known) in
          rw v.nodes-is (subst (λ (ss : List Site). v.add_sites.new.nodes.items
          ≡ c.loop-place.nodes.items ++ nodes_of_members c.new-unit.result test (named_at m.declared ss)) e a))
      | in_default v ↦
          (let l = rw c.deref.ensures.value at v.in_default.ensures.lookup.3 in
          let e = ap (λ (n : ℕ). unwrap_or (slice_get m.members n) []) (sym w.2.body)
          ∙ members_past m c.args.classes.now h.table.table body l in
          rw v.nodes-is (sym (ap (λ (ss : List Site). c.loop-place.nodes.items
          ++ nodes_of_members c.new-unit.result test (named_at m.declared ss)) e ∙ append-nil c.loop-place.nodes.items)))
    ] in
    let things = ap (flat_map (things_in test m)) (take_next units c.loop-place.place w.0 w.1)
    ∙ (flat_map-append (things_in test m) (take c.loop-place.place units) (w.0 ∷ [])
    ∙ ap (λ (ts : List Thing). flat_map (things_in test m) (take c.loop-place.place units) ++ ts)
    (append-nil (things_in test m w.0))) in
    subst (λ (ts : List Thing). Along (IsNodeSo m units test) ts c.match-get.nodes.items) (sym things)
    (subst (Along (IsNodeSo m units test)
    (flat_map (things_in test m) (take c.loop-place.place units) ++ things_in test m w.0)) (sym grown)
    (along_append _ _ _ _ (c.loop-place.invariant m units h known)
    (unit_nodes m units test c.new-unit.result w.0 there h.table.kept)))

pub returns : goal.returns
returns c = λ m units h known.
    let n = along_length units c.args.outlines.now h.along in
    let e = take_all c.loop-place.place units (omega arith) in
    subst (λ (us : List UnitPath). Along (IsNodeSo m units (test_of c.args.listed))
    (flat_map (things_in (test_of c.args.listed) m) us) c.loop-place.nodes.items) e
    (c.loop-place.invariant m units h known)
