use Rattle.std.proofs.Common.{length, sym, ◌∙◌, ap, subst}
use Rattle.std.proofs.Common.{map}
use Rattle.ar_base.specs.Lists.{Along}
use Rattle.class_table.specs.TablesInside.{IsNamedType, IsBodyOf}
use Rattle.hierarchy.specs.ModelsInside.{sites_kept}
use Rattle.unit_walks.specs.Forms.{AreIndexed}
use Rattle.unit_walks.proofs.NameLists.{forms_ready}
use Rattle.unit_walks.proofs.indexing.forms_of.Goals as goal

pub returns : goal.returns
returns c = λ m k.
    let t = k.table in
    let types = subst (λ ts. Along (IsNamedType m.declared.symbols) ts m.declared.types) (sym c.deref.ensures.value)
    t.holds.types in
    let shown = subst (λ bs. Along IsBodyOf bs m.declared.bodies) (sym c.deref-2.ensures.value) t.holds.bodies in
    let lists = c.in_ok-lists.ensures m.declared (c.in_ok-bodies.ensures m.declared types) shown in
    let index = subst (λ ls. AreIndexed ls (length ls) 0 c.in_ok-places.places) c.deref-3.ensures.value
    c.in_ok-places.ensures in
    forms_ready m (record { lists = c.in_ok-lists.lists; places = c.in_ok-places.places }) c.deref-2.result.now k.kept
    (ap (map sites_kept) c.deref-2.ensures.value ∙ t.members) lists index
