use Rattle.std.proofs.Common.{ℕ, List, [], map, take, ap, subst, ◌∙◌}
use Rattle.ar_base.specs.declared.places.Place.{Place}
use Rattle.class_table.specs.Earliest.{IsEarliest}
use Rattle.class_table.specs.Names.{name_and_place}
use Rattle.class_table.specs.Repeating.{IsRepeated}
use Rattle.class_table.specs.Retested.{IsNameTaken, member_names_at}
use Rattle.class_table.specs.TablesInside.{site_of}
use Rattle.class_table.proofs.Retested.{met_earliest, rest_whole}
use Rattle.class_table.proofs.naming.in_body.Goals as goal

pub returns : goal.returns
returns c = λ d b shown listed given m e.
    let list = c.in_ok-list.ensures d shown in
    let rest = rw (c.deref.ensures.value, rest_whole) at list in
    let met = c.in_ok-add_all.ensures [] c.new-names.ensures in
    let took = c.first_taken.ensures d given in
    record {
      n = c.tested_before-before.result;
      apart = c.tested_before-before.ensures.apart d b shown listed m e;
      earliest = met_earliest _ _ _ _ _
          (subst (λ (ns : List (ℕ × Place)). IsEarliest (IsRepeated ns) c.add_all.new.self.found)
          (ap (map name_and_place) c.deref-2.ensures.value ∙ rest) met.found)
          (subst (λ (ns : List (ℕ × Place)). IsEarliest (IsNameTaken
          (member_names_at d (map site_of (take c.tested_before-before.result c.args.body.now.all.items))) ns) c.first_taken.result)
          (ap (map name_and_place) c.deref-4.ensures.value ∙ rest) (rw c.deref-3.ensures.value at took))
          c.earliest.ensures;
    }
