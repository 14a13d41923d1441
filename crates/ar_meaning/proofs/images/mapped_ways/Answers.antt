use Rattle.std.proofs.Common.{◌≡◌, subst}
use Rattle.ar_base.proofs.Standing.{stands_one}
use Rattle.ar_meaning.specs.FlatOf.{IsNumber}
use Rattle.ar_meaning.specs.Expand.{Ways}
use Rattle.ar_meaning.proofs.ImageWays.{ways_along, ways_back, leads_there, leads_back}
use Rattle.ar_meaning.proofs.ChangedLeaves.{are_mapped, means_changed}
use Rattle.ar_meaning.proofs.images.mapped_ways.Goals as goal

pub returns-clause-mapped_ways : goal.returns-clause-mapped_ways
returns-clause-mapped_ways g c = λ f keys ds es different k e n s ts w.
    let r = ways_along (λ l m. f l ≡ m) (IsNumber keys) ds es k (λ x m n r s. different.one m n x r s) s w in
    subst (λ z. Ways es n z) (are_mapped f r.2) r.1

pub returns-clause-mapped_ways_back : goal.returns-clause-mapped_ways_back
returns-clause-mapped_ways_back g c = λ f keys ds es different k e n s us w.
    let r = ways_back (λ l m. f l ≡ m) (IsNumber keys) ds es k (λ x y n r s. stands_one keys n x y r s) s w in
    (r.0, r.1, are_mapped f r.2)

pub returns-clause-mapped_leads_back : goal.returns-clause-mapped_leads_back
returns-clause-mapped_leads_back g c = λ f keys ds es different d e n k s. (
  λ h. leads_there (λ l m. f l ≡ m) (IsNumber keys) ds es d (λ x m n r s. different.one m n x r s) s h,
  λ h. leads_back (λ l m. f l ≡ m) (IsNumber keys) ds es d (λ x y n r s. stands_one keys n x y r s) s h,
)

pub returns-clause-changed_leaves : goal.returns-clause-changed_leaves
returns-clause-changed_leaves g c = λ f bodies n t m. means_changed f bodies m
