use Rattle.std.proofs.Common.{◌≡◌, ◌<◌, ◌≤◌, ◌++◌, ◌∙◌, All, List, [], ap, arith, length, subst, sym}
use Rattle.update_box.specs.Parts.{Part}
use Rattle.run_jobs.specs.Jobs.{IsPartOf}
use Rattle.fill_jobs.proofs.SqlLemmas.{parts-are, parts-few, parts-some}
use Rattle.fill_jobs.proofs.sql.told_parts.Goals as goal

-- none stood before them
parts-alone : (old told now : List Part) → old ≡ [] → now ≡ old ++ told → told ≡ now
parts-alone old told now none pushed = sym (pushed ∙ ap (λ (front : List Part). front ++ told) none)

pub push_told-requires-clause-few : goal.push_told-requires-clause-few
push_told-requires-clause-few c = omega (arith, c.places_of-places.ensures.within, c.schema-limits.ensures.limits.table_limit)

pub returns-clause-are : goal.returns-clause-are
returns-clause-are c =
    subst (λ (parts : List Part). All (IsPartOf c.args.job.now) parts) (parts-alone c.new-parts.result.items _ _ c.new-parts.ensures.items c.in_ok-push_told.ensures)
    (parts-are c.args.job.now c.requires.can)

pub returns-clause-some : goal.returns-clause-some
returns-clause-some c =
    subst (λ (parts : List Part). 0 < length parts) (parts-alone c.new-parts.result.items _ _ c.new-parts.ensures.items c.in_ok-push_told.ensures) (parts-some c.args.job.now c.requires.can)

pub returns-clause-few : goal.returns-clause-few
returns-clause-few c =
    subst (λ (parts : List Part). length parts ≤ 192) (parts-alone c.new-parts.result.items _ _ c.new-parts.ensures.items c.in_ok-push_told.ensures) (parts-few c.args.job.now c.requires.can)
