use Rattle.std.proofs.Common.{◌≡◌, ◌<◌, ◌++◌, ◌%◌, ℕ, List, ap, arith, subst, sym, ◌∙◌}
use Rattle.std.specs.Prelude.{◌==◌, All}
use Rattle.cohort_sizes.specs.Births.{cohort_size}
use Rattle.schema_facts.specs.Dictionaries.{Project}
use Rattle.schema_facts.specs.Lineage.{one_if}
use Rattle.life_intervals.specs.CohortOrders.{is_drawn}
use Rattle.life_intervals.specs.FoundAt.{places_leaving, row_at_place, rows_leaving}
use Rattle.life_intervals.specs.Generator.{table_of}
use Rattle.life_intervals.proofs.AppendLemmas.{AreAppended-places, GoesOn-appended, drop-behind, steps-places}
use Rattle.life_intervals.proofs.BlockLemmas.{All-filter_below}
use Rattle.life_intervals.proofs.ResidueLemmas.{rows_leaving-places}
use Rattle.life_intervals.proofs.rows.Rows.push_rows_leaving.Goals as goal

pub put_rows_from-requires-clause-below : goal.put_rows_from-requires-clause-below
put_rows_from-requires-clause-below g c =
    let plan : Project = c.args.self.now in
    let size_is : c.cohort.result.size ≡ cohort_size (table_of plan c.args.table).births c.args.born =
    c.cohort.ensures.size ∙ ap (λ (p : Project). cohort_size (table_of p c.args.table).births c.args.born) c.plan-2.ensures in
    let places : List ℕ = places_leaving c.args.residue.modulus c.args.residue.remainder c.cohort.result.size in
    subst (All (λ place. place < cohort_size (table_of plan c.args.table).births c.args.born))
    (sym (drop-behind c.args.rows.now.items c.push_places_leaving.new.places.items places c.len-from.result (omega (arith, c.len-from.ensures, c.args.rows.now.ok.0)) c.in_ok-push_places_leaving.ensures.places))
    (All-filter_below (λ place. place % c.args.residue.modulus == c.args.residue.remainder) 0 c.cohort.result.size (cohort_size (table_of plan c.args.table).births c.args.born) (omega (arith, size_is)))

pub returns-clause-rows : goal.returns-clause-rows
returns-clause-rows g c =
    let plan : Project = c.args.self.now in
    let size_is : c.cohort.result.size ≡ cohort_size (table_of plan c.args.table).births c.args.born =
    c.cohort.ensures.size ∙ ap (λ (p : Project). cohort_size (table_of p c.args.table).births c.args.born) c.plan-2.ensures in
    let places : ℕ → List ℕ = places_leaving c.args.residue.modulus c.args.residue.remainder in
    AreAppended-places (row_at_place plan c.args.table c.args.purpose c.args.born)
    (rows_leaving plan c.args.table c.args.purpose c.args.born c.args.residue.modulus c.args.residue.remainder) c.args.rows.now.items c.push_places_leaving.new.places.items c.put_rows_from.new.rows.items
    (places (cohort_size (table_of plan c.args.table).births c.args.born)) c.len-from.result
    (omega (arith, c.len-from.ensures, c.args.rows.now.ok.0)) (c.in_ok-push_places_leaving.ensures.places ∙ ap (λ (n : ℕ). c.args.rows.now.items ++ places n) size_is) c.put_rows_from.ensures.rows
    (rows_leaving-places plan c.args.table c.args.purpose c.args.born c.args.residue.modulus c.args.residue.remainder)

pub returns-clause-steps : goal.returns-clause-steps
returns-clause-steps g c =
    let plan : Project = c.args.self.now in
    let size_is : c.cohort.result.size ≡ cohort_size (table_of plan c.args.table).births c.args.born =
    c.cohort.ensures.size ∙ ap (λ (p : Project). cohort_size (table_of p c.args.table).births c.args.born) c.plan-2.ensures in
    let places : ℕ → List ℕ = places_leaving c.args.residue.modulus c.args.residue.remainder in
    let took = steps-places (row_at_place plan c.args.table c.args.purpose c.args.born)
    (rows_leaving plan c.args.table c.args.purpose c.args.born c.args.residue.modulus c.args.residue.remainder) c.args.rows.now.items c.push_places_leaving.new.places.items
    (places (cohort_size (table_of plan c.args.table).births c.args.born)) c.len-from.result (one_if (is_drawn (table_of plan c.args.table) c.args.purpose)) c.put_rows_from.new.steps c.args.steps.now
    (omega (arith, c.len-from.ensures, c.args.rows.now.ok.0)) (c.in_ok-push_places_leaving.ensures.places ∙ ap (λ (n : ℕ). c.args.rows.now.items ++ places n) size_is)
    (rows_leaving-places plan c.args.table c.args.purpose c.args.born c.args.residue.modulus c.args.residue.remainder) c.put_rows_from.ensures.steps in
    omega (arith, took)

pub returns-clause-before : goal.returns-clause-before
returns-clause-before g c =
    GoesOn-appended (rows_leaving c.args.self.now c.args.table c.args.purpose c.args.born c.args.residue.modulus c.args.residue.remainder) c.args.rows.now.items c.put_rows_from.new.rows.items (returns-clause-rows g c)
