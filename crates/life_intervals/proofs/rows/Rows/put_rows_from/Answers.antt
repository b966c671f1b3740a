use Rattle.std.proofs.Common.{◌<◌, ◌+◌, ◌*◌, ℕ, List, ap, arith, drop, length, subst, sym, ◌∙◌}
use Rattle.std.specs.Prelude.{All}
use Rattle.std.proofs.lemmas.List.{take_rest}
use Rattle.cohort_sizes.specs.Births.{cohort_size}
use Rattle.schema_facts.specs.Lineage.{one_if}
use Rattle.life_intervals.specs.CohortOrders.{is_drawn}
use Rattle.life_intervals.specs.FoundAt.{row_at_place}
use Rattle.life_intervals.specs.Generator.{table_of}
use Rattle.life_intervals.proofs.AppendLemmas.{tail-map}
use Rattle.life_intervals.proofs.rows.Rows.put_rows_from.Goals as goal

pub put_rows_at-requires-clause-below : goal.put_rows_at-requires-clause-below
put_rows_at-requires-clause-below g c =
    subst (All (λ place. place < cohort_size (table_of c.args.self.now c.args.table).births c.args.born))
    (ap (drop c.args.from) (sym c.deref_mut.ensures.value) ∙ sym (take_rest c.deref_mut.result.now c.args.from))
    c.requires.below

pub returns-clause-rows : goal.returns-clause-rows
returns-clause-rows g c =
    tail-map (row_at_place c.args.self.now c.args.table c.args.purpose c.args.born) c.deref_mut.result.now c.args.rows.now.items c.put_rows_at.new.places c.args.from c.args.rows.now.len
    c.deref_mut.ensures.value c.requires.within (omega (arith, c.args.rows.now.ok.0)) c.put_rows_at.ensures.rows

pub returns-clause-steps : goal.returns-clause-steps
returns-clause-steps g c =
    c.put_rows_at.ensures.steps
    ∙ ap (λ (xs : List ℕ). c.args.steps.now + length xs * one_if (is_drawn (table_of c.args.self.now c.args.table) c.args.purpose))
    (take_rest c.deref_mut.result.now c.args.from ∙ ap (drop c.args.from) c.deref_mut.ensures.value)
