use Rattle.std.proofs.Common.{◌≡◌, ◌+◌, ℕ, Option, count_by, length, ap, sym, zero-add, ◌∙◌}
use Rattle.std.specs.Prelude.{is_some, nat_lt}
use Rattle.schema_facts.specs.declared.layout.Span.{Span}
use Rattle.schema_facts.specs.Lineage.{one_if}
use Rattle.schema_facts.specs.References.{cascades_of}
use Rattle.update_box.specs.Candidates.{is_cascade}
use Rattle.life_intervals.specs.Generator.{table_of}
use Rattle.update_box.proofs.DeletionLemmas.{count-cascades, many-with_life}
use Rattle.update_box.proofs.deletions.has_many_endings.Goals as goal

pub returns-in-Some : goal.returns-in-Some
returns-in-Some c =
    let cascades : ℕ = length (cascades_of (table_of c.args.plan.now c.args.table)) in
    let many : c.count_cascades-cascades.result ≡ cascades = c.count_cascades-cascades.ensures ∙ ap (count_by is_cascade) c.columns.ensures.columns ∙ count-cascades c.args.plan.now c.args.table in
    ap (nat_lt 0) many
    ∙ many-with_life cascades
    ∙ ap (λ (life : Option Span). nat_lt 1 (one_if (is_some life) + cascades)) (sym c.in-Some.is ∙ c.life.ensures.life)

pub returns-in-None : goal.returns-in-None
returns-in-None c =
    let cascades : ℕ = length (cascades_of (table_of c.args.plan.now c.args.table)) in
    let many : c.count_cascades-cascades.result ≡ cascades = c.count_cascades-cascades.ensures ∙ ap (count_by is_cascade) c.columns.ensures.columns ∙ count-cascades c.args.plan.now c.args.table in
    ap (nat_lt 1) (many ∙ sym (zero-add cascades))
    ∙ ap (λ (life : Option Span). nat_lt 1 (one_if (is_some life) + cascades)) (sym c.in-None.is ∙ c.life.ensures.life)
