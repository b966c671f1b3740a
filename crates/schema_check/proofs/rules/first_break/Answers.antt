use Rattle.std.proofs.Common.{length, sym, ap, ◌∙◌, ◌<◌, arith}
use Rattle.std.specs.List.{range_with_len}
use Rattle.std.specs.Option.{option_or}
use Rattle.schema_model.specs.declared.table.Schema.{Schema}
use Rattle.schema_plan.specs.declared.site.Site.TheVariants.{Whole}
use Rattle.schema_plan.specs.Rules.{break_in_table, first_found}
use Rattle.schema_check.proofs.FirstFound.{found_at_place, found_past_place}
use Rattle.schema_check.proofs.Kept.{none_from_holds}
use Rattle.schema_check.proofs.rules.first_break.Goals as goal

pub returns-in-Some-clause-first : goal.returns-in-Some-clause-first
returns-in-Some-clause-first c =
    let rule = c.args.rule in
    let project = c.args.candidate.now in
    let look = break_in_table rule project in
    let rest = first_found look (range_with_len 0 (length project.schema.tables)) in
    let within : c.loop-table.table < length project.schema.tables = omega (arith, ap (λ (s : Schema). length s.tables) c.schema.ensures) in
    sym (ap (λ found. option_or found rest) (none_from_holds rule project Whole (sym c.holds.ensures ∙ c.if-not-holds.false))
    ∙ c.loop-table.invariant
    ∙ found_at_place look c.loop-table.table (length project.schema.tables) c.in-Some.site within (sym c.break_in_table.ensures.first ∙ c.in-Some.is))

pub loop-table-preserved : goal.loop-table-preserved
loop-table-preserved c =
    let rule = c.args.rule in
    let project = c.args.candidate.now in
    let within : c.loop-table.table < length project.schema.tables = omega (arith, ap (λ (s : Schema). length s.tables) c.schema.ensures) in
    c.loop-table.invariant
    ∙ found_past_place (break_in_table rule project) c.loop-table.table (length project.schema.tables) within (sym c.break_in_table.ensures.first ∙ c.in_default.is)
