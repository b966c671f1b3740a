use Rattle.std.proofs.Common.{ℕ, length, sym, ap, ◌∙◌, ◌<◌, arith}
use Rattle.std.specs.Option.{option_or}
use Rattle.schema_model.specs.declared.table.Schema.{Schema}
use Rattle.schema_plan.specs.declared.site.Site.TheVariants.{OfTable, OfColumn}
use Rattle.schema_plan.specs.Rules.{break_at, first_found}
use Rattle.schema_plan.specs.Sites.{columns_at}
use Rattle.std.specs.List.{range_with_len}
use Rattle.schema_check.proofs.FirstFound.{found_at_place, found_past_place}
use Rattle.schema_check.proofs.Kept.{none_from_holds, some_from_broken}
use Rattle.schema_check.proofs.rules.break_in_table.Goals as goal

pub returns-then-not-holds-2-clause-first : goal.returns-then-not-holds-2-clause-first
returns-then-not-holds-2-clause-first c =
    let rule = c.args.rule in
    let project = c.args.candidate.now in
    let table = c.args.table in
    let look = λ (column : ℕ). break_at rule project (OfColumn table column) in
    let rest = first_found look (range_with_len 0 (length (columns_at project.schema table))) in
    let within : c.loop-column.column < length (columns_at project.schema table) = omega (arith, ap length c.columns_at-column-end.ensures, ap (λ (s : Schema). length (columns_at s table)) c.schema.ensures) in
    sym (ap (λ found. option_or found rest) (none_from_holds rule project (OfTable table) (sym c.holds.ensures ∙ c.if-not-holds.false))
    ∙ c.loop-column.invariant
    ∙ found_at_place look c.loop-column.column (length (columns_at project.schema table)) (OfColumn table c.loop-column.column) within (some_from_broken rule project (OfColumn table c.loop-column.column) (sym c.holds-in-loop-column.ensures ∙ c.if-not-holds-2.true)))

pub loop-column-preserved : goal.loop-column-preserved
loop-column-preserved c =
    let rule = c.args.rule in
    let project = c.args.candidate.now in
    let table = c.args.table in
    let within : c.loop-column.column < length (columns_at project.schema table) = omega (arith, ap length c.columns_at-column-end.ensures, ap (λ (s : Schema). length (columns_at s table)) c.schema.ensures) in
    c.loop-column.invariant
    ∙ found_past_place (λ (column : ℕ). break_at rule project (OfColumn table column)) c.loop-column.column (length (columns_at project.schema table)) within
    (none_from_holds rule project (OfColumn table c.loop-column.column) (sym c.holds-in-loop-column.ensures ∙ c.if-not-holds-2.false))
