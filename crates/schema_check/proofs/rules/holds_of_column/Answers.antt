use Rattle.std.proofs.Common.{◌∙◌, ◌||◌, List, length, map, nat_le, refl, ap}
use Rattle.schema_model.specs.declared.column.Column.{Column}
use Rattle.schema_facts.specs.declared.column_facts.ColumnFacts.{ColumnFacts}
use Rattle.schema_facts.specs.declared.facts.TableFacts.{TableFacts}
use Rattle.schema_plan.specs.declared.rules.Rule.TheVariants.{LaterDates, Totals}
use Rattle.schema_plan.specs.declared.site.Site.TheVariants.{OfColumn}
use Rattle.schema_facts.specs.Capped.{first_facts}
use Rattle.schema_facts.specs.FactsBefore.{facts_in}
use Rattle.schema_plan.specs.Rules.{is_later_date, is_total, kind_at}
use Rattle.schema_plan.specs.Sites.{columns_at}
use Rattle.schema_check.proofs.RuleLemmas.{holds_at, known_facts-is}
use Rattle.schema_check.proofs.rules.holds_of_column.Goals as goal

pub returns-in-LaterDates : goal.returns-in-LaterDates
returns-in-LaterDates c =
    let project = c.args.candidate.now in
    let table = c.args.table in
    let column = c.args.column in
    let asked = λ (known : List TableFacts) (columns : List Column). nat_le (length known) table || is_later_date (facts_in (map (λ (of : TableFacts). of.columns) known) table column).days columns column (kind_at columns column) in
    let columns = columns_at project.schema table in
    holds_at c.args.rule LaterDates project (OfColumn table column) (OfColumn table column) c.keeps_later_dates.result c.in-LaterDates.is refl
    (c.keeps_later_dates.ensures
    ∙ ap (λ known. asked known c.columns_at-columns.result.now) c.facts.ensures
    ∙ ap (asked (first_facts project)) (rw c.schema-schema.ensures at c.columns_at-columns.ensures)
    ∙ known_facts-is project table column (λ (facts : ColumnFacts). is_later_date facts.days columns column (kind_at columns column)) c.requires.0 (λ facts. refl))

pub returns-in-Totals : goal.returns-in-Totals
returns-in-Totals c =
    let project = c.args.candidate.now in
    let table = c.args.table in
    let column = c.args.column in
    let asked = λ (known : List TableFacts) (columns : List Column). nat_le (length known) table || is_total (facts_in (map (λ (of : TableFacts). of.columns) known) table column).numbers columns column (kind_at columns column) in
    let columns = columns_at project.schema table in
    holds_at c.args.rule Totals project (OfColumn table column) (OfColumn table column) c.keeps_totals.result c.in-Totals.is refl
    (c.keeps_totals.ensures
    ∙ ap (λ known. asked known c.columns_at-columns.result.now) c.facts-in-Totals.ensures
    ∙ ap (asked (first_facts project)) (rw c.schema-schema.ensures at c.columns_at-columns.ensures)
    ∙ known_facts-is project table column (λ (facts : ColumnFacts). is_total facts.numbers columns column (kind_at columns column)) c.requires.0 (λ facts. refl))
