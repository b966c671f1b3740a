use Rattle.std.proofs.Common.{◌∙◌, ap, map, refl}
use Rattle.schema_model.specs.declared.table.Table.{Table}
use Rattle.schema_facts.specs.declared.facts.TableFacts.{TableFacts}
use Rattle.schema_plan.specs.declared.rules.Rule.TheVariants.{TableNames, RowCost, LineSize}
use Rattle.schema_plan.specs.declared.site.Site.TheVariants.{OfTable}
use Rattle.schema_facts.specs.Capped.{is_known_at_most}
use Rattle.schema_plan.specs.Rules.{is_new_at}
use Rattle.schema_check.proofs.RuleLemmas.{holds_at, row_cost-is, line_size-is}
use Rattle.schema_check.proofs.rules.holds_of_table.Goals as goal

pub returns-in-TableNames : goal.returns-in-TableNames
returns-in-TableNames c =
    holds_at c.args.rule TableNames c.args.candidate.now (OfTable c.args.table) (OfTable c.args.table) c.is_new_table.result c.in-TableNames.is refl
    (rw c.schema-schema.ensures at (c.is_new_table.ensures ∙ ap (λ tables. is_new_at (map (λ (table : Table). table.name) tables) c.args.table) c.as_slice-tables.ensures))

pub returns-in-RowCost : goal.returns-in-RowCost
returns-in-RowCost c =
    holds_at c.args.rule RowCost c.args.candidate.now (OfTable c.args.table) (OfTable c.args.table) c.is_row_cost.result c.in-RowCost.is refl
    (c.is_row_cost.ensures ∙ ap (λ facts. is_known_at_most (map (λ (fact : TableFacts). fact.cost) facts) c.args.table 4096) c.facts.ensures
    ∙ row_cost-is c.args.candidate.now c.args.table c.requires)

pub returns-in-LineSize : goal.returns-in-LineSize
returns-in-LineSize c =
    holds_at c.args.rule LineSize c.args.candidate.now (OfTable c.args.table) (OfTable c.args.table) c.is_line_size.result c.in-LineSize.is refl
    (c.is_line_size.ensures ∙ ap (λ facts. is_known_at_most (map (λ (fact : TableFacts). fact.max_line) facts) c.args.table 65536) c.facts-in-LineSize.ensures
    ∙ line_size-is c.args.candidate.now c.args.table c.requires)
