use Rattle.std.proofs.Common.{◌<◌, length, sym, subst, arith}
use Rattle.std.proofs.lemmas.List.{length-map}
use Rattle.schema_facts.specs.Layout.{layout_of, no_table, table_at, table_layout}
use Rattle.schema_plan.specs.Limits.{IsTableInLimits}
use Rattle.schema_facts.specs.Dictionaries.{Project, project_of}
use Rattle.schema_plan.proofs.plan.Plan.table.Goals as goal

pub returns-clause-limits : goal.returns-clause-limits
returns-clause-limits c =
    let schema = c.self.inside.schema in
    let project = project_of schema c.self.inside.dictionaries in
    let table = c.args.table in
    let within : table < length schema.tables = subst (λ (p : Project). table < length p.schema.tables) (sym c.self.view_is) c.requires in
    let in_layouts : table < length (layout_of project).tables = omega (arith, within, length-map schema.tables (table_layout c.self.inside.dictionaries schema.tables)) in
    subst (λ (p : Project). IsTableInLimits (layout_of p).units (table_at (layout_of p).tables table)) c.self.view_is (c.self.invariant.limits.tables table no_table in_layouts)
