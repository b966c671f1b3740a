use Rattle.std.proofs.Common.{◌≡◌, ◌<◌, ◌≤◌, length, sym, ap, ◌∙◌, subst, arith}
use Rattle.std.proofs.lemmas.List.{length-map}
use Rattle.schema_facts.specs.Counts.{count}
use Rattle.schema_facts.specs.Layout.{layout_of, no_table, table_at, table_layout}
use Rattle.schema_plan.specs.Limits.{IsTableInLimits}
use Rattle.schema_facts.specs.Dictionaries.{Project, project_of}
use Rattle.schema_plan.specs.Ready.{ready_columns}
use Rattle.schema_plan.proofs.PlannedLemmas.{length-kept, get_or-kept}
use Rattle.schema_plan.proofs.plan.Plan.columns.Goals as goal

pub index-requires : goal.index-requires
index-requires c =
    let inside = c.self.inside in
    let within : c.args.table < length inside.schema.tables =
    subst (λ (p : Project). c.args.table < length p.schema.tables) (sym c.self.view_is) c.requires in
    omega (arith, within, length-kept (ready_columns (layout_of (project_of inside.schema inside.dictionaries))) (length inside.schema.tables) inside.ready.items c.self.invariant.columns, inside.ready.ok.0)

pub returns : goal.returns
returns c =
    let inside = c.self.inside in
    let schema = inside.schema in
    let project = project_of inside.schema inside.dictionaries in
    let table = c.args.table in
    let within : table < length schema.tables =
    subst (λ (p : Project). table < length p.schema.tables) (sym c.self.view_is) c.requires in
    let in_layouts : table < length (layout_of project).tables = omega (arith, within, length-map schema.tables (table_layout inside.dictionaries schema.tables)) in
    let columns : c.as_slice.result.now ≡ ready_columns (layout_of project) table =
    c.as_slice.ensures ∙ c.index.ensures
    ∙ get_or-kept (ready_columns (layout_of project)) (length schema.tables) inside.ready.items c.self.invariant.columns table _ within in
    record {
      columns = columns ∙ ap (λ (p : Project). ready_columns (layout_of p) table) c.self.view_is;
      limits = subst (λ (p : Project). IsTableInLimits (layout_of p).units (table_at (layout_of p).tables table)) c.self.view_is (c.self.invariant.limits.tables table no_table in_layouts);
      units = subst (λ (p : Project). count p.schema.units ≤ 10000) c.self.view_is c.self.invariant.limits.unit_limit;
    }
