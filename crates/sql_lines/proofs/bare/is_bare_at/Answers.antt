use Rattle.std.proofs.Common.{◌≡◌, ap, arith, sym, ◌∙◌}
use Rattle.schema_facts.specs.Layout.{column_at, layout_of}
use Rattle.schema_plan.specs.Ready.{ready_kind}
use Rattle.schema_plan.specs.declared.ready.ReadyColumn.{ReadyColumn}
use Rattle.schema_plan.specs.declared.ready.ReadyKind.TheVariants as kind
use Rattle.life_intervals.specs.Generator.{table_of}
use Rattle.sql_lines.specs.Bare.{is_bare_ready}
use Rattle.sql_lines.proofs.BareLemmas.{columns-many, kind-bare, kind-found, lookup-bare, own-bare, shown-column, shown-few, shown-table}
use Rattle.sql_lines.proofs.bare.is_bare_at.Goals as goal
use Rattle.sql_lines.proofs.bare.is_bare_at.Goals.{In-Lookup}

-- the lookup is ready in the column
lookup_is : (c : In-Lookup) → ready_kind (layout_of c.args.plan.now).delimiter (column_at (table_of c.args.plan.now c.args.table).columns c.args.column).kind ≡ kind.Lookup c.in-Lookup.lookup
lookup_is c =
    sym (kind-found c.args.plan.now c.args.table c.args.column c.columns-columns.result.now c.index-columns-column.result c.columns-columns.ensures.columns c.requires.column c.index-columns-column.is)
    ∙ ap (λ (column : ReadyColumn). column.kind) c.index-columns-column.is ∙ c.in-Lookup.is

pub columns-shown-requires : goal.columns-shown-requires
columns-shown-requires c =
    shown-table c.args.plan.now c.schema-limits.ensures.limits c.args.table c.args.column c.requires.table c.requires.column c.in-Lookup.lookup (lookup_is (goal.at.columns-shown-requires c).In-Lookup)

pub offset_bounds-shown-lookup : goal.offset_bounds-shown-lookup
offset_bounds-shown-lookup c =
    let few = shown-few c.args.plan.now c.schema-limits.ensures.limits c.args.table c.args.column c.requires.table c.requires.column c.in-Lookup.lookup (lookup_is (goal.at.offset_bounds-shown-lookup c).In-Lookup) in
    record { fits = omega (arith, few) }

pub bounds-shown-lookup : goal.bounds-shown-lookup
bounds-shown-lookup c =
    omega (
      arith,
      shown-column c.args.plan.now c.schema-limits.ensures.limits c.args.table c.args.column c.requires.table c.requires.column c.in-Lookup.lookup (lookup_is (goal.at.bounds-shown-lookup c).In-Lookup),
      columns-many c.args.plan.now c.in-Lookup.lookup.parent c.columns-shown.result.now c.columns-shown.ensures.columns,
    )

pub returns-in-Lookup : goal.returns-in-Lookup
returns-in-Lookup c =
    let at = (goal.at.returns-in-Lookup c).In-Lookup in
    let plan = c.args.plan.now in
    c.is_bare.ensures
    ∙ ap (λ (column : ReadyColumn). is_bare_ready column.kind) (sym c.index-shown-lookup.is)
    ∙ ap is_bare_ready (kind-found plan c.in-Lookup.lookup.parent c.in-Lookup.lookup.column c.columns-shown.result.now c.index-shown-lookup.result c.columns-shown.ensures.columns
    (shown-column plan c.schema-limits.ensures.limits c.args.table c.args.column c.requires.table c.requires.column c.in-Lookup.lookup (lookup_is at)) c.index-shown-lookup.is)
    ∙ kind-bare (layout_of plan).delimiter (column_at (table_of plan c.in-Lookup.lookup.parent).columns c.in-Lookup.lookup.column).kind
    ∙ lookup-bare (layout_of plan).tables (layout_of plan).delimiter (column_at (table_of plan c.args.table).columns c.args.column).kind c.in-Lookup.lookup (lookup_is at)

pub returns-in_default : goal.returns-in_default
returns-in_default c =
    let plan = c.args.plan.now in
    let found = kind-found plan c.args.table c.args.column c.columns-columns.result.now c.index-columns-column.result c.columns-columns.ensures.columns c.requires.column c.index-columns-column.is in
    let told = ap (λ (column : ReadyColumn). column.kind) c.index-columns-column.is in
    c.is_bare-in_default.ensures
    ∙ ap is_bare_ready (sym told ∙ found)
    ∙ own-bare (layout_of plan).tables (layout_of plan).delimiter (column_at (table_of plan c.args.table).columns c.args.column).kind
    (λ lookup is. c.in_default.not-Lookup lookup (sym told ∙ found ∙ is))
