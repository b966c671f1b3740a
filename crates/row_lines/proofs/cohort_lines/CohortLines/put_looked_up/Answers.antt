use Rattle.std.proofs.Common.{◌<◌, ◌≤◌, ◌++◌, ℕ, length, ap, arith, subst, sym, ◌∙◌}
use Rattle.cohort_sizes.specs.Births.{birth}
use Rattle.schema_facts.specs.ColumnFacts.{field_cost}
use Rattle.schema_facts.specs.Dictionaries.{Project}
use Rattle.schema_facts.specs.FieldSizes.{size_at}
use Rattle.schema_facts.specs.Layout.{layout_of}
use Rattle.life_intervals.specs.Generator.{last_unit, rows_in_all, table_of}
use Rattle.cohort_sizes.proofs.CohortLemmas.{born_count-le}
use Rattle.row_lines.specs.CohortLines.{LinesOf}
use Rattle.row_lines.specs.Lookups.{StillRowOf, text_held}
use Rattle.row_lines.proofs.CohortLineLemmas.{AreLinesOf-view}
use Rattle.row_lines.proofs.LineLemmas.{birth-within}
use Rattle.row_lines.proofs.cohort_lines.CohortLines.put_looked_up.Goals as goal

-- the row of the parent
abbrev row_seen : LinesOf → ℕ → ℕ → StillRowOf
row_seen lines table ordinal = record { plan = lines.plan; table = table; unit = lines.unit; ordinal = ordinal }

pub birth-born-requires-clause-row : goal.birth-born-requires-clause-row
birth-born-requires-clause-row g c =
    let lines : LinesOf = c.args.self.now in
    let known = AreLinesOf-view _ c.args.self.now c.self.inside.columns.now c.self.inside.fields c.self.inside.delimiter c.self.view_is c.self.invariant in
    subst (λ (plan : Project). c.args.parent < rows_in_all plan c.args.lookup.now.parent) (sym (c.plan.ensures ∙ ap (λ (of : LinesOf). of.plan) c.self.view_is))
    (omega (arith, c.requires.born, born_count-le (table_of lines.plan c.args.lookup.now.parent).births lines.unit (last_unit lines.plan) known.unit))

pub new-row-requires-clause-born : goal.new-row-requires-clause-born
new-row-requires-clause-born g c =
    let lines : LinesOf = c.args.self.now in
    let known = AreLinesOf-view _ c.args.self.now c.self.inside.columns.now c.self.inside.fields c.self.inside.delimiter c.self.view_is c.self.invariant in
    omega (
      arith,
      c.birth-born.ensures.unit,
      ap (λ (plan : Project). birth (table_of plan c.args.lookup.now.parent).births (last_unit plan) c.args.parent) (c.plan.ensures ∙ ap (λ (of : LinesOf). of.plan) c.self.view_is),
      birth-within (table_of lines.plan c.args.lookup.now.parent).births (last_unit lines.plan) lines.unit c.args.parent known.unit c.requires.born,
      ap (λ (of : LinesOf). of.unit) c.self.view_is,
    )

pub put-requires-clause-room : goal.put-requires-clause-room
put-requires-clause-room g c =
    let seen = c.new-row.ensures ∙ ap (λ (of : LinesOf). row_seen of c.args.lookup.now.parent c.args.parent) c.self.view_is in
    omega (arith, c.requires.room, ap (λ (of : StillRowOf). size_at (layout_of of.plan).delimiter (table_of of.plan of.table).columns c.args.lookup.now.column) seen)

pub returns-clause-text : goal.returns-clause-text
returns-clause-text g c =
    let seen = c.new-row.ensures ∙ ap (λ (of : LinesOf). row_seen of c.args.lookup.now.parent c.args.parent) c.self.view_is in
    c.put.ensures.text
    ∙ ap (λ (of : StillRowOf). record { text = c.args.buf.now.text ++ text_held of.plan of.table of.unit of.ordinal c.args.lookup.now.column; room = c.args.buf.now.room }) seen

pub returns-clause-size : goal.returns-clause-size
returns-clause-size g c =
    let seen = c.new-row.ensures ∙ ap (λ (of : LinesOf). row_seen of c.args.lookup.now.parent c.args.parent) c.self.view_is in
    subst (λ (of : StillRowOf). length (text_held of.plan of.table of.unit of.ordinal c.args.lookup.now.column) ≤ size_at (layout_of of.plan).delimiter (table_of of.plan of.table).columns c.args.lookup.now.column) seen
    c.put.ensures.size

pub returns-clause-steps : goal.returns-clause-steps
returns-clause-steps g c =
    let seen = c.new-row.ensures ∙ ap (λ (of : LinesOf). row_seen of c.args.lookup.now.parent c.args.parent) c.self.view_is in
    omega (arith, c.put.ensures.steps, ap (λ (of : StillRowOf). field_cost (layout_of of.plan) of.table c.args.lookup.now.column) seen)
