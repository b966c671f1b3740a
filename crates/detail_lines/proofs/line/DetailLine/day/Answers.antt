use Rattle.std.proofs.Common.{ℕ, ap, subst, sym, ◌∙◌}
use Rattle.std.specs.Prelude.{IfSome}
use Rattle.schema_plan.specs.declared.ready.ReadyColumn.{ReadyColumn}
use Rattle.schema_facts.specs.ColumnFacts.{field_facts}
use Rattle.schema_facts.specs.Layout.{layout_of}
use Rattle.schema_plan.specs.Limits.{IsStillColumn}
use Rattle.draw_values.specs.CohortValues.{IsDayOf}
use Rattle.life_intervals.specs.Generator.{table_of}
use Rattle.row_lines.specs.Lookups.{StillRowOf, day_held}
use Rattle.detail_lines.specs.Made.{IsLineOver, LineOver}
use Rattle.detail_lines.proofs.LineValueLemmas.{after_as, day-drawn, day-shown, drawn_ready, no_day, shown_as}
use Rattle.detail_lines.proofs.line.DetailLine.day.Goals as goal

pub leaf_day-requires : goal.leaf_day-requires
leaf_day-requires g c =
    let line : LineOver = c.args.self.now in
    let own = subst (λ (l : LineOver). IsLineOver l c.self.inside.row.now c.self.inside.delimiter c.self.inside.seeds.now c.self.inside.drawn) c.self.view_is c.self.invariant in
    drawn_ready line own.keeps own.limits c.args.column c.requires.column c.in-Drawn.leaf (sym (ap (λ (ready : ReadyColumn). ready.kind) c.column.ensures) ∙ c.in-Drawn.is)

pub day-requires : goal.day-requires
day-requires g c =
    let line : LineOver = c.args.self.now in
    let own = subst (λ (l : LineOver). IsLineOver l c.self.inside.row.now c.self.inside.delimiter c.self.inside.seeds.now c.self.inside.drawn) c.self.view_is c.self.invariant in
    let shown = shown_as line own.keeps own.limits c.args.column c.requires.column c.in-Lookup.lookup (sym (ap (λ (ready : ReadyColumn). ready.kind) c.column.ensures) ∙ c.in-Lookup.is) in
    subst (λ (row : StillRowOf). IsStillColumn (table_of row.plan row.table) c.in-Lookup.lookup.column) (sym own.row_is) shown.knows.still

pub day_after-requires-clause-after : goal.day_after-requires-clause-after
day_after-requires-clause-after g c =
    let line : LineOver = c.args.self.now in
    let own = subst (λ (l : LineOver). IsLineOver l c.self.inside.row.now c.self.inside.delimiter c.self.inside.seeds.now c.self.inside.drawn) c.self.view_is c.self.invariant in
    after_as line own.keeps own.limits c.args.column c.requires.column c.in-After.after (sym (ap (λ (ready : ReadyColumn). ready.kind) c.column.ensures) ∙ c.in-After.is)

pub returns-in-Drawn : goal.returns-in-Drawn
returns-in-Drawn g c =
    let line : LineOver = c.args.self.now in
    let own = subst (λ (l : LineOver). IsLineOver l c.self.inside.row.now c.self.inside.delimiter c.self.inside.seeds.now c.self.inside.drawn) c.self.view_is c.self.invariant in
    day-drawn line own.keeps own.limits c.args.column c.requires.column c.in-Drawn.leaf (sym (ap (λ (ready : ReadyColumn). ready.kind) c.column.ensures) ∙ c.in-Drawn.is) _ (c.requires.seed c.in-Drawn.leaf (sym (ap (λ (ready : ReadyColumn). ready.kind) c.column.ensures) ∙ c.in-Drawn.is)) c.leaf_day.result c.leaf_day.ensures

pub returns-in-Lookup : goal.returns-in-Lookup
returns-in-Lookup g c =
    let line : LineOver = c.args.self.now in
    let own = subst (λ (l : LineOver). IsLineOver l c.self.inside.row.now c.self.inside.delimiter c.self.inside.seeds.now c.self.inside.drawn) c.self.view_is c.self.invariant in
    let shown : ℕ = c.in-Lookup.lookup.column in
    day-shown line own.keeps own.limits c.args.column c.requires.column c.in-Lookup.lookup (sym (ap (λ (ready : ReadyColumn). ready.kind) c.column.ensures) ∙ c.in-Lookup.is) c.day.result
    (c.day.ensures.day ∙ ap (λ (row : StillRowOf). day_held row.plan row.table row.unit row.ordinal shown) own.row_is)
    (subst (λ (row : StillRowOf). IfSome c.day.result (IsDayOf (field_facts (layout_of row.plan) row.table shown).days)) own.row_is c.day.ensures.within)

pub returns-in_default : goal.returns-in_default
returns-in_default g c =
    let line : LineOver = c.args.self.now in
    let own = subst (λ (l : LineOver). IsLineOver l c.self.inside.row.now c.self.inside.delimiter c.self.inside.seeds.now c.self.inside.drawn) c.self.view_is c.self.invariant in
    let kind_is = ap (λ (ready : ReadyColumn). ready.kind) c.column.ensures in
    no_day line own.keeps own.limits c.args.column c.requires.column
    (λ drawn is. c.in_default.not-Drawn drawn (kind_is ∙ is)) (λ lookup is. c.in_default.not-Lookup lookup (kind_is ∙ is)) (λ after is. c.in_default.not-After after (kind_is ∙ is))
