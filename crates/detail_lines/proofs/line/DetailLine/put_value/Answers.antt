use Rattle.std.proofs.Common.{◌++◌, ℕ, List, ap, arith, length, subst, sym, ◌∙◌}
use Rattle.schema_plan.specs.declared.ready.ReadyColumn.{ReadyColumn}
use Rattle.schema_facts.specs.FieldSizes.{size_at}
use Rattle.schema_facts.specs.Layout.{layout_of}
use Rattle.schema_plan.specs.Limits.{IsStillColumn}
use Rattle.life_intervals.specs.Generator.{table_of}
use Rattle.row_lines.specs.Lookups.{StillRowOf, text_held}
use Rattle.detail_lines.specs.Made.{IsLineOver, LineOver}
use Rattle.detail_lines.proofs.DeclaredLemmas.{parent-below}
use Rattle.detail_lines.proofs.LineValueLemmas.{after-calendar, shown_as, size-after, size-shown, size-total, text-after, text-shown, text-total, total-few}
use Rattle.detail_lines.proofs.line.DetailLine.put_value.Goals as goal

-- ---- a column of the parent

pub put-requires-clause-column : goal.put-requires-clause-column
put-requires-clause-column g c =
    let line : LineOver = c.args.self.now in
    let own = subst (λ (l : LineOver). IsLineOver l c.self.inside.row.now c.self.inside.delimiter c.self.inside.seeds.now c.self.inside.drawn) c.self.view_is c.self.invariant in
    let kind_is = ap (λ (ready : ReadyColumn). ready.kind) c.column.ensures in
    let shown = shown_as line own.keeps own.limits c.args.column c.requires.column c.in-Lookup.lookup (sym kind_is ∙ c.in-Lookup.is) in
    subst (λ (row : StillRowOf). IsStillColumn (table_of row.plan row.table) c.in-Lookup.lookup.column) (sym own.row_is) shown.knows.still

pub put-requires-clause-room : goal.put-requires-clause-room
put-requires-clause-room g c =
    let line : LineOver = c.args.self.now in
    let own = subst (λ (l : LineOver). IsLineOver l c.self.inside.row.now c.self.inside.delimiter c.self.inside.seeds.now c.self.inside.drawn) c.self.view_is c.self.invariant in
    let kind_is = ap (λ (ready : ReadyColumn). ready.kind) c.column.ensures in
    omega (
      arith,
      c.requires.room,
      ap (λ (row : StillRowOf). size_at (layout_of row.plan).delimiter (table_of row.plan row.table).columns c.in-Lookup.lookup.column) own.row_is,
      size-shown line own.keeps own.limits c.args.column c.requires.column own.sound (parent-below line.over.plan line.over.kept own.keeps) c.in-Lookup.lookup (sym kind_is ∙ c.in-Lookup.is),
    )

pub returns-in-Lookup-clause-text : goal.returns-in-Lookup-clause-text
returns-in-Lookup-clause-text g c =
    let line : LineOver = c.args.self.now in
    let own = subst (λ (l : LineOver). IsLineOver l c.self.inside.row.now c.self.inside.delimiter c.self.inside.seeds.now c.self.inside.drawn) c.self.view_is c.self.invariant in
    let kind_is = ap (λ (ready : ReadyColumn). ready.kind) c.column.ensures in
    let is = ap (λ (row : StillRowOf). text_held row.plan row.table row.unit row.ordinal c.in-Lookup.lookup.column) own.row_is ∙ text-shown line own.keeps own.limits c.args.column c.requires.column c.in-Lookup.lookup (sym kind_is ∙ c.in-Lookup.is) in
    c.put.ensures.text ∙ ap (λ (text : List ℕ). record { text = c.args.page.now.text ++ text; room = c.args.page.now.room }) is

pub returns-in-Lookup-clause-size : goal.returns-in-Lookup-clause-size
returns-in-Lookup-clause-size g c =
    let line : LineOver = c.args.self.now in
    let own = subst (λ (l : LineOver). IsLineOver l c.self.inside.row.now c.self.inside.delimiter c.self.inside.seeds.now c.self.inside.drawn) c.self.view_is c.self.invariant in
    let kind_is = ap (λ (ready : ReadyColumn). ready.kind) c.column.ensures in
    let is = ap (λ (row : StillRowOf). text_held row.plan row.table row.unit row.ordinal c.in-Lookup.lookup.column) own.row_is ∙ text-shown line own.keeps own.limits c.args.column c.requires.column c.in-Lookup.lookup (sym kind_is ∙ c.in-Lookup.is) in
    omega (
      arith,
      ap (λ (text : List ℕ). length text) is,
      c.put.ensures.size,
      ap (λ (row : StillRowOf). size_at (layout_of row.plan).delimiter (table_of row.plan row.table).columns c.in-Lookup.lookup.column) own.row_is,
      size-shown line own.keeps own.limits c.args.column c.requires.column own.sound (parent-below line.over.plan line.over.kept own.keeps) c.in-Lookup.lookup (sym kind_is ∙ c.in-Lookup.is),
    )

-- ---- a date after a date

pub put_day-requires-clause-calendar : goal.put_day-requires-clause-calendar
put_day-requires-clause-calendar g c =
    let line : LineOver = c.args.self.now in
    let own = subst (λ (l : LineOver). IsLineOver l c.self.inside.row.now c.self.inside.delimiter c.self.inside.seeds.now c.self.inside.drawn) c.self.view_is c.self.invariant in
    let kind_is = ap (λ (ready : ReadyColumn). ready.kind) c.column.ensures in
    after-calendar line own.keeps own.limits c.args.column c.requires.column c.in-After.field-0 (sym kind_is ∙ c.in-After.is) c.args.day c.requires.day

pub put_day-requires-clause-room : goal.put_day-requires-clause-room
put_day-requires-clause-room g c =
    let line : LineOver = c.args.self.now in
    let own = subst (λ (l : LineOver). IsLineOver l c.self.inside.row.now c.self.inside.delimiter c.self.inside.seeds.now c.self.inside.drawn) c.self.view_is c.self.invariant in
    let kind_is = ap (λ (ready : ReadyColumn). ready.kind) c.column.ensures in
    omega (arith, c.requires.room, size-after line own.keeps own.limits c.args.column c.requires.column c.in-After.field-0 (sym kind_is ∙ c.in-After.is))

pub returns-in-After-clause-text : goal.returns-in-After-clause-text
returns-in-After-clause-text g c =
    let line : LineOver = c.args.self.now in
    let own = subst (λ (l : LineOver). IsLineOver l c.self.inside.row.now c.self.inside.delimiter c.self.inside.seeds.now c.self.inside.drawn) c.self.view_is c.self.invariant in
    let kind_is = ap (λ (ready : ReadyColumn). ready.kind) c.column.ensures in
    c.put_day.ensures.text
    ∙ ap (λ (text : List ℕ). record { text = c.args.page.now.text ++ text; room = c.args.page.now.room }) (text-after line own.keeps own.limits c.args.column c.requires.column c.in-After.field-0 (sym kind_is ∙ c.in-After.is) c.args.day c.requires.day)

pub returns-in-After-clause-size : goal.returns-in-After-clause-size
returns-in-After-clause-size g c =
    let line : LineOver = c.args.self.now in
    let own = subst (λ (l : LineOver). IsLineOver l c.self.inside.row.now c.self.inside.delimiter c.self.inside.seeds.now c.self.inside.drawn) c.self.view_is c.self.invariant in
    let kind_is = ap (λ (ready : ReadyColumn). ready.kind) c.column.ensures in
    omega (
      arith,
      ap (λ (text : List ℕ). length text) (text-after line own.keeps own.limits c.args.column c.requires.column c.in-After.field-0 (sym kind_is ∙ c.in-After.is) c.args.day c.requires.day),
      c.put_day.ensures.size,
      size-after line own.keeps own.limits c.args.column c.requires.column c.in-After.field-0 (sym kind_is ∙ c.in-After.is),
    )

-- ---- a sum or a product

pub put_total-requires : goal.put_total-requires
put_total-requires g c =
    let line : LineOver = c.args.self.now in
    let own = subst (λ (l : LineOver). IsLineOver l c.self.inside.row.now c.self.inside.delimiter c.self.inside.seeds.now c.self.inside.drawn) c.self.view_is c.self.invariant in
    let kind_is = ap (λ (ready : ReadyColumn). ready.kind) c.column.ensures in
    record {
      digits = total-few line own.keeps own.limits c.args.column c.requires.column (λ drawn is. c.in_default.not-Drawn drawn (kind_is ∙ is)) (λ lookup is. c.in_default.not-Lookup lookup (kind_is ∙ is)) (λ after is. c.in_default.not-After after (kind_is ∙ is)) c.args.number c.requires.number;
      room = omega (arith, c.requires.room, size-total line own.keeps own.limits c.args.column c.requires.column (λ drawn is. c.in_default.not-Drawn drawn (kind_is ∙ is)) (λ lookup is. c.in_default.not-Lookup lookup (kind_is ∙ is)) (λ after is. c.in_default.not-After after (kind_is ∙ is)));
    }

pub returns-in_default : goal.returns-in_default
returns-in_default g c =
    let line : LineOver = c.args.self.now in
    let own = subst (λ (l : LineOver). IsLineOver l c.self.inside.row.now c.self.inside.delimiter c.self.inside.seeds.now c.self.inside.drawn) c.self.view_is c.self.invariant in
    let kind_is = ap (λ (ready : ReadyColumn). ready.kind) c.column.ensures in
    let is = text-total line own.keeps own.limits c.args.column c.requires.column (λ drawn is. c.in_default.not-Drawn drawn (kind_is ∙ is)) (λ lookup is. c.in_default.not-Lookup lookup (kind_is ∙ is)) (λ after is. c.in_default.not-After after (kind_is ∙ is)) c.args.number c.requires.number in
    record {
      text = c.put_total.ensures.text ∙ ap (λ (text : List ℕ). record { text = c.args.page.now.text ++ text; room = c.args.page.now.room }) is;
      size = omega (arith, ap (λ (text : List ℕ). length text) is, c.put_total.ensures.size, size-total line own.keeps own.limits c.args.column c.requires.column (λ drawn is. c.in_default.not-Drawn drawn (kind_is ∙ is)) (λ lookup is. c.in_default.not-Lookup lookup (kind_is ∙ is)) (λ after is. c.in_default.not-After after (kind_is ∙ is)));
    }
