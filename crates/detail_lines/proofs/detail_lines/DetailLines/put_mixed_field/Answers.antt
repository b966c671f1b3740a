use Rattle.std.proofs.Common.{◌≡◌, ◌++◌, ℕ, List, true, length, arith, ap, subst, sym, ◌∙◌}
use Rattle.std.specs.Prelude.{IfSome}
use Rattle.philox_seeds.specs.SeedTree.{draw}
use Rattle.schema_plan.specs.declared.ready.ReadyColumn.{ReadyColumn}
use Rattle.draw_values.specs.declared.items.ItemizedField.{ItemizedField}
use Rattle.draw_values.specs.Items.{kind_count, kind_items}
use Rattle.draw_values.specs.ReadyValues.{ready_kind_size}
use Rattle.draw_values.specs.Runs.{DrawnColumnOf, IsReadyDrawn, is_itemized, kept_texts, with_behind}
use Rattle.draw_values.proofs.ItemFieldLemmas.{counted}
use Rattle.detail_lines.specs.LineRuns.{drawn_seed, line_of, text_over}
use Rattle.detail_lines.specs.Made.{LinesOver, behind_over, prepared_column, ready_over}
use Rattle.detail_lines.proofs.LineMixedLemmas.{leaf-fits, null-fits, text-items}
use Rattle.detail_lines.proofs.LineRunLemmas.{drawn-ready, prepared-length, prepared-of, ready-of}
use Rattle.detail_lines.proofs.detail_lines.DetailLines.put_mixed_field.Goals as goal
use Rattle.detail_lines.proofs.detail_lines.DetailLines.put_mixed_field.Goals.{Then-is_itemized}

pub bounds-prepared-column : goal.bounds-prepared-column
bounds-prepared-column c = omega (arith, c.requires.column, prepared-length c.args.self.now c.prepared-prepared.result.now c.prepared-prepared.ensures)

pub returns-in_default : goal.returns-in_default
returns-in_default c =
    let drawn = c.requires.drawn c.if-made.false in
    absurd (c.in_default.not-Drawn drawn.0 (ap (λ (one : ReadyColumn). one.kind) (ready-of c.args.self.now c.ready-columns.ensures.keeps c.ready-columns.ensures.limits c.args.column c.requires.column c.ready-columns.result.now c.index-columns-column.result c.ready-columns.ensures.value c.index-columns-column.is) ∙ drawn.1))

pub put_long-requires-clause-drawn : goal.put_long-requires-clause-drawn
put_long-requires-clause-drawn c = sym (ap (λ (one : ReadyColumn). one.kind) (ready-of c.args.self.now c.ready-columns.ensures.keeps c.ready-columns.ensures.limits c.args.column c.requires.column c.ready-columns.result.now c.index-columns-column.result c.ready-columns.ensures.value c.index-columns-column.is)) ∙ c.in-Drawn.is

ready_is : (c : Then-is_itemized) → c.index-columns-column.result ≡ ready_over c.args.self.now c.args.column
ready_is c = ready-of c.args.self.now c.ready-columns.ensures.keeps c.ready-columns.ensures.limits c.args.column c.requires.column c.ready-columns.result.now c.index-columns-column.result c.ready-columns.ensures.value c.index-columns-column.is

prepared_is : (c : Then-is_itemized) → c.index-prepared-column.result ≡ prepared_column c.args.self.now c.args.column
prepared_is c = prepared-of c.args.self.now c.args.column c.requires.column c.prepared-prepared.result.now c.index-prepared-column.result c.prepared-prepared.ensures c.index-prepared-column.is

itemized : (c : Then-is_itemized) → is_itemized (ready_over c.args.self.now c.args.column).kind ≡ true
itemized c = sym (ap (λ (p : DrawnColumnOf). p.itemized) (prepared_is c)) ∙ sym c.is_itemized.ensures ∙ c.if-is_itemized.true

pub put_itemized-requires-clause-ready : goal.put_itemized-requires-clause-ready
put_itemized-requires-clause-ready c =
    let here = (goal.at.put_itemized-requires-clause-ready c).Then-is_itemized in
    subst (λ (one : ReadyColumn). IsReadyDrawn one.kind) (sym (ready_is here)) (drawn-ready c.args.self.now c.ready-columns.ensures.keeps c.ready-columns.ensures.limits c.args.column c.requires.column)

pub put_itemized-requires-clause-itemized : goal.put_itemized-requires-clause-itemized
put_itemized-requires-clause-itemized c =
    let here = (goal.at.put_itemized-requires-clause-itemized c).Then-is_itemized in
    ap (λ (one : ReadyColumn). is_itemized one.kind) (ready_is here) ∙ itemized here

pub put_itemized-requires-clause-kept : goal.put_itemized-requires-clause-kept
put_itemized-requires-clause-kept c =
    let here = (goal.at.put_itemized-requires-clause-kept c).Then-is_itemized in
    ap (λ (p : DrawnColumnOf). p.texts) (prepared_is here)
    ∙ ap (λ (one : ReadyColumn). kept_texts (behind_over c.args.self.now c.args.column) one.kind) (sym (ready_is here))
    ∙ ap (λ (p : DrawnColumnOf). kept_texts p.behind c.index-columns-column.result.kind) (sym (prepared_is here))

pub put_itemized-requires-clause-count : goal.put_itemized-requires-clause-count
put_itemized-requires-clause-count c =
    let here = (goal.at.put_itemized-requires-clause-count c).Then-is_itemized in
    let over : LinesOver = c.args.self.now in
    subst (λ (one : ReadyColumn). IfSome c.args.field.count (λ count. (number : ℕ) × (count ≡ kind_count one.kind number))) (sym (ready_is here))
    (subst (λ (field : ItemizedField). IfSome field.count (λ count. (number : ℕ) × (count ≡ kind_count (ready_over over c.args.column).kind number))) (sym (c.requires.itemized (itemized here)))
    (counted (ready_over over c.args.column) (drawn_seed over c.args.run.now c.args.column c.args.k)))

kind_here : (c : Then-is_itemized) → (ready_over c.args.self.now c.args.column).kind ≡ c.index-columns-column.result.kind
kind_here c = sym (ap (λ (one : ReadyColumn). one.kind) (ready_is c))

pub put_itemized-requires-clause-room : goal.put_itemized-requires-clause-room
put_itemized-requires-clause-room c =
    let here = (goal.at.put_itemized-requires-clause-room c).Then-is_itemized in
    let over : LinesOver = c.args.self.now in
    let drawn = kind_here here ∙ c.in-Drawn.is in
    omega (arith, c.requires.room, ap ready_kind_size c.in-Drawn.is, leaf-fits over c.args.at.now.unit c.args.count c.args.run.now c.requires.lines c.ready-columns.ensures.keeps c.ready-columns.ensures.limits (omega (arith, c.requires.at.table, c.requires.at.within)) c.args.column c.requires.column c.args.k c.requires.line c.in-Drawn.leaf drawn, null-fits over c.args.at.now.unit c.args.count c.args.run.now c.requires.lines c.ready-columns.ensures.keeps c.ready-columns.ensures.limits (omega (arith, c.requires.at.table, c.requires.at.within)) c.args.column c.requires.column c.args.k c.requires.line c.in-Drawn.leaf drawn)

text_is : (c : Then-is_itemized) → kind_items c.index-columns-column.result.kind (draw c.args.field.seed) c.args.field.count ≡ text_over (line_of c.args.self.now c.args.at.now.unit c.args.run.now c.args.k) c.args.column
text_is c =
    let over : LinesOver = c.args.self.now in
    let drawn = sym (ap (λ (one : ReadyColumn). one.kind) (ready_is c)) ∙ c.in-Drawn.is in
    ap (λ (one : ReadyColumn). kind_items one.kind (draw c.args.field.seed) c.args.field.count) (ready_is c)
    ∙ ap (λ (field : ItemizedField). kind_items (ready_over over c.args.column).kind (draw field.seed) field.count) (c.requires.itemized (itemized c))
    ∙ text-items over c.args.at.now.unit c.args.count c.args.run.now c.requires.lines c.ready-columns.ensures.keeps c.ready-columns.ensures.limits (omega (arith, c.requires.at.table, c.requires.at.within)) c.args.column c.requires.column c.args.k c.requires.line c.in-Drawn.leaf drawn (sym (ap is_itemized drawn) ∙ itemized c)

pub returns-then-is_itemized-clause-text : goal.returns-then-is_itemized-clause-text
returns-then-is_itemized-clause-text c =
    let here = (goal.at.returns-then-is_itemized-clause-text c).Then-is_itemized in
    c.put_itemized.ensures.text
    ∙ ap (λ (p : DrawnColumnOf). record { text = c.args.page.now.text ++ with_behind p.behind (kind_items c.index-columns-column.result.kind (draw c.args.field.seed) c.args.field.count); room = c.args.page.now.room }) (prepared_is here)
    ∙ ap (λ (text : List ℕ). record { text = c.args.page.now.text ++ with_behind (behind_over c.args.self.now c.args.column) text; room = c.args.page.now.room }) (text_is here)

pub returns-then-is_itemized-clause-size : goal.returns-then-is_itemized-clause-size
returns-then-is_itemized-clause-size c =
    let here = (goal.at.returns-then-is_itemized-clause-size c).Then-is_itemized in
    let over : LinesOver = c.args.self.now in
    let drawn = kind_here here ∙ c.in-Drawn.is in
    omega (arith, c.put_itemized.ensures.size, ap (λ (t : List ℕ). length t) (text_is here), ap ready_kind_size c.in-Drawn.is, leaf-fits over c.args.at.now.unit c.args.count c.args.run.now c.requires.lines c.ready-columns.ensures.keeps c.ready-columns.ensures.limits (omega (arith, c.requires.at.table, c.requires.at.within)) c.args.column c.requires.column c.args.k c.requires.line c.in-Drawn.leaf drawn, null-fits over c.args.at.now.unit c.args.count c.args.run.now c.requires.lines c.ready-columns.ensures.keeps c.ready-columns.ensures.limits (omega (arith, c.requires.at.table, c.requires.at.within)) c.args.column c.requires.column c.args.k c.requires.line c.in-Drawn.leaf drawn)
