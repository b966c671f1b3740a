use Rattle.std.proofs.Common.{sym, ◌∙◌, ap, map, take}
use Rattle.std.specs.List.{fold}
use Rattle.std.specs.Option.{option_map}
use Rattle.std.proofs.lemmas.List.{take_all}
use Rattle.std.proofs.lemmas.List.Sums.{fold_more}
use Rattle.schema_model.specs.declared.column.Column.{Column}
use Rattle.schema_facts.specs.declared.facts.TableFacts.{TableFacts}
use Rattle.schema_facts.specs.declared.lineage.Lineage.{Lineage}
use Rattle.schema_facts.specs.Capped.{capped, capped_lineage}
use Rattle.schema_facts.specs.Layout.{column_layout, kind_layout, span_of, table_layout}
use Rattle.schema_facts.specs.Lineage.{null_cost_of_line, own_lineage, with_kind}
use Rattle.schema_facts.proofs.LineageLemmas.{lineage_of-columns, own_lineage-capped}
use Rattle.schema_facts.proofs.lineage.lineage_of.Goals as goal

pub returns : goal.returns
returns c = λ dictionaries given premise.
    let tables = c.args.tables.now in
    let table = c.args.table.now in
    let columns = c.as_slice-columns.result.now in
    let earlier = map (λ (facts : TableFacts). facts.lineage) c.args.earlier.now in
    let add = λ (own : Lineage) (column : Column). with_kind given own (kind_layout dictionaries tables table.columns column.kind) in
    let own = own_lineage (table_layout dictionaries tables table).life in
    lineage_of-columns given earlier dictionaries tables table c.loop-column.lineage c.null_cost_of_line.result premise
    (c.loop-column.invariant dictionaries given premise
    ∙ ap (λ some. capped_lineage (fold add own some)) (take_all c.loop-column.column-index columns c.loop-column-test.false ∙ c.as_slice-columns.ensures))
    (c.null_cost_of_line.ensures dictionaries
    ∙ ap (λ all. capped (null_cost_of_line earlier (map (column_layout dictionaries tables all) all))) c.as_slice-columns.ensures)

pub loop-column-init : goal.loop-column-init
loop-column-init c = λ dictionaries given premise. c.own_lineage-lineage.ensures ∙ own_lineage-capped (option_map span_of c.args.table.now.life)

pub loop-column-preserved : goal.loop-column-preserved
loop-column-preserved c = λ dictionaries given premise.
    let columns = c.as_slice-columns.result.now in
    let add = λ (own : Lineage) (column : Column). with_kind given own (kind_layout dictionaries c.args.tables.now c.args.table.now.columns column.kind) in
    let own = own_lineage (table_layout dictionaries c.args.tables.now c.args.table.now).life in
    c.with_kind-lineage.ensures dictionaries given (fold add own (take c.loop-column.column-index columns)) c.args.table.now.columns premise (c.loop-column.invariant dictionaries given premise)
    ∙ ap (λ (column : Column). capped_lineage (add (fold add own (take c.loop-column.column-index columns)) column)) c.column-item.is
    ∙ ap capped_lineage (sym (fold_more add own columns c.loop-column.column-index c.column-item.result c.loop-column-test.true))
