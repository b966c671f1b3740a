use Rattle.std.proofs.Common.{◌≡◌, ◌<◌, ◌∙◌, ap, length, get_or, List, subst}
use Rattle.schema_model.specs.declared.table.Table.{Table}
use Rattle.schema_plan.proofs.ReadyLemmas.{columns_in_limits, one_table_more}
use Rattle.schema_plan.proofs.ready_columns.ready_tables.Goals as goal
use Rattle.schema_facts.specs.Dictionaries.{project_of}

pub ready_columns-requires : goal.ready_columns-requires
ready_columns-requires c =
    let tables = c.args.schema.now.tables in
    let place = c.loop-table.table-index in
    let table = c.table-item.result in
    let all : c.as_slice-tables.result.now ≡ tables = c.as_slice-tables.ensures in
    let within : place < length tables = subst (λ (ts : List Table). place < length ts) all c.loop-table-test.true in
    let is : table ≡ get_or tables place table = c.table-item.is ∙ ap (λ (ts : List Table). get_or ts place table) all in
    record {
      tables = rw all c.requires.table_limit;
      columns = rw (c.as_slice-columns.ensures, c.in_ok-lexicon.ensures) (columns_in_limits (project_of c.args.schema.now c.args.dictionaries.now) place table c.requires within is);
    }

pub loop-table-preserved : goal.loop-table-preserved
loop-table-preserved c =
    let tables = c.args.schema.now.tables in
    let place = c.loop-table.table-index in
    let table = c.table-item.result in
    let all : c.as_slice-tables.result.now ≡ tables = c.as_slice-tables.ensures in
    let within : place < length tables = subst (λ (ts : List Table). place < length ts) all c.loop-table-test.true in
    let is : table ≡ get_or tables place table = c.table-item.is ∙ ap (λ (ts : List Table). get_or ts place table) all in
    c.in_ok-push.ensures.items
    ∙ one_table_more (project_of c.args.schema.now c.args.dictionaries.now) place table c.in_ok-ready_columns.field-0 c.loop-table.ready.items within is
    (rw (all, c.as_slice-columns.ensures, c.in_ok-lexicon.ensures, c.delimiter_byte.ensures) at c.in_ok-ready_columns.ensures) c.loop-table.invariant
