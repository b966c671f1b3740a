use Rattle.std.proofs.Common.{◌≡◌, ◌++◌, ℕ, Bool, List, [], ◌∷◌, Option, length, map, ap, ap₂, arith, sym, ◌∙◌}
use Rattle.std.specs.List.{range_with_len}
use Rattle.std.proofs.lemmas.List.FromFn.{map-range_with_len_more}
use Rattle.schema_plan.specs.declared.ready.ReadyColumn.{ReadyColumn}
use Rattle.schema_facts.specs.Dictionaries.{Project}
use Rattle.draw_values.specs.Runs.{RunColumnOf}
use Rattle.life_intervals.specs.Generator.{table_of}
use Rattle.life_intervals.proofs.CohortParentLemmas.{length-ready_columns}
use Rattle.row_lines.specs.TableLines.{column_of, is_short_at, shown_of}
use Rattle.row_lines.proofs.table_lines.TableLines.new.Goals as goal

pub loop-column-preserved : goal.loop-column-preserved
loop-column-preserved c =
    let plan : Project = c.args.plan.now in
    let column : ℕ = c.loop-column.column in
    record {
      columns = c.in_ok-push-2.ensures.items
          ∙ ap₂ (λ (columns : List RunColumnOf) (made : RunColumnOf). columns ++ made ∷ []) c.loop-column.invariant.columns c.in_ok-own.ensures
          ∙ sym (map-range_with_len_more (column_of plan c.args.table) 0 column column (omega arith));
      shown = c.in_ok-push-3.ensures.items
          ∙ ap₂ (λ (shown : List (Option RunColumnOf)) (made : Option RunColumnOf). shown ++ made ∷ []) c.loop-column.invariant.shown c.in_ok-looked_up.ensures
          ∙ sym (map-range_with_len_more (shown_of plan c.args.table) 0 column column (omega arith));
      short = c.in_ok-push.ensures.items
          ∙ ap₂ (λ (flags : List Bool) (flag : Bool). flags ++ flag ∷ []) c.loop-column.invariant.short c.is_short.ensures
          ∙ sym (map-range_with_len_more (is_short_at plan c.args.table) 0 column column (omega arith));
    }

pub returns : goal.returns
returns c =
    let plan : Project = c.args.plan.now in
    let column : ℕ = c.loop-column.column in
    let all : column ≡ length (table_of plan c.args.table).columns =
    omega (arith, ap (λ (columns : List ReadyColumn). length columns) c.columns-count.ensures.columns, length-ready_columns plan c.args.table) in
    let made = c.loop-column.invariant in
    ap₂ (λ (columns : List RunColumnOf) (shown : List (Option RunColumnOf)). record { columns = columns; shown = shown; short = c.loop-column.short.items })
    (made.columns ∙ ap (λ (n : ℕ). map (column_of plan c.args.table) (range_with_len 0 n)) all)
    (made.shown ∙ ap (λ (n : ℕ). map (shown_of plan c.args.table) (range_with_len 0 n)) all)
    ∙ ap (λ (short : List Bool). record {
      columns = map (column_of plan c.args.table) (range_with_len 0 (length (table_of plan c.args.table).columns));
      shown = map (shown_of plan c.args.table) (range_with_len 0 (length (table_of plan c.args.table).columns));
      short = short;
    })
    (made.short ∙ ap (λ (n : ℕ). map (is_short_at plan c.args.table) (range_with_len 0 n)) all)
