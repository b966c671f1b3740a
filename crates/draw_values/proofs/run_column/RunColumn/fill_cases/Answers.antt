use Rattle.std.proofs.Common.{◌≡◌, ◌<◌, ℕ, List, [], Some, Option, if◌then◌else◌, get_or, length, map, ap, subst, sym, ◌∙◌, arith}
use Rattle.std.specs.Prelude.{unwrap_or}
use Rattle.philox_seeds.specs.SeedTree.{draw, table_seed}
use Rattle.line_pages.specs.Pieces.{piece_text}
use Rattle.schema_plan.specs.declared.ready.ReadyColumn.{ReadyColumn}
use Rattle.schema_plan.specs.declared.ready.ReadyKind.{ReadyKind}
use Rattle.schema_plan.specs.declared.ready.ReadyKind.TheVariants.{Case}
use Rattle.schema_plan.specs.declared.ready.ReadyLeaf.{ReadyLeaf}
use Rattle.schema_facts.specs.Layout.{layout_of, table_at}
use Rattle.schema_plan.specs.Limits.{IsTableInLimits}
use Rattle.schema_plan.specs.Ready.{ready_columns}
use Rattle.draw_values.specs.Cases.{case_text}
use Rattle.draw_values.specs.ReadyValues.{IsReadyKind}
use Rattle.draw_values.specs.Runs.{DrawnColumnOf, RunColumnOf, chooser_seed, drawn_of, is_short, null_behind, null_text, ready_at, run_seed}
use Rattle.draw_values.specs.Values.{is_null}
use Rattle.draw_values.proofs.CaseLemmas.{IsCaseAt, kept_case, run_field-case, run_size-case}
use Rattle.draw_values.proofs.FieldLemmas.{IsKeptField, field_is_ready}
use Rattle.draw_values.proofs.RunLemmas.{own_ready}
use Rattle.draw_values.proofs.run_column.RunColumn.fill_cases.Goals as goal
use Rattle.draw_values.proofs.run_column.RunColumn.fill_cases.Goals.{After-as_slice-branches, After-null_out}

-- ---- the columns

table_is : (c : After-as_slice-branches) → c.self.inside.table ≡ c.args.self.now.table
table_is c = ap (λ (r : RunColumnOf). r.table) c.self.view_is

column_is : (c : After-as_slice-branches) → c.self.inside.column ≡ c.args.self.now.column
column_is c = ap (λ (r : RunColumnOf). r.column) c.self.view_is

own_is : (c : After-as_slice-branches) → c.index-columns-self.result ≡ ready_at c.args.plan.now c.args.self.now.table c.args.self.now.column
own_is c =
    own_ready c.args.plan.now c.args.self.now c.columns-columns.result.now c.index-columns-self.result c.self.inside.table c.self.inside.column c.requires.column c.columns-columns.ensures.columns
    (table_is c) (column_is c) c.index-columns-self.is

case_is : (c : After-as_slice-branches) → c.index-columns-self.result.kind ≡ Case c.in-Case-Some.on c.as_slice-branches.result.now
case_is c =
    c.in-Case-Some.is-0
    ∙ ap (λ (branches : List ReadyLeaf). Case c.in-Case-Some.on branches) (sym c.as_slice-branches.ensures)

kept : (c : After-as_slice-branches) → IsKeptField (layout_of c.args.plan.now) c.args.self.now.table c.args.self.now.column c.in-Case-Some.on c.index-columns-self.result c.index-columns-on.result
kept c =
    let limits : IsTableInLimits (layout_of c.args.plan.now).units (table_at (layout_of c.args.plan.now).tables c.args.self.now.table) =
    subst (λ (table : ℕ). IsTableInLimits (layout_of c.args.plan.now).units (table_at (layout_of c.args.plan.now).tables table)) (table_is c) c.columns-columns.ensures.limits in
    kept_case c.args.plan.now c.args.self.now c.columns-columns.result.now c.index-columns-self.result c.index-columns-on.result c.in-Case-Some.on (layout_of c.args.plan.now).units c.as_slice-branches.result.now
    c.requires.column (c.columns-columns.ensures.columns ∙ ap (ready_columns (layout_of c.args.plan.now)) (table_is c)) limits
    (c.index-columns-self.is ∙ ap (λ (place : ℕ). get_or c.columns-columns.result.now place c.index-columns-self.result) (column_is c)) (own_is c) (case_is c) c.index-columns-on.is

ready : (c : After-as_slice-branches) → IsReadyKind c.index-columns-on.result.kind (Case c.in-Case-Some.on c.as_slice-branches.result.now)
ready c =
    subst (λ (held : ReadyKind). IsReadyKind c.index-columns-on.result.kind held) (case_is c)
    (field_is_ready (layout_of c.args.plan.now) c.args.self.now.table c.args.self.now.column c.in-Case-Some.on c.index-columns-self.result c.index-columns-on.result (kept c))

known : (c : After-as_slice-branches) → IsCaseAt c.args.plan.now c.args.self.now c.index-columns-self.result c.index-columns-on.result c.in-Case-Some.on c.as_slice-branches.result.now c.in-Case-Some.chooser
known c =
    let run : RunColumnOf = c.args.self.now in
    let seed : ℕ = table_seed (layout_of c.args.plan.now).seed run.table in
    let held = (ready_at c.args.plan.now run.table run.column).kind in
    let chooser : Some c.in-Case-Some.chooser ≡ chooser_seed seed (Case c.in-Case-Some.on c.as_slice-branches.result.now) =
    sym c.in-Case-Some.is-1 ∙ ap (λ (r : RunColumnOf). r.chooser) c.self.view_is ∙ ap (λ (r : RunColumnOf). r.chooser) c.requires.column.is
    ∙ ap (λ (found : ReadyColumn). chooser_seed seed found.kind) (sym (own_is c)) ∙ ap (chooser_seed seed) (case_is c) in
    record {
      of = c.requires.column;
      kept = kept c;
      own_is = own_is c;
      case = case_is c;
      pick_is = (ready c).1;
      chooser_is = ap (λ (found : Option ℕ). unwrap_or found 0) chooser;
      short = sym (ap is_short (case_is c)) ∙ ap (λ (found : ReadyColumn). is_short found.kind) (own_is c) ∙ sym (ap (λ (r : RunColumnOf). r.short) c.requires.column.is) ∙ c.requires.short;
    }

-- ---- the goals

pub fill_branches-requires-clause-ready : goal.fill_branches-requires-clause-ready
fill_branches-requires-clause-ready c = (ready (goal.at.fill_branches-requires-clause-ready c).After-as_slice-branches).0

pub fill_branches-requires-clause-pick : goal.fill_branches-requires-clause-pick
fill_branches-requires-clause-pick c = (ready (goal.at.fill_branches-requires-clause-pick c).After-as_slice-branches).1

pub fill_branches-requires-clause-each : goal.fill_branches-requires-clause-each
fill_branches-requires-clause-each c = (ready (goal.at.fill_branches-requires-clause-each c).After-as_slice-branches).2

put : (c : After-null_out) (i : ℕ) → i < length c.args.pieces.now →
    get_or (map piece_text c.null_out.new.pieces) i []
    ≡ case_text c.args.self.now c.index-columns-self.result c.index-columns-on.result c.as_slice-branches.result.now (draw (run_seed c.args.self.now.seed c.index-columns-self.result.changes c.args.rows i))
    (draw (run_seed c.in-Case-Some.chooser c.index-columns-on.result.changes c.args.rows i))
put c i within =
    let own : ReadyColumn = c.index-columns-self.result in
    let pick : ReadyColumn = c.index-columns-on.result in
    let own_null = is_null own.null (draw (run_seed c.args.self.now.seed own.changes c.args.rows i)) in
    let pick_null = is_null pick.null (draw (run_seed c.in-Case-Some.chooser pick.changes c.args.rows i)) in
    subst (λ (column : DrawnColumnOf). get_or (map piece_text c.null_out.new.pieces) i []
    ≡ (if is_null own.null (draw (run_seed column.seed own.changes c.args.rows i)) then null_behind column.behind else get_or (map piece_text c.null_picks.new.pieces) i []))
    (ap drawn_of c.self.view_is) (c.null_out.ensures i (omega (arith, within, c.fill_branches.auto.pieces, c.null_picks.auto.pieces)))
    ∙ ap (λ (text : List ℕ). if own_null then null_text c.args.self.now else text)
    (c.null_picks.ensures i (omega (arith, within, c.fill_branches.auto.pieces))
    ∙ ap (λ (text : List ℕ). if pick_null then null_text c.args.self.now else text) (c.fill_branches.ensures.text i within))

pub returns-clause-text : goal.returns-clause-text
returns-clause-text c = λ i within.
    let at = goal.at.returns-clause-text c in
    put at.After-null_out i within
    ∙ run_field-case c.args.plan.now c.args.self.now c.index-columns-self.result c.index-columns-on.result c.in-Case-Some.on c.as_slice-branches.result.now c.in-Case-Some.chooser c.args.rows i
    (known at.After-as_slice-branches) (c.fill_branches.ensures.within i within)

pub returns-clause-size : goal.returns-clause-size
returns-clause-size c = λ i within.
    let at = goal.at.returns-clause-size c in
    run_size-case c.args.plan.now c.args.self.now c.index-columns-self.result c.index-columns-on.result c.in-Case-Some.on c.as_slice-branches.result.now c.in-Case-Some.chooser c.args.rows i c.null_out.new.pieces
    (known at.After-as_slice-branches) (c.fill_branches.ensures.within i within) (put at.After-null_out i within)
