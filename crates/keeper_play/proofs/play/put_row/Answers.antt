use Rattle.std.proofs.Common.{◌≡◌, ◌≤◌, ℕ, ◌++◌, true, List, length, take, ap, ap₂, arith, subst, sym, ◌∙◌}
use Rattle.std.specs.Prelude.{◌+◌, OnOk}
use Rattle.cohort_sizes.specs.Births.{first_ordinal}
use Rattle.schema_facts.specs.Dictionaries.{Project}
use Rattle.schema_facts.specs.Layout.{layout_of}
use Rattle.schema_facts.specs.TableFacts.{max_line, reach}
use Rattle.schema_plan.proofs.PlannedLemmas.{max_line-reach}
use Rattle.life_intervals.specs.Generator.{Generator, generator_of, table_of}
use Rattle.life_intervals.specs.Intervals.{change_unit, is_live, row_at}
use Rattle.life_intervals.specs.Keys.{key_in_cohort, key_of}
use Rattle.life_intervals.specs.Rows.{Row}
use Rattle.line_pages.specs.Pages.{Page}
use Rattle.row_lines.specs.CohortLines.{LinesOf, change_for, is_live_for, key_for, layout_for, line_in_cohort, ordinal_of}
use Rattle.row_lines.specs.Lines.{line, line_of}
use Rattle.row_keeper.specs.Kept.{Statement, put_row}
use Rattle.keeper_play.specs.Played.{put_at}
use Rattle.keeper_play.specs.Statements.{refs_of, row_key}
use Rattle.row_keeper.specs.Store.{perform}
use Rattle.row_keeper.specs.declared.keeper.RefTo.{RefTo}
use Rattle.keeper_play.proofs.RefLemmas.{row_key-found}
use Rattle.keeper_play.proofs.play.put_row.Goals as goal

-- a line of a cohort is that of its row
cohort_line : (plan : Project) (lines : LinesOf) (table unit born index ordinal : ℕ) → lines ≡ record { plan = plan; table = table; born = born; unit = unit } → ordinal ≡ first_ordinal (table_of plan table).births born + index →
    line_in_cohort lines index ≡ line_of (generator_of plan) unit table ordinal
cohort_line plan lines table unit born index ordinal are is =
    ap (λ (ls : LinesOf). line_in_cohort ls index) are ∙ ap (line_of (generator_of plan) unit table) (sym is)

pub put_changed_line-requires-clause-alive : goal.put_changed_line-requires-clause-alive
put_changed_line-requires-clause-alive g c =
    ap (λ (ls : LinesOf). is_live_for ls c.args.row.index) c.requires.lines
    ∙ ap (is_live (generator_of c.args.rows.now) c.args.table c.args.unit) (sym c.requires.row.ordinal)
    ∙ c.requires.alive

pub put_changed_line-requires-clause-room : goal.put_changed_line-requires-clause-room
put_changed_line-requires-clause-room g c =
    let plan : Project = c.args.rows.now in
    let same : max_line (layout_of c.args.lines.now.plan) c.args.lines.now.table ≡ max_line (layout_of plan) c.args.table =
    ap (λ (ls : LinesOf). max_line (layout_of ls.plan) ls.table) c.requires.lines in
    omega (arith, same, max_line-reach (layout_of plan) c.args.table, c.requires.room, ap length c.requires.empty)

pub returns-clause-made : goal.returns-clause-made
returns-clause-made g c =
    let plan : Project = c.args.rows.now in
    let generator : Generator = generator_of plan in
    let table : ℕ = c.args.table in
    let unit : ℕ = c.args.unit in
    let row : Row = row_at generator table unit c.args.row.ordinal in
    let key : c.found_key-key.result ≡ row_key generator table row =
    c.found_key-key.ensures.key ∙ row_key-found plan table unit c.args.row c.requires.row c.requires.born c.requires.unit in
    let text : c.text.result.now ≡ line generator unit table row =
    c.text.ensures
    ∙ ap (λ (page : Page). page.text) c.put_changed_line.ensures.line
    ∙ ap₂ (λ (front last : List ℕ). front ++ last) c.requires.empty
    (cohort_line plan c.args.lines.now table unit c.args.row.born c.args.row.index c.args.row.ordinal c.requires.lines c.requires.row.ordinal) in
    let same : put_row table c.found_key-key.result (record { refs = take c.find_refs-count.result c.find_refs-count.new.refs; line = c.text.result.now }) ≡ put_at plan unit table c.args.row.ordinal =
    ap (λ (k : ℕ). put_row table k (record { refs = take c.find_refs-count.result c.find_refs-count.new.refs; line = c.text.result.now })) key
    ∙ ap₂ (λ (to : List RefTo) (bytes : List ℕ). put_row table (row_key generator table row) (record { refs = to; line = bytes })) c.find_refs-count.ensures.refs text in
    subst (λ (statement : Statement). OnOk c.put-kept.result (g.K.Keeper.store c.put-kept.new.self ≡ perform statement (g.K.Keeper.store c.args.keeper.now))) same c.put-kept.ensures.made
