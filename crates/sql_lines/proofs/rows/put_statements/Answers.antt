use Rattle.std.proofs.Common.{◌≡◌, ◌<◌, ◌≤◌, ℕ, ◌++◌, List, drop, length, arith, ap, subst, sym, ◌∙◌}
use Rattle.std.proofs.Math.Nat.{mul-le-mul_right}
use Rattle.schema_facts.specs.Dictionaries.{Project}
use Rattle.schema_facts.specs.Layout.{layout_of}
use Rattle.schema_plan.specs.Limits.{IsInLimits}
use Rattle.schema_plan.specs.Rules.{IsAccepted}
use Rattle.life_intervals.specs.Generator.{last_unit}
use Rattle.row_lines.specs.Runs.{RunLinesOf}
use Rattle.sql_lines.specs.Frames.{FrameOf}
use Rattle.sql_lines.specs.Reach.{statement_size}
use Rattle.sql_lines.specs.Told.{frame_for, many_told, ordinals_told}
use Rattle.sql_lines.specs.Verbs.{rest_from, statement_from}
use Rattle.sql_lines.proofs.RowLemmas.{CanStateEach, can-each, stands-next, stands-room, stands-size, stands-whole}
use Rattle.sql_lines.proofs.ToldLemmas.{delimits, told-few}
use Rattle.sql_lines.proofs.rows.put_statements.Goals as goal
use Rattle.sql_lines.proofs.rows.put_statements.Goals.{After-delimiter-delimiter}

-- of each line its statement is made
each : (c : After-delimiter-delimiter) → CanStateEach c.args.of.now c.args.verb (ordinals_told c.args.of.now c.args.told)
each c =
    let lines : RunLinesOf = c.args.of.now in
    can-each lines
    (subst IsAccepted (sym c.requires.plan) c.schema-limits.ensures.accepted)
    (subst IsInLimits (sym c.requires.plan) c.schema-limits.ensures.limits)
    (delimits lines.plan)
    (subst (λ (plan : Project). lines.table < length plan.schema.tables) (sym c.requires.plan) c.requires.table)
    (subst (λ (plan : Project). lines.unit ≤ last_unit plan) (sym c.requires.plan) c.requires.unit)
    c.args.verb c.args.told
    (subst (λ (frame : FrameOf). 1 ≤ length frame.columns) c.requires.frame c.requires.columns)
    c.requires.told c.requires.fields

-- what stands between the fields
delimiter_is : (c : After-delimiter-delimiter) → c.delimiter-delimiter.result ≡ (layout_of c.args.of.now.plan).delimiter
delimiter_is c = c.delimiter-delimiter.ensures ∙ ap (λ (plan : Project). (layout_of plan).delimiter) (sym c.requires.plan)

-- the statement that is made, and what is after its line
statement_is : (c : After-delimiter-delimiter) (bytes : List ℕ) →
    statement_from c.args.verb c.delimiter-delimiter.result c.args.frame.now bytes ≡ statement_from c.args.verb (layout_of c.args.of.now.plan).delimiter (frame_for c.args.of.now c.args.verb) bytes
statement_is c bytes =
    ap (λ (delimiter : ℕ). statement_from c.args.verb delimiter c.args.frame.now bytes) (delimiter_is c)
    ∙ ap (λ (frame : FrameOf). statement_from c.args.verb (layout_of c.args.of.now.plan).delimiter frame bytes) c.requires.frame

rest_is : (c : After-delimiter-delimiter) (bytes : List ℕ) →
    rest_from c.args.verb c.delimiter-delimiter.result c.args.frame.now bytes ≡ rest_from c.args.verb (layout_of c.args.of.now.plan).delimiter (frame_for c.args.of.now c.args.verb) bytes
rest_is c bytes =
    ap (λ (delimiter : ℕ). rest_from c.args.verb delimiter c.args.frame.now bytes) (delimiter_is c)
    ∙ ap (λ (frame : FrameOf). rest_from c.args.verb (layout_of c.args.of.now.plan).delimiter frame bytes) c.requires.frame

pub put_statement-at-requires-clause-room : goal.put_statement-at-requires-clause-room
put_statement-at-requires-clause-room c =
    let lines : RunLinesOf = c.args.of.now in
    let here = (goal.at.put_statement-at-requires-clause-room c).After-delimiter-delimiter in
    let bytes : List ℕ = drop c.loop-at.at c.args.lines.now in
    omega (
      arith,
      ap (λ (text : List ℕ). length text) (statement_is here bytes),
      stands-room lines c.args.verb (ordinals_told lines c.args.told) c.args.lines.now c.loop-at.at c.args.page.now c.loop-at.page (each here) c.loop-at.invariant.stands
          (many_told c.args.told) c.loop-at-test.true (told-few lines c.args.told) c.requires.room,
    )

pub loop-at-preserved : goal.loop-at-preserved
loop-at-preserved c =
    let lines : RunLinesOf = c.args.of.now in
    let here = (goal.at.loop-at-preserved c).After-delimiter-delimiter in
    let bytes : List ℕ = drop c.loop-at.at c.args.lines.now in
    record {
      within = c.put_statement-at.ensures.within;
      stands = stands-next lines c.args.verb (ordinals_told lines c.args.told) c.args.lines.now c.loop-at.at c.args.page.now c.loop-at.page (each here) c.loop-at.invariant.stands
          c.put_statement-at.result c.put_statement-at.new.page c.loop-at-test.true
          (c.put_statement-at.ensures.text ∙ ap (λ (text : List ℕ). record { text = c.loop-at.page.text ++ text; room = c.loop-at.page.room }) (statement_is here bytes))
          (c.put_statement-at.ensures.rest ∙ rest_is here bytes);
    }

pub returns-clause-text : goal.returns-clause-text
returns-clause-text c =
    let lines : RunLinesOf = c.args.of.now in
    stands-whole lines c.args.verb (ordinals_told lines c.args.told) c.args.lines.now c.loop-at.at c.args.page.now c.loop-at.page
    (each (goal.at.returns-clause-text c).After-delimiter-delimiter) c.loop-at.invariant.stands c.loop-at-test.false

pub returns-clause-size : goal.returns-clause-size
returns-clause-size c =
    let lines : RunLinesOf = c.args.of.now in
    omega (
      arith,
      stands-size lines c.args.verb (ordinals_told lines c.args.told) c.args.lines.now c.loop-at.at c.args.page.now c.loop-at.page
          (each (goal.at.returns-clause-size c).After-delimiter-delimiter) c.loop-at.invariant.stands c.loop-at-test.false,
      mul-le-mul_right (statement_size (layout_of lines.plan) lines.table) (told-few lines c.args.told),
    )
