use Rattle.std.proofs.Common.{◌≡◌, ◌++◌, ℕ, true, false, List, [], Option, Some, None, length, is_some, ap, arith, sym, ◌∙◌, append-nil}
use Rattle.std.specs.Prelude.{nat_le}
use Rattle.life_intervals.specs.Generator.{generator_of, last_unit}
use Rattle.life_intervals.specs.Intervals.{row_at}
use Rattle.life_intervals.specs.Rows.{Row}
use Rattle.row_lines.specs.Lines.{held_row}
use Rattle.row_lines.specs.Reports.{held_text, row_report}
use Rattle.row_lines.proofs.ReportLemmas.{alive-standing, born-standing, born_line, four_appended, gone_line, held_row-fallen, held_row-standing, length-four, report_lines, row_report-lines, stands, stands-is, state_line}
use Rattle.row_lines.proofs.reports.put_report.Goals as goal
use Rattle.row_lines.proofs.reports.put_report.Goals.{After-put_state_line}

-- the row is held where it is born and not gone
stands_is : (g : _) (c : After-put_state_line g) → stands c.args.plan.now c.schema-sound.ensures.limits c.args.table c.requires.table c.args.j c.requires.row c.args.t ≡ c.is_held-held.result
stands_is g c =
    stands-is c.args.plan.now c.schema-sound.ensures.limits c.args.table c.requires.table c.args.j c.requires.row c.args.t c.birth-born.result c.gone_at-gone.result c.is_held-held.result
    c.birth-born.ensures.unit c.gone_at-gone.ensures.unit c.is_held-held.ensures

-- its report, by the row that is held
abbrev report : (g : _) → After-put_state_line g → Option Row → List ℕ
report g c row = report_lines (generator_of c.args.plan.now) c.args.table c.args.t c.birth-born.result c.gone_at-gone.result c.is_held-held.result row

report_is : (g : _) (c : After-put_state_line g) (row : Option Row) → held_row (generator_of c.args.plan.now) c.args.table c.args.t c.args.j ≡ row → c.is_held-held.result ≡ is_some row →
    row_report (generator_of c.args.plan.now) (last_unit c.args.plan.now) c.args.table c.args.t c.args.j ≡ report g c row
report_is g c row row_is held_is =
    row_report-lines (generator_of c.args.plan.now) (last_unit c.args.plan.now) c.args.table c.args.t c.args.j c.birth-born.result c.gone_at-gone.result c.is_held-held.result row
    c.birth-born.ensures.unit c.gone_at-gone.ensures.unit row_is held_is

live_is : (g : _) (c : After-put_state_line g) → c.is_held-held.result ≡ true →
    row_report (generator_of c.args.plan.now) (last_unit c.args.plan.now) c.args.table c.args.t c.args.j ≡ report g c (Some (row_at (generator_of c.args.plan.now) c.args.table c.args.t c.args.j))
live_is g c held =
    report_is g c _
    (held_row-standing c.args.plan.now c.schema-sound.ensures.limits c.args.table c.requires.table c.args.j c.requires.row c.args.t c.requires.unit (stands_is g c ∙ held))
    held

gone_is : (g : _) (c : After-put_state_line g) → c.is_held-held.result ≡ false →
    row_report (generator_of c.args.plan.now) (last_unit c.args.plan.now) c.args.table c.args.t c.args.j ≡ report g c None
gone_is g c gone =
    report_is g c None
    (held_row-fallen c.args.plan.now c.schema-sound.ensures.limits c.args.table c.requires.table c.args.j c.requires.row c.args.t c.requires.unit (stands_is g c ∙ gone))
    gone

pub put_held-requires-clause-born : goal.put_held-requires-clause-born
put_held-requires-clause-born g c =
    born-standing c.args.plan.now c.schema-sound.ensures.limits c.args.table c.requires.table c.args.j c.requires.row c.args.t
    (stands_is g (goal.at.put_held-requires-clause-born g c).After-put_state_line ∙ c.if-held.true)

pub put_held-requires-clause-alive : goal.put_held-requires-clause-alive
put_held-requires-clause-alive g c =
    alive-standing c.args.plan.now c.schema-sound.ensures.limits c.args.table c.requires.table c.args.j c.requires.row c.args.t c.requires.unit
    (stands_is g (goal.at.put_held-requires-clause-alive g c).After-put_state_line ∙ c.if-held.true)

pub returns-then-held-clause-text : goal.returns-then-held-clause-text
returns-then-held-clause-text g c =
    four_appended c.args.buf.now.room c.args.buf.now.text _ _ _ _ c.put_number_line.new.buf c.put_gone_line.new.buf c.put_state_line.new.buf c.put_held.new.buf
    c.put_number_line.ensures.text c.put_gone_line.ensures.text c.put_state_line.ensures.text c.put_held.ensures.text
    ∙ ap (λ (text : List ℕ). record { text = c.args.buf.now.text ++ text; room = c.args.buf.now.room })
    (sym (live_is g (goal.at.returns-then-held-clause-text g c).After-put_state_line c.if-held.true))

pub returns-then-held-clause-size : goal.returns-then-held-clause-size
returns-then-held-clause-size g c =
    omega (
      arith,
      ap (λ (text : List ℕ). length text) (live_is g (goal.at.returns-then-held-clause-size g c).After-put_state_line c.if-held.true),
      length-four (born_line c.birth-born.result) (gone_line c.gone_at-gone.result) (state_line (nat_le c.birth-born.result c.args.t) c.is_held-held.result)
          (held_text (generator_of c.args.plan.now) c.args.t c.args.table (Some (row_at (generator_of c.args.plan.now) c.args.table c.args.t c.args.j))),
      c.put_number_line.ensures.size,
      c.put_gone_line.ensures.size,
      c.put_state_line.ensures.size,
      c.put_held.ensures.size,
    )

pub returns-else-held-clause-text : goal.returns-else-held-clause-text
returns-else-held-clause-text g c =
    four_appended c.args.buf.now.room c.args.buf.now.text _ _ _ [] c.put_number_line.new.buf c.put_gone_line.new.buf c.put_state_line.new.buf c.put_state_line.new.buf
    c.put_number_line.ensures.text c.put_gone_line.ensures.text c.put_state_line.ensures.text
    (ap (λ (text : List ℕ). record { text = text; room = c.put_state_line.new.buf.room }) (sym (append-nil c.put_state_line.new.buf.text)))
    ∙ ap (λ (text : List ℕ). record { text = c.args.buf.now.text ++ text; room = c.args.buf.now.room })
    (sym (gone_is g (goal.at.returns-else-held-clause-text g c).After-put_state_line c.if-held.false))

pub returns-else-held-clause-size : goal.returns-else-held-clause-size
returns-else-held-clause-size g c =
    omega (
      arith,
      ap (λ (text : List ℕ). length text) (gone_is g (goal.at.returns-else-held-clause-size g c).After-put_state_line c.if-held.false),
      length-four (born_line c.birth-born.result) (gone_line c.gone_at-gone.result) (state_line (nat_le c.birth-born.result c.args.t) c.is_held-held.result) [],
      c.put_number_line.ensures.size,
      c.put_gone_line.ensures.size,
      c.put_state_line.ensures.size,
    )
