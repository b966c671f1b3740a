use Rattle.std.proofs.Common.{◌≡◌, ◌-◌, ◌++◌, List, ℕ, drop, length, length-append, take, ap, ap₂, ◌∙◌, arith}
use Rattle.line_pages.specs.Pages.{Page}
use Rattle.sql_lines.specs.Frames.{FramedColumn}
use Rattle.sql_lines.specs.Literals.{literal}
use Rattle.sql_lines.specs.Reading.{field_before, field_read}
use Rattle.sql_lines.proofs.FramedLemmas.{behind-here, field-here, more-text}
use Rattle.sql_lines.proofs.frame.FrameColumn.put_field.Goals as goal

pub put_written-requires-clause-room : goal.put_written-requires-clause-room
put_written-requires-clause-room c =
    let field : List ℕ = field_before c.args.stop (drop c.args.at c.args.lines.now) in
    let column : FramedColumn = c.args.self.now in
    omega (
      arith,
      c.requires.room,
      length-append column.before (literal column.bare (field_read field)),
      ap (λ (f : FramedColumn). length f.before) c.self.view_is,
      ap (λ (f : FramedColumn). length (literal f.bare (field_read field))) c.self.view_is,
      ap (λ (bytes : List ℕ). length (literal c.self.inside.bare (field_read bytes))) (field-here c.args.stop c.args.lines.now c.args.at c.end_of-end.result c.end_of-end.ensures.end),
      ap length c.as_slice.ensures.value,
      ap (λ (page : Page). length page.text) c.put.ensures,
      ap (λ (page : Page). page.room) c.put.ensures,
      length-append c.args.page.now.text c.as_slice.result.now,
    )

pub returns-clause-text : goal.returns-clause-text
returns-clause-text c =
    let first : c.put.new.self ≡ record c.args.page.now { text = c.args.page.now.text ++ c.args.self.now.before } =
    c.put.ensures ∙ ap (λ (piece : List ℕ). record c.args.page.now { text = c.args.page.now.text ++ piece }) (c.as_slice.ensures.value ∙ ap (λ (f : FramedColumn). f.before) c.self.view_is) in
    let literal_is : literal c.self.inside.bare (field_read (take (c.end_of-end.result - c.args.at) (drop c.args.at c.args.lines.now)))
    ≡ literal c.args.self.now.bare (field_read (field_before c.args.stop (drop c.args.at c.args.lines.now))) =
    ap₂ (λ (f : FramedColumn) (bytes : List ℕ). literal f.bare (field_read bytes)) c.self.view_is
    (field-here c.args.stop c.args.lines.now c.args.at c.end_of-end.result c.end_of-end.ensures.end) in
    more-text c.args.page.now c.put.new.self c.put_written.new.buf c.args.self.now.before _ first
    (c.put_written.ensures ∙ ap (λ (piece : List ℕ). record c.put.new.self { text = c.put.new.self.text ++ piece }) literal_is)

pub returns-clause-rest : goal.returns-clause-rest
returns-clause-rest c =
    behind-here c.args.stop c.args.lines.now c.args.at c.end_of-end.result c.min.result c.requires.at c.end_of-end.ensures.end c.end_of-end.ensures.within c.min.ensures
