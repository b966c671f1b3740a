use Rattle.std.proofs.Common.{◌≡◌, ◌++◌, List, ℕ, drop, length, length-append, ap, ◌∙◌, arith}
use Rattle.line_pages.specs.Pages.{Page}
use Rattle.sql_lines.specs.Frames.{behind_framed, end_with, framed}
use Rattle.sql_lines.specs.Reading.{field_before, field_behind}
use Rattle.sql_lines.proofs.FramedLemmas.{behind-here, field-here, more-fits, more-text}
use Rattle.sql_lines.proofs.frame.Frame.put_update.Goals as goal

pub put_fields-next-requires-clause-room : goal.put_fields-next-requires-clause-room
put_fields-next-requires-clause-room c =
    let bytes : List ℕ = drop c.args.at c.args.lines.now in
    let texts : List ℕ = framed c.args.delimiter c.args.self.now.columns (field_behind c.args.delimiter bytes) in
    omega (
      arith,
      c.requires.room,
      length-append texts (end_with c.args.self.now (field_before c.args.delimiter bytes)),
      ap (λ (rest : List ℕ). length (framed c.args.delimiter c.args.self.now.columns rest))
          (behind-here c.args.delimiter c.args.lines.now c.args.at c.end_of-end.result c.min-next.result c.requires.at c.end_of-end.ensures.end c.end_of-end.ensures.within c.min-next.ensures),
    )

pub put_end-requires : goal.put_end-requires
put_end-requires c =
    let page : Page = c.args.page.now in
    let bytes : List ℕ = drop c.args.at c.args.lines.now in
    let texts : List ℕ → List ℕ = framed c.args.delimiter c.args.self.now.columns in
    let rest = behind-here c.args.delimiter c.args.lines.now c.args.at c.end_of-end.result c.min-next.result c.requires.at c.end_of-end.ensures.end c.end_of-end.ensures.within c.min-next.ensures in
    let first : c.put_fields-next.new.page ≡ record page { text = page.text ++ texts (field_behind c.args.delimiter bytes) } =
    c.put_fields-next.ensures.text ∙ ap (λ (bytes : List ℕ). record page { text = page.text ++ texts bytes }) rest in
    omega (
      arith,
      ap (λ (key : List ℕ). length (end_with c.args.self.now key)) (field-here c.args.delimiter c.args.lines.now c.args.at c.end_of-end.result c.end_of-end.ensures.end),
      more-fits page c.put_fields-next.new.page (texts (field_behind c.args.delimiter bytes)) (end_with c.args.self.now (field_before c.args.delimiter bytes)) first c.requires.room,
    )

pub returns-clause-text : goal.returns-clause-text
returns-clause-text c =
    let page : Page = c.args.page.now in
    let bytes : List ℕ = drop c.args.at c.args.lines.now in
    let texts : List ℕ → List ℕ = framed c.args.delimiter c.args.self.now.columns in
    let rest = behind-here c.args.delimiter c.args.lines.now c.args.at c.end_of-end.result c.min-next.result c.requires.at c.end_of-end.ensures.end c.end_of-end.ensures.within c.min-next.ensures in
    more-text page c.put_fields-next.new.page c.put_end.new.page (texts (field_behind c.args.delimiter bytes)) _
    (c.put_fields-next.ensures.text ∙ ap (λ (bytes : List ℕ). record page { text = page.text ++ texts bytes }) rest)
    (c.put_end.ensures ∙ ap (λ (key : List ℕ). record c.put_fields-next.new.page { text = c.put_fields-next.new.page.text ++ end_with c.args.self.now key })
    (field-here c.args.delimiter c.args.lines.now c.args.at c.end_of-end.result c.end_of-end.ensures.end))

pub returns-clause-rest : goal.returns-clause-rest
returns-clause-rest c =
    c.put_fields-next.ensures.rest
    ∙ ap (behind_framed c.args.delimiter c.args.self.now.columns)
    (behind-here c.args.delimiter c.args.lines.now c.args.at c.end_of-end.result c.min-next.result c.requires.at c.end_of-end.ensures.end c.end_of-end.ensures.within c.min-next.ensures)
