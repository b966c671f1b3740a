use Rattle.std.proofs.Common.{◌∙◌, ℕ, List, ap, arith, length, length-append, sym}
use Rattle.line_pages.specs.Pages.{Page}
use Rattle.schema_facts.specs.Layout.{layout_of}
use Rattle.row_lines.specs.Parts.{cited_for, cited_size, cited_text}
use Rattle.row_lines.proofs.PaddedLemmas.{few_filled, length-written_padded, put-none, put-padded}
use Rattle.row_lines.proofs.cohort_fields.CohortFields.put_padded.Goals as goal

pub pad-requires-clause-width : goal.pad-requires-clause-width
pad-requires-clause-width g c = few_filled _ _ _ c.requires.citation.filled

pub pad-requires-clause-from : goal.pad-requires-clause-from
pad-requires-clause-from g c =
    omega (
      arith,
      ap (λ (text : List ℕ). length text) c.text-from.ensures,
      ap (λ (page : Page). length page.text) c.put_cited.ensures.text,
      length-append c.args.buf.now.text (cited_text c.args.self.now c.args.index c.args.values.now.changed c.args.column),
    )

pub pad-requires-clause-room : goal.pad-requires-clause-room
pad-requires-clause-room g c =
    omega (arith, ap (λ (text : List ℕ). length text) c.text-from.ensures, ap (λ (page : Page). page.room) c.put_cited.ensures.text, few_filled _ _ _ c.requires.citation.filled, c.requires.room)

pub returns-in-Text-clause-text : goal.returns-in-Text-clause-text
returns-in-Text-clause-text g c =
    put-padded (layout_of c.args.self.now.plan).delimiter c.args.width (cited_for c.args.self.now c.args.index c.args.values.now.changed c.args.column)
    c.args.buf.now c.put_cited.new.buf c.pad.new.self (length c.text-from.result.now) (ap (λ (text : List ℕ). length text) c.text-from.ensures)
    c.put_cited.ensures.text (sym c.in-Text.is ∙ c.put_cited.ensures.put) c.pad.ensures

pub returns-in-Text-clause-size : goal.returns-in-Text-clause-size
returns-in-Text-clause-size g c =
    length-written_padded (layout_of c.args.self.now.plan).delimiter c.args.width (cited_size c.args.self.now c.args.column)
    (cited_for c.args.self.now c.args.index c.args.values.now.changed c.args.column) (few_filled _ _ _ c.requires.citation.filled) c.put_cited.ensures.size

pub returns-in-Null-clause-text : goal.returns-in-Null-clause-text
returns-in-Null-clause-text g c =
    put-none (layout_of c.args.self.now.plan).delimiter c.args.width (cited_for c.args.self.now c.args.index c.args.values.now.changed c.args.column)
    c.args.buf.now c.put_cited.new.buf c.put_cited.ensures.text (sym c.in-Null.is ∙ c.put_cited.ensures.put)

pub returns-in-Null-clause-size : goal.returns-in-Null-clause-size
returns-in-Null-clause-size g c =
    length-written_padded (layout_of c.args.self.now.plan).delimiter c.args.width (cited_size c.args.self.now c.args.column)
    (cited_for c.args.self.now c.args.index c.args.values.now.changed c.args.column) (few_filled _ _ _ c.requires.citation.filled) c.put_cited.ensures.size
