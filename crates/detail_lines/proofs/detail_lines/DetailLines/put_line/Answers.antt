use Rattle.std.proofs.Common.{◌≡◌, ◌<◌, ◌^◌, ◌++◌, ◌∷◌, [], ℕ, List, Option, Some, ap, ap₂, arith, decimal, flat_map, length, length-append, refl, subst, sym, ◌∙◌}
use Rattle.std.specs.Prelude.{codes}
use Rattle.std.specs.List.{range_with_len}
use Rattle.std.proofs.lemmas.List.Folds.{flat_map-map}
use Rattle.line_pages.specs.Pages.{Page}
use Rattle.line_pages.specs.Pieces.{piece_text}
use Rattle.row_text.specs.Lines.{line_text}
use Rattle.schema_facts.specs.Dictionaries.{Project}
use Rattle.draw_values.specs.declared.values.RowAt.{RowAt}
use Rattle.life_intervals.specs.Generator.{generator_of}
use Rattle.row_lines.specs.Lookups.{StillRowOf}
use Rattle.detail_lines.specs.declared.detail_lines.LineKind.TheVariants.{Whole}
use Rattle.detail_lines.specs.Lines.{key_of_row, line_field, line_ordinal, value_fields}
use Rattle.detail_lines.specs.Made.{AreSeeds, IsLineOver, LineOver, LinesOver, delimiter_over, fields_room, line_over, made_line, own_over, place_over, row_over, written_fields}
use Rattle.detail_lines.proofs.DeclaredLemmas.{parent-below}
use Rattle.detail_lines.proofs.LineLemmas.{after_delimiter, line-joined}
use Rattle.detail_lines.proofs.LineSizeLemmas.{line-rooms}
use Rattle.detail_lines.proofs.ToldLemmas.{key-told, ordinal-small, units-told}
use Rattle.detail_lines.proofs.TextLemmas.{put-twice}
use Rattle.detail_lines.proofs.detail_lines.DetailLines.put_line.Goals as goal

-- ---- the ordinal by which the fields are drawn

pub overflow_mul-drawn : goal.overflow_mul-drawn
overflow_mul-drawn g c =
    let over : LinesOver = c.args.self.now in
    let limits = c.declared-limits.ensures in
    omega (arith, ordinal-small over c.args.at.now.unit Whole c.args.row.now limits.sound (parent-below over.plan over.kept limits.keeps) c.requires.at.unit c.requires.told)

pub overflow_add-drawn : goal.overflow_add-drawn
overflow_add-drawn g c =
    let over : LinesOver = c.args.self.now in
    let limits = c.declared-limits.ensures in
    omega (arith, c.requires.number, ordinal-small over c.args.at.now.unit Whole c.args.row.now limits.sound (parent-below over.plan over.kept limits.keeps) c.requires.at.unit c.requires.told)

pub put_head-requires-clause-room : goal.put_head-requires-clause-room
put_head-requires-clause-room g c = omega (arith, c.requires.room, line-rooms c.args.self.now c.declared-limits.ensures.keeps c.declared-limits.ensures.limits)

-- ---- the line

-- the row of the parent
abbrev held : LinesOver → ℕ → ℕ → StillRowOf
held over unit ordinal = record { plan = over.plan; table = place_over over; unit = unit; ordinal = ordinal }

-- the line of a number
abbrev line_at : LinesOver → ℕ → ℕ → ℕ → LineOver
line_at over unit ordinal number = record { over = over; unit = unit; ordinal = ordinal; number = number }

line_is : (row : StillRowOf) (inside over : LinesOver) (unit ordinal number : ℕ) → row ≡ held over unit ordinal → inside ≡ over →
    record { over = record { plan = row.plan; kept = inside.kept }; unit = row.unit; ordinal = row.ordinal; number = number } ≡ line_at over unit ordinal number
line_is row inside over unit ordinal number row_is view_is =
    ap (λ (r : StillRowOf). record { over = record { plan = r.plan; kept = inside.kept }; unit = r.unit; ordinal = r.ordinal; number = number }) row_is
    ∙ ap (λ (o : LinesOver). record { over = record { plan = over.plan; kept = o.kept }; unit = unit; ordinal = ordinal; number = number }) view_is

row_held : (row : StillRowOf) (over : LinesOver) (plan : Project) (table unit ordinal : ℕ) → row ≡ record { plan = plan; table = table; unit = unit; ordinal = ordinal } → plan ≡ over.plan → table ≡ place_over over → row ≡ held over unit ordinal
row_held row over plan table unit ordinal is plan_is table_is = is ∙ ap₂ (λ (p : Project) (t : ℕ). record { plan = p; table = t; unit = unit; ordinal = ordinal }) plan_is table_is

pub new-requires : goal.new-requires
new-requires g c =
    let over : LinesOver = c.args.self.now in
    let limits = c.declared-limits.ensures in
    let unit : ℕ = c.args.at.now.unit in
    let ordinal : ℕ = c.args.row.now.ordinal in
    let number : ℕ = c.args.number in
    let drawn : ℕ = line_ordinal ordinal number in
    let row_is = row_held c.args.held.now over c.args.at.now.rows.now c.args.at.now.table unit ordinal c.requires.held c.requires.at.plan c.requires.at.table in
    subst (λ (l : LineOver). IsLineOver l c.args.held.now c.delimiter-2.result c.args.seeds.now drawn)
    (sym (line_is c.args.held.now (record { plan = c.self.inside.plan.now; kept = c.self.inside.detail.now }) over unit ordinal number row_is c.self.view_is))
    (subst (λ (row : StillRowOf). IsLineOver (line_at over unit ordinal number) row c.delimiter-2.result c.args.seeds.now drawn) (sym row_is)
    (record {
      sound = limits.sound;
      keeps = limits.keeps;
      limits = limits.limits;
      row_is = refl;
      delimiter = c.delimiter-2.ensures;
      seeds_are = subst (λ (at : RowAt). AreSeeds over at c.args.seeds.now) (units-told over unit Whole c.args.row.now (parent-below over.plan over.kept limits.keeps) c.requires.told refl) c.requires.seeds;
      drawn_is = refl;
    }))

pub put_fields-requires-clause-room : goal.put_fields-requires-clause-room
put_fields-requires-clause-room g c =
    let over : LinesOver = c.args.self.now in
    let row_is = row_held c.args.held.now over c.args.at.now.rows.now c.args.at.now.table c.args.at.now.unit c.args.row.now.ordinal c.requires.held c.requires.at.plan c.requires.at.table in
    let new_is = c.new.ensures ∙ line_is c.args.held.now (record { plan = c.self.inside.plan.now; kept = c.self.inside.detail.now }) over c.args.at.now.unit c.args.row.now.ordinal c.args.number row_is c.self.view_is in
    omega (
      arith,
      c.requires.room,
      line-rooms over c.declared-limits.ensures.keeps c.declared-limits.ensures.limits,
      ap (λ (page : Page). length page.text) c.put_head.ensures.text,
      ap (λ (page : Page). page.room) c.put_head.ensures.text,
      length-append c.args.page.now.text (decimal c.args.row.now.key ++ c.delimiter.result ∷ decimal c.args.number),
      c.put_head.ensures.size,
      ap (λ (line : LineOver). fields_room line.over (own_over line.over)) new_is,
    )

pub put_piece-requires : goal.put_piece-requires
put_piece-requires g c =
    let over : LinesOver = c.args.self.now in
    let row_is = row_held c.args.held.now over c.args.at.now.rows.now c.args.at.now.table c.args.at.now.unit c.args.row.now.ordinal c.requires.held c.requires.at.plan c.requires.at.table in
    let new_is = c.new.ensures ∙ line_is c.args.held.now (record { plan = c.self.inside.plan.now; kept = c.self.inside.detail.now }) over c.args.at.now.unit c.args.row.now.ordinal c.args.number row_is c.self.view_is in
    omega (
      arith,
      c.requires.room,
      line-rooms over c.declared-limits.ensures.keeps c.declared-limits.ensures.limits,
      ap (λ (page : Page). length page.text) c.put_head.ensures.text,
      ap (λ (page : Page). page.room) c.put_head.ensures.text,
      length-append c.args.page.now.text (decimal c.args.row.now.key ++ c.delimiter.result ∷ decimal c.args.number),
      c.put_head.ensures.size,
      ap (λ (line : LineOver). fields_room line.over (own_over line.over)) new_is,
      ap (λ (page : Page). length page.text) c.put_fields.ensures.text,
      ap (λ (page : Page). page.room) c.put_fields.ensures.text,
      length-append c.put_head.new.page.text (written_fields c.new.result (own_over c.new.result.over)),
      c.put_fields.ensures.size,
      ap (λ (text : List ℕ). length text) c.of_byte.ensures,
    )

-- ---- its text

-- the fields, each with the delimiter before it
fields_are : (line : LineOver) → written_fields line (own_over line.over) ≡ flat_map (after_delimiter (delimiter_over line.over)) (value_fields (line_over line))
fields_are line =
    sym (flat_map-map (after_delimiter (delimiter_over line.over)) (line_field (line_over line)) (range_with_len 0 (own_over line.over)))

-- the key and the number, the fields and a line feed are the line
text_is : (over : LinesOver) (unit ordinal key number byte : ℕ) (made : LineOver) (end : List ℕ) → key < 2 ^ 64 → number < 2 ^ 64 → byte ≡ delimiter_over over → made ≡ line_at over unit ordinal number → end ≡ 10 ∷ [] →
    key ≡ key_of_row (generator_of over.plan) (place_over over) (row_over over unit ordinal) →
    ((decimal key ++ byte ∷ decimal number) ++ written_fields made (own_over made.over)) ++ end ≡ made_line over unit ordinal number
text_is over unit ordinal key number byte made end small few byte_is made_is end_is key_is =
    let d : ℕ = delimiter_over over in
    let line : LineOver = line_at over unit ordinal number in
    let fields : List (Option (List ℕ)) = value_fields (line_over line) in
    ap (λ (last : List ℕ). ((decimal key ++ byte ∷ decimal number) ++ written_fields made (own_over made.over)) ++ last) end_is
    ∙ ap (λ (b : ℕ). ((decimal key ++ b ∷ decimal number) ++ written_fields made (own_over made.over)) ++ 10 ∷ []) byte_is
    ∙ ap (λ (l : LineOver). ((decimal key ++ d ∷ decimal number) ++ written_fields l (own_over l.over)) ++ 10 ∷ []) made_is
    ∙ ap (λ (text : List ℕ). ((decimal key ++ d ∷ decimal number) ++ text) ++ 10 ∷ []) (fields_are line)
    ∙ line-joined d key number fields small few
    ∙ ap (λ (k : ℕ). line_text d (Some (decimal k) ∷ Some (decimal number) ∷ fields) ++ codes "\n") key_is

pub returns-clause-text : goal.returns-clause-text
returns-clause-text g c =
    let over : LinesOver = c.args.self.now in
    let unit : ℕ = c.args.at.now.unit in
    let ordinal : ℕ = c.args.row.now.ordinal in
    let head : List ℕ = decimal c.args.row.now.key ++ c.delimiter.result ∷ decimal c.args.number in
    let fields : List ℕ = written_fields c.new.result (own_over c.new.result.over) in
    let row_is = row_held c.args.held.now over c.args.at.now.rows.now c.args.at.now.table unit ordinal c.requires.held c.requires.at.plan c.requires.at.table in
    let new_is = c.new.ensures ∙ line_is c.args.held.now (record { plan = c.self.inside.plan.now; kept = c.self.inside.detail.now }) over unit ordinal c.args.number row_is c.self.view_is in
    put-twice c.args.page.now c.put_fields.new.page c.put_piece.new.self (head ++ fields) (piece_text c.of_byte.result) (made_line over unit ordinal c.args.number)
    (put-twice c.args.page.now c.put_head.new.page c.put_fields.new.page head fields (head ++ fields) c.put_head.ensures.text c.put_fields.ensures.text refl) c.put_piece.ensures
    (text_is over unit ordinal c.args.row.now.key c.args.number c.delimiter.result c.new.result (piece_text c.of_byte.result) c.put_head.ensures.key (omega (arith, c.requires.number)) c.delimiter.ensures new_is c.of_byte.ensures
    (key-told over.plan (place_over over) unit ordinal c.args.row.now.key c.requires.at.unit c.requires.told.ordinal c.requires.told.key))

pub returns-clause-size : goal.returns-clause-size
returns-clause-size g c =
    let over : LinesOver = c.args.self.now in
    let unit : ℕ = c.args.at.now.unit in
    let ordinal : ℕ = c.args.row.now.ordinal in
    let head : List ℕ = decimal c.args.row.now.key ++ c.delimiter.result ∷ decimal c.args.number in
    let fields : List ℕ = written_fields c.new.result (own_over c.new.result.over) in
    let row_is = row_held c.args.held.now over c.args.at.now.rows.now c.args.at.now.table unit ordinal c.requires.held c.requires.at.plan c.requires.at.table in
    let new_is = c.new.ensures ∙ line_is c.args.held.now (record { plan = c.self.inside.plan.now; kept = c.self.inside.detail.now }) over unit ordinal c.args.number row_is c.self.view_is in
    let written =
    text_is over unit ordinal c.args.row.now.key c.args.number c.delimiter.result c.new.result (piece_text c.of_byte.result) c.put_head.ensures.key (omega (arith, c.requires.number)) c.delimiter.ensures new_is c.of_byte.ensures
    (key-told over.plan (place_over over) unit ordinal c.args.row.now.key c.requires.at.unit c.requires.told.ordinal c.requires.told.key) in
    omega (
      arith,
      ap (λ (text : List ℕ). length text) written,
      length-append (head ++ fields) (piece_text c.of_byte.result),
      length-append head fields,
      ap (λ (text : List ℕ). length text) c.of_byte.ensures,
      c.put_head.ensures.size,
      c.put_fields.ensures.size,
      ap (λ (line : LineOver). fields_room line.over (own_over line.over)) new_is,
      line-rooms over c.declared-limits.ensures.keeps c.declared-limits.ensures.limits,
    )
