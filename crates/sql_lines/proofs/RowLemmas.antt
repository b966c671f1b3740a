-- The statements of rows, made of their lines one after the other.
use Rattle.std.proofs.Common.{◌≡◌, ◌<◌, ◌≤◌, ℕ, suc, ◌+◌, ◌*◌, ◌^◌, List, [], ◌∷◌, ◌++◌, All, codes, drop, flat_map, get_or, length, length-append, take, append-nil, refl, ap, sym, ◌∙◌, arith, inl, inr}
use Rattle.std.specs.List.{join_with_byte, range_with_len}
use Rattle.std.proofs.Math.Nat.{add-mul, mul-le-mul_right}
use Rattle.std.proofs.Math.Seq.{drop-cons}
use Rattle.std.proofs.lemmas.Bool.{cases_lt}
use Rattle.std.proofs.lemmas.List.{drop_all, length-drop, length-map, take_all, take_more}
use Rattle.std.proofs.lemmas.List.FromFn.{length-range_with_len}
use Rattle.std.proofs.lemmas.List.Concat.{flat_map-append}
use Rattle.line_pages.specs.Pages.{Page}
use Rattle.row_text.specs.Fields.{IsDelimiter}
use Rattle.cohort_sizes.specs.Births.{born_count}
use Rattle.cohort_sizes.proofs.CohortLemmas.{born_count-le}
use Rattle.schema_facts.specs.Layout.{layout_of, no_table}
use Rattle.schema_plan.specs.Limits.{IsInLimits, IsTableInLimits}
use Rattle.schema_plan.specs.Rules.{IsAccepted}
use Rattle.life_intervals.specs.Generator.{generator_of, last_unit, rows_in_all}
use Rattle.life_intervals.specs.Intervals.{row_at}
use Rattle.life_intervals.specs.Keys.{key_of}
use Rattle.life_intervals.specs.Rows.{Row}
use Rattle.life_intervals.proofs.AcceptedLemmas.{place-below}
use Rattle.row_lines.specs.Lines.{field_texts, line}
use Rattle.row_lines.specs.RunFields.{HasSizes}
use Rattle.row_lines.specs.Runs.{RunLinesOf, layout_for, line_for, listed_text}
use Rattle.row_lines.proofs.RunFieldLemmas.{text_at-key}
use Rattle.row_lines.proofs.RunTextLemmas.{appended-more}
use Rattle.update_box.proofs.KeyLineLemmas.{key-small}
use Rattle.sql_lines.specs.Frames.{update_column}
use Rattle.sql_lines.specs.Reach.{statement_size}
use Rattle.sql_lines.specs.Told.{AreTold, frame_for, ordinals_told, statement_for}
use Rattle.sql_lines.specs.Verbs.{rest_from, statement_from}
use Rattle.sql_lines.specs.declared.frame.Verb.{Verb}
use Rattle.sql_lines.specs.declared.frame.Verb.TheVariants.{Insert, Update}
use Rattle.sql_lines.specs.declared.rows.Told.{Told}
use Rattle.sql_lines.proofs.FrameLemmas.{insertion-line, insertion-rest, update-line, update-rest}
use Rattle.sql_lines.proofs.SizeLemmas.{insertion-size, update-size}
use Rattle.sql_lines.proofs.ToldLemmas.{told-born}

-- ---- one line

-- of the line of a row its statement is made, and what is after the line is left
pub record CanState (lines : RunLinesOf) (verb : Verb) (ordinal : ℕ) : Type 0 where
  pub makes : (rest : List ℕ) → statement_from verb (layout_of lines.plan).delimiter (frame_for lines verb) (line_for lines ordinal ++ rest) ≡ statement_for lines verb ordinal
  pub leaves : (rest : List ℕ) → rest_from verb (layout_of lines.plan).delimiter (frame_for lines verb) (line_for lines ordinal ++ rest) ≡ rest
  pub size : length (statement_for lines verb ordinal) ≤ statement_size (layout_of lines.plan) lines.table

abbrev pub CanStateEach : RunLinesOf → Verb → List ℕ → Type 0
CanStateEach lines verb ordinals = (i : ℕ) → i < length ordinals → CanState lines verb (get_or ordinals i 0)

module _ (lines : RunLinesOf) (accepted : IsAccepted lines.plan) (limits : IsInLimits lines.plan) (delimits : IsDelimiter (layout_of lines.plan).delimiter)
    (below : lines.table < length lines.plan.schema.tables) (within : lines.unit ≤ last_unit lines.plan) where
  own : IsTableInLimits (last_unit lines.plan) (layout_for lines)
  own = limits.tables lines.table no_table (place-below lines.plan lines.table below)

  key-few : (ordinal : ℕ) → ordinal < rows_in_all lines.plan lines.table → key_of (generator_of lines.plan) lines.table (last_unit lines.plan) ordinal < 2 ^ 64
  key-few ordinal born = key-small lines.plan limits (last_unit lines.plan) (omega arith) lines.table below ordinal born

  several : (n : ℕ) → 1 ≤ length (drop 1 (range_with_len 0 n)) → 1 < n
  several n some = omega (arith, some, length-drop 1 (range_with_len 0 n), length-range_with_len 0 n)

  pub can-state : (verb : Verb) (ordinal : ℕ) → 1 ≤ length (frame_for lines verb).columns → ordinal < born_count (layout_for lines).births lines.unit → HasSizes lines ordinal → CanState lines verb ordinal
  can-state Insert ordinal some born sizes = record {
    makes = λ rest. insertion-line lines ordinal delimits rest own.some_column;
    leaves = λ rest. insertion-rest lines ordinal delimits rest own.some_column;
    size = insertion-size lines.plan accepted lines.table below own.some_column lines.unit ordinal sizes;
  }
  can-state Update ordinal some born sizes =
      let count : ℕ = length (layout_for lines).columns in
      let more : 1 < count = several count (omega (arith, some, length-map (drop 1 (range_with_len 0 count)) (update_column lines.plan lines.table))) in
      let key : ℕ = key_of (generator_of lines.plan) lines.table (last_unit lines.plan) ordinal in
      let small : key < 2 ^ 64 = key-few ordinal (omega (arith, born, born_count-le (layout_for lines).births lines.unit (last_unit lines.plan) within)) in
      record {
        makes = λ rest. update-line lines ordinal delimits rest key more (text_at-key lines ordinal 0 key own.key_first own.key_never_null within born refl small) refl;
        leaves = λ rest. update-rest lines ordinal delimits rest more;
        size = update-size lines.plan accepted lines.table below own.some_column lines.unit ordinal sizes small;
      }

  -- of the lines of rows that are told their statements are made
  pub can-each : (verb : Verb) (told : Told) → 1 ≤ length (frame_for lines verb).columns → AreTold lines told → All (HasSizes lines) (ordinals_told lines told) →
      CanStateEach lines verb (ordinals_told lines told)
  can-each verb told some are sizes = λ i inside.
      can-state verb (get_or (ordinals_told lines told) i 0) some (told-born lines told are i 0 inside) (sizes i 0 inside)

-- ---- lines one after the other

-- one more text
pub flat_map-next : (f : ℕ → List ℕ) (xs : List ℕ) (i : ℕ) → i < length xs → flat_map f (take i xs) ++ f (get_or xs i 0) ≡ flat_map f (take (i + 1) xs)
flat_map-next f xs i below =
    sym (ap (flat_map f) (take_more xs i 0 below)
    ∙ flat_map-append f (take i xs) (get_or xs i 0 ∷ [])
    ∙ ap (λ (text : List ℕ). flat_map f (take i xs) ++ text) (append-nil (f (get_or xs i 0))))

pub line-some : (lines : RunLinesOf) (ordinal : ℕ) → 1 ≤ length (line_for lines ordinal)
unfolding line
line-some lines ordinal =
    let row : Row = row_at (generator_of lines.plan) lines.table lines.unit ordinal in
    let fields : List (List ℕ) = field_texts (generator_of lines.plan) lines.unit lines.table row in
    omega (arith, length-append (join_with_byte (generator_of lines.plan).delimiter fields) (codes "\n"))

-- so many of the rows have their statements, and bytes after an index are the lines of the others
pub record Stands (lines : RunLinesOf) (verb : Verb) (ordinals bytes : List ℕ) (at : ℕ) (old page : Page) : Type 0 where
  pub row : ℕ
  pub rows : row ≤ length ordinals
  pub behind : drop at bytes ≡ listed_text lines (drop row ordinals)
  pub text : page ≡ record { text = old.text ++ flat_map (statement_for lines verb) (take row ordinals); room = old.room }
  pub size : length (flat_map (statement_for lines verb) (take row ordinals)) ≤ row * statement_size (layout_of lines.plan) lines.table

module _ (lines : RunLinesOf) (verb : Verb) (ordinals bytes : List ℕ) (at : ℕ) (old page : Page) (can : CanStateEach lines verb ordinals) (stands : Stands lines verb ordinals bytes at old page) where
  abbrev row : ℕ
  row = stands.row

  abbrev ordinal : ℕ
  ordinal = get_or ordinals stands.row 0

  abbrev others : List ℕ
  others = listed_text lines (drop (suc stands.row) ordinals)

  abbrev size : ℕ
  size = statement_size (layout_of lines.plan) lines.table

  -- before the end of the bytes there is a row more
  row-more : at < length bytes → stands.row < length ordinals
  row-more below = elim (cases_lt stands.row (length ordinals)) [
    | inl more ↦ more
    | inr all ↦
        let none : drop at bytes ≡ [] = stands.behind ∙ ap (listed_text lines) (drop_all stands.row ordinals all) in
        absurd (omega (arith, below, ap (λ (xs : List ℕ). length xs) none, length-drop at bytes))
  ]

  line-here : at < length bytes → drop at bytes ≡ line_for lines ordinal ++ others
  line-here below = stands.behind ∙ ap (listed_text lines) (drop-cons ordinals stands.row 0 (row-more below))

  statement-here : at < length bytes → statement_from verb (layout_of lines.plan).delimiter (frame_for lines verb) (drop at bytes) ≡ statement_for lines verb ordinal
  statement-here below =
      ap (statement_from verb (layout_of lines.plan).delimiter (frame_for lines verb)) (line-here below) ∙ (can stands.row (row-more below)).makes others

  pub stands-room : (many : ℕ) → at < length bytes → length ordinals ≤ many → length old.text + many * statement_size (layout_of lines.plan) lines.table ≤ old.room →
      length page.text + length (statement_from verb (layout_of lines.plan).delimiter (frame_for lines verb) (drop at bytes)) ≤ page.room
  stands-room many below few room =
      let next : stands.row + 1 ≤ many = omega (arith, row-more below, few) in
      let so_far : List ℕ = flat_map (statement_for lines verb) (take stands.row ordinals) in
      omega (
        arith,
        room,
        ap (λ (p : Page). length p.text) stands.text,
        ap (λ (p : Page). p.room) stands.text,
        length-append old.text so_far,
        stands.size,
        ap (λ (xs : List ℕ). length xs) (statement-here below),
        (can stands.row (row-more below)).size,
        mul-le-mul_right size next,
        add-mul stands.row 1 size,
      )

  pub stands-next : (next : ℕ) (new : Page) → at < length bytes →
      new ≡ record { text = page.text ++ statement_from verb (layout_of lines.plan).delimiter (frame_for lines verb) (drop at bytes); room = page.room } →
      drop next bytes ≡ rest_from verb (layout_of lines.plan).delimiter (frame_for lines verb) (drop at bytes) → Stands lines verb ordinals bytes next old new
  stands-next next new below put rest =
      let so_far : List ℕ = flat_map (statement_for lines verb) (take stands.row ordinals) in
      let one : List ℕ = statement_for lines verb ordinal in
      let all : so_far ++ one ≡ flat_map (statement_for lines verb) (take (stands.row + 1) ordinals) = flat_map-next (statement_for lines verb) ordinals stands.row (row-more below) in
      let behind_row : suc stands.row ≡ stands.row + 1 = omega arith in
      record {
        row = stands.row + 1;
        rows = omega (arith, row-more below);
        behind =
            rest ∙ ap (rest_from verb (layout_of lines.plan).delimiter (frame_for lines verb)) (line-here below) ∙ (can stands.row (row-more below)).leaves others
            ∙ ap (λ (n : ℕ). listed_text lines (drop n ordinals)) behind_row;
        text = appended-more old page new so_far _ _ stands.text put (ap (λ (text : List ℕ). so_far ++ text) (statement-here below) ∙ all);
        size = omega (
          arith,
          ap (λ (xs : List ℕ). length xs) all,
          length-append so_far one,
          stands.size,
          (can stands.row (row-more below)).size,
          add-mul stands.row 1 size,
        );
      }

  -- after their end there is none
  all : length bytes ≤ at → length ordinals ≤ stands.row
  all past = elim (cases_lt stands.row (length ordinals)) [
    | inr done ↦ done
    | inl more ↦
        let none : line_for lines ordinal ++ others ≡ [] =
        sym (ap (listed_text lines) (drop-cons ordinals stands.row 0 more)) ∙ sym stands.behind ∙ drop_all at bytes past in
        absurd (omega (arith, ap (λ (xs : List ℕ). length xs) none, length-append (line_for lines ordinal) others, line-some lines ordinal))
  ]

  pub stands-whole : length bytes ≤ at → page ≡ record { text = old.text ++ flat_map (statement_for lines verb) ordinals; room = old.room }
  stands-whole past =
      stands.text ∙ ap (λ (xs : List ℕ). record { text = old.text ++ flat_map (statement_for lines verb) xs; room = old.room }) (take_all stands.row ordinals (all past))

  pub stands-size : length bytes ≤ at → length (flat_map (statement_for lines verb) ordinals) ≤ length ordinals * statement_size (layout_of lines.plan) lines.table
  stands-size past =
      omega (
        arith,
        stands.size,
        ap (λ (xs : List ℕ). length (flat_map (statement_for lines verb) xs)) (take_all stands.row ordinals (all past)),
        mul-le-mul_right size stands.rows,
      )
