-- What a line holds in a reference is the key field of one line of the parent's text, or null.
use Rattle.std.proofs.Common.{◌≡◌, ℕ, ◌^◌, ◌<◌, ◌≤◌, All, Bool, true, false, inl, inr, not, List, [], codes, count_by, decimal, length, map, Option, Some, None, zero-add, refl, ap, arith, subst, sym, ◌∙◌}
use Rattle.std.specs.Prelude.{IfSome, IsSome, MatchOption, if◌then◌else◌, is_some, slice_index_or}
use Rattle.std.specs.Option.{option_map}
use Rattle.std.specs.List.{range_with_len}
use Rattle.std.specs.Str.{bytes_eq}
use Rattle.std.proofs.lemmas.Bool.{cases_Bool, cases_lt, true≢false}
use Rattle.std.proofs.lemmas.Fmt.{decimal_injective}
use Rattle.std.proofs.lemmas.List.{get_or-map, length-map}
use Rattle.std.proofs.lemmas.List.Elements.{All-filter, filter_passes}
use Rattle.std.proofs.lemmas.List.FromFn.{get_or-map-range_with_len, get_or-range_with_len, length-range_with_len}
use Rattle.std.proofs.lemmas.Slice.Eq.{bytes_eq-Decides}
use Rattle.row_text.specs.Fields.{field_text}
use Rattle.row_text.proofs.DigitLemmas.{escaped_text-decimal}
use Rattle.cohort_sizes.specs.Births.{birth, born_count}
use Rattle.schema_facts.specs.Dictionaries.{Project}
use Rattle.schema_facts.specs.Layout.{layout_of, no_table, table_at}
use Rattle.schema_plan.specs.Limits.{IsInLimits, IsTableInLimits}
use Rattle.schema_facts.specs.References.{IsReferenceInLimits, Reference, cascades_of, reference_at, references_of}
use Rattle.life_intervals.specs.Generator.{Generator, generator_of, last_unit, rows_in_all, table_of}
use Rattle.life_intervals.specs.Intervals.{held_parent, is_after, is_live, living, loss_of, parent_of, row_at}
use Rattle.life_intervals.specs.Keys.{key_of}
use Rattle.life_intervals.specs.Rows.{Row}
use Rattle.life_intervals.specs.Simulation.{holds_row, rows_at}
use Rattle.life_intervals.specs.Sound.{AreSound}
use Rattle.life_intervals.proofs.AcceptedLemmas.{AreSound-accepted, place-below}
use Rattle.cohort_sizes.proofs.CohortLemmas.{birth-le, born_count-le}
use Rattle.life_intervals.proofs.HeldParentLemmas.{parents-held}
use Rattle.life_intervals.proofs.KeyLemmas.{OrdersCohorts-generator_of, key_of-one_to_one, key_of-within}
use Rattle.life_intervals.proofs.LifeLemmas.{parent_of-born}
use Rattle.life_intervals.proofs.LiveLemmas.{holds_row-live}
use Rattle.life_intervals.proofs.ReferenceLemmas.{at_column, reference_at-within}
use Rattle.life_intervals.proofs.SimulationLemmas.{rows_at-rows_of}
use Rattle.stream_apply.proofs.KeyedLineLemmas.{bytes_eq-apart}
use Rattle.row_lines.specs.Lines.{field, held_row}
use Rattle.row_lines.specs.RowViews.{parent_of_row}
use Rattle.row_lines.proofs.FieldLemmas.{field-key}
use Rattle.row_lines.proofs.HeldRowLemmas.{held_row-live, held_row-none, held_row-unborn}
use Rattle.row_lines.proofs.LineLemmas.{key_of-by}
use Rattle.life_intervals.proofs.HeldParentLemmas.{held_parent-cascades}
use Rattle.row_lines.proofs.ReferenceFieldLemmas.{field-reference, parent_of_row-by, parents-held_parent}
use Rattle.update_box.proofs.OrdinalLemmas.{not-true}
use Rattle.update_box.specs.TextLaws.{field_of_line, lines_with_key}
use Rattle.update_box.proofs.RangeLemmas.{count_by-filter_no_kept, count_by-filter_one, count_by-map}

-- what a line holds in a column of its table
field_of_line-is : (generator : Generator) (unit place column : ℕ) (row : Row) → column < length (table_at generator.tables place).columns →
    field_of_line generator unit place column row ≡ field_text generator.delimiter (field generator unit place row column)
field_of_line-is generator unit place column row within =
    get_or-map-range_with_len (λ (at : ℕ). field_text generator.delimiter (field generator unit place row at)) 0 (length (table_at generator.tables place).columns)
    column column [] within (zero-add column)

module _ (plan : Project) (limits : IsInLimits plan) (unit : ℕ) (within : unit ≤ last_unit plan) where
  abbrev generator : Generator
  generator = generator_of plan

  abbrev sound : AreSound (last_unit plan) (generator_of plan).tables
  sound = AreSound-accepted plan limits

  -- how many rows of a table are born by the unit
  abbrev born_by : ℕ → ℕ
  born_by place = born_count (table_of plan place).births unit

  -- a table is within its limits
  own : (place : ℕ) → place < length plan.schema.tables → IsTableInLimits (last_unit plan) (table_of plan place)
  own place below = limits.tables place no_table (place-below plan place below)

  -- ---- the lines of a table, by their keys

  -- a key is a number of 64 bits
  pub key-small : (place : ℕ) → place < length plan.schema.tables → (ordinal : ℕ) → ordinal < born_by place → key_of generator place unit ordinal < 2 ^ 64
  key-small place below ordinal born =
      let table : IsTableInLimits (last_unit plan) (table_of plan place) = own place below in
      omega (
        arith,
        key_of-within generator place (OrdersCohorts-generator_of plan place) unit ordinal born,
        table.base_limit,
        table.births.row_limit,
        born_count-le (table_of plan place).births unit (last_unit plan) within,
      )

  -- and stands first in a line
  key-field : (place : ℕ) → place < length plan.schema.tables → (ordinal : ℕ) → ordinal < born_by place →
      field_of_line generator unit place 0 (row_at generator place unit ordinal) ≡ decimal (key_of generator place unit ordinal)
  key-field place below ordinal born =
      let table : IsTableInLimits (last_unit plan) (table_of plan place) = own place below in
      field_of_line-is generator unit place 0 (row_at generator place unit ordinal) (omega (arith, table.some_column))
      ∙ ap (field_text generator.delimiter) (field-key generator unit place ordinal 0 table.key_first table.key_never_null)
      ∙ escaped_text-decimal generator.delimiter (key_of generator place unit ordinal) (key-small place below ordinal born)

  -- no two rows have the same
  key-field_apart : (place : ℕ) → place < length plan.schema.tables → (i j : ℕ) → i < born_by place → j < born_by place → (i ≡ j → ⊥) →
      bytes_eq (field_of_line generator unit place 0 (row_at generator place unit i)) (decimal (key_of generator place unit j)) ≡ false
  key-field_apart place below i j born_i born_j apart =
      bytes_eq-apart (field_of_line generator unit place 0 (row_at generator place unit i)) (decimal (key_of generator place unit j)) (λ same.
      apart (key_of-one_to_one generator place (OrdersCohorts-generator_of plan place) unit i j born_i born_j
      (decimal_injective (key_of generator place unit i) (key_of generator place unit j) (key-small place below i born_i) (key-small place below j born_j)
      (sym (key-field place below i born_i) ∙ same))))

  -- so the key of a row that is alive stands in one line
  pub lines_with_key-live : (place : ℕ) → place < length plan.schema.tables → (ordinal : ℕ) → ordinal < born_by place → is_live generator place unit ordinal ≡ true →
      lines_with_key generator unit place (decimal (key_of generator place unit ordinal)) ≡ 1
  lines_with_key-live place below ordinal born alive =
      let key : List ℕ = decimal (key_of generator place unit ordinal) in
      let has_key : Row → Bool = λ row. bytes_eq (field_of_line generator unit place 0 row) key in
      ap (count_by has_key) (rows_at-rows_of (last_unit plan) generator place unit sound within)
      ∙ count_by-map has_key (row_at generator place unit) (living generator place unit)
      ∙ count_by-filter_one (is_live generator place unit) (λ j. has_key (row_at generator place unit j)) 0 (born_by place) ordinal (omega arith) (omega (arith, born)) alive
      ((bytes_eq-Decides (field_of_line generator unit place 0 (row_at generator place unit ordinal)) key).1 (key-field place below ordinal born))
      (λ j low high apart. key-field_apart place below j ordinal (omega (arith, high)) born apart)

  -- no line has a key that no living row has
  lines_with_key-none : (place : ℕ) → place < length plan.schema.tables → (key : ℕ) → key < 2 ^ 64 →
      ((j : ℕ) → j < born_by place → is_live generator place unit j ≡ true → key_of generator place unit j ≡ key → ⊥) →
      lines_with_key generator unit place (decimal key) ≡ 0
  lines_with_key-none place below key small apart =
      let has_key : Row → Bool = λ row. bytes_eq (field_of_line generator unit place 0 row) (decimal key) in
      ap (count_by has_key) (rows_at-rows_of (last_unit plan) generator place unit sound within)
      ∙ count_by-map has_key (row_at generator place unit) (living generator place unit)
      ∙ count_by-filter_no_kept (is_live generator place unit) (λ j. has_key (row_at generator place unit j)) 0 (born_by place)
      (λ j low high alive. bytes_eq-apart (field_of_line generator unit place 0 (row_at generator place unit j)) (decimal key) (λ same.
      apart j (omega (arith, high)) alive (decimal_injective (key_of generator place unit j) key (key-small place below j (omega (arith, high))) small
      (sym (key-field place below j (omega (arith, high))) ∙ same))))

  -- a row that is told as live has one line with its key, and any other has none
  pub lines_with_key-held : (place : ℕ) → place < length plan.schema.tables → (ordinal : ℕ) → ordinal < rows_in_all plan place →
      lines_with_key generator unit place (decimal (key_of generator place (last_unit plan) ordinal)) ≡ (if is_some (held_row generator place unit ordinal) then 1 else 0)
  lines_with_key-held place below ordinal inside =
      let last : ℕ = last_unit plan in
      let orders = OrdersCohorts-generator_of plan place in
      let table : IsTableInLimits last (table_of plan place) = own place below in
      let number : Option Row → ℕ = λ held. if is_some held then 1 else 0 in
      let small : key_of generator place last ordinal < 2 ^ 64 =
      omega (arith, key_of-within generator place orders last ordinal inside, table.base_limit, table.births.row_limit) in
      let by : (j : ℕ) → j < born_by place → key_of generator place last j ≡ key_of generator place unit j = λ j born. key_of-by generator last unit place j within born in
      let later : (j : ℕ) → j < born_by place → j < rows_in_all plan place = λ j born. omega (arith, born, born_count-le (table_of plan place).births unit last within) in
      elim (cases_lt ordinal (born_by place)) [
        | inl born ↦ elim (cases_Bool (is_live generator place unit ordinal)) [
          | inl alive ↦
              ap (λ (key : ℕ). lines_with_key generator unit place (decimal key)) (by ordinal born)
              ∙ lines_with_key-live place below ordinal born alive
              ∙ sym (ap number (held_row-live last generator place unit ordinal sound within born alive))
          | inr dead ↦
              lines_with_key-none place below (key_of generator place last ordinal) small
              (λ j born_j alive same. true≢false (sym alive ∙ ap (is_live generator place unit)
              (key_of-one_to_one generator place orders last j ordinal (later j born_j) inside (by j born_j ∙ same)) ∙ dead))
              ∙ sym (ap number (held_row-none last generator place unit ordinal sound within dead))
        ]
        | inr unborn ↦
            lines_with_key-none place below (key_of generator place last ordinal) small
            (λ j born_j alive same.
            omega (arith, born_j, unborn, key_of-one_to_one generator place orders last j ordinal (later j born_j) inside (by j born_j ∙ same)))
            ∙ sym (ap number (held_row-unborn last generator place unit ordinal sound within unborn))
      ]

  -- ---- the line that a reference names

  -- what a line holds in the reference to a table, where the parent is this
  abbrev names : ℕ → Option ℕ → List ℕ
  names parent held = field_text generator.delimiter (option_map (λ (ordinal : ℕ). decimal (key_of generator parent unit ordinal)) held)

  -- it is the key of one line where there is a parent that its table holds, and null where there is none
  names-one : (parent : ℕ) → parent < length plan.schema.tables → (held : Option ℕ) → IfSome held (λ ordinal. ordinal < born_by parent) →
      IfSome held (λ ordinal. holds_row (rows_at generator parent unit) ordinal ≡ true) →
      MatchOption held (names parent held ≡ codes "\\N") (λ ordinal. lines_with_key generator unit parent (names parent held) ≡ 1)
  names-one parent below None born held = refl
  names-one parent below (Some ordinal) born held =
      ap (lines_with_key generator unit parent) (escaped_text-decimal generator.delimiter (key_of generator parent unit ordinal) (key-small parent below ordinal born))
      ∙ lines_with_key-live parent below ordinal born (sym (holds_row-live (last_unit plan) generator parent unit ordinal sound within born) ∙ held)

  -- what holds of a parent holds of it as long as a row has it
  of_held : (P : ℕ → Type 0) (test : Bool) (parent : ℕ) → P parent → IfSome (if test then Some parent else None) P
  of_held P true parent holds = holds
  of_held P false parent holds = tt

  -- a row that is alive names the line of its parent, or nothing where it has lost it
  line-live : (place : ℕ) → place < length plan.schema.tables → (ordinal : ℕ) → ordinal < born_by place → is_live generator place unit ordinal ≡ true →
      (column : ℕ) (reference : Reference) → reference_at (table_of plan place) column ≡ Some reference →
      MatchOption (parent_of_row (table_of plan place) (row_at generator place unit ordinal) column)
      (field_of_line generator unit place column (row_at generator place unit ordinal) ≡ codes "\\N")
      (λ parent. lines_with_key generator unit reference.parent (field_of_line generator unit place column (row_at generator place unit ordinal)) ≡ 1)
  line-live place below ordinal born alive column reference is =
      let place_is : place < length generator.tables = place-below plan place below in
      let inside : column < length (table_of plan place).columns = reference_at-within (table_of plan place) column reference is in
      let earlier : reference.parent < place =
      (at_column (IsReferenceInLimits (last_unit plan) (layout_of plan).tables place) (table_of plan place) (limits.references place below) column reference inside is).earlier in
      let parent : ℕ = parent_of generator place unit ordinal reference in
      let kept : Option ℕ = held_parent generator place unit ordinal reference in
      let parent_born : IfSome kept (λ p. p < born_by reference.parent) =
      of_held (λ p. p < born_by reference.parent) (is_after (loss_of generator place unit ordinal reference) unit) parent (omega (
        arith,
        parent_of-born (last_unit plan) generator sound place place_is unit within ordinal born column reference is,
        born_count-le (table_of plan reference.parent).births (birth (table_of plan place).births unit ordinal) unit (birth-le (table_of plan place).births unit ordinal born),
      )) in
      let held : IfSome kept (λ p. holds_row (rows_at generator reference.parent unit) p ≡ true) =
      at_column (λ (to : Reference). IfSome (held_parent generator place unit ordinal to) (λ p. holds_row (rows_at generator to.parent unit) p ≡ true)) (table_of plan place)
      (parents-held (last_unit plan) generator sound place place_is unit ordinal within (holds_row-live (last_unit plan) generator place unit ordinal sound within born ∙ alive))
      column reference inside is in
      let text : field_of_line generator unit place column (row_at generator place unit ordinal) ≡ names reference.parent kept =
      field_of_line-is generator unit place column (row_at generator place unit ordinal) inside
      ∙ ap (field_text generator.delimiter)
      (field-reference (last_unit plan) generator sound place place_is unit within ordinal born column reference is ((own place below).reference_never_null column reference inside is)) in
      subst (λ (bytes : List ℕ). MatchOption (parent_of_row (table_of plan place) (row_at generator place unit ordinal) column) (bytes ≡ codes "\\N") (λ p. lines_with_key generator unit reference.parent bytes ≡ 1)) (sym text)
      (subst (λ (o : Option ℕ). MatchOption o (names reference.parent kept ≡ codes "\\N") (λ p. lines_with_key generator unit reference.parent (names reference.parent kept) ≡ 1))
      (sym (parent_of_row-by (table_of plan place) (row_at generator place unit ordinal) (held_parent generator place unit ordinal) column reference (parents-held_parent generator place unit ordinal) is))
      (names-one reference.parent (omega (arith, earlier, below)) kept parent_born held))

  -- a row that a table holds is that of an ordinal that is born and alive
  pub record IsRowOf (place : ℕ) (row : Row) : Type 0 where
    pub ordinal : ℕ
    pub is : row ≡ row_at generator place unit ordinal
    pub born : ordinal < born_by place
    pub alive : is_live generator place unit ordinal ≡ true

  row-held : (place i : ℕ) (d : Row) → i < length (rows_at generator place unit) → IsRowOf place (slice_index_or (rows_at generator place unit) i d)
  row-held place i d inside =
      let ordinals : List ℕ = living generator place unit in
      let rows_are : rows_at generator place unit ≡ map (row_at generator place unit) ordinals = rows_at-rows_of (last_unit plan) generator place unit sound within in
      let among : i < length ordinals = omega (arith, inside, ap length rows_are, length-map ordinals (row_at generator place unit)) in
      record {
        ordinal = slice_index_or ordinals i 0;
        is = ap (λ (rows : List Row). slice_index_or rows i d) rows_are ∙ get_or-map (row_at generator place unit) ordinals i 0 d among;
        born = All-filter (is_live generator place unit) (λ j. j < born_by place) (range_with_len 0 (born_by place))
            (λ k d small. omega (arith, get_or-range_with_len 0 (born_by place) k d (omega (arith, small, length-range_with_len 0 (born_by place))), small, length-range_with_len 0 (born_by place))) i 0 among;
        alive = filter_passes (is_live generator place unit) (range_with_len 0 (born_by place)) i 0 among;
      }

  -- so each row that the table holds names such a line
  pub line-held : (place : ℕ) → place < length plan.schema.tables → (i : ℕ) (d : Row) → i < length (rows_at generator place unit) →
      (column : ℕ) (reference : Reference) → reference_at (table_of plan place) column ≡ Some reference →
      MatchOption (parent_of_row (table_of plan place) (slice_index_or (rows_at generator place unit) i d) column)
      (field_of_line generator unit place column (slice_index_or (rows_at generator place unit) i d) ≡ codes "\\N")
      (λ parent. lines_with_key generator unit reference.parent (field_of_line generator unit place column (slice_index_or (rows_at generator place unit) i d)) ≡ 1)
  line-held place below i d inside column reference is =
      let row = row-held place i d inside in
      subst (λ (of : Row). MatchOption (parent_of_row (table_of plan place) of column) (field_of_line generator unit place column of ≡ codes "\\N")
      (λ parent. lines_with_key generator unit reference.parent (field_of_line generator unit place column of) ≡ 1)) (sym row.is)
      (line-live place below row.ordinal row.born row.alive column reference is)

  -- and has a parent by each reference with which it is deleted
  pub parent-kept : (place : ℕ) → (i : ℕ) (d : Row) → i < length (rows_at generator place unit) →
      (column : ℕ) (reference : Reference) → reference_at (table_of plan place) column ≡ Some reference → reference.nulls ≡ false →
      IsSome (parent_of_row (table_of plan place) (slice_index_or (rows_at generator place unit) i d) column)
  parent-kept place i d inside column reference is cascades =
      let row = row-held place i d inside in
      subst (λ (o : Option ℕ). IsSome o)
      (sym (ap (λ (of : Row). parent_of_row (table_of plan place) of column) row.is
      ∙ parent_of_row-by (table_of plan place) (row_at generator place unit row.ordinal) (held_parent generator place unit row.ordinal) column reference (parents-held_parent generator place unit row.ordinal) is
      ∙ held_parent-cascades generator place unit row.ordinal reference cascades)) refl

  -- those parents are all in their tables
  pub cascades-held : (place : ℕ) → place < length plan.schema.tables → (ordinal : ℕ) → holds_row (rows_at generator place unit) ordinal ≡ true →
      All (λ (reference : Reference). holds_row (rows_at generator reference.parent unit) (parent_of generator place unit ordinal reference) ≡ true) (cascades_of (table_of plan place))
  cascades-held place below ordinal row_held = λ i d inside.
      let is_cascading : Reference → Bool = λ reference. not reference.nulls in
      let IsHeld : Reference → Type 0 = λ reference. IfSome (held_parent generator place unit ordinal reference) (λ p. holds_row (rows_at generator reference.parent unit) p ≡ true) in
      let reference : Reference = slice_index_or (cascades_of (table_of plan place)) i d in
      subst (λ (o : Option ℕ). IfSome o (λ p. holds_row (rows_at generator reference.parent unit) p ≡ true))
      (held_parent-cascades generator place unit ordinal reference (not-true reference.nulls (filter_passes is_cascading (references_of (table_of plan place)) i d inside)))
      (All-filter is_cascading IsHeld (references_of (table_of plan place))
      (parents-held (last_unit plan) generator sound place (place-below plan place below) unit ordinal within row_held) i d inside)
