-- The statements of rows as they are put on a page, by the names that packages have for them.
use Rattle.std.proofs.Common.{◌≡◌, ◌<◌, ◌≤◌, ℕ, ◌+◌, ◌*◌, ◌-◌, List, [], ◌++◌, All, Bor, codes, decimal, drop, get_or, length, length-append, take, true, append_assoc, refl, ap, ap₂, sym, subst, ◌∙◌, arith}
use Rattle.std.specs.List.{range_with_len, slice_range}
use Rattle.std.proofs.Math.Nat.{add-mul, mul-le-mul_right}
use Rattle.std.proofs.lemmas.List.{length-drop, length-map}
use Rattle.std.proofs.lemmas.List.Elements.{All-drop, All-take}
use Rattle.std.proofs.lemmas.List.FromFn.{length-range_with_len}
use Rattle.line_pages.specs.Pages.{Page}
use Rattle.cohort_sizes.specs.Births.{born_count}
use Rattle.schema_facts.specs.Dictionaries.{Project}
use Rattle.schema_facts.specs.Layout.{layout_of, no_table}
use Rattle.schema_plan.specs.Limits.{IsInLimits, IsTableInLimits}
use Rattle.schema_plan.specs.Rules.{IsAccepted}
use Rattle.life_intervals.specs.Generator.{generator_of, last_unit, rows_in_all, table_of}
use Rattle.life_intervals.specs.Intervals.{is_live}
use Rattle.life_intervals.specs.Keys.{key_of}
use Rattle.life_intervals.proofs.AcceptedLemmas.{place-below}
use Rattle.row_lines.specs.Runs.{RunLinesOf, run_text}
use Rattle.update_box.proofs.KeyLineLemmas.{key-small}
use Rattle.sql_lines.specs.Frames.{FrameOf, deletion_frame, end_with, key_lead, update_column, update_frame}
use Rattle.sql_lines.specs.Packages.{AreAlive, deleted_rows, inserted_rows, insertions_between, range_text, updated_rows}
use Rattle.sql_lines.specs.Reach.{statement_size}
use Rattle.sql_lines.specs.Statements.{column_count, deletion, deletions_of, insertions_of, table_name, updates_of}
use Rattle.sql_lines.specs.Told.{AreListed, statements_told}
use Rattle.sql_lines.specs.declared.frame.Verb.TheVariants.{Insert, Update}
use Rattle.sql_lines.specs.declared.rows.Told.TheVariants.{Listed, Living}
use Rattle.sql_lines.proofs.PackageLemmas.{living-begun}
use Rattle.sql_lines.proofs.RowLemmas.{flat_map-next}
use Rattle.sql_lines.proofs.SizeLemmas.{deletion-size}

-- ---- insertions

pub insertions-told : (plan : Project) (table unit first end begin living : ℕ) (lines : RunLinesOf) → lines ≡ record { plan = plan; table = table; unit = unit } →
    first ≤ begin → begin ≤ end → (first < begin → begin ≤ living) → run_text (record { plan = plan; table = table; unit = unit }) 0 living ≡ [] →
    statements_told lines Insert (Living begin (end - begin)) ≡ insertions_between plan table unit first end
insertions-told plan table unit first end begin living lines is begun within passed none =
    ap (λ (of : RunLinesOf). statements_told of Insert (Living begin (end - begin))) is
    ∙ ap (insertions_of plan unit table) (sym (living-begun (record { plan = plan; table = table; unit = unit }) first end begin living begun within passed none))

-- ---- updates

pub updates-told : (plan : Project) (table : ℕ) (lines : RunLinesOf) (ordinals : Bor (List ℕ)) → lines.plan ≡ plan → lines.table ≡ table →
    statements_told lines Update (Listed ordinals) ≡ updates_of plan lines.unit table ordinals.now
updates-told plan table lines ordinals plan_is table_is = ap₂ (λ (p : Project) (t : ℕ). updates_of p lines.unit t ordinals.now) plan_is table_is

-- rows that are alive, by other names of their plan and table
pub listed-alive : (plan : Project) (table : ℕ) (lines : RunLinesOf) (ordinals : List ℕ) → lines.plan ≡ plan → lines.table ≡ table → AreAlive plan table ordinals lines.unit → AreListed lines ordinals
listed-alive plan table lines ordinals plan_is table_is rows = record {
  born = subst (λ (t : ℕ). All (λ ordinal. ordinal < born_count (table_of lines.plan t).births lines.unit) ordinals) (sym table_is)
      (subst (λ (p : Project). All (λ ordinal. ordinal < born_count (table_of p table).births lines.unit) ordinals) (sym plan_is) rows.born);
  alive = subst (λ (t : ℕ). All (λ ordinal. is_live (generator_of lines.plan) t lines.unit ordinal ≡ true) ordinals) (sym table_is)
      (subst (λ (p : Project). All (λ ordinal. is_live (generator_of p) table lines.unit ordinal ≡ true) ordinals) (sym plan_is) rows.alive);
}

-- so are some of them
pub alive-part : (plan : Project) (table : ℕ) (ordinals : List ℕ) (unit size first : ℕ) → AreAlive plan table ordinals unit → AreAlive plan table (take size (drop first ordinals)) unit
alive-part plan table ordinals unit size first rows =
    let born : ℕ → Type 0 = λ ordinal. ordinal < born_count (table_of plan table).births unit in
    let lives : ℕ → Type 0 = λ ordinal. is_live (generator_of plan) table unit ordinal ≡ true in
    record {
      reached = rows.reached;
      born = All-take born size (drop first ordinals) (All-drop born first ordinals rows.born);
      alive = All-take lives size (drop first ordinals) (All-drop lives first ordinals rows.alive);
    }

-- a table that has more than its key has columns to set
pub some-other : (plan : Project) (table : ℕ) → 1 < column_count plan table → 1 ≤ length (update_frame plan table).columns
some-other plan table several =
    let all : List ℕ = range_with_len 0 (column_count plan table) in
    omega (arith, several, length-map (drop 1 all) (update_column plan table), length-drop 1 all, length-range_with_len 0 (column_count plan table))

-- ---- deletions

module _ (plan : Project) (table : ℕ) where
  pub deletion-put : (ordinal key : ℕ) → key ≡ key_of (generator_of plan) table (last_unit plan) ordinal → end_with (deletion_frame plan table) (decimal key) ≡ deletion plan table ordinal
  unfolding deletion
  deletion-put ordinal key is =
      let begin : List ℕ = codes "DELETE FROM " ++ table_name plan table in
      let lead : List ℕ = key_lead plan table in
      append_assoc (begin ++ lead) (decimal key) (codes ";\n")
      ∙ append_assoc begin lead (decimal key ++ codes ";\n")
      ∙ ap (λ (text : List ℕ). begin ++ text) (sym (append_assoc lead (decimal key) (codes ";\n")))
      ∙ ap (λ (k : ℕ). begin ++ (lead ++ decimal k ++ codes ";\n")) is

  module _ (accepted : IsAccepted plan) (limits : IsInLimits plan) (below : table < length plan.schema.tables) (ordinals : List ℕ) (rows : All (λ ordinal. ordinal < rows_in_all plan table) ordinals)
      (i : ℕ) (within : i < length ordinals) (so_far : length (deletions_of plan table (take i ordinals)) ≤ i * statement_size (layout_of plan) table) where
    abbrev size : ℕ
    size = statement_size (layout_of plan) table

    one-few : length (deletion plan table (get_or ordinals i 0)) ≤ statement_size (layout_of plan) table
    one-few =
        let own : IsTableInLimits (last_unit plan) (table_of plan table) = limits.tables table no_table (place-below plan table below) in
        deletion-size plan accepted table below own.some_column (get_or ordinals i 0) (key-small plan limits (last_unit plan) (omega arith) table below (get_or ordinals i 0) (rows i 0 within))

    next : deletions_of plan table (take i ordinals) ++ deletion plan table (get_or ordinals i 0) ≡ deletions_of plan table (take (i + 1) ordinals)
    next = flat_map-next (deletion plan table) ordinals i within

    -- so many deletions have room, and one more
    pub deletion-room : (room key : ℕ) → length ordinals * statement_size (layout_of plan) table ≤ room → key ≡ key_of (generator_of plan) table (last_unit plan) (get_or ordinals i 0) →
        length (deletions_of plan table (take i ordinals)) + length (end_with (deletion_frame plan table) (decimal key)) ≤ room
    deletion-room room key all is =
        omega (
          arith,
          so_far,
          one-few,
          ap (λ (text : List ℕ). length text) (deletion-put (get_or ordinals i 0) key is),
          add-mul i 1 size,
          mul-le-mul_right size within,
          all,
        )

    pub deletions-size : length (deletions_of plan table (take (i + 1) ordinals)) ≤ (i + 1) * statement_size (layout_of plan) table
    deletions-size =
        omega (
          arith,
          so_far,
          one-few,
          ap (λ (text : List ℕ). length text) next,
          length-append (deletions_of plan table (take i ordinals)) (deletion plan table (get_or ordinals i 0)),
          add-mul i 1 size,
        )

    pub deletions-more : (old page new : Page) (frame : FrameOf) (key : ℕ) → page ≡ record { text = deletions_of plan table (take i ordinals); room = old.room } →
        new ≡ record { text = page.text ++ end_with frame (decimal key); room = page.room } → frame ≡ deletion_frame plan table → key ≡ key_of (generator_of plan) table (last_unit plan) (get_or ordinals i 0) →
        new ≡ record { text = deletions_of plan table (take (i + 1) ordinals); room = old.room }
    deletions-more old page new frame key page_is put frame_is is =
        put
        ∙ ap₂ (λ (p : Page) (f : FrameOf). record { text = p.text ++ end_with f (decimal key); room = p.room }) page_is frame_is
        ∙ ap (λ (text : List ℕ). record { text = text; room = old.room }) (ap (λ (text : List ℕ). deletions_of plan table (take i ordinals) ++ text) (deletion-put (get_or ordinals i 0) key is) ∙ next)

-- ---- the rows from a position up to another

pub range-inserted : (plan : Project) (table from to unit first end : ℕ) → range_text plan table (inserted_rows from to unit) first end ≡ insertions_between plan table unit (from + first) (from + end)
unfolding range_text
range-inserted plan table from to unit first end = refl

pub range-deleted : (plan : Project) (table : ℕ) (ordinals : List ℕ) (first end : ℕ) → range_text plan table (deleted_rows ordinals) first end ≡ deletions_of plan table (slice_range ordinals first end)
unfolding range_text
range-deleted plan table ordinals first end = refl

pub range-updated : (plan : Project) (table : ℕ) (ordinals : List ℕ) (unit first end : ℕ) → range_text plan table (updated_rows ordinals unit) first end ≡ updates_of plan unit table (slice_range ordinals first end)
unfolding range_text
range-updated plan table ordinals unit first end = refl
