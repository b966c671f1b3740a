-- What the statements of a script make of rows, statement by statement.
use Rattle.std.proofs.Common.{◌≡◌, ◌<◌, ◌≤◌, ℕ, zero, suc, add-one, ◌+◌, ◌-◌, ◌==◌, Bool, true, false, if◌then◌else◌, List, [], ◌∷◌, ◌++◌, Option, Some, None, get_or, length, map, nat_le, reverse, take, append_assoc, inl, inr, eqb-true, leb-true, refl, ap, ap₂, sym, subst, ◌∙◌, arith}
use Rattle.std.specs.Prelude.{All, IsSome, codes, decimal, filter_map}
use Rattle.std.specs.List.{cons_option, enumerate_from, flat_map, join_with_byte, range_with_len, zip}
use Rattle.std.proofs.Math.Path.{fun_ext}
use Rattle.std.proofs.lemmas.Bool.{and_parts, cases_Bool, cases_lt}
use Rattle.std.proofs.lemmas.List.{take-append-le, take_all}
use Rattle.std.proofs.lemmas.List.Elements.{All-append, All-head, All-map, All-tail}
use Rattle.std.proofs.lemmas.List.Sums.{fold-append}
use Rattle.std.proofs.Math.Seq.{take-append-add}
use Rattle.cohort_sizes.specs.Births.{born_count, first_ordinal}
use Rattle.cohort_sizes.proofs.CohortLemmas.{born_count-le}
use Rattle.row_text.specs.Fields.{field_text}
use Rattle.schema_facts.specs.Dictionaries.{Project}
use Rattle.schema_facts.specs.Layout.{ColumnLayout, KindLayout, column_at, key_kind, no_table}
use Rattle.schema_plan.specs.Limits.{IsInLimits, IsTableInLimits}
use Rattle.schema_facts.specs.References.{Reference, reference_of, references_of}
use Rattle.schema_facts.proofs.Lists.{map-map}
use Rattle.life_intervals.specs.Generator.{Generator, generator_of, last_unit, table_of}
use Rattle.life_intervals.specs.Intervals.{changing, is_live, row_at}
use Rattle.life_intervals.specs.Keys.{key_of}
use Rattle.life_intervals.specs.Rows.{Row}
use Rattle.life_intervals.specs.Simulation.{rows_at}
use Rattle.life_intervals.specs.Streams.{deleted, inserted, updated}
use Rattle.life_intervals.proofs.AcceptedLemmas.{AreSound-accepted, length-tables, place-below}
use Rattle.life_intervals.proofs.Ranges.{flat_map-range_with_len_more}
use Rattle.life_intervals.proofs.StreamLemmas.{updated-changing}
use Rattle.row_lines.specs.Lines.{field, line}
use Rattle.row_lines.proofs.FieldLemmas.{field-key}
use Rattle.row_lines.proofs.LineLemmas.{key_of-by}
use Rattle.row_keeper.specs.Kept.{KeptRow, KeptRows, NoneDangles, Statement, after_statement, after_statements, drop_row, is_row, no_rows, put_row, with_row}
use Rattle.row_keeper.specs.declared.keeper.RefTo.{RefTo}
use Rattle.keeper_play.specs.Statements.{deletions, drop_of, held_statements, insertions, kept_row, places, put_of, reference_to, row_key, rows_of_unit, statements_to, unit_statements as played_statements, updates}
use Rattle.keeper_play.proofs.PlayedLemmas.{alive-before, held-found, held-give, no-reference-dangles, no-reference-of_rows_dangles, statements-give}
use Rattle.keeper_play.proofs.RefLemmas.{row_key-at}
use Rattle.keeper_play.proofs.UnitLemmas.{changing-alive, changing-early, unit_statements-parts}
use Rattle.update_box.specs.Parts.{Part, parts_of}
use Rattle.update_box.specs.declared.parts.Content.TheVariants as content
use Rattle.sql_lines.specs.Effects.{Effect, after_effect, after_effects, deletes, effects_of, inserts, set_to, sets, snapshot_statements, statements_at, statements_of, unit_statements}
use Rattle.sql_lines.specs.Statements.{column_count}
use Rattle.sql_lines.proofs.ScriptLemmas.{effects-append, effects-of_content, flat_map-each, map-append, map-flat_map}

-- ---- statements that do what a store's do

abbrev as_effect : Statement → Effect
as_effect (put_row table key row) = inserts table key row
as_effect (drop_row table key) = deletes table key

take-map : {A B : Type 0} (f : A → B) (n : ℕ) (xs : List A) → take n (map f xs) ≡ map f (take n xs)
take-map f zero xs = refl
take-map f (suc n) [] = refl
take-map f (suc n) (x ∷ xs) = ap (λ (ys : List _). f x ∷ ys) (take-map f n xs)

as-effects : (statements : List Statement) (rows : KeptRows) → after_effects (map as_effect statements) rows ≡ after_statements statements rows
as-effects [] rows = refl
as-effects (put_row table key row ∷ statements) rows = as-effects statements (with_row table key (Some row) rows)
as-effects (drop_row table key ∷ statements) rows = as-effects statements (with_row table key None rows)

-- ---- updates: of tables with the key alone there is none, and a put changes nothing

record Item : Type 0 where
  alone : Bool
  table : ℕ
  key : ℕ
  row : KeptRow

abbrev putting : Item → Statement
putting item = put_row item.table item.key item.row

abbrev setting : List Item → List Effect
setting [] = []
setting (item ∷ items) = if item.alone then setting items else sets item.table item.key item.row ∷ setting items

setting-alone : (item : Item) (items : List Item) → item.alone ≡ true → setting (item ∷ items) ≡ setting items
setting-alone item items alone = rw alone refl

setting-several : (item : Item) (items : List Item) → item.alone ≡ false → setting (item ∷ items) ≡ sets item.table item.key item.row ∷ setting items
setting-several item items several = rw several refl

-- a row is there under the key, and where the table has the key alone it is the same
record Fits (alone_of : ℕ → Bool) (rows : KeptRows) (item : Item) : Type 0 where
  table_alone : item.alone ≡ alone_of item.table
  there : IsSome (rows item.table item.key)
  same : item.alone ≡ true → rows item.table item.key ≡ Some item.row

module _ (alone_of : ℕ → Bool) where
  -- they still do where one is put
  fits-put : (rows : KeptRows) (item other : Item) → Fits alone_of rows item → Fits alone_of rows other → Fits alone_of (with_row item.table item.key (Some item.row) rows) other
  fits-put rows item other fits are = elim (cases_Bool (is_row item.table item.key other.table other.key)) [
    | inr apart ↦ record { table_alone = are.table_alone; there = rw apart are.there; same = λ alone. rw apart (are.same alone) }
    | inl here ↦
        let parts : ((item.table == other.table) ≡ true) × ((item.key == other.key) ≡ true) = and_parts _ _ here in
        let table_is : item.table ≡ other.table = eqb-true item.table other.table parts.0 in
        let key_is : item.key ≡ other.key = eqb-true item.key other.key parts.1 in
        record {
          table_alone = are.table_alone;
          there = rw here refl;
          same = λ alone.
              let own : item.alone ≡ true = fits.table_alone ∙ ap alone_of table_is ∙ sym are.table_alone ∙ alone in
              rw here (sym (fits.same own) ∙ ap₂ (λ (t k : ℕ). rows t k) table_is key_is ∙ are.same alone);
        }
  ]

  all-put : (rows : KeptRows) (item : Item) (items : List Item) → Fits alone_of rows item → All (Fits alone_of rows) items → All (Fits alone_of (with_row item.table item.key (Some item.row) rows)) items
  all-put rows item items fits are = λ i d below. fits-put rows item (get_or items i d) fits (are i d below)

  -- what is put again changes nothing
  put-again : (rows : KeptRows) (table key : ℕ) (row : KeptRow) → rows table key ≡ Some row → with_row table key (Some row) rows ≡ rows
  put-again rows table key row is =
      fun_ext (λ (t : ℕ). fun_ext (λ (k : ℕ). elim (cases_Bool (is_row table key t k)) [
        | inr apart ↦ rw apart refl
        | inl here ↦
            let parts : ((table == t) ≡ true) × ((key == k) ≡ true) = and_parts _ _ here in
            rw here (sym is ∙ ap₂ (λ (a b : ℕ). rows a b) (eqb-true table t parts.0) (eqb-true key k parts.1))
      ]))

  -- a row that is there is set
  set-there : (row : KeptRow) (old : Option KeptRow) → IsSome old → set_to row old ≡ Some row
  set-there row None there = absurd (let clash : false ≡ true = there in cc)
  set-there row (Some old) there = refl

  -- after some of the updates the rows are those after some of the puts
  record Follows (items : List Item) (rows : KeptRows) (n : ℕ) : Type 0 where
    puts : ℕ
    is : after_effects (take n (setting items)) rows ≡ after_statements (take puts (map putting items)) rows

  follows-first : (items : List Item) (rows : KeptRows) → Follows items rows 0
  follows-first items rows = record { puts = 0; is = refl }

  set-first : (item : Item) (items : List Item) (rows : KeptRows) → Fits alone_of rows item → (rest : List Effect) →
      after_effects (sets item.table item.key item.row ∷ rest) rows ≡ after_effects rest (with_row item.table item.key (Some item.row) rows)
  set-first item items rows fits rest =
      ap (λ (row : Option KeptRow). after_effects rest (with_row item.table item.key row rows)) (set-there item.row (rows item.table item.key) fits.there)

  follows : (items : List Item) (rows : KeptRows) → All (Fits alone_of rows) items → (n : ℕ) → Follows items rows n
  follows [] rows are zero = record { puts = 0; is = refl }
  follows [] rows are (suc n) = record { puts = 0; is = refl }
  follows (item ∷ items) rows are zero = follows-first (item ∷ items) rows
  follows (item ∷ items) rows are (suc n) =
      let fits : Fits alone_of rows item = All-head (Fits alone_of rows) item items are in
      let next : KeptRows = with_row item.table item.key (Some item.row) rows in
      let others : All (Fits alone_of next) items = all-put rows item items fits (All-tail (Fits alone_of rows) item items are) in
      elim (cases_Bool item.alone) [
        | inl alone ↦
            let rest : Follows items next (suc n) = follows items next others (suc n) in
            let same : next ≡ rows = put-again rows item.table item.key item.row (fits.same alone) in
            record {
              puts = suc rest.puts;
              is =
                  ap (λ (effects : List Effect). after_effects (take (suc n) effects) rows) (setting-alone item items alone)
                  ∙ ap (after_effects (take (suc n) (setting items))) (sym same) ∙ rest.is;
            }
        | inr several ↦
            let rest : Follows items next n = follows items next others n in
            record {
              puts = suc rest.puts;
              is =
                  ap (λ (effects : List Effect). after_effects (take (suc n) effects) rows) (setting-several item items several)
                  ∙ set-first item items rows fits (take n (setting items)) ∙ rest.is;
            }
      ]

  follows-all : (items : List Item) (rows : KeptRows) → All (Fits alone_of rows) items → after_effects (setting items) rows ≡ after_statements (map putting items) rows
  follows-all [] rows are = refl
  follows-all (item ∷ items) rows are =
      let fits : Fits alone_of rows item = All-head (Fits alone_of rows) item items are in
      let next : KeptRows = with_row item.table item.key (Some item.row) rows in
      let rest = follows-all items next (all-put rows item items fits (All-tail (Fits alone_of rows) item items are)) in
      elim (cases_Bool item.alone) [
        | inl alone ↦
            ap (λ (effects : List Effect). after_effects effects rows) (setting-alone item items alone)
            ∙ ap (after_effects (setting items)) (sym (put-again rows item.table item.key item.row (fits.same alone))) ∙ rest
        | inr several ↦
            ap (λ (effects : List Effect). after_effects effects rows) (setting-several item items several)
            ∙ set-first item items rows fits (setting items) ∙ rest
      ]

setting-append : (items others : List Item) → setting (items ++ others) ≡ setting items ++ setting others
setting-append [] others = refl
setting-append (item ∷ items) others = elim (cases_Bool item.alone) [
  | inl alone ↦ rw alone (setting-append items others)
  | inr several ↦ rw several (ap (λ (effects : List Effect). sets item.table item.key item.row ∷ effects) (setting-append items others))
]

-- ---- the script of a snapshot

module _ (plan : Project) (limits : IsInLimits plan) where
  abbrev generator : Generator
  generator = generator_of plan

  as_schema : places (generator_of plan) ≡ range_with_len 0 (length plan.schema.tables)
  as_schema = ap (range_with_len 0) (length-tables plan)

  abbrev tables : List ℕ
  tables = range_with_len 0 (length plan.schema.tables)

  snapshot-effects : (unit : ℕ) → effects_of (snapshot_statements plan unit) ≡ map as_effect (held_statements (generator_of plan) unit)
  unfolding held_statements
  snapshot-effects unit =
      effects-of_content plan unit content.Snapshot tables
      ∙ flat_map-each (λ place. effects_of (statements_at plan unit place content.Snapshot)) (λ place. map as_effect (map (put_of generator unit place) (rows_at generator place unit)))
      (λ place. map-map (λ statement. statement.does) _ (rows_at generator place unit) ∙ sym (map-map as_effect (put_of generator unit place) (rows_at generator place unit))) tables
      ∙ sym (map-flat_map as_effect (λ place. map (put_of generator unit place) (rows_at generator place unit)) tables)
      ∙ ap (λ (all : List ℕ). map as_effect (flat_map (λ place. map (put_of generator unit place) (rows_at generator place unit)) all)) (sym as_schema)

  pub snapshot-safe : (unit count : ℕ) → unit ≤ last_unit plan → NoneDangles (after_effects (take count (effects_of (snapshot_statements plan unit))) no_rows)
  snapshot-safe unit count within =
      subst NoneDangles
      (sym (ap (λ (effects : List Effect). after_effects (take count effects) no_rows) (snapshot-effects unit)
      ∙ ap (λ (effects : List Effect). after_effects effects no_rows) (take-map as_effect count (held_statements generator unit))
      ∙ as-effects (take count (held_statements generator unit)) no_rows))
      (no-reference-of_rows_dangles plan limits unit count within)

  pub snapshot-gives : (unit : ℕ) → unit ≤ last_unit plan → after_effects (effects_of (snapshot_statements plan unit)) no_rows ≡ rows_of_unit (generator_of plan) unit
  snapshot-gives unit within =
      ap (λ (effects : List Effect). after_effects effects no_rows) (snapshot-effects unit)
      ∙ as-effects (held_statements generator unit) no_rows
      ∙ held-give plan limits unit within

  -- ---- a table that has the key alone

  none-alone : (columns : List ColumnLayout) → length columns ≤ 1 → (column_at columns 0).kind ≡ key_kind →
      filter_map (λ (at : ℕ × ColumnLayout). reference_of at.0 at.1.kind) (enumerate_from 0 columns) ≡ []
  none-alone [] few key = refl
  none-alone (column ∷ []) few key = ap (λ (kind : KindLayout). cons_option (reference_of 0 kind) []) key
  none-alone (column ∷ other ∷ columns) few key = absurd (omega (arith, few))

  module _ (place : ℕ) (below : place < length plan.schema.tables) (few : column_count plan place ≤ 1) where
    own : IsTableInLimits (last_unit plan) (table_of plan place)
    own = limits.tables place no_table (place-below plan place below)

    -- what is kept of a row is its key
    key_alone : ℕ → KeptRow
    key_alone ordinal = record {
      refs = [];
      line = field_text generator.delimiter (Some (decimal (key_of generator place (last_unit plan) ordinal))) ++ codes "\n";
    }

    one-joined : (delimiter : ℕ) (text : List ℕ) → join_with_byte delimiter (text ∷ []) ≡ text
    one-joined delimiter text = refl

    kept-alone : (unit ordinal : ℕ) → unit ≤ last_unit plan → ordinal < born_count (table_of plan place).births unit →
        kept_row (generator_of plan) unit place (row_at (generator_of plan) place unit ordinal) ≡ key_alone ordinal
    unfolding line key_alone
    kept-alone unit ordinal within born =
        let row : Row = row_at generator place unit ordinal in
        let one : column_count plan place ≡ 1 = omega (arith, few, own.some_column) in
        let texts : ℕ → List ℕ = λ column. field_text generator.delimiter (field generator unit place row column) in
        let none : references_of (table_of plan place) ≡ [] = none-alone (table_of plan place).columns few own.key_first in
        ap₂ (λ (refs : List RefTo) (bytes : List ℕ). record { refs = refs; line = bytes })
        (ap (λ (references : List Reference). filter_map (reference_to generator row.born) (zip references row.parents)) none)
        (ap (λ (n : ℕ). join_with_byte generator.delimiter (map texts (range_with_len 0 n)) ++ codes "\n") one
        ∙ ap (λ (text : List ℕ). text ++ codes "\n") (one-joined generator.delimiter (texts 0))
        ∙ ap (λ (held : Option (List ℕ)). field_text generator.delimiter held ++ codes "\n")
        (field-key generator unit place ordinal 0 own.key_first own.key_never_null
        ∙ ap (λ (key : ℕ). Some (decimal key)) (sym (key_of-by generator (last_unit plan) unit place ordinal within born))))

  -- ---- the script of a unit

  module _ (unit : ℕ) (within : suc unit ≤ last_unit plan) where
    abbrev before : KeptRows
    before = rows_of_unit (generator_of plan) unit

    abbrev alone_of : ℕ → Bool
    alone_of place = nat_le (column_count plan place) 1

    abbrev item_of : ℕ → Row → Item
    item_of place row = record {
      alone = nat_le (column_count plan place) 1;
      table = place;
      key = row_key (generator_of plan) place row;
      row = kept_row (generator_of plan) (suc unit) place row;
    }

    abbrev items_at : ℕ → List Item
    items_at place = map (item_of place) (updated (generator_of plan) place (suc unit))

    abbrev items : List Item
    items = flat_map items_at (range_with_len 0 (length plan.schema.tables))

    -- what is set in a table
    set-none : (place : ℕ) (rows : List Row) → nat_le (column_count plan place) 1 ≡ true → setting (map (item_of place) rows) ≡ []
    set-none place [] alone = refl
    set-none place (row ∷ rows) alone = rw alone (set-none place rows alone)

    set-some : (place : ℕ) (rows : List Row) → nat_le (column_count plan place) 1 ≡ false →
        setting (map (item_of place) rows) ≡ map (λ (row : Row). sets place (row_key (generator_of plan) place row) (kept_row (generator_of plan) (suc unit) place row)) rows
    set-some place [] several = refl
    set-some place (row ∷ rows) several =
        rw several (ap (λ (effects : List Effect). sets place (row_key generator place row) (kept_row generator (suc unit) place row) ∷ effects) (set-some place rows several))

    set-at : (place : ℕ) → setting (items_at place) ≡ effects_of (statements_at plan (suc unit) place content.Updated)
    set-at place = elim (cases_Bool (nat_le (column_count plan place) 1)) [
      | inl alone ↦ set-none place (updated generator place (suc unit)) alone ∙ rw alone refl
      | inr several ↦
          set-some place (updated generator place (suc unit)) several
          ∙ rw several (sym (map-map (λ statement. statement.does) _ (updated generator place (suc unit))))
    ]

    set-all : (all : List ℕ) → setting (flat_map items_at all) ≡ flat_map (λ place. effects_of (statements_at plan (suc unit) place content.Updated)) all
    set-all [] = refl
    set-all (place ∷ all) = setting-append (items_at place) (flat_map items_at all) ∙ ap₂ (λ (xs ys : List Effect). xs ++ ys) (set-at place) (set-all all)

    put-all : map putting items ≡ flat_map (updates (generator_of plan) (suc unit)) (range_with_len 0 (length plan.schema.tables))
    put-all =
        map-flat_map putting items_at tables
        ∙ flat_map-each (λ place. map putting (items_at place)) (updates generator (suc unit)) (λ place. map-map putting (item_of place) (updated generator place (suc unit))) tables

    -- each row that is updated is there at the unit before
    fits-row : (place : ℕ) → place < length plan.schema.tables → (j : ℕ) → j < first_ordinal (table_of plan place).births (suc unit) →
        is_live (generator_of plan) place (suc unit) j ≡ true → Fits alone_of before (item_of place (row_at (generator_of plan) place (suc unit) j))
    fits-row place below j early alive =
        let births = (table_of plan place).births in
        let all_before : born_count births unit ≡ first_ordinal births (suc unit) = ap (first_ordinal births) (add-one unit) in
        let born : j < born_count births unit = omega (arith, early, all_before) in
        let born_now : j < born_count births (suc unit) = omega (arith, born, born_count-le births unit (suc unit) (omega arith)) in
        let reached : unit ≤ last_unit plan = omega (arith, within) in
        let key_is : row_key generator place (row_at generator place (suc unit) j) ≡ key_of generator place (last_unit plan) j =
        row_key-at generator (last_unit plan) place (suc unit) j within born_now in
        let found : before place (row_key generator place (row_at generator place (suc unit) j)) ≡ Some (kept_row generator unit place (row_at generator place unit j)) =
        ap (before place) key_is ∙ held-found plan limits unit place j reached born (alive-before plan limits unit place j born alive) in
        record {
          table_alone = refl;
          there = subst IsSome (sym found) refl;
          same = λ alone.
              let few : column_count plan place ≤ 1 = leb-true (column_count plan place) 1 alone in
              found ∙ ap Some (kept-alone place below few unit j reached born ∙ sym (kept-alone place below few (suc unit) j within born_now));
        }

    fits-at : (place : ℕ) → place < length plan.schema.tables → All (Fits alone_of before) (items_at place)
    fits-at place below =
        let changed : List ℕ = changing generator place (suc unit) in
        subst (λ (rows : List Row). All (Fits alone_of before) (map (item_of place) rows))
        (sym (updated-changing (last_unit plan) generator (AreSound-accepted plan limits) place (place-below plan place below) (suc unit) within))
        (All-map (Fits alone_of before) (item_of place) (map (row_at generator place (suc unit)) changed)
        (All-map (λ (row : Row). Fits alone_of before (item_of place row)) (row_at generator place (suc unit)) changed
        (λ i d among.
        fits-row place below (get_or changed i d) (changing-early plan limits place below (suc unit) within i d among) (changing-alive plan limits place below (suc unit) within i d among))))

    fits-from : (k from : ℕ) → from + k ≤ length plan.schema.tables → All (Fits alone_of before) (flat_map items_at (range_with_len from k))
    fits-from zero from few = λ i d below. absurd (omega (arith, below))
    fits-from (suc k) from few =
        All-append (Fits alone_of before) (items_at from) (flat_map items_at (range_with_len (from + 1) k)) (fits-at from (omega (arith, few))) (fits-from k (from + 1) (omega (arith, few)))

    fits : All (Fits alone_of before) items
    fits = fits-from (length plan.schema.tables) 0 (omega arith)

    -- the deletions and the insertions do what a store's do
    abbrev puts : List Statement
    puts = flat_map (updates (generator_of plan) (suc unit)) (range_with_len 0 (length plan.schema.tables))

    abbrev others : List Statement
    others =
        flat_map (deletions (generator_of plan) (suc unit)) (reverse (range_with_len 0 (length plan.schema.tables)))
        ++ flat_map (insertions (generator_of plan) (suc unit)) (range_with_len 0 (length plan.schema.tables))

    deleted-effects : (all : List ℕ) → effects_of (statements_of plan (suc unit) (parts_of (content.Deleted ∷ []) all)) ≡ map as_effect (flat_map (deletions (generator_of plan) (suc unit)) all)
    deleted-effects all =
        effects-of_content plan (suc unit) content.Deleted all
        ∙ flat_map-each (λ place. effects_of (statements_at plan (suc unit) place content.Deleted)) (λ place. map as_effect (deletions generator (suc unit) place))
        (λ place. map-map (λ statement. statement.does) _ (deleted generator place (suc unit)) ∙ sym (map-map as_effect (drop_of generator place) (deleted generator place (suc unit)))) all
        ∙ sym (map-flat_map as_effect (deletions generator (suc unit)) all)

    inserted-effects : (all : List ℕ) → effects_of (statements_of plan (suc unit) (parts_of (content.Inserted ∷ []) all)) ≡ map as_effect (flat_map (insertions (generator_of plan) (suc unit)) all)
    inserted-effects all =
        effects-of_content plan (suc unit) content.Inserted all
        ∙ flat_map-each (λ place. effects_of (statements_at plan (suc unit) place content.Inserted)) (λ place. map as_effect (insertions generator (suc unit) place))
        (λ place. map-map (λ statement. statement.does) _ (inserted generator place (suc unit)) ∙ sym (map-map as_effect (put_of generator (suc unit) place) (inserted generator place (suc unit)))) all
        ∙ sym (map-flat_map as_effect (insertions generator (suc unit)) all)

    script-effects : effects_of (unit_statements plan (suc unit)) ≡ setting items ++ map as_effect others
    script-effects =
        let updates_part : List Part = parts_of (content.Updated ∷ []) tables in
        let deletions_part : List Part = parts_of (content.Deleted ∷ []) (reverse tables) in
        let insertions_part : List Part = parts_of (content.Inserted ∷ []) tables in
        let ds : List Statement = flat_map (deletions generator (suc unit)) (reverse tables) in
        let is : List Statement = flat_map (insertions generator (suc unit)) tables in
        effects-append plan (suc unit) (updates_part ++ deletions_part) insertions_part
        ∙ ap (λ (effects : List Effect). effects ++ effects_of (statements_of plan (suc unit) insertions_part)) (effects-append plan (suc unit) updates_part deletions_part)
        ∙ ap (λ (effects : List Effect). (effects ++ effects_of (statements_of plan (suc unit) deletions_part)) ++ effects_of (statements_of plan (suc unit) insertions_part))
        (effects-of_content plan (suc unit) content.Updated tables ∙ sym (set-all tables))
        ∙ ap₂ (λ (xs ys : List Effect). (setting items ++ xs) ++ ys) (deleted-effects (reverse tables)) (inserted-effects tables)
        ∙ append_assoc (setting items) (map as_effect ds) (map as_effect is)
        ∙ ap (λ (effects : List Effect). setting items ++ effects) (sym (map-append as_effect ds is))

    played-parts : played_statements (generator_of plan) (suc unit) ≡ puts ++ others
    played-parts =
        unit_statements-parts plan limits (suc unit)
        ∙ ap (λ (all : List ℕ). flat_map (updates generator (suc unit)) all ++ flat_map (deletions generator (suc unit)) (reverse all) ++ flat_map (insertions generator (suc unit)) all) as_schema
        ∙ append_assoc puts (flat_map (deletions generator (suc unit)) (reverse tables)) (flat_map (insertions generator (suc unit)) tables)

    -- after some statements the rows are those after some of a store's
    record Reaches (n : ℕ) : Type 0 where
      done : ℕ
      is : after_effects (take n (effects_of (unit_statements plan (suc unit)))) before ≡ after_statements (take done (puts ++ others)) before

    -- where the updates aren't all done
    in_puts : (count : ℕ) → (done : ℕ) × (take count puts ≡ take done (puts ++ others))
    in_puts count = elim (cases_lt (length puts) count) [
      | inr few ↦ (count, sym (take-append-le count puts others few))
      | inl more ↦ (length puts, take_all count puts (omega (arith, more)) ∙ sym (take-append-le (length puts) puts others (omega arith) ∙ take_all (length puts) puts (omega arith)))
    ]

    sets-done : after_effects (setting items) before ≡ after_statements puts before
    sets-done = follows-all alone_of items before fits ∙ ap (λ (statements : List Statement). after_statements statements before) put-all

    reaches : (n : ℕ) → Reaches n
    reaches n = elim (cases_lt (length (setting items)) n) [
      | inr few ↦
          let some = follows alone_of items before fits n in
          let front = in_puts some.puts in
          record {
            done = front.0;
            is =
                ap (λ (effects : List Effect). after_effects (take n effects) before) script-effects
                ∙ ap (λ (effects : List Effect). after_effects effects before) (take-append-le n (setting items) (map as_effect others) few)
                ∙ some.is
                ∙ ap (λ (statements : List Statement). after_statements (take some.puts statements) before) put-all
                ∙ ap (λ (statements : List Statement). after_statements statements before) front.1;
          }
      | inl more ↦
          let rest : ℕ = n - length (setting items) in
          let all : n ≡ length (setting items) + rest = omega (arith, more) in
          record {
            done = length puts + rest;
            is =
                ap (λ (effects : List Effect). after_effects (take n effects) before) script-effects
                ∙ ap (λ (k : ℕ). after_effects (take k (setting items ++ map as_effect others)) before) all
                ∙ ap (λ (effects : List Effect). after_effects effects before) (take-append-add (setting items) (map as_effect others) rest ∙ ap (λ (effects : List Effect). setting items ++ effects) (take-map as_effect rest others))
                ∙ fold-append after_effect before (setting items) (map as_effect (take rest others))
                ∙ ap (after_effects (map as_effect (take rest others))) sets-done
                ∙ as-effects (take rest others) (after_statements puts before)
                ∙ sym (fold-append after_statement before puts (take rest others))
                ∙ ap (λ (statements : List Statement). after_statements statements before) (sym (take-append-add puts others rest));
          }
    ]

    -- what a store comes to by all units
    to-next : statements_to (generator_of plan) (suc unit) ≡ statements_to (generator_of plan) unit ++ (puts ++ others)
    to-next =
        let at : suc unit ≡ unit + 1 = omega arith in
        flat_map-range_with_len_more (played_statements generator) (suc unit)
        ∙ ap (λ (n : ℕ). flat_map (played_statements generator) (range_with_len 0 n) ++ played_statements generator (suc unit)) at
        ∙ ap (λ (statements : List Statement). statements_to generator unit ++ statements) played-parts

    pub unit-safe : (count : ℕ) → NoneDangles (after_effects (take count (effects_of (unit_statements plan (suc unit)))) (rows_of_unit (generator_of plan) unit))
    unit-safe count =
        let at = reaches count in
        let all : List Statement = statements_to generator unit in
        subst NoneDangles
        (ap (λ (statements : List Statement). after_statements (take (length all + at.done) statements) no_rows) to-next
        ∙ ap (λ (statements : List Statement). after_statements statements no_rows) (take-append-add all (puts ++ others) at.done)
        ∙ fold-append after_statement no_rows all (take at.done (puts ++ others))
        ∙ ap (after_statements (take at.done (puts ++ others))) (statements-give plan limits unit (omega (arith, within)))
        ∙ sym at.is)
        (no-reference-dangles plan limits (suc unit) (length all + at.done) within)

    pub unit-gives : after_effects (effects_of (unit_statements plan (suc unit))) (rows_of_unit (generator_of plan) unit) ≡ rows_of_unit (generator_of plan) (suc unit)
    unit-gives =
        let all : List Statement = statements_to generator unit in
        ap (λ (effects : List Effect). after_effects effects before) script-effects
        ∙ fold-append after_effect before (setting items) (map as_effect others)
        ∙ ap (after_effects (map as_effect others)) sets-done
        ∙ as-effects others (after_statements puts before)
        ∙ sym (fold-append after_statement before puts others)
        ∙ ap (after_statements (puts ++ others)) (sym (statements-give plan limits unit (omega (arith, within))))
        ∙ sym (fold-append after_statement no_rows all (puts ++ others))
        ∙ ap (λ (statements : List Statement). after_statements statements no_rows) (sym to-next)
        ∙ statements-give plan limits (suc unit) within
