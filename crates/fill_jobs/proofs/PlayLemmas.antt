-- Units that are played into a store.
use Rattle.std.proofs.Common.{◌≡◌, ◌<◌, ◌≤◌, ℕ, ◌+◌, Bool, true, false, List, [], ◌++◌, Option, Some, None, length, take, get_or, option_map, refl, ap, ap₂, arith, subst, sym, ◌∙◌}
use Rattle.std.specs.List.{range_with_len}
use Rattle.std.proofs.lemmas.List.{get_or-map, length-append, length-map, length-take, take-append-le}
use Rattle.std.proofs.lemmas.List.FromFn.{get_or-range_with_len, length-range_with_len}
use Rattle.std.proofs.Math.Seq.{take-append-add, take-length}
use Rattle.cohort_sizes.specs.Births.{cohort_size, first_ordinal}
use Rattle.schema_facts.specs.Dictionaries.{Project}
use Rattle.schema_plan.specs.Limits.{IsInLimits}
use Rattle.life_intervals.specs.Generator.{generator_of, last_unit, table_of}
use Rattle.life_intervals.specs.Streams.{deleted, updated}
use Rattle.row_keeper.specs.Kept.{KeptRows, Statement, after_statements, no_rows}
use Rattle.keeper_play.specs.Played.{TellsUnit, changes_of}
use Rattle.keeper_play.specs.Statements.{rows_after, statements_to}
use Rattle.row_keeper.specs.Store.{StoppedIn, Store, finish_store, perform_all, start_store}
use Rattle.keeper_play.proofs.PlayedLemmas.{statements-give}
use Rattle.keeper_play.proofs.StoreLemmas.{made-more, made-none}
use Rattle.update_box.specs.TableLists.{no_lists, table_lists_at}
use Rattle.update_box.specs.UnitLists.{UnitLists, table_lists, unit_lists}
use Rattle.fill_jobs.specs.Playing.{AreMade, IsBrokenOff, changes_told, played_store}

-- ---- what is told of a unit

pub later-told : (plan : Project) (unit : ℕ) (lists : UnitLists) → lists ≡ unit_lists plan unit → TellsUnit plan unit (length lists.tables) (λ place. changes_told (table_lists_at lists place))
later-told plan unit lists is =
    subst (λ (of : UnitLists). TellsUnit plan unit (length of.tables) (λ place. changes_told (table_lists_at of place))) (sym is)
    (record { all = omega (arith, many); each = each })
  where
    n : ℕ
    n = length plan.schema.tables

    many : length (unit_lists plan unit).tables ≡ length plan.schema.tables
    many = length-map (range_with_len 0 (length plan.schema.tables)) (table_lists plan unit) ∙ length-range_with_len 0 (length plan.schema.tables)

    each : (place : ℕ) → place < length plan.schema.tables → changes_told (table_lists_at (unit_lists plan unit) place) ≡ changes_of plan unit place
    each place below =
        let inside : place < length (range_with_len 0 (length plan.schema.tables)) = omega (arith, below, length-range_with_len 0 (length plan.schema.tables)) in
        let at : get_or (range_with_len 0 (length plan.schema.tables)) place 0 ≡ place = get_or-range_with_len 0 (length plan.schema.tables) place 0 below ∙ omega arith in
        ap changes_told (get_or-map (table_lists plan unit) (range_with_len 0 (length plan.schema.tables)) place 0 no_lists inside ∙ ap (table_lists plan unit) at)

pub first-told : (plan : Project) → TellsUnit plan 0 (length plan.schema.tables)
    (λ place. record { deleted = []; updated = []; inserted = record { first = first_ordinal (table_of plan place).births 0; size = cohort_size (table_of plan place).births 0 } })
unfolding deleted updated
first-told plan = record { all = omega arith; each = λ place below. refl }

-- ---- statements that are made

pub none-made : (statements : List Statement) (before now : Store) → now ≡ before → AreMade statements before now
none-made statements before now same = record { count = 0; within = omega arith; made = same ∙ made-none before }

pub some-made : (statements : List Statement) (before now : Store) → StoppedIn statements before now → AreMade statements before now
some-made statements before now stopped = record { count = stopped.count; within = omega (arith, stopped.within); made = stopped.made }

pub all-made : (statements : List Statement) (before now : Store) → now ≡ perform_all statements before → AreMade statements before now
all-made statements before now made =
    record { count = length statements; within = omega arith; made = made ∙ ap (λ (some : List Statement). perform_all some before) (sym (take-length statements)) }

-- some after others
pub made-behind : (all xs ys zs : List Statement) (before between now : Store) → all ≡ xs ++ (ys ++ zs) → between ≡ perform_all xs before → AreMade ys between now → AreMade all before now
made-behind all xs ys zs before between now parts first last =
    record {
      count = length xs + last.count;
      within = omega (arith, last.within, ap length parts, length-append xs (ys ++ zs), length-append ys zs);
      made =
          made-more xs (take last.count ys) before between now first last.made
          ∙ ap (λ (some : List Statement). perform_all some before)
          (ap (λ (some : List Statement). xs ++ some) (sym (take-append-le last.count ys zs last.within))
          ∙ sym (take-append-add xs (ys ++ zs) last.count)
          ∙ ap (take (length xs + last.count)) (sym parts));
    }

-- ---- a store that is started

rows-started : (statements : List Statement) (rows : Option KeptRows) →
    option_map (after_statements statements) (option_map (λ (r : KeptRows). no_rows) rows) ≡ option_map (λ (r : KeptRows). after_statements statements no_rows) rows
rows-started statements None = refl
rows-started statements (Some rows) = refl

-- and broken off
pub broken-off : (plan : Project) (unit : ℕ) (name : List ℕ) (before now : Store) → AreMade (statements_to (generator_of plan) unit) (start_store name before) now → IsBrokenOff plan unit name before now
broken-off plan unit name before now are =
    let all : List Statement = statements_to (generator_of plan) unit in
    let some : List Statement = take are.count all in
    let count : now.done ≡ are.count = ap (λ (s : Store). s.done) are.made ∙ omega (arith, length-take are.count all, are.within) in
    let rows : now.rows ≡ option_map (λ (r : KeptRows). rows_after (generator_of plan) unit are.count) before.rows = ap (λ (s : Store). s.rows) are.made ∙ rows-started some before.rows in
    record {
      within = omega (arith, count, are.within);
      made =
          let shape : now ≡ record { rows = now.rows; name = option_map (λ (last : List ℕ). name) before.name; is_open = true; done = now.done } =
          ap₂ (λ (n : Option (List ℕ)) (o : Bool). record { rows = now.rows; name = n; is_open = o; done = now.done }) (ap (λ (s : Store). s.name) are.made) (ap (λ (s : Store). s.is_open) are.made) in
          shape
          ∙ ap (λ (r : Option KeptRows). record { rows = r; name = option_map (λ (last : List ℕ). name) before.name; is_open = true; done = now.done })
          (rows ∙ ap (λ (n : ℕ). option_map (λ (r : KeptRows). rows_after (generator_of plan) unit n) before.rows) (sym count));
    }

-- or finished
pub finished : (plan : Project) (unit : ℕ) (name : List ℕ) (before now : Store) → IsInLimits plan → unit ≤ last_unit plan →
    now ≡ finish_store (perform_all (statements_to (generator_of plan) unit) (start_store name before)) → now ≡ played_store plan unit name before
finished plan unit name before now limits within made =
    let all : List Statement = statements_to (generator_of plan) unit in
    let count : 0 + length all ≡ length all = omega arith in
    made
    ∙ ap₂ (λ (rows : Option KeptRows) (n : ℕ). record { rows = rows; name = option_map (λ (last : List ℕ). name) before.name; is_open = false; done = n })
    (rows-started all before.rows ∙ ap (λ (rows : KeptRows). option_map (λ (r : KeptRows). rows) before.rows) (statements-give plan limits unit within)) count

-- a store that is started stays open while statements are made
pub still-open : (plan : Project) (unit : ℕ) (name : List ℕ) (before now : Store) → AreMade (statements_to (generator_of plan) unit) (start_store name before) now → now.is_open ≡ true
still-open plan unit name before now are = ap (λ (s : Store). s.is_open) are.made
