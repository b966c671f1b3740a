-- The packages of a share of a part, one after the other, are the share's statements.
use Rattle.std.proofs.Common.{◌≡◌, ◌<◌, ◌≤◌, ℕ, suc, ◌+◌, ◌-◌, ◌*◌, min, List, ◌++◌, filter, length, refl, ap, ap₂, sym, subst, ◌∙◌, arith}
use Rattle.std.specs.List.{flat_map, range_with_len, slice_range}
use Rattle.std.proofs.lemmas.List.{length-map}
use Rattle.std.proofs.lemmas.List.Concat.{flat_map-append}
use Rattle.std.proofs.lemmas.List.Folds.{flat_map-map}
use Rattle.cohort_sizes.specs.Births.{Births, born_count, cohort_size, first_ordinal}
use Rattle.range_workers.specs.Marks.{texts}
use Rattle.schema_facts.specs.Dictionaries.{Project}
use Rattle.schema_plan.specs.Limits.{IsInLimits}
use Rattle.life_intervals.specs.Generator.{Generator, generator_of, last_unit, table_of}
use Rattle.life_intervals.specs.Intervals.{changing, is_live, living, newborn, row_at}
use Rattle.life_intervals.specs.Rows.{Row}
use Rattle.life_intervals.specs.Streams.{deleted, updated}
use Rattle.life_intervals.proofs.AcceptedLemmas.{AreSound-accepted, place-below}
use Rattle.life_intervals.proofs.Ranges.{filter-range_with_len_all}
use Rattle.life_intervals.proofs.SimulationLemmas.{rows_at-rows_of}
use Rattle.life_intervals.proofs.StreamLemmas.{inserted-newborn, updated-changing}
use Rattle.row_lines.specs.Runs.{RunLinesOf, living_from}
use Rattle.row_lines.proofs.RunTextLemmas.{living_from-more}
use Rattle.update_box.specs.Cuts.{cut_at, package_count}
use Rattle.update_box.specs.Packages.{IsJobOf}
use Rattle.update_box.specs.Parts.{Part, content_count, entries_in}
use Rattle.update_box.specs.UnitLists.{ordinals, table_lists}
use Rattle.update_box.specs.declared.parts.Content.{Content}
use Rattle.update_box.specs.declared.parts.Content.TheVariants as content
use Rattle.update_box.specs.declared.parts.Job.{Job}
use Rattle.update_box.proofs.CutLemmas.{AreJoined, cut-within, cuts-rise, flat_map-range_same, packages-joined}
use Rattle.update_box.proofs.EntryLemmas.{filter-rows, in_range, living-within, part, part-joined, part-map, part-range, part-whole}
use Rattle.update_box.proofs.StepLemmas.{updated-ordinals}
use Rattle.update_box.proofs.StreamTextLemmas.{newborn-alive}
use Rattle.sql_lines.specs.Packages.{Packages, StatedRows, count_of, deleted_rows, inserted_rows, insertions_between, range_text, row_count, text_numbered, updated_rows}
use Rattle.sql_lines.specs.Script.{packages_of_part, part_statements, rows_in, statements_in}
use Rattle.sql_lines.specs.Statements.{deletion, insertion, insertion_of, insertions_of, update, updates_of}

-- ---- texts of ranges join where they meet

abbrev lines_at : Project → ℕ → ℕ → RunLinesOf
lines_at plan table unit = record { plan = plan; table = table; unit = unit }

between-joined : (plan : Project) (table unit a b c : ℕ) → a ≤ b → b ≤ c → insertions_between plan table unit a b ++ insertions_between plan table unit b c ≡ insertions_between plan table unit a c
between-joined plan table unit a b c first second =
    let lines : RunLinesOf = lines_at plan table unit in
    let size : b - a + (c - b) ≡ c - a = omega (arith, first, second) in
    let start : b ≡ a + (b - a) = omega (arith, first) in
    let made : List ℕ → List ℕ = insertions_of plan unit table in
    ap (λ (n : ℕ). insertions_between plan table unit a b ++ made (living_from lines n (c - b))) start
    ∙ sym (flat_map-append (insertion_of plan unit table) (living_from lines a (b - a)) (living_from lines (a + (b - a)) (c - b)))
    ∙ ap made (sym (living_from-more lines a (b - a) (c - b)))
    ∙ ap (λ (n : ℕ). made (living_from lines a n)) size

pub range-joined : (plan : Project) (table : ℕ) (rows : StatedRows) → AreJoined (range_text plan table rows) (row_count rows)
unfolding range_text
range-joined plan table (inserted_rows from to unit) = record {
  join = λ a b c first second within. between-joined plan table unit (from + a) (from + b) (from + c) (omega (arith, first)) (omega (arith, second));
}
range-joined plan table (deleted_rows all) = record { join = λ a b c first second within. part-joined _ all a b c first second }
range-joined plan table (updated_rows all unit) = record { join = λ a b c first second within. part-joined _ all a b c first second }

-- ---- of a share's rows all are the share

between-is : (plan : Project) (table unit from to : ℕ) → insertions_between plan table unit (from + 0) (from + (to - from)) ≡ insertions_of plan unit table (living_from (lines_at plan table unit) from (to - from))
between-is plan table unit from to =
    let start : from + 0 ≡ from = omega arith in
    let size : from + (to - from) - (from + 0) ≡ to - from = omega arith in
    ap (λ (n : ℕ). insertions_of plan unit table (living_from (lines_at plan table unit) n (from + (to - from) - (from + 0)))) start
    ∙ ap (λ (n : ℕ). insertions_of plan unit table (living_from (lines_at plan table unit) from n)) size

module _ (plan : Project) (limits : IsInLimits plan) (place : ℕ) (below : place < length plan.schema.tables) (unit : ℕ) (reached : unit ≤ last_unit plan) where
  abbrev generator : Generator
  generator = generator_of plan

  abbrev row : ℕ → Row
  row = row_at (generator_of plan) place unit

  pub range-whole : (told : Content) (first end : ℕ) → first ≤ end → end ≤ content_count plan unit place told →
      range_text plan place (rows_in plan unit place told first end) 0 (row_count (rows_in plan unit place told first end)) ≡ statements_in plan unit place told first end
  unfolding range_text statements_in
  range-whole content.Snapshot first end ordered within =
      between-is plan place unit first end
      ∙ ap (insertions_of plan unit place) (sym (living-within (is_live generator place unit) (born_count (table_of plan place).births unit) first end ordered within))
      ∙ sym (flat_map-map (insertion plan unit place) row (filter (in_range first end) (living generator place unit)))
      ∙ ap (flat_map (insertion plan unit place)) (sym (filter-rows generator place unit (in_range first end) (living generator place unit)))
      ∙ ap (λ (rows : List Row). flat_map (insertion plan unit place) (filter (λ (r : Row). in_range first end r.ordinal) rows))
      (sym (rows_at-rows_of (last_unit plan) generator place unit (AreSound-accepted plan limits) reached))
  range-whole content.Deleted first end ordered within =
      let rows : List Row = deleted generator place unit in
      ap (flat_map (deletion plan place)) (part-whole (slice_range (ordinals rows) first end) _ refl ∙ part-map (λ (r : Row). r.ordinal) rows first end)
      ∙ flat_map-map (deletion plan place) (λ (r : Row). r.ordinal) (part rows first end)
  range-whole content.Updated first end ordered within =
      let js : List ℕ = changing generator place unit in
      ap (updates_of plan unit place) (part-whole (slice_range (table_lists plan unit place).updated first end) _ refl)
      ∙ ap (λ (all : List ℕ). updates_of plan unit place (part all first end)) (updated-ordinals plan limits place below unit reached)
      ∙ sym (flat_map-map (update plan unit place) row (part js first end))
      ∙ ap (flat_map (update plan unit place)) (sym (part-map row js first end))
      ∙ ap (λ (rows : List Row). flat_map (update plan unit place) (part rows first end))
      (sym (updated-changing (last_unit plan) generator (AreSound-accepted plan limits) place (place-below plan place below) unit reached))
  range-whole content.Inserted first end ordered within =
      let births : Births = (table_of plan place).births in
      let begin : ℕ = first_ordinal births unit in
      let js : List ℕ = newborn generator place unit in
      let size : begin + end - (begin + first) ≡ end - first = omega arith in
      between-is plan place unit (begin + first) (begin + end)
      ∙ ap (λ (n : ℕ). insertions_of plan unit place (living_from (lines_at plan place unit) (begin + first) n)) size
      ∙ ap (insertions_of plan unit place)
      (filter-range_with_len_all (is_live generator place unit) (begin + first) (end - first)
      (λ k inside.
      let there : begin + first + k ≡ begin + (first + k) = omega arith in
      ap (is_live generator place unit) there ∙ newborn-alive plan limits place below unit reached (first + k) (omega (arith, inside, ordered, within)))
      ∙ sym (part-range begin (cohort_size births unit) first end ordered within))
      ∙ sym (flat_map-map (insertion plan unit place) row (part js first end))
      ∙ ap (flat_map (insertion plan unit place)) (sym (part-map row js first end))
      ∙ ap (λ (rows : List Row). flat_map (insertion plan unit place) (part rows first end))
      (sym (inserted-newborn (last_unit plan) generator (AreSound-accepted plan limits) place (place-below plan place below) unit reached))

-- ---- the packages

pub packages-whole : (packages : Packages) → 1 ≤ packages.size →
    texts (text_numbered packages) 0 (count_of packages) ≡ range_text packages.plan packages.table packages.rows 0 (row_count packages.rows)
packages-whole packages some =
    let count : ℕ = row_count packages.rows in
    let f : ℕ → ℕ → List ℕ = range_text packages.plan packages.table packages.rows in
    let all : count_of packages - 0 ≡ package_count packages.size (count - 0) = let whole : count - 0 ≡ count = omega arith in omega (arith, ap (package_count packages.size) whole) in
    ap (λ (n : ℕ). flat_map (text_numbered packages) (range_with_len 0 n)) all
    ∙ flat_map-range_same (text_numbered packages) (λ n. f (0 + n * packages.size) (min count (0 + (n + 1) * packages.size))) 0 (package_count packages.size (count - 0))
    (λ n inside.
    let begin : n * packages.size ≡ 0 + n * packages.size = omega arith in
    let end : (n + 1) * packages.size ≡ 0 + (n + 1) * packages.size = omega arith in
    ap₂ (λ (a b : ℕ). f a (min count b)) begin end)
    ∙ packages-joined f count (range-joined packages.plan packages.table packages.rows) 0 count packages.size some (omega arith) (omega arith)

pub part-packages : (plan : Project) → IsInLimits plan → (job : Job) → IsJobOf plan job → (part : Part) → part.place < length plan.schema.tables →
    texts (text_numbered (packages_of_part plan job part)) 0 (count_of (packages_of_part plan job part)) ≡ part_statements plan job part
part-packages plan limits job is of below =
    let count : ℕ = entries_in plan job.unit of in
    let next : suc job.node ≡ job.node + 1 = omega arith in
    packages-whole (packages_of_part plan job of) is.some_entry
    ∙ range-whole plan limits of.place below job.unit is.unit of.content (cut_at count job.node job.nodes) (cut_at count (job.node + 1) job.nodes)
    (subst (λ (n : ℕ). cut_at count job.node job.nodes ≤ cut_at count n job.nodes) next (cuts-rise count job.node job.nodes (omega (arith, is.node))))
    (cut-within count (job.node + 1) job.nodes (omega (arith, is.node)) (omega (arith, is.node)))

-- ---- how many rows are listed

pub count-deleted : (plan : Project) (unit place : ℕ) → content_count plan unit place content.Deleted ≡ length (table_lists plan unit place).deleted
count-deleted plan unit place = sym (length-map (deleted (generator_of plan) place unit) (λ (row : Row). row.ordinal))

pub count-updated : (plan : Project) (unit place : ℕ) → content_count plan unit place content.Updated ≡ length (table_lists plan unit place).updated
count-updated plan unit place = sym (length-map (updated (generator_of plan) place unit) (λ (row : Row). row.ordinal))
