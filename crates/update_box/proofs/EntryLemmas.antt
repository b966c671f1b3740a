-- What is told of a table's entries from a position up to another, as the code makes it.
use Rattle.std.proofs.Common.{◌≡◌, ℕ, zero, suc, ◌+◌, ◌-◌, ◌<◌, ◌≤◌, ◌==◌, Bool, true, false, ◌&&◌, List, [], ◌∷◌, ◌++◌, length, filter, map, take, drop, Option, Some, None, eq-eqb, inl, inr, refl, ap, arith, sym, ◌∙◌, append-nil}
use Rattle.std.specs.Prelude.{if◌then◌else◌, nat_le, nat_lt}
use Rattle.std.specs.List.{flat_map, range_with_len}
use Rattle.std.proofs.Math.Seq.{take-add}
use Rattle.std.proofs.lemmas.Bool.{cases_Bool, le-leb, le-ltb, lt-leb, lt-ltb}
use Rattle.std.proofs.lemmas.List.{drop-map, length-map, take-map}
use Rattle.std.proofs.lemmas.List.Concat.{flat_map-append}
use Rattle.std.proofs.lemmas.List.Elements.{filter-append}
use Rattle.std.proofs.lemmas.List.FromFn.{get_or-map-range_with_len, length-map-range_with_len, length-range_with_len}
use Rattle.std.proofs.lemmas.List.Folds.{flat_map-map}
use Rattle.cohort_sizes.specs.Births.{Births, born_count, cohort_size, first_ordinal}
use Rattle.cohort_sizes.proofs.CohortLemmas.{born_count-le, cohort-within}
use Rattle.schema_facts.specs.Dictionaries.{Project}
use Rattle.schema_plan.specs.Limits.{IsInLimits}
use Rattle.life_intervals.specs.Generator.{Generator, generator_of, last_unit, table_of}
use Rattle.life_intervals.specs.Intervals.{change_unit, changing, death, is_at, is_live, living, newborn, row_at}
use Rattle.life_intervals.specs.Rows.{Row}
use Rattle.life_intervals.specs.Streams.{deleted, inserted, updated}
use Rattle.life_intervals.proofs.AcceptedLemmas.{AreSound-accepted, place-below}
use Rattle.life_intervals.proofs.Ranges.{filter-range_with_len_all, range_with_len-add}
use Rattle.life_intervals.proofs.SimulationLemmas.{rows_at-rows_of}
use Rattle.life_intervals.proofs.StreamLemmas.{inserted-newborn, updated-changing}
use Rattle.row_lines.specs.Lines.{key_line_of, line, line_of}
use Rattle.row_lines.specs.Runs.{RunLinesOf, keys_text, listed_text, run_text}
use Rattle.row_lines.proofs.ListLemmas.{filter-none}
use Rattle.row_lines.proofs.RunTextLemmas.{run_text-more, table_text-run}
use Rattle.update_box.specs.Kept.{lines_at}
use Rattle.update_box.specs.Parts.{content_count, content_text, range_text}
use Rattle.update_box.specs.Prepared.{AreChosen, IsAmong, Prepared}
use Rattle.update_box.specs.TableLists.{HoldLists, chosen_lists, is_chosen, lists_if_chosen, no_lists}
use Rattle.update_box.specs.UnitLists.{TableLists, ordinals, table_lists}
use Rattle.update_box.specs.declared.parts.Content.{Content}
use Rattle.update_box.specs.declared.parts.Content.TheVariants as content
use Rattle.update_box.proofs.CutLemmas.{AreJoined}
use Rattle.update_box.proofs.RangeLemmas.{filter-filter, filter-range_same}
use Rattle.update_box.proofs.StepLemmas.{deleted-ordinals, updated-ordinals}
use Rattle.update_box.proofs.StreamTextLemmas.{newborn-alive}

-- ---- of a range, what lies in another

abbrev pub in_range : ℕ → ℕ → ℕ → Bool
in_range first end j = nat_le first j && nat_lt j end

in_range-before : (first end j : ℕ) → j < first → in_range first end j ≡ false
in_range-before first end j before = ap (λ (test : Bool). test && nat_lt j end) (lt-leb first j before)

in_range-inside : (first end j : ℕ) → first ≤ j → j < end → in_range first end j ≡ true
in_range-inside first end j from below = ap (λ (test : Bool). test && nat_lt j end) (le-leb first j from) ∙ lt-ltb j end below

in_range-behind : (first end j : ℕ) → first ≤ j → end ≤ j → in_range first end j ≡ false
in_range-behind first end j from past = ap (λ (test : Bool). test && nat_lt j end) (le-leb first j from) ∙ le-ltb j end past

range-within : (born first end : ℕ) → first ≤ end → end ≤ born → filter (in_range first end) (range_with_len 0 born) ≡ range_with_len first (end - first)
range-within born first end ordered within =
    let size : ℕ = end - first in
    let more : ℕ = born - end in
    let all : born ≡ first + (size + more) = omega (arith, ordered, within) in
    let reached : first + size ≡ end = omega (arith, ordered) in
    let start : 0 + first ≡ first = omega arith in
    let inside : ℕ → Bool = in_range first end in
    ap (λ (n : ℕ). filter inside (range_with_len 0 n)) all
    ∙ ap (filter inside) (range_with_len-add 0 first (size + more))
    ∙ filter-append inside (range_with_len 0 first) (range_with_len (0 + first) (size + more))
    ∙ ap (λ (js : List ℕ). js ++ filter inside (range_with_len (0 + first) (size + more))) (filter-none inside 0 first (λ k below. in_range-before first end (0 + k) (omega (arith, below))))
    ∙ ap (λ (a : ℕ). filter inside (range_with_len a (size + more))) start
    ∙ ap (filter inside) (range_with_len-add first size more)
    ∙ filter-append inside (range_with_len first size) (range_with_len (first + size) more)
    ∙ ap (λ (js : List ℕ). js ++ filter inside (range_with_len (first + size) more))
    (filter-range_with_len_all inside first size (λ k below. in_range-inside first end (first + k) (omega arith) (omega (arith, below))))
    ∙ ap (λ (js : List ℕ). range_with_len first size ++ js)
    (filter-none inside (first + size) more (λ k below. in_range-behind first end (first + size + k) (omega arith) (omega (arith, reached))))
    ∙ append-nil (range_with_len first size)

and-comm : (p q : Bool) → (p && q) ≡ (q && p)
and-comm true true = refl
and-comm true false = refl
and-comm false true = refl
and-comm false false = refl

-- of the living, those in a range
pub living-within : (live : ℕ → Bool) (born first end : ℕ) → first ≤ end → end ≤ born →
    filter (in_range first end) (filter live (range_with_len 0 born)) ≡ filter live (range_with_len first (end - first))
living-within live born first end ordered within =
    filter-filter live (in_range first end) (range_with_len 0 born)
    ∙ filter-range_same (λ j. live j && in_range first end j) (λ j. in_range first end j && live j) 0 born (λ j from below. and-comm (live j) (in_range first end j))
    ∙ sym (filter-filter (in_range first end) live (range_with_len 0 born))
    ∙ ap (filter live) (range-within born first end ordered within)

pub filter-rows : (generator : Generator) (place unit : ℕ) (p : ℕ → Bool) (xs : List ℕ) →
    filter (λ (row : Row). p row.ordinal) (map (row_at generator place unit) xs) ≡ map (row_at generator place unit) (filter p xs)
filter-rows generator place unit p [] = refl
filter-rows generator place unit p (x ∷ xs) = elim (cases_Bool (p x)) [
  | inl passes ↦ rw passes (ap (λ (rows : List Row). row_at generator place unit x ∷ rows) (filter-rows generator place unit p xs))
  | inr fails ↦ rw fails (filter-rows generator place unit p xs)
]

-- ---- parts of a list

abbrev pub part : {A : Type 0} → List A → ℕ → ℕ → List A
part xs first end = take (end - first) (drop first xs)

pub part-map : {A B : Type 0} (f : A → B) (xs : List A) (first end : ℕ) → part (map f xs) first end ≡ map f (part xs first end)
part-map f xs first end = ap (take (end - first)) (drop-map f first xs) ∙ take-map f (end - first) (drop first xs)

drop-none : {A : Type 0} (n : ℕ) → drop n (let none : List A = [] in none) ≡ []
drop-none zero = refl
drop-none (suc n) = refl

drop-again : {A : Type 0} (xs : List A) (m n : ℕ) → drop n (drop m xs) ≡ drop (m + n) xs
drop-again xs zero n = let all : n ≡ 0 + n = omega arith in ap (λ (k : ℕ). drop k xs) all
drop-again [] (suc m) n = let all : suc (m + n) ≡ suc m + n = omega arith in drop-none n ∙ ap (λ (k : ℕ). drop k []) all
drop-again (x ∷ xs) (suc m) n = let all : suc (m + n) ≡ suc m + n = omega arith in drop-again xs m n ∙ ap (λ (k : ℕ). drop k (x ∷ xs)) all

part-join : {A : Type 0} (xs : List A) (a b c : ℕ) → a ≤ b → b ≤ c → part xs a b ++ part xs b c ≡ part xs a c
part-join xs a b c first second =
    let whole : b - a + (c - b) ≡ c - a = omega (arith, first, second) in
    let reached : b ≡ a + (b - a) = omega (arith, first) in
    ap (λ (k : ℕ). part xs a b ++ take (c - b) (drop k xs)) reached
    ∙ ap (λ (rest : List _). part xs a b ++ take (c - b) rest) (sym (drop-again xs a (b - a)))
    ∙ sym (take-add (b - a) (c - b) (drop a xs))
    ∙ ap (λ (n : ℕ). take n (drop a xs)) whole

pub part-joined : {A : Type 0} (f : A → List ℕ) (xs : List A) (a b c : ℕ) → a ≤ b → b ≤ c →
    flat_map f (part xs a b) ++ flat_map f (part xs b c) ≡ flat_map f (part xs a c)
part-joined f xs a b c first second = sym (flat_map-append f (part xs a b) (part xs b c)) ∙ ap (flat_map f) (part-join xs a b c first second)

take-all : {A : Type 0} (xs : List A) → take (length xs) xs ≡ xs
take-all [] = refl
take-all (x ∷ xs) = ap (λ (ys : List _). x ∷ ys) (take-all xs)

pub part-whole : {A : Type 0} (xs : List A) (n : ℕ) → n ≡ length xs → part xs 0 n ≡ xs
part-whole xs n all = let size : n - 0 ≡ length xs = omega (arith, all) in ap (λ (k : ℕ). take k xs) size ∙ take-all xs

pub part-range : (a size first end : ℕ) → first ≤ end → end ≤ size → part (range_with_len a size) first end ≡ range_with_len (a + first) (end - first)
part-range a size zero end ordered within =
    let start : a ≡ a + 0 = omega arith in
    front a size (end - 0) (omega (arith, within)) ∙ ap (λ (b : ℕ). range_with_len b (end - 0)) start
  where
    front : (a size n : ℕ) → n ≤ size → take n (range_with_len a size) ≡ range_with_len a n
    front a size zero within = refl
    front a zero (suc n) within = absurd (omega (arith, within))
    front a (suc size) (suc n) within = ap (λ (js : List ℕ). a ∷ js) (front (a + 1) size n (omega (arith, within)))
part-range a zero (suc first) end ordered within = absurd (omega (arith, ordered, within))
part-range a (suc size) (suc first) zero ordered within = absurd (omega (arith, ordered))
part-range a (suc size) (suc first) (suc end) ordered within =
    let less : suc end - suc first ≡ end - first = omega arith in
    let start : a + 1 + first ≡ a + suc first = omega arith in
    ap (λ (n : ℕ). take n (drop first (range_with_len (a + 1) size))) less
    ∙ part-range (a + 1) size first end (omega (arith, ordered)) (omega (arith, within))
    ∙ ap (λ (b : ℕ). range_with_len b (end - first)) start
    ∙ ap (range_with_len (a + suc first)) (sym less)

-- ---- what the code puts for the entries from a position up to another

pub range_text-snapshot : (plan : Project) → IsInLimits plan → (place unit : ℕ) → unit ≤ last_unit plan → (first end : ℕ) → first ≤ end → end ≤ born_count (table_of plan place).births unit →
    range_text plan unit place content.Snapshot first end ≡ run_text (lines_at plan unit place) first (end - first)
unfolding range_text
range_text-snapshot plan limits place unit reached first end ordered within =
    let generator : Generator = generator_of plan in
    ap (λ (rows : List Row). flat_map (line generator unit place) (filter (λ (row : Row). in_range first end row.ordinal) rows)) (rows_at-rows_of (last_unit plan) generator place unit (AreSound-accepted plan limits) reached)
    ∙ ap (flat_map (line generator unit place)) (filter-rows generator place unit (in_range first end) (living generator place unit))
    ∙ flat_map-map (line generator unit place) (row_at generator place unit) (filter (in_range first end) (living generator place unit))
    ∙ ap (flat_map (line_of generator unit place)) (living-within (is_live generator place unit) (born_count (table_of plan place).births unit) first end ordered within)

pub range_text-deleted : (plan : Project) (place unit first end : ℕ) →
    range_text plan unit place content.Deleted first end ≡ keys_text plan place (take (end - first) (drop first (ordinals (deleted (generator_of plan) place unit))))
unfolding range_text
range_text-deleted plan place unit first end =
    let rows : List Row = deleted (generator_of plan) place unit in
    let key : ℕ → List ℕ = key_line_of (generator_of plan) (last_unit plan) place in
    sym (flat_map-map key (λ (row : Row). row.ordinal) (part rows first end)) ∙ ap (flat_map key) (sym (part-map (λ (row : Row). row.ordinal) rows first end))

pub range_text-updated : (plan : Project) → IsInLimits plan → (place : ℕ) → place < length plan.schema.tables → (unit : ℕ) → unit ≤ last_unit plan → (first end : ℕ) →
    range_text plan unit place content.Updated first end ≡ listed_text (lines_at plan unit place) (take (end - first) (drop first (ordinals (updated (generator_of plan) place unit))))
unfolding range_text
range_text-updated plan limits place below unit reached first end =
    let generator : Generator = generator_of plan in
    let js : List ℕ = changing generator place unit in
    ap (λ (rows : List Row). flat_map (line generator unit place) (part rows first end)) (updated-changing (last_unit plan) generator (AreSound-accepted plan limits) place (place-below plan place below) unit reached)
    ∙ ap (flat_map (line generator unit place)) (part-map (row_at generator place unit) js first end)
    ∙ flat_map-map (line generator unit place) (row_at generator place unit) (part js first end)
    ∙ ap (λ (all : List ℕ). flat_map (line_of generator unit place) (part all first end)) (sym (updated-ordinals plan limits place below unit reached))

pub range_text-inserted : (plan : Project) → IsInLimits plan → (place : ℕ) → place < length plan.schema.tables → (unit : ℕ) → unit ≤ last_unit plan → (first end : ℕ) → first ≤ end → end ≤ cohort_size (table_of plan place).births unit →
    range_text plan unit place content.Inserted first end ≡ run_text (lines_at plan unit place) (first_ordinal (table_of plan place).births unit + first) (end - first)
unfolding range_text
range_text-inserted plan limits place below unit reached first end ordered within =
    let generator : Generator = generator_of plan in
    let births : Births = (table_of plan place).births in
    let begin : ℕ = first_ordinal births unit in
    let js : List ℕ = newborn generator place unit in
    ap (λ (rows : List Row). flat_map (line generator unit place) (part rows first end)) (inserted-newborn (last_unit plan) generator (AreSound-accepted plan limits) place (place-below plan place below) unit reached)
    ∙ ap (flat_map (line generator unit place)) (part-map (row_at generator place unit) js first end)
    ∙ flat_map-map (line generator unit place) (row_at generator place unit) (part js first end)
    ∙ ap (flat_map (line_of generator unit place))
    (part-range begin (cohort_size births unit) first end ordered within
    ∙ sym (filter-range_with_len_all (is_live generator place unit) (begin + first) (end - first)
    (λ k inside.
    let there : begin + first + k ≡ begin + (first + k) = omega arith in
    ap (is_live generator place unit) there ∙ newborn-alive plan limits place below unit reached (first + k) (omega (arith, inside, ordered, within)))))

-- ---- texts of ranges join where they meet, and all are the whole

pub range_text-joined : (plan : Project) → IsInLimits plan → (place unit : ℕ) → unit ≤ last_unit plan → (told : Content) → AreJoined (range_text plan unit place told) (content_count plan unit place told)
unfolding range_text
range_text-joined plan limits place unit reached content.Snapshot = record {
  join = λ a b c first second within.
      let lines : RunLinesOf = lines_at plan unit place in
      let size : b - a + (c - b) ≡ c - a = omega (arith, first, second) in
      let start : b ≡ a + (b - a) = omega (arith, first) in
      ap (λ (text : List ℕ). text ++ range_text plan unit place content.Snapshot b c) (range_text-snapshot plan limits place unit reached a b first (omega (arith, second, within)))
      ∙ ap (λ (text : List ℕ). run_text lines a (b - a) ++ text) (range_text-snapshot plan limits place unit reached b c second within ∙ ap (λ (n : ℕ). run_text lines n (c - b)) start)
      ∙ sym (run_text-more lines a (b - a) (c - b))
      ∙ ap (run_text lines a) size
      ∙ sym (range_text-snapshot plan limits place unit reached a c (omega (arith, first, second)) within);
}
range_text-joined plan limits place unit reached content.Deleted = record { join = λ a b c first second within. part-joined _ (deleted (generator_of plan) place unit) a b c first second }
range_text-joined plan limits place unit reached content.Updated = record { join = λ a b c first second within. part-joined _ (updated (generator_of plan) place unit) a b c first second }
range_text-joined plan limits place unit reached content.Inserted = record { join = λ a b c first second within. part-joined _ (inserted (generator_of plan) place unit) a b c first second }

pub range_text-whole : (plan : Project) → IsInLimits plan → (place : ℕ) → place < length plan.schema.tables → (unit : ℕ) → unit ≤ last_unit plan → (told : Content) →
    range_text plan unit place told 0 (content_count plan unit place told) ≡ content_text plan unit place told
unfolding range_text
range_text-whole plan limits place below unit reached content.Snapshot =
    let lines : RunLinesOf = lines_at plan unit place in
    let born : ℕ = born_count (table_of plan place).births unit in
    let all : born - 0 ≡ born = omega arith in
    range_text-snapshot plan limits place unit reached 0 born (omega arith) (omega arith) ∙ ap (run_text lines 0) all ∙ sym (table_text-run (last_unit plan) lines (AreSound-accepted plan limits) reached)
range_text-whole plan limits place below unit reached content.Deleted = ap (flat_map _) (part-whole (deleted (generator_of plan) place unit) _ refl)
range_text-whole plan limits place below unit reached content.Updated = ap (flat_map _) (part-whole (updated (generator_of plan) place unit) _ refl)
range_text-whole plan limits place below unit reached content.Inserted =
    let generator : Generator = generator_of plan in
    let births : Births = (table_of plan place).births in
    ap (flat_map _)
    (part-whole (inserted generator place unit) (cohort_size births unit)
    (sym (ap (λ (rows : List Row). length rows) (inserted-newborn (last_unit plan) generator (AreSound-accepted plan limits) place (place-below plan place below) unit reached)
    ∙ length-map (newborn generator place unit) (row_at generator place unit)
    ∙ length-range_with_len (first_ordinal births unit) (cohort_size births unit))))

-- ---- how many entries there are

filter-few : {A : Type 0} (p : A → Bool) (xs : List A) → length (filter p xs) ≤ length xs
filter-few p [] = omega arith
filter-few p (x ∷ xs) = elim (cases_Bool (p x)) [
  | inl passes ↦ rw passes (omega (arith, filter-few p xs))
  | inr fails ↦ rw fails (omega (arith, filter-few p xs))
]

pub listed-count : (rows : List Row) (js : List ℕ) → js ≡ ordinals rows → length js ≡ length rows
listed-count rows js are = ap (λ (all : List ℕ). length all) are ∙ length-map rows (λ (row : Row). row.ordinal)

-- no more than rows
pub content_count-few : (plan : Project) → IsInLimits plan → (place : ℕ) → place < length plan.schema.tables → (unit : ℕ) → unit ≤ last_unit plan → (told : Content) →
    content_count plan unit place told ≤ born_count (table_of plan place).births (last_unit plan)
content_count-few plan limits place below unit reached content.Snapshot = born_count-le (table_of plan place).births unit (last_unit plan) reached
content_count-few plan limits place below unit reached content.Deleted =
    let births : Births = (table_of plan place).births in
    let js : List ℕ = range_with_len 0 (first_ordinal births unit) in
    omega (
      arith,
      ap (λ (all : List ℕ). length all) (deleted-ordinals plan limits place below unit reached),
      length-map (deleted (generator_of plan) place unit) (λ (row : Row). row.ordinal),
      filter-few (λ ordinal. is_at (death (generator_of plan) place unit ordinal) unit) js,
      length-range_with_len 0 (first_ordinal births unit),
      cohort-within births unit (last_unit plan) reached,
    )
content_count-few plan limits place below unit reached content.Updated =
    let births : Births = (table_of plan place).births in
    let js : List ℕ = range_with_len 0 (first_ordinal births unit) in
    omega (
      arith,
      ap (λ (all : List ℕ). length all) (updated-ordinals plan limits place below unit reached),
      length-map (updated (generator_of plan) place unit) (λ (row : Row). row.ordinal),
      filter-few (λ ordinal. is_live (generator_of plan) place unit ordinal && change_unit (generator_of plan) place unit ordinal == unit) js,
      length-range_with_len 0 (first_ordinal births unit),
      cohort-within births unit (last_unit plan) reached,
    )
content_count-few plan limits place below unit reached content.Inserted = omega (arith, cohort-within (table_of plan place).births unit (last_unit plan) reached)

-- ---- the lists of chosen tables

only_one : (a n one : ℕ) → range_with_len a n ≡ one ∷ [] → (n ≡ 1) × (a ≡ one)
only_one a zero one same = absurd (cc)
only_one a (suc zero) one same = (refl, cc)
only_one a (suc (suc n)) one same = absurd (cc)

-- each table that is prepared is chosen
pub chosen_places-among : (plan : Project) (table : Option ℕ) (tables : Prepared) (place : ℕ) → AreChosen plan table tables → IsAmong tables place → is_chosen table place ≡ true
chosen_places-among plan None tables place are among = refl
chosen_places-among plan (Some one) tables place are among =
    let only = only_one tables.from (length tables.lines) one are in eq-eqb place one (omega (arith, only.0, only.1, among.begun, among.not_ended))

-- the lists of chosen tables are those that stand at their places
pub chosen_places-held : (plan : Project) (unit : ℕ) (table : Option ℕ) → HoldLists plan unit table (chosen_lists plan unit table)
chosen_places-held plan unit table = record {
  each = λ place below is.
      let lists : ℕ → TableLists = lists_if_chosen plan unit table in
      let there : 0 + place ≡ place = omega arith in
      record {
        there = omega (arith, below, length-map-range_with_len lists 0 (length plan.schema.tables));
        are = get_or-map-range_with_len lists 0 (length plan.schema.tables) place place no_lists below there ∙ ap (λ (chosen : Bool). if chosen then table_lists plan unit place else no_lists) is;
      };
}
