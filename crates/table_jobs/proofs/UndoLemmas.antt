-- The undo texts of a job's tables, and their files.
use Rattle.std.proofs.Common.{◌≡◌, ◌<◌, ◌≤◌, ◌^◌, ℕ, zero, suc, ◌+◌, ◌-◌, ◌*◌, List, [], ◌∷◌, ◌++◌, Vec, Global, Option, get_or, length, map, ap, ap₂, arith, refl, sym, ◌∙◌}
use Rattle.std.specs.List.{flat_map, range_with_len, sum_by}
use Rattle.std.proofs.lemmas.List.FromFn.{get_or-range_with_len, length-range_with_len}
use Rattle.std.proofs.lemmas.List.Sums.{sum_by-cons}
use Rattle.pd_outside.specs.Files.{File}
use Rattle.cohort_sizes.proofs.CohortLemmas.{cohort-within}
use Rattle.schema_facts.specs.Dictionaries.{Project}
use Rattle.schema_plan.specs.Limits.{IsInLimits}
use Rattle.life_intervals.specs.Generator.{last_unit, table_of}
use Rattle.life_intervals.proofs.CohortParentLemmas.{row_limit}
use Rattle.undo_streams.specs.Packages.{AreChanges, Packages, count_of, text_numbered}
use Rattle.undo_streams.specs.Places.{places_of}
use Rattle.undo_streams.specs.UndoText.{undo_text}
use Rattle.undo_streams.specs.declared.changes.Changes.{Changes}
use Rattle.undo_streams.proofs.PackageLemmas.{packages-few, packages-whole}
use Rattle.update_box.specs.Packages.{chosen_places}
use Rattle.update_box.specs.Prepared.{AreChosen, IsAmong, Prepared}
use Rattle.update_box.specs.TableLists.{HasLists, table_lists_at}
use Rattle.update_box.specs.UnitLists.{TableLists, UnitLists}
use Rattle.update_box.specs.declared.parts.Job.{Job}
use Rattle.run_jobs.specs.Joined.{joined_text, part_files, whole_text}
use Rattle.run_jobs.specs.modes.Undo.{undo_file, undo_packages, undo_path}

-- ---- files

-- the packages of a table's undo text, together
whole-undo : (plan : Project) (job : Job) → 1 ≤ job.package → (place : ℕ) → whole_text count_of text_numbered (undo_packages plan job place) ≡ undo_text plan job.unit place
whole-undo plan job some place =
    let packages : Packages = undo_packages plan job place in
    let all : count_of packages - 0 ≡ count_of packages = omega arith in
    ap (λ (n : ℕ). flat_map (text_numbered packages) (range_with_len 0 n)) all ∙ packages-whole packages some

pub files-undo : (plan : Project) (job : Job) → 1 ≤ job.package → (directory places : List ℕ) →
    part_files count_of text_numbered (map (undo_path plan job.unit directory) places) (map (undo_packages plan job) places) ≡ map (undo_file plan job.unit directory) places
files-undo plan job some directory [] = refl
files-undo plan job some directory (place ∷ places) =
    ap₂ (λ (file : File) (files : List File). file ∷ files)
    (ap (λ (bytes : List ℕ). record { name = undo_path plan job.unit directory place; bytes = bytes }) (whole-undo plan job some place))
    (files-undo plan job some directory places)

pub joined-undo : (plan : Project) (job : Job) → 1 ≤ job.package → (places : List ℕ) →
    joined_text count_of text_numbered (map (undo_packages plan job) places) ≡ flat_map (undo_text plan job.unit) places
joined-undo plan job some [] = refl
joined-undo plan job some (place ∷ places) = ap₂ (λ (x y : List ℕ). x ++ y) (whole-undo plan job some place) (joined-undo plan job some places)

-- ---- counts

-- all packages of tables of a plan are few
pub count-undo : (plan : Project) → IsInLimits plan → (job : Job) → 1 ≤ job.unit → job.unit ≤ last_unit plan → 1 ≤ job.package → (from count : ℕ) → from + count ≤ length plan.schema.tables →
    sum_by count_of (map (undo_packages plan job) (range_with_len from count)) ≤ count * 2 ^ 42
count-undo plan limits job later reached some from zero within = omega arith
count-undo plan limits job later reached some from (suc count) within =
    omega (
      arith,
      sum_by-cons count_of (undo_packages plan job from) (map (undo_packages plan job) (range_with_len (from + 1) count)),
      packages-few (undo_packages plan job from) limits (omega (arith, within)) later reached some,
      count-undo plan limits job later reached some (from + 1) count (omega (arith, within)),
    )

-- ---- what a unit changes

-- the lists of a table, as its packer takes them
pub changes-lists : (plan : Project) → IsInLimits plan → (unit table : ℕ) → unit ≤ last_unit plan → table < length plan.schema.tables → (lists : UnitLists) → HasLists plan unit lists table → (changes : Changes) →
    changes.deleted.now ≡ (table_lists_at lists table).deleted → changes.updated.now ≡ (table_lists_at lists table).updated → changes.inserted ≡ (table_lists_at lists table).inserted →
    changes.places.now ≡ places_of plan table (unit - 1) (table_lists_at lists table).deleted → AreChanges plan table unit changes
changes-lists plan limits unit table reached there lists has changes deleted updated inserted places =
    let births = (table_of plan table).births in
    record {
      deleted = deleted ∙ ap (λ (l : TableLists). l.deleted) has.are;
      updated = updated ∙ ap (λ (l : TableLists). l.updated) has.are;
      inserted = record {
        first = ap (λ cohort. cohort.first) (inserted ∙ ap (λ (l : TableLists). l.inserted) has.are);
        size = ap (λ cohort. cohort.size) (inserted ∙ ap (λ (l : TableLists). l.inserted) has.are);
        limit =
            omega (
              arith,
              ap (λ cohort. cohort.first) (inserted ∙ ap (λ (l : TableLists). l.inserted) has.are),
              ap (λ cohort. cohort.size) (inserted ∙ ap (λ (l : TableLists). l.inserted) has.are),
              cohort-within births unit (last_unit plan) reached,
              row_limit plan limits table there,
            );
      };
      places = places ∙ ap (places_of plan table (unit - 1)) (sym deleted);
    }

-- ---- lists of lists

-- the list at a number of some that are told together
pub at-number : (f : ℕ → List ℕ) (all : List (Vec ℕ Global)) (places : List ℕ) (number : ℕ) (d : Vec ℕ Global) → map (λ (found : Vec ℕ Global). found.items) all ≡ map f places →
    number < length places → (get_or all number d).items ≡ f (get_or places number 0)
at-number f [] [] number d same below = absurd (omega (arith, below))
at-number f [] (place ∷ places) number d same below = absurd (cc)
at-number f (v ∷ all) [] number d same below = absurd (cc)
at-number f (v ∷ all) (place ∷ places) zero d same below = cc
at-number f (v ∷ all) (place ∷ places) (suc number) d same below =
    let rest : map (λ (found : Vec ℕ Global). found.items) all ≡ map f places = cc in at-number f all places number d rest (omega (arith, below))

-- as many as are told
pub count-told : (f : ℕ → List ℕ) (all : List (Vec ℕ Global)) (places : List ℕ) → map (λ (found : Vec ℕ Global). found.items) all ≡ map f places → length all ≡ length places
count-told f [] [] same = refl
count-told f [] (place ∷ places) same = absurd (cc)
count-told f (v ∷ all) [] same = absurd (cc)
count-told f (v ∷ all) (place ∷ places) same =
    let rest : map (λ (found : Vec ℕ Global). found.items) all ≡ map f places = cc in
    let some : length all ≡ length places = count-told f all places rest in
    ap suc some

-- the table with a number among those that are chosen is prepared, and chosen
pub chosen-among : (plan : Project) (table : Option ℕ) (tables : Prepared) (number place : ℕ) → AreChosen plan table tables → number < length (chosen_places plan table) →
    get_or (chosen_places plan table) number 0 ≡ place → IsAmong tables place
chosen-among plan table tables number place chosen below is =
    let count : length (chosen_places plan table) ≡ length tables.lines = ap (λ (xs : List ℕ). length xs) (sym chosen) ∙ length-range_with_len tables.from (length tables.lines) in
    let at : get_or (chosen_places plan table) number 0 ≡ tables.from + number =
    ap (λ (xs : List ℕ). get_or xs number 0) (sym chosen) ∙ get_or-range_with_len tables.from (length tables.lines) number 0 (omega (arith, below, count)) in
    record { begun = omega (arith, at, is); not_ended = omega (arith, at, is, below, count) }
