-- The schema of a sample breaks no rule.
use Rattle.std.proofs.Common.{◌≡◌, ℕ, zero, suc, ◌+◌, ◌*◌, ◌^◌, ◌<◌, ◌≤◌, ◌&&◌, ◌||◌, Bool, true, false, List, [], ◌∷◌, ℤ, pos, Option, Some, None, refl, ap, subst, arith, ◌∙◌}
use Rattle.std.specs.List.{list_all}
use Rattle.std.specs.Option.{option_map}
use Rattle.std.specs.Str.{chars}
use Rattle.std.proofs.lemmas.Bool.{le-leb, lt-ltb}
use lib.Utf8.{encode}
use Rattle.row_text.specs.Fields.{escaped}
use Rattle.cohort_sizes.specs.Births.{Births, born_count}
use Rattle.schema_plan.specs.declared.rules.Rule.{Rule}
use Rattle.schema_plan.specs.declared.rules.Rule.TheVariants.{SeedAndUnits, RowCount, LengthRange, ReferenceWindows, ParentRows, RowCost, LineSize}
use Rattle.schema_plan.specs.declared.site.Site.TheVariants.{Whole, OfTable, OfColumn}
use Rattle.schema_model.specs.declared.column.Column.{Column}
use Rattle.schema_model.specs.declared.table.Life.{Life}
use Rattle.schema_model.specs.declared.table.Schema.{Schema}
use Rattle.schema_facts.specs.ColumnFacts.{column_facts}
use Rattle.schema_facts.specs.Dictionaries.{Dictionary, Project, project_of}
use Rattle.schema_facts.specs.Layout.{births_of}
use Rattle.schema_facts.specs.Lineage.{lineages}
use Rattle.schema_facts.specs.References.{first_in_window}
use Rattle.schema_plan.specs.Rules.{IsAccepted, Keeps, broken_rule, first_broken, has_parent_row, has_parent_rows, is_row_count}
use Rattle.schema_facts.specs.TableFacts.{line_cost, max_line}
use Rattle.schema_check.specs.Faults.{Tells, refusal_of, told}
use Rattle.schema_check.specs.declared.checker.CheckFault.{CheckFault}
use Rattle.schema_check.specs.declared.checker.CheckFault.TheVariants.{Memory, Rule as Broken}
use Rattle.schema_check.proofs.FirstBreak.{none_for_rule}
use Rattle.schema_check.proofs.Kept.{none_from_keeps}
use Rattle.sample_tables.specs.Schema.{at_each_unit, customer, order_lines, orders, sample_of, sample_project}

-- a rule that the schema of a size doesn't break
abbrev Kept : ℕ → Rule → Type 0
Kept size rule = broken_rule (sample_project size) rule ≡ None

by_sites : (size : ℕ) (rule : Rule) → Keeps rule (sample_project size) → Kept size rule
by_sites size rule keeps = none_for_rule (sample_project size) rule (none_from_keeps rule (sample_project size) keeps)

-- ---- tests

both : (a b : Bool) → a ≡ true → b ≡ true → (a && b) ≡ true
both a b first second = ap (λ (x : Bool). x && b) first ∙ second

later : (a b : Bool) → b ≡ true → (a || b) ≡ true
later true b second = refl
later false b second = second

-- a test that five numbers pass
five_pass : (p : ℕ → Bool) (a b c d e : ℕ) → p a ≡ true → p b ≡ true → p c ≡ true → p d ≡ true → p e ≡ true → list_all p (a ∷ b ∷ c ∷ d ∷ e ∷ []) ≡ true
five_pass p a b c d e on_a on_b on_c on_d on_e = both _ _ on_a (both _ _ on_b (both _ _ on_c (both _ _ on_d (both _ _ on_e refl))))

-- ---- the rules that ask for the size

seed-kept : (size : ℕ) → Kept size SeedAndUnits
seed-kept size = by_sites size SeedAndUnits keeps
  where
    keeps : Keeps SeedAndUnits (sample_project size)
    keeps Whole is_site = both _ _ (le-leb 0 size (omega arith)) refl
    keeps (OfTable table) is_site = refl
    keeps (OfColumn table column) is_site = refl

-- a number of rows at unit 0, and one at each of four units after it
counted : (name : List ℕ) (rows insert : ℕ) (life : Option Life) (update : Option ℤ) (columns : List Column) → rows + 4 * insert ≤ 2 ^ 40 →
    is_row_count (pos 4) (record { name = name; rows = pos rows; insert = at_each_unit insert; life = life; update = update; columns = columns }) ≡ true
counted name rows insert life update columns few =
    both _ _ (both _ _ (le-leb 0 rows (omega arith)) (both _ _ (le-leb 0 insert (omega arith)) refl)) (le-leb _ _ (omega (arith, few)))

rows-kept : (size : ℕ) → size ≤ 1000 → Kept size RowCount
rows-kept size small = by_sites size RowCount keeps
  where
    keeps : Keeps RowCount (sample_project size)
    keeps Whole is_site = refl
    keeps (OfTable zero) is_site = counted (customer size).name (100 * size) (10 * size) (customer size).life (customer size).update (customer size).columns (omega (arith, small))
    keeps (OfTable (suc zero)) is_site = counted (orders size).name (300 * size) (30 * size) (orders size).life (orders size).update (orders size).columns (omega (arith, small))
    keeps (OfTable (suc (suc zero))) is_site = counted (order_lines size).name (600 * size) (60 * size) (order_lines size).life (order_lines size).update (order_lines size).columns (omega (arith, small))
    keeps (OfTable (suc (suc (suc table)))) is_site = absurd (omega (arith, is_site))
    keeps (OfColumn table column) is_site = refl

-- a parent is born at the unit itself
parent-born : (child parent : Births) (unit : ℕ) → first_in_window parent (Some 0) unit < born_count parent unit → has_parent_row child parent (Some 0) unit ≡ true
parent-born child parent unit some = later _ _ (lt-ltb _ _ some)

-- so it is where as many are born at each unit
each-born : (child : Births) (rows insert : ℕ) → 1 ≤ rows → 1 ≤ insert → has_parent_rows 4 child (record { rows = rows; rates = record { from = 1; rows = insert } ∷ [] }) (Some 0) ≡ true
each-born child rows insert some more =
    let parent : Births = record { rows = rows; rates = record { from = 1; rows = insert } ∷ [] } in
    five_pass (has_parent_row child parent (Some 0)) 0 1 2 3 4 (parent-born child parent 0 (omega (arith, some))) (parent-born child parent 1 (omega (arith, more)))
    (parent-born child parent 2 (omega (arith, more))) (parent-born child parent 3 (omega (arith, more))) (parent-born child parent 4 (omega (arith, more)))

parents-kept : (size : ℕ) → 1 ≤ size → Kept size ParentRows
parents-kept size some = by_sites size ParentRows keeps
  where
    keeps : Keeps ParentRows (sample_project size)
    keeps Whole is_site = refl
    keeps (OfTable table) is_site = refl
    keeps (OfColumn zero zero) is_site = refl
    keeps (OfColumn zero (suc zero)) is_site = refl
    keeps (OfColumn zero (suc (suc zero))) is_site = refl
    keeps (OfColumn (suc zero) zero) is_site = refl
    keeps (OfColumn (suc zero) (suc zero)) is_site = each-born (births_of (orders size)) (100 * size) (10 * size) (omega (arith, some)) (omega (arith, some))
    keeps (OfColumn (suc zero) (suc (suc zero))) is_site = refl
    keeps (OfColumn (suc (suc zero)) zero) is_site = refl
    keeps (OfColumn (suc (suc zero)) (suc zero)) is_site = each-born (births_of (order_lines size)) (300 * size) (30 * size) (omega (arith, some)) (omega (arith, some))
    keeps (OfColumn (suc (suc zero)) (suc (suc zero))) is_site = refl
    keeps (OfColumn zero (suc (suc (suc column)))) is_site = absurd (omega (arith, is_site.1))
    keeps (OfColumn (suc zero) (suc (suc (suc column)))) is_site = absurd (omega (arith, is_site.1))
    keeps (OfColumn (suc (suc zero)) (suc (suc (suc column)))) is_site = absurd (omega (arith, is_site.1))
    keeps (OfColumn (suc (suc (suc table))) column) is_site = absurd (omega (arith, is_site.0))

-- ---- the rules that look into what is kept apart

windows-kept : (size : ℕ) → Kept size ReferenceWindows
unfolding lineages
windows-kept size = refl

lengths-kept : (size : ℕ) → Kept size LengthRange
unfolding chars
lengths-kept size = refl

cost-kept : (size : ℕ) → Kept size RowCost
unfolding lineages line_cost column_facts
cost-kept size = refl

lines-kept : (size : ℕ) → Kept size LineSize
unfolding max_line chars encode escaped
lines-kept size = refl

-- each rule is kept
pub sample-accepted : (size : ℕ) → 1 ≤ size → size ≤ 1000 → IsAccepted (sample_project size)
unfolding first_broken
sample-accepted size some small =
    rw (seed-kept size, rows-kept size small, lengths-kept size, windows-kept size, parents-kept size some, cost-kept size, lines-kept size) refl

-- ---- its plan

-- where it is refused, memory ran out
pub refused-memory : (size : ℕ) → 1 ≤ size → size ≤ 1000 → (schema : Schema) (dictionaries : List Dictionary) → schema ≡ sample_of size → dictionaries ≡ [] →
    (fault : CheckFault) → Tells fault (project_of schema dictionaries) → fault ≡ Memory
refused-memory size some small schema dictionaries is none Memory tells = refl
refused-memory size some small schema dictionaries is none (Broken number table column) tells =
    let same : project_of schema dictionaries ≡ sample_project size = cc in
    let kept : refusal_of (sample_project size) ≡ None = ap (option_map told) (sample-accepted size some small) in
    let refused : refusal_of (sample_project size) ≡ Some (Broken number table column) = subst (λ (project : Project). refusal_of project ≡ Some (Broken number table column)) same tells in
    absurd (cc)
