-- An accepted schema is within its limits.
use Rattle.std.proofs.Common.{◌≡◌, ◌≢◌, ℕ, pos, negsuc, suc, ◌<◌, ◌≤◌, ◌^◌, All, Bool, true, false, not, ◌&&◌, ◌||◌, List, length, slice_get, take, refl, sym, ap, ◌∙◌, subst, arith, int_le, nat_le, nat_lt, ◌==◌, Option, Some, None, IfSome, ℤ}
use Rattle.std.specs.List.{position_or_len}
use Rattle.std.specs.Option.{option_map}
use Rattle.std.proofs.lemmas.Bool.{and_parts, leb-true}
use Rattle.std.proofs.lemmas.List.{get_or-map, length-map}
use Rattle.schema_model.specs.declared.table.Table.{Table}
use Rattle.schema_model.specs.declared.table.Life.{Life}
use Rattle.schema_model.specs.declared.column.Column.{Column}
use Rattle.schema_model.specs.declared.column.Kind.{Kind}
use Rattle.schema_model.specs.declared.column.Kind.TheVariants.{Key}
use Rattle.schema_plan.specs.declared.rules.Rule.{Rule}
use Rattle.schema_plan.specs.declared.rules.Rule.TheVariants.{Dictionaries, SeedAndUnits, TableCount, Columns, KeyColumn, RowCount, LifeRange, UpdatePeriod, NumberRange, DateRange, PickEntries, SkewRange, LengthRange, TemplateParts, CaseBranches, StillCitations, ReferenceTargets, ReferenceWindows, ParentRows, SpreadWeights, LookupColumns, RowCost, LineSize, ChangesAndNulls, UnitDates, LaterDates, Totals, PaddedParts}
use Rattle.schema_plan.specs.declared.site.Site.TheVariants.{Whole, OfTable, OfColumn}
use Rattle.cohort_sizes.specs.Births.{born_count}
use Rattle.schema_facts.specs.ColumnFacts.{column_facts, column_facts_at, field_facts}
use Rattle.schema_facts.specs.Counts.{count}
use Rattle.schema_facts.specs.Dictionaries.{AreWordLists, Dictionary, Project}
use Rattle.schema_facts.specs.Layout.{ColumnLayout, TableLayout, births_of, column_at, column_layout, key_kind, keys_of_kind, kind_layout, layout_of, span_of, table_at, table_layout}
use Rattle.schema_plan.specs.Limits.{IsKindInLimits, IsLife, IsLookupInLimits, IsOfOthersInLimits, IsTableInLimits, IsInLimits, IsUnitDateInLimits, IsUpdatePeriod}
use Rattle.schema_facts.specs.References.{IsReferenceInLimits, reference_of, references_of}
use Rattle.schema_plan.specs.Rules.{are_paddings, are_phases, broken_rule, first_broken, rule_number, rules, is_redrawn_at, cites_still, is_between, is_change, is_key, is_key_in_range, is_key_first, is_later_date, is_life, is_null_share, is_one_to_64, is_template, is_total, is_unit_date, is_update_period, kind_at, null_at, references_before, schema_table, IsAccepted, Keeps}
use Rattle.schema_plan.specs.Sites.{columns_at}
use Rattle.schema_facts.specs.TableFacts.{cost, max_line}
use Rattle.schema_check.proofs.ColumnLimits.{cites_still_columns, columns_layout, filled_from_test, key_never_null, kind_at-layout, kind_in_limits, null_at-layout, null_limit, reference_never_null, unchanged, unit_date_from_test}
use Rattle.schema_facts.proofs.FactsLemmas.{table_at-is}
use Rattle.schema_facts.proofs.FieldFactsLemmas.{are_field_facts}
use Rattle.schema_check.proofs.FirstBreak.{none_of_rule}
use Rattle.schema_check.proofs.FromTests.{count_from_test, least_from_test, limit_from_test}
use Rattle.schema_check.proofs.Kept.{keeps_from_none, none_at}
use Rattle.schema_check.proofs.LookupLimits.{lookup_in_limits}
use Rattle.schema_check.proofs.OtherLimits.{others_from_tests}
use Rattle.schema_check.proofs.PhaseLemmas.{rates_from_phases}
use Rattle.schema_check.proofs.ReferenceLimits.{asked_units, each_reference, reference_from_tests}
use Rattle.schema_check.proofs.RuleLemmas.{columns_at-is}

-- the place of a rule in the order, by its number
abbrev index_of : Rule → ℕ
index_of rule = position_or_len (λ other. rule_number other == rule_number rule) rules

keeps : (project : Project) → IsAccepted project → (rule : Rule) → slice_get rules (index_of rule) ≡ Some rule → Keeps rule project
unfolding first_broken
keeps project accepted rule at =
    keeps_from_none rule project (none_of_rule project rule (none_at (broken_rule project) rules accepted (index_of rule) rule at))

-- ---- columns

base_from_range : (kind : Kind) → is_key_in_range kind ≡ true → (keys_of_kind kind).base ≤ 2 ^ 62
base_from_range (Key base scramble) h = limit_from_test base (2 ^ 62) ((and_parts (int_le (pos 0) base) (int_le base (pos (2 ^ 62))) h).1)
base_from_range _ h = cc

key_from_range : (dictionaries : List Dictionary) (tables : List Table) (columns : List Column) (kind : Kind) → is_key_in_range kind ≡ true → kind_layout dictionaries tables columns kind ≡ key_kind
key_from_range dictionaries tables columns (Key base scramble) h = refl
key_from_range dictionaries tables columns _ h = cc

no_key : (dictionaries : List Dictionary) (tables : List Table) (columns : List Column) (kind : Kind) → not (is_key kind) ≡ true → kind_layout dictionaries tables columns kind ≢ key_kind
no_key dictionaries tables columns (Key base scramble) h = cc
no_key dictionaries tables columns _ h = λ e. cc

-- what is asked of one of the first 64 tables
asked_table : (place : ℕ) (test : Bool) → place < 64 → (nat_le 64 place || test) ≡ true → test ≡ true
asked_table place test h asked = of_test (nat_le 64 place) refl asked
  where
    of_test : (past : Bool) → nat_le 64 place ≡ past → (past || test) ≡ true → test ≡ true
    of_test true is asked = absurd (omega (arith, leb-true 64 place is))
    of_test false is asked = asked

later_date_kept : (project : Project) → IsAccepted project → length project.schema.tables ≤ 64 → (i j : ℕ) → i < length project.schema.tables → j < length (columns_at project.schema i) →
    is_later_date (field_facts (layout_of project) i j).days (columns_at project.schema i) j (kind_at (columns_at project.schema i) j) ≡ true
later_date_kept project accepted few i j table column =
    asked_table i _ (omega (arith, table, few)) (keeps project accepted LaterDates refl (OfColumn i j) (table, column))

total_kept : (project : Project) → IsAccepted project → length project.schema.tables ≤ 64 → (i j : ℕ) → i < length project.schema.tables → j < length (columns_at project.schema i) →
    is_total (field_facts (layout_of project) i j).numbers (columns_at project.schema i) j (kind_at (columns_at project.schema i) j) ≡ true
total_kept project accepted few i j table column =
    asked_table i _ (omega (arith, table, few)) (keeps project accepted Totals refl (OfColumn i j) (table, column))

-- a column of an accepted schema, as the layout has it
column_in_limits : (project : Project) → AreWordLists project.dictionaries → IsAccepted project → length project.schema.tables ≤ 64 → (i j : ℕ) → i < length project.schema.tables → j < length (columns_at project.schema i) → (tables : List Table) → IsKindInLimits (columns_layout project.dictionaries tables (columns_at project.schema i)) j (column_at (columns_layout project.dictionaries tables (columns_at project.schema i)) j).kind
column_in_limits project lists accepted few i j table column tables =
    let dictionaries = project.dictionaries in
    let columns = columns_at project.schema i in
    subst (IsKindInLimits (columns_layout dictionaries tables columns) j) (sym (kind_at-layout dictionaries tables columns j column))
    (kind_in_limits project lists tables columns j (omega arith) (kind_at columns j)
    (keeps project accepted Dictionaries refl (OfColumn i j) (table, column))
    (keeps project accepted NumberRange refl (OfColumn i j) (table, column))
    (keeps project accepted DateRange refl (OfColumn i j) (table, column))
    (keeps project accepted PickEntries refl (OfColumn i j) (table, column))
    (keeps project accepted SkewRange refl (OfColumn i j) (table, column))
    (keeps project accepted LengthRange refl (OfColumn i j) (table, column))
    (keeps project accepted TemplateParts refl (OfColumn i j) (table, column))
    (keeps project accepted CaseBranches refl (OfColumn i j) (table, column))
    (keeps project accepted SpreadWeights refl (OfColumn i j) (table, column))
    (field_facts (layout_of project) i j).days
    (later_date_kept project accepted few i j table column))

-- ---- tables

-- counts are in the order of the numbers that they stand for
count-ordered : (a b : ℤ) → int_le a b ≡ true → count a ≤ count b
count-ordered (pos a) (pos b) h = leb-true a b h
count-ordered (pos a) (negsuc b) h = cc
count-ordered (negsuc a) b h = omega arith

life_in_limits : (life : Option Life) → is_life life ≡ true → IfSome (option_map span_of life) IsLife
life_in_limits None h = tt
life_in_limits (Some life) h =
    let v = and_parts (int_le (pos 1) life.lo && int_le life.lo life.hi) (int_le life.hi (pos 20000)) h in
    let w = and_parts (int_le (pos 1) life.lo) (int_le life.lo life.hi) v.0 in
    record {
      span = record { some_unit = least_from_test life.lo 1 w.0; ordered = count-ordered life.lo life.hi w.1 };
      life_limit = limit_from_test life.hi 20000 v.1;
    }

update_in_limits : (update : Option ℤ) → is_update_period update ≡ true → IfSome (option_map count update) IsUpdatePeriod
update_in_limits None h = tt
update_in_limits (Some units) h =
    let v = and_parts (int_le (pos 1) units) (int_le units (pos 10000)) h in
    record { some_unit = least_from_test units 1 v.0; unit_limit = limit_from_test units 10000 v.1 }

table_in_limits : (project : Project) → AreWordLists project.dictionaries → IsAccepted project → length project.schema.tables ≤ 64 → count project.schema.units ≤ 10000 → (i : ℕ) → i < length project.schema.tables → IsTableInLimits (count project.schema.units) (table_layout project.dictionaries project.schema.tables (schema_table project.schema i))
table_in_limits project lists accepted few units i h =
    let t = schema_table project.schema i in
    let same : columns_at project.schema i ≡ t.columns = columns_at-is project.schema i _ h in
    let v4 : is_one_to_64 (length t.columns) ≡ true = ap (λ columns. is_one_to_64 (length columns)) (sym same) ∙ keeps project accepted Columns refl (OfTable i) h in
    let counted = and_parts (nat_le 1 (length t.columns)) (nat_le (length t.columns) 64) v4 in
    let v6 = and_parts (int_le (pos 0) t.rows && are_phases t.insert) (nat_lt 10000 (count project.schema.units) || nat_le (born_count (births_of t) (count project.schema.units)) (2 ^ 40)) (keeps project accepted RowCount refl (OfTable i) h) in
    let some : 1 ≤ length t.columns = leb-true 1 (length t.columns) counted.0 in
    let v5 = λ (j : ℕ) (lt : j < length t.columns). ap (λ columns. is_key_first j (kind_at columns j)) (sym same) ∙ keeps project accepted KeyColumn refl (OfColumn i j) (h, subst (λ (columns : List Column). j < length columns) (sym same) lt) in
    let v17 = λ (j : ℕ) (lt : j < length t.columns). ap (λ columns. cites_still columns j) (sym same) ∙ keeps project accepted StillCitations refl (OfColumn i j) (h, subst (λ (columns : List Column). j < length columns) (sym same) lt) in
    let v25 = λ (j : ℕ) (lt : j < length t.columns). and_parts (is_null_share (kind_at t.columns j) (null_at t.columns j)) (is_change (kind_at t.columns j) (is_redrawn_at t.columns j)) (ap (λ columns. is_null_share (kind_at columns j) (null_at columns j) && is_change (kind_at columns j) (is_redrawn_at columns j)) (sym same) ∙ keeps project accepted ChangesAndNulls refl (OfColumn i j) (h, subst (λ (columns : List Column). j < length columns) (sym same) lt)) in
    let v26 = λ (j : ℕ) (lt : j < length t.columns). ap (λ columns. is_unit_date project.schema.units (kind_at columns j)) (sym same) ∙ keeps project accepted UnitDates refl (OfColumn i j) (h, subst (λ (columns : List Column). j < length columns) (sym same) lt) in
    let v15 = λ (j : ℕ) (lt : j < length t.columns). ap (λ columns. is_template columns j (kind_at columns j)) (sym same) ∙ keeps project accepted TemplateParts refl (OfColumn i j) (h, subst (λ (columns : List Column). j < length columns) (sym same) lt) in
    let v29 = λ (j : ℕ) (lt : j < length t.columns). ap (λ columns. are_paddings columns (kind_at columns j)) (sym same) ∙ keeps project accepted PaddedParts refl (OfColumn i j) (h, subst (λ (columns : List Column). j < length columns) (sym same) lt) in
    let v27 = λ (j : ℕ) (lt : j < length t.columns). ap (λ columns. is_later_date (field_facts (layout_of project) i j).days columns j (kind_at columns j)) (sym same) ∙ later_date_kept project accepted few i j h (subst (λ (columns : List Column). j < length columns) (sym same) lt) in
    let v28 = λ (j : ℕ) (lt : j < length t.columns). ap (λ columns. is_total (field_facts (layout_of project) i j).numbers columns j (kind_at columns j)) (sym same) ∙ total_kept project accepted few i j h (subst (λ (columns : List Column). j < length columns) (sym same) lt) in
    let layouts : length (columns_layout project.dictionaries project.schema.tables t.columns) ≡ length t.columns = length-map t.columns (column_layout project.dictionaries project.schema.tables t.columns) in
    record {
      births = record {
        rates = rates_from_phases t.insert (and_parts (int_le (pos 0) t.rows) (are_phases t.insert) v6.0).1;
        row_limit = leb-true (born_count (births_of t) (count project.schema.units)) (2 ^ 40) (asked_units (count project.schema.units) _ units v6.1);
      };
      life = life_in_limits t.life (keeps project accepted LifeRange refl (OfTable i) h);
      update = update_in_limits t.update (keeps project accepted UpdatePeriod refl (OfTable i) h);
      base_limit = base_from_range (kind_at t.columns 0) (v5 0 some);
      some_column = omega (arith, layouts, some);
      column_limit = omega (arith, layouts, leb-true (length t.columns) 64 counted.1);
      key_first = kind_at-layout project.dictionaries project.schema.tables t.columns 0 some ∙ key_from_range project.dictionaries project.schema.tables t.columns (kind_at t.columns 0) (v5 0 some);
      no_other_key = λ place lt is_key_at.
          let within : suc place < length t.columns = omega (arith, layouts, lt) in
          no_key project.dictionaries project.schema.tables t.columns (kind_at t.columns (suc place)) (v5 (suc place) within)
          (sym (kind_at-layout project.dictionaries project.schema.tables t.columns (suc place) within) ∙ is_key_at);
      kinds = λ place lt.
          let within : place < length t.columns = omega (arith, layouts, lt) in
          let at : place < length (columns_at project.schema i) = subst (λ (columns : List Column). place < length columns) (sym same) within in
          subst (λ columns. IsKindInLimits (columns_layout project.dictionaries project.schema.tables columns) place (column_at (columns_layout project.dictionaries project.schema.tables columns) place).kind) same
          (column_in_limits project lists accepted few i place h at project.schema.tables);
      unit_dates = λ place lt.
          let within : place < length t.columns = omega (arith, layouts, lt) in
          subst (IsUnitDateInLimits (count project.schema.units)) (sym (kind_at-layout project.dictionaries project.schema.tables t.columns place within))
          (unit_date_from_test project.dictionaries project.schema.tables t.columns project.schema.units units (kind_at t.columns place) (v26 place within));
      filled = λ place lt.
          let within : place < length t.columns = omega (arith, layouts, lt) in
          filled_from_test project.dictionaries project.schema.tables t.columns place within (v15 place within) (v29 place within);
      nulls = λ place lt.
          let within : place < length t.columns = omega (arith, layouts, lt) in
          omega (arith, null_at-layout project.dictionaries project.schema.tables t.columns place within, null_limit (kind_at t.columns place) (null_at t.columns place) (v25 place within).0);
      changes = λ place lt none.
          let within : place < length t.columns = omega (arith, layouts, lt) in
          unchanged project.dictionaries project.schema.tables t.columns place within (v25 place within).1 none;
      still = λ place lt none.
          let within : place < length t.columns = omega (arith, layouts, lt) in
          cites_still_columns project.dictionaries project.schema.tables t.columns place (field_facts (layout_of project) i place).days (field_facts (layout_of project) i place).numbers within
          (v17 place within) (v27 place within) (v28 place within) none;
      reference_never_null = λ place reference lt is.
          let within : place < length t.columns = omega (arith, layouts, lt) in
          null_at-layout project.dictionaries project.schema.tables t.columns place within
          ∙ reference_never_null project.dictionaries project.schema.tables t.columns place (kind_at t.columns place) (null_at t.columns place) reference
          (ap (reference_of place) (sym (kind_at-layout project.dictionaries project.schema.tables t.columns place within)) ∙ is) (v25 place within).0;
      key_never_null = null_at-layout project.dictionaries project.schema.tables t.columns 0 some ∙ key_never_null (kind_at t.columns 0) (null_at t.columns 0) (v5 0 some) (v25 0 some).0;
    }

-- each reference of a table of an accepted schema
references_in_limits : (project : Project) → IsAccepted project → length project.schema.tables ≤ 64 → count project.schema.units ≤ 10000 → (i : ℕ) → i < length project.schema.tables → All (IsReferenceInLimits (count project.schema.units) (layout_of project).tables i) (references_of (table_at (layout_of project).tables i))
references_in_limits project accepted few units i h =
    let dictionaries = project.dictionaries in
    let tables = project.schema.tables in
    let columns = columns_at project.schema i in
    let t = schema_table project.schema i in
    let same : columns ≡ t.columns = columns_at-is project.schema i _ h in
    let at : (table_at (layout_of project).tables i).columns ≡ columns_layout dictionaries tables columns =
    ap (λ (layout : TableLayout). layout.columns) (table_at-is dictionaries tables i _ h) ∙ ap (columns_layout dictionaries tables) (sym same) in
    each_reference (IsReferenceInLimits (count project.schema.units) (layout_of project).tables i) (table_at (layout_of project).tables i)
    (λ j reference within is.
    let column : j < length columns = omega (arith, within, ap length at, length-map columns (column_layout dictionaries tables columns)) in
    let kind : reference_of j (kind_layout dictionaries tables columns (kind_at columns j)) ≡ Some reference =
    ap (reference_of j) (sym (ap (λ (layouts : List ColumnLayout). (column_at layouts j).kind) at ∙ kind_at-layout dictionaries tables columns j column)) ∙ is in
    reference_from_tests project i j (references_before columns j) columns (kind_at columns j) h few units
    (keeps project accepted ReferenceTargets refl (OfColumn i j) (h, column))
    (keeps project accepted ReferenceWindows refl (OfColumn i j) (h, column))
    (keeps project accepted ParentRows refl (OfColumn i j) (h, column))
    (keeps project accepted SpreadWeights refl (OfColumn i j) (h, column))
    reference kind)

-- each lookup of a table of an accepted schema
lookups_in_limits : (project : Project) → IsAccepted project → (i j : ℕ) → i < length project.schema.tables → j < length (table_at (layout_of project).tables i).columns →
    IsLookupInLimits (layout_of project).tables (table_at (layout_of project).tables i).columns j (column_at (table_at (layout_of project).tables i).columns j).kind
lookups_in_limits project accepted i j h within =
    let dictionaries = project.dictionaries in
    let tables = project.schema.tables in
    let columns = columns_at project.schema i in
    let t = schema_table project.schema i in
    let same : columns ≡ t.columns = columns_at-is project.schema i _ h in
    let at : (table_at (layout_of project).tables i).columns ≡ columns_layout dictionaries tables columns =
    ap (λ (layout : TableLayout). layout.columns) (table_at-is dictionaries tables i _ h) ∙ ap (columns_layout dictionaries tables) (sym same) in
    let column : j < length columns = omega (arith, within, ap length at, length-map columns (column_layout dictionaries tables columns)) in
    subst (λ (layouts : List ColumnLayout). IsLookupInLimits (layout_of project).tables layouts j (column_at layouts j).kind) (sym at)
    (subst (IsLookupInLimits (layout_of project).tables (columns_layout dictionaries tables columns) j) (sym (kind_at-layout dictionaries tables columns j column))
    (lookup_in_limits dictionaries tables columns j (omega arith) (kind_at columns j) (keeps project accepted LookupColumns refl (OfColumn i j) (h, column))))

-- each column of a table of an accepted schema that is made of others
others_in_limits : (project : Project) → IsAccepted project → length project.schema.tables ≤ 64 → (i j : ℕ) → i < length project.schema.tables → j < length (table_at (layout_of project).tables i).columns →
    IsOfOthersInLimits (layout_of project) i j (column_at (table_at (layout_of project).tables i).columns j).kind
others_in_limits project accepted few i j h within =
    let dictionaries = project.dictionaries in
    let tables = project.schema.tables in
    let columns = columns_at project.schema i in
    let t = schema_table project.schema i in
    let same : columns ≡ t.columns = columns_at-is project.schema i _ h in
    let at : (table_at (layout_of project).tables i).columns ≡ columns_layout dictionaries tables columns =
    ap (λ (layout : TableLayout). layout.columns) (table_at-is dictionaries tables i _ h) ∙ ap (columns_layout dictionaries tables) (sym same) in
    let column : j < length columns = omega (arith, within, ap length at, length-map columns (column_layout dictionaries tables columns)) in
    let v4 : is_one_to_64 (length columns) ≡ true = keeps project accepted Columns refl (OfTable i) h in
    let counted = and_parts (nat_le 1 (length columns)) (nat_le (length columns) 64) v4 in
    let kind_is : (column_at (table_at (layout_of project).tables i).columns j).kind ≡ kind_layout dictionaries tables columns (kind_at columns j) =
    ap (λ (layouts : List ColumnLayout). (column_at layouts j).kind) at ∙ kind_at-layout dictionaries tables columns j column in
    subst (IsOfOthersInLimits (layout_of project) i j) (sym kind_is)
    (others_from_tests (layout_of project).units (take i (column_facts (layout_of project))) (column_facts_at (layout_of project) i) dictionaries tables j columns (kind_at columns j)
    (are_field_facts (layout_of project) i j (kind_layout dictionaries tables columns (kind_at columns j))
    (record {
      below = omega (arith, h, length-map tables (table_layout dictionaries tables));
      within = omega (arith, column, leb-true (length columns) 64 counted.1);
      kind_is = kind_is;
    }))
    (later_date_kept project accepted few i j h column) (total_kept project accepted few i j h column))

-- a number of one of the first 64 tables is at most its limit
within_limit : (place n limit : ℕ) → place < 64 → (nat_le 64 place || nat_le n limit) ≡ true → n ≤ limit
within_limit place n limit h asked = leb-true n limit (asked_table place (nat_le n limit) h asked)

pub in_limits : (project : Project) → AreWordLists project.dictionaries → IsAccepted project → IsInLimits project
in_limits project lists accepted =
    let v1 = and_parts (int_le (pos 0) project.schema.seed) (is_between 0 10000 project.schema.units) (keeps project accepted SeedAndUnits refl Whole tt) in
    let units = and_parts (int_le (pos 0) project.schema.units) (int_le project.schema.units (pos 10000)) v1.1 in
    let v2 = and_parts (nat_le 1 (length project.schema.tables)) (nat_le (length project.schema.tables) 64) (keeps project accepted TableCount refl Whole tt) in
    let few : length project.schema.tables ≤ 64 = leb-true (length project.schema.tables) 64 v2.1 in
    let last : count project.schema.units ≤ 10000 = limit_from_test project.schema.units 10000 units.1 in
    record {
      seed = count_from_test project.schema.seed v1.0;
      units = count_from_test project.schema.units units.0;
      unit_limit = last;
      some_table = leb-true 1 (length project.schema.tables) v2.0;
      table_limit = few;
      tables = λ i d h.
          let within : i < length project.schema.tables = omega (arith, h, length-map project.schema.tables (table_layout project.dictionaries project.schema.tables)) in
          subst (IsTableInLimits (count project.schema.units)) (sym (get_or-map (table_layout project.dictionaries project.schema.tables) project.schema.tables i _ d within)) (table_in_limits project lists accepted few last i within);
      references = λ place h. references_in_limits project accepted few last place h;
      lookups = λ place column h lt. lookups_in_limits project accepted place column h lt;
      of_others = λ place column h lt. others_in_limits project accepted few place column h lt;
      costs = λ place h. within_limit place (cost (layout_of project) place) 4096 (omega (arith, h, few)) (keeps project accepted RowCost refl (OfTable place) h);
      lines = λ place h. within_limit place (max_line (layout_of project) place) 65536 (omega (arith, h, few)) (keeps project accepted LineSize refl (OfTable place) h);
    }
