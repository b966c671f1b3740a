-- Lookups that pass the test of their rule are within their limits.
use Rattle.std.proofs.Common.{◌≡◌, ◌∙◌, ℕ, zero, suc, ◌<◌, ◌≤◌, ◌&&◌, not, Bool, true, false, List, [], ◌∷◌, length, map, nat_lt, refl, sym, ap, subst, arith}
use Rattle.std.proofs.lemmas.Bool.{and_parts, ltb-true}
use Rattle.std.proofs.lemmas.List.{length-map}
use Rattle.schema_model.specs.declared.table.Table.{Table}
use Rattle.schema_model.specs.declared.column.Column.{Column}
use Rattle.schema_model.specs.declared.column.Kind.{Kind}
use Rattle.schema_model.specs.declared.column.Kind.TheVariants as kind
use Rattle.schema_model.specs.declared.column.OnDelete.TheVariants.{Cascade}
use Rattle.schema_facts.specs.Dictionaries.{Dictionary}
use Rattle.schema_facts.specs.Layout.{ColumnLayout, column_at, column_layout, columns_of, kind_layout, place_of_parent, place_of_column, table_at, table_layout, table_layouts}
use Rattle.schema_plan.specs.Limits.{IsLookupInLimits, IsCascadeTo, is_lookup_kind as is_lookup_layout, moves}
use Rattle.schema_plan.specs.Rules.{has_still_column, is_lookup, is_lookup_kind, is_looked_up, kind_at, moves_at}
use Rattle.schema_check.proofs.ColumnLimits.{columns_layout, kind_at-layout, still_from_test}

is_lookup-layout : (dictionaries : List Dictionary) (tables : List Table) (columns : List Column) (kind : Kind) → is_lookup_layout (kind_layout dictionaries tables columns kind) ≡ is_lookup_kind kind
is_lookup-layout dictionaries tables columns (kind.Lookup via column) = refl
is_lookup-layout dictionaries tables columns _ = refl

-- the columns of the table at a place as its layout has them; past the last table there are none
columns_of-layout : (dictionaries : List Dictionary) (all tables : List Table) (place : ℕ) → (table_at (map (table_layout dictionaries all) tables) place).columns ≡ columns_layout dictionaries all (columns_of tables place)
columns_of-layout dictionaries all [] place = refl
columns_of-layout dictionaries all (table ∷ tables) zero = refl
columns_of-layout dictionaries all (table ∷ tables) (suc place) = columns_of-layout dictionaries all tables place

not-false : (test : Bool) → not test ≡ true → test ≡ false
not-false true h = cc
not-false false h = refl

-- a kind by which something is looked up is a reference, with whose parent the row is deleted, to a table with the column
reference_from_test : (dictionaries : List Dictionary) (tables : List Table) (columns : List Column) (kind : Kind) (name : List ℕ) → is_looked_up tables kind name ≡ true →
    IsCascadeTo (place_of_parent tables kind) (kind_layout dictionaries tables columns kind) × (has_still_column (columns_of tables (place_of_parent tables kind)) name ≡ true)
reference_from_test dictionaries tables columns (kind.Ref table window spread Cascade deal) name h = (refl, h)
reference_from_test dictionaries tables columns _ name h = absurd (cc)

pub lookup_in_limits : (dictionaries : List Dictionary) (tables : List Table) (columns : List Column) (place : ℕ) → place ≤ length columns → (kind : Kind) → is_lookup tables columns place kind ≡ true →
    IsLookupInLimits (table_layouts dictionaries tables) (columns_layout dictionaries tables columns) place (kind_layout dictionaries tables columns kind)
lookup_in_limits dictionaries tables columns place within (kind.Lookup via name) h =
    let reference = place_of_column columns via in
    let parts = and_parts (nat_lt reference place) (is_looked_up tables (kind_at columns reference) name) h in
    let earlier : reference < place = ltb-true reference place parts.0 in
    let parent = place_of_parent tables (kind_at columns reference) in
    let found = reference_from_test dictionaries tables columns (kind_at columns reference) name parts.1 in
    let others = columns_of tables parent in
    let other = place_of_column others name in
    let v = and_parts (nat_lt other (length others) && not (moves_at others other)) (not (is_lookup_kind (kind_at others other))) found.1 in
    let w = and_parts (nat_lt other (length others)) (not (moves_at others other)) v.0 in
    let is_there : other < length others = ltb-true other (length others) w.0 in
    let at = columns_of-layout dictionaries tables tables parent in
    record {
      earlier = earlier;
      reference = subst (IsCascadeTo parent) (sym (kind_at-layout dictionaries tables columns reference (omega arith))) found.0;
      looked_up = record {
        within = omega (arith, is_there, ap length at, length-map others (column_layout dictionaries tables others));
        still = ap (λ (layouts : List ColumnLayout). moves (column_at layouts other)) at ∙ still_from_test dictionaries tables others other w.1;
        no_lookup = ap (λ (layouts : List ColumnLayout). is_lookup_layout (column_at layouts other).kind) at
            ∙ ap is_lookup_layout (kind_at-layout dictionaries tables others other is_there)
            ∙ is_lookup-layout dictionaries tables others (kind_at others other)
            ∙ not-false (is_lookup_kind (kind_at others other)) v.1;
      };
    }
lookup_in_limits dictionaries tables columns place within _ h = tt
