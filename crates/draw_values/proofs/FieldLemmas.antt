-- What a row holds in a column of units or of drawn values, as it is written, by what a plan keeps of the columns.
use Rattle.std.proofs.Common.{◌≡◌, ◌<◌, ◌≤◌, ◌*◌, ◌+ℤ◌, pos, ℕ, ℤ, true, false, max, List, [], length, get_or, option_map, Option, None, Some, ap, sym, ◌∙◌, subst, arith}
use Rattle.std.specs.Prelude.{unwrap_or}
use Rattle.std.proofs.Math.Nat.{mul-le-mul_left}
use Rattle.std.proofs.lemmas.Int.{ints}
use Rattle.row_text.specs.Fields.{field_text, escaped_text}
use Rattle.schema_plan.specs.declared.ready.ReadyColumn.{ReadyColumn}
use Rattle.schema_plan.specs.declared.ready.ReadyKind.{ReadyKind}
use Rattle.schema_facts.specs.Layout.{ColumnLayout, KindLayout, Layout, key_kind, born_kind, changed_kind, leaf_kind, template_kind, case_kind, reference_kind, lookup_kind, list_kind, unit_date_kind, after_kind, sum_kind, product_kind, column_at, table_at}
use Rattle.schema_plan.specs.Limits.{IsDateRange, IsTableInLimits, IsUnitDateInLimits}
use Rattle.schema_plan.specs.Ready.{ready_column, ready_columns, ready_kind}
use Rattle.draw_values.specs.declared.values.RowAt.{RowAt}
use Rattle.draw_values.specs.ReadyValues.{HasDay, IsReadyKind, chooser_of, ready_field, ready_kind_size}
use Rattle.draw_values.specs.Values.{Draws, draws_at, is_own, put_of, size_at, value_at, written}
use Rattle.draw_values.proofs.ColumnLemmas.{IsAllInLimits, IsOwn, chooser_of-within, kind_is_ready, length-ready_columns, own_field-written, ready_column-at, size_of-ready}

-- ---- a value that is known as it is written

pub put_of-written : (delimiter : ℕ) (value held : Option (List ℕ)) → option_map (escaped_text delimiter) value ≡ held → put_of held ≡ put_of value
put_of-written delimiter None held is = ap put_of (sym is)
put_of-written delimiter (Some text) held is = ap put_of (sym is)

pub unwrap_or-written : (delimiter : ℕ) (value held : Option (List ℕ)) → option_map (escaped_text delimiter) value ≡ held → unwrap_or held [] ≡ written delimiter value
unwrap_or-written delimiter None held is = ap (λ (text : Option (List ℕ)). unwrap_or text []) (sym is)
unwrap_or-written delimiter (Some text) held is = ap (λ (text : Option (List ℕ)). unwrap_or text []) (sym is)

pub length-field_text : (delimiter size : ℕ) (value held : Option (List ℕ)) → option_map (escaped_text delimiter) value ≡ held → length (unwrap_or held []) ≤ size → length (field_text delimiter value) ≤ max 2 size
length-field_text delimiter size None held is fits = omega arith
length-field_text delimiter size (Some text) held is fits = omega (arith, ap (λ (text : Option (List ℕ)). length (unwrap_or text [])) is, fits)

-- ---- the columns that are kept

-- a column that is kept for a field, and the one that it is chosen by
pub record IsKeptField (layout : Layout) (table place by : ℕ) (column chooser : ReadyColumn) : Type 0 where
  pub own : IsOwn layout.delimiter (table_at layout.tables table).columns place (column_at (table_at layout.tables table).columns place).kind
  pub limits : IsAllInLimits (table_at layout.tables table).columns
  pub within : place < length (table_at layout.tables table).columns
  pub by_within : by < length (table_at layout.tables table).columns
  pub column_is : column ≡ ready_column layout.delimiter (column_at (table_at layout.tables table).columns place)
  pub chooser_is : chooser ≡ ready_column layout.delimiter (column_at (table_at layout.tables table).columns by)
  pub by_is : by ≡ chooser_of place (ready_kind layout.delimiter (column_at (table_at layout.tables table).columns place).kind)

pub kept_field : (layout : Layout) (table place by units : ℕ) (kept : List ReadyColumn) (column chooser : ReadyColumn) → kept ≡ ready_columns layout table →
    IsTableInLimits units (table_at layout.tables table) → place < length (table_at layout.tables table).columns → is_own (column_at (table_at layout.tables table).columns place).kind ≡ true →
    column ≡ get_or kept place column → by ≡ chooser_of place column.kind → chooser ≡ get_or kept by chooser → IsKeptField layout table place by column chooser
kept_field layout table place by units kept column chooser kept_is limits within own at by_at chooser_at =
    let columns : List ColumnLayout = (table_at layout.tables table).columns in
    let many : length kept ≡ length columns = ap length kept_is ∙ length-ready_columns layout table in
    let column_is : column ≡ ready_column layout.delimiter (column_at columns place) = ready_column-at layout.delimiter columns kept place column kept_is within at in
    let by_is : by ≡ chooser_of place (ready_kind layout.delimiter (column_at columns place).kind) = by_at ∙ ap (λ (found : ReadyColumn). chooser_of place found.kind) column_is in
    let is : IsOwn layout.delimiter columns place (column_at columns place).kind = record {
      own = own;
      limits = limits.kinds place within;
    } in
    let by_within : by < length columns = omega (arith, by_is, chooser_of-within layout.delimiter columns place (column_at columns place).kind is within) in
    record {
      own = is;
      limits = limits.kinds;
      within = within;
      by_within = by_within;
      column_is = column_is;
      chooser_is = ready_column-at layout.delimiter columns kept by chooser kept_is by_within chooser_at;
      by_is = by_is;
    }

pub field_is_ready : (layout : Layout) (table place by : ℕ) (column chooser : ReadyColumn) → IsKeptField layout table place by column chooser → IsReadyKind chooser.kind column.kind
field_is_ready layout table place by column chooser kept =
    let columns : List ColumnLayout = (table_at layout.tables table).columns in
    let d : ℕ = layout.delimiter in
    let ready = kind_is_ready d columns place (column_at columns place).kind kept.own kept.limits kept.within in
    let chooser_kind : ready_kind d (column_at columns (chooser_of place (ready_kind d (column_at columns place).kind))).kind ≡ chooser.kind =
    ap (λ (n : ℕ). ready_kind d (column_at columns n).kind) (sym kept.by_is) ∙ ap (λ (found : ReadyColumn). found.kind) (sym kept.chooser_is) in
    subst (λ (kind : ReadyKind). IsReadyKind chooser.kind kind) (ap (λ (found : ReadyColumn). found.kind) (sym kept.column_is))
    (subst (λ (kind : ReadyKind). IsReadyKind kind (ready_kind d (column_at columns place).kind)) chooser_kind ready)

pub size_at-kept : (layout : Layout) (table place by : ℕ) (column chooser : ReadyColumn) → IsKeptField layout table place by column chooser →
    size_at layout table place ≡ max 2 (ready_kind_size column.kind)
size_at-kept layout table place by column chooser kept =
    size_of-ready layout.delimiter layout.tables (table_at layout.tables table).columns place (column_at (table_at layout.tables table).columns place).kind kept.own
    ∙ ap (λ (found : ReadyColumn). max 2 (ready_kind_size found.kind)) (sym kept.column_is)

pub value_at-kept : (layout : Layout) (table place by : ℕ) (column chooser : ReadyColumn) → IsKeptField layout table place by column chooser →
    (at row : RowAt) (draws chooser_draws : Draws) → row ≡ at → draws ≡ draws_at layout table at place → chooser_draws ≡ draws_at layout table at by →
    option_map (escaped_text layout.delimiter) (value_at layout table place at) ≡ ready_field row chooser chooser_draws column draws
value_at-kept layout table place by column chooser kept at row draws chooser_draws row_is draws_are chooser_draws_are =
    let columns : List ColumnLayout = (table_at layout.tables table).columns in
    own_field-written layout.delimiter columns at (draws_at layout table at) place by kept.own kept.limits kept.within kept.by_is
    ∙ ap (λ (seen : RowAt). ready_field seen (ready_column layout.delimiter (column_at columns by)) (draws_at layout table at by) (ready_column layout.delimiter (column_at columns place)) (draws_at layout table at place)) (sym row_is)
    ∙ ap (λ (found : ReadyColumn). ready_field row found (draws_at layout table at by) (ready_column layout.delimiter (column_at columns place)) (draws_at layout table at place)) (sym kept.chooser_is)
    ∙ ap (λ (found : ReadyColumn). ready_field row chooser (draws_at layout table at by) found (draws_at layout table at place)) (sym kept.column_is)
    ∙ ap (λ (drawn : Draws). ready_field row chooser drawn column (draws_at layout table at place)) (sym chooser_draws_are)
    ∙ ap (λ (drawn : Draws). ready_field row chooser chooser_draws column drawn) (sym draws_are)

-- ---- the days that rows show

-- the units up to a last one have such days where that one has
days_up_to : (start : ℤ) (step units unit : ℕ) → unit ≤ units → IsDateRange start (start +ℤ pos (step * units)) → IsDateRange start (start +ℤ pos (step * unit))
days_up_to start step units unit within days =
    let fewer : step * unit ≤ step * units = mul-le-mul_left step within in
    record { first_day = days.first_day; ordered = omega (arith, ints); last_day = omega (arith, ints, days.last_day, fewer) }

kind_has_day : (delimiter units : ℕ) (kind : KindLayout) (at : RowAt) → at.born ≤ units → at.changed ≤ units → IsUnitDateInLimits units kind → HasDay (ready_kind delimiter kind) at
kind_has_day delimiter units key_kind at born changed limits = tt
kind_has_day delimiter units born_kind at born changed limits = tt
kind_has_day delimiter units changed_kind at born changed limits = tt
kind_has_day delimiter units (leaf_kind leaf) at born changed limits = tt
kind_has_day delimiter units (template_kind parts) at born changed limits = tt
kind_has_day delimiter units (case_kind on branches) at born changed limits = tt
kind_has_day delimiter units (reference_kind parent window spread nulls drawn) at born changed limits = tt
kind_has_day delimiter units (lookup_kind via parent name) at born changed limits = tt
kind_has_day delimiter units (list_kind words) at born changed limits = tt
kind_has_day delimiter units (unit_date_kind true start step) at born changed limits = days_up_to start step units at.changed changed limits
kind_has_day delimiter units (unit_date_kind false start step) at born changed limits = days_up_to start step units at.born born limits
kind_has_day delimiter units (after_kind of lo hi) at born changed limits = tt
kind_has_day delimiter units (sum_kind of) at born changed limits = tt
kind_has_day delimiter units (product_kind of) at born changed limits = tt

pub column_has_day : (layout : Layout) (table place units : ℕ) (column : ReadyColumn) (at : RowAt) → IsTableInLimits units (table_at layout.tables table) → place < length (table_at layout.tables table).columns →
    column ≡ ready_column layout.delimiter (column_at (table_at layout.tables table).columns place) → at.born ≤ units → at.changed ≤ units → HasDay column.kind at
column_has_day layout table place units column at limits within is born changed =
    let kind : KindLayout = (column_at (table_at layout.tables table).columns place).kind in
    subst (λ (found : ReadyColumn). HasDay found.kind at) (sym is) (kind_has_day layout.delimiter units kind at born changed (limits.unit_dates place within))
