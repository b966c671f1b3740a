-- What a plan keeps ready for a column gives what a row holds there, as it is written.
use Rattle.std.proofs.Common.{◌≡◌, ◌<◌, ◌≤◌, ℕ, ℤ, Bool, true, false, max, List, [], ◌∷◌, map, decimal, fold, length, get_or, ◌%◌, IfSome, option_map, Option, None, Some, if◌then◌else◌, refl, ap, sym, ◌∙◌, arith}
use Rattle.std.specs.Prelude.{All, option_and_then, sum}
use Rattle.std.proofs.lemmas.Fmt.{length-decimal-le}
use Rattle.std.proofs.lemmas.List.{get_or-map, length-map}
use Rattle.std.proofs.lemmas.List.Elements.{All-head, All-map, All-tail}
use Rattle.weight_tables.proofs.PrefixSumLemmas.{sum-cons}
use Rattle.weight_tables.proofs.SelectionLemmas.{Selects-selected}
use Rattle.row_text.specs.Fields.{escaped_text}
use Rattle.schema_plan.specs.declared.ready.ReadyColumn.{ReadyColumn}
use Rattle.schema_plan.specs.declared.ready.ReadyLeaf.{ReadyLeaf}
use Rattle.schema_facts.specs.FieldSizes.{leaf_size, size_of}
use Rattle.schema_facts.specs.Layout.{LeafLayout, int_leaf, fixed_leaf, date_leaf, pick_leaf, skew_leaf, dict_leaf, words_leaf, chars_leaf, uuid_leaf, KindLayout, key_kind, born_kind, changed_kind, leaf_kind, template_kind, case_kind, reference_kind, lookup_kind, ColumnLayout, Layout, TableLayout, column_at, no_column, table_at, list_kind, unit_date_kind, after_kind, sum_kind, product_kind}
use Rattle.schema_plan.specs.Limits.{IsCase, IsKindInLimits, IsLeafInLimits, IsPickOf}
use Rattle.schema_plan.specs.Ready.{ready_column, ready_columns, ready_kind, ready_leaf}
use Rattle.draw_values.specs.declared.values.RowAt.{RowAt}
use Rattle.draw_values.specs.Dates.{date_text}
use Rattle.draw_values.specs.ReadyValues.{IsReady, IsReadyKind, chooser_of, ready_branch, ready_entry, ready_field, ready_held_entry, ready_kind_size, ready_own_day, ready_own_number, ready_size, ready_text, ready_value}
use Rattle.draw_values.specs.Values.{Draws, RowDraws, branch_at, chosen_group, entry_of, held_entry, is_null, is_own, leaf_value, own_day, own_field, own_number, own_value, unit_day, unless_null}
use Rattle.draw_values.proofs.PlainLemmas.{escaped_text-plain, plain-date_text, plain-decimal}
use Rattle.draw_values.proofs.ReadyLemmas.{entry-written, leaf_day-ready, leaf_is_ready, leaf_number-ready, leaf_size-ready, leaf_value-written, list_is_ready}

pub length-ready_columns : (layout : Layout) (table : ℕ) → length (ready_columns layout table) ≡ length (table_at layout.tables table).columns
length-ready_columns layout table = length-map (table_at layout.tables table).columns (ready_column layout.delimiter)

pub length-decimal-unit : (unit : ℕ) → unit ≤ 10000 → length (decimal unit) ≤ 5
length-decimal-unit unit small = length-decimal-le 5 unit (omega arith) (omega arith) (omega arith)

-- a column that a plan keeps ready
pub ready_column-at : (delimiter : ℕ) (columns : List ColumnLayout) (kept : List ReadyColumn) (place : ℕ) (found : ReadyColumn) → kept ≡ map (ready_column delimiter) columns →
    place < length columns → found ≡ get_or kept place found → found ≡ ready_column delimiter (column_at columns place)
ready_column-at delimiter columns kept place found kept_is within at =
    at
    ∙ ap (λ (columns : List ReadyColumn). get_or columns place found) kept_is
    ∙ get_or-map (ready_column delimiter) columns place no_column found within

-- ---- branches

branch_written : (delimiter : ℕ) (branches : List LeafLayout) (draw : Draws) (entry : Option ℕ) → All IsLeafInLimits branches → IfSome entry (λ place. place < length branches) →
    option_map (escaped_text delimiter) (option_and_then (λ place. leaf_value (branch_at branches place) draw) entry)
    ≡ option_map (λ place. ready_text (ready_branch (map (ready_leaf delimiter) branches) place) draw) entry
branch_written delimiter branches draw None limits within = refl
branch_written delimiter branches draw (Some place) limits within =
    let branch : LeafLayout = branch_at branches place in
    let own = limits place (branch_at [] 0) within in
    leaf_value-written delimiter branch draw own
    ∙ ap (λ (leaf : ReadyLeaf). Some (ready_text leaf draw)) (sym (get_or-map (ready_leaf delimiter) branches place (branch_at [] 0) (ready_branch [] 0) within))

greatest_from : (delimiter most : ℕ) (branches : List LeafLayout) → All IsLeafInLimits branches →
    fold (λ m leaf. max m (leaf_size delimiter leaf)) most branches ≡ fold (λ m leaf. max m (ready_size leaf)) most (map (ready_leaf delimiter) branches)
greatest_from delimiter most [] limits = refl
greatest_from delimiter most (leaf ∷ branches) limits =
    let own = All-head IsLeafInLimits leaf branches limits in
    ap (λ (size : ℕ). fold (λ m branch. max m (leaf_size delimiter branch)) (max most size) branches) (leaf_size-ready delimiter leaf own)
    ∙ greatest_from delimiter (max most (ready_size (ready_leaf delimiter leaf))) branches (All-tail IsLeafInLimits leaf branches limits)

-- ---- picks

sum-positive : (weights : List ℕ) → 1 ≤ length weights → All (λ weight. 1 ≤ weight) weights → 0 < sum weights
sum-positive [] some positive = absurd (omega arith)
sum-positive (weight ∷ weights) some positive =
    omega (arith, sum-cons weight weights, All-head (λ weight. 1 ≤ weight) weight weights positive)

entry_of-ready : (delimiter : ℕ) (kind : KindLayout) (draw : Draws) → entry_of kind draw ≡ ready_entry (ready_kind delimiter kind) draw
entry_of-ready delimiter key_kind draw = refl
entry_of-ready delimiter born_kind draw = refl
entry_of-ready delimiter changed_kind draw = refl
entry_of-ready delimiter (leaf_kind (int_leaf lo hi step)) draw = refl
entry_of-ready delimiter (leaf_kind (fixed_leaf lo hi decimals)) draw = refl
entry_of-ready delimiter (leaf_kind (date_leaf lo hi)) draw = refl
entry_of-ready delimiter (leaf_kind (pick_leaf entries weights)) draw = refl
entry_of-ready delimiter (leaf_kind (skew_leaf lo size power)) draw = refl
entry_of-ready delimiter (leaf_kind (dict_leaf dictionary)) draw = refl
entry_of-ready delimiter (leaf_kind (words_leaf dictionary lo hi)) draw = refl
entry_of-ready delimiter (leaf_kind (chars_leaf alphabet lo hi)) draw = refl
entry_of-ready delimiter (leaf_kind uuid_leaf) draw = refl
entry_of-ready delimiter (template_kind parts) draw = refl
entry_of-ready delimiter (case_kind on branches) draw = refl
entry_of-ready delimiter (reference_kind parent window spread nulls drawn) draw = refl
entry_of-ready delimiter (lookup_kind via parent name) draw = refl
entry_of-ready delimiter (list_kind words) draw = refl
entry_of-ready delimiter (unit_date_kind changed start step) draw = refl
entry_of-ready delimiter (after_kind of lo hi) draw = refl
entry_of-ready delimiter (sum_kind of) draw = refl
entry_of-ready delimiter (product_kind of) draw = refl

-- what is known of the kind of a pick column of so many entries
pick_elim : (P : KindLayout → Type 0) (columns : List ColumnLayout) (place count : ℕ) (kind : KindLayout) → IsPickOf count kind → IsKindInLimits columns place kind →
    ((entries : List (List ℕ)) (weights : List ℕ) → length weights ≡ count → 0 < sum weights → P (leaf_kind (pick_leaf entries weights))) → P kind
pick_elim P columns place count (leaf_kind (pick_leaf entries weights)) pick limits each =
    each entries weights (limits.one_each ∙ pick) (sum-positive weights (omega (arith, limits.one_each, limits.some_entry)) limits.positive)
pick_elim P columns place count _ pick limits each = absurd pick

entry_within : (null count : ℕ) (draw : Draws) (entries : List (List ℕ)) (weights : List ℕ) → length weights ≡ count → 0 < sum weights →
    IfSome (unless_null null draw (entry_of (leaf_kind (pick_leaf entries weights)) draw)) (λ entry. entry < count)
entry_within null count draw entries weights many some =
    let drawn : ℕ = draw 1 % sum weights in
    let within : drawn < sum weights = omega arith in
    let chosen = (Selects-selected weights drawn within).within in
    elim (is_null null draw) as (λ b. IfSome (if b then None else Some (chosen_group weights (draw 1))) (λ entry. entry < count)) [
      | true ↦ tt
      | false ↦ omega (arith, chosen, many)
    ]

-- ---- days and numbers

pub own_day-ready : (delimiter : ℕ) (at : RowAt) (draw : Draws) (kind : KindLayout) → ready_own_day at draw (ready_kind delimiter kind) ≡ own_day at draw kind
own_day-ready delimiter at draw key_kind = refl
own_day-ready delimiter at draw born_kind = refl
own_day-ready delimiter at draw changed_kind = refl
own_day-ready delimiter at draw (leaf_kind leaf) = leaf_day-ready delimiter leaf draw
own_day-ready delimiter at draw (template_kind parts) = refl
own_day-ready delimiter at draw (case_kind on branches) = refl
own_day-ready delimiter at draw (reference_kind parent window spread nulls drawn) = refl
own_day-ready delimiter at draw (lookup_kind via parent name) = refl
own_day-ready delimiter at draw (list_kind words) = refl
own_day-ready delimiter at draw (unit_date_kind changed start step) = refl
own_day-ready delimiter at draw (after_kind of lo hi) = refl
own_day-ready delimiter at draw (sum_kind of) = refl
own_day-ready delimiter at draw (product_kind of) = refl

pub own_number-ready : (delimiter : ℕ) (draw : Draws) (kind : KindLayout) → ready_own_number draw (ready_kind delimiter kind) ≡ own_number draw kind
own_number-ready delimiter draw key_kind = refl
own_number-ready delimiter draw born_kind = refl
own_number-ready delimiter draw changed_kind = refl
own_number-ready delimiter draw (leaf_kind leaf) = leaf_number-ready delimiter leaf draw
own_number-ready delimiter draw (template_kind parts) = refl
own_number-ready delimiter draw (case_kind on branches) = refl
own_number-ready delimiter draw (reference_kind parent window spread nulls drawn) = refl
own_number-ready delimiter draw (lookup_kind via parent name) = refl
own_number-ready delimiter draw (list_kind words) = refl
own_number-ready delimiter draw (unit_date_kind changed start step) = refl
own_number-ready delimiter draw (after_kind of lo hi) = refl
own_number-ready delimiter draw (sum_kind of) = refl
own_number-ready delimiter draw (product_kind of) = refl

-- ---- columns of units and of drawn values

-- a column of this kind is one of them, within its limits
pub record IsOwn (delimiter : ℕ) (columns : List ColumnLayout) (place : ℕ) (kind : KindLayout) : Type 0 where
  pub own : is_own kind ≡ true
  pub limits : IsKindInLimits columns place kind

-- the columns that a field is chosen by are those of the limits
abbrev pub IsAllInLimits : List ColumnLayout → Type 0
IsAllInLimits columns = (place : ℕ) → place < length columns → IsKindInLimits columns place (column_at columns place).kind

pub chooser_of-within : (delimiter : ℕ) (columns : List ColumnLayout) (place : ℕ) (kind : KindLayout) → IsOwn delimiter columns place kind → place < length columns →
    chooser_of place (ready_kind delimiter kind) < length columns
chooser_of-within delimiter columns place key_kind of within = absurd (let own = of.own in cc)
chooser_of-within delimiter columns place born_kind of within = within
chooser_of-within delimiter columns place changed_kind of within = within
chooser_of-within delimiter columns place (leaf_kind leaf) of within = within
chooser_of-within delimiter columns place (template_kind parts) of within = absurd (let own = of.own in cc)
chooser_of-within delimiter columns place (case_kind on branches) of within = omega (arith, of.limits.earlier)
chooser_of-within delimiter columns place (reference_kind parent window spread nulls drawn) of within = absurd (let own = of.own in cc)
chooser_of-within delimiter columns place (lookup_kind via parent name) of within = absurd (let own = of.own in cc)
chooser_of-within delimiter columns place (list_kind words) of within = within
chooser_of-within delimiter columns place (unit_date_kind changed start step) of within = within
chooser_of-within delimiter columns place (after_kind earlier lo hi) of within = absurd (let own = of.own in cc)
chooser_of-within delimiter columns place (sum_kind operands) of within = absurd (let own = of.own in cc)
chooser_of-within delimiter columns place (product_kind operands) of within = absurd (let own = of.own in cc)

-- what is kept of it can be written
case_is_ready : (delimiter on : ℕ) (branches : List LeafLayout) (columns : List ColumnLayout) (place : ℕ) → IsCase columns place on branches → IsKindInLimits columns on (column_at columns on).kind →
    IsReadyKind (ready_kind delimiter (column_at columns on).kind) (ready_kind delimiter (case_kind on branches))
case_is_ready delimiter on branches columns place limits pick_limits =
    let many : length (map (ready_leaf delimiter) branches) ≡ length branches = length-map branches (ready_leaf delimiter) in
    pick_elim (λ kind. IsReadyKind (ready_kind delimiter kind) (ready_kind delimiter (case_kind on branches))) columns on (length branches) (column_at columns on).kind limits.pick pick_limits
    (λ entries weights same some. (
      All-map IsReady (ready_leaf delimiter) branches (λ i d within. leaf_is_ready delimiter (get_or branches i d) (limits.each i d within)),
      refl,
      same ∙ sym many,
    ))

pub kind_is_ready : (delimiter : ℕ) (columns : List ColumnLayout) (place : ℕ) (kind : KindLayout) → IsOwn delimiter columns place kind →
    IsAllInLimits columns → place < length columns →
    IsReadyKind (ready_kind delimiter (column_at columns (chooser_of place (ready_kind delimiter kind))).kind) (ready_kind delimiter kind)
kind_is_ready delimiter columns place key_kind of all within = absurd (let own = of.own in cc)
kind_is_ready delimiter columns place born_kind of all within = tt
kind_is_ready delimiter columns place changed_kind of all within = tt
kind_is_ready delimiter columns place (leaf_kind leaf) of all within = leaf_is_ready delimiter leaf of.limits
kind_is_ready delimiter columns place (template_kind parts) of all within = absurd (let own = of.own in cc)
kind_is_ready delimiter columns place (case_kind on branches) of all within =
    case_is_ready delimiter on branches columns place of.limits (all on (omega (arith, of.limits.earlier)))
kind_is_ready delimiter columns place (reference_kind parent window spread nulls drawn) of all within = absurd (let own = of.own in cc)
kind_is_ready delimiter columns place (lookup_kind via parent name) of all within = absurd (let own = of.own in cc)
kind_is_ready delimiter columns place (list_kind words) of all within = list_is_ready delimiter words
kind_is_ready delimiter columns place (unit_date_kind changed start step) of all within = tt
kind_is_ready delimiter columns place (after_kind earlier lo hi) of all within = absurd (let own = of.own in cc)
kind_is_ready delimiter columns place (sum_kind operands) of all within = absurd (let own = of.own in cc)
kind_is_ready delimiter columns place (product_kind operands) of all within = absurd (let own = of.own in cc)

-- its greatest size
pub size_of-ready : (delimiter : ℕ) (tables : List TableLayout) (columns : List ColumnLayout) (place : ℕ) (kind : KindLayout) → IsOwn delimiter columns place kind →
    size_of delimiter tables columns kind ≡ max 2 (ready_kind_size (ready_kind delimiter kind))
size_of-ready delimiter tables columns place key_kind of = absurd (let own = of.own in cc)
size_of-ready delimiter tables columns place born_kind of = refl
size_of-ready delimiter tables columns place changed_kind of = refl
size_of-ready delimiter tables columns place (leaf_kind leaf) of = ap (max 2) (leaf_size-ready delimiter leaf of.limits)
size_of-ready delimiter tables columns place (template_kind parts) of = absurd (let own = of.own in cc)
size_of-ready delimiter tables columns place (case_kind on branches) of = ap (max 2) (greatest_from delimiter 0 branches of.limits.each)
size_of-ready delimiter tables columns place (reference_kind parent window spread nulls drawn) of = absurd (let own = of.own in cc)
size_of-ready delimiter tables columns place (lookup_kind via parent name) of = absurd (let own = of.own in cc)
size_of-ready delimiter tables columns place (list_kind words) of = ap (max 2) (leaf_size-ready delimiter (dict_leaf words) of.limits)
size_of-ready delimiter tables columns place (unit_date_kind changed start step) of = refl
size_of-ready delimiter tables columns place (after_kind earlier lo hi) of = absurd (let own = of.own in cc)
size_of-ready delimiter tables columns place (sum_kind operands) of = absurd (let own = of.own in cc)
size_of-ready delimiter tables columns place (product_kind operands) of = absurd (let own = of.own in cc)

-- and what a row holds in it
held_entry-ready : (delimiter : ℕ) (column : ColumnLayout) (draw : Draws) → held_entry column draw ≡ ready_held_entry (ready_column delimiter column) draw
held_entry-ready delimiter column draw = ap (unless_null column.null draw) (entry_of-ready delimiter column.kind draw)

held_entry-within : (columns : List ColumnLayout) (on count : ℕ) (draw : Draws) → IsPickOf count (column_at columns on).kind → IsKindInLimits columns on (column_at columns on).kind →
    IfSome (held_entry (column_at columns on) draw) (λ entry. entry < count)
held_entry-within columns on count draw pick limits =
    pick_elim (λ kind. IfSome (unless_null (column_at columns on).null draw (entry_of kind draw)) (λ entry. entry < count)) columns on count (column_at columns on).kind pick limits
    (entry_within (column_at columns on).null count draw)

-- what is written for a value that isn't null
abbrev ready_value_at : ℕ → List ColumnLayout → RowAt → RowDraws → ℕ → KindLayout → Option (List ℕ)
ready_value_at delimiter columns at draws place kind =
    let chooser : ℕ = chooser_of place (ready_kind delimiter kind) in
    ready_value at (ready_held_entry (ready_column delimiter (column_at columns chooser)) (draws chooser)) (draws place) (ready_kind delimiter kind)

own_value-written : (delimiter : ℕ) (columns : List ColumnLayout) (at : RowAt) (draws : RowDraws) (place : ℕ) (kind : KindLayout) → IsOwn delimiter columns place kind →
    IsAllInLimits columns → place < length columns →
    option_map (escaped_text delimiter) (own_value columns at draws place kind) ≡ ready_value_at delimiter columns at draws place kind
own_value-written delimiter columns at draws place key_kind of all within = absurd (let own = of.own in cc)
own_value-written delimiter columns at draws place born_kind of all within = ap Some (escaped_text-plain delimiter (decimal at.born) (plain-decimal at.born))
own_value-written delimiter columns at draws place changed_kind of all within = ap Some (escaped_text-plain delimiter (decimal at.changed) (plain-decimal at.changed))
own_value-written delimiter columns at draws place (leaf_kind leaf) of all within = leaf_value-written delimiter leaf (draws place) of.limits
own_value-written delimiter columns at draws place (template_kind parts) of all within = absurd (let own = of.own in cc)
own_value-written delimiter columns at draws place (case_kind on branches) of all within =
    let pick : ColumnLayout = column_at columns on in
    branch_written delimiter branches (draws place) (held_entry pick (draws on)) of.limits.each
    (held_entry-within columns on (length branches) (draws on) of.limits.pick (all on (omega (arith, of.limits.earlier))))
    ∙ ap (option_map (λ entry. ready_text (ready_branch (map (ready_leaf delimiter) branches) entry) (draws place))) (held_entry-ready delimiter pick (draws on))
own_value-written delimiter columns at draws place (reference_kind parent window spread nulls drawn) of all within = absurd (let own = of.own in cc)
own_value-written delimiter columns at draws place (lookup_kind via parent name) of all within = absurd (let own = of.own in cc)
own_value-written delimiter columns at draws place (list_kind words) of all within = ap Some (entry-written delimiter words (at.ordinal % length words.entries))
own_value-written delimiter columns at draws place (unit_date_kind changed start step) of all within =
    let day : ℤ = unit_day changed start step at in
    ap Some (escaped_text-plain delimiter (date_text day) (plain-date_text day))
own_value-written delimiter columns at draws place (after_kind earlier lo hi) of all within = absurd (let own = of.own in cc)
own_value-written delimiter columns at draws place (sum_kind operands) of all within = absurd (let own = of.own in cc)
own_value-written delimiter columns at draws place (product_kind operands) of all within = absurd (let own = of.own in cc)

option_map-if : {A B : Type 0} (f : A → B) (null : Bool) (held : Option A) → option_map f (if null then None else held) ≡ (if null then None else option_map f held)
option_map-if f true held = refl
option_map-if f false held = refl

pub own_field-written : (delimiter : ℕ) (columns : List ColumnLayout) (at : RowAt) (draws : RowDraws) (place chooser : ℕ) → IsOwn delimiter columns place (column_at columns place).kind →
    IsAllInLimits columns → place < length columns → chooser ≡ chooser_of place (ready_kind delimiter (column_at columns place).kind) →
    option_map (escaped_text delimiter) (own_field columns at draws place)
    ≡ ready_field at (ready_column delimiter (column_at columns chooser)) (draws chooser) (ready_column delimiter (column_at columns place)) (draws place)
own_field-written delimiter columns at draws place chooser of all within chosen =
    let column : ColumnLayout = column_at columns place in
    option_map-if (escaped_text delimiter) (is_null column.null (draws place)) (own_value columns at draws place column.kind)
    ∙ ap (unless_null column.null (draws place)) (own_value-written delimiter columns at draws place column.kind of all within)
    ∙ ap (λ (by : ℕ). ready_field at (ready_column delimiter (column_at columns by)) (draws by) (ready_column delimiter column) (draws place)) (sym chosen)
