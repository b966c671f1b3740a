-- What the rules of a detail table tell of its columns, by their kinds.
use Rattle.std.proofs.Common.{◌≡◌, ◌∙◌, ℕ, ℤ, pos, ◌+◌, ◌-◌, ◌<◌, ◌&&◌, not, All, Bool, true, false, cond, nat_lt, nat_le, List, [], ◌∷◌, get_or, length, map, take, Option, Some, None, is_some, option_and_then, refl, sym, ap, subst, arith}
use Rattle.std.specs.Prelude.{unwrap_or}
use Rattle.std.specs.List.{list_any, range_with_len}
use Rattle.std.proofs.lemmas.Bool.{and_parts}
use Rattle.std.proofs.lemmas.List.{get_or-map, get_or-take, get_or-append_right, get_or_append_left, length-append, length-map}
use Rattle.std.proofs.lemmas.List.Elements.{All-head, All-tail}
use Rattle.std.proofs.lemmas.List.FromFn.{get_or-range_with_len, length-range_with_len}
use Rattle.std.proofs.lemmas.List.Sums.{position_or_len_is}
use Rattle.schema_model.specs.declared.column.Column.{Column}
use Rattle.schema_model.specs.declared.column.Kind.{Kind}
use Rattle.schema_model.specs.declared.column.Kind.TheVariants as schema
use Rattle.schema_model.specs.declared.column.Leaf.{Leaf}
use Rattle.schema_model.specs.declared.column.Leaf.TheVariants as drawn
use Rattle.schema_facts.specs.declared.column_facts.ColumnFacts.{ColumnFacts}
use Rattle.schema_facts.specs.declared.numbers.Numbers.{Numbers}
use Rattle.schema_plan.specs.declared.ready.ReadyColumn.{ReadyColumn}
use Rattle.schema_facts.specs.ColumnFacts.{column_facts, field_facts}
use Rattle.schema_facts.specs.Days.{days_after, days_of_leaf}
use Rattle.schema_facts.specs.Dictionaries.{Dictionary, Project}
use Rattle.schema_facts.specs.FactsBefore.{facts_among}
use Rattle.schema_facts.specs.Layout.{ColumnLayout, KindLayout, LeafLayout, after_kind, column_at, column_layout, columns_of as columns_of_table, kind_layout, layout_of, leaf_kind, leaf_layout, lookup_kind, no_column, parent_via, place_of_column, place_of_parent, place_of_table, product_kind, sum_kind}
use Rattle.schema_plan.specs.Limits.{CanBeReady, IsAfterRange, IsLeafInLimits, IsOfOthersAmong, IsStillColumn}
use Rattle.schema_facts.specs.Names.{begins_with_letter, is_name, same_text}
use Rattle.schema_facts.specs.Numbers.{numbers_of_leaf, operands, product_of, sum_of}
use Rattle.schema_plan.specs.Ready.{ready_column}
use Rattle.schema_plan.specs.Rules.{is_new_at, keeps_column_rules, kind_at}
use Rattle.schema_plan.proofs.BesideLemmas.{are_facts_beside, known_tables}
use Rattle.schema_facts.proofs.ColumnFactsLemmas.{facts_in-capped}
use Rattle.schema_facts.proofs.FieldFactsLemmas.{AreFactsOf}
use Rattle.schema_check.proofs.BesideLimits.{keeps_column}
use Rattle.schema_check.proofs.ColumnLimits.{kind_at-layout}
use Rattle.schema_check.proofs.FromTests.{passes_each}
use Rattle.schema_check.proofs.LookupLimits.{lookup_in_limits}
use Rattle.life_intervals.specs.Generator.{table_of}
use Rattle.detail_plan.specs.declared.detail.Detail.{Detail}
use Rattle.detail_plan.specs.declared.detail.DetailColumn.{DetailColumn}
use Rattle.detail_plan.specs.declared.detail.DetailKind.{DetailKind}
use Rattle.detail_plan.specs.declared.detail.DetailKind.TheVariants.{Leaf as LeafColumn, Parent, After, Sum, Product}
use Rattle.detail_plan.specs.Beside.{column_beside, columns_beside, kind_beside, reference_to, table_beside}
use Rattle.detail_plan.specs.Kept.{Kept, KeepsRules}
use Rattle.detail_plan.specs.Limits.{IsInLimits}
use Rattle.detail_plan.specs.Rules.{are_shown, facts_of, is_shown, keep_column_rules, parent_columns}
use Rattle.detail_plan.proofs.Accepted.{keeps_each, made_of_earlier}
use Rattle.detail_lines.specs.Lines.{columns_of, parent_place}

-- ---- what is known of a column

-- a drawn value: it is within its limits, and the facts are those of its kind
pub record IsKnownLeaf (facts : ColumnFacts) (leaf : LeafLayout) : Type 0 where
  pub limits : IsLeafInLimits leaf
  pub days : facts.days ≡ days_of_leaf leaf
  pub numbers : facts.numbers ≡ numbers_of_leaf leaf

-- a column of the parent: it doesn't move, and the facts are those of it
pub record IsKnownShown (plan : Project) (detail : Detail) (facts : ColumnFacts) (parent name : ℕ) : Type 0 where
  pub parent_is : parent ≡ parent_place plan detail
  pub still : IsStillColumn (table_of plan (parent_place plan detail)) name
  pub days : facts.days ≡ (field_facts (layout_of plan) (parent_place plan detail) name).days
  pub numbers : facts.numbers ≡ (field_facts (layout_of plan) (parent_place plan detail) name).numbers

-- a date after that of an earlier column
pub record IsKnownAfter (facts : List ColumnFacts) (column of : ℕ) (lo hi : ℤ) : Type 0 where
  pub earlier : of < column
  pub range : IsAfterRange lo hi
  pub dated : is_some (facts_among facts column).days ≡ true
  pub days : (facts_among facts column).days ≡ option_and_then (days_after lo hi) (facts_among facts of).days

-- a sum or a product of earlier columns
pub record IsKnownTotal (facts : List ColumnFacts) (column : ℕ) (of : List ℕ) (total : List (Option Numbers) → Option Numbers) : Type 0 where
  pub earlier : All (λ place. place < column) of
  pub numeric : is_some (facts_among facts column).numbers ≡ true
  pub told : (facts_among facts column).numbers ≡ total (map (λ place. (facts_among facts place).numbers) of)

-- a column of a detail table is of no other kind
abbrev pub IsKnown : Project → Detail → List ColumnFacts → ℕ → KindLayout → Type 0
IsKnown plan detail facts column (leaf_kind leaf) = IsKnownLeaf (facts_among facts column) leaf
IsKnown plan detail facts column (lookup_kind via parent name) = IsKnownShown plan detail (facts_among facts column) parent name
IsKnown plan detail facts column (after_kind of lo hi) = IsKnownAfter facts column of lo hi
IsKnown plan detail facts column (sum_kind of) = IsKnownTotal facts column of sum_of
IsKnown plan detail facts column (product_kind of) = IsKnownTotal facts column of product_of
IsKnown plan detail facts column _ = ⊥

-- ---- names

named : (name : List ℕ) → begins_with_letter name ≡ true → same_text name [] ≡ false
named [] h = absurd (cc)
named (byte ∷ bytes) h = refl

named_by_rule : (names : List (List ℕ)) (place : ℕ) → is_new_at names place ≡ true → same_text (get_or names place []) [] ≡ false
named_by_rule names place h =
    let name = get_or names place [] in
    let parts = and_parts (is_name name) (not (list_any (λ other. same_text other name) (take place names))) h in
    let letter = and_parts (begins_with_letter name && nat_le (length name) 32) _ parts.0 in
    named name (and_parts (begins_with_letter name) (nat_le (length name) 32) letter.0).0

-- a place that is found
found-is : (place size : ℕ) (test : Bool) → nat_lt place size ≡ test → is_some (cond test (Some place) None) ≡ true → unwrap_or (cond test (Some place) None) 0 ≡ place
found-is place size true test found = refl
found-is place size false test found = absurd (cc)

-- ---- facts

days_of_words : (first second : List Dictionary) (leaf : Leaf) → days_of_leaf (leaf_layout first leaf) ≡ days_of_leaf (leaf_layout second leaf)
days_of_words first second (drawn.Int lo hi step) = refl
days_of_words first second (drawn.Fixed lo hi decimals) = refl
days_of_words first second (drawn.Date lo hi) = refl
days_of_words first second (drawn.Pick entries weights) = refl
days_of_words first second (drawn.Skew lo size power) = refl
days_of_words first second (drawn.Dict file) = refl
days_of_words first second (drawn.Words file lo hi) = refl
days_of_words first second (drawn.Chars alphabet lo hi) = refl
days_of_words first second drawn.Uuid = refl

numbers_of_words : (first second : List Dictionary) (leaf : Leaf) → numbers_of_leaf (leaf_layout first leaf) ≡ numbers_of_leaf (leaf_layout second leaf)
numbers_of_words first second (drawn.Int lo hi step) = refl
numbers_of_words first second (drawn.Fixed lo hi decimals) = refl
numbers_of_words first second (drawn.Date lo hi) = refl
numbers_of_words first second (drawn.Pick entries weights) = refl
numbers_of_words first second (drawn.Skew lo size power) = refl
numbers_of_words first second (drawn.Dict file) = refl
numbers_of_words first second (drawn.Words file lo hi) = refl
numbers_of_words first second (drawn.Chars alphabet lo hi) = refl
numbers_of_words first second drawn.Uuid = refl

-- operands that stand before a column
operands-kept : (facts : List ColumnFacts) (column : ℕ) (of : List ℕ) → All (λ place. place < column) of → operands (take column facts) of ≡ map (λ place. (facts_among facts place).numbers) of
operands-kept facts column [] earlier = refl
operands-kept facts column (place ∷ of) earlier =
    both (ap (λ (one : ColumnFacts). one.numbers) (get_or-take column facts place _ (All-head (λ p. p < column) place of earlier)))
    (operands-kept facts column of (All-tail (λ p. p < column) place of earlier))
  where
    both : {first one : Option Numbers} {rest more : List (Option Numbers)} → first ≡ one → rest ≡ more → first ∷ rest ≡ one ∷ more
    both p q = cc

-- ---- the columns of an accepted detail table

module _ (plan : Project) (kept : Kept) (keeps : KeepsRules plan kept) (limits : IsInLimits kept.lists kept.detail) where
  abbrev detail : Detail
  detail = kept.detail

  abbrev columns : List Column
  columns = columns_beside detail

  abbrev own : ℕ
  own = length detail.columns

  abbrev facts : List ColumnFacts
  facts = facts_of plan detail

  pub columns_count : length columns ≡ own + 1
  columns_count = omega (arith, length-append (map column_beside detail.columns) (reference_to detail.parent ∷ []), length-map detail.columns column_beside)

  abbrev a_column : DetailColumn
  a_column = record { name = []; kind = LeafColumn drawn.Uuid; changes = false; null = pos 0 }

  abbrev a_schema_column : Column
  a_schema_column = record { name = []; kind = schema.Born; changes = false; null = pos 0 }

  abbrev given : ℕ → DetailColumn
  given column = get_or detail.columns column a_column

  column_is : (column : ℕ) → column < own → get_or columns column a_schema_column ≡ column_beside (given column)
  column_is column within =
      get_or_append_left (map column_beside detail.columns) (reference_to detail.parent ∷ []) a_schema_column column (omega (arith, within, length-map detail.columns column_beside))
      ∙ get_or-map column_beside detail.columns column a_column a_schema_column within

  kind_is : (column : ℕ) → column < own → kind_at columns column ≡ kind_beside (given column).kind
  kind_is column within =
      get_or-map (λ (c : Column). c.kind) columns column a_schema_column schema.Born (omega (arith, within, columns_count))
      ∙ ap (λ (c : Column). c.kind) (column_is column within)

  -- each keeps the rules of columns
  keeps_one : (column : ℕ) → column < own → keeps_column_rules (facts_among facts column) columns column ≡ true
  keeps_one column within =
      let rules = keep_column_rules facts columns own in
      let shown = and_parts (nat_le 1 own && nat_le own 32 && rules) (are_shown (parent_columns plan detail) detail.columns) (keeps_each plan kept.lists detail keeps.keeps).columns in
      let all = (and_parts (nat_le 1 own && nat_le own 32) rules shown.0).1 in
      let at : get_or (range_with_len 0 own) column 0 ≡ column = omega (arith, get_or-range_with_len 0 own column 0 within) in
      ap (λ place. keeps_column_rules (facts_among facts place) columns place) (sym at)
      ∙ passes_each (λ place. keeps_column_rules (facts_among facts place) columns place) (range_with_len 0 own) column 0
      (omega (arith, within, length-range_with_len 0 own)) all

  -- so each has a name, and the reference stands after them
  name_is : (column : ℕ) → column < own → same_text (get_or columns column a_schema_column).name [] ≡ false
  name_is column within =
      let names = map (λ (c : Column). c.name) columns in
      let at : get_or names column [] ≡ (get_or columns column a_schema_column).name =
      get_or-map (λ (c : Column). c.name) columns column a_schema_column [] (omega (arith, within, columns_count)) in
      ap (λ (name : List ℕ). same_text name []) (sym at)
      ∙ named_by_rule names column (keeps_column (facts_among facts column) columns column (keeps_one column within)).new_name

  reference_at : get_or columns own a_schema_column ≡ reference_to detail.parent
  reference_at =
      get_or-append_right (map column_beside detail.columns) (reference_to detail.parent ∷ []) own own a_schema_column (length-map detail.columns column_beside) (omega arith)
      ∙ ap (λ place. get_or (reference_to detail.parent ∷ []) place a_schema_column) (none_past own)
    where
      none_past : (a : ℕ) → a - a ≡ 0
      none_past a = omega arith

  reference_found : place_of_column columns [] ≡ own
  reference_found =
      position_or_len_is (λ (c : Column). same_text c.name []) columns own a_schema_column (omega (arith, columns_count)) name_is
      (λ inside. ap (λ (c : Column). same_text c.name []) reference_at)

  pub reference_kind : kind_at columns own ≡ (reference_to detail.parent).kind
  reference_kind =
      get_or-map (λ (c : Column). c.kind) columns own a_schema_column schema.Born (omega (arith, columns_count))
      ∙ ap (λ (c : Column). c.kind) reference_at

  parent_found : parent_via plan.schema.tables columns [] ≡ place_of_table plan.schema.tables detail.parent
  parent_found =
      ap (λ place. place_of_parent plan.schema.tables (kind_at columns place)) reference_found
      ∙ ap (place_of_parent plan.schema.tables) reference_kind

  parent_is : place_of_table plan.schema.tables detail.parent ≡ parent_place plan detail
  parent_is = sym (found-is _ (length plan.schema.tables) _ refl (keeps_each plan kept.lists detail keeps.keeps).parent)

  -- a column of the parent that may be shown
  still : (name : List ℕ) → is_shown (parent_columns plan detail) (Parent name) ≡ true →
      IsStillColumn (table_of plan (place_of_table plan.schema.tables detail.parent)) (place_of_column (columns_of_table plan.schema.tables (place_of_table plan.schema.tables detail.parent)) name)
  still name shown =
      (lookup_in_limits plan.dictionaries plan.schema.tables (reference_to detail.parent ∷ []) 1 (omega arith) (schema.Lookup [] name) shown).looked_up

  shown_one : (column : ℕ) → column < own → is_shown (parent_columns plan detail) (given column).kind ≡ true
  shown_one column within =
      let rules = keep_column_rules facts columns own in
      let shown = and_parts (nat_le 1 own && nat_le own 32 && rules) (are_shown (parent_columns plan detail) detail.columns) (keeps_each plan kept.lists detail keeps.keeps).columns in
      passes_each (λ (c : DetailColumn). is_shown (parent_columns plan detail) c.kind) detail.columns column a_column within shown.1

  -- ---- by their kinds

  ready_one : (column : ℕ) → column < own → CanBeReady kept.lists (kind_beside (given column).kind)
  ready_one column within =
      subst (λ (c : Column). CanBeReady kept.lists c.kind) (column_is column within)
      (limits.columns column a_schema_column (omega (arith, within, columns_count))).ready

  few : (column : ℕ) → column < own → column < 64
  few column within = omega (arith, within, limits.few_columns)

  -- the facts by the kind that the schema's own word lists give
  are_facts : (column : ℕ) → column < own → AreFactsOf (layout_of plan).units (known_tables plan) facts column (kind_layout plan.dictionaries plan.schema.tables columns (kind_beside (given column).kind))
  are_facts column within =
      are_facts_beside plan (table_beside detail) column (kind_layout plan.dictionaries plan.schema.tables columns (kind_beside (given column).kind)) (few column within)
      (kind_at-layout plan.dictionaries plan.schema.tables columns column (omega (arith, within, columns_count)) ∙ ap (kind_layout plan.dictionaries plan.schema.tables columns) (kind_is column within))

  earlier_one : (column : ℕ) → column < own → IsOfOthersAmong facts column (kind_layout plan.dictionaries plan.schema.tables columns (kind_beside (given column).kind))
  earlier_one column within =
      subst (λ (kind : Kind). IsOfOthersAmong facts column (kind_layout plan.dictionaries plan.schema.tables columns kind)) (kind_is column within)
      (made_of_earlier plan kept.lists detail keeps.keeps column within)

  by_kind : (column : ℕ) (kind : DetailKind) → CanBeReady kept.lists (kind_beside kind) → is_shown (parent_columns plan detail) kind ≡ true →
      AreFactsOf (layout_of plan).units (known_tables plan) facts column (kind_layout plan.dictionaries plan.schema.tables columns (kind_beside kind)) →
      IsOfOthersAmong facts column (kind_layout plan.dictionaries plan.schema.tables columns (kind_beside kind)) →
      IsKnown plan detail facts column (kind_layout kept.lists plan.schema.tables columns (kind_beside kind))
  by_kind column (LeafColumn leaf) ready shown are others = record {
    limits = All-head (λ l. IsLeafInLimits (leaf_layout kept.lists l)) leaf [] ready.drawn;
    days = are.days ∙ days_of_words plan.dictionaries kept.lists leaf;
    numbers = are.numbers ∙ numbers_of_words plan.dictionaries kept.lists leaf;
  }
  by_kind column (Parent name) ready shown are others =
      let tables = plan.schema.tables in
      let place : parent_via tables columns [] ≡ parent_place plan detail = parent_found ∙ parent_is in
      let shown_place : ℕ → ℕ = λ parent. place_of_column (columns_of_table tables parent) name in
      let found = facts_in-capped (column_facts (layout_of plan)) (parent_via tables columns []) (shown_place (parent_via tables columns [])) in
      record {
        parent_is = place;
        still = subst (λ (parent : ℕ). IsStillColumn (table_of plan parent) (shown_place (parent_via tables columns []))) parent_is
            (subst (λ (parent : ℕ). IsStillColumn (table_of plan (place_of_table tables detail.parent)) (shown_place parent)) (sym parent_found) (still name shown));
        days = are.days ∙ ap (λ (one : ColumnFacts). one.days) found ∙ ap (λ (parent : ℕ). (field_facts (layout_of plan) parent (shown_place (parent_via tables columns []))).days) place;
        numbers = are.numbers ∙ ap (λ (one : ColumnFacts). one.numbers) found ∙ ap (λ (parent : ℕ). (field_facts (layout_of plan) parent (shown_place (parent_via tables columns []))).numbers) place;
      }
  by_kind column (After of lo hi) ready shown are others = record {
    earlier = others.earlier;
    range = ready.after;
    dated = others.dated;
    days = are.days ∙ ap (λ (one : ColumnFacts). option_and_then (days_after lo hi) one.days) (get_or-take column facts (place_of_column columns of) _ others.earlier);
  }
  by_kind column (Sum of) ready shown are others = record {
    earlier = others.earlier;
    numeric = others.numeric;
    told = are.numbers ∙ ap sum_of (operands-kept facts column (map (place_of_column columns) of) others.earlier);
  }
  by_kind column (Product of) ready shown are others = record {
    earlier = others.earlier;
    numeric = others.numeric;
    told = are.numbers ∙ ap product_of (operands-kept facts column (map (place_of_column columns) of) others.earlier);
  }

  layout_is : (column : ℕ) → column < own → (column_at (columns_of plan kept) column).kind ≡ kind_layout kept.lists plan.schema.tables columns (kind_beside (given column).kind)
  layout_is column within =
      kind_at-layout kept.lists plan.schema.tables columns column (omega (arith, within, columns_count)) ∙ ap (kind_layout kept.lists plan.schema.tables columns) (kind_is column within)

  pub known : (column : ℕ) → column < own → IsKnown plan detail kept.facts column (column_at (columns_of plan kept) column).kind
  known column within =
      subst (λ (all : List ColumnFacts). IsKnown plan detail all column (column_at (columns_of plan kept) column).kind) (sym keeps.facts)
      (subst (IsKnown plan detail facts column) (sym (layout_is column within))
      (by_kind column (given column).kind (ready_one column within) (shown_one column within) (are_facts column within) (earlier_one column within)))

  -- ---- as they are kept ready

  pub ready_at : (column : ℕ) (none : ReadyColumn) → column < own → get_or kept.columns column none ≡ ready_column (layout_of plan).delimiter (column_at (columns_of plan kept) column)
  ready_at column none within =
      let layout : Column → ColumnLayout = column_layout kept.lists plan.schema.tables columns in
      let inside : column < length columns = omega (arith, within, columns_count) in
      ap (λ (ready : List ReadyColumn). get_or ready column none) keeps.columns
      ∙ get_or-map (λ (c : Column). ready_column (layout_of plan).delimiter (layout c)) columns column a_schema_column none inside
      ∙ ap (ready_column (layout_of plan).delimiter) (sym (get_or-map layout columns column a_schema_column no_column inside))

  pub ready_count : length kept.columns ≡ own + 1
  ready_count =
      ap length keeps.columns
      ∙ length-map columns (λ (c : Column). ready_column (layout_of plan).delimiter (column_layout kept.lists plan.schema.tables columns c))
      ∙ columns_count
