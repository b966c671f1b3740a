-- What a plan keeps of the columns, so that nothing that stays the same is worked out for a row.
use Rattle.std.specs.Prelude.{ℕ, ◌+◌, ◌-◌, ◌^◌, Bool, List, encode_utf8, length, map, Option, sum}
use Rattle.std.specs.Str.{chars}
use Rattle.weight_tables.specs.Harmonic.{harmonic_weights}
use Rattle.row_text.specs.Fields.{escaped_text}
use Rattle.schema_plan.specs.declared.ready.ReadyColumn.{ReadyColumn}
use Rattle.schema_plan.specs.declared.ready.ReadyKind.{ReadyKind}
use Rattle.schema_plan.specs.declared.ready.ReadyKind.TheVariants as kind
use Rattle.schema_plan.specs.declared.ready.ReadyPart.{ReadyPart}
use Rattle.schema_plan.specs.declared.ready.ReadyPart.TheVariants as part
use Rattle.schema_plan.specs.declared.ready.ReadyReference.{ReadyReference}
use Rattle.schema_plan.specs.declared.ready.ReadyLeaf.{ReadyLeaf}
use Rattle.schema_plan.specs.declared.ready.ReadyLeaf.TheVariants as leaf
use Rattle.schema_facts.specs.Choices.{choices}
use Rattle.schema_facts.specs.Layout.{LeafLayout, int_leaf, fixed_leaf, date_leaf, pick_leaf, skew_leaf, dict_leaf, words_leaf, chars_leaf, uuid_leaf, PartLayout, literal_part, cited_part, KindLayout, key_kind, born_kind, changed_kind, leaf_kind, template_kind, case_kind, reference_kind, lookup_kind, ColumnLayout, Layout, table_at, list_kind, unit_date_kind, after_kind, sum_kind, product_kind}
use Rattle.schema_plan.specs.ReadyWords.{written_words}

-- a value that is drawn for a field alone: the number of choices of a range, the weights with their sum, entries as they are written
abbrev pub ready_leaf : ℕ → LeafLayout → ReadyLeaf
ready_leaf delimiter (int_leaf lo hi step) = leaf.Int lo hi step (choices lo hi step)
ready_leaf delimiter (fixed_leaf lo hi decimals) = leaf.Fixed lo hi (choices lo hi 1) decimals (10 ^ decimals)
ready_leaf delimiter (date_leaf lo hi) = leaf.Date lo hi (choices lo hi 1)
ready_leaf delimiter (pick_leaf entries weights) = leaf.Pick (map (escaped_text delimiter) entries) weights (sum weights)
ready_leaf delimiter (skew_leaf lo size power) =
    leaf.Skew lo (harmonic_weights size power) (sum (harmonic_weights size power))
ready_leaf delimiter (dict_leaf words) = leaf.Dict (written_words delimiter words)
ready_leaf delimiter (words_leaf words lo hi) = leaf.Words lo (hi - lo + 1) (written_words delimiter words)
ready_leaf delimiter (chars_leaf alphabet lo hi) =
    leaf.Chars lo (hi - lo + 1) (map (λ c. escaped_text delimiter (encode_utf8 c)) (chars alphabet)) (length (chars alphabet))
ready_leaf delimiter uuid_leaf = leaf.Uuid

-- a part of a template: a text as it is written, or the place of the column that it cites, and up to how many bytes it is filled
abbrev pub ready_part : ℕ → PartLayout → ReadyPart
ready_part delimiter (literal_part bytes) = part.Literal (escaped_text delimiter bytes)
ready_part delimiter (cited_part column width) = part.Cited column width

-- a reference: the weights of its spread with their number and their sum
abbrev pub ready_reference : ℕ → Option ℕ → List ℕ → Bool → Bool → ReadyReference
ready_reference parent window spread nulls drawn =
    record { parent = parent; window = window; spread = spread; groups = length spread; total = sum spread; nulls = nulls; drawn = drawn }

-- what a column holds of this kind
abbrev pub ready_kind : ℕ → KindLayout → ReadyKind
ready_kind delimiter key_kind = kind.Key
ready_kind delimiter born_kind = kind.Born
ready_kind delimiter changed_kind = kind.Changed
ready_kind delimiter (leaf_kind drawn) = kind.Drawn (ready_leaf delimiter drawn)
ready_kind delimiter (template_kind parts) = kind.Template (map (ready_part delimiter) parts)
ready_kind delimiter (case_kind on branches) = kind.Case on (map (ready_leaf delimiter) branches)
ready_kind delimiter (reference_kind parent window spread nulls drawn) = kind.Reference (ready_reference parent window spread nulls drawn)
ready_kind delimiter (lookup_kind via parent column) = kind.Lookup (record { via = via; parent = parent; column = column })
ready_kind delimiter (list_kind words) = kind.List (record { words = written_words delimiter words; count = length words.entries })
ready_kind delimiter (unit_date_kind changed start step) = kind.UnitDate (record { changed = changed; start = start; step = step })
ready_kind delimiter (after_kind of lo hi) = kind.After (record { of = of; lo = lo; hi = hi; choices = choices lo hi 1 })
ready_kind delimiter (sum_kind of) = kind.Sum of
ready_kind delimiter (product_kind of) = kind.Product of

-- a column
abbrev pub ready_column : ℕ → ColumnLayout → ReadyColumn
ready_column delimiter column = record { kind = ready_kind delimiter column.kind; changes = column.changes; null = column.null }

-- the columns of the table at a place
abbrev pub ready_columns : Layout → ℕ → List ReadyColumn
ready_columns layout place = map (ready_column layout.delimiter) (table_at layout.tables place).columns
