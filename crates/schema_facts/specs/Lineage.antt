-- What the rows of a table take over from the tables that they refer to: for how long they live, what their death costs, and what it
-- costs to tell which of their parents they have lost.
use Rattle.std.specs.Prelude.{ℕ, ◌+◌, ◌-◌, min, List, [], Bool, true, false, if◌then◌else◌, is_some, Option, Some, None, slice_index_or, sum_by, unwrap_or}
use Rattle.std.specs.List.{fold}
use Rattle.std.specs.Option.{option_map}
use Rattle.schema_facts.specs.declared.layout.Span.{Span}
use Rattle.schema_facts.specs.declared.lineage.Lineage.{Lineage}
use Rattle.schema_facts.specs.InTurn.{in_turn}
use Rattle.schema_facts.specs.Layout.{PartLayout, literal_part, cited_part, KindLayout, template_kind, reference_kind, ColumnLayout, TableLayout, column_at}

-- 1 where a test is true, else 0
abbrev pub one_if : Bool → ℕ
one_if test = if test then 1 else 0

-- how many permutations choose a row's parent by a reference: the one that places the row, and in a drawn deal that of the candidates
abbrev pub choice_cost : Bool → ℕ
choice_cost drawn = 1 + one_if drawn

-- the lesser of two lives; None is a life without a bound
abbrev pub lesser_life : Option ℕ → Option ℕ → Option ℕ
lesser_life None other = other
lesser_life (Some life) None = Some life
lesser_life (Some life) (Some other) = Some (min life other)

-- of a table that nothing ends
abbrev pub endless : Lineage
endless = record { sure_life = None; longest_life = None; death_cost = 0; loss_cost = 0; null_cost = 0 }

-- of the table at a place among those that come before
abbrev pub lineage_at : List Lineage → ℕ → Lineage
lineage_at earlier place = slice_index_or earlier place endless

-- of a table's own life: its death costs the permutation of lives
abbrev pub own_lineage : Option Span → Lineage
own_lineage life = record {
  sure_life = option_map (λ (span : Span). span.least) life;
  longest_life = option_map (λ (span : Span). span.most) life;
  death_cost = one_if (is_some life);
  loss_cost = 0;
  null_cost = 0;
}

-- with a parent, who may be older by some units: it lives at least so much less than the parent's rows do for sure, and its
-- death costs what chooses the parent, and the parent's death
abbrev pub with_parent : Lineage → Lineage → Option ℕ → Bool → Lineage
with_parent own parent window drawn = record own {
  sure_life = lesser_life own.sure_life (option_map (λ life. life - unwrap_or window 0) parent.sure_life);
  longest_life = lesser_life own.longest_life parent.longest_life;
  death_cost = own.death_cost + (choice_cost drawn + parent.death_cost);
}

-- with a parent whom it outlives: that the row has lost it costs what chooses the parent, and the parent's death
abbrev pub with_loss : Lineage → Lineage → Bool → Lineage
with_loss own parent drawn = record own { loss_cost = own.loss_cost + (choice_cost drawn + parent.death_cost) }

-- with what a column adds: a reference has a parent, with whom the row is deleted or whom it outlives, and no other kind has
abbrev pub with_kind : List Lineage → Lineage → KindLayout → Lineage
with_kind earlier own (reference_kind parent window spread false drawn) = with_parent own (lineage_at earlier parent) window drawn
with_kind earlier own (reference_kind parent window spread true drawn) = with_loss own (lineage_at earlier parent) drawn
with_kind earlier own _ = own

-- how many permutations tell at most whether a reference is null, by its kind: those of the parent's death, if the row outlives that
abbrev pub null_cost_of : List Lineage → KindLayout → ℕ
null_cost_of earlier (reference_kind parent window spread true drawn) = (lineage_at earlier parent).death_cost
null_cost_of earlier _ = 0

-- the same for what a part of a template cites
abbrev pub null_cost_of_part : List Lineage → List ColumnLayout → PartLayout → ℕ
null_cost_of_part earlier columns (literal_part bytes) = 0
null_cost_of_part earlier columns (cited_part column width) = null_cost_of earlier (column_at columns column).kind

-- for a field of one of some columns: for its own reference, or for those that its parts cite
abbrev pub null_cost_of_field : List Lineage → List ColumnLayout → KindLayout → ℕ
null_cost_of_field earlier columns (template_kind parts) = sum_by (null_cost_of_part earlier columns) parts
null_cost_of_field earlier columns kind = null_cost_of earlier kind

-- for a line of some columns
abbrev pub null_cost_of_line : List Lineage → List ColumnLayout → ℕ
null_cost_of_line earlier columns = sum_by (λ (column : ColumnLayout). null_cost_of_field earlier columns column.kind) columns

-- of a table, by those of the tables before it
abbrev pub lineage_of : List Lineage → TableLayout → Lineage
lineage_of earlier table =
    record (fold (λ own (column : ColumnLayout). with_kind earlier own column.kind) (own_lineage table.life) table.columns) {
      null_cost = null_cost_of_line earlier table.columns;
    }

-- of each table, in order
unfoldable pub lineages : List TableLayout → List Lineage
lineages tables = in_turn lineage_of [] tables

-- for how many units at least the rows of the table at a place live; None where that is unbounded
abbrev pub sure_life : List TableLayout → ℕ → Option ℕ
sure_life tables place = (lineage_at (lineages tables) place).sure_life

-- for how many units at most they live; None where that is unbounded
abbrev pub longest_life : List TableLayout → ℕ → Option ℕ
longest_life tables place = (lineage_at (lineages tables) place).longest_life

-- how many permutations the death of a row takes at most: that of its own life, and for each reference with whose parent it is
-- deleted those that choose the parent and those of the parent's death
abbrev pub death_cost : List TableLayout → ℕ → ℕ
death_cost tables place = (lineage_at (lineages tables) place).death_cost

-- how many permutations it takes at most when a row lost which parents: for each reference that becomes null those that choose the
-- parent and those of its death
abbrev pub loss_cost : List TableLayout → ℕ → ℕ
loss_cost tables place = (lineage_at (lineages tables) place).loss_cost

-- how many permutations it takes at most which of the references that a row's line shows are null
abbrev pub null_cost : List TableLayout → ℕ → ℕ
null_cost tables place = (lineage_at (lineages tables) place).null_cost
