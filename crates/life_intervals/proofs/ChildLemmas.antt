-- The rows of a cohort that have a row as their parent, by their places.
use Rattle.std.proofs.Common.{◌≡◌, ℕ, true, ◌+◌, ◌-◌, ◌*◌, ◌^◌, ◌<◌, ◌≤◌, max, min, List, [], ◌∷◌, length, map, take, inl, inr, Option, Some, None, get_or, is_some, refl, ap, arith, subst, sym, ◌∙◌}
use Rattle.std.specs.Prelude.{◌==◌, All, IfSome}
use Rattle.std.specs.List.{flat_map, range_with_len}
use Rattle.std.specs.List.Sorted.{IsPermutation}
use Rattle.std.proofs.lemmas.Bool.{cases_lt, true≢false}
use Rattle.std.proofs.lemmas.List.Elements.{All-append}
use Rattle.philox_seeds.specs.SeedTree.{deal_seed, reference_order_seed}
use Rattle.id_permutation.specs.Order.{Arrangement, number_at, place_in}
use Rattle.id_permutation.proofs.OrderLaws.{AreInversesBelow-number_at}
use Rattle.cohort_sizes.specs.Births.{Births, LiesIn, birth, born_count, cohort_size, first_ordinal}
use Rattle.cohort_sizes.proofs.CohortLemmas.{birth-first_ordinal, birth-from, birth-le, birth-later, born_count-le}
use Rattle.schema_plan.specs.declared.ready.ReadyColumn.{ReadyColumn}
use Rattle.schema_plan.specs.declared.ready.ReadyReference.{ReadyReference}
use Rattle.schema_plan.specs.declared.ready.ReadyKind.TheVariants as kind
use Rattle.schema_plan.specs.Ready.{ready_columns}
use Rattle.schema_facts.specs.Dictionaries.{Project}
use Rattle.schema_facts.specs.Layout.{KindLayout, reference_kind, column_at, layout_of, table_at}
use Rattle.schema_plan.specs.Limits.{IsInLimits}
use Rattle.schema_facts.specs.References.{IsReferenceInLimits, IsSpread, Reference, count_in_window, first_in_window, reference_at, reference_of, window_start}
use Rattle.life_intervals.specs.Blocks.{block_below, places_of_parent, places_of}
use Rattle.life_intervals.specs.Children.{IsCandidate, IsInWindow, candidate_count, candidate_number, child_at, child_block, children, children_of_each, deal_number, deal_to, number_block}
use Rattle.life_intervals.specs.CohortOrders.{parent_order}
use Rattle.life_intervals.specs.CohortParents.{IsReferenceOf, deal_by, reference_by, window_by}
use Rattle.life_intervals.specs.declared.window.CandidateWindow.{CandidateWindow}
use Rattle.life_intervals.specs.Generator.{Generator, generator_of, last_unit, table_of}
use Rattle.life_intervals.specs.Intervals.{Known, known_tables, parent_by, parent_of}
use Rattle.life_intervals.specs.References.{choice, deal_of, dealt}
use Rattle.life_intervals.proofs.AcceptedLemmas.{length-tables}
use Rattle.life_intervals.proofs.BlockLemmas.{All-filter_below, block_below-cut, block_of-ends, block_of-over, none_from_over, over_from_none, places_before-all, places_of_parent-candidate}
use Rattle.life_intervals.proofs.CohortParentLemmas.{length-ready_columns, parent_below, ready_is, reference_from_columns, row_limit}
use Rattle.life_intervals.proofs.DealLemmas.{dealt-below}
use Rattle.life_intervals.proofs.KnownLemmas.{known_at-before, length-known_before}
use Rattle.life_intervals.proofs.OrderLemmas.{place_by-if}
use Rattle.life_intervals.proofs.PermutationLemmas.{IsPermutation-by_places, IsPermutation-flat_map, map-flat_map}
use Rattle.life_intervals.proofs.ReferenceLemmas.{at_column, reference_at-within}

-- the places of some rows are below the cohort's size
pub All-places : (spread : List ℕ) (deal : Arrangement) (first size most : ℕ) → size ≤ most → (rows : List ℕ) → All (λ place. place < most) (flat_map (places_of_parent spread deal first size) rows)
All-places spread deal first size most within [] = λ k d inside. absurd (omega (arith, inside))
All-places spread deal first size most within (row ∷ rows) =
    All-append (λ place. place < most) (places_of_parent spread deal first size row) (flat_map (places_of_parent spread deal first size) rows)
    (All-filter_below (λ place. first + place_in deal (choice spread deal.size place) == row) 0 size most (omega (arith, within))) (All-places spread deal first size most within rows)

-- a row's parent is the same, whatever the unit by which it is born
pub parent_of-later : (generator : Generator) (place unit last ordinal : ℕ) (reference : Reference) → ordinal < born_count (table_at generator.tables place).births unit → unit ≤ last →
    parent_of generator place last ordinal reference ≡ parent_of generator place unit ordinal reference
parent_of-later generator place unit last ordinal reference born within =
    let births : Births = (table_at generator.tables place).births in
    ap (λ (b : ℕ). parent_by generator.order (take place (known_tables generator)) b (ordinal - first_ordinal births b) reference) (birth-later births unit last ordinal born within)

-- a reference of a column names the column
pub column-reference_of : (column : ℕ) (kind : KindLayout) (reference : Reference) → reference_of column kind ≡ Some reference → reference.column ≡ column
column-reference_of column (reference_kind parent window spread nulls drawn) reference is = cc
column-reference_of column _ reference is = absurd (cc)

-- a row that is born in a window lies in it by its birth
pub IsInWindow-candidate : (plan : Project) (reference : Reference) (unit parent : ℕ) → IsCandidate plan reference unit parent →
    IsInWindow reference.window unit (birth (table_of plan reference.parent).births unit parent)
IsInWindow-candidate plan reference unit parent candidate =
    let births : Births = (table_of plan reference.parent).births in
    record {
      begun = recent reference.window (birth births unit parent) (birth-from births (window_start reference.window unit) unit parent candidate.born candidate.begun);
      by = birth-le births unit parent candidate.born;
    }
  where
    recent : (window : Option ℕ) (born : ℕ) → window_start window unit ≤ born → IfSome window (λ units. unit ≤ born + units)
    recent None born from = tt
    recent (Some units) born from = omega (arith, from)

module _ (plan : Project) (limits : IsInLimits plan) (table : ℕ) (below : table < length plan.schema.tables) (unit : ℕ) (within : unit ≤ last_unit plan) (column : ℕ) (reference : Reference) (at : reference_at (table_of plan table) column ≡ Some reference) where
  abbrev generator : Generator
  generator = generator_of plan

  abbrev births : Births
  births = (table_of plan table).births

  abbrev size : ℕ
  size = cohort_size births unit

  abbrev parents : Births
  parents = (table_of plan reference.parent).births

  abbrev first : ℕ
  first = first_in_window parents reference.window unit

  abbrev count : ℕ
  count = count_in_window parents reference.window unit

  abbrev seed : ℕ
  seed = deal_seed (layout_of plan).seed table reference.column unit

  abbrev deal : Arrangement
  deal = deal_to plan table reference unit

  in_tables : table < length generator.tables
  in_tables = omega (arith, below, length-tables plan)

  in_columns : column < length (table_of plan table).columns
  in_columns = reference_at-within (table_of plan table) column reference at

  pub reference-limits : IsReferenceInLimits (last_unit plan) (layout_of plan).tables table reference
  reference-limits = at_column (IsReferenceInLimits (last_unit plan) (layout_of plan).tables table) (table_of plan table) (limits.references table below) column reference in_columns at

  column_is : reference.column ≡ column
  column_is = column-reference_of column (column_at (table_of plan table).columns column).kind reference at

  -- where there are rows, they have some to choose of
  pub count-some : 0 < size → 0 < count
  count-some some = omega (arith, reference-limits.some_parent unit within some)

  -- the parent that a row of the cohort has, by its place
  pub parent_of-place : (index : ℕ) → index < size → parent_of generator table unit (first_ordinal births unit + index) reference ≡ first + place_in deal (choice reference.spread count (place_in (parent_order plan table column unit) index))
  parent_of-place index inside =
      let earlier : List Known = take table (known_tables generator) in
      let ordinal : ℕ = first_ordinal births unit + index in
      let birth_is : birth births unit ordinal ≡ unit = birth-first_ordinal births unit unit index (omega arith) inside in
      let index_is : ordinal - first_ordinal births unit ≡ index = omega arith in
      let placed : place_in (parent_order plan table column unit) index ≡ generator.order.place table column unit index =
      place_by-if true (cohort_size births unit) (reference_order_seed (layout_of plan).seed table column unit) index inside in
      let chosen : ℕ → Births → ℕ = λ place born.
      first_in_window born reference.window unit + dealt reference (generator.order.deal place reference.column unit) (count_in_window born reference.window unit) (generator.order.place place reference.column unit index) in
      ap (λ (b : ℕ). parent_by generator.order earlier b (ordinal - first_ordinal births b) reference) birth_is
      ∙ ap (λ (i : ℕ). parent_by generator.order earlier unit i reference) index_is
      ∙ ap (λ (known : Known). chosen (length earlier) known.table.births) (known_at-before generator table reference.parent in_tables reference-limits.earlier)
      ∙ ap (λ (place : ℕ). chosen place parents) (length-known_before generator table in_tables)
      ∙ ap (λ (named : ℕ). first + dealt reference seed count (generator.order.place table named unit index)) column_is
      ∙ ap (λ (place : ℕ). first + dealt reference seed count place) (sym placed)

  -- the children of a row are those at the places at which it is chosen
  pub children-places : (parent : ℕ) →
      IsPermutation (children plan table reference unit parent) (map (child_at plan table column unit) (places_of_parent reference.spread deal first size parent))
  children-places parent =
      let order = parent_order plan table column unit in
      IsPermutation-by_places (first_ordinal births unit) size (place_in order) (number_at order) (AreInversesBelow-number_at order)
      (λ ordinal. parent_of generator table unit ordinal reference == parent) (λ place. first + place_in deal (choice reference.spread count place) == parent)
      (λ index inside. ap (λ (p : ℕ). p == parent) (parent_of-place index inside))

  -- also by a window that counts one row where there is none, since then there is no place
  pub children-window : (parent : ℕ) →
      IsPermutation (children plan table reference unit parent) (map (child_at plan table column unit) (places_of_parent reference.spread (deal_of reference.drawn seed (max 1 count)) first size parent))
  children-window parent =
      let places : ℕ → ℕ → List ℕ = λ count size. places_of_parent reference.spread (deal_of reference.drawn seed count) first size parent in
      let same : places count size ≡ places (max 1 count) size =
      elim (cases_lt 0 size) [
        | inl some ↦ let many : count ≡ max 1 count = omega (arith, count-some some) in ap (λ (n : ℕ). places n size) many
        | inr none ↦
            let empty : size ≡ 0 = omega (arith, none) in
            ap (places count) empty ∙ sym (ap (places (max 1 count)) empty)
      ] in
      subst (λ (places : List ℕ). IsPermutation (children plan table reference unit parent) (map (child_at plan table column unit) places)) same (children-places parent)

  -- and those of each of some rows
  pub children-each : (rows : List ℕ) →
      IsPermutation (children_of_each plan table reference unit rows)
      (map (child_at plan table column unit) (flat_map (places_of_parent reference.spread (deal_of reference.drawn seed (max 1 count)) first size) rows))
  children-each rows =
      let places : ℕ → List ℕ = places_of_parent reference.spread (deal_of reference.drawn seed (max 1 count)) first size in
      subst (IsPermutation (children_of_each plan table reference unit rows)) (sym (map-flat_map (child_at plan table column unit) places rows))
      (IsPermutation-flat_map (children plan table reference unit) (λ parent. map (child_at plan table column unit) (places parent)) children-window rows)

  -- a row's parent is one of those of which the cohort chooses
  pub parent_of-candidate : (ordinal : ℕ) → LiesIn births unit ordinal → IsCandidate plan reference unit (parent_of generator table unit ordinal reference)
  parent_of-candidate ordinal lies =
      let index : ℕ = ordinal - first_ordinal births unit in
      let inside : index < size = omega (arith, lies.begun, lies.not_ended) in
      let is : first_ordinal births unit + index ≡ ordinal = omega (arith, lies.begun) in
      let placed : parent_of generator table unit ordinal reference ≡ first + dealt reference seed count (place_in (parent_order plan table column unit) index) =
      ap (λ (j : ℕ). parent_of generator table unit j reference) (sym is) ∙ parent_of-place index inside in
      let some : 0 < count = count-some (omega (arith, inside)) in
      let chosen : dealt reference seed count (place_in (parent_order plan table column unit) index) < count = dealt-below reference seed count _ some in
      record { begun = omega (arith, placed); born = omega (arith, placed, chosen, some) }

  -- ---- block by block

  module _ (parent : ℕ) (candidate : IsCandidate plan reference unit parent) where
    pub number_below : candidate_number plan reference unit parent < count
    number_below = omega (arith, candidate.begun, candidate.born)

    -- the number with which it is dealt is one of theirs
    pub deal_number-below : deal_number plan table reference unit parent < count
    deal_number-below = (AreInversesBelow-number_at deal).within_back _ number_below

    pub children-blocks : (turns : ℕ) → child_block plan table reference parent unit turns ≡ None →
        IsPermutation (children plan table reference unit parent)
        (map (child_at plan table column unit) (flat_map (λ turn. places_of (child_block plan table reference parent unit turn)) (range_with_len 0 turns)))
    children-blocks turns none =
        let number : ℕ = deal_number plan table reference unit parent in
        let whole : first + candidate_number plan reference unit parent ≡ parent = omega (arith, candidate.begun) in
        subst (λ (places : List ℕ). IsPermutation (children plan table reference unit parent) (map (child_at plan table column unit) places))
        (sym (
        places_before-all reference.spread reference-limits.spread size count number deal_number-below turns (over_from_none reference.spread size (number + turns * count) none)
        ∙ places_of_parent-candidate reference.spread deal first size parent (candidate_number plan reference unit parent) number_below whole))
        (children-places parent)

    pub child_block-ends : child_block plan table reference parent unit size ≡ None
    child_block-ends =
        let number : ℕ = deal_number plan table reference unit parent in
        none_from_over reference.spread size (number + size * count) (block_of-ends reference.spread reference-limits.spread size count number deal_number-below)

  pub child_block-over : (parent turn later : ℕ) → turn ≤ later → child_block plan table reference parent unit turn ≡ None → child_block plan table reference parent unit later ≡ None
  child_block-over parent turn later order none =
      let number : ℕ = deal_number plan table reference unit parent in
      none_from_over reference.spread size (number + later * count)
      (block_of-over reference.spread reference-limits.spread size count number turn later order (over_from_none reference.spread size (number + turn * count) none))

-- a window is of at most 2^40 rows
pub window-count : (plan : Project) → IsInLimits plan → (table unit column : ℕ) (ready : ReadyReference) → table < length plan.schema.tables → unit ≤ last_unit plan → IsReferenceOf plan table column ready →
    (window_by plan ready unit).count ≤ 2 ^ 40
window-count plan limits table unit column ready below within of =
    let parents : Births = (table_of plan ready.parent).births in
    omega (arith, born_count-le parents unit (last_unit plan) within, row_limit plan limits ready.parent (parent_below plan limits table column ready below of))

-- the children of some rows by a reference that is ready
pub children-ready : (plan : Project) → IsInLimits plan → (table : ℕ) → table < length plan.schema.tables → (unit : ℕ) → unit ≤ last_unit plan →
    (column : ℕ) (ready : ReadyReference) → IsReferenceOf plan table column ready → (deal : Arrangement) → deal ≡ deal_by plan table column ready unit →
    (window : CandidateWindow) → window ≡ window_by plan ready unit → (size : ℕ) → size ≡ cohort_size (table_of plan table).births unit → (rows : List ℕ) →
    IsPermutation (children_of_each plan table (reference_by column ready) unit rows) (map (child_at plan table column unit) (flat_map (places_of_parent ready.spread deal window.first size) rows))
children-ready plan limits table below unit within column ready of deal deal_is window window_is size size_is rows =
    let Are : Arrangement → ℕ → ℕ → Type 0 = λ deal first size.
    IsPermutation (children_of_each plan table (reference_by column ready) unit rows) (map (child_at plan table column unit) (flat_map (places_of_parent ready.spread deal first size) rows)) in
    subst (λ (d : Arrangement). Are d window.first size) (sym deal_is)
    (subst (λ (w : CandidateWindow). Are (deal_by plan table column ready unit) w.first size) (sym window_is)
    (subst (Are (deal_by plan table column ready unit) (window_by plan ready unit).first) (sym size_is)
    (children-each plan limits table below unit within column (reference_by column ready) (ready_is plan table column ready of).is rows)))

-- a column that has a reference
pub record HasReference (at : Option Reference) : Type 0 where
  pub reference : Reference
  pub is : at ≡ Some reference

pub HasReference-some : (at : Option Reference) → is_some at ≡ true → HasReference at
HasReference-some None none = absurd (true≢false (sym none))
HasReference-some (Some reference) some = record { reference = reference; is = refl }

-- a column that is read as a reference has the one that is ready
pub record IsRead (plan : Project) (table column : ℕ) (ready : ReadyReference) (reference : Reference) : Type 0 where
  pub of : IsReferenceOf plan table column ready
  pub same : reference_by column ready ≡ reference

pub IsRead-columns : (plan : Project) (table column : ℕ) (columns : List ReadyColumn) (held : ReadyColumn) (ready : ReadyReference) (reference : Reference) → columns ≡ ready_columns (layout_of plan) table →
    held ≡ get_or columns column held → held.kind ≡ kind.Reference ready → reference_at (table_of plan table) column ≡ Some reference → IsRead plan table column ready reference
IsRead-columns plan table column columns held ready reference are is kind_is at =
    let within : column < length columns = omega (arith, reference_at-within (table_of plan table) column reference at, ap length are, length-ready_columns plan table) in
    let of = reference_from_columns plan table column columns held ready are within is kind_is in
    let both : Some (reference_by column ready) ≡ Some reference = sym (ready_is plan table column ready of).is ∙ at in
    record { of = of; same = cc }

-- the block of a turn, by a number that is cut past the size of the cohort
pub number_block-cut : (plan : Project) (table column unit dealt turn : ℕ) (ready : ReadyReference) (window : CandidateWindow) (size number most : ℕ) → IsSpread ready.spread → dealt < candidate_count plan (reference_by column ready) unit →
    window ≡ window_by plan ready unit → size ≡ cohort_size (table_of plan table).births unit → size ≤ most → number ≡ min (min (turn * window.count) most + dealt) most →
    block_below ready.spread size number ≡ number_block plan table (reference_by column ready) dealt unit turn
number_block-cut plan table column unit dealt turn ready window size number most spread below window_is size_is within number_is =
    let births : Births = (table_of plan ready.parent).births in
    let count : ℕ = count_in_window births ready.window unit in
    let exact : ℕ = dealt + turn * count in
    let many : (window_by plan ready unit).count ≡ count = omega (arith, below) in
    let count_is : turn * window.count ≡ turn * count = ap (λ (w : CandidateWindow). turn * w.count) window_is ∙ ap (λ (n : ℕ). turn * n) many in
    let cut : number ≡ min exact most = omega (arith, number_is, count_is) in
    ap (block_below ready.spread size) cut ∙ block_below-cut ready.spread spread size exact most within ∙ ap (λ (n : ℕ). block_below ready.spread n exact) size_is
