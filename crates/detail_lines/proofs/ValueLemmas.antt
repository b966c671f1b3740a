-- How the values of a line are written.
use Rattle.std.proofs.Common.{◌≡◌, ◌≤◌, ℕ, ℤ, zero, suc, pos, ◌+ℤ◌, arith, List, Option, Some, None, refl, ap}
use Rattle.std.specs.Option.{option_map}
use Rattle.std.proofs.lemmas.Int.{ints}
use Rattle.row_text.specs.Fields.{escaped_text, field_text}
use Rattle.schema_plan.specs.declared.ready.ReadyLeaf.{ReadyLeaf}
use Rattle.schema_plan.specs.declared.ready.ReadyLeaf.TheVariants as leaf
use Rattle.schema_plan.specs.declared.ready.ReadyKind.TheVariants as kind
use Rattle.schema_plan.specs.declared.ready.ReadyLookup.{ReadyLookup}
use Rattle.schema_facts.specs.Layout.{KindLayout, LeafLayout, leaf_kind, lookup_kind}
use Rattle.schema_plan.specs.Limits.{IsLeafInLimits}
use Rattle.schema_plan.specs.Ready.{ready_kind, ready_leaf}
use Rattle.draw_values.specs.declared.leaf_numbers.Number.{Number}
use Rattle.draw_values.specs.Dates.{date_text}
use Rattle.draw_values.specs.ReadyValues.{IsReady, ready_leaf_day, ready_leaf_number, ready_size, ready_text}
use Rattle.draw_values.specs.Values.{Draws, chosen, chosen_group, leaf_value, number_text}
use Rattle.draw_values.proofs.OwnEndLemmas.{chosen-between}
use Rattle.draw_values.proofs.PlainLemmas.{escaped_text-plain, plain-date_text, plain-signed_pointed}
use Rattle.draw_values.proofs.ReadyLemmas.{leaf_value-written}
use Rattle.detail_lines.specs.Shown.{IsInCalendar, number_size}

-- ---- kinds, as they are kept ready

pub leaf_from_ready : (delimiter : ℕ) (held : KindLayout) (drawn : ReadyLeaf) → ready_kind delimiter held ≡ kind.Drawn drawn → (layout : LeafLayout) × (held ≡ leaf_kind layout) × (drawn ≡ ready_leaf delimiter layout)
leaf_from_ready delimiter (leaf_kind layout) drawn is = let same : drawn ≡ ready_leaf delimiter layout = cc in (layout, refl, same)
leaf_from_ready delimiter _ drawn is = absurd (cc)

pub lookup_from_ready : (delimiter : ℕ) (held : KindLayout) (lookup : ReadyLookup) → ready_kind delimiter held ≡ kind.Lookup lookup → held ≡ lookup_kind lookup.via lookup.parent lookup.column
lookup_from_ready delimiter (lookup_kind via parent column) lookup is =
    let same : record { via = via; parent = parent; column = column } ≡ lookup = cc in
    ap (λ (l : ReadyLookup). lookup_kind l.via l.parent l.column) same
lookup_from_ready delimiter _ lookup is = absurd (cc)

-- ---- drawn values

written : (delimiter : ℕ) (held : Option (List ℕ)) (text : List ℕ) → option_map (escaped_text delimiter) held ≡ Some text → field_text delimiter held ≡ text
written delimiter None text is = absurd (cc)
written delimiter (Some bytes) text is = let same : escaped_text delimiter bytes ≡ text = cc in same

pub drawn-written : (delimiter : ℕ) (layout : LeafLayout) (draw : Draws) → IsLeafInLimits layout → field_text delimiter (leaf_value layout draw) ≡ ready_text (ready_leaf delimiter layout) draw
drawn-written delimiter layout draw limits = written delimiter (leaf_value layout draw) (ready_text (ready_leaf delimiter layout) draw) (leaf_value-written delimiter layout draw limits)

-- a date is written by its day, and a number as it is spelled
pub day-written : (drawn : ReadyLeaf) (draw : Draws) (day : ℤ) → Some day ≡ ready_leaf_day drawn draw → date_text day ≡ ready_text drawn draw
day-written (leaf.Date lo hi count) draw day is = let same : day ≡ chosen lo hi 1 (draw 1) = cc in ap date_text same
day-written _ draw day is = absurd (cc)

pub number-written : (drawn : ReadyLeaf) (draw : Draws) (number : Number) → Some number ≡ ready_leaf_number drawn draw → number_text number ≡ ready_text drawn draw
number-written (leaf.Int lo hi step count) draw number is =
    let same : number ≡ record { value = chosen lo hi step (draw 1); decimals = 0 } = cc in ap number_text same
number-written (leaf.Fixed lo hi count decimals unit) draw number is =
    let same : number ≡ record { value = chosen lo hi 1 (draw 1); decimals = decimals } = cc in ap number_text same
number-written (leaf.Skew lo weights total) draw number is =
    let same : number ≡ record { value = lo +ℤ pos (chosen_group weights (draw 1)); decimals = 0 } = cc in ap number_text same
number-written _ draw number is = absurd (cc)

-- ---- dates after dates, and totals

-- what is written for a day, and for a number, where there is one
pub date-written : (delimiter : ℕ) (day : ℤ) → escaped_text delimiter (date_text day) ≡ date_text day
date-written delimiter day = escaped_text-plain delimiter (date_text day) (plain-date_text day)

pub total-written : (delimiter : ℕ) (number : Number) → escaped_text delimiter (number_text number) ≡ number_text number
total-written delimiter number = escaped_text-plain delimiter (number_text number) (plain-signed_pointed number.decimals number.value)

-- ---- what is read of a drawn value

-- a date is in the calendar, and is written in 10 bytes
pub day-calendar : (drawn : ReadyLeaf) (draw : Draws) (day : ℤ) → IsReady drawn → Some day ≡ ready_leaf_day drawn draw → IsInCalendar day × (ready_size drawn ≡ 10)
day-calendar (leaf.Date lo hi count) draw day ready is =
    let same : day ≡ chosen lo hi 1 (draw 1) = cc in
    let between = chosen-between lo hi 1 (draw 1) ready.0.ordered in
    (record { first_day = omega (arith, ints, same, between.from, ready.0.first_day); last_day = omega (arith, ints, same, between.to, ready.0.last_day) }, refl)
day-calendar _ draw day ready is = absurd (cc)

-- a number has at most 9 digits after the point, and is written in as many bytes as its size
pub number-sized : (drawn : ReadyLeaf) (draw : Draws) (number : Number) → IsReady drawn → Some number ≡ ready_leaf_number drawn draw → (number.decimals ≤ 9) × (number_size number.decimals ≤ ready_size drawn)
number-sized (leaf.Int lo hi step count) draw number ready is =
    let same : number ≡ record { value = chosen lo hi step (draw 1); decimals = 0 } = cc in
    let none : number.decimals ≡ 0 = ap (λ (n : Number). n.decimals) same in
    (omega (arith, none), omega (arith, ap number_size none))
number-sized (leaf.Fixed lo hi count decimals unit) draw number ready is =
    let same : number ≡ record { value = chosen lo hi 1 (draw 1); decimals = decimals } = cc in
    (omega (arith, ap (λ (n : Number). n.decimals) same, ready.2), most number.decimals)
  where
    most : (digits : ℕ) → number_size digits ≤ 21
    most zero = omega arith
    most (suc digits) = omega arith
number-sized (leaf.Skew lo weights total) draw number ready is =
    let same : number ≡ record { value = lo +ℤ pos (chosen_group weights (draw 1)); decimals = 0 } = cc in
    let none : number.decimals ≡ 0 = ap (λ (n : Number). n.decimals) same in
    (omega (arith, none), omega (arith, ap number_size none))
number-sized _ draw number ready is = absurd (cc)
