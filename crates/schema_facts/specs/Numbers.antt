-- The numbers that the fields of numeric columns hold: with how many digits after the point, from a least to a greatest one as they stand
-- without the point, and how many drawn values are read to make one. Whole numbers, numbers with a point, skews, sums, products and lookups
-- of these are numeric.
use Rattle.std.specs.Prelude.{ℕ, ℤ, pos, neg_ℤ, ◌+◌, ◌-◌, ◌^◌, ◌+ℤ◌, ◌*ℤ◌, ◌&&◌, nat_le, int_le, if◌then◌else◌, List, map, Option, Some, None, option_and_then, option_map}
use Rattle.std.specs.Int.{int_max, int_min}
use Rattle.std.specs.List.{fold}
use Rattle.schema_facts.specs.declared.column_facts.ColumnFacts.{ColumnFacts}
use Rattle.schema_facts.specs.declared.numbers.Numbers.{Numbers}
use Rattle.schema_facts.specs.FactsBefore.{facts_among, facts_in}
use Rattle.schema_facts.specs.FieldSizes.{greatest_by}
use Rattle.schema_facts.specs.Layout.{LeafLayout, int_leaf, fixed_leaf, skew_leaf, KindLayout, leaf_kind, lookup_kind, sum_kind, product_kind}

-- ---- of drawn values

-- from a least to a greatest one, each read from one drawn value
abbrev pub drawn_numbers : ℕ → ℤ → ℤ → Numbers
drawn_numbers decimals least greatest = record { decimals = decimals; least = least; greatest = greatest; reads = 1 }

-- of a drawn value; None where it isn't a number. A skew whose last number is past 64 bits breaks a rule, and has none
abbrev pub numbers_of_leaf : LeafLayout → Option Numbers
numbers_of_leaf (int_leaf lo hi step) = Some (drawn_numbers 0 lo hi)
numbers_of_leaf (fixed_leaf lo hi decimals) = Some (drawn_numbers decimals lo hi)
numbers_of_leaf (skew_leaf lo size power) =
    if int_le (lo +ℤ pos (size - 1)) (pos (2 ^ 63 - 1)) then Some (drawn_numbers 0 lo (lo +ℤ pos (size - 1))) else None
numbers_of_leaf _ = None

-- ---- of sums and products

-- a number where it is from -(2^63 - 1) to 2^63 - 1
abbrev pub in_range : ℤ → Option ℤ
in_range n = if int_le (neg_ℤ (pos (2 ^ 63 - 1))) n && int_le n (pos (2 ^ 63 - 1)) then Some n else None

-- the numbers between two ends in range, with at most 9 digits after the point and at most 64 reads; None where it isn't so
abbrev pub joined : ℕ → Option ℤ → Option ℤ → ℕ → Option Numbers
joined decimals (Some least) (Some greatest) reads =
    if nat_le decimals 9 && nat_le reads 64
    then Some (record { decimals = decimals; least = least; greatest = greatest; reads = reads })
    else None
joined decimals _ _ reads = None

-- a number with more digits after the point
abbrev pub scaled : ℕ → ℤ → ℤ
scaled more n = n *ℤ pos (10 ^ more)

-- an end of a sum so far with that of one more operand, which is in range with the digits of the sum
abbrev pub sum_end : ℕ → ℤ → ℤ → Option ℤ
sum_end more so_far end = option_and_then (λ n. in_range (so_far +ℤ n)) (in_range (scaled more end))

-- a sum so far with one more operand
abbrev pub plus : Numbers → Numbers → Option Numbers
plus so_far operand =
    let more = so_far.decimals - operand.decimals in
    joined so_far.decimals (sum_end more so_far.least operand.least) (sum_end more so_far.greatest operand.greatest) (so_far.reads + operand.reads)

-- an end of a product so far times one of one more operand, which is in range
abbrev pub product_end : ℤ → ℤ → Option ℤ
product_end so_far end = option_and_then (λ n. in_range (so_far *ℤ n)) (in_range end)

-- the lesser and the greater of two numbers, where both are in range
abbrev pub lesser : Option ℤ → Option ℤ → Option ℤ
lesser one other = option_and_then (λ n. option_map (int_min n) other) one

abbrev pub greater : Option ℤ → Option ℤ → Option ℤ
greater one other = option_and_then (λ n. option_map (int_max n) other) one

-- a product so far with one more operand: it ends at the least and the greatest of the four products of an end with an end
abbrev pub times : Numbers → Numbers → Option Numbers
times so_far operand =
    let a = product_end so_far.least operand.least in
    let b = product_end so_far.least operand.greatest in
    let c = product_end so_far.greatest operand.least in
    let d = product_end so_far.greatest operand.greatest in
    joined (so_far.decimals + operand.decimals) (lesser (lesser a b) (lesser c d)) (greater (greater a b) (greater c d)) (so_far.reads + operand.reads)

-- one more operand; None where it isn't numeric
abbrev pub with_operand : (Numbers → Numbers → Option Numbers) → Option Numbers → Option Numbers → Option Numbers
with_operand join so_far operand = option_and_then (λ numbers. option_and_then (join numbers) operand) so_far

-- the one number from which operands are joined: 0 for a sum, 1 for a product
abbrev pub start_from : ℕ → ℤ → Numbers
start_from decimals n = record { decimals = decimals; least = n; greatest = n; reads = 0 }

-- the digits after the point of an operand, 0 where it isn't numeric
abbrev pub decimals_of : Option Numbers → ℕ
decimals_of None = 0
decimals_of (Some numbers) = numbers.decimals

-- the most digits after the point of any operand
abbrev pub most_decimals : List (Option Numbers) → ℕ
most_decimals operands = greatest_by decimals_of operands

-- of the sum of some operands, in order: it has the most digits of any of them
abbrev pub sum_of : List (Option Numbers) → Option Numbers
sum_of operands =
    if nat_le (most_decimals operands) 9 then fold (with_operand plus) (Some (start_from (most_decimals operands) (pos 0))) operands else None

-- of their product: it has the digits of all of them
abbrev pub product_of : List (Option Numbers) → Option Numbers
product_of operands = fold (with_operand times) (Some (start_from 0 (pos 1))) operands

-- ---- of columns

-- of the columns at some places among those before
abbrev pub operands : List ColumnFacts → List ℕ → List (Option Numbers)
operands before of = map (λ place. (facts_among before place).numbers) of

-- of a column; None where it isn't numeric, or where its rule is broken since its numbers leave the range
abbrev pub numbers_of_kind : List (List ColumnFacts) → List ColumnFacts → KindLayout → Option Numbers
numbers_of_kind earlier before (leaf_kind leaf) = numbers_of_leaf leaf
numbers_of_kind earlier before (lookup_kind via parent column) = (facts_in earlier parent column).numbers
numbers_of_kind earlier before (sum_kind of) = sum_of (operands before of)
numbers_of_kind earlier before (product_kind of) = product_of (operands before of)
numbers_of_kind earlier before _ = None
