-- The places at which a spread chooses one of some candidates, block by block.
use Rattle.std.specs.Prelude.{ℕ, ◌+◌, ◌-◌, ◌*◌, ◌/◌, ◌%◌, ◌==◌, List, [], filter, if◌then◌else◌, length, min, nat_lt, slice_index, sum, Option, Some, None}
use Rattle.std.specs.List.{range_with_len}
use Rattle.id_permutation.specs.Order.{Arrangement, place_in}
use Rattle.weight_tables.specs.Weights.{weight_before}
use Rattle.life_intervals.specs.declared.children.Block.{Block}
use Rattle.life_intervals.specs.References.{choice}

-- a spread's weights give out all places in order, in blocks: as many as a weight says, weight by weight, turn by turn. The first place of
-- the block with a number
abbrev pub block_start : List ℕ → ℕ → ℕ
block_start spread number = number / length spread * sum spread + weight_before spread (number % length spread)

-- the block of the places below a size, as many as there are; None exactly where it would begin at or past the size
abbrev pub block_below : List ℕ → ℕ → ℕ → Option Block
block_below spread size number =
    let start = block_start spread number in
    if nat_lt start size
    then Some (record { first = start; size = min (slice_index spread (number % length spread)) (size - start) })
    else None

-- the blocks go to so many candidates in turn. The block of one, by its number among them, in a turn
abbrev pub block_of : List ℕ → ℕ → ℕ → ℕ → ℕ → Option Block
block_of spread size count candidate turn = block_below spread size (candidate + turn * count)

-- the places of a block
abbrev pub places_of : Option Block → List ℕ
places_of None = []
places_of (Some block) = range_with_len block.first block.size

-- the places below a size at which a spread chooses the candidate
abbrev pub places_choosing : List ℕ → ℕ → ℕ → ℕ → List ℕ
places_choosing spread size count candidate =
    filter (λ place. choice spread count place == candidate) (range_with_len 0 size)

-- those at which the row with an ordinal is chosen, where the rows from a first one on are dealt
abbrev pub places_of_parent : List ℕ → Arrangement → ℕ → ℕ → ℕ → List ℕ
places_of_parent spread deal first size parent =
    filter (λ place. first + place_in deal (choice spread deal.size place) == parent) (range_with_len 0 size)
