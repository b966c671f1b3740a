-- The blocks of places that a spread gives out, and the candidates that it chooses there.
use Rattle.std.proofs.Common.{◌≡◌, ℕ, zero, suc, ◌+◌, ◌-◌, ◌*◌, ◌/◌, ◌%◌, ◌<◌, ◌≤◌, min, Bool, false, List, [], ◌++◌, eq-eqb, filter, get_or, inl, inr, length, sum, Option, Some, None, refl, ap, ap₂, arith, subst, sym, ◌∙◌}
use Rattle.std.specs.Prelude.{◌==◌, All, if◌then◌else◌}
use Rattle.std.specs.List.{flat_map, range_with_len}
use Rattle.std.proofs.Math.Nat.{add-mul}
use Rattle.std.proofs.lemmas.Bool.{cases_lt, le-ltb, lt-ltb}
use Rattle.std.proofs.lemmas.List.{append-nil, append_assoc}
use Rattle.std.proofs.lemmas.List.Elements.{All-filter, filter-append}
use Rattle.std.proofs.lemmas.List.FromFn.{get_or-range_with_len, length-range_with_len}
use Rattle.std.proofs.lemmas.Nat.{div-add-mod', div-mul-add, mod-mul-add, mod_below, mul-le}
use Rattle.id_permutation.specs.Order.{Arrangement, number_at, place_in}
use Rattle.id_permutation.specs.Walk.{AreInversesBelow}
use Rattle.id_permutation.proofs.OrderLaws.{AreInversesBelow-number_at}
use Rattle.weight_tables.specs.Weights.{selected, weight_before}
use Rattle.weight_tables.proofs.PrefixSumLemmas.{prefix_sum-le-sum, prefix_sum-split, weight_before-all}
use Rattle.weight_tables.proofs.SelectionLemmas.{Selects-place, Selects-selected}
use Rattle.schema_facts.specs.References.{IsSpread}
use Rattle.life_intervals.specs.declared.children.Block.{Block}
use Rattle.life_intervals.specs.Blocks.{block_below, block_of, block_start, places_choosing, places_of, places_of_parent}
use Rattle.life_intervals.specs.References.{choice}
use Rattle.life_intervals.proofs.PermutationLemmas.{differs, filter-range_same, tests-same}
use Rattle.life_intervals.proofs.Ranges.{filter-range_with_len_all, flat_map-range_with_len_more, range_with_len-add}

-- the places of a candidate's blocks in the turns before one
abbrev pub places_before : List ℕ → ℕ → ℕ → ℕ → ℕ → List ℕ
places_before spread size count candidate turns =
    flat_map (λ turn. places_of (block_of spread size count candidate turn)) (range_with_len 0 turns)

-- what passes a test that no number of a range passes
pub filter-range_none : (p : ℕ → Bool) (a n : ℕ) → ((i : ℕ) → a ≤ i → i < a + n → p i ≡ false) → filter p (range_with_len a n) ≡ []
filter-range_none p a zero none = refl
filter-range_none p a (suc n) none =
    rw (none a (omega arith) (omega arith)) (filter-range_none p (a + 1) n (λ i low high. none i (omega (arith, low)) (omega (arith, high))))

-- a number strictly between another and the next that leaves the same leaves something else
pub between : (m v u : ℕ) → v < u → u < v + m → u % m ≡ v % m → ⊥
between m v u above below same =
    let at_v = div-add-mod' v m in
    let at_u = div-add-mod' u m in
    elim (cases_lt (v / m) (u / m)) [
      | inl more ↦ omega (arith, above, below, same, at_v, at_u, mul-le (v / m + 1) m (u / m) m (omega (arith, more)) (omega arith), add-mul (v / m) 1 m)
      | inr less ↦ omega (arith, above, below, same, at_v, at_u, mul-le (u / m) m (v / m) m less (omega arith))
    ]

pub mod-next : (m v : ℕ) → 0 < m → (v + m) % m ≡ v % m
mod-next m v some =
    let next : (v / m + 1) * m + v % m ≡ v + m = omega (arith, div-add-mod' v m, add-mul (v / m) 1 m) in
    ap (λ n. n % m) (sym next) ∙ mod-mul-add (v / m + 1) m (v % m) (mod_below v m some)

pub mod-smaller : (m v : ℕ) → v < m → v % m ≡ v
mod-smaller m v below = let same : 0 * m + v ≡ v = omega arith in ap (λ n. n % m) (sym same) ∙ mod-mul-add 0 m v below

module _ (spread : List ℕ) (is : IsSpread spread) where
  abbrev groups : ℕ
  groups = length spread

  abbrev total : ℕ
  total = sum spread

  abbrev weight : ℕ → ℕ
  weight number = get_or spread (number % groups) 0

  group_below : (number : ℕ) → number % groups < groups
  group_below number = mod_below number groups (omega (arith, is.some_weight))

  pub weight-some : (number : ℕ) → 1 ≤ weight number
  weight-some number = (is.each (number % groups) 0 (group_below number)).positive

  -- a group's weight and what stands before it are of the sum
  group-within : (number : ℕ) → weight_before spread (number % groups) + weight number ≤ total
  group-within number =
      omega (arith, prefix_sum-split spread (number % groups) (group_below number), prefix_sum-le-sum spread (number % groups))

  pub total-some : 1 ≤ total
  total-some = omega (arith, group-within 0, weight-some 0)

  -- a block begins where the one before it ends
  pub block_start-next : (number : ℕ) → block_start spread (number + 1) ≡ block_start spread number + weight number
  block_start-next number =
      let turn : ℕ = number / groups in
      let group : ℕ = number % groups in
      let whole : turn * groups + group ≡ number = div-add-mod' number groups in
      let split = prefix_sum-split spread group (group_below number) in
      let start : ℕ → ℕ → ℕ = λ t g. t * total + weight_before spread g in
      elim (cases_lt (group + 1) groups) [
        | inl inside ↦
            let next : turn * groups + (group + 1) ≡ number + 1 = omega (arith, whole) in
            let same_turn : (number + 1) / groups ≡ turn = ap (λ n. n / groups) (sym next) ∙ div-mul-add turn groups (group + 1) inside in
            let next_group : (number + 1) % groups ≡ group + 1 = ap (λ n. n % groups) (sym next) ∙ mod-mul-add turn groups (group + 1) inside in
            ap₂ start same_turn next_group ∙ omega (arith, split)
        | inr over ↦
            let some : 0 < groups = is.some_weight in
            let last : group + 1 ≡ groups = omega (arith, over, group_below number) in
            let next : (turn + 1) * groups + 0 ≡ number + 1 = omega (arith, whole, last, add-mul turn 1 groups) in
            let next_turn : (number + 1) / groups ≡ turn + 1 = ap (λ n. n / groups) (sym next) ∙ div-mul-add (turn + 1) groups 0 some in
            let first_group : (number + 1) % groups ≡ 0 = ap (λ n. n % groups) (sym next) ∙ mod-mul-add (turn + 1) groups 0 some in
            ap₂ start next_turn first_group ∙ omega (arith, split, weight_before-all spread (group + 1) over, add-mul turn 1 total)
      ]

  -- so later blocks begin no earlier, and each has a place
  pub block_start-rises : (number more : ℕ) → block_start spread number + more ≤ block_start spread (number + more)
  block_start-rises number zero = let same : number + 0 ≡ number = omega arith in rw same (omega arith)
  block_start-rises number (suc more) =
      let next : number + suc more ≡ number + more + 1 = omega arith in
      rw next (omega (arith, block_start-rises number more, block_start-next (number + more), weight-some (number + more)))

  pub block_start-later : (number later : ℕ) → number ≤ later → block_start spread number ≤ block_start spread later
  block_start-later number later order =
      let whole : number + (later - number) ≡ later = omega (arith, order) in
      omega (arith, block_start-rises number (later - number), ap (block_start spread) whole)

  pub block_start-from : (number : ℕ) → number ≤ block_start spread number
  block_start-from number = let whole : 0 + number ≡ number = omega arith in omega (arith, block_start-rises 0 number, ap (block_start spread) whole)

  -- ---- the number of the block in which a place lies

  abbrev number_at_place : ℕ → ℕ
  number_at_place place = place / total * groups + selected spread (place % total)

  rest_below : (place : ℕ) → place % total < total
  rest_below place = mod_below place total (omega (arith, total-some))

  pub number-begun : (place : ℕ) → block_start spread (number_at_place place) ≤ place
  number-begun place =
      let chosen = Selects-selected spread (place % total) (rest_below place) in
      let turn_is : number_at_place place / groups ≡ place / total = div-mul-add (place / total) groups (selected spread (place % total)) chosen.within in
      let group_is : number_at_place place % groups ≡ selected spread (place % total) = mod-mul-add (place / total) groups (selected spread (place % total)) chosen.within in
      let own = (Selects-place spread (place % total) (selected spread (place % total)) chosen.within).0 chosen in
      omega (arith, ap₂ (λ (t g : ℕ). t * total + weight_before spread g) turn_is group_is, own.0, div-add-mod' place total)

  pub number-not_ended : (place : ℕ) → place < block_start spread (number_at_place place + 1)
  number-not_ended place =
      let chosen = Selects-selected spread (place % total) (rest_below place) in
      let turn_is : number_at_place place / groups ≡ place / total = div-mul-add (place / total) groups (selected spread (place % total)) chosen.within in
      let group_is : number_at_place place % groups ≡ selected spread (place % total) = mod-mul-add (place / total) groups (selected spread (place % total)) chosen.within in
      let own = (Selects-place spread (place % total) (selected spread (place % total)) chosen.within).0 chosen in
      omega (
        arith,
        block_start-next (number_at_place place),
        ap₂ (λ (t g : ℕ). t * total + weight_before spread g) turn_is group_is,
        ap (λ (g : ℕ). get_or spread g 0) group_is,
        own.1,
        div-add-mod' place total,
      )

  -- a place between the beginnings of two blocks is in one from the first on and before the other
  number-from : (number place : ℕ) → block_start spread number ≤ place → number ≤ number_at_place place
  number-from number place begun = elim (cases_lt (number_at_place place) number) [
    | inl before ↦ absurd (omega (arith, begun, number-not_ended place, block_start-later (number_at_place place + 1) number (omega (arith, before))))
    | inr from ↦ from
  ]

  number-before : (number place : ℕ) → place < block_start spread number → number_at_place place < number
  number-before number place below = elim (cases_lt (number_at_place place) number) [
    | inl before ↦ before
    | inr from ↦ absurd (omega (arith, below, number-begun place, block_start-later number (number_at_place place) from))
  ]

  number-of_block : (number place : ℕ) → block_start spread number ≤ place → place < block_start spread number + weight number → number_at_place place ≡ number
  number-of_block number place begun not_ended =
      omega (arith, number-from number place begun, number-before (number + 1) place (omega (arith, not_ended, block_start-next number)))

  -- ---- a candidate's places

  module _ (size count candidate : ℕ) (below : candidate < count) where
    abbrev chooses : ℕ → Bool
    chooses place = choice spread count place == candidate

    abbrev chosen_by : ℕ → List ℕ
    chosen_by end = filter chooses (range_with_len 0 (min size end))

    -- none comes before its first block
    pub chosen-first : [] ≡ chosen_by (block_start spread candidate)
    chosen-first = sym (filter-range_none chooses 0 (min size (block_start spread candidate)) (λ place low high.
        let before : number_at_place place < candidate = number-before candidate place (omega (arith, high)) in
        differs (choice spread count place) candidate (λ same. absurd (omega (arith, same, before, div-add-mod' (number_at_place place) count)))))

    -- a block more
    pub chosen-next : (number : ℕ) → number % count ≡ candidate → chosen_by (block_start spread (number + count)) ≡ chosen_by (block_start spread number) ++ places_of (block_below spread size number)
    chosen-next number own =
        let start : ℕ = block_start spread number in
        let next : ℕ = block_start spread (number + count) in
        let order : start + weight number ≤ next = omega (arith, block_start-next number, block_start-later (number + 1) (number + count) (omega (arith, below))) in
        elim (cases_lt start size) [
          | inl some ↦
              let width : ℕ = min (weight number) (size - start) in
              let rest : ℕ = min size next - (start + width) in
              let front : min size start ≡ start = omega (arith, some) in
              let whole : min size next ≡ start + (width + rest) = omega (arith, order, some) in
              let passing : filter chooses (range_with_len (0 + start) width) ≡ range_with_len (0 + start) width =
              filter-range_with_len_all chooses (0 + start) width (λ k inside.
              let place : ℕ = 0 + start + k in
              let number_is : number_at_place place ≡ number = number-of_block number place (omega arith) (omega (arith, inside)) in
              eq-eqb (choice spread count place) candidate (ap (λ n. n % count) number_is ∙ own)) in
              let failing : filter chooses (range_with_len (0 + start + width) rest) ≡ [] =
              filter-range_none chooses (0 + start + width) rest (λ place low high.
              let past : number < number_at_place place = elim (cases_lt (weight number) (size - start + 1)) [
                | inl full ↦ omega (arith, number-from (number + 1) place (omega (arith, low, full, block_start-next number)))
                | inr cut ↦ absurd (omega (arith, low, high, cut))
              ] in
              let early : number_at_place place < number + count = number-before (number + count) place (omega (arith, high)) in
              differs (choice spread count place) candidate (λ same. absurd (between count number (number_at_place place) past early (same ∙ sym own)))) in
              let block_is : block_below spread size number ≡ Some (record { first = start; size = width }) =
              ap (λ (b : Bool). if b then Some (record { first = start; size = width }) else None) (lt-ltb start size some) in
              ap (λ (n : ℕ). filter chooses (range_with_len 0 n)) whole
              ∙ ap (filter chooses) (range_with_len-add 0 start (width + rest) ∙ ap (λ (xs : List ℕ). range_with_len 0 start ++ xs) (range_with_len-add (0 + start) width rest))
              ∙ filter-append chooses (range_with_len 0 start) (range_with_len (0 + start) width ++ range_with_len (0 + start + width) rest)
              ∙ ap₂ (λ (n : ℕ) (ys : List ℕ). filter chooses (range_with_len 0 n) ++ ys) (sym front)
              (filter-append chooses (range_with_len (0 + start) width) (range_with_len (0 + start + width) rest)
              ∙ ap₂ (λ (ys zs : List ℕ). ys ++ zs) passing failing
              ∙ append-nil (range_with_len (0 + start) width)
              ∙ ap (λ (n : ℕ). range_with_len n width) (omega arith))
              ∙ ap (λ (b : Option Block). chosen_by start ++ places_of b) (sym block_is)
          | inr none ↦
              let block_is : block_below spread size number ≡ None =
              ap (λ (b : Bool). if b then Some (record { first = start; size = min (weight number) (size - start) }) else None) (le-ltb start size none) in
              let same : min size next ≡ min size start = omega (arith, order, none) in
              ap (λ (n : ℕ). filter chooses (range_with_len 0 n)) same
              ∙ sym (append-nil (chosen_by start))
              ∙ ap (λ (b : Option Block). chosen_by start ++ places_of b) (sym block_is)
        ]

    -- the places of a block go after those before it
    pub chosen-push : (number : ℕ) (block : Block) (before between after : List ℕ) → number % count ≡ candidate → block_below spread size number ≡ Some block →
        between ≡ before ++ chosen_by (block_start spread number) → after ≡ between ++ range_with_len block.first block.size → after ≡ before ++ chosen_by (block_start spread (number + count))
    chosen-push number block before between after own block_is so_far put =
        put
        ∙ ap (λ (xs : List ℕ). xs ++ range_with_len block.first block.size) so_far
        ∙ append_assoc before (chosen_by (block_start spread number)) (range_with_len block.first block.size)
        ∙ ap (λ (b : Option Block). before ++ (chosen_by (block_start spread number) ++ places_of b)) (sym block_is)
        ∙ ap (λ (xs : List ℕ). before ++ xs) (sym (chosen-next number own))

    -- where there is none, all are found
    pub chosen-all : (number : ℕ) → size ≤ block_start spread number → chosen_by (block_start spread number) ≡ places_choosing spread size count candidate
    chosen-all number none = let whole : min size (block_start spread number) ≡ size = omega (arith, none) in ap (λ (n : ℕ). filter chooses (range_with_len 0 n)) whole

    -- the places of the turns before one
    turn_own : (turn : ℕ) → (candidate + turn * count) % count ≡ candidate
    turn_own turn = let other : candidate + turn * count ≡ turn * count + candidate = omega arith in ap (λ (n : ℕ). n % count) other ∙ mod-mul-add turn count candidate below

    chosen-turns : (turns : ℕ) → places_before spread size count candidate turns ≡ chosen_by (block_start spread (candidate + turns * count))
    chosen-turns zero = let first : candidate + 0 * count ≡ candidate = omega arith in chosen-first ∙ ap (λ (n : ℕ). chosen_by (block_start spread n)) (sym first)
    chosen-turns (suc turn) =
        let more : suc turn ≡ turn + 1 = omega arith in
        let next : candidate + turn * count + count ≡ candidate + suc turn * count = omega (arith, ap (λ (n : ℕ). n * count) more, add-mul turn 1 count) in
        ap (places_before spread size count candidate) more
        ∙ flat_map-range_with_len_more (λ t. places_of (block_of spread size count candidate t)) turn
        ∙ ap (λ (xs : List ℕ). xs ++ places_of (block_of spread size count candidate turn)) (chosen-turns turn)
        ∙ sym (chosen-next (candidate + turn * count) (turn_own turn))
        ∙ ap (λ (n : ℕ). chosen_by (block_start spread n)) next

    -- up to the first turn that has no block they are all
    pub places_before-all : (turns : ℕ) → size ≤ block_start spread (candidate + turns * count) → places_before spread size count candidate turns ≡ places_choosing spread size count candidate
    places_before-all turns none = chosen-turns turns ∙ chosen-all (candidate + turns * count) none

    -- and there are no more turns than places
    pub block_of-ends : size ≤ block_start spread (candidate + size * count)
    block_of-ends = omega (arith, block_start-from (candidate + size * count), mul-le size 1 size count (omega arith) (omega (arith, below)))

  -- no block is left in later turns
  pub block_of-over : (size count candidate turn later : ℕ) → turn ≤ later → size ≤ block_start spread (candidate + turn * count) → size ≤ block_start spread (candidate + later * count)
  block_of-over size count candidate turn later order none =
      omega (arith, none, block_start-later (candidate + turn * count) (candidate + later * count) (omega (arith, mul-le turn count later count order (omega arith))))

-- where there is no block
pub over_from_none : (spread : List ℕ) (size number : ℕ) → block_below spread size number ≡ None → size ≤ block_start spread number
over_from_none spread size number none = elim (cases_lt (block_start spread number) size) [
  | inl some ↦ let one = rw (lt-ltb (block_start spread number) size some) at none in absurd (cc)
  | inr over ↦ over
]

pub none_from_over : (spread : List ℕ) (size number : ℕ) → size ≤ block_start spread number → block_below spread size number ≡ None
none_from_over spread size number over = rw (le-ltb (block_start spread number) size over) refl

-- a number that is cut past the size tells of no other block
pub block_below-cut : (spread : List ℕ) → IsSpread spread → (size number most : ℕ) → size ≤ most → block_below spread size (min number most) ≡ block_below spread size number
block_below-cut spread is size number most within = elim (cases_lt number most) [
  | inl whole ↦ let same : min number most ≡ number = omega (arith, whole) in ap (block_below spread size) same
  | inr past ↦
      none_from_over spread size (min number most) (omega (arith, within, past, block_start-from spread is (min number most)))
      ∙ sym (none_from_over spread size number (omega (arith, within, past, block_start-from spread is number)))
]

-- a block is of the places below the size
pub block-within : (spread : List ℕ) (size number : ℕ) (block : Block) → block_below spread size number ≡ Some block → (block.first + block.size ≤ size) × (block_start spread number < size)
block-within spread size number block is = elim (cases_lt (block_start spread number) size) [
  | inl some ↦
      let one = rw (lt-ltb (block_start spread number) size some) at is in
      let same : record { first = block_start spread number; size = min (get_or spread (number % length spread) 0) (size - block_start spread number) } ≡ block = cc in
      subst (λ (b : Block). (b.first + b.size ≤ size) × (block_start spread number < size)) same (omega (arith, some), some)
  | inr over ↦ let none = rw (le-ltb (block_start spread number) size over) at is in absurd (cc)
]

-- ---- the places of a parent

-- one that is a candidate is chosen at the places of the number with which it is dealt
pub places_of_parent-candidate : (spread : List ℕ) (deal : Arrangement) (first size parent candidate : ℕ) → candidate < deal.size → first + candidate ≡ parent →
    places_choosing spread size deal.size (number_at deal candidate) ≡ places_of_parent spread deal first size parent
places_of_parent-candidate spread deal first size parent candidate below is =
    let inverse : AreInversesBelow deal.size (place_in deal) (number_at deal) = AreInversesBelow-number_at deal in
    filter-range_same (λ place. choice spread deal.size place == number_at deal candidate) (λ place. first + place_in deal (choice spread deal.size place) == parent) 0 size (λ place low high.
    let chosen : ℕ = choice spread deal.size place in
    let inside : chosen < deal.size = mod_below (place / sum spread * length spread + selected spread (place % sum spread)) deal.size (omega (arith, below)) in
    tests-same chosen (number_at deal candidate) (first + place_in deal chosen) parent (λ same. ap (λ n. first + place_in deal n) same ∙ ap (λ n. first + n) (inverse.redone candidate below) ∙ is)
    (λ same. let back : place_in deal chosen ≡ candidate = omega (arith, same, is) in sym (inverse.undone chosen inside) ∙ ap (number_at deal) back))

-- a row that is no candidate has none
pub places_of_parent-none : (spread : List ℕ) (deal : Arrangement) (first size parent : ℕ) → 0 < deal.size → ((candidate : ℕ) → candidate < deal.size → first + candidate ≡ parent → ⊥) →
    [] ≡ places_of_parent spread deal first size parent
places_of_parent-none spread deal first size parent some none =
    sym (filter-range_none (λ place. first + place_in deal (choice spread deal.size place) == parent) 0 size (λ place low high.
    let chosen : ℕ = choice spread deal.size place in
    let inside : chosen < deal.size = mod_below (place / sum spread * length spread + selected spread (place % sum spread)) deal.size some in
    differs (first + place_in deal chosen) parent (none (place_in deal chosen) ((AreInversesBelow-number_at deal).within chosen inside))))

-- what passes a test of the numbers below a size is below it
pub All-filter_below : (p : ℕ → Bool) (a n size : ℕ) → a + n ≤ size → All (λ place. place < size) (filter p (range_with_len a n))
All-filter_below p a n size within = All-filter p (λ place. place < size) (range_with_len a n) (below a n within)
  where
    below : (a n : ℕ) → a + n ≤ size → All (λ place. place < size) (range_with_len a n)
    below a zero within = λ k d inside. absurd (omega (arith, inside))
    below a (suc n) within = λ k d inside. omega (arith, get_or-range_with_len a (suc n) k d (omega (arith, inside, length-range_with_len a (suc n))), inside, within, length-range_with_len a (suc n))
