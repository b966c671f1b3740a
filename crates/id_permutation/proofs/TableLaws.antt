-- Tables of round functions: their values, and two rounds by them.
use Rattle.std.proofs.Common.{◌≡◌, ℕ, zero, suc, ◌+◌, ◌-◌, ◌*◌, ◌%◌, ◌<◌, ◌≤◌, List, [], ◌∷◌, ◌++◌, length, get_or, refl, ◌∙◌, ap, sym, arith}
use Rattle.std.proofs.Math.ListN.{get_or-append}
use Rattle.std.proofs.Math.Nat.{add-mod-mod}
use Rattle.std.proofs.lemmas.List.{length-append, get_or-append_right}
use Rattle.std.proofs.lemmas.Nat.{mul-le}
use Rattle.std.proofs.lemmas.List.FromFn.{length-map-range_with_len, get_or-map-range_with_len, map-range_with_len_more}
use Rattle.id_permutation.specs.declared.halves.Halves.{Halves}
use Rattle.id_permutation.specs.Placement.{round_number, round, rounds}
use Rattle.id_permutation.specs.Tables.{round_values, pair_values, tables_of}
use Rattle.id_permutation.proofs.ModuloLaws.{lacking_and_add}
use Rattle.id_permutation.proofs.RoundLaws.{made, made-even, made-odd, even_round-made, odd_round-made}

pub round_values-zero : (seed i modulus : ℕ) → round_values seed i modulus 0 ≡ []
unfolding round_values
round_values-zero seed i modulus = refl

-- a loop that appends each value
pub round_values-more : (seed i modulus count number : ℕ) (values : List ℕ) → values ≡ round_values seed i modulus count → number ≡ round_number seed i count → values ++ number % modulus ∷ [] ≡ round_values seed i modulus (count + 1)
unfolding round_values
round_values-more seed i modulus count number values so_far value =
    ap (λ (xs : List ℕ). xs ++ number % modulus ∷ []) so_far
    ∙ ap (λ (v : ℕ). round_values seed i modulus count ++ v % modulus ∷ []) value
    ∙ sym (map-range_with_len_more (λ v. round_number seed i v % modulus) 0 count count (omega arith))

pub length-round_values : (seed i modulus count : ℕ) (values : List ℕ) → values ≡ round_values seed i modulus count → length values ≡ count
unfolding round_values
length-round_values seed i modulus count values e =
    ap length e ∙ length-map-range_with_len (λ v. round_number seed i v % modulus) 0 count

pub get_or-round_values : (seed i modulus count half d : ℕ) (values : List ℕ) → values ≡ round_values seed i modulus count → half < count → get_or values half d ≡ round_number seed i half % modulus
unfolding round_values
get_or-round_values seed i modulus count half d values e h =
    ap (λ (xs : List ℕ). get_or xs half d) e
    ∙ get_or-map-range_with_len (λ v. round_number seed i v % modulus) 0 count half half d h (omega arith)

-- an entry of an even round's table
get_or-pair-even : (a b seed pair half d : ℕ) → half < b → get_or (pair_values a b seed pair) half d ≡ round_number seed (2 * pair) half % a
unfolding pair_values
get_or-pair-even a b seed pair half d h =
    let long : length (round_values seed (2 * pair) a b) ≡ b = length-round_values seed (2 * pair) a b _ refl in
    get_or-append (round_values seed (2 * pair) a b) (round_values seed (2 * pair + 1) b a) d half (omega arith)
    ∙ get_or-round_values seed (2 * pair) a b half d _ refl h

-- an entry of an odd round's table
get_or-pair-odd : (a b seed pair half d : ℕ) → half < a → get_or (pair_values a b seed pair) (b + half) d ≡ round_number seed (2 * pair + 1) half % b
unfolding pair_values
get_or-pair-odd a b seed pair half d h =
    let even = round_values seed (2 * pair) a b in
    let odd = round_values seed (2 * pair + 1) b a in
    let back : b + half - b ≡ half = omega arith in
    get_or-append_right even odd b (b + half) d (length-round_values seed (2 * pair) a b _ refl) (omega arith)
    ∙ ap (λ (k : ℕ). get_or odd k d) back
    ∙ get_or-round_values seed (2 * pair + 1) b a half d _ refl h

pub length-pair_values : (a b seed pair : ℕ) → length (pair_values a b seed pair) ≡ a + b
unfolding pair_values
length-pair_values a b seed pair =
    let even : length (round_values seed (2 * pair) a b) ≡ b = length-round_values seed (2 * pair) a b _ refl in
    let odd : length (round_values seed (2 * pair + 1) b a) ≡ a = length-round_values seed (2 * pair + 1) b a _ refl in
    length-append (round_values seed (2 * pair) a b) (round_values seed (2 * pair + 1) b a) ∙ omega arith

pub length-tables_of : (a b seed : ℕ) → length (tables_of a b seed) ≡ 3 * (a + b)
unfolding tables_of
length-tables_of a b seed =
    let first = pair_values a b seed 0 in
    let second = pair_values a b seed 1 in
    let third = pair_values a b seed 2 in
    let one : length first ≡ a + b = length-pair_values a b seed 0 in
    let two : length second ≡ a + b = length-pair_values a b seed 1 in
    let three : length third ≡ a + b = length-pair_values a b seed 2 in
    let both : length (first ++ second) ≡ length first + length second = length-append first second in
    length-append (first ++ second) third ∙ omega arith

-- where the tables of a pair lie
get_or-tables-pair : (a b seed pair i d : ℕ) → pair < 3 → i < a + b → get_or (tables_of a b seed) (pair * (a + b) + i) d ≡ get_or (pair_values a b seed pair) i d
unfolding tables_of
get_or-tables-pair a b seed zero i d few h =
    let first = pair_values a b seed 0 in
    let second = pair_values a b seed 1 in
    let third = pair_values a b seed 2 in
    let one : length first ≡ a + b = length-pair_values a b seed 0 in
    let both : length (first ++ second) ≡ length first + length second = length-append first second in
    let at : zero * (a + b) + i ≡ i = omega arith in
    ap (λ (k : ℕ). get_or (first ++ second ++ third) k d) at
    ∙ get_or-append (first ++ second) third d i (omega arith)
    ∙ get_or-append first second d i (omega arith)
get_or-tables-pair a b seed (suc zero) i d few h =
    let first = pair_values a b seed 0 in
    let second = pair_values a b seed 1 in
    let third = pair_values a b seed 2 in
    let one : length first ≡ a + b = length-pair_values a b seed 0 in
    let two : length second ≡ a + b = length-pair_values a b seed 1 in
    let both : length (first ++ second) ≡ length first + length second = length-append first second in
    let at : suc zero * (a + b) + i ≡ a + b + i = omega arith in
    let back : a + b + i - (a + b) ≡ i = omega arith in
    ap (λ (k : ℕ). get_or (first ++ second ++ third) k d) at
    ∙ get_or-append (first ++ second) third d (a + b + i) (omega arith)
    ∙ get_or-append_right first second (a + b) (a + b + i) d one (omega arith)
    ∙ ap (λ (k : ℕ). get_or second k d) back
get_or-tables-pair a b seed (suc (suc zero)) i d few h =
    let first = pair_values a b seed 0 in
    let second = pair_values a b seed 1 in
    let third = pair_values a b seed 2 in
    let one : length first ≡ a + b = length-pair_values a b seed 0 in
    let two : length second ≡ a + b = length-pair_values a b seed 1 in
    let both : length (first ++ second) ≡ length first + length second = length-append first second in
    let long : length (first ++ second) ≡ 2 * (a + b) = omega arith in
    let at : suc (suc zero) * (a + b) + i ≡ 2 * (a + b) + i = omega arith in
    let back : 2 * (a + b) + i - 2 * (a + b) ≡ i = omega arith in
    ap (λ (k : ℕ). get_or (first ++ second ++ third) k d) at
    ∙ get_or-append_right (first ++ second) third (2 * (a + b)) (2 * (a + b) + i) d long (omega arith)
    ∙ ap (λ (k : ℕ). get_or third k d) back
get_or-tables-pair a b seed (suc (suc (suc pair))) i d few h = absurd (omega arith)

-- an index of an entry lies within the tables
pub tables-below : (a b seed pair i at : ℕ) (tables : List ℕ) → tables ≡ tables_of a b seed → pair < 3 → i < a + b → at ≡ pair * (a + b) + i → at < length tables
tables-below a b seed pair i at tables exact few h e =
    let long : length tables ≡ 3 * (a + b) = ap length exact ∙ length-tables_of a b seed in
    let last : pair * (a + b) ≤ 2 * (a + b) = mul-le pair (a + b) 2 (a + b) (omega arith) (omega arith) in
    omega arith

-- the entry of an even round
pub get_or-tables-even : (a b seed pair half first d : ℕ) (tables : List ℕ) → tables ≡ tables_of a b seed → pair < 3 → half < b → first ≡ pair * (a + b) → get_or tables (first + half) d ≡ round_number seed (2 * pair) half % a
get_or-tables-even a b seed pair half first d tables exact few h e =
    ap (λ (xs : List ℕ). get_or xs (first + half) d) exact
    ∙ ap (λ (k : ℕ). get_or (tables_of a b seed) (k + half) d) e
    ∙ get_or-tables-pair a b seed pair half d few (omega arith)
    ∙ get_or-pair-even a b seed pair half d h

-- and of the odd one after it
pub get_or-tables-odd : (a b seed pair half first d : ℕ) (tables : List ℕ) → tables ≡ tables_of a b seed → pair < 3 → half < a → first ≡ pair * (a + b) + b → get_or tables (first + half) d ≡ round_number seed (2 * pair + 1) half % b
get_or-tables-odd a b seed pair half first d tables exact few h e =
    let at : first + half ≡ pair * (a + b) + (b + half) = omega arith in
    ap (λ (xs : List ℕ). get_or xs (first + half) d) exact
    ∙ ap (λ (k : ℕ). get_or (tables_of a b seed) k d) at
    ∙ get_or-tables-pair a b seed pair (b + half) d few (omega arith)
    ∙ get_or-pair-odd a b seed pair half d h

-- an even round and the odd one after it, by the values of their functions
pub two_rounds-exact : (a b seed i : ℕ) (h : Halves) (even odd left right : ℕ) → i % 2 ≡ 0 →
    even ≡ round_number seed i h.right % a → left ≡ (h.left + even) % a →
    odd ≡ round_number seed (i + 1) left % b → right ≡ (h.right + odd) % b →
    made left right ≡ round a b seed (i + 1) (round a b seed i h)
two_rounds-exact a b seed i h even odd left right first_is_even even_is left_is odd_is right_is =
    made-odd a b seed (i + 1) right (made left h.right) (omega arith)
    (right_is ∙ ap (λ (v : ℕ). (h.right + v) % b) odd_is ∙ add-mod-mod h.right _ b)
    ∙ ap (round a b seed (i + 1)) (made-even a b seed i left h first_is_even
    (left_is ∙ ap (λ (v : ℕ). (h.left + v) % a) even_is ∙ add-mod-mod h.left _ a))

-- and undone
pub two_rounds-undone : (a b seed i : ℕ) (h : Halves) (even odd left right : ℕ) → i % 2 ≡ 0 → h.left < a → h.right < b →
    odd ≡ round_number seed (i + 1) h.left % b → right ≡ (h.right + (b - odd)) % b →
    even ≡ round_number seed i right % a → left ≡ (h.left + (a - even)) % a →
    round a b seed (i + 1) (round a b seed i (made left right)) ≡ h
two_rounds-undone a b seed i h even odd left right first_is_even left_below right_below odd_is right_is even_is left_is =
    ap (round a b seed (i + 1)) (even_round-made a b seed i left (made h.left right) first_is_even
    (ap (λ (l : ℕ). (l + round_number seed i right) % a) (left_is ∙ ap (λ (v : ℕ). (h.left + (a - v)) % a) even_is)
    ∙ lacking_and_add h.left _ a left_below))
    ∙ odd_round-made a b seed (i + 1) right h (omega arith)
    (ap (λ (r : ℕ). (r + round_number seed (i + 1) h.left) % b) (right_is ∙ ap (λ (v : ℕ). (h.right + (b - v)) % b) odd_is)
    ∙ lacking_and_add h.right _ b right_below)

-- all rounds are three pairs
pub rounds-six : (a b seed : ℕ) (h : Halves) → rounds a b seed 6 h ≡ round a b seed 5 (round a b seed 4 (round a b seed 3 (round a b seed 2 (round a b seed 1 (round a b seed 0 h)))))
unfolding rounds
rounds-six a b seed h = refl
