-- Sums and products that are joined operand by operand.
use Rattle.std.proofs.Common.{◌≡◌, ◌∙◌, ℕ, ℤ, pos, ◌+◌, ◌-◌, ◌<◌, ◌≤◌, ◌&&◌, Bool, true, false, cond, List, [], ◌∷◌, drop, get_or, length, map, nat_le, take, Option, IfSome, Some, None, refl, subst, sym, ap, arith}
use Rattle.std.specs.List.{fold}
use Rattle.std.specs.Option.{unwrap_or}
use Rattle.std.proofs.lemmas.Grind.{fold-append}
use Rattle.std.proofs.lemmas.Bool.Decides.{nat_tests}
use Rattle.std.proofs.lemmas.List.{take-append-drop}
use Rattle.std.proofs.lemmas.List.Folds.{fold-map}
use Rattle.std.proofs.lemmas.List.Sums.{fold_more}
use Rattle.schema_model.specs.declared.column.Column.{Column}
use Rattle.schema_facts.specs.declared.column_facts.ColumnFacts.{ColumnFacts}
use Rattle.schema_facts.specs.declared.numbers.Numbers.{Numbers}
use Rattle.schema_facts.specs.Capped.{capped}
use Rattle.schema_facts.specs.FactsBefore.{facts_among}
use Rattle.schema_facts.specs.Layout.{place_of_column}
use Rattle.schema_facts.specs.Numbers.{joined, most_decimals, operands, plus, start_from, sum_end, sum_of, with_operand}
use Rattle.schema_facts.proofs.Lists.{map-map}

-- the numbers of the column with a name, among the facts of those before
abbrev pub operand_named : List ColumnFacts → List Column → List ℕ → Option Numbers
operand_named before columns name = (facts_among before (place_of_column columns name)).numbers

pub operands-named : (before : List ColumnFacts) (columns : List Column) (names : List (List ℕ)) → operands before (map (place_of_column columns) names) ≡ map (operand_named before columns) names
operands-named before columns names = map-map (λ place. (facts_among before place).numbers) (place_of_column columns) names

-- what is joined so far with one more operand
abbrev pub joining : {A : Type 0} → (Numbers → Numbers → Option Numbers) → (A → Option Numbers) → Option Numbers → A → Option Numbers
joining join operand so_far x = with_operand join so_far (operand x)

-- what has left the range stays out
pub lost : {A : Type 0} (join : Numbers → Numbers → Option Numbers) (operand : A → Option Numbers) (xs : List A) → fold (joining join operand) None xs ≡ None
lost join operand [] = refl
lost join operand (x ∷ xs) = lost join operand xs

-- where one more operand leaves it, all together do
pub lost_at : {A : Type 0} (join : Numbers → Numbers → Option Numbers) (operand : A → Option Numbers) (start : Option Numbers) (xs : List A) (i : ℕ) (d : A) → i < length xs →
    joining join operand (fold (joining join operand) start (take i xs)) (get_or xs i d) ≡ None → fold (joining join operand) start xs ≡ None
lost_at join operand start xs i d within out =
    let step = joining join operand in
    ap (fold step start) (sym (take-append-drop (i + 1) xs))
    ∙ fold-append step start (take (i + 1) xs) (drop (i + 1) xs)
    ∙ ap (λ so_far. fold step so_far (drop (i + 1) xs)) (fold_more step start xs i d within ∙ out)
    ∙ lost join operand (drop (i + 1) xs)

-- what is joined of all operands is joined of the first ones
pub known_so_far : (join : Numbers → Numbers → Option Numbers) (start : Option Numbers) (of : List (Option Numbers)) (total : Numbers) (i : ℕ) → fold (with_operand join) start of ≡ Some total →
    (so_far : Numbers) × (fold (with_operand join) start (take i of) ≡ Some so_far)
known_so_far join start of total i whole = of_front (fold (with_operand join) start (take i of)) refl
  where
    none : Some total ≡ None → ⊥
    none p = cc

    of_front : (front : Option Numbers) → fold (with_operand join) start (take i of) ≡ front → (so_far : Numbers) × (fold (with_operand join) start (take i of) ≡ Some so_far)
    of_front (Some so_far) is = (so_far, is)
    of_front None is =
        let gone : fold (with_operand join) start of ≡ None =
        ap (fold (with_operand join) start) (sym (take-append-drop i of))
        ∙ fold-append (with_operand join) start (take i of) (drop i of)
        ∙ ap (λ front. fold (with_operand join) front (drop i of)) is
        ∙ lost join (λ operand. operand) (drop i of) in
        absurd (none (sym whole ∙ gone))

-- all operands together, by their names
pub joined_all : (join : Numbers → Numbers → Option Numbers) (start : Option Numbers) (before : List ColumnFacts) (columns : List Column) (names : List (List ℕ)) →
    fold (with_operand join) start (operands before (map (place_of_column columns) names)) ≡ fold (joining join (operand_named before columns)) start names
joined_all join start before columns names =
    ap (fold (with_operand join) start) (operands-named before columns names)
    ∙ fold-map (with_operand join) (operand_named before columns) start names

-- counts at the last of 64 bits are as far past the limits as greater ones
pub joined-capped : (decimals reads : ℕ) (least greatest : Option ℤ) → joined (capped decimals) least greatest (capped reads) ≡ joined decimals least greatest reads
joined-capped decimals reads None greatest = refl
joined-capped decimals reads (Some least) None = refl
joined-capped decimals reads (Some least) (Some greatest) =
    let same_test : (nat_le (capped decimals) 9 && nat_le (capped reads) 64) ≡ (nat_le decimals 9 && nat_le reads 64) = grind (arith, nat_tests) in
    of_test (nat_le decimals 9 && nat_le reads 64) same_test refl
  where
    kept : ℕ → ℕ → Option Numbers
    kept d r = Some (record { decimals = d; least = least; greatest = greatest; reads = r })

    of_test : (test : Bool) → (nat_le (capped decimals) 9 && nat_le (capped reads) 64) ≡ test → (nat_le decimals 9 && nat_le reads 64) ≡ test →
        cond (nat_le (capped decimals) 9 && nat_le (capped reads) 64) (kept (capped decimals) (capped reads)) None ≡ cond (nat_le decimals 9 && nat_le reads 64) (kept decimals reads) None
    of_test false given is = ap (λ t. cond t (kept (capped decimals) (capped reads)) None) given ∙ sym (ap (λ t. cond t (kept decimals reads) None) is)
    of_test true given is =
        let d : capped decimals ≡ decimals = grind (arith, nat_tests) in
        let r : capped reads ≡ reads = grind (arith, nat_tests) in
        ap (λ t. cond t (kept (capped decimals) (capped reads)) None) given ∙ ap (λ n. kept n (capped reads)) d ∙ ap (kept decimals) r
        ∙ sym (ap (λ t. cond t (kept decimals reads) None) is)

-- ---- one more operand

-- the operand of the name at a place, as it is found
pub operand_at : (before : List ColumnFacts) (columns : List Column) (names : List (List ℕ)) (i : ℕ) (name : List ℕ) (facts : ColumnFacts) → name ≡ get_or names i name → facts ≡ facts_among before (place_of_column columns name) →
    facts.numbers ≡ operand_named before columns (get_or names i name)
operand_at before columns names i name facts name_is facts_are =
    ap (λ (found : ColumnFacts). found.numbers) facts_are ∙ ap (operand_named before columns) name_is

-- what is joined with it
pub joined_next : {A : Type 0} (join : Numbers → Numbers → Option Numbers) (operand : A → Option Numbers) (start : Option Numbers) (xs : List A) (i : ℕ) (d : A) (so_far : Numbers) (found : Option Numbers) → i < length xs →
    fold (joining join operand) start (take i xs) ≡ Some so_far → found ≡ operand (get_or xs i d) →
    fold (joining join operand) start (take (i + 1) xs) ≡ with_operand join (Some so_far) found
joined_next join operand start xs i d so_far found within joined_is found_is =
    fold_more (joining join operand) start xs i d within
    ∙ ap (λ before. joining join operand before (get_or xs i d)) joined_is
    ∙ ap (with_operand join (Some so_far)) (sym found_is)

-- what leaves the range with it
pub joined_out : {A : Type 0} (join : Numbers → Numbers → Option Numbers) (operand : A → Option Numbers) (start : Option Numbers) (xs : List A) (i : ℕ) (d : A) (so_far : Numbers) (found : Option Numbers) → i < length xs →
    fold (joining join operand) start (take i xs) ≡ Some so_far → found ≡ operand (get_or xs i d) → with_operand join (Some so_far) found ≡ None →
    fold (joining join operand) start xs ≡ None
joined_out join operand start xs i d so_far found within joined_is found_is out =
    lost_at join operand start xs i d within
    (ap (λ before. joining join operand before (get_or xs i d)) joined_is ∙ ap (with_operand join (Some so_far)) (sym found_is) ∙ out)

-- ---- sums

-- a sum with at most 9 digits after the point is joined
pub sum_joined : (operands : List (Option Numbers)) (decimals : ℕ) → decimals ≡ most_decimals operands → decimals ≤ 9 → sum_of operands ≡ fold (with_operand plus) (Some (start_from decimals (pos 0))) operands
sum_joined operands decimals decimals_are few =
    let test : nat_le (most_decimals operands) 9 ≡ true = grind (arith, nat_tests) in
    ap (λ t. cond t (fold (with_operand plus) (Some (start_from (most_decimals operands) (pos 0))) operands) None) test
    ∙ ap (λ n. fold (with_operand plus) (Some (start_from n (pos 0))) operands) (sym decimals_are)

pub plus_is : (sum operand : Numbers) (more reads : ℕ) (least greatest : Option ℤ) (result : Option Numbers) → sum.decimals ≤ 9 → more ≡ sum.decimals - operand.decimals → least ≡ sum_end more sum.least operand.least → greatest ≡ sum_end more sum.greatest operand.greatest →
    reads ≡ capped (sum.reads + operand.reads) → result ≡ joined sum.decimals least greatest reads → result ≡ plus sum operand
plus_is sum operand more reads least greatest result few more_is least_is greatest_is reads_are result_is =
    let whole : sum.decimals ≡ capped sum.decimals = omega (arith, few) in
    result_is
    ∙ ap (λ n. joined n least greatest reads) whole
    ∙ ap (λ n. joined (capped sum.decimals) least greatest n) reads_are
    ∙ joined-capped sum.decimals (sum.reads + operand.reads) least greatest
    ∙ ap (λ end. joined sum.decimals end greatest (sum.reads + operand.reads)) (least_is ∙ ap (λ n. sum_end n sum.least operand.least) more_is)
    ∙ ap (λ end. joined sum.decimals (sum_end (sum.decimals - operand.decimals) sum.least operand.least) end (sum.reads + operand.reads)) (greatest_is ∙ ap (λ n. sum_end n sum.greatest operand.greatest) more_is)

-- what is joined has the digits that it is given
pub joined-digits : (decimals reads : ℕ) (least greatest : Option ℤ) → IfSome (joined decimals least greatest reads) (λ (after : Numbers). after.decimals ≡ decimals)
joined-digits decimals reads None greatest = tt
joined-digits decimals reads (Some least) None = tt
joined-digits decimals reads (Some least) (Some greatest) = of_test (nat_le decimals 9 && nat_le reads 64)
  where
    of_test : (test : Bool) → IfSome (cond test (Some (record { decimals = decimals; least = least; greatest = greatest; reads = reads })) None) (λ (after : Numbers). after.decimals ≡ decimals)
    of_test true = refl
    of_test false = tt

-- ---- digits

-- what a sum is so far has its digits from the start on
pub plus-digits : (so_far operand next : Numbers) → plus so_far operand ≡ Some next → next.decimals ≡ so_far.decimals
plus-digits so_far operand next is =
    let more = so_far.decimals - operand.decimals in
    subst (λ (after : Option Numbers). IfSome after (λ (numbers : Numbers). numbers.decimals ≡ so_far.decimals)) is
    (joined-digits so_far.decimals (so_far.reads + operand.reads) (sum_end more so_far.least operand.least) (sum_end more so_far.greatest operand.greatest))

pub added-digits : (of : List (Option Numbers)) (start total : Numbers) → fold (with_operand plus) (Some start) of ≡ Some total → total.decimals ≡ start.decimals
added-digits [] start total h = ap (λ (o : Option Numbers). (unwrap_or o start).decimals) (sym h)
added-digits (None ∷ of) start total h = absurd (none (sym (lost plus (λ operand. operand) of) ∙ h))
  where
    none : None ≡ Some total → ⊥
    none p = cc
added-digits (Some operand ∷ of) start total h = of_next (λ next. added-digits of next total) (plus start operand) refl h
  where
    none : None ≡ Some total → ⊥
    none p = cc

    of_next : ((next : Numbers) → fold (with_operand plus) (Some next) of ≡ Some total → total.decimals ≡ next.decimals) → (next : Option Numbers) → plus start operand ≡ next → fold (with_operand plus) next of ≡ Some total → total.decimals ≡ start.decimals
    of_next rest None is h = absurd (none (sym (lost plus (λ operand. operand) of) ∙ h))
    of_next rest (Some next) is h = rest next h ∙ plus-digits start operand next is

-- a sum is joined from 0, with the most digits of any operand
pub sum_of-joined : (of : List (Option Numbers)) (total : Numbers) → sum_of of ≡ Some total → fold (with_operand plus) (Some (start_from (most_decimals of) (pos 0))) of ≡ Some total
sum_of-joined of total h = by_test (nat_le (most_decimals of) 9) h
  where
    whole : Option Numbers
    whole = fold (with_operand plus) (Some (start_from (most_decimals of) (pos 0))) of

    by_test : (test : Bool) → cond test whole None ≡ Some total → whole ≡ Some total
    by_test true h = h
    by_test false h = absurd (cc)

pub sum-digits : (of : List (Option Numbers)) (total : Numbers) → sum_of of ≡ Some total → total.decimals ≡ most_decimals of
sum-digits of total h = added-digits of (start_from (most_decimals of) (pos 0)) total (sum_of-joined of total h)
