-- Statements that are made one after the other.
use Rattle.std.proofs.Common.{◌≡◌, ◌<◌, ◌≤◌, ℕ, suc, ◌+◌, ◌-◌, List, [], ◌∷◌, ◌++◌, Option, Some, None, length, map, take, drop, get_or, reverse, option_map, refl, ap, ap₂, arith, sym, ◌∙◌}
use Rattle.std.specs.Prelude.{Result, Ok, Err, OnErr, OnOk}
use Rattle.std.specs.List.{flat_map, range_with_len}
use Rattle.std.proofs.lemmas.Grind.{flat_map-append}
use Rattle.std.proofs.lemmas.List.{append-nil, append_assoc, length-append, map-append, reverse-append, take-append-drop, take-append-le, take_more}
use Rattle.std.proofs.lemmas.List.Sums.{fold-append}
use Rattle.std.proofs.Math.Seq.{drop-cons, take-append-add}
use Rattle.life_intervals.proofs.Ranges.{range_with_len-add}
use Rattle.row_keeper.specs.Kept.{KeptRows, Statement, after_statement, after_statements, no_rows}
use Rattle.row_keeper.specs.Store.{StoppedIn, Store, perform, perform_all}

same_rows : (rows : Option KeptRows) → rows ≡ option_map (after_statements []) rows
same_rows None = refl
same_rows (Some rows) = refl

rows-both : (xs ys : List Statement) (rows : Option KeptRows) →
    option_map (after_statements ys) (option_map (after_statements xs) rows) ≡ option_map (after_statements (xs ++ ys)) rows
rows-both xs ys None = refl
rows-both xs ys (Some rows) = ap Some (sym (fold-append after_statement rows xs ys))

-- no statement changes nothing
pub made-none : (store : Store) → store ≡ perform_all [] store
made-none store =
    let count : store.done ≡ store.done + 0 = omega arith in
    ap₂ (λ (rows : Option KeptRows) (done : ℕ). record store { rows = rows; done = done }) (same_rows store.rows) count

-- some and then others are all of them
pub made-more : (xs ys : List Statement) (before between now : Store) → between ≡ perform_all xs before → now ≡ perform_all ys between → now ≡ perform_all (xs ++ ys) before
made-more xs ys before between now first then =
    let count : before.done + length xs + length ys ≡ before.done + length (xs ++ ys) = omega (arith, length-append xs ys) in
    then
    ∙ ap (perform_all ys) first
    ∙ ap₂ (λ (rows : Option KeptRows) (done : ℕ). record before { rows = rows; done = done }) (rows-both xs ys before.rows) count

-- it stopped at one of some of them
pub stopped-behind : (all xs ys zs : List Statement) (before between now : Store) → all ≡ xs ++ (ys ++ zs) → between ≡ perform_all xs before → StoppedIn ys between now → StoppedIn all before now
stopped-behind all xs ys zs before between now parts first stopped =
    let within : length xs + stopped.count < length all =
    omega (arith, stopped.within, ap length parts, length-append xs (ys ++ zs), length-append ys zs) in
    record {
      count = length xs + stopped.count;
      within = within;
      made =
          made-more xs (take stopped.count ys) before between now first stopped.made
          ∙ ap (λ (some : List Statement). perform_all some before)
          (ap (λ (some : List Statement). xs ++ some) (sym (take-front stopped.count ys zs stopped.within))
          ∙ sym (take-append-add xs (ys ++ zs) stopped.count)
          ∙ ap (take (length xs + stopped.count)) (sym parts));
    }
  where
    take-front : (n : ℕ) (ys zs : List Statement) → n < length ys → take n (ys ++ zs) ≡ take n ys
    take-front n ys zs within = take-append-le n ys zs (omega (arith, within))

-- one statement
pub made-one : (statement : Statement) (before now : Store) → now ≡ perform statement before → now ≡ perform_all (statement ∷ []) before
made-one statement before now made = made

pub stopped-one : (statement : Statement) (before now : Store) → now ≡ before → StoppedIn (statement ∷ []) before now
stopped-one statement before now unchanged = record { count = 0; within = omega arith; made = unchanged ∙ made-none before }

-- ---- items one after the other

-- a list, up to one of its items, with it, and after it
pub items-at : {X Y : Type 0} (f : X → Y) (xs : List X) (i : ℕ) (d : X) → i < length xs →
    map f xs ≡ map f (take i xs) ++ ((f (get_or xs i d) ∷ []) ++ map f (drop (suc i) xs))
items-at f xs i d within =
    ap (map f) (sym (take-append-drop i xs) ∙ ap (λ rest. take i xs ++ rest) (drop-cons xs i d within))
    ∙ map-append f (take i xs) (get_or xs i d ∷ drop (suc i) xs)

pub items-more : {X Y : Type 0} (f : X → Y) (xs : List X) (i : ℕ) (d : X) → i < length xs →
    map f (take (i + 1) xs) ≡ map f (take i xs) ++ (f (get_or xs i d) ∷ [])
items-more f xs i d within = ap (map f) (take_more xs i d within) ∙ map-append f (take i xs) (get_or xs i d ∷ [])

-- numbers from a first one on
range-parts : (a i n : ℕ) → i < n → range_with_len a n ≡ range_with_len a i ++ (a + i) ∷ range_with_len (a + suc i) (n - suc i)
range-parts a i n within =
    let whole : n ≡ i + suc (n - suc i) = omega (arith, within) in
    let next : a + i + 1 ≡ a + suc i = omega arith in
    ap (range_with_len a) whole
    ∙ range_with_len-add a i (suc (n - suc i))
    ∙ ap (λ (b : ℕ). range_with_len a i ++ (a + i) ∷ range_with_len b (n - suc i)) next

range-more : (a i : ℕ) → range_with_len a (i + 1) ≡ range_with_len a i ++ (a + i) ∷ []
range-more a i = range_with_len-add a i 1

pub numbers-at : {Y : Type 0} (f : ℕ → Y) (a i n : ℕ) → i < n →
    map f (range_with_len a n) ≡ map f (range_with_len a i) ++ ((f (a + i) ∷ []) ++ map f (range_with_len (a + suc i) (n - suc i)))
numbers-at f a i n within =
    ap (map f) (range-parts a i n within) ∙ map-append f (range_with_len a i) ((a + i) ∷ range_with_len (a + suc i) (n - suc i))

pub numbers-more : {Y : Type 0} (f : ℕ → Y) (a i : ℕ) → map f (range_with_len a (i + 1)) ≡ map f (range_with_len a i) ++ (f (a + i) ∷ [])
numbers-more f a i = ap (map f) (range-more a i) ∙ map-append f (range_with_len a i) ((a + i) ∷ [])

-- what stands at each of some places
pub places-at : (f : ℕ → List Statement) (i n : ℕ) → i < n →
    flat_map f (range_with_len 0 n) ≡ flat_map f (range_with_len 0 i) ++ (f i ++ flat_map f (range_with_len (suc i) (n - suc i)))
places-at f i n within =
    let at : 0 + i ≡ i = omega arith in
    let next : 0 + suc i ≡ suc i = omega arith in
    ap (flat_map f) (range-parts 0 i n within)
    ∙ flat_map-append f (range_with_len 0 i) ((0 + i) ∷ range_with_len (0 + suc i) (n - suc i))
    ∙ ap₂ (λ (a b : ℕ). flat_map f (range_with_len 0 i) ++ (f a ++ flat_map f (range_with_len b (n - suc i)))) at next

-- and at each in the contrary order
backwards-parts : (a i n : ℕ) → a + suc i ≡ n → reverse (range_with_len 0 n) ≡ reverse (range_with_len (suc a) i) ++ (a ∷ []) ++ reverse (range_with_len 0 a)
backwards-parts a i n parts =
    let at : 0 + a ≡ a = omega arith in
    let next : a + 1 ≡ suc a = omega arith in
    ap (λ (m : ℕ). reverse (range_with_len 0 m)) (sym parts)
    ∙ ap reverse (range_with_len-add 0 a (suc i))
    ∙ reverse-append (range_with_len 0 a) (range_with_len (0 + a) (suc i))
    ∙ ap (λ rest. rest ++ reverse (range_with_len 0 a)) (ap₂ (λ (b c : ℕ). reverse (b ∷ range_with_len (c + 1) i)) at at ∙ ap (λ (b : ℕ). reverse (a ∷ range_with_len b i)) next ∙ reverse-append (a ∷ []) (range_with_len (suc a) i))

pub backwards-at : (f : ℕ → List Statement) (i n : ℕ) → i < n →
    flat_map f (reverse (range_with_len 0 n))
    ≡ flat_map f (reverse (range_with_len (n - i) i)) ++ (f (n - 1 - i) ++ flat_map f (reverse (range_with_len 0 (n - 1 - i))))
backwards-at f i n within =
    let parts : n - 1 - i + suc i ≡ n = omega (arith, within) in
    let from : suc (n - 1 - i) ≡ n - i = omega (arith, within) in
    ap (flat_map f) (backwards-parts (n - 1 - i) i n parts ∙ append_assoc (reverse (range_with_len (suc (n - 1 - i)) i)) ((n - 1 - i) ∷ []) (reverse (range_with_len 0 (n - 1 - i))))
    ∙ flat_map-append f (reverse (range_with_len (suc (n - 1 - i)) i)) ((n - 1 - i) ∷ reverse (range_with_len 0 (n - 1 - i)))
    ∙ ap (λ (a : ℕ). flat_map f (reverse (range_with_len a i)) ++ (f (n - 1 - i) ++ flat_map f (reverse (range_with_len 0 (n - 1 - i))))) from

pub backwards-more : (f : ℕ → List Statement) (i n : ℕ) → i < n →
    flat_map f (reverse (range_with_len (n - (i + 1)) (i + 1))) ≡ flat_map f (reverse (range_with_len (n - i) i)) ++ f (n - 1 - i)
backwards-more f i n within =
    let at : n - (i + 1) ≡ n - 1 - i = omega (arith, within) in
    let length : i + 1 ≡ suc i = omega arith in
    let from : n - 1 - i + 1 ≡ n - i = omega (arith, within) in
    ap₂ (λ (a m : ℕ). flat_map f (reverse (range_with_len a m))) at length
    ∙ ap (λ (a : ℕ). flat_map f (reverse ((n - 1 - i) ∷ range_with_len a i))) from
    ∙ ap (flat_map f) (reverse-append ((n - 1 - i) ∷ []) (range_with_len (n - i) i))
    ∙ flat_map-append f (reverse (range_with_len (n - i) i)) ((n - 1 - i) ∷ [])
    ∙ ap (λ (last : List Statement). flat_map f (reverse (range_with_len (n - i) i)) ++ last) (append-nil (f (n - 1 - i)))

-- ---- under an answer

pub on_ok : {T E : Type 0} (P Q : Type 0) (result : Result T E) → (P → Q) → OnOk result P → OnOk result Q
on_ok P Q (Ok x) f holds = f holds
on_ok P Q (Err e) f holds = tt

pub on_err : {T E : Type 0} (P Q : Type 0) (result : Result T E) → (P → Q) → OnErr result P → OnErr result Q
on_err P Q (Ok x) f holds = tt
on_err P Q (Err e) f holds = f holds
