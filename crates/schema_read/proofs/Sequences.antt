-- A list that is read element by element, where each can be read.
use Rattle.std.proofs.Common.{◌≡◌, ℕ, suc, ◌+◌, ◌<◌, ◌≤◌, List, [], ◌∷◌, ◌++◌, map, length, drop, get_or, Option, Some, None, option_map, refl, sym, ap, ◌∙◌, append_assoc, arith}
use Rattle.std.proofs.lemmas.List.{append-nil, drop_all, length-map}
use Rattle.toml.specs.Data.{Data}
use Rattle.schema_read.specs.Types.{all_read}
use Rattle.schema_read.proofs.Places.{here}

-- the first i of the items ds are read as out
pub record AreRead {A : Type 0} (read : Data → Option A) (ds : List Data) (i : ℕ) (out : List A) : Type 0 where
  pub ahead : option_map (λ more. out ++ more) (all_read read (drop i ds)) ≡ all_read read ds

unprefixed : {A : Type 0} (o : Option (List A)) → option_map (λ more. [] ++ more) o ≡ o
unprefixed None = refl
unprefixed (Some xs) = refl

pub begins : {A : Type 0} (read : Data → Option A) (ds : List Data) → AreRead read ds 0 []
begins read ds = record { ahead = unprefixed (all_read read ds) }

regrouped : {A : Type 0} (out : List A) (x : A) (o : Option (List A)) → option_map (λ more. (out ++ x ∷ []) ++ more) o ≡ option_map (λ more. out ++ more) (option_map (λ xs. x ∷ xs) o)
regrouped out x None = refl
regrouped out x (Some xs) = ap Some (append_assoc out (x ∷ []) xs)

-- one element more
pub goes_on : {A V : Type 0} (read : Data → Option A) (view : V → Data) (vs : List V) (i : ℕ) (out : List A) (v : V) (x : A) → i < length vs → v ≡ get_or vs i v
    → Some x ≡ read (view v) → AreRead read (map view vs) i out → AreRead read (map view vs) (i + 1) (out ++ x ∷ [])
goes_on read view vs i out v x lt at is so_far =
    let one : i + 1 ≡ suc i = omega arith in
    let rest = drop (suc i) (map view vs) in
    let first : all_read read (view v ∷ rest) ≡ option_map (λ xs. x ∷ xs) (all_read read rest) = rw (← is) refl in
    record { ahead = rw one (regrouped out x (all_read read rest) ∙ ap (option_map (λ more. out ++ more)) (sym first ∙ ap (all_read read) (sym (here view vs i v lt at))) ∙ so_far.ahead) }

-- an element that can't be read
pub stops : {A V : Type 0} (read : Data → Option A) (view : V → Data) (vs : List V) (i : ℕ) (out : List A) (v : V) → i < length vs → v ≡ get_or vs i v
    → None ≡ read (view v) → AreRead read (map view vs) i out → None ≡ all_read read (map view vs)
stops read view vs i out v lt at is so_far =
    let first : all_read read (view v ∷ drop (suc i) (map view vs)) ≡ None = rw (← is) refl in
    sym (sym so_far.ahead ∙ ap (option_map (λ more. out ++ more)) (ap (all_read read) (here view vs i v lt at) ∙ first))

-- all elements are read
pub ends : {A V : Type 0} (read : Data → Option A) (view : V → Data) (vs : List V) (i : ℕ) (out : List A) → length vs ≤ i → AreRead read (map view vs) i out → Some out ≡ all_read read (map view vs)
ends read view vs i out le so_far =
    let over : drop i (map view vs) ≡ [] = drop_all i (map view vs) (omega (arith, length-map vs view)) in
    sym (ap Some (append-nil out)) ∙ ap (option_map (λ more. out ++ more)) (ap (all_read read) (sym over)) ∙ so_far.ahead
