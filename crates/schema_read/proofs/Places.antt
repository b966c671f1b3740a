-- A list of places of which the first wrong key is looked for: none of those so far is wrong, and the others are ahead.
use Rattle.std.proofs.Common.{◌≡◌, ℕ, suc, ◌+◌, ◌<◌, ◌≤◌, List, [], ◌∷◌, map, length, drop, get_or, Option, Some, None, refl, sym, ap, ◌∙◌, arith}
use Rattle.std.proofs.lemmas.List.{drop_more, drop_all, drop-map, length-map}
use Rattle.toml.specs.Data.{Members}
use Rattle.schema_read.specs.declared.fault.Wrong.{Wrong}
use Rattle.schema_read.specs.Wanted.{each_from}

-- of the places ds, none of the first i has a wrong key
pub record AreRightTo (wrong : ℕ → Members → Option Wrong) (ds : List Members) (i : ℕ) : Type 0 where
  pub ahead : each_from wrong (suc i) (drop i ds) ≡ each_from wrong 1 ds

pub begins : (wrong : ℕ → Members → Option Wrong) (ds : List Members) → AreRightTo wrong ds 0
begins wrong ds = record { ahead = refl }

-- the item at i, and those after it
pub here : {V D : Type 0} (view : V → D) (vs : List V) (i : ℕ) (v : V) → i < length vs → v ≡ get_or vs i v → drop i (map view vs) ≡ view v ∷ drop (suc i) (map view vs)
here {V} {D} view vs i v lt at =
    let one : i + 1 ≡ suc i = omega arith in
    drop-map view i vs ∙ ap (map view) (drop_more vs i v lt) ∙ rw (← at, one) (ap (λ (xs : List D). view v ∷ xs) (sym (drop-map view (suc i) vs)))

-- one place more, which is right
pub goes_on : {V : Type 0} (wrong : ℕ → Members → Option Wrong) (view : V → Members) (vs : List V) (i : ℕ) (v : V) → i < length vs → v ≡ get_or vs i v
    → None ≡ wrong (i + 1) (view v) → AreRightTo wrong (map view vs) i → AreRightTo wrong (map view vs) (i + 1)
goes_on wrong view vs i v lt at right so_far =
    let one : i + 1 ≡ suc i = omega arith in
    let right_here : wrong (suc i) (view v) ≡ None = rw (← one) (sym right) in
    let rest = drop (suc i) (map view vs) in
    let next : each_from wrong (suc i) (view v ∷ rest) ≡ each_from wrong (suc (suc i)) rest = rw right_here refl in
    record { ahead = rw one (sym next ∙ ap (each_from wrong (suc i)) (sym (here view vs i v lt at)) ∙ so_far.ahead) }

-- one place more, which is wrong
pub stops : {V : Type 0} (wrong : ℕ → Members → Option Wrong) (view : V → Members) (vs : List V) (i : ℕ) (v : V) (w : Wrong) → i < length vs → v ≡ get_or vs i v
    → Some w ≡ wrong (i + 1) (view v) → AreRightTo wrong (map view vs) i → Some w ≡ each_from wrong 1 (map view vs)
stops wrong view vs i v w lt at told so_far =
    let one : i + 1 ≡ suc i = omega arith in
    let told_here : wrong (suc i) (view v) ≡ Some w = rw (← one) (sym told) in
    let first : each_from wrong (suc i) (view v ∷ drop (suc i) (map view vs)) ≡ Some w = rw told_here refl in
    sym (sym so_far.ahead ∙ ap (each_from wrong (suc i)) (here view vs i v lt at) ∙ first)

-- all places are right
pub ends : {V : Type 0} (wrong : ℕ → Members → Option Wrong) (view : V → Members) (vs : List V) (i : ℕ) → length vs ≤ i → AreRightTo wrong (map view vs) i → None ≡ each_from wrong 1 (map view vs)
ends wrong view vs i le so_far =
    let over : drop i (map view vs) ≡ [] = drop_all i (map view vs) (omega (arith, length-map vs view)) in
    sym (sym so_far.ahead ∙ ap (each_from wrong (suc i)) over)
