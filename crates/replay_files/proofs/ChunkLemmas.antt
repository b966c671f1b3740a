-- The part of a list that one of its parts, all of one length, is.
use Rattle.std.proofs.Common.{◌≡◌, ◌<◌, ◌+◌, ◌*◌, ℕ, zero, suc, List, [], ◌∷◌, ◌++◌, drop, flat_map, get_or, length, take, ap, arith, sym, ◌∙◌}
use Rattle.std.proofs.Math.Seq.{drop-append-add, take-append_seam}

pub chunk : {A B : Type 0} (f : B → List A) (each : ℕ) (items : List B) (i : ℕ) (d : B) → ((item : B) → length (f item) ≡ each) → i < length items →
    take each (drop (i * each) (flat_map f items)) ≡ f (get_or items i d)
chunk f each [] i d all below = absurd (omega (arith, below))
chunk f each (item ∷ items) zero d all below =
    let none : 0 * each ≡ 0 = omega arith in
    ap (λ (n : ℕ). take each (drop n (f item ++ flat_map f items))) none
    ∙ ap (λ (n : ℕ). take n (f item ++ flat_map f items)) (sym (all item))
    ∙ take-append_seam (f item) (flat_map f items)
chunk f each (item ∷ items) (suc i) d all below =
    let next : suc i * each ≡ length (f item) + i * each = grind (arith, all item) in
    ap (λ (n : ℕ). take each (drop n (f item ++ flat_map f items))) next
    ∙ ap (take each) (drop-append-add (f item) (flat_map f items) (i * each))
    ∙ chunk f each items i d all (omega (arith, below))
