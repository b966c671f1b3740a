use Rattle.std.proofs.Common.{◌≡◌, ◌≤◌, ◌-◌, ◌++◌, ℕ, List, ap, arith, drop, length, refl, replicate, ◌∙◌}
use Rattle.std.proofs.Math.Seq.{drop-append_seam}
use Rattle.std.proofs.lemmas.List.{drop-replicate, length-append, length-replicate}
use Rattle.refusals.proofs.file_name.FileName.of.Goals as goal

-- a name with zeros after it fills the array
padded : (name new rest : List ℕ) → new ≡ name → rest ≡ replicate 64 0 → length name ≤ 64 →
    (length name ≤ 64) × (length (new ++ drop (length name) rest) ≡ 64) × (drop (length name) (new ++ drop (length name) rest) ≡ replicate (64 - length name) 0)
padded name new rest is zeros fits =
    let zeros_behind : drop (length name) rest ≡ replicate (64 - length name) 0 = ap (drop (length name)) zeros ∙ drop-replicate (length name) 64 0 in
    let whole : new ++ drop (length name) rest ≡ name ++ replicate (64 - length name) 0 =
    ap (λ (front : List ℕ). front ++ drop (length name) rest) is ∙ ap (λ (behind : List ℕ). name ++ behind) zeros_behind in (
      fits,
      omega (arith, ap length whole, length-append name (replicate (64 - length name) 0), length-replicate {A = ℕ} (64 - length name) 0, fits),
      ap (drop (length name)) whole ∙ drop-append_seam name (replicate (64 - length name) 0),
    )

pub invariant_of-result : goal.invariant_of-result
invariant_of-result c = padded c.args.name.now _ _ c.copy_from_slice.ensures.after refl c.requires
