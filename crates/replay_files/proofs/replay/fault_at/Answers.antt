use Rattle.std.proofs.Common.{◌≡◌, inl, inr, ℕ, List, [], ap, arith, length, min, take, sym, ◌∙◌}
use Rattle.std.proofs.lemmas.Bool.{cases_lt}
use Rattle.std.proofs.lemmas.List.{take_all}
use Rattle.std.proofs.lemmas.Option.{get_or_from_slice_get}
use Rattle.refusals.specs.declared.refusal.JobFault.TheVariants.{Input}
use Rattle.replay_files.proofs.replay.fault_at.Goals as goal

-- bytes cut where they end anyway
cut : (bytes : List ℕ) (most : ℕ) → take (min (length bytes) most) bytes ≡ take most bytes
cut bytes most = elim (cases_lt most (length bytes)) [
  | inl longer ↦ ap (λ (n : ℕ). take n bytes) (let least : min (length bytes) most ≡ most = omega (arith, longer) in least)
  | inr shorter ↦
      ap (λ (n : ℕ). take n bytes) (let least : min (length bytes) most ≡ length bytes = omega (arith, shorter) in least)
      ∙ take_all (length bytes) bytes (omega arith) ∙ sym (take_all most bytes shorter)
]

pub returns : goal.returns
returns c =
    let bytes : List ℕ = c.as_bytes-name.result.now in
    ap (λ (file : List ℕ). Input (record { file = file; cause = c.args.cause }))
    (c.of.ensures
    ∙ ap (λ (n : ℕ). take n bytes) c.min.ensures
    ∙ cut bytes 64
    ∙ ap (take 64)
    (c.as_bytes-name.ensures.value ∙ c.as_str.ensures.value ∙ sym (get_or_from_slice_get c.args.names.now c.args.number c.get.result.now [] c.get.ensures)))
