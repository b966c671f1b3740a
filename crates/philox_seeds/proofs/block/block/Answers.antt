use Rattle.std.proofs.Common.{ℕ, ◌≡◌, ◌+◌, suc, refl, ap, ◌∙◌, arith}
use Rattle.philox_seeds.specs.declared.block.Words.{Words}
use Rattle.philox_seeds.specs.declared.block.Key.{Key}
use Rattle.philox_seeds.specs.Philox.{philox_round, next_key, philox_rounds, round_key, philox4x32_10}
use Rattle.philox_seeds.proofs.block.block.Goals as goal

-- one round more
rounds-more : (n m : ℕ) (counter words : Words) (key : Key) (at : Key) → n + 1 ≡ m → words ≡ philox_rounds n counter key → at ≡ round_key key n → philox_round words at ≡ philox_rounds m counter key
unfolding philox_rounds
rounds-more n m counter words key at e is_words is_key =
    let last : philox_round words at ≡ philox_rounds (suc n) counter key = ap (λ w. philox_round w at) is_words ∙ ap (λ k. philox_round (philox_rounds n counter key) k) is_key in
    let next : suc n ≡ m = omega arith in
    last ∙ ap (λ k. philox_rounds k counter key) next

-- one key more
round_key-more : (n m : ℕ) (key at : Key) → n + 1 ≡ m → at ≡ round_key key n → next_key at ≡ round_key key m
unfolding round_key
round_key-more n m key at e is_key =
    let next : suc n ≡ m = omega arith in
    ap next_key is_key ∙ ap (λ k. round_key key k) next

pub loop-init : goal.loop-init
unfolding philox_rounds round_key
loop-init c = (refl, refl)

pub loop-preserved : goal.loop-preserved
loop-preserved c = (
  c.round-words.ensures ∙ rounds-more c.loop.counter _ _ _ _ _ refl c.loop.invariant.0 c.loop.invariant.1,
  c.next_key-key.ensures ∙ round_key-more c.loop.counter _ _ _ refl c.loop.invariant.1,
)

pub returns : goal.returns
unfolding philox4x32_10
returns c =
    let ten : c.loop.counter ≡ 10 = omega arith in
    c.loop.invariant.0 ∙ ap (λ n. philox_rounds n c.args.counter c.args.key) ten
