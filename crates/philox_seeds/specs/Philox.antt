-- Philox4x32-10, the counter-based generator of Salmon, Moraes, Dror and Shaw, "Parallel Random Numbers: As Easy as 1, 2, 3"
-- (SC 2011, section 3). A word is a number below 2 ^ 32, a counter and a block are four words, and a key is two.
use Rattle.std.specs.Prelude.{ℕ, zero, suc, ◌+◌, ◌*◌, ◌/◌, ◌%◌, ◌^◌, bit_xor, List, [], ◌∷◌}
use Rattle.philox_seeds.specs.declared.block.Words.{Words}
use Rattle.philox_seeds.specs.declared.block.Key.{Key}

-- the multiplier of word 0
abbrev pub multiplier_0 : ℕ
multiplier_0 = 0xD2511F53

-- the multiplier of word 2
abbrev pub multiplier_1 : ℕ
multiplier_1 = 0xCD9E8D57

-- what key word 0 grows by between two rounds: the golden ratio's fraction
abbrev pub weyl_0 : ℕ
weyl_0 = 0x9E3779B9

-- what key word 1 grows by between two rounds: the fraction of the square root of 3
abbrev pub weyl_1 : ℕ
weyl_1 = 0xBB67AE85

-- the high word of a number below 2 ^ 64
abbrev pub high_word : ℕ → ℕ
high_word x = x / 2 ^ 32

-- the low word of a number
abbrev pub low_word : ℕ → ℕ
low_word x = x % 2 ^ 32

-- one round: both products, of 64 bits, fall into words, and the high ones are mixed with the other words and the key
unfoldable pub philox_round : Words → Key → Words
philox_round words key = record {
  c0 = bit_xor (bit_xor (high_word (multiplier_1 * words.c2)) words.c1) key.k0;
  c1 = low_word (multiplier_1 * words.c2);
  c2 = bit_xor (bit_xor (high_word (multiplier_0 * words.c0)) words.c3) key.k1;
  c3 = low_word (multiplier_0 * words.c0);
}

-- the key of the next round, modulo 2 ^ 32
unfoldable pub next_key : Key → Key
next_key key = record { k0 = (key.k0 + weyl_0) % 2 ^ 32; k1 = (key.k1 + weyl_1) % 2 ^ 32 }

-- the key schedule: the key of round i, where round 0 has the key itself
unfoldable pub round_key : Key → ℕ → Key
round_key key zero = key
round_key key (suc i) = next_key (round_key key i)

-- the words after the first n rounds
unfoldable pub philox_rounds : ℕ → Words → Key → Words
philox_rounds zero counter key = counter
philox_rounds (suc n) counter key = philox_round (philox_rounds n counter key) (round_key key n)

-- the block of a counter under a key: ten rounds
unfoldable pub philox4x32_10 : Words → Key → Words
philox4x32_10 counter key = philox_rounds 10 counter key

-- the words as a list, in order
abbrev pub listed_words : Words → List ℕ
listed_words words = words.c0 ∷ words.c1 ∷ words.c2 ∷ words.c3 ∷ []
