-- UUIDs of version 4, as RFC 9562 defines them, made of two draws.
use Rattle.std.specs.Prelude.{ℕ, List, ◌++◌}
use Rattle.std.specs.Int.{to_be_bytes, w64}
use Rattle.uuid.specs.Parts.{with_variant, with_version}
use Rattle.uuid.specs.Text.{hyphenated_text, lower}
use Rattle.uuid.specs.declared.Variant.TheVariants.{RFC4122}
use Rattle.uuid.specs.declared.Version.TheVariants.{Random}

-- the sixteen bytes of two numbers, one after the other, each with its most significant byte first
abbrev pub random_bytes : ℕ → ℕ → List ℕ
random_bytes first second = to_be_bytes w64 first ++ to_be_bytes w64 second

-- the same with the version, 4, in the high half of byte 6, and the variant in the high two bits of byte 8
abbrev pub uuid_bytes : ℕ → ℕ → List ℕ
uuid_bytes first second = with_version (with_variant (random_bytes first second) RFC4122) Random

-- their digits in lower case, in groups of 8, 4, 4, 4 and 12
unfoldable pub uuid_text : ℕ → ℕ → List ℕ
uuid_text first second = hyphenated_text lower (uuid_bytes first second)
