use Rattle.std.proofs.Common.{◌+◌, ◌%◌, encode_utf8, length}
use Rattle.std.specs.Prelude.{slice_index}
use Rattle.std.specs.List.{range_with_len}
use Rattle.draw_values.proofs.CharacterLemmas.{escaped_text-flat_map}
use Rattle.draw_values.proofs.laws.characters_are_written_one_by_one.Goals as goal

pub returns : goal.returns
returns c delimiter characters draw count =
    escaped_text-flat_map delimiter (λ k. encode_utf8 (slice_index characters (draw (2 + k) % length characters))) (range_with_len 0 count)
