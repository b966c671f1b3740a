use Rattle.std.proofs.Common.{◌≡◌, length}
use Rattle.replay_files.specs.Replay.{AreReplayed}
use Rattle.replay_files.proofs.replay.texts.replayed_texts.Given as goal

abbrev pub invariant-loop-place : goal.invariant-loop-place
invariant-loop-place l = record {
  count : length l.texts ≡ l.place;
  replayed : AreReplayed l.way l.delimiter l.each l.inputs l.texts;
}
