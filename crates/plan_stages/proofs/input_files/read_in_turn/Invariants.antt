use Rattle.std.proofs.Common.{◌≡◌, ◌+◌, ◌++◌, List, ℕ, length, take}
use Rattle.std.specs.Prelude.{IfSome}
use Rattle.std.specs.Option.{option_map}
use Rattle.pd_outside.specs.Faults.{Unfailed}
use Rattle.plan_stages.specs.Inputs.{all_read_out, taken_of_last, total_length}
use Rattle.plan_stages.specs.Stages.{told_files}
use Rattle.plan_stages.proofs.InputLemmas.{AreReadSoFar}
use Rattle.plan_stages.proofs.input_files.read_in_turn.Given as goal

abbrev pub invariant-loop-place : goal.invariant-loop-place
invariant-loop-place g l = record {
  count : length l.inputs ≡ l.place;
  limits : total_length l.inputs + l.left ≡ l.limit;
  read : IfSome (told_files (g.L.Library.content l.fn.library)) (AreReadSoFar l.names l.limit l.inputs l.place);
  asked : g.L.Library.asked l.library ≡ option_map (λ (names : List (List ℕ)). names ++ take l.place l.names) (g.L.Library.asked l.fn.library);
  content : g.L.Library.content l.library ≡ option_map (all_read_out (take l.place l.names)) (g.L.Library.content l.fn.library);
  taken : g.L.Library.taken l.library ≡ taken_of_last l.inputs (g.L.Library.taken l.fn.library);
  unfailed : Unfailed (g.L.Library.counts l.fn.library) (g.L.Library.counts l.library);
}
