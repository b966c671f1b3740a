use Rattle.std.proofs.Common.{◌≡◌, ◌≤◌, ◌++◌, List, ℕ, length, take}
use Rattle.std.specs.Prelude.{IfSome}
use Rattle.std.specs.Option.{option_map}
use Rattle.pd_outside.specs.Faults.{Unfailed}
use Rattle.plan_stages.specs.DictionaryFiles.{names_of}
use Rattle.plan_stages.specs.Limits.{dictionary_limit}
use Rattle.plan_stages.specs.Stages.{told_files, IsReadOut}
use Rattle.plan_stages.proofs.DictionaryLemmas.{AreReadable, IsReadSoFar}
use Rattle.plan_stages.proofs.dictionary_files.read_dictionaries.Given as goal

abbrev pub invariant-loop-place : goal.invariant-loop-place
invariant-loop-place g l = record {
  count : length l.dictionaries ≡ l.place;
  read : IfSome (told_files (g.L.Library.content l.fn.library)) (IsReadSoFar l.known l.names l.dictionaries l.place);
  named : names_of l.dictionaries ≡ take l.place l.names;
  readable : IfSome (told_files (g.L.Library.content l.fn.library)) (AreReadable l.names l.place);
  asked : g.L.Library.asked l.library ≡ option_map (λ (names : List (List ℕ)). names ++ take l.place l.names) (g.L.Library.asked l.fn.library);
  files : told_files (g.L.Library.content l.library) ≡ told_files (g.L.Library.content l.fn.library);
  taken : g.L.Library.taken l.library ≤ dictionary_limit;
  still : l.place ≡ 0 → g.L.Library.taken l.library ≡ g.L.Library.taken l.fn.library;
  read_out : IsReadOut (g.L.Library.content l.library);
  unfailed : Unfailed (g.L.Library.counts l.fn.library) (g.L.Library.counts l.library);
}
