use Rattle.std.proofs.Common.{◌≡◌, ◌≤◌, ◌*◌, ◌++◌, length, take}
use Rattle.std.specs.List.{flat_map}
use Rattle.row_lines.proofs.RunKeyLemmas.{key_text}
use Rattle.row_lines.proofs.run_keys.put_long_keys.Given as goal

abbrev pub invariant-loop-key : goal.invariant-loop-key
invariant-loop-key l = record {
  text : l.page ≡ record { text = l.fn.page.text ++ flat_map key_text (take l.key-index l.keys); room = l.fn.page.room };
  size : length (flat_map key_text (take l.key-index l.keys)) ≤ l.key-index * 21;
}
