use Rattle.std.proofs.Common.{◌≡◌, ◌≤◌, length, take}
use Rattle.keeper_play.proofs.RefLemmas.{refs_before}
use Rattle.keeper_play.proofs.refs.find_refs.Given as goal

-- the references of the columns before one are found
abbrev pub invariant-loop-column : goal.invariant-loop-column
invariant-loop-column g l = record {
  refs : take l.count l.refs ≡ refs_before l.rows l.table l.t l.row.ordinal l.column;
  few : l.count ≤ l.column;
  room : length l.refs ≡ length l.fn.refs;
}
