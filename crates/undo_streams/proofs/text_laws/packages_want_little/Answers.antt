use Rattle.undo_streams.proofs.PackageLemmas.{packages-few, packages-room}
use Rattle.undo_streams.proofs.text_laws.packages_want_little.Goals as goal

pub returns-clause-room : goal.returns-clause-room
returns-clause-room c = packages-room

pub returns-clause-count : goal.returns-clause-count
returns-clause-count c = packages-few
