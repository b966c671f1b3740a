use Rattle.update_box.proofs.ShareLawLemmas.{snapshot-room, unit-room}
use Rattle.update_box.proofs.laws.packages_want_little_room.Goals as goal

pub returns-clause-snapshot : goal.returns-clause-snapshot
returns-clause-snapshot c = snapshot-room

pub returns-clause-unit : goal.returns-clause-unit
returns-clause-unit c = unit-room
