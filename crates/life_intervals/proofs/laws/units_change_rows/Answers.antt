use Rattle.life_intervals.proofs.StreamLemmas.{deleted-dying, inserted-cohort, inserted-newborn, updated-changing}
use Rattle.life_intervals.proofs.laws.units_change_rows.Goals as goal

pub returns : goal.returns
returns c = record { deletes = deleted-dying; updates = updated-changing; inserts = inserted-newborn; cohort = inserted-cohort }
