-- What contracts see of a claim table and of a seat.
use Rattle.std.specs.Prelude.{◌≡◌}
use Rattle.range_workers.specs.declared.claims.Claims.{Claims}
use Rattle.range_workers.specs.declared.claims.ClaimSeat.{ClaimSeat}
use Rattle.range_workers.specs.declared.view.View.{View}

-- what the seat knows
abbrev pub view : ClaimSeat → View
view seat = seat.seat.me.0

-- the seat is one of this table's
abbrev pub IsSeatOf : Claims → ClaimSeat → Type 0
IsSeatOf claims seat = seat.seat.table_id ≡ claims.table.shared.table_id
