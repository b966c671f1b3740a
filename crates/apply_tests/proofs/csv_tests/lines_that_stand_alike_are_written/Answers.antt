use Rattle.std.proofs.Common.{All, List, None, Some, [], arith, length, refl, subst, sym, ◌++◌, ◌∷◌, ◌≡◌}
use Rattle.std.specs.Prelude.{codes}
use Rattle.std.proofs.lemmas.List.Elements.{All-cons, All-nil}
use Rattle.csv_face.specs.Csv.{HasRows, Row}
use Rattle.row_text.specs.Fields.{escaped}
use Rattle.apply_tests.proofs.csv_tests.lines_that_stand_alike_are_written.Goals as goal

plain : Row
plain = Some (codes "17") ∷ None ∷ Some (codes "a word") ∷ Some (codes "-3.25") ∷ []

other : Row
other = Some (codes "18") ∷ Some (codes "\\N") ∷ Some (codes "a, b") ∷ Some (codes "\\") ∷ []

-- rows of four fields each
record Alike : Type 0 where
  rows : List Row
  each : All (λ (row : Row). length row ≡ 4) rows

none : Alike
none = record { rows = []; each = All-nil (λ (row : Row). length row ≡ 4) }

also : (row : Row) → length row ≡ 4 → Alike → Alike
also row is more = record { rows = row ∷ more.rows; each = All-cons (λ (r : Row). length r ≡ 4) row more.rows is more.each }

all : Alike
unfolding plain other
all = also plain refl (also plain refl (also plain refl (also plain refl (also plain refl (also plain refl (also plain refl (also plain refl (also other refl (also plain refl none)))))))))

pub to_csv-requires-clause-rows : goal.to_csv-requires-clause-rows
unfolding plain other none also all escaped
to_csv-requires-clause-rows g c =
    subst (HasRows 9) (sym c.as_slice-text.ensures)
    (record { fields = 4; rows = all.rows; copy = record { some = omega arith; alike = all.each; written = refl } })
