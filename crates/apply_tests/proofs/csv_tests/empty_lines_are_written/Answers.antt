use Rattle.std.proofs.Common.{All, List, Some, [], arith, length, refl, subst, sym, ◌∷◌, ◌≡◌}
use Rattle.std.specs.Prelude.{codes}
use Rattle.std.proofs.lemmas.List.Elements.{All-cons, All-nil}
use Rattle.csv_face.specs.Csv.{HasRows, Row}
use Rattle.row_text.specs.Fields.{escaped}
use Rattle.apply_tests.proofs.csv_tests.empty_lines_are_written.Goals as goal

empty : Row
empty = Some [] ∷ []

long : Row
long = Some (codes "seventeen seventeen seventeen seventeen seventeen seventeen seventeen seventeen ") ∷ []

-- rows of one field each
record Alike : Type 0 where
  rows : List Row
  each : All (λ (row : Row). length row ≡ 1) rows

none : Alike
none = record { rows = []; each = All-nil (λ (row : Row). length row ≡ 1) }

also : (row : Row) → length row ≡ 1 → Alike → Alike
also row is more = record { rows = row ∷ more.rows; each = All-cons (λ (r : Row). length r ≡ 1) row more.rows is more.each }

all : Alike
unfolding empty long
all = also empty refl (also long refl (also empty refl (also long refl none)))

pub to_csv-requires-clause-rows : goal.to_csv-requires-clause-rows
unfolding empty long none also all escaped
to_csv-requires-clause-rows g c =
    subst (HasRows 9) (sym c.as_slice-text.ensures)
    (record { fields = 1; rows = all.rows; copy = record { some = omega arith; alike = all.each; written = refl } })
