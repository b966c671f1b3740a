use Rattle.std.proofs.Common.{Some, [], arith, length, refl, subst, sym, ◌∷◌, ◌≡◌}
use Rattle.std.specs.Prelude.{codes}
use Rattle.std.proofs.lemmas.List.Elements.{All-cons, All-nil}
use Rattle.csv_face.specs.Csv.{HasRows, Row}
use Rattle.row_text.specs.Fields.{escaped}
use Rattle.apply_tests.proofs.csv_tests.rows_with_bars_are_written.Goals as goal

row : Row
row = Some (codes "7") ∷ Some (codes "a|b") ∷ Some (99 ∷ 9 ∷ 100 ∷ []) ∷ []

pub to_csv-requires-clause-rows : goal.to_csv-requires-clause-rows
unfolding row escaped
to_csv-requires-clause-rows g c =
    subst (HasRows 124) (sym c.as_slice-text.ensures)
    (record {
      fields = 3;
      rows = row ∷ [];
      copy = record { some = omega arith; alike = All-cons (λ (r : Row). length r ≡ 3) row [] refl (All-nil (λ (r : Row). length r ≡ 3)); written = refl };
    })
