use Rattle.std.proofs.Common.{All, List, None, Option, Some, [], arith, length, refl, subst, sym, ◌∷◌, ◌≡◌, ℕ}
use Rattle.std.specs.Prelude.{codes}
use Rattle.std.proofs.lemmas.List.Elements.{All-cons, All-nil}
use Rattle.csv_face.specs.Csv.{HasRows, Row}
use Rattle.row_text.specs.Fields.{escaped}
use Rattle.apply_tests.proofs.csv_tests.rows_are_written_and_read_back.Goals as goal

first : Row
first = Some (codes "1") ∷ Some (codes "a,b") ∷ None ∷ Some (codes "\\N") ∷ Some [] ∷ []

second : Row
second = Some (codes "2") ∷ Some (codes "\"q\"") ∷ Some (codes "x\\y") ∷ Some (108 ∷ 10 ∷ 109 ∷ []) ∷ Some (13 ∷ []) ∷ []

pub to_csv-requires-clause-rows : goal.to_csv-requires-clause-rows
unfolding first second escaped
to_csv-requires-clause-rows g c =
    subst (HasRows 9) (sym c.as_slice-text.ensures)
    (record {
      fields = 5;
      rows = first ∷ second ∷ [];
      copy = record {
        some = omega arith;
        alike = All-cons (λ (row : Row). length row ≡ 5) first (second ∷ []) refl (All-cons (λ (row : Row). length row ≡ 5) second [] refl (All-nil (λ (row : Row). length row ≡ 5)));
        written = refl;
      };
    })
