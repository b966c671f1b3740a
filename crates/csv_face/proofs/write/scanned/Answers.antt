use Rattle.std.proofs.Common.{◌≡◌, [], ◌++◌, ℕ, List, ap, append_assoc, drop, false, sym, take, ◌∙◌}
use Rattle.std.proofs.lemmas.List.{append-nil, take-append-drop}
use Rattle.csv_face.specs.Alike.{with_commas}
use Rattle.csv_face.specs.Csv.{records_text}
use Rattle.csv_face.specs.Scan.{records_behind}
use Rattle.csv_face.proofs.AlikeLemmas.{alike-behind, none-left}
use Rattle.csv_face.proofs.write.scanned.Goals as goal

pub loop-rest-preserved : goal.loop-rest-preserved
loop-rest-preserved c =
    let delimiter = c.args.delimiter in
    let size = c.alike_size.result in
    let rest = c.loop-rest.rest.now in
    let csv = c.loop-rest.csv.items in
    let others : List ℕ = records_text (records_behind delimiter [] [] false (drop size rest)) in
    c.in_ok-more.ensures.csv
    ∙ ap (λ (t : List ℕ). c.push_alike.new.csv.items ++ records_text (records_behind delimiter [] [] false t)) c.split_at.ensures.back
    ∙ ap (λ (t : List ℕ). t ++ others) c.in_ok-push_alike.ensures
    ∙ ap (λ (t : List ℕ). (csv ++ with_commas delimiter t) ++ others) c.split_at.ensures.front
    ∙ append_assoc csv (with_commas delimiter (take size rest)) others
    ∙ ap (λ (t : List ℕ). csv ++ t)
    (sym (alike-behind delimiter c.requires.delimiter (take size rest) (drop size rest) c.alike_size.ensures.lines)
    ∙ ap (λ (t : List ℕ). records_text (records_behind delimiter [] [] false t)) (take-append-drop size rest))
    ∙ c.loop-rest.invariant

pub returns : goal.returns
unfolding records_behind
returns c =
    let csv = c.loop-rest.csv.items in
    let none : c.loop-rest.rest.now ≡ [] = none-left c.loop-rest.rest.now (sym c.is_empty.ensures ∙ c.loop-rest-test.false) in
    sym (append-nil csv)
    ∙ sym (ap (λ (r : List ℕ). csv ++ records_text (records_behind c.args.delimiter [] [] false r)) none)
    ∙ c.loop-rest.invariant
