use Rattle.std.proofs.Common.{◌≡◌, ◌<◌, ◌+◌, ◌-◌, ℕ, List, [], ◌∷◌, ◌++◌, Vec, Global, get_or, length, map, ap, arith, refl, sym, ◌∙◌}
use Rattle.std.proofs.lemmas.List.FromFn.{get_or-range_with_len, length-range_with_len}
use Rattle.schema_facts.specs.Dictionaries.{Project}
use Rattle.undo_streams.specs.Places.{places_of}
use Rattle.update_box.specs.Packages.{chosen_places}
use Rattle.update_box.specs.Prepared.{IsAmong}
use Rattle.update_box.specs.TableLists.{table_lists_at}
use Rattle.update_box.proofs.EntryLemmas.{chosen_places-among}
use Rattle.table_jobs.proofs.UndoLemmas.{chosen-among}
use Rattle.run_jobs.proofs.MoreLemmas.{one_more}
use Rattle.table_jobs.proofs.modes.undo.found_places.Goals as goal

items-snoc : (xs : List (Vec ℕ Global)) (v : Vec ℕ Global) → map (λ (found : Vec ℕ Global). found.items) (xs ++ v ∷ []) ≡ map (λ (found : Vec ℕ Global). found.items) xs ++ v.items ∷ []
items-snoc [] v = refl
items-snoc (x ∷ xs) v = ap (λ (all : List (List ℕ)). x.items ∷ all) (items-snoc xs v)

pub table_places-requires-clause-lists : goal.table_places-requires-clause-lists
table_places-requires-clause-lists g c =
    let of = c.args.job.now.of in
    let plan : Project = of.plan in
    let from : ℕ = c.places_of-from.result.from in
    let number : ℕ = c.loop-number.number in
    let chosen : List ℕ = chosen_places plan of.asked.table in
    let at : get_or chosen number 0 ≡ from + number =
    ap (λ (xs : List ℕ). get_or xs number 0) (sym c.places_of-from.ensures.places) ∙ get_or-range_with_len from c.places_of-from.result.count number 0 c.loop-number-test.true in
    let below : number < length chosen =
    omega (arith, ap (λ (xs : List ℕ). length xs) c.places_of-from.ensures.places, length-range_with_len from c.places_of-from.result.count, c.loop-number-test.true) in
    let among : IsAmong of.tables (from + number) = chosen-among plan of.asked.table of.tables number (from + number) c.requires.can.of.chosen below at in
    c.requires.can.found.each (from + number) (omega (arith, c.places_of-from.ensures.within, c.loop-number-test.true))
    (chosen_places-among plan of.asked.table of.tables (from + number) c.requires.can.of.chosen among)

pub loop-number-preserved : goal.loop-number-preserved
loop-number-preserved g c =
    let job = c.args.job.now in
    one_more (λ place. places_of job.of.plan place (job.of.asked.unit - 1) (table_lists_at job.rows place).deleted) c.places_of-from.result.from c.loop-number.number
    (map (λ (found : Vec ℕ Global). found.items) c.loop-number.found.items) (map (λ (found : Vec ℕ Global). found.items) c.push.new.self.items) c.in_ok-table_places.field-0.items
    c.loop-number.invariant c.in_ok-table_places.ensures
    (ap (map (λ (found : Vec ℕ Global). found.items)) c.in_ok-push.ensures.items ∙ items-snoc c.loop-number.found.items c.in_ok-table_places.field-0)
