use Rattle.std.proofs.Common.{◌≡◌, ◌<◌, length, get_or, sum, arith}
use Rattle.std.proofs.lemmas.Grind.{common_steps}
use Rattle.weight_tables.specs.Finders.{IsTable}
use Rattle.weight_tables.specs.Weights.{selected}
use Rattle.weight_tables.proofs.FinderLemmas.{map_over_next, rest-kept, selected-is, tabled-within, tabled-is}
use Rattle.weight_tables.proofs.weights.Weights.select_all.Goals as goal

pub search-requires : goal.search-requires
search-requires c =
    let i = c.loop-searched.searched-index in
    let numbers = c.args.numbers.now in
    let here = rest-kept (selected c.args.self.now) numbers c.loop-searched.numbers i (omega arith) c.loop-searched.invariant in
    omega (arith, here, c.requires i 0 (omega arith))

pub loop-searched-preserved : goal.loop-searched-preserved
loop-searched-preserved c =
    let weights = c.args.self.now in
    let i = c.loop-searched.searched-index in
    let numbers = c.args.numbers.now in
    let x = get_or c.loop-searched.numbers i 0 in
    let here : x ≡ get_or numbers i 0 = rest-kept (selected weights) numbers c.loop-searched.numbers i (omega arith) c.loop-searched.invariant in
    let below : x < sum weights = omega (arith, here, c.requires i 0 (omega arith)) in
    map_over_next (selected weights) numbers c.loop-searched.numbers i c.search.result (omega arith) c.loop-searched.auto.numbers c.loop-searched.invariant
    (selected-is weights x c.search.result below c.search.ensures)

pub bounds-table-tabled : goal.bounds-table-tabled
bounds-table-tabled c =
    let weights = c.args.self.now in
    let table = c.as_slice-table.result.now in
    let i = c.loop-tabled.tabled-index in
    let x = get_or c.loop-tabled.numbers i 0 in
    let tabled : IsTable weights table = rw (c.self.view_is, ← c.as_slice-table.ensures.value) at c.self.invariant.tabled in
    let some : 0 < length table = grind (arith, common_steps) in
    let here : x ≡ get_or c.args.numbers.now i 0 =
    rest-kept (selected weights) c.args.numbers.now c.loop-tabled.numbers i (omega arith) c.loop-tabled.invariant
    in
    tabled-within weights table x tabled some (omega (arith, here, c.requires i 0 (omega arith)))

pub loop-tabled-preserved : goal.loop-tabled-preserved
loop-tabled-preserved c =
    let weights = c.args.self.now in
    let table = c.as_slice-table.result.now in
    let i = c.loop-tabled.tabled-index in
    let numbers = c.args.numbers.now in
    let x = get_or c.loop-tabled.numbers i 0 in
    let tabled : IsTable weights table = rw (c.self.view_is, ← c.as_slice-table.ensures.value) at c.self.invariant.tabled in
    let some : 0 < length table = grind (arith, common_steps) in
    let here : x ≡ get_or numbers i 0 = rest-kept (selected weights) numbers c.loop-tabled.numbers i (omega arith) c.loop-tabled.invariant in
    let below : x < sum weights = omega (arith, here, c.requires i 0 (omega arith)) in
    map_over_next (selected weights) numbers c.loop-tabled.numbers i c.from.result (omega arith) c.loop-tabled.auto.numbers c.loop-tabled.invariant
    (tabled-is weights table x c.from.result tabled some below c.from.ensures)
