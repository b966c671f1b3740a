use Rattle.std.proofs.Common.{◌≡◌, ◌<◌, ◌≤◌, ℕ, Bool, false, List, Option, take, length, length-take, map, get_or, ap, arith, subst, sym, ◌∙◌}
use Rattle.std.proofs.lemmas.List.{get_or-map, length-map}
use Rattle.std.proofs.lemmas.List.FromFn.{get_or-range_with_len}
use Rattle.cohort_sizes.specs.Births.{born_count}
use Rattle.cohort_sizes.proofs.CohortLemmas.{born_count-le}
use Rattle.life_intervals.specs.Generator.{generator_of, table_of}
use Rattle.life_intervals.specs.Intervals.{is_live}
use Rattle.life_intervals.specs.RunParents.{AreKnownOf}
use Rattle.life_intervals.specs.Runs.{IsRun}
use Rattle.row_lines.specs.Kept.{kept_by}
use Rattle.row_lines.specs.Runs.{AreLiving, RunLinesOf, layout_for}
use Rattle.row_lines.proofs.KeptLemmas.{length-kept_by}
use Rattle.row_lines.proofs.RunFieldLemmas.{kept_living, kept_range}
use Rattle.row_lines.proofs.RunParentLemmas.{kept_known}
use Rattle.row_lines.proofs.RunPieceLemmas.{AreRunLines-view}
use Rattle.row_lines.proofs.runs.RunLines.find_living.Goals as goal

-- which rows live, by their indices
live_many : (lines : RunLinesOf) (ordinals : List ℕ) (live : List Bool) → live ≡ map (λ j. is_live (generator_of lines.plan) lines.table lines.unit j) ordinals → length live ≡ length ordinals
live_many lines ordinals live is = ap length is ∙ length-map ordinals (λ j. is_live (generator_of lines.plan) lines.table lines.unit j)

live_each : (lines : RunLinesOf) (ordinals : List ℕ) (live : List Bool) → live ≡ map (λ j. is_live (generator_of lines.plan) lines.table lines.unit j) ordinals →
    (i : ℕ) → i < length ordinals → get_or live i false ≡ is_live (generator_of lines.plan) lines.table lines.unit (get_or ordinals i 0)
live_each lines ordinals live is i below =
    ap (λ (flags : List Bool). get_or flags i false) is ∙ get_or-map (λ j. is_live (generator_of lines.plan) lines.table lines.unit j) ordinals i 0 false below

pub put_range-requires : goal.put_range-requires
put_range-requires g c =
    let lines : RunLinesOf = c.args.self.now in
    let known = AreRunLines-view _ lines c.self.inside.lines.now c.self.view_is c.self.invariant in
    omega (arith, c.requires.rows, known.limits.births.row_limit, born_count-le (layout_for lines).births lines.unit _ known.unit)

pub put_births-requires-clause-rows : goal.put_births-requires-clause-rows
put_births-requires-clause-rows g c = λ i below.
    let inside : i < length c.args.ordinals.now = omega (arith, below, c.put_range.auto.list) in
    omega (
      arith,
      ap (λ (xs : List ℕ). get_or xs i 0) c.put_range.ensures,
      get_or-range_with_len c.args.first (length c.args.ordinals.now) i 0 inside,
      c.requires.rows,
      ap (λ (of : RunLinesOf). born_count (table_of of.plan of.table).births of.unit) c.self.view_is,
    )

pub returns-clause-ordinals : goal.returns-clause-ordinals
returns-clause-ordinals g c =
    let lines : RunLinesOf = c.args.self.now in
    let count : ℕ = length c.args.ordinals.now in
    let live : List Bool = c.put_run_lives-by.new.live in
    let of : RunLinesOf = record { plan = c.self.inside.rows.now; table = c.self.inside.table; unit = c.self.inside.unit } in
    c.keep-2.ensures.kept
    ∙ ap (kept_by live) c.put_range.ensures
    ∙ kept_range lines c.args.first count live (live_many of c.put_range.new.list live c.put_run_lives-by.ensures.live ∙ c.put_range.auto.list)
    (subst (λ (xs : List ℕ). (i : ℕ) → i < count → get_or live i false ≡ is_live (generator_of lines.plan) lines.table lines.unit (get_or xs i 0)) c.put_range.ensures
    (subst (λ (of : RunLinesOf). (i : ℕ) → i < count → get_or live i false ≡ is_live (generator_of of.plan) of.table of.unit (get_or c.put_range.new.list i 0)) c.self.view_is
    (λ i below. live_each of c.put_range.new.list live c.put_run_lives-by.ensures.live i (omega (arith, below, c.put_range.auto.list)))))

pub returns-clause-living : goal.returns-clause-living
returns-clause-living g c =
    let lines : RunLinesOf = c.args.self.now in
    let live : List Bool = c.put_run_lives-by.new.live in
    let of : RunLinesOf = record { plan = c.self.inside.rows.now; table = c.self.inside.table; unit = c.self.inside.unit } in
    let run : IsRun lines.plan lines.table lines.unit c.put_range.new.list c.put_births.new.births =
    subst (λ (of : RunLinesOf). IsRun of.plan of.table of.unit c.put_range.new.list c.put_births.new.births) c.self.view_is c.put_births.ensures in
    let same : c.keep-2.result ≡ c.keep.result =
    c.keep-2.ensures.count ∙ length-kept_by live c.put_range.new.list c.put_births.new.births (sym run.same_length) ∙ sym c.keep.ensures.count in
    let births : take c.keep-2.result c.keep.new.list ≡ kept_by live c.put_births.new.births = ap (λ (n : ℕ). take n c.keep.new.list) same ∙ c.keep.ensures.kept in
    subst (λ (xs : List ℕ). AreLiving lines xs (take c.keep-2.result c.keep.new.list)) (sym c.keep-2.ensures.kept)
    (subst (λ (xs : List ℕ). AreLiving lines (kept_by live c.put_range.new.list) xs) (sym births)
    (kept_living lines c.put_range.new.list c.put_births.new.births live run (live_many of c.put_range.new.list live c.put_run_lives-by.ensures.live)
    (subst (λ (of : RunLinesOf). (i : ℕ) → i < length c.put_range.new.list → get_or live i false ≡ is_live (generator_of of.plan) of.table of.unit (get_or c.put_range.new.list i 0)) c.self.view_is
    (live_each of c.put_range.new.list live c.put_run_lives-by.ensures.live))))

pub returns-clause-known : goal.returns-clause-known
returns-clause-known g c =
    let lines : RunLinesOf = c.args.self.now in
    let live : List Bool = c.put_run_lives-by.new.live in
    let of : RunLinesOf = record { plan = c.self.inside.rows.now; table = c.self.inside.table; unit = c.self.inside.unit } in
    let ordinals : List ℕ = c.put_range.new.list in
    let parents : List ℕ = c.put_run_lives-by.new.parents in
    let births : List ℕ = c.put_run_lives-by.new.parents_births in
    let by : Option ℕ = c.put_run_lives-by.result in
    let known : AreKnownOf lines.plan lines.table lines.unit ordinals by parents births =
    subst (λ (of : RunLinesOf). AreKnownOf of.plan of.table of.unit ordinals by parents births) c.self.view_is c.put_run_lives-by.ensures.known in
    let living : ℕ = c.keep-2.result in
    let few : living ≤ length ordinals = omega (arith, c.keep-2.ensures.within) in
    let parents_living : length (kept_by live parents) ≡ living = length-kept_by live parents ordinals known.parents_many ∙ sym c.keep-2.ensures.count in
    let births_living : length (kept_by live births) ≡ living = length-kept_by live births ordinals known.births_many ∙ sym c.keep-2.ensures.count in
    let living_many : length (take living c.keep-2.new.list) ≡ living = ap length c.keep-2.ensures.kept ∙ sym c.keep-2.ensures.count in
    kept_known lines ordinals parents births live by (take living c.keep-2.new.list) (take living c.keep_found.new.list) (take living c.keep_found-2.new.list)
    (live_many of ordinals live c.put_run_lives-by.ensures.live) known c.keep-2.ensures.kept
    (omega (arith, length-take living c.keep_found.new.list, c.keep_found.ensures.same_length, known.parents_many, few, living_many))
    (omega (arith, length-take living c.keep_found-2.new.list, c.keep_found-2.ensures.same_length, known.births_many, few, living_many))
    (λ some. ap (λ (n : ℕ). take n c.keep_found.new.list) (sym parents_living) ∙ c.keep_found.ensures.kept some)
    (λ some. ap (λ (n : ℕ). take n c.keep_found-2.new.list) (sym births_living) ∙ c.keep_found-2.ensures.kept some)
