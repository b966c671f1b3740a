use Rattle.std.proofs.Common.{◌≡◌, ◌<◌, ◌==◌, ◌∙◌, ℕ, false, true, Option, None, Some, ap, sym, arith, eq-eqb}
use Rattle.std.specs.Prelude.{IfSome, IsSome, is_some, not}
use Rattle.std.specs.Option.{option_map}
use Rattle.std.proofs.lemmas.Bool.{ne_eqb}
use Rattle.std.proofs.lemmas.Result.{err_from_is_err_and}
use Rattle.schema_facts.specs.Dictionaries.{Project}
use Rattle.life_intervals.specs.Generator.{generator_of, last_unit, rows_in_all}
use Rattle.life_intervals.specs.Keys.{key_of}
use Rattle.row_lines.specs.Reports.{row_report, row_with_key}
use Rattle.row_lines.proofs.ListLemmas.{find-range_first, find-range_none}
use Rattle.pdgf_run.proofs.modes.row.row_text.Goals as goal

-- where no row was found, no row has the key
no_row : (plan : Project) (place key : ℕ) (found : Option ℕ) → is_some found ≡ false →
    ((j : ℕ) → j < rows_in_all plan place → key_of (generator_of plan) place (last_unit plan) j ≡ key → found ≡ Some j) → row_with_key plan place key ≡ None
no_row plan place key found none only =
    find-range_none (λ at. key_of (generator_of plan) place (last_unit plan) at == key) 0 (rows_in_all plan place)
    (λ j low high. ne_eqb (key_of (generator_of plan) place (last_unit plan) j) key
    (λ same. let is : is_some found ≡ true = ap is_some (only j (omega (arith, high)) same) in cc))

-- the row that was found is the one that has the key
found_row : (plan : Project) (place key : ℕ) (found : Option ℕ) → is_some found ≡ true →
    IfSome found (λ j. j < rows_in_all plan place) → IfSome found (λ j. key_of (generator_of plan) place (last_unit plan) j ≡ key) →
    ((j : ℕ) → j < rows_in_all plan place → key_of (generator_of plan) place (last_unit plan) j ≡ key → found ≡ Some j) → IsSome (row_with_key plan place key)
found_row plan place key None some within has_it only = absurd (cc)
found_row plan place key (Some j) some within has_it only =
    ap is_some (find-range_first (λ at. key_of (generator_of plan) place (last_unit plan) at == key) 0 (rows_in_all plan place) j (omega arith) (omega (arith, within))
    (λ other low high.
    ne_eqb (key_of (generator_of plan) place (last_unit plan) other) key
    (λ same. let is : Some j ≡ Some other = only other (omega (arith, high, within)) same in let equal : j ≡ other = cc in omega (arith, high, equal)))
    (eq-eqb (key_of (generator_of plan) place (last_unit plan) j) key has_it))

mapped : {A B : Type 0} (f : A → B) (found : Option A) → IsSome found → IsSome (option_map f found)
mapped f None is = is
mapped f (Some x) is = is

pub returns-then-is_none-clause-text : goal.returns-then-is_none-clause-text
returns-then-is_none-clause-text g c =
    let none : is_some c.row_of_key.result ≡ false = c.is_none.ensures ∙ ap not c.if-is_none.true in
    sym (ap (option_map (row_report (generator_of c.args.plan.now) (last_unit c.args.plan.now) c.args.table c.args.unit))
    (no_row c.args.plan.now c.args.table c.args.key c.row_of_key.result none c.row_of_key.ensures.found))

pub returns-in_err-page-clause-memory : goal.returns-in_err-page-clause-memory
returns-in_err-page-clause-memory g c =
    let some : is_some c.row_of_key.result ≡ true = c.is_none.ensures ∙ ap not c.if-is_none.false in
    let told = mapped (row_report (generator_of c.args.plan.now) (last_unit c.args.plan.now) c.args.table c.args.unit) (row_with_key c.args.plan.now c.args.table c.args.key)
    (found_row c.args.plan.now c.args.table c.args.key c.row_of_key.result some c.row_of_key.ensures.within c.row_of_key.ensures.has_it c.row_of_key.ensures.found) in
    let answer = err_from_is_err_and c.from_residual.result c.from_residual.ensures.1 in
    rw answer.1 told
