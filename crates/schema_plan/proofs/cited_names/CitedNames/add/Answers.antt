use Rattle.std.proofs.Common.{◌∙◌, ap, sym, length, arith, ◌++◌, ◌∷◌, []}
use Rattle.schema_plan.specs.Citations.{has_name}
use Rattle.schema_plan.proofs.WordListLemmas.{name_joins, name_known, names_full}
use Rattle.schema_plan.proofs.cited_names.CitedNames.add.Goals as goal
use Rattle.schema_plan.proofs.cited_names.CitedNames.add.Goals.{else-len-lt-MAX_NAMES-via-then-len-lt-MAX_NAMES+else-not-has, else-len-lt-MAX_NAMES-via-else-len-lt-MAX_NAMES}

pub returns-then-not-has : goal.returns-then-not-has
returns-then-not-has c = λ before first.
    let name = c.args.name.now in
    c.push.ensures
    ∙ ap (λ names. names ++ name ∷ []) first
    ∙ name_joins before name (omega (arith, ap length first)) (ap (λ names. has_name names name) (sym first) ∙ sym c.has.ensures ∙ c.if-not-has.true)

pub returns-else-len-lt-MAX_NAMES : goal.returns-else-len-lt-MAX_NAMES
returns-else-len-lt-MAX_NAMES c = λ before first.
    let name = c.args.name.now in
    first ∙ elim c.else-len-lt-MAX_NAMES.branch [
      | else-len-lt-MAX_NAMES-via-then-len-lt-MAX_NAMES+else-not-has w ↦
          name_known before name (ap (λ names. has_name names name) (sym first) ∙ sym w.has.ensures ∙ w.if-not-has.false)
      | else-len-lt-MAX_NAMES-via-else-len-lt-MAX_NAMES w ↦
          names_full before name (omega (arith, ap length first, w.if-len-lt-MAX_NAMES.false))
    ]
