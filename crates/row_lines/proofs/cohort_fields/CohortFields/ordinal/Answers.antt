use Rattle.std.proofs.Common.{◌+◌, ℕ, ap, arith}
use Rattle.row_lines.proofs.CohortFieldLemmas.{AreFieldsOf-view, ordinal-limit}
use Rattle.row_lines.proofs.cohort_fields.CohortFields.ordinal.Goals as goal

pub overflow_add-result : goal.overflow_add-result
overflow_add-result c =
    let known = AreFieldsOf-view _ c.args.self.now c.self.inside.columns.now c.self.inside.first c.self.view_is c.self.invariant in
    omega (arith, ordinal-limit c.args.self.now _ _ known c.args.index c.requires)

pub returns : goal.returns
returns c =
    let known = AreFieldsOf-view _ c.args.self.now c.self.inside.columns.now c.self.inside.first c.self.view_is c.self.invariant in
    record {
      ordinal = ap (λ (first : ℕ). first + c.args.index) known.first_is;
      early = known.born;
      limits = known.limits;
    }
