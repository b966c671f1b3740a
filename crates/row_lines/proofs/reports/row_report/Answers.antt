use Rattle.std.proofs.Common.{◌≡◌, ◌++◌, ◌≤◌, ◌+◌, ℕ, List, [], Option, Some, None, option_map, unwrap_or, is_some, length, ap, arith, subst, sym, ◌∙◌, append-nil}
use Rattle.std.proofs.lemmas.Option.{none-some}
use Rattle.schema_facts.specs.Layout.{layout_of}
use Rattle.schema_facts.specs.TableFacts.{max_line}
use Rattle.life_intervals.specs.Generator.{generator_of, last_unit}
use Rattle.row_lines.specs.Reports.{report_on, row_report}
use Rattle.row_lines.proofs.ReportLemmas.{row_with_key-found, row_with_key-none}
use Rattle.row_lines.proofs.reports.row_report.Goals as goal
use Rattle.row_lines.proofs.reports.row_report.Goals.{In-None, In-Some}

-- the report on the row that has the key
report_is : (g : _) (c : In-Some g) →
    report_on c.args.plan.now c.args.table c.args.t c.args.key ≡ Some (row_report (generator_of c.args.plan.now) (last_unit c.args.plan.now) c.args.table c.args.t c.in-Some.j)
report_is g c =
    ap (option_map (row_report (generator_of c.args.plan.now) (last_unit c.args.plan.now) c.args.table c.args.t))
    (row_with_key-found c.args.plan.now c.args.table c.args.key c.in-Some.j c.in-Some.ensures.within c.in-Some.ensures.has_it c.in-Some.ensures.found)

none_is : (g : _) (c : In-None g) → report_on c.args.plan.now c.args.table c.args.t c.args.key ≡ None
none_is g c =
    ap (option_map (row_report (generator_of c.args.plan.now) (last_unit c.args.plan.now) c.args.table c.args.t))
    (row_with_key-none c.args.plan.now c.args.table c.args.key (λ ordinal within has_it. none-some ordinal (c.in-None.ensures.found ordinal within has_it)))

pub returns-in-Some-clause-found : goal.returns-in-Some-clause-found
returns-in-Some-clause-found g c = sym (ap (λ (report : Option (List ℕ)). is_some report) (report_is g (goal.at.returns-in-Some-clause-found g c).In-Some))

pub returns-in-Some-clause-text : goal.returns-in-Some-clause-text
returns-in-Some-clause-text g c =
    c.put_report.ensures.text
    ∙ sym (ap (λ (report : Option (List ℕ)). record { text = c.args.buf.now.text ++ unwrap_or report []; room = c.args.buf.now.room })
    (report_is g (goal.at.returns-in-Some-clause-text g c).In-Some))

pub returns-in-Some-clause-size : goal.returns-in-Some-clause-size
returns-in-Some-clause-size g c =
    subst (λ (report : Option (List ℕ)). length (unwrap_or report []) ≤ 128 + max_line (layout_of c.args.plan.now) c.args.table)
    (sym (report_is g (goal.at.returns-in-Some-clause-size g c).In-Some))
    c.put_report.ensures.size

pub returns-in-None-clause-found : goal.returns-in-None-clause-found
returns-in-None-clause-found g c = sym (ap (λ (report : Option (List ℕ)). is_some report) (none_is g c))

pub returns-in-None-clause-text : goal.returns-in-None-clause-text
returns-in-None-clause-text g c =
    ap (λ (text : List ℕ). record { text = text; room = c.args.buf.now.room }) (sym (append-nil c.args.buf.now.text))
    ∙ sym (ap (λ (report : Option (List ℕ)). record { text = c.args.buf.now.text ++ unwrap_or report []; room = c.args.buf.now.room }) (none_is g c))

pub returns-in-None-clause-size : goal.returns-in-None-clause-size
returns-in-None-clause-size g c =
    subst (λ (report : Option (List ℕ)). length (unwrap_or report []) ≤ 128 + max_line (layout_of c.args.plan.now) c.args.table) (sym (none_is g c)) (omega arith)
