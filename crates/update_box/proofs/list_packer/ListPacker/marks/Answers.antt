use Rattle.std.proofs.Common.{◌≡◌, List, subst, sym}
use Rattle.std.specs.Prelude.{IfOk}
use Rattle.std.specs.Option.{option_copied}
use Rattle.std.proofs.lemmas.Result.{IfOk-weaker}
use Rattle.range_workers.specs.Marks.{AreMarksOf, Mark, due_files}
use Rattle.update_box.specs.Kept.{packages_by}
use Rattle.update_box.specs.Packages.{Packages, count_of, share_files, text_numbered}
use Rattle.update_box.proofs.PackLemmas.{marks-due, marks-right}
use Rattle.update_box.proofs.list_packer.ListPacker.marks.Goals as goal

pub returns-clause-marks : goal.returns-clause-marks
returns-clause-marks c =
    subst (λ (p : Packages). IfOk c.marks_of.result (AreMarksOf (count_of p))) c.self.view_is
    (IfOk-weaker c.marks_of.result _ _
    (λ marks is. subst (AreMarksOf _) (sym is) (marks-right c.self.inside.plan.now c.self.inside.tables.now c.self.inside.unit c.self.inside.shares (option_copied c.args.dir) c.schema-limits.ensures.limits c.self.invariant.0))
    c.marks_of.ensures)

pub returns-clause-files : goal.returns-clause-files
returns-clause-files c =
    let packages : Packages = packages_by c.self.inside.plan.now c.self.inside.unit c.self.inside.shares in
    subst (λ (p : Packages). IfOk c.marks_of.result (λ marks. due_files (text_numbered p) (count_of p) marks ≡ share_files p (option_copied c.args.dir))) c.self.view_is
    (IfOk-weaker c.marks_of.result _ _
    (λ marks is.
    subst (λ (ms : List Mark). due_files (text_numbered packages) (count_of packages) ms ≡ share_files packages (option_copied c.args.dir)) (sym is)
    (marks-due c.self.inside.plan.now c.self.inside.tables.now c.self.inside.unit c.self.inside.shares (option_copied c.args.dir) c.schema-limits.ensures.limits c.self.invariant.0))
    c.marks_of.ensures)
