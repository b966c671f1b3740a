use Rattle.std.proofs.Common.{ℕ, ap, arith, subst, sym}
use Rattle.update_box.specs.Parts.{content_count}
use Rattle.update_box.specs.Prepared.{IsAmong}
use Rattle.update_box.specs.declared.parts.Content.{Content}
use Rattle.update_box.proofs.EntryLemmas.{content_count-few}
use Rattle.update_box.proofs.list_packer.list_share.Goals as goal

pub cut-requires-clause-entries : goal.cut-requires-clause-entries
cut-requires-clause-entries c =
    omega (arith, c.requires.entries, content_count-few c.args.plan.now c.schema-sound.ensures.limits c.args.place c.requires.place c.args.job.now.unit c.requires.job.unit c.args.content, c.table-limits.ensures.limits.births.row_limit)

pub returns-clause-kept : goal.returns-clause-kept
returns-clause-kept c =
    let count : ℕ → Content → ℕ = content_count c.args.plan.now c.args.job.now.unit in
    let few = content_count-few c.args.plan.now c.schema-sound.ensures.limits c.args.place c.requires.place c.args.job.now.unit c.requires.job.unit c.args.content in
    record {
      among = subst (IsAmong c.args.tables.now) (sym c.cut.ensures.place) c.requires.among;
      within = omega (arith, c.cut.ensures.within, c.requires.entries, ap (λ (place : ℕ). count place c.cut.result.content) c.cut.ensures.place, ap (count c.args.place) c.cut.ensures.content);
      cut = record {
        ordered = c.cut.ensures.ordered;
        few = omega (arith, c.cut.ensures.within, c.requires.entries, few, c.table-limits.ensures.limits.births.row_limit);
        packages = c.cut.ensures.packages;
      };
    }
