-- The shares of all nodes, the packages of a share, and the room that they want.
use Rattle.std.proofs.Common.{◌≡◌, ◌≤◌, ◌<◌, ℕ, suc, ◌+◌, ◌-◌, ◌*◌, List, [], ◌∷◌, get_or, length, map, min, ap, arith, subst, ◌∙◌}
use Rattle.std.specs.List.{flat_map, range_with_len}
use Rattle.std.proofs.lemmas.List.{get_or-map, length-map}
use Rattle.std.proofs.lemmas.List.Sums.{get_or-le-sum_by}
use Rattle.std.proofs.Math.Nat.{mul-div-le, mul-le-mul_left, mul-le-mul_right, mul-div_left}
use Rattle.schema_facts.specs.Dictionaries.{Project}
use Rattle.schema_facts.specs.FieldSizes.{field_sizes, size_of}
use Rattle.schema_facts.specs.Layout.{ColumnLayout, KindLayout, Layout, TableLayout, column_at, key_kind, layout_of, no_column, no_table, table_at}
use Rattle.schema_plan.specs.Limits.{IsInLimits, IsTableInLimits}
use Rattle.schema_facts.specs.TableFacts.{max_line, reach}
use Rattle.schema_plan.proofs.PlannedLemmas.{max_line-reach}
use Rattle.life_intervals.specs.Generator.{last_unit}
use Rattle.life_intervals.proofs.AcceptedLemmas.{place-below}
use Rattle.row_lines.specs.declared.run_keys.TheConstants.{KEY_LINE}
use Rattle.update_box.specs.Cuts.{cut_at, greatest}
use Rattle.update_box.specs.Packages.{IsJobOf, Share, chosen_places, most_bytes, package_text, packages_in, packages_of, room_of, share_of, share_room, share_text}
use Rattle.update_box.specs.Parts.{Part, content_text, entries_in, parts_of, range_text, snapshot_contents, unit_contents}
use Rattle.update_box.specs.declared.parts.Content.{Content}
use Rattle.update_box.specs.declared.parts.Content.TheVariants as content
use Rattle.update_box.specs.declared.parts.Job.{Job}
use Rattle.update_box.proofs.CutLemmas.{cut-within, cuts-rise, packages-joined, shares-joined}
use Rattle.update_box.proofs.EntryLemmas.{range_text-joined, range_text-whole}

-- ---- shares

pub shares-whole : (plan : Project) → IsInLimits plan → (job : Job) → job.unit ≤ last_unit plan → 1 ≤ job.nodes → (part : Part) → part.place < length plan.schema.tables →
    flat_map (λ node. share_text plan job.unit (share_of plan (record job { node = node }) part)) (range_with_len 0 job.nodes) ≡ content_text plan job.unit part.place part.content
shares-whole plan limits job reached some part below =
    shares-joined (range_text plan job.unit part.place part.content) (entries_in plan job.unit part) (range_text-joined plan limits part.place job.unit reached part.content) job.nodes some
    ∙ range_text-whole plan limits part.place below job.unit reached part.content

pub share-alone : (plan : Project) → IsInLimits plan → (job : Job) → job.unit ≤ last_unit plan → job.node ≡ 0 → job.nodes ≡ 1 → (part : Part) → part.place < length plan.schema.tables →
    share_text plan job.unit (share_of plan job part) ≡ content_text plan job.unit part.place part.content
share-alone plan limits job reached first one part below =
    let count : ℕ = entries_in plan job.unit part in
    let text : ℕ → ℕ → List ℕ = range_text plan job.unit part.place part.content in
    let begin : cut_at count 0 1 ≡ 0 = omega (arith, mul-div-le 0 1) in
    let end : cut_at count (0 + 1) 1 ≡ count = mul-div_left count (omega arith) in
    ap (λ (n : ℕ). text (cut_at count n job.nodes) (cut_at count (n + 1) job.nodes)) first
    ∙ ap (λ (n : ℕ). text (cut_at count 0 n) (cut_at count (0 + 1) n)) one
    ∙ ap (λ (a : ℕ). text a (cut_at count (0 + 1) 1)) begin
    ∙ ap (text 0) end
    ∙ range_text-whole plan limits part.place below job.unit reached part.content

-- ---- packages

pub packages-whole : (plan : Project) → IsInLimits plan → (job : Job) → IsJobOf plan job → (part : Part) → part.place < length plan.schema.tables → (size : ℕ) → 1 ≤ size →
    flat_map (package_text plan job.unit size (share_of plan job part)) (range_with_len 0 (packages_in size (share_of plan job part))) ≡ share_text plan job.unit (share_of plan job part)
packages-whole plan limits job is part below size some =
    let count : ℕ = entries_in plan job.unit part in
    let next : job.node + 1 ≤ job.nodes = omega (arith, is.node) in
    packages-joined (range_text plan job.unit part.place part.content) count (range_text-joined plan limits part.place job.unit is.unit part.content)
    (cut_at count job.node job.nodes) (cut_at count (job.node + 1) job.nodes) size some
    (let same : suc job.node ≡ job.node + 1 = omega arith in subst (λ (n : ℕ). cut_at count job.node job.nodes ≤ cut_at count n job.nodes) same (cuts-rise count job.node job.nodes (omega (arith, is.node))))
    (cut-within count (job.node + 1) job.nodes (omega (arith, is.node)) next)

-- ---- room

greatest-within : {A : Type 0} (number : A → ℕ) (most : ℕ) (items : List A) → ((item : A) → number item ≤ most) → greatest number items ≤ most
greatest-within number most [] each = omega arith
greatest-within number most (item ∷ items) each = omega (arith, each item, greatest-within number most items each)

share-room : (plan : Project) (size most : ℕ) (share : Share) → most_bytes plan share.part.place share.part.content ≤ most → share_room plan size share ≤ size * most
share-room plan size most share few =
    let less : min size (share.end - share.first) * most_bytes plan share.part.place share.part.content ≤ size * most_bytes plan share.part.place share.part.content =
    mul-le-mul_right (most_bytes plan share.part.place share.part.content) (omega arith) in
    let more : size * most_bytes plan share.part.place share.part.content ≤ size * most = mul-le-mul_left size few in
    omega (arith, less, more)

-- a line holds its table's key, and a line feed after it or a delimiter
key_size : (delimiter : ℕ) (tables : List TableLayout) (columns : List ColumnLayout) (kind : KindLayout) → kind ≡ key_kind → size_of delimiter tables columns kind ≡ 20
key_size delimiter tables columns kind is = ap (size_of delimiter tables columns) is

pub key_line-reach : (plan : Project) → IsInLimits plan → KEY_LINE ≤ reach (layout_of plan)
unfolding max_line
key_line-reach plan limits =
    let layout : Layout = layout_of plan in
    let table : TableLayout = table_at layout.tables 0 in
    let known : IsTableInLimits (last_unit plan) table = limits.tables 0 no_table (place-below plan 0 limits.some_table) in
    let size : ColumnLayout → ℕ = λ (column : ColumnLayout). size_of layout.delimiter layout.tables table.columns column.kind in
    let fields : List ℕ = field_sizes layout.delimiter layout.tables table.columns in
    let one : 0 < length fields = omega (arith, known.some_column, length-map table.columns size) in
    let first : get_or fields 0 (size no_column) ≡ 20 =
    get_or-map size table.columns 0 no_column (size no_column) (omega (arith, known.some_column))
    ∙ key_size layout.delimiter layout.tables table.columns (column_at table.columns 0).kind known.key_first in
    omega (arith, first, get_or-le-sum_by (λ n. n + 1) fields 0 (size no_column) one, max_line-reach layout 0)

most-within : (plan : Project) → IsInLimits plan → (place : ℕ) (told : Content) → most_bytes plan place told ≤ reach (layout_of plan)
most-within plan limits place content.Snapshot = max_line-reach (layout_of plan) place
most-within plan limits place content.Deleted = key_line-reach plan limits
most-within plan limits place content.Updated = max_line-reach (layout_of plan) place
most-within plan limits place content.Inserted = max_line-reach (layout_of plan) place

pub unit-room : (plan : Project) (job : Job) → IsInLimits plan → room_of (packages_of unit_contents plan job) ≤ job.package * reach (layout_of plan)
unit-room plan job limits =
    greatest-within (share_room plan job.package) (job.package * reach (layout_of plan)) (packages_of unit_contents plan job).shares
    (λ share. share-room plan job.package (reach (layout_of plan)) share (most-within plan limits share.part.place share.part.content))

pub snapshot-room : (plan : Project) (job : Job) → room_of (packages_of snapshot_contents plan job) ≤ job.package * reach (layout_of plan)
snapshot-room plan job = all (chosen_places plan job.table)
  where
    all : (places : List ℕ) → greatest (share_room plan job.package) (map (share_of plan job) (parts_of snapshot_contents places)) ≤ job.package * reach (layout_of plan)
    all [] = omega arith
    all (place ∷ places) =
        let share : Share = share_of plan job (record { place = place; content = content.Snapshot }) in
        omega (arith, share-room plan job.package (reach (layout_of plan)) share (max_line-reach (layout_of plan) place), all places)
