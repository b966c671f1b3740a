use Rattle.std.proofs.Common.{◌≡◌, ◌<◌, ◌^◌, ◌++◌, ℕ, List, ap, sym, ◌∙◌, arith, decimal, is_some, length}
use Rattle.row_text.specs.Fields.{field_text}
use Rattle.schema_facts.specs.Layout.{column_at, key_kind, layout_of}
use Rattle.schema_plan.specs.declared.ready.ReadyColumn.{ReadyColumn}
use Rattle.schema_plan.specs.declared.ready.ReadyKind.TheVariants.{Key, Reference}
use Rattle.schema_plan.specs.declared.ready.ReadyReference.{ReadyReference}
use Rattle.life_intervals.specs.CohortParents.{IsReferenceOf, reference_by}
use Rattle.row_lines.specs.CohortLines.{AreFieldsOf, LinesOf, key_for, layout_for, reference_value, text_in_table}
use Rattle.row_lines.proofs.CohortFieldLemmas.{AreFieldsOf-view, asked_by-key, column_here, derived_from_ready, key_from_ready, key_never_null, own_from_ready, ready_at, size-key, text-key}
use Rattle.row_lines.proofs.FieldLemmas.{length-decimal-le_20}
use Rattle.row_lines.proofs.ReferenceFieldLemmas.{asked_by-reference, size-reference, text-reference}
use Rattle.row_lines.proofs.cohort_fields.CohortFields.put.Goals as goal
use Rattle.row_lines.proofs.cohort_fields.CohortFields.put.Goals.{After-index-columns-column}

known : (g : _) (c : After-index-columns-column g) → AreFieldsOf c.args.self.now c.self.inside.columns.now c.self.inside.first
known g c = AreFieldsOf-view _ c.args.self.now c.self.inside.columns.now c.self.inside.first c.self.view_is c.self.invariant

-- the column is the key
is_key : (g : _) (c : After-index-columns-column g) → c.index-columns-column.result.kind ≡ Key → (column_at (layout_for c.args.self.now).columns c.args.column).kind ≡ key_kind
is_key g c key =
    let lines : LinesOf = c.args.self.now in
    let known = AreFieldsOf-view _ lines c.self.inside.columns.now c.self.inside.first c.self.view_is c.self.invariant in
    key_from_ready (layout_of lines.plan).delimiter _ (ap (λ (ready : ReadyColumn). ready.kind) (ready_at lines _ known.columns_are c.args.column c.index-columns-column.result c.requires.column c.index-columns-column.is) ∙ key)

pub put_number-requires : goal.put_number-requires
put_number-requires g c =
    let here = (goal.at.put_number-requires g c).After-index-columns-column in
    omega (
      arith,
      length-decimal-le_20 c.key.result c.key.type_inv,
      size-key c.args.self.now c.args.column (is_key g here (ap (λ (column : ReadyColumn). column.kind) c.index-columns-column.is ∙ c.in-Key.is)),
      c.requires.room,
    )

pub put_own-requires-clause-own : goal.put_own-requires-clause-own
put_own-requires-clause-own g c =
    let lines : LinesOf = c.args.self.now in
    let known = AreFieldsOf-view _ lines c.self.inside.columns.now c.self.inside.first c.self.view_is c.self.invariant in
    let column = c.index-columns-column.result in
    let is = ready_at lines _ known.columns_are c.args.column column c.requires.column c.index-columns-column.is in
    own_from_ready (layout_of lines.plan).delimiter _ c.requires.no_lookup
    (derived_from_ready (layout_of lines.plan).delimiter _
    (λ after held. c.in_default.not-After after (ap (λ (ready : ReadyColumn). ready.kind) (sym (is ∙ c.index-columns-column.is)) ∙ held))
    (λ of held. c.in_default.not-Sum of (ap (λ (ready : ReadyColumn). ready.kind) (sym (is ∙ c.index-columns-column.is)) ∙ held))
    (λ of held. c.in_default.not-Product of (ap (λ (ready : ReadyColumn). ready.kind) (sym (is ∙ c.index-columns-column.is)) ∙ held)))
    (λ key. c.in_default.not-Key (ap (λ (ready : ReadyColumn). ready.kind) (sym (is ∙ c.index-columns-column.is)) ∙ key))
    (λ parts template. c.in_default.not-Template parts (ap (λ (ready : ReadyColumn). ready.kind) (sym (is ∙ c.index-columns-column.is)) ∙ template))
    (λ reference held. c.in_default.not-Reference reference (ap (λ (ready : ReadyColumn). ready.kind) (sym (is ∙ c.index-columns-column.is)) ∙ held))

-- and its text the key as it is written
text_is_key : (g : _) (c : After-index-columns-column g) (key : ℕ) → c.index-columns-column.result.kind ≡ Key → key ≡ key_for c.args.self.now c.args.index → key < 2 ^ 64 →
    text_in_table c.args.self.now c.args.index c.args.values.now.changed c.args.column ≡ decimal key
text_is_key g c key is key_is small =
    let lines : LinesOf = c.args.self.now in
    let known = AreFieldsOf-view _ lines c.self.inside.columns.now c.self.inside.first c.self.view_is c.self.invariant in
    let never = key_never_null (layout_for lines).columns c.args.column known.limits.key_never_null known.limits.no_other_key c.requires.column (is_key g c is) in
    text-key lines c.args.column c.args.index c.args.values.now.changed key (is_key g c is) never known.born c.requires.row key_is small

pub returns-in-Key-clause-text : goal.returns-in-Key-clause-text
returns-in-Key-clause-text g c =
    let at = (goal.at.returns-in-Key-clause-text g c).After-index-columns-column in
    let held = ap (λ (column : ReadyColumn). column.kind) c.index-columns-column.is ∙ c.in-Key.is in
    c.put_number.ensures
    ∙ ap (λ (text : List ℕ). record { text = c.args.buf.now.text ++ text; room = c.args.buf.now.room }) (sym (text_is_key g at c.key.result held c.key.ensures.key c.key.type_inv))

pub returns-in-Key-clause-size : goal.returns-in-Key-clause-size
returns-in-Key-clause-size g c =
    let at = (goal.at.returns-in-Key-clause-size g c).After-index-columns-column in
    let held = ap (λ (column : ReadyColumn). column.kind) c.index-columns-column.is ∙ c.in-Key.is in
    omega (
      arith,
      length-decimal-le_20 c.key.result c.key.type_inv,
      size-key c.args.self.now c.args.column (is_key g at held),
      ap (λ (text : List ℕ). length text) (text_is_key g at c.key.result held c.key.ensures.key c.key.type_inv),
    )

pub returns-in-Key-clause-steps : goal.returns-in-Key-clause-steps
returns-in-Key-clause-steps g c =
    let at = (goal.at.returns-in-Key-clause-steps g c).After-index-columns-column in
    let held = ap (λ (column : ReadyColumn). column.kind) c.index-columns-column.is ∙ c.in-Key.is in
    omega (arith, c.key.ensures.steps, asked_by-key (is_some c.args.key) c.args.self.now c.args.column (column_here c.args.self.now _ _ (known g at) c.args.column key_kind c.requires.column (is_key g at held)))

-- the column is a reference
here : (g : _) (c : After-index-columns-column g) (reference : ReadyReference) → c.index-columns-column.result.kind ≡ Reference reference → IsReferenceOf c.args.self.now.plan c.args.self.now.table c.args.column reference
here g c reference held =
    let lines : LinesOf = c.args.self.now in
    let known = AreFieldsOf-view _ lines c.self.inside.columns.now c.self.inside.first c.self.view_is c.self.invariant in
    record {
      within = c.requires.column;
      is = ap (λ (ready : ReadyColumn). ready.kind) (ready_at lines _ known.columns_are c.args.column c.index-columns-column.result c.requires.column c.index-columns-column.is) ∙ held;
    }

-- whose text is what the row holds in it
text_is_held : (g : _) (c : After-index-columns-column g) (reference : ReadyReference) → c.index-columns-column.result.kind ≡ Reference reference →
    text_in_table c.args.self.now c.args.index c.args.values.now.changed c.args.column
    ≡ field_text (layout_of c.args.self.now.plan).delimiter (reference_value c.args.self.now c.args.index (reference_by c.args.column reference))
text_is_held g c reference held =
    let lines : LinesOf = c.args.self.now in
    let known = AreFieldsOf-view _ lines c.self.inside.columns.now c.self.inside.first c.self.view_is c.self.invariant in
    text-reference lines known.sound known.limits known.table known.born known.unit c.args.column c.args.index c.args.values.now.changed reference (here g c reference held) c.requires.row

pub put_reference-requires-clause-reference : goal.put_reference-requires-clause-reference
put_reference-requires-clause-reference g c =
    here g (goal.at.put_reference-requires-clause-reference g c).After-index-columns-column c.in-Reference.reference
    (ap (λ (column : ReadyColumn). column.kind) c.index-columns-column.is ∙ c.in-Reference.is)

pub put_reference-requires-clause-room : goal.put_reference-requires-clause-room
put_reference-requires-clause-room g c =
    let at = (goal.at.put_reference-requires-clause-room g c).After-index-columns-column in
    let held = ap (λ (column : ReadyColumn). column.kind) c.index-columns-column.is ∙ c.in-Reference.is in
    omega (arith, size-reference c.args.self.now c.args.column c.in-Reference.reference (here g at c.in-Reference.reference held), c.requires.room)

pub returns-in-Reference-clause-text : goal.returns-in-Reference-clause-text
returns-in-Reference-clause-text g c =
    let at = (goal.at.returns-in-Reference-clause-text g c).After-index-columns-column in
    let held = ap (λ (column : ReadyColumn). column.kind) c.index-columns-column.is ∙ c.in-Reference.is in
    c.put_reference.ensures.text
    ∙ ap (λ (text : List ℕ). record { text = c.args.buf.now.text ++ text; room = c.args.buf.now.room }) (sym (text_is_held g at c.in-Reference.reference held))

pub returns-in-Reference-clause-size : goal.returns-in-Reference-clause-size
returns-in-Reference-clause-size g c =
    let at = (goal.at.returns-in-Reference-clause-size g c).After-index-columns-column in
    let held = ap (λ (column : ReadyColumn). column.kind) c.index-columns-column.is ∙ c.in-Reference.is in
    omega (
      arith,
      c.put_reference.ensures.size,
      size-reference c.args.self.now c.args.column c.in-Reference.reference (here g at c.in-Reference.reference held),
      ap (λ (text : List ℕ). length text) (text_is_held g at c.in-Reference.reference held),
    )

pub returns-in-Reference-clause-steps : goal.returns-in-Reference-clause-steps
returns-in-Reference-clause-steps g c =
    let at = (goal.at.returns-in-Reference-clause-steps g c).After-index-columns-column in
    let held = ap (λ (column : ReadyColumn). column.kind) c.index-columns-column.is ∙ c.in-Reference.is in
    omega (arith, c.put_reference.ensures.steps, asked_by-reference (is_some c.args.key) c.args.self.now c.args.column c.in-Reference.reference (known g at).table (known g at).limits (here g at c.in-Reference.reference held))
