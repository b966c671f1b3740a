use Rattle.std.proofs.Common.{◌≡◌, ◌<◌, ◌^◌, ◌++◌, ℕ, List, false, true, ap, sym, ◌∙◌, arith, decimal, is_some, length}
use Rattle.schema_facts.specs.Layout.{column_at, key_kind, layout_of}
use Rattle.schema_plan.specs.declared.ready.ReadyAfter.{ReadyAfter}
use Rattle.schema_plan.specs.declared.ready.ReadyColumn.{ReadyColumn}
use Rattle.schema_plan.specs.declared.ready.ReadyKind.TheVariants.{After, Key, Product, Reference, Sum}
use Rattle.schema_plan.specs.declared.ready.ReadyReference.{ReadyReference}
use Rattle.schema_plan.specs.Ready.{ready_column}
use Rattle.life_intervals.specs.CohortParents.{IsReferenceOf, reference_by}
use Rattle.draw_values.specs.CohortValues.{ValuesOf, table_for as layout_of_values, value_size_for, value_for}
use Rattle.draw_values.specs.Values.{is_own, put_of, written}
use Rattle.row_lines.specs.CohortLines.{AreFieldsOf, LinesOf, key_for, layout_for, ordinal_of, reference_value}
use Rattle.row_lines.specs.Parts.{cited_for, cited_size, cited_text}
use Rattle.row_lines.proofs.CohortFieldLemmas.{AreFieldsOf-view, asked-key, column_here, derived_from_ready, held-key, is_derived, key_from_ready, key_never_null, ready_at}
use Rattle.row_lines.proofs.FieldLemmas.{length-decimal-le_20}
use Rattle.row_lines.proofs.ReferenceFieldLemmas.{asked-reference, held-reference, size-reference}
use Rattle.row_lines.proofs.PartLemmas.{cited_for-held, cited_for-own, cited_size-key, cited_text-number, length-written, own_from_cited, size_for-cited}
use Rattle.row_lines.proofs.cohort_fields.CohortFields.put_cited.Goals as goal
use Rattle.row_lines.proofs.cohort_fields.CohortFields.put_cited.Goals.{After-index-columns-column}

known : (g : _) (c : After-index-columns-column g) → AreFieldsOf c.args.self.now c.self.inside.columns.now c.self.inside.first
known g c = AreFieldsOf-view _ c.args.self.now c.self.inside.columns.now c.self.inside.first c.self.view_is c.self.invariant

ready : (g : _) (c : After-index-columns-column g) → ready_column (layout_of c.args.self.now.plan).delimiter (column_at (layout_for c.args.self.now).columns c.args.column) ≡ c.index-columns-column.result
ready g c = ready_at c.args.self.now _ (known g c).columns_are c.args.column c.index-columns-column.result c.requires.column.within c.index-columns-column.is

-- the column is the key
is_key : (g : _) (c : After-index-columns-column g) → c.index-columns-column.result.kind ≡ Key → (column_at (layout_for c.args.self.now).columns c.args.column).kind ≡ key_kind
is_key g c key =
    key_from_ready (layout_of c.args.self.now.plan).delimiter _ (ap (λ (column : ReadyColumn). column.kind) (ready g c) ∙ key)

-- or not made of other columns
underived : (g : _) (c : After-index-columns-column g) → ((after : ReadyAfter) → c.index-columns-column.result.kind ≡ After after → ⊥) → ((of : List ℕ) → c.index-columns-column.result.kind ≡ Sum of → ⊥) →
    ((of : List ℕ) → c.index-columns-column.result.kind ≡ Product of → ⊥) → is_derived (column_at (layout_for c.args.self.now).columns c.args.column).kind ≡ false
underived g c no_after no_sum no_product =
    derived_from_ready (layout_of c.args.self.now.plan).delimiter _ (λ after held. no_after after (ap (λ (column : ReadyColumn). column.kind) (sym (ready g c)) ∙ held))
    (λ of held. no_sum of (ap (λ (column : ReadyColumn). column.kind) (sym (ready g c)) ∙ held)) (λ of held. no_product of (ap (λ (column : ReadyColumn). column.kind) (sym (ready g c)) ∙ held))

-- or made of units and of draws
is_own_column : (g : _) (c : After-index-columns-column g) → is_derived (column_at (layout_for c.args.self.now).columns c.args.column).kind ≡ false → (c.index-columns-column.result.kind ≡ Key → ⊥) → ((reference : ReadyReference) → c.index-columns-column.result.kind ≡ Reference reference → ⊥) →
    is_own (column_at (layout_for c.args.self.now).columns c.args.column).kind ≡ true
is_own_column g c no_derived no_key no_reference =
    own_from_cited (layout_of c.args.self.now.plan).delimiter _ c.requires.column.cited no_derived
    (λ key. no_key (ap (λ (column : ReadyColumn). column.kind) (sym (ready g c)) ∙ key))
    (λ reference held. no_reference reference (ap (λ (column : ReadyColumn). column.kind) (sym (ready g c)) ∙ held))

pub put_number-requires : goal.put_number-requires
put_number-requires g c =
    let here = (goal.at.put_number-requires g c).After-index-columns-column in
    omega (
      arith,
      length-decimal-le_20 c.key.result c.key.type_inv,
      cited_size-key c.args.self.now c.args.column (is_key g here (ap (λ (column : ReadyColumn). column.kind) c.index-columns-column.is ∙ c.in-Key.is)),
      c.requires.room,
    )

-- what is put is the key
text_is_key : (g : _) (c : After-index-columns-column g) (key : ℕ) → c.index-columns-column.result.kind ≡ Key → key ≡ key_for c.args.self.now c.args.index → key < 2 ^ 64 →
    cited_text c.args.self.now c.args.index c.args.values.now.changed c.args.column ≡ decimal key
text_is_key g c key is key_is small =
    let lines : LinesOf = c.args.self.now in
    let never = key_never_null (layout_for lines).columns c.args.column (known g c).limits.key_never_null (known g c).limits.no_other_key c.requires.column.within (is_key g c is) in
    cited_text-number lines c.args.index c.args.values.now.changed c.args.column key c.requires.column
    (held-key lines c.args.column c.args.index c.args.values.now.changed key (is_key g c is) never (known g c).born c.requires.row key_is) small

pub returns-in-Key-clause-text : goal.returns-in-Key-clause-text
returns-in-Key-clause-text g c =
    let here = (goal.at.returns-in-Key-clause-text g c).After-index-columns-column in
    c.put_number.ensures
    ∙ ap (λ (text : List ℕ). record { text = c.args.buf.now.text ++ text; room = c.args.buf.now.room })
    (sym (text_is_key g here c.key.result (ap (λ (column : ReadyColumn). column.kind) c.index-columns-column.is ∙ c.in-Key.is) c.key.ensures.key c.key.type_inv))

pub returns-in-Key-clause-size : goal.returns-in-Key-clause-size
returns-in-Key-clause-size g c =
    let here = (goal.at.returns-in-Key-clause-size g c).After-index-columns-column in
    let key = ap (λ (column : ReadyColumn). column.kind) c.index-columns-column.is ∙ c.in-Key.is in
    omega (
      arith,
      length-decimal-le_20 c.key.result c.key.type_inv,
      cited_size-key c.args.self.now c.args.column (is_key g here key),
      ap (λ (text : List ℕ). length text) (text_is_key g here c.key.result key c.key.ensures.key c.key.type_inv),
    )

pub put-requires-clause-own : goal.put-requires-clause-own
put-requires-clause-own g c =
    let here = (goal.at.put-requires-clause-own g c).After-index-columns-column in
    ap (λ (of : ValuesOf). is_own (column_at (layout_of_values of).columns c.args.column).kind) c.requires.values
    ∙ is_own_column g here
    (underived g here (λ after held. c.in_default.not-After after (ap (λ (column : ReadyColumn). column.kind) (sym c.index-columns-column.is) ∙ held)) (λ of held. c.in_default.not-Sum of (ap (λ (column : ReadyColumn). column.kind) (sym c.index-columns-column.is) ∙ held)) (λ of held. c.in_default.not-Product of (ap (λ (column : ReadyColumn). column.kind) (sym c.index-columns-column.is) ∙ held)))
    (λ key. c.in_default.not-Key (ap (λ (column : ReadyColumn). column.kind) (sym c.index-columns-column.is) ∙ key)) (λ reference held. c.in_default.not-Reference reference (ap (λ (column : ReadyColumn). column.kind) (sym c.index-columns-column.is) ∙ held))

pub put-requires-clause-room : goal.put-requires-clause-room
put-requires-clause-room g c =
    let here = known g (goal.at.put-requires-clause-room g c).After-index-columns-column in
    let taken : value_size_for c.args.values.now c.args.column ≡ cited_size c.args.self.now c.args.column =
    ap (λ (of : ValuesOf). value_size_for of c.args.column) c.requires.values ∙ size_for-cited c.args.self.now c.args.column c.requires.column in
    omega (arith, taken, c.requires.room)

-- what is put is what the column holds
held_is : (g : _) (c : After-index-columns-column g) (ordinal : ℕ) → ordinal ≡ ordinal_of c.args.self.now c.args.index → is_derived (column_at (layout_for c.args.self.now).columns c.args.column).kind ≡ false → (c.index-columns-column.result.kind ≡ Key → ⊥) → ((reference : ReadyReference) → c.index-columns-column.result.kind ≡ Reference reference → ⊥) →
    cited_for c.args.self.now c.args.index c.args.values.now.changed c.args.column ≡ value_for c.args.values.now c.args.column ordinal
held_is g c ordinal ordinal_is no_derived no_key no_reference =
    cited_for-own c.args.self.now c.args.values.now c.args.column c.args.index c.args.values.now.changed ordinal c.requires.column c.requires.values
    ordinal_is (is_own_column g c no_derived no_key no_reference) (known g c).born c.requires.row

text_is_own : (g : _) (c : After-index-columns-column g) (ordinal : ℕ) → ordinal ≡ ordinal_of c.args.self.now c.args.index → is_derived (column_at (layout_for c.args.self.now).columns c.args.column).kind ≡ false → (c.index-columns-column.result.kind ≡ Key → ⊥) → ((reference : ReadyReference) → c.index-columns-column.result.kind ≡ Reference reference → ⊥) →
    cited_text c.args.self.now c.args.index c.args.values.now.changed c.args.column
    ≡ written (layout_of c.args.values.now.plan).delimiter (value_for c.args.values.now c.args.column ordinal)
text_is_own g c ordinal ordinal_is no_derived no_key no_reference =
    let value = value_for c.args.values.now c.args.column ordinal in
    ap (written (layout_of c.args.self.now.plan).delimiter) (held_is g c ordinal ordinal_is no_derived no_key no_reference)
    ∙ sym (ap (λ (of : ValuesOf). written (layout_of of.plan).delimiter value) c.requires.values)

pub returns-in_default-clause-text : goal.returns-in_default-clause-text
returns-in_default-clause-text g c =
    c.put.ensures.text
    ∙ ap (λ (text : List ℕ). record { text = c.args.buf.now.text ++ text; room = c.args.buf.now.room })
    (sym (text_is_own g (goal.at.returns-in_default-clause-text g c).After-index-columns-column c.ordinal.result c.ordinal.ensures.ordinal
    (underived g (goal.at.returns-in_default-clause-text g c).After-index-columns-column (λ after held. c.in_default.not-After after (ap (λ (column : ReadyColumn). column.kind) (sym c.index-columns-column.is) ∙ held)) (λ of held. c.in_default.not-Sum of (ap (λ (column : ReadyColumn). column.kind) (sym c.index-columns-column.is) ∙ held)) (λ of held. c.in_default.not-Product of (ap (λ (column : ReadyColumn). column.kind) (sym c.index-columns-column.is) ∙ held)))
    (λ key. c.in_default.not-Key (ap (λ (column : ReadyColumn). column.kind) (sym c.index-columns-column.is) ∙ key)) (λ reference held. c.in_default.not-Reference reference (ap (λ (column : ReadyColumn). column.kind) (sym c.index-columns-column.is) ∙ held))))

pub returns-in_default-clause-size : goal.returns-in_default-clause-size
returns-in_default-clause-size g c =
    let here = (goal.at.returns-in_default-clause-size g c).After-index-columns-column in
    let value = value_for c.args.values.now c.args.column c.ordinal.result in
    let taken : value_size_for c.args.values.now c.args.column ≡ cited_size c.args.self.now c.args.column =
    ap (λ (of : ValuesOf). value_size_for of c.args.column) c.requires.values ∙ size_for-cited c.args.self.now c.args.column c.requires.column in
    let is = text_is_own g here c.ordinal.result c.ordinal.ensures.ordinal (underived g here (λ after held. c.in_default.not-After after (ap (λ (column : ReadyColumn). column.kind) (sym c.index-columns-column.is) ∙ held)) (λ of held. c.in_default.not-Sum of (ap (λ (column : ReadyColumn). column.kind) (sym c.index-columns-column.is) ∙ held)) (λ of held. c.in_default.not-Product of (ap (λ (column : ReadyColumn). column.kind) (sym c.index-columns-column.is) ∙ held))) (λ key. c.in_default.not-Key (ap (λ (column : ReadyColumn). column.kind) (sym c.index-columns-column.is) ∙ key)) (λ reference held. c.in_default.not-Reference reference (ap (λ (column : ReadyColumn). column.kind) (sym c.index-columns-column.is) ∙ held)) in
    omega (
      arith,
      ap (λ (text : List ℕ). length text) is,
      length-written (layout_of c.args.values.now.plan).delimiter value,
      c.put.ensures.size,
      taken,
    )

-- the column is a reference
here : (g : _) (c : After-index-columns-column g) (reference : ReadyReference) → c.index-columns-column.result.kind ≡ Reference reference → IsReferenceOf c.args.self.now.plan c.args.self.now.table c.args.column reference
here g c reference held = record {
  within = c.requires.column.within;
  is = ap (λ (column : ReadyColumn). column.kind) (ready g c) ∙ held;
}

-- what it holds
held_parent_is : (g : _) (c : After-index-columns-column g) (reference : ReadyReference) → c.index-columns-column.result.kind ≡ Reference reference →
    cited_text c.args.self.now c.args.index c.args.values.now.changed c.args.column
    ≡ written (layout_of c.args.self.now.plan).delimiter (reference_value c.args.self.now c.args.index (reference_by c.args.column reference))
held_parent_is g c reference held =
    let lines : LinesOf = c.args.self.now in
    let is_known = known g c in
    ap (written (layout_of lines.plan).delimiter)
    (cited_for-held lines c.args.index c.args.values.now.changed c.args.column c.requires.column
    ∙ held-reference lines is_known.sound is_known.limits is_known.table is_known.born is_known.unit c.args.column c.args.index c.args.values.now.changed reference (here g c reference held) c.requires.row)

pub put_parent-requires-clause-reference : goal.put_parent-requires-clause-reference
put_parent-requires-clause-reference g c =
    here g (goal.at.put_parent-requires-clause-reference g c).After-index-columns-column c.in-Reference.reference
    (ap (λ (column : ReadyColumn). column.kind) c.index-columns-column.is ∙ c.in-Reference.is)

pub put_parent-requires-clause-room : goal.put_parent-requires-clause-room
put_parent-requires-clause-room g c =
    let at = (goal.at.put_parent-requires-clause-room g c).After-index-columns-column in
    let held = ap (λ (column : ReadyColumn). column.kind) c.index-columns-column.is ∙ c.in-Reference.is in
    let lines : LinesOf = c.args.self.now in
    omega (
      arith,
      size-reference lines c.args.column c.in-Reference.reference (here g at c.in-Reference.reference held),
      size_for-cited lines c.args.column c.requires.column,
      c.requires.room,
    )

pub returns-in-Reference-clause-text : goal.returns-in-Reference-clause-text
returns-in-Reference-clause-text g c =
    let at = (goal.at.returns-in-Reference-clause-text g c).After-index-columns-column in
    let held = ap (λ (column : ReadyColumn). column.kind) c.index-columns-column.is ∙ c.in-Reference.is in
    c.put_parent.ensures.text
    ∙ ap (λ (text : List ℕ). record { text = c.args.buf.now.text ++ text; room = c.args.buf.now.room }) (sym (held_parent_is g at c.in-Reference.reference held))

pub returns-in-Reference-clause-size : goal.returns-in-Reference-clause-size
returns-in-Reference-clause-size g c =
    let at = (goal.at.returns-in-Reference-clause-size g c).After-index-columns-column in
    let held = ap (λ (column : ReadyColumn). column.kind) c.index-columns-column.is ∙ c.in-Reference.is in
    let lines : LinesOf = c.args.self.now in
    omega (
      arith,
      c.put_parent.ensures.size,
      length-written (layout_of lines.plan).delimiter (reference_value lines c.args.index (reference_by c.args.column c.in-Reference.reference)),
      size-reference lines c.args.column c.in-Reference.reference (here g at c.in-Reference.reference held),
      size_for-cited lines c.args.column c.requires.column,
      ap (λ (text : List ℕ). length text) (held_parent_is g at c.in-Reference.reference held),
    )

pub returns-in-Reference-clause-steps : goal.returns-in-Reference-clause-steps
returns-in-Reference-clause-steps g c =
    let at = (goal.at.returns-in-Reference-clause-steps g c).After-index-columns-column in
    let held = ap (λ (column : ReadyColumn). column.kind) c.index-columns-column.is ∙ c.in-Reference.is in
    omega (arith, c.put_parent.ensures.steps, asked-reference (is_some c.args.key) c.args.self.now c.args.column c.in-Reference.reference (known g at).table (known g at).limits (here g at c.in-Reference.reference held))

pub returns-in-Key-clause-steps : goal.returns-in-Key-clause-steps
returns-in-Key-clause-steps g c =
    let at = (goal.at.returns-in-Key-clause-steps g c).After-index-columns-column in
    let held = ap (λ (column : ReadyColumn). column.kind) c.index-columns-column.is ∙ c.in-Key.is in
    omega (arith, c.key.ensures.steps, asked-key (is_some c.args.key) c.args.self.now c.args.column (column_here c.args.self.now _ _ (known g at) c.args.column key_kind c.requires.column.within (is_key g at held)))

-- whether it is null
pub returns-in-Key-clause-put : goal.returns-in-Key-clause-put
returns-in-Key-clause-put g c =
    let here = (goal.at.returns-in-Key-clause-put g c).After-index-columns-column in
    let lines : LinesOf = c.args.self.now in
    let is = is_key g here (ap (λ (column : ReadyColumn). column.kind) c.index-columns-column.is ∙ c.in-Key.is) in
    let never = key_never_null (layout_for lines).columns c.args.column (known g here).limits.key_never_null (known g here).limits.no_other_key c.requires.column.within is in
    sym (ap put_of (cited_for-held lines c.args.index c.args.values.now.changed c.args.column c.requires.column
    ∙ held-key lines c.args.column c.args.index c.args.values.now.changed c.key.result is never (known g here).born c.requires.row c.key.ensures.key))

pub returns-in-Reference-clause-put : goal.returns-in-Reference-clause-put
returns-in-Reference-clause-put g c =
    let at = (goal.at.returns-in-Reference-clause-put g c).After-index-columns-column in
    let lines : LinesOf = c.args.self.now in
    let is_known = known g at in
    let is = here g at c.in-Reference.reference (ap (λ (column : ReadyColumn). column.kind) c.index-columns-column.is ∙ c.in-Reference.is) in
    c.put_parent.ensures.put
    ∙ sym (ap put_of (cited_for-held lines c.args.index c.args.values.now.changed c.args.column c.requires.column
    ∙ held-reference lines is_known.sound is_known.limits is_known.table is_known.born is_known.unit c.args.column c.args.index c.args.values.now.changed c.in-Reference.reference is c.requires.row))

pub returns-in_default-clause-put : goal.returns-in_default-clause-put
returns-in_default-clause-put g c =
    c.put.ensures.put
    ∙ sym (ap put_of (held_is g (goal.at.returns-in_default-clause-put g c).After-index-columns-column c.ordinal.result c.ordinal.ensures.ordinal
    (underived g (goal.at.returns-in_default-clause-put g c).After-index-columns-column (λ after held. c.in_default.not-After after (ap (λ (column : ReadyColumn). column.kind) (sym c.index-columns-column.is) ∙ held)) (λ of held. c.in_default.not-Sum of (ap (λ (column : ReadyColumn). column.kind) (sym c.index-columns-column.is) ∙ held)) (λ of held. c.in_default.not-Product of (ap (λ (column : ReadyColumn). column.kind) (sym c.index-columns-column.is) ∙ held)))
    (λ key. c.in_default.not-Key (ap (λ (column : ReadyColumn). column.kind) (sym c.index-columns-column.is) ∙ key)) (λ reference held. c.in_default.not-Reference reference (ap (λ (column : ReadyColumn). column.kind) (sym c.index-columns-column.is) ∙ held))))
