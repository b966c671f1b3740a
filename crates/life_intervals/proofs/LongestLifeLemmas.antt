-- Longest lives: no row lives longer than its table's longest life.
use Rattle.std.proofs.Common.{◌≡◌, ℕ, zero, suc, ◌+◌, ◌-◌, ◌%◌, ◌<◌, ◌≤◌, true, false, Bool, ◌&&◌, List, [], ◌∷◌, filter, length, map, take, Option, Some, None, option_map, inl, inr, refl, ap, arith, sym, subst, le-ltb, ltb-false, ◌∙◌}
use Rattle.std.specs.Prelude.{IfSome}
use Rattle.std.specs.List.{AllByRecursion, fold}
use Rattle.std.proofs.lemmas.Bool.{cases_Bool, false≢true}
use Rattle.std.proofs.lemmas.List.{get_or-take}
use Rattle.std.proofs.lemmas.Nat.{mod_below}
use Rattle.philox_seeds.specs.SeedTree.{life_column}
use Rattle.cohort_sizes.specs.Births.{Births, birth, cohort_size, index_at}
use Rattle.schema_facts.specs.declared.layout.Span.{Span}
use Rattle.schema_facts.specs.declared.lineage.Lineage.{Lineage}
use Rattle.schema_facts.specs.Layout.{KindLayout, reference_kind, ColumnLayout, TableLayout, table_at}
use Rattle.schema_plan.specs.Limits.{IsSpan}
use Rattle.schema_facts.specs.Lineage.{endless, lineage_at, lineages, longest_life, own_lineage, sure_life, with_kind}
use Rattle.schema_facts.specs.References.{Reference, cascades_of, references_of}
use Rattle.schema_facts.proofs.LineageLemmas.{lineage_at-lineages}
use Rattle.life_intervals.specs.Generator.{Generator}
use Rattle.life_intervals.specs.Intervals.{Known, death_by, first_death, is_after, known_at, known_of, known_tables, own_death_by, parent_by, parent_death_by}
use Rattle.life_intervals.specs.Rows.{life_by}
use Rattle.life_intervals.specs.Sound.{AreSound}
use Rattle.life_intervals.proofs.CascadeLemmas.{is_cascading}
use Rattle.cohort_sizes.proofs.CohortLemmas.{LiesIn-birth}
use Rattle.life_intervals.proofs.DeathLemmas.{is_after-before, is_after-lesser_life}
use Rattle.life_intervals.proofs.KnownLemmas.{known_at-before, length-known_before, refers-of}
use Rattle.life_intervals.proofs.ParentLemmas.{Refers, parent_by-lies}
use Rattle.life_intervals.proofs.ReferenceLemmas.{references_in}

-- up to a last unit, no row of a known table lives longer than a longest life
abbrev pub EndsBy : ℕ → Known → Option ℕ → Type 0
EndsBy units known longest =
    (unit index age : ℕ) → unit ≤ units → index < cohort_size known.table.births unit → is_after longest age ≡ false →
    is_after (known.death unit index) (unit + age) ≡ false

-- a conjunction fails where a part does
and-false_left : (x y : Bool) → x ≡ false → (x && y) ≡ false
and-false_left x y is = ap (λ (b : Bool). b && y) is

and-false_right : (x y : Bool) → y ≡ false → (x && y) ≡ false
and-false_right true y is = is
and-false_right false y is = refl

and-assoc : (x y z : Bool) → (x && (y && z)) ≡ ((x && y) && z)
and-assoc true y z = refl
and-assoc false y z = refl

-- the lesser of two lives is over where one of them is
over-lesser : (a b : Option ℕ) (age : ℕ) (x y : Bool) → (is_after a age ≡ false → x ≡ false) → (is_after b age ≡ false → y ≡ false) →
    (is_after a age && is_after b age) ≡ false → (x && y) ≡ false
over-lesser a b age x y from_a from_b over = elim (cases_Bool (is_after a age)) [
  | inl lasts ↦ and-false_right x y (from_b (sym (ap (λ (t : Bool). t && is_after b age) lasts) ∙ over))
  | inr ends ↦ and-false_left x y (from_a ends)
]

-- what each reference of a list makes of an age that is past its parent's longest life
abbrev EndsWith : List Lineage → ℕ → (Reference → Option ℕ) → ℕ → Reference → Type 0
EndsWith earlier age d unit reference =
    is_after (lineage_at earlier reference.parent).longest_life age ≡ false → is_after (d reference) unit ≡ false

-- where a life ends that some columns leave, and so does what else there is, a row that ends with each of these has ended
abbrev Ends : List Lineage → ℕ → ℕ → (Reference → Option ℕ) → List ColumnLayout → ℕ → Lineage → Bool → Type 0
Ends earlier age unit d columns place own x =
    is_after (fold (λ own (column : ColumnLayout). with_kind earlier own column.kind) own columns).longest_life age ≡ false →
    (is_after own.longest_life age ≡ false → x ≡ false) → AllByRecursion (EndsWith earlier age d unit) (references_in place columns) →
    (x && is_after (first_death (map d (filter is_cascading (references_in place columns)))) unit) ≡ false

ends-kind : (earlier : List Lineage) (age unit : ℕ) (d : Reference → Option ℕ) (held : KindLayout) (changes : Bool) (null : ℕ) (others : List ColumnLayout) (place : ℕ) (own : Lineage) (x : Bool) →
    ((after : Lineage) (y : Bool) → Ends earlier age unit d others (place + 1) after y) →
    Ends earlier age unit d (record { kind = held; changes = changes; null = null } ∷ others) place own x
ends-kind earlier age unit d (reference_kind parent window spread true drawn) changes null others place own x next over from_own each =
    next (with_kind earlier own (reference_kind parent window spread true drawn)) x over from_own each.1
ends-kind earlier age unit d (reference_kind parent window spread false drawn) changes null others place own x next over from_own each =
    let reference : Reference = record { column = place; parent = parent; window = window; spread = spread; nulls = false; drawn = drawn } in
    let rest : Option ℕ = first_death (map d (filter is_cascading (references_in (place + 1) others))) in
    ap (λ (t : Bool). x && t) (is_after-lesser_life (d reference) rest unit)
    ∙ and-assoc x (is_after (d reference) unit) (is_after rest unit)
    ∙ next (with_kind earlier own (reference_kind parent window spread false drawn)) (x && is_after (d reference) unit) over
    (λ ended. over-lesser own.longest_life (lineage_at earlier parent).longest_life age x (is_after (d reference) unit) from_own each.0
    (sym (is_after-lesser_life own.longest_life (lineage_at earlier parent).longest_life age) ∙ ended))
    each.1
ends-kind earlier age unit d _ changes null others place own x next over from_own each = next own x over from_own each

ends-columns : (earlier : List Lineage) (age unit : ℕ) (d : Reference → Option ℕ) (columns : List ColumnLayout) (place : ℕ) (own : Lineage) (x : Bool) → Ends earlier age unit d columns place own x
ends-columns earlier age unit d [] place own x over from_own each = and-false_left x true (from_own over)
ends-columns earlier age unit d (column ∷ others) place own x over from_own each =
    ends-kind earlier age unit d column.kind column.changes column.null others place own x (λ after y. ends-columns earlier age unit d others (place + 1) after y) over from_own each

-- a row's own life ends by then
own_death-over : (unit place age : ℕ) (life : Option Span) → IfSome life IsSpan → is_after (own_lineage life).longest_life age ≡ false → is_after (option_map (λ l. unit + l) (life_by life place)) (unit + age) ≡ false
own_death-over unit place age None is over = absurd (false≢true (sym over))
own_death-over unit place age (Some life) is over =
    let below : place % (life.most - life.least + 1) < life.most - life.least + 1 = mod_below place (life.most - life.least + 1) (omega arith) in
    le-ltb (unit + age) _ (omega (arith, below, is.ordered, ltb-false age life.most over))

-- what an age has passed, each later one has
over-later : (life : Option ℕ) (age later : ℕ) → age ≤ later → is_after life age ≡ false → is_after life later ≡ false
over-later life age later within over = elim (cases_Bool (is_after life later)) [
  | inl lasts ↦ absurd (false≢true (sym over ∙ is_after-before life age later within lasts))
  | inr ends ↦ ends
]

module _ (units : ℕ) (generator : Generator) (sound : AreSound units generator.tables) where
  -- what its references make of it
  each-ends : (place : ℕ) → place < length generator.tables → ((parent : ℕ) → parent < place → EndsBy units (known_of generator parent) (longest_life generator.tables parent)) →
      (unit index age : ℕ) → unit ≤ units → index < cohort_size (table_at generator.tables place).births unit → (references : List Reference) →
      AllByRecursion (Refers units (take place (known_tables generator)) (sure_life generator.tables) (table_at generator.tables place).births) references →
      AllByRecursion (EndsWith (take place (lineages generator.tables)) age (parent_death_by generator.order (take place (known_tables generator)) unit index) (unit + age)) references
  each-ends place below ends unit index age within inside [] refers = tt
  each-ends place below ends unit index age within inside (reference ∷ others) refers = (
    λ over.
        let earlier : List Known = take place (known_tables generator) in
        let births : Births = (table_at generator.tables place).births in
        let is_earlier : reference.parent < place = omega (arith, refers.0.is_earlier, length-known_before generator place below) in
        let same : known_at earlier reference.parent ≡ known_of generator reference.parent = known_at-before generator place reference.parent below is_earlier in
        let parent : Known = known_at earlier reference.parent in
        let ordinal : ℕ = parent_by generator.order earlier unit index reference in
        let lies = parent_by-lies units generator.order earlier (sure_life generator.tables) births unit index within inside reference refers.0 in
        let found = LiesIn-birth parent.table.births unit ordinal lies.1 in
        let at : ℕ = birth parent.table.births unit ordinal in
        let past : is_after (longest_life generator.tables reference.parent) (unit - at + age) ≡ false =
        over-later (longest_life generator.tables reference.parent) age (unit - at + age) (omega arith)
        (ap (λ (lineage : Lineage). is_after lineage.longest_life age) (sym (get_or-take place (lineages generator.tables) reference.parent endless is_earlier)) ∙ over) in
        let dead : is_after (parent.death at (index_at parent.table.births unit ordinal)) (at + (unit - at + age)) ≡ false =
        subst (λ (known : Known). EndsBy units known (longest_life generator.tables reference.parent)) (sym same) (ends reference.parent is_earlier)
        at (index_at parent.table.births unit ordinal) (unit - at + age) (omega (arith, found.0, within)) (omega (arith, found.1.begun, found.1.not_ended)) past in
        let when : at + (unit - at + age) ≡ unit + age = omega (arith, found.0) in
        subst (λ (u : ℕ). is_after (death_by parent unit ordinal) u ≡ false) when dead,
    each-ends place below ends unit index age within inside others refers.1,
  )

  EndsBy-by : (place : ℕ) → place < length generator.tables → ((parent : ℕ) → parent < place → EndsBy units (known_of generator parent) (longest_life generator.tables parent)) →
      EndsBy units (known_of generator place) (longest_life generator.tables place)
  EndsBy-by place below ends unit index age within inside over =
      let table : TableLayout = table_at generator.tables place in
      let earlier : List Known = take place (known_tables generator) in
      let own : Option ℕ = own_death_by generator.order (length earlier) table unit index in
      let parents : Reference → Option ℕ = parent_death_by generator.order earlier unit index in
      is_after-lesser_life own (first_death (map parents (cascades_of table))) (unit + age)
      ∙ ends-columns (take place (lineages generator.tables)) age (unit + age) parents table.columns 0 (own_lineage table.life) (is_after own (unit + age))
      (subst (λ (lineage : Lineage). is_after lineage.longest_life age ≡ false) (lineage_at-lineages generator.tables place below) over)
      (own_death-over unit (generator.order.place (length earlier) life_column unit index) age table.life (sound place below).life)
      (each-ends place below ends unit index age within inside (references_of table) (refers-of units generator sound place below))

  EndsBy-below : (bound place : ℕ) → place < bound → place < length generator.tables → EndsBy units (known_of generator place) (longest_life generator.tables place)
  EndsBy-below zero place before below = absurd (omega (arith, before))
  EndsBy-below (suc bound) place before below =
      EndsBy-by place below (λ parent earlier. EndsBy-below bound parent (omega (arith, before, earlier)) (omega (arith, below, earlier)))

  -- no row of the table at a place lives longer than the longest life says
  pub EndsBy-known_of : (place : ℕ) → place < length generator.tables → EndsBy units (known_of generator place) (longest_life generator.tables place)
  EndsBy-known_of place below = EndsBy-below (suc place) place (omega arith) below
