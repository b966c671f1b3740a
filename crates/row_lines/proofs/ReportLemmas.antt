-- The report on a row: when the row is gone, whether its table holds it at a unit, and what the report's lines take.
use Rattle.std.proofs.Common.{◌≡◌, ℕ, ◌+◌, ◌-◌, ◌<◌, ◌≤◌, ◌==◌, true, false, Bool, ◌&&◌, if◌then◌else◌, List, ◌++◌, length, take, codes, decimal, Option, Some, None, option_map, is_none, is_some, inl, inr, refl, ap, arith, sym, ◌∙◌, lt-ltb, le-ltb, ltb-true, ne_eqb, eq-eqb, append_assoc, length-append}
use Rattle.std.specs.Prelude.{IfSome, nat_le}
use Rattle.std.proofs.lemmas.Bool.{and_parts, cases_lt, le-leb, leb-true, lt-leb}
use Rattle.std.proofs.lemmas.Option.{same_Some}
use Rattle.line_pages.specs.Pages.{Page}
use Rattle.philox_seeds.specs.SeedTree.{life_column}
use Rattle.cohort_sizes.specs.Births.{Births, born_count, index_at}
use Rattle.schema_facts.specs.declared.layout.Span.{Span}
use Rattle.schema_facts.specs.Dictionaries.{Project}
use Rattle.schema_facts.specs.Layout.{table_at}
use Rattle.schema_plan.specs.Limits.{IsInLimits, IsSpan}
use Rattle.schema_facts.specs.Lineage.{sure_life}
use Rattle.schema_facts.specs.References.{cascades_of}
use Rattle.life_intervals.specs.Generator.{Generator, generator_of, last_unit, rows_in_all}
use Rattle.life_intervals.specs.Intervals.{Known, change_unit, death, is_after, is_live, known_tables, row_at}
use Rattle.life_intervals.specs.Keys.{key_of}
use Rattle.life_intervals.specs.Rows.{Row, life_by}
use Rattle.life_intervals.specs.Sound.{AreSound}
use Rattle.life_intervals.proofs.AcceptedLemmas.{AreSound-accepted, place-below, row_at-changed}
use Rattle.cohort_sizes.proofs.CohortLemmas.{LiesIn-birth, birth-le, cohort-within, index_at-below}
use Rattle.life_intervals.proofs.DeathLemmas.{is_after-lesser_from}
use Rattle.life_intervals.proofs.KnownLemmas.{cascades-of}
use Rattle.life_intervals.proofs.LifeLemmas.{death-later}
use Rattle.life_intervals.proofs.ParentLemmas.{parents-alive_now}
use Rattle.row_lines.specs.Lines.{held_row, line_of}
use Rattle.row_lines.specs.Reports.{birth_at, gone_at, gone_text, held_text, row_report, row_with_key, state_text}
use Rattle.row_lines.proofs.HeldRowLemmas.{held_row-live, held_row-none, held_row-unborn}
use Rattle.row_lines.proofs.LineLemmas.{birth-within}
use Rattle.row_lines.proofs.ListLemmas.{find-range_first, find-range_none}

-- a row's own life ends past its birth
own_death-past_birth : (unit place : ℕ) (life : Option Span) → IfSome life IsSpan → is_after (option_map (λ l. unit + l) (life_by life place)) unit ≡ true
own_death-past_birth unit place None is = refl
own_death-past_birth unit place (Some life) is = lt-ltb unit _ (omega (arith, is.some_unit))

-- a death, where it comes by a last unit
abbrev pub by_last : ℕ → Option ℕ → Option ℕ
by_last last None = None
by_last last (Some unit) = if nat_le unit last then Some unit else None

pub by_last-early : (last unit : ℕ) → unit ≤ last → by_last last (Some unit) ≡ Some unit
by_last-early last unit early = rw (le-leb unit last early) refl

pub by_last-late : (last unit : ℕ) → last < unit → by_last last (Some unit) ≡ None
by_last-late last unit late = rw (lt-leb unit last late) refl

-- up to the last unit it is past the same units
by_last-after : (last unit : ℕ) (death : Option ℕ) → unit ≤ last → is_after (by_last last death) unit ≡ is_after death unit
by_last-after last unit None within = refl
by_last-after last unit (Some end) within = elim (cases_lt last end) [
  | inl late ↦ rw (lt-leb end last late) (sym (lt-ltb unit end (omega arith)))
  | inr early ↦ rw (le-leb end last early) refl
]

module _ (plan : Project) (limits : IsInLimits plan) (place : ℕ) (below : place < length plan.schema.tables) (ordinal : ℕ) (born : ordinal < rows_in_all plan place) where
  abbrev generator : Generator
  generator = generator_of plan

  abbrev last : ℕ
  last = last_unit plan

  sound : AreSound last generator.tables
  sound = AreSound-accepted plan limits

  within_tables : place < length generator.tables
  within_tables = place-below plan place below

  abbrev births : Births
  births = (table_at generator.tables place).births

  abbrev birth_unit : ℕ
  birth_unit = birth_at generator last place ordinal

  abbrev death_unit : Option ℕ
  death_unit = death generator place last ordinal

  -- a row is alive at its birth
  alive-birth : is_after death_unit birth_unit ≡ true
  alive-birth =
      let earlier : List Known = take place (known_tables generator) in
      let index : ℕ = index_at births last ordinal in
      is_after-lesser_from _ _ birth_unit
      (own_death-past_birth birth_unit (generator.order.place (length earlier) life_column birth_unit index) (table_at generator.tables place).life (sound place within_tables).life)
      (parents-alive_now last generator.order earlier (sure_life generator.tables) births birth_unit index (birth-le births last ordinal born) (index_at-below births last ordinal born)
      (cascades_of (table_at generator.tables place)) (cascades-of last generator sound place within_tables))

  -- it is born by each unit from its birth on
  born-from : (unit : ℕ) → birth_unit ≤ unit → ordinal < born_count births unit
  born-from unit from =
      let lies = LiesIn-birth births last ordinal born in
      omega (arith, lies.1.not_ended, cohort-within births birth_unit unit from)

  -- its table holds it from then on up to its death
  held-before : (unit : ℕ) → birth_unit ≤ unit → unit ≤ last → is_after death_unit unit ≡ true → held_row generator place unit ordinal ≡ Some (row_at generator place unit ordinal)
  held-before unit from within past =
      held_row-live last generator place unit ordinal sound within (born-from unit from)
      (ap (λ (d : Option ℕ). is_after d unit) (sym (death-later generator place unit last ordinal (born-from unit from) within)) ∙ past)

  held-after : (unit : ℕ) → birth_unit ≤ unit → unit ≤ last → is_after death_unit unit ≡ false → held_row generator place unit ordinal ≡ None
  held-after unit from within passed =
      held_row-none last generator place unit ordinal sound within
      (ap (λ (d : Option ℕ). is_after d unit) (sym (death-later generator place unit last ordinal (born-from unit from) within)) ∙ passed)

  -- it is gone at its death, where that comes by the last unit
  gone-by : (d : Option ℕ) → death_unit ≡ d → gone_at generator last place ordinal ≡ by_last last d
  gone-by None is =
      find-range_none (λ unit. is_none (held_row generator place unit ordinal)) (birth_unit + 1) (last - birth_unit)
      (λ unit low high. ap (λ (row : Option Row). is_none row)
      (held-before unit (omega (arith, low)) (omega (arith, high, birth-le births last ordinal born)) (ap (λ (d : Option ℕ). is_after d unit) is)))
  gone-by (Some unit) is = elim (cases_lt last unit) [
    | inl late ↦
        rw (lt-leb unit last late)
        (find-range_none (λ at. is_none (held_row generator place at ordinal)) (birth_unit + 1) (last - birth_unit)
        (λ at low high. ap (λ (row : Option Row). is_none row)
        (held-before at (omega (arith, low)) (omega (arith, high, birth-le births last ordinal born))
        (ap (λ (d : Option ℕ). is_after d at) is ∙ lt-ltb at unit (omega (arith, high, late, birth-le births last ordinal born))))))
    | inr early ↦
        let later : birth_unit < unit = ltb-true birth_unit unit (ap (λ (d : Option ℕ). is_after d birth_unit) (sym is) ∙ alive-birth) in
        rw (le-leb unit last early)
        (find-range_first (λ at. is_none (held_row generator place at ordinal)) (birth_unit + 1) (last - birth_unit) unit (omega (arith, later)) (omega (arith, later, early))
        (λ at low high. ap (λ (row : Option Row). is_none row)
        (held-before at (omega (arith, low)) (omega (arith, high, early)) (ap (λ (d : Option ℕ). is_after d at) is ∙ lt-ltb at unit high)))
        (ap (λ (row : Option Row). is_none row)
        (held-after unit (omega (arith, later)) early (ap (λ (d : Option ℕ). is_after d unit) is ∙ le-ltb unit unit (omega arith)))))
  ]

  pub gone_at-death : gone_at generator last place ordinal ≡ by_last last death_unit
  gone_at-death = gone-by death_unit refl

  -- whether its table holds it at a unit
  abbrev pub stands : ℕ → Bool
  stands unit = nat_le birth_unit unit && is_after (gone_at generator last place ordinal) unit

  pub stands-is : (unit born_at : ℕ) (gone : Option ℕ) (held : Bool) → born_at ≡ birth_unit → gone ≡ gone_at generator last place ordinal →
      held ≡ (nat_le born_at unit && is_after gone unit) → stands unit ≡ held
  stands-is unit born_at gone held born_is gone_is held_is =
      sym (held_is
      ∙ ap (λ (b : ℕ). nat_le b unit && is_after gone unit) born_is
      ∙ ap (λ (g : Option ℕ). nat_le birth_unit unit && is_after g unit) gone_is)

  -- a unit is past its death exactly where the row is gone
  after-gone : (unit : ℕ) → unit ≤ last → is_after (gone_at generator last place ordinal) unit ≡ is_after death_unit unit
  after-gone unit within = ap (λ (d : Option ℕ). is_after d unit) gone_at-death ∙ by_last-after last unit death_unit within

  pub born-standing : (unit : ℕ) → stands unit ≡ true → ordinal < born_count births unit
  born-standing unit held = born-from unit (leb-true birth_unit unit ((and_parts _ _ held).0))

  pub alive-standing : (unit : ℕ) → unit ≤ last → stands unit ≡ true → is_live generator place unit ordinal ≡ true
  alive-standing unit within held =
      ap (λ (d : Option ℕ). is_after d unit) (sym (death-later generator place unit last ordinal (born-standing unit held) within))
      ∙ sym (after-gone unit within) ∙ (and_parts _ _ held).1

  pub held_row-standing : (unit : ℕ) → unit ≤ last → stands unit ≡ true → held_row generator place unit ordinal ≡ Some (row_at generator place unit ordinal)
  held_row-standing unit within held =
      held_row-live last generator place unit ordinal sound within (born-standing unit held) (alive-standing unit within held)

  pub held_row-fallen : (unit : ℕ) → unit ≤ last → stands unit ≡ false → held_row generator place unit ordinal ≡ None
  held_row-fallen unit within fallen = elim (cases_lt unit birth_unit) [
    | inl early ↦ elim (cases_lt ordinal (born_count births unit)) [
      | inl by_then ↦ absurd (omega (arith, early, birth-within births last unit ordinal within by_then))
      | inr unborn ↦ held_row-unborn last generator place unit ordinal sound within unborn
    ]
    | inr from ↦
        held-after unit from within
        (sym (after-gone unit within)
        ∙ sym (ap (λ (test : Bool). test && is_after (gone_at generator last place ordinal) unit) (le-leb birth_unit unit from)) ∙ fallen)
  ]

-- ---- the row of a key

-- of the rows of a plan the one that has a key, and that no other has
pub row_with_key-found : (plan : Project) (place key ordinal : ℕ) → ordinal < rows_in_all plan place → key_of (generator_of plan) place (last_unit plan) ordinal ≡ key →
    ((other : ℕ) → other < rows_in_all plan place → key_of (generator_of plan) place (last_unit plan) other ≡ key → Some ordinal ≡ Some other) →
    row_with_key plan place key ≡ Some ordinal
row_with_key-found plan place key ordinal within has_it only =
    find-range_first (λ at. key_of (generator_of plan) place (last_unit plan) at == key) 0 (rows_in_all plan place) ordinal (omega arith) (omega (arith, within))
    (λ other low high.
    ne_eqb (key_of (generator_of plan) place (last_unit plan) other) key
    (λ same. omega (arith, high, same_Some ordinal other (only other (omega (arith, high, within)) same))))
    (eq-eqb (key_of (generator_of plan) place (last_unit plan) ordinal) key has_it)

pub row_with_key-none : (plan : Project) (place key : ℕ) →
    ((ordinal : ℕ) → ordinal < rows_in_all plan place → key_of (generator_of plan) place (last_unit plan) ordinal ≡ key → ⊥) → row_with_key plan place key ≡ None
row_with_key-none plan place key none =
    find-range_none (λ at. key_of (generator_of plan) place (last_unit plan) at == key) 0 (rows_in_all plan place)
    (λ ordinal low high. ne_eqb (key_of (generator_of plan) place (last_unit plan) ordinal) key (none ordinal (omega (arith, high))))

-- ---- the lines of a report

abbrev pub born_line : ℕ → List ℕ
born_line born = codes "born " ++ decimal born ++ codes "\n"

abbrev pub gone_line : Option ℕ → List ℕ
gone_line gone = codes "gone " ++ gone_text gone ++ codes "\n"

abbrev pub state_line : Bool → Bool → List ℕ
state_line born held = codes "state " ++ state_text born held ++ codes "\n"

joined : (a b c d e f g h i j : List ℕ) → a ++ b ++ c ++ d ++ e ++ f ++ g ++ h ++ i ++ j ≡ (a ++ b ++ c) ++ ((d ++ e ++ f) ++ ((g ++ h ++ i) ++ j))
joined a b c d e f g h i j = simp append_assoc

-- the lines of a report at a unit, by when the row is born and gone, whether its table holds it, and the row that it holds
abbrev pub report_lines : Generator → ℕ → ℕ → ℕ → Option ℕ → Bool → Option Row → List ℕ
report_lines generator place unit born gone held row =
    born_line born ++ (gone_line gone ++ (state_line (nat_le born unit) held ++ held_text generator unit place row))

pub row_report-lines : (generator : Generator) (last place unit ordinal born : ℕ) (gone : Option ℕ) (held : Bool) (row : Option Row) → born ≡ birth_at generator last place ordinal →
    gone ≡ gone_at generator last place ordinal → held_row generator place unit ordinal ≡ row → held ≡ is_some row →
    row_report generator last place unit ordinal ≡ report_lines generator place unit born gone held row
unfolding row_report
row_report-lines generator last place unit ordinal born gone held row born_is gone_is row_is held_is =
    let birth : ℕ = birth_at generator last place ordinal in
    let death : Option ℕ = gone_at generator last place ordinal in
    let found : Option Row = held_row generator place unit ordinal in
    joined (codes "born ") (decimal birth) (codes "\n") (codes "gone ") (gone_text death) (codes "\n") (codes "state ") (state_text (nat_le birth unit) (is_some found)) (codes "\n")
    (held_text generator unit place found)
    ∙ ap (λ (r : Option Row). report_lines generator place unit birth death (is_some r) r) row_is
    ∙ sym (ap (λ (b : ℕ). report_lines generator place unit b death (is_some row) row) born_is)
    ∙ sym (ap (λ (g : Option ℕ). report_lines generator place unit born g (is_some row) row) gone_is)
    ∙ sym (ap (λ (h : Bool). report_lines generator place unit born gone h row) held_is)

-- what is told of a row that is held: the unit of its last change, and its line
pub held_text-line : (generator : Generator) (unit place ordinal changed : ℕ) → place < length generator.tables → changed ≡ change_unit generator place unit ordinal →
    (codes "changed " ++ decimal changed ++ codes "\n") ++ line_of generator unit place ordinal ≡ held_text generator unit place (Some (row_at generator place unit ordinal))
held_text-line generator unit place ordinal changed below is =
    ap (λ (c : ℕ). (codes "changed " ++ decimal c ++ codes "\n") ++ line_of generator unit place ordinal) (is ∙ sym (row_at-changed generator place unit ordinal below))

pub length-four : (a b c d : List ℕ) → length (a ++ (b ++ (c ++ d))) ≡ length a + (length b + (length c + length d))
length-four a b c d = omega (arith, length-append a (b ++ (c ++ d)), length-append b (c ++ d), length-append c d)

-- four texts that are appended to a page, one after the other
pub four_appended : (room : ℕ) (text a b c d : List ℕ) (first second third fourth : Page) → first ≡ record { text = text ++ a; room = room } →
    second ≡ record { text = first.text ++ b; room = first.room } → third ≡ record { text = second.text ++ c; room = second.room } →
    fourth ≡ record { text = third.text ++ d; room = third.room } → fourth ≡ record { text = text ++ (a ++ (b ++ (c ++ d))); room = room }
four_appended room text a b c d first second third fourth is_first is_second is_third is_fourth =
    is_fourth
    ∙ ap (λ (page : Page). record { text = page.text ++ d; room = page.room }) is_third
    ∙ ap (λ (page : Page). record { text = (page.text ++ c) ++ d; room = page.room }) is_second
    ∙ ap (λ (page : Page). record { text = ((page.text ++ b) ++ c) ++ d; room = page.room }) is_first
    ∙ ap (λ (all : List ℕ). record { text = all; room = room }) (regrouped text a b c d)
  where
    regrouped : (text a b c d : List ℕ) → (((text ++ a) ++ b) ++ c) ++ d ≡ text ++ (a ++ (b ++ (c ++ d)))
    regrouped text a b c d = simp append_assoc
