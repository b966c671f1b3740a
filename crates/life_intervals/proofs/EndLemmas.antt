-- Ends of a run's rows, the earlier of them and of deaths, and the parts that they are put in.
use Rattle.std.proofs.Common.{◌≡◌, ◌<◌, ◌≤◌, ℕ, ◌+◌, ◌-◌, ◌*◌, ◌%◌, Bool, true, false, List, drop, filter, get_or, length, length-take, map, min, take, Option, Some, None, option_map, refl, ap, arith, subst, sym, ◌∙◌}
use Rattle.std.specs.Prelude.{nat_le, nat_lt}
use Rattle.std.proofs.Math.Nat.{mul-add, mul-le-mul_left}
use Rattle.std.proofs.lemmas.Bool.Decides.{nat_tests}
use Rattle.std.proofs.lemmas.List.{ext_get_or, get_or-append_right, get_or-drop, get_or-map, get_or-take, length-map}
use Rattle.std.proofs.lemmas.Slice.{drop-put_mid, take-put_mid, take-put_mid_below}
use Rattle.cohort_sizes.specs.Births.{LiesIn, birth, born_count, first_ordinal, index_at}
use Rattle.cohort_sizes.proofs.CohortLemmas.{born_count-le}
use Rattle.schema_facts.specs.declared.layout.Span.{Span}
use Rattle.schema_plan.specs.declared.ready.ReadyReference.{ReadyReference}
use Rattle.schema_facts.specs.Dictionaries.{Project}
use Rattle.schema_facts.specs.Layout.{layout_of}
use Rattle.schema_plan.specs.Limits.{IsInLimits}
use Rattle.schema_facts.specs.Lineage.{lesser_life, sure_life}
use Rattle.schema_facts.specs.References.{Reference, reference_at}
use Rattle.life_intervals.specs.declared.orders.Purpose.TheVariants.{Lives}
use Rattle.life_intervals.specs.Changes.{later_change}
use Rattle.life_intervals.specs.CohortKeys.{CohortOf}
use Rattle.life_intervals.specs.CohortOrders.{place_for}
use Rattle.life_intervals.specs.CohortParents.{IsReferenceOf, parent_death_in, reference_by}
use Rattle.life_intervals.specs.Ends.{AreEarlier, AreEnds, earlier_end}
use Rattle.life_intervals.specs.Generator.{generator_of, last_unit, rows_in_all, table_of}
use Rattle.life_intervals.specs.Intervals.{death, first_death, is_after, is_live, own_death, parent_of}
use Rattle.life_intervals.specs.Rows.{life_by}
use Rattle.life_intervals.specs.RunParents.{AreKnownOf}
use Rattle.life_intervals.specs.Runs.{IsRun}
use Rattle.life_intervals.proofs.CascadeLemmas.{is_cascading}
use Rattle.life_intervals.proofs.CohortParentLemmas.{before-none, death-parents, first_before, first_before-nulls, first_before-some, parent_below, references_before-all}
use Rattle.life_intervals.proofs.FoundLemmas.{death-never, found-in_all, found-live}
use Rattle.life_intervals.proofs.PartLemmas.{found-lies, parent-born, place_for-own_death}
use Rattle.life_intervals.proofs.RunLemmas.{length-part, length-put_mid}
use borrow.Rule.Slice.PartMut.{put_mid}

-- ---- ends and deaths

pub earlier_end-lesser : (end : ℕ) (a b : Option ℕ) → earlier_end (earlier_end end a) b ≡ earlier_end end (lesser_life a b)
earlier_end-lesser end None b = refl
earlier_end-lesser end (Some a) None = refl
earlier_end-lesser end (Some a) (Some b) = omega arith

pub earlier_end-le : (end : ℕ) (d : Option ℕ) → earlier_end end d ≤ end
earlier_end-le end None = omega arith
earlier_end-le end (Some d) = omega arith

-- a death that comes after a unit isn't earlier than an end by the unit after that
pub earlier_end-after : (unit end : ℕ) (d : Option ℕ) → end ≤ unit + 1 → is_after d unit ≡ true → earlier_end end d ≡ end
earlier_end-after unit end None within after = refl
earlier_end-after unit end (Some d) within after =
    let later : unit < d = grind (arith, nat_tests, after) in
    omega arith

-- an end by the unit after a unit lies past that where the death does
pub nat_lt-earlier_end : (unit : ℕ) (d : Option ℕ) → nat_lt unit (earlier_end (unit + 1) d) ≡ is_after d unit
nat_lt-earlier_end unit None = grind (arith, nat_tests)
nat_lt-earlier_end unit (Some d) = grind (arith, nat_tests)

pub later_change-earlier_end : (unit change : ℕ) (d : Option ℕ) → later_change unit change (Some (earlier_end (unit + 1) d)) ≡ later_change unit change d
later_change-earlier_end unit change None = grind (arith, nat_tests)
later_change-earlier_end unit change (Some d) = grind (arith, nat_tests)

lesser_life-none : (a : Option ℕ) → lesser_life a None ≡ a
lesser_life-none None = refl
lesser_life-none (Some a) = refl

lesser_life-assoc : (a b c : Option ℕ) → lesser_life (lesser_life a b) c ≡ lesser_life a (lesser_life b c)
lesser_life-assoc None b c = refl
lesser_life-assoc (Some a) None c = refl
lesser_life-assoc (Some a) (Some b) None = refl
lesser_life-assoc (Some a) (Some b) (Some c) = let same : min (min a b) c ≡ min a (min b c) = omega arith in ap (λ n. Some n) same

-- ---- ends of rows

pub AreEarlier-ends : (unit : ℕ) (d : ℕ → Option ℕ) (ordinals before ends : List ℕ) → AreEnds unit ordinals before → AreEarlier d ordinals before ends → AreEnds unit ordinals ends
AreEarlier-ends unit d ordinals before ends are earlier = record {
  same_length = earlier.same_length;
  within = λ i below.
      omega (arith, earlier.each i below, earlier_end-le (get_or before i 0) (d (get_or ordinals i 0)), are.within i below);
}

pub AreEarlier-then : (d e f : ℕ → Option ℕ) (ordinals before between ends : List ℕ) → AreEarlier d ordinals before between → AreEarlier e ordinals between ends →
    ((i : ℕ) → i < length ordinals → lesser_life (d (get_or ordinals i 0)) (e (get_or ordinals i 0)) ≡ f (get_or ordinals i 0)) → AreEarlier f ordinals before ends
AreEarlier-then d e f ordinals before between ends first second both = record {
  same_length = second.same_length;
  each = λ i below.
      let j : ℕ = get_or ordinals i 0 in
      second.each i below
      ∙ ap (λ (end : ℕ). earlier_end end (e j)) (first.each i below)
      ∙ earlier_end-lesser (get_or before i 0) (d j) (e j)
      ∙ ap (earlier_end (get_or before i 0)) (both i below);
}

pub AreEarlier-same : (d e : ℕ → Option ℕ) (ordinals before ends : List ℕ) → AreEarlier d ordinals before ends →
    ((i : ℕ) → i < length ordinals → d (get_or ordinals i 0) ≡ e (get_or ordinals i 0)) → AreEarlier e ordinals before ends
AreEarlier-same d e ordinals before ends earlier same = record {
  same_length = earlier.same_length;
  each = λ i below. earlier.each i below ∙ ap (earlier_end (get_or before i 0)) (same i below);
}

-- where no death comes by the unit, ends stay
pub AreEarlier-rest : (unit : ℕ) (d : ℕ → Option ℕ) (ordinals ends : List ℕ) → AreEnds unit ordinals ends →
    ((i : ℕ) → i < length ordinals → is_after (d (get_or ordinals i 0)) unit ≡ true) → AreEarlier d ordinals ends ends
AreEarlier-rest unit d ordinals ends are after = record {
  same_length = are.same_length;
  each = λ i below. sym (earlier_end-after unit (get_or ends i 0) (d (get_or ordinals i 0)) (are.within i below) (after i below));
}

-- ---- parts

pub get_or-part : {X : Type 0} (xs : List X) (from until i : ℕ) (d : X) → i < until - from → get_or (take (until - from) (drop from xs)) i d ≡ get_or xs (from + i) d
get_or-part xs from until i d below = get_or-take (until - from) (drop from xs) i d below ∙ get_or-drop from xs i d

get_or-put_mid_before : {X : Type 0} (a k : ℕ) (xs ys : List X) (i : ℕ) (d : X) → i < a → a ≤ length xs → get_or (put_mid a k xs ys) i d ≡ get_or xs i d
get_or-put_mid_before a k xs ys i d below within =
    sym (get_or-take a (put_mid a k xs ys) i d below)
    ∙ ap (λ (zs : List _). get_or zs i d) (take-put_mid_below a k xs ys a (omega arith) within)
    ∙ get_or-take a xs i d below

get_or-put_mid_in : {X : Type 0} (a k : ℕ) (xs ys : List X) (i : ℕ) (d : X) → i < length ys → a ≤ length xs → get_or (put_mid a k xs ys) (a + i) d ≡ get_or ys i d
get_or-put_mid_in a k xs ys i d below within =
    let back : (a + i) - a ≡ i = omega arith in
    sym (get_or-take (a + length ys) (put_mid a k xs ys) (a + i) d (omega (arith, below)))
    ∙ ap (λ (zs : List _). get_or zs (a + i) d) (take-put_mid a k xs ys (a + length ys) refl within)
    ∙ get_or-append_right (take a xs) ys a (a + i) d (omega (arith, length-take a xs, within)) (omega arith)
    ∙ ap (λ (n : ℕ). get_or ys n d) back

get_or-put_mid_after : {X : Type 0} (a k : ℕ) (xs ys : List X) (i : ℕ) (d : X) → a + k ≤ i → a ≤ length xs → length ys ≡ k → get_or (put_mid a k xs ys) i d ≡ get_or xs i d
get_or-put_mid_after a k xs ys i d past within long =
    let whole : (a + k) + (i - (a + k)) ≡ i = omega (arith, past) in
    ap (λ (n : ℕ). get_or (put_mid a k xs ys) n d) (sym whole)
    ∙ sym (get_or-drop (a + k) (put_mid a k xs ys) (i - (a + k)) d)
    ∙ ap (λ (zs : List _). get_or zs (i - (a + k)) d) (drop-put_mid a k xs ys (a + k) (omega arith) within long)
    ∙ get_or-drop (a + k) xs (i - (a + k)) d
    ∙ ap (λ (n : ℕ). get_or xs n d) whole

pub IsRun-part : (plan : Project) (table unit : ℕ) (ordinals births : List ℕ) (from until : ℕ) → from ≤ until → until ≤ length ordinals → IsRun plan table unit ordinals births →
    IsRun plan table unit (take (until - from) (drop from ordinals)) (take (until - from) (drop from births))
IsRun-part plan table unit ordinals births from until order within run =
    let long : length (take (until - from) (drop from ordinals)) ≡ until - from = length-part ordinals from until order within in
    let born_at : (i : ℕ) → i < until - from → get_or (take (until - from) (drop from births)) i 0 ≡ get_or births (from + i) 0 = λ i below. get_or-part births from until i 0 below in
    record {
      same_length = length-part births from until order (omega (arith, within, run.same_length)) ∙ sym long;
      lies = λ i below.
          let inside : i < until - from = omega (arith, below, long) in
          subst (λ (u : ℕ). LiesIn (table_of plan table).births u (get_or (take (until - from) (drop from ordinals)) i 0)) (sym (born_at i inside))
          (subst (LiesIn (table_of plan table).births (get_or births (from + i) 0)) (sym (get_or-part ordinals from until i 0 inside)) (run.lies (from + i) (omega (arith, inside, order, within))));
      born = λ i below.
          let inside : i < until - from = omega (arith, below, long) in
          omega (arith, born_at i inside, run.born (from + i) (omega (arith, inside, order, within)));
    }

pub IsRun-later : (plan : Project) (table unit last : ℕ) (ordinals births : List ℕ) → unit ≤ last → IsRun plan table unit ordinals births → IsRun plan table last ordinals births
IsRun-later plan table unit last ordinals births order run = record {
  same_length = run.same_length;
  lies = run.lies;
  born = λ i below. omega (arith, run.born i below, order);
}

-- of the rows before a count the ends are put, and of the others they are as before
pub record AreEarlierBefore (d : ℕ → Option ℕ) (ordinals before ends : List ℕ) (count : ℕ) : Type 0 where
  pub same_length : length ends ≡ length ordinals
  pub done : (i : ℕ) → i < count → get_or ends i 0 ≡ earlier_end (get_or before i 0) (d (get_or ordinals i 0))
  pub rest : (i : ℕ) → count ≤ i → get_or ends i 0 ≡ get_or before i 0

pub earlier-part : (d : ℕ → Option ℕ) (ordinals before ends part : List ℕ) (from until : ℕ) → from ≤ until → until ≤ length ordinals → AreEarlierBefore d ordinals before ends from →
    AreEarlier d (take (until - from) (drop from ordinals)) (take (until - from) (drop from ends)) part →
    AreEarlierBefore d ordinals before (put_mid from (until - from) ends part) until
earlier-part d ordinals before ends part from until order within done next =
    let long : length part ≡ until - from = next.same_length ∙ length-part ordinals from until order within in
    let room : from ≤ length ends = omega (arith, order, within, done.same_length) in
    record {
      same_length = length-put_mid from (until - from) ends part (omega (arith, order, within, done.same_length)) long ∙ done.same_length;
      done = λ i below. elim (nat_le from i) as (λ (late : Bool). nat_le from i ≡ late → get_or (put_mid from (until - from) ends part) i 0 ≡ earlier_end (get_or before i 0) (d (get_or ordinals i 0))) [
        | true ↦ λ test.
            let late : from ≤ i = grind (arith, nat_tests, test) in
            let whole : from + (i - from) ≡ i = omega (arith, late) in
            let inside : i - from < until - from = omega (arith, late, below) in
            ap (λ (n : ℕ). get_or (put_mid from (until - from) ends part) n 0) (sym whole)
            ∙ get_or-put_mid_in from (until - from) ends part (i - from) 0 (omega (arith, inside, long)) room
            ∙ next.each (i - from) (omega (arith, inside, length-part ordinals from until order within))
            ∙ ap (λ (end : ℕ). earlier_end end (d (get_or (take (until - from) (drop from ordinals)) (i - from) 0))) (get_or-part ends from until (i - from) 0 inside ∙ ap (λ (n : ℕ). get_or ends n 0) whole ∙ done.rest i late)
            ∙ ap (λ (j : ℕ). earlier_end (get_or before i 0) (d j)) (get_or-part ordinals from until (i - from) 0 inside ∙ ap (λ (n : ℕ). get_or ordinals n 0) whole)
        | false ↦ λ test.
            let early : i < from = grind (arith, nat_tests, test) in
            get_or-put_mid_before from (until - from) ends part i 0 early room ∙ done.done i early
      ] refl;
      rest = λ i late.
          get_or-put_mid_after from (until - from) ends part i 0 (omega (arith, late, order)) room long ∙ done.rest i (omega (arith, late, order));
    }

pub earlier-same : (d : ℕ → Option ℕ) (ordinals before ends : List ℕ) (from until : ℕ) → from ≤ until → AreEarlierBefore d ordinals before ends from →
    ((i : ℕ) → from ≤ i → i < until → earlier_end (get_or before i 0) (d (get_or ordinals i 0)) ≡ get_or before i 0) →
    AreEarlierBefore d ordinals before ends until
earlier-same d ordinals before ends from until order done same = record {
  same_length = done.same_length;
  done = λ i below. elim (nat_le from i) as (λ (late : Bool). nat_le from i ≡ late → get_or ends i 0 ≡ earlier_end (get_or before i 0) (d (get_or ordinals i 0))) [
    | true ↦ λ test.
        let late : from ≤ i = grind (arith, nat_tests, test) in
        done.rest i late ∙ sym (same i late below)
    | false ↦ λ test. done.done i (grind (arith, nat_tests, test))
  ] refl;
  rest = λ i late. done.rest i (omega (arith, late, order));
}

pub earlier-all : (d : ℕ → Option ℕ) (ordinals before ends : List ℕ) (count : ℕ) → length ordinals ≤ count → AreEarlierBefore d ordinals before ends count → AreEarlier d ordinals before ends
earlier-all d ordinals before ends count all done = record {
  same_length = done.same_length;
  each = λ i below. done.done i (omega (arith, below, all));
}

-- ---- deaths by own lives and by parents

module _ (plan : Project) (table : ℕ) where
  -- the cohort of a row that is born in some unit, and its index
  abbrev cohort_at : ℕ → CohortOf
  cohort_at j = record { plan = plan; table = table; unit = birth (table_of plan table).births (last_unit plan) j }

  abbrev place_at : ℕ → ℕ
  place_at j = index_at (table_of plan table).births (last_unit plan) j

  -- the death of a row by its own life and by its parents by the references before a column
  abbrev pub death_before : ℕ → ℕ → Option ℕ
  death_before column j = lesser_life (own_death (generator_of plan) table (last_unit plan) j) (first_before (cohort_at j) (place_at j) column)

  pub death_before-own : (j : ℕ) → own_death (generator_of plan) table (last_unit plan) j ≡ death_before 0 j
  death_before-own j = sym (lesser_life-none (own_death (generator_of plan) table (last_unit plan) j))

  pub death_before-some : (column : ℕ) (ready : ReadyReference) → IsReferenceOf plan table column ready → ready.nulls ≡ false → (j : ℕ) →
      lesser_life (death_before column j) (death (generator_of plan) ready.parent (last_unit plan) (parent_of (generator_of plan) table (last_unit plan) j (reference_by column ready)))
      ≡ death_before (column + 1) j
  death_before-some column ready of cascades j =
      let own : Option ℕ = own_death (generator_of plan) table (last_unit plan) j in
      lesser_life-assoc own (first_before (cohort_at j) (place_at j) column) (death (generator_of plan) ready.parent (last_unit plan) (parent_of (generator_of plan) table (last_unit plan) j (reference_by column ready)))
      ∙ ap (lesser_life own) (sym (first_before-some (cohort_at j) (place_at j) column ready of cascades))

  pub death_before-nulls : (column : ℕ) (ready : ReadyReference) → IsReferenceOf plan table column ready → ready.nulls ≡ true → (j : ℕ) → death_before column j ≡ death_before (column + 1) j
  death_before-nulls column ready of nulls j =
      ap (lesser_life (own_death (generator_of plan) table (last_unit plan) j)) (sym (first_before-nulls (cohort_at j) (place_at j) column ready of nulls))

  pub death_before-none : (column : ℕ) → column < length (table_of plan table).columns → reference_at (table_of plan table) column ≡ None → (j : ℕ) → death_before column j ≡ death_before (column + 1) j
  death_before-none column within none j =
      ap (λ (references : List Reference). lesser_life (own_death (generator_of plan) table (last_unit plan) j) (first_death (map (parent_death_in (cohort_at j) (place_at j)) (filter is_cascading references))))
      (sym (before-none (cohort_at j) column within none))

  pub death_before-all : IsInLimits plan → table < length plan.schema.tables → (column : ℕ) → length (table_of plan table).columns ≤ column → (j : ℕ) → j < born_count (table_of plan table).births (last_unit plan) →
      death_before column j ≡ death (generator_of plan) table (last_unit plan) j
  death_before-all limits below column all j born =
      ap (λ (references : List Reference). lesser_life (own_death (generator_of plan) table (last_unit plan) j) (first_death (map (parent_death_in (cohort_at j) (place_at j)) (filter is_cascading references))))
      (references_before-all plan table column all)
      ∙ death-parents plan limits table (birth (table_of plan table).births (last_unit plan) j) j (index_at (table_of plan table).births (last_unit plan) j) below born refl refl

-- ---- what is told of the rows of a run

module _ (plan : Project) (table born : ℕ) (within : born ≤ last_unit plan) (j : ℕ) (lies : LiesIn (table_of plan table).births born j) where
  pub lies-in_all : j < rows_in_all plan table
  lies-in_all = found-in_all plan table (record { ordinal = j; born = born; index = j - first_ordinal (table_of plan table).births born }) (found-lies plan table born within j lies)

  -- a life whose shortest length lasts past a unit does
  pub own_death-after : (life : Span) → Some life ≡ (table_of plan table).life → (unit : ℕ) → unit < born + life.least → is_after (own_death (generator_of plan) table (last_unit plan) j) unit ≡ true
  own_death-after life is unit late =
      let place : ℕ = place_for plan table Lives born j in
      let past : unit < born + (life.least + place % (life.most - life.least + 1)) = omega (arith, late) in
      ap (λ (d : Option ℕ). is_after d unit) (place_for-own_death plan table born within j lies (last_unit plan) within ∙ ap (λ (span : Option Span). option_map (λ l. born + l) (life_by span place)) (sym is))
      ∙ grind (arith, nat_tests, past)

  module _ (limits : IsInLimits plan) (below : table < length plan.schema.tables) where
    pub death-live : (unit : ℕ) → born ≤ unit → unit ≤ last_unit plan → is_after (death (generator_of plan) table (last_unit plan) j) unit ≡ is_live (generator_of plan) table unit j
    death-live unit early last =
        found-live plan table (record { ordinal = j; born = born; index = j - first_ordinal (table_of plan table).births born }) (found-lies plan table born within j lies) limits below unit early last

    -- the parent by a reference never dies where its table's rows live without an end
    pub parent-never : (column : ℕ) (ready : ReadyReference) → IsReferenceOf plan table column ready → sure_life (layout_of plan).tables ready.parent ≡ None →
        death (generator_of plan) ready.parent (last_unit plan) (parent_of (generator_of plan) table (last_unit plan) j (reference_by column ready)) ≡ None
    parent-never column ready of endless =
        death-never plan limits ready.parent (parent_below plan limits table column ready below of) endless (parent_of (generator_of plan) table (last_unit plan) j (reference_by column ready))
        (omega (arith, parent-born plan table born within j lies limits below column ready of, born_count-le (table_of plan ready.parent).births born (last_unit plan) within))

-- what rows of a run take, each as much, and so much more
pub steps-more : (n b c d s a e : ℕ) → a ≤ s + n * b → e ≤ a + n * c → d ≡ b + c → e ≤ s + n * d
steps-more n b c d s a e first second sum = omega (arith, first, second, ap (λ m. n * m) sum, mul-add n b c)

pub steps-parents : (n m choice asked cost s a e : ℕ) → m ≡ n → a ≡ s + n * choice → e ≤ a + m * asked → asked ≤ cost → e ≤ s + n * (choice + cost)
steps-parents n m choice asked cost s a e same first second few =
    omega (arith, first, second, ap (λ k. k * asked) same, mul-le-mul_left n few, mul-add n choice cost)

-- parents that are known, under other names
pub AreKnownOf-same : (plan : Project) (table unit : ℕ) (ordinals : List ℕ) (by known_by : Option ℕ) (parents known births known_births : List ℕ) → by ≡ known_by → parents ≡ known → births ≡ known_births →
    AreKnownOf plan table unit ordinals known_by known known_births → AreKnownOf plan table unit ordinals by parents births
AreKnownOf-same plan table unit ordinals by known_by parents known births known_births by_is parents_is births_is are =
    subst (λ (b : Option ℕ). AreKnownOf plan table unit ordinals b parents births) (sym by_is)
    (subst (λ (p : List ℕ). AreKnownOf plan table unit ordinals known_by p births) (sym parents_is) (subst (AreKnownOf plan table unit ordinals known_by known) (sym births_is) are))

-- ---- lists of one length

pub map-beside : (f g : ℕ → Bool) (xs ys : List ℕ) → length xs ≡ length ys → ((i : ℕ) → i < length ys → f (get_or xs i 0) ≡ g (get_or ys i 0)) → map f xs ≡ map g ys
map-beside f g xs ys same_length each =
    ext_get_or false (map f xs) (map g ys) (length-map xs f ∙ same_length ∙ sym (length-map ys g)) (λ i below.
    let inside : i < length xs = omega (arith, below, length-map xs f) in
    get_or-map f xs i 0 false inside ∙ each i (omega (arith, inside, same_length)) ∙ sym (get_or-map g ys i 0 false (omega (arith, inside, same_length))))

pub map-each : (f : ℕ → ℕ) (xs ys : List ℕ) → length ys ≡ length xs → ((i : ℕ) → i < length xs → get_or ys i 0 ≡ f (get_or xs i 0)) → ys ≡ map f xs
map-each f xs ys same_length each =
    ext_get_or 0 ys (map f xs) (same_length ∙ sym (length-map xs f)) (λ i below.
    let inside : i < length xs = omega (arith, below, same_length) in
    each i inside ∙ sym (get_or-map f xs i 0 0 inside))
