-- Sure lives: what is past a table's is past that of its own life, and past what each parent leaves.
use Rattle.std.proofs.Common.{◌≡◌, ℕ, suc, ◌+◌, ◌<◌, true, false, List, [], ◌∷◌, filter, length, take, Option, Some, None, option_map, refl, arith, lt-ltb, ltb-true, subst}
use Rattle.std.specs.Prelude.{All}
use Rattle.std.specs.List.{AllByRecursion, cons_option, enumerate_from, filter_map, fold}
use Rattle.schema_facts.specs.declared.layout.Span.{Span}
use Rattle.schema_facts.specs.declared.lineage.Lineage.{Lineage}
use Rattle.schema_facts.specs.Layout.{KindLayout, reference_kind, ColumnLayout, TableLayout, table_at}
use Rattle.schema_facts.specs.Lineage.{lineage_at, lineages, own_lineage, sure_life, with_kind}
use Rattle.schema_facts.proofs.LineageLemmas.{lineage_at-lineages}
use Rattle.life_intervals.specs.Intervals.{is_after}
use Rattle.schema_facts.specs.References.{Reference, cascades_of, reference_of}
use Rattle.life_intervals.specs.Rows.{life_by}
use Rattle.life_intervals.proofs.CascadeLemmas.{is_cascading}
use Rattle.life_intervals.proofs.DeathLemmas.{is_after-lesser_parts}
use Rattle.life_intervals.proofs.ParentLemmas.{less_window}

-- what holds of each item holds of each part
pub AllByRecursion-all : {X : Type 0} (P Q : X → Type 0) → ((x : X) → P x → Q x) → (xs : List X) → All P xs → AllByRecursion Q xs
AllByRecursion-all P Q to [] all = tt
AllByRecursion-all P Q to (x ∷ xs) all = (to x (all 0 x (omega arith)), AllByRecursion-all P Q to xs (λ k d below. all (suc k) d (omega arith)))

-- and of two facts of each item a third follows
pub AllByRecursion-both : {X : Type 0} (P Q R : X → Type 0) → ((x : X) → P x → Q x → R x) → (xs : List X) → AllByRecursion P xs → AllByRecursion Q xs → AllByRecursion R xs
AllByRecursion-both P Q R to [] ps qs = tt
AllByRecursion-both P Q R to (x ∷ xs) ps qs = (to x ps.0 qs.0, AllByRecursion-both P Q R to xs ps.1 qs.1)

-- an age is past what a reference leaves of its parent's sure life
abbrev pub IsPastParent : List Lineage → ℕ → Reference → Type 0
IsPastParent earlier age reference = is_after (less_window reference.window (lineage_at earlier reference.parent).sure_life) age ≡ true

-- an age that is past what a kind leaves is past what it was left, and past each parent with which a row dies
sure_life-kind : (earlier : List Lineage) (own : Lineage) (kind : KindLayout) (place age : ℕ) (others : List Reference) → is_after (with_kind earlier own kind).sure_life age ≡ true →
    AllByRecursion (IsPastParent earlier age) (filter is_cascading others) →
    (is_after own.sure_life age ≡ true) × AllByRecursion (IsPastParent earlier age) (filter is_cascading (cons_option (reference_of place kind) others))
sure_life-kind earlier own (reference_kind parent window spread false drawn) place age others past rest =
    let parts = is_after-lesser_parts own.sure_life (less_window window (lineage_at earlier parent).sure_life) age past in
    (parts.0, (parts.1, rest))
sure_life-kind earlier own (reference_kind parent window spread true drawn) place age others past rest = (past, rest)
sure_life-kind earlier own _ place age others past rest = (past, rest)

sure_life-columns : (earlier : List Lineage) (columns : List ColumnLayout) (place : ℕ) (own : Lineage) (age : ℕ) →
    is_after (fold (λ own (column : ColumnLayout). with_kind earlier own column.kind) own columns).sure_life age ≡ true →
    (is_after own.sure_life age ≡ true) × AllByRecursion (IsPastParent earlier age) (filter is_cascading (filter_map (λ (at : ℕ × ColumnLayout). reference_of at.0 at.1.kind) (enumerate_from place columns)))
sure_life-columns earlier [] place own age past = (past, tt)
sure_life-columns earlier (column ∷ others) place own age past =
    let rest = sure_life-columns earlier others (place + 1) (with_kind earlier own column.kind) age past in
    sure_life-kind earlier own column.kind place age _ rest.0 rest.1

-- of the table at a place
pub sure_life-parts : (tables : List TableLayout) (place age : ℕ) → place < length tables → is_after (sure_life tables place) age ≡ true →
    (is_after (own_lineage (table_at tables place).life).sure_life age ≡ true) × AllByRecursion (IsPastParent (take place (lineages tables)) age) (cascades_of (table_at tables place))
sure_life-parts tables place age below past =
    sure_life-columns (take place (lineages tables)) (table_at tables place).columns 0 (own_lineage (table_at tables place).life) age
    (subst (λ (lineage : Lineage). is_after lineage.sure_life age ≡ true) (lineage_at-lineages tables place below) past)

-- a row's own life is as long
pub own_death-sure : (unit place age : ℕ) (life : Option Span) → is_after (own_lineage life).sure_life age ≡ true → is_after (option_map (λ l. unit + l) (life_by life place)) (unit + age) ≡ true
own_death-sure unit place age None past = refl
own_death-sure unit place age (Some life) past = lt-ltb (unit + age) _ (omega (arith, ltb-true age life.least past))
