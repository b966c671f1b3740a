-- The statements of scripts: their texts, and what they do.
use Rattle.std.proofs.Common.{◌≡◌, ℕ, true, List, [], ◌∷◌, ◌++◌, map, nat_le, inl, inr, refl, ap, ap₂, sym, ◌∙◌}
use Rattle.std.specs.List.{flat_map}
use Rattle.std.proofs.lemmas.Bool.{cases_Bool}
use Rattle.std.proofs.lemmas.List.Concat.{flat_map-append}
use Rattle.std.proofs.lemmas.List.Folds.{flat_map-map}
use Rattle.schema_facts.specs.Dictionaries.{Project}
use Rattle.life_intervals.specs.Generator.{generator_of}
use Rattle.life_intervals.specs.Rows.{Row}
use Rattle.life_intervals.specs.Streams.{updated}
use Rattle.update_box.specs.Parts.{Part, parts_of}
use Rattle.update_box.specs.declared.parts.Content.{Content}
use Rattle.update_box.specs.declared.parts.Content.TheVariants as content
use Rattle.sql_lines.specs.Effects.{Effect, ScriptStatement, deleting, effects_of, inserting, statements_at, statements_of, updating}
use Rattle.sql_lines.specs.Script.{statements_text}
use Rattle.sql_lines.specs.Statements.{column_count, update}

-- ---- lists

pub map-append : {A B : Type 0} (f : A → B) (xs ys : List A) → map f (xs ++ ys) ≡ map f xs ++ map f ys
map-append f [] ys = refl
map-append f (x ∷ xs) ys = ap (λ (zs : List _). f x ∷ zs) (map-append f xs ys)

pub map-flat_map : {A B C : Type 0} (f : B → C) (g : A → List B) (xs : List A) → map f (flat_map g xs) ≡ flat_map (λ x. map f (g x)) xs
map-flat_map f g [] = refl
map-flat_map f g (x ∷ xs) = map-append f (g x) (flat_map g xs) ∙ ap (λ (ys : List _). map f (g x) ++ ys) (map-flat_map f g xs)

pub flat_map-each : {A B : Type 0} (f g : A → List B) → ((x : A) → f x ≡ g x) → (xs : List A) → flat_map f xs ≡ flat_map g xs
flat_map-each f g same [] = refl
flat_map-each f g same (x ∷ xs) = ap₂ (λ (ys zs : List _). ys ++ zs) (same x) (flat_map-each f g same xs)

flat_map-nothing : {A B : Type 0} (f : A → List B) → ((x : A) → f x ≡ []) → (xs : List A) → flat_map f xs ≡ []
flat_map-nothing f none [] = refl
flat_map-nothing f none (x ∷ xs) = ap₂ (λ (ys zs : List _). ys ++ zs) (none x) (flat_map-nothing f none xs)

-- ---- texts

text_of : ScriptStatement → List ℕ
text_of statement = statement.text

update-alone : (plan : Project) (unit place : ℕ) (row : Row) → nat_le (column_count plan place) 1 ≡ true → update plan unit place row ≡ []
unfolding update
update-alone plan unit place row alone = rw alone refl

at-text : (plan : Project) (unit place : ℕ) (told : Content) →
    flat_map (λ (statement : ScriptStatement). statement.text) (statements_at plan unit place told) ≡ statements_text plan unit place told
at-text plan unit place content.Snapshot = flat_map-map (λ (statement : ScriptStatement). statement.text) (inserting plan unit place) _
at-text plan unit place content.Deleted = flat_map-map (λ (statement : ScriptStatement). statement.text) (deleting plan place) _
at-text plan unit place content.Updated = elim (cases_Bool (nat_le (column_count plan place) 1)) [
  | inl alone ↦ rw alone (sym (flat_map-nothing (update plan unit place) (λ row. update-alone plan unit place row alone) (updated (generator_of plan) place unit)))
  | inr several ↦ rw several (flat_map-map (λ (statement : ScriptStatement). statement.text) (updating plan unit place) _)
]
at-text plan unit place content.Inserted = flat_map-map (λ (statement : ScriptStatement). statement.text) (inserting plan unit place) _

pub parts-text : (plan : Project) (unit : ℕ) (parts : List Part) →
    flat_map (λ (statement : ScriptStatement). statement.text) (statements_of plan unit parts) ≡ flat_map (λ (part : Part). statements_text plan unit part.place part.content) parts
parts-text plan unit [] = refl
parts-text plan unit (part ∷ parts) =
    flat_map-append (λ (statement : ScriptStatement). statement.text) (statements_at plan unit part.place part.content) (statements_of plan unit parts)
    ∙ ap₂ (λ (ys zs : List ℕ). ys ++ zs) (at-text plan unit part.place part.content) (parts-text plan unit parts)

-- ---- what they do

-- of the same content of some tables
pub effects-of_content : (plan : Project) (unit : ℕ) (told : Content) (places : List ℕ) →
    effects_of (statements_of plan unit (parts_of (told ∷ []) places)) ≡ flat_map (λ place. effects_of (statements_at plan unit place told)) places
effects-of_content plan unit told [] = refl
effects-of_content plan unit told (place ∷ places) =
    map-append (λ (statement : ScriptStatement). statement.does) (statements_at plan unit place told) (statements_of plan unit (parts_of (told ∷ []) places))
    ∙ ap (λ (effects : List Effect). effects_of (statements_at plan unit place told) ++ effects) (effects-of_content plan unit told places)

pub effects-append : (plan : Project) (unit : ℕ) (parts others : List Part) →
    effects_of (statements_of plan unit (parts ++ others)) ≡ effects_of (statements_of plan unit parts) ++ effects_of (statements_of plan unit others)
effects-append plan unit parts others =
    ap effects_of (flat_map-append (λ (part : Part). statements_at plan unit part.place part.content) parts others)
    ∙ map-append (λ (statement : ScriptStatement). statement.does) (statements_of plan unit parts) (statements_of plan unit others)
