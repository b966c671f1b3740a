-- How many bytes fields take, with numbers that stand at the last of 64 bits where they are past it.
use Rattle.std.proofs.Common.{◌≡◌, ℕ, ℤ, ◌*◌, List, sym, ap, ◌∙◌, arith, encode_utf8}
use Rattle.std.specs.Str.{chars}
use Rattle.schema_model.specs.declared.column.Leaf.{Leaf}
use Rattle.schema_model.specs.declared.column.Leaf.TheVariants.{Chars}
use Rattle.schema_facts.specs.Capped.{capped}
use Rattle.schema_facts.specs.Counts.{count}
use Rattle.schema_facts.specs.Dictionaries.{Dictionary}
use Rattle.schema_facts.specs.FieldSizes.{greatest_by, leaf_size, or_null, written_size}
use Rattle.schema_facts.specs.Layout.{leaf_layout}

pub or_null-capped : (size : ℕ) → or_null (capped size) ≡ capped (or_null size)
or_null-capped size = omega arith

-- the characters of a text take their number times the greatest of them
pub chars_size : (dictionaries : List Dictionary) (delimiter : ℕ) (leaf : Leaf) (alphabet text : List ℕ) (lo hi : ℤ) (number greatest size : ℕ) → leaf ≡ Chars alphabet lo hi → number ≡ count hi → text ≡ alphabet → greatest ≡ greatest_by (λ c. written_size delimiter (encode_utf8 c)) (chars text) → size ≡ capped (number * greatest) → size ≡ capped (leaf_size delimiter (leaf_layout dictionaries leaf))
chars_size dictionaries delimiter leaf alphabet text lo hi number greatest size leaf_is number_is text_is greatest_is size_is =
    let most = λ (letters : List ℕ). greatest_by (λ c. written_size delimiter (encode_utf8 c)) (chars letters) in
    size_is
    ∙ ap (λ n. capped (n * greatest)) number_is
    ∙ ap (λ n. capped (count hi * n)) (greatest_is ∙ ap most text_is)
    ∙ ap (λ drawn. capped (leaf_size delimiter (leaf_layout dictionaries drawn))) (sym leaf_is)
