use Rattle.std.proofs.Common.{◌≡◌, rules}
use Rattle.schema_facts.specs.Counts.{count}
use Rattle.schema_facts.proofs.SizeLemmas.{chars_size}
use Rattle.schema_facts.proofs.field_sizes.leaf_size.Goals as goal

pub returns-in-Chars : goal.returns-in-Chars
returns-in-Chars c =
    let number : c.count-in-Chars.result ≡ count c.in-Chars.hi = search rules in
    chars_size c.args.dictionaries.now c.args.delimiter c.args.leaf.now c.in-Chars.alphabet c.as_str-in-Chars.result.now c.in-Chars.lo c.in-Chars.hi c.count-in-Chars.result c.greatest_character.result c.saturating_mul.result
    c.in-Chars.is number c.as_str-in-Chars.ensures.value c.greatest_character.ensures c.saturating_mul.ensures
