use Rattle.std.proofs.Common.{◌≡◌, ◌∙◌, ◌+◌, ℕ, ℤ, Option, ap, rules, w64}
use Rattle.std.proofs.lemmas.Int.{to_z-of_z}
use mir.Val.{SFits}
use Rattle.schema_facts.specs.Capped.{capped}
use Rattle.schema_facts.specs.Numbers.{greater, joined, lesser}
use Rattle.schema_facts.proofs.NumberLemmas.{joined-capped}
use Rattle.schema_facts.proofs.numbers.times.Goals as goal

pub returns : goal.returns
returns c =
    let product = c.args.product in
    let operand = c.args.operand in
    let decimals = product.decimals + operand.decimals in
    let reads = product.reads + operand.reads in
    let product_least : SFits w64 product.least = search rules in
    let product_greatest : SFits w64 product.greatest = search rules in
    let least : SFits w64 operand.least = search rules in
    let greatest : SFits w64 operand.greatest = search rules in
    c.joined.ensures
    ∙ ap (λ n. joined n c.lesser-3.result c.greater-3.result c.saturating_add-2.result) c.saturating_add.ensures
    ∙ ap (λ n. joined (capped decimals) c.lesser-3.result c.greater-3.result n) c.saturating_add-2.ensures
    ∙ joined-capped decimals reads c.lesser-3.result c.greater-3.result
    ∙ ap (λ least. joined decimals least c.greater-3.result reads)
    (c.lesser-3.ensures ∙ ap (λ one. lesser one c.lesser-2.result) c.lesser.ensures ∙ ap (lesser (lesser c.product_end-a.result c.product_end-b.result)) c.lesser-2.ensures)
    ∙ ap (λ greatest. joined decimals (lesser (lesser c.product_end-a.result c.product_end-b.result) (lesser c.product_end-c.result c.product_end-d.result)) greatest reads)
    (c.greater-3.ensures ∙ ap (λ one. greater one c.greater-2.result) c.greater.ensures ∙ ap (greater (greater c.product_end-a.result c.product_end-b.result)) c.greater-2.ensures)
    ∙ of_ends decimals reads (simp to_z-of_z at c.product_end-a.ensures) (simp to_z-of_z at c.product_end-b.ensures) (simp to_z-of_z at c.product_end-c.ensures) (simp to_z-of_z at c.product_end-d.ensures)
  where
    of_ends : (decimals reads : ℕ) {a a' b b' c c' d d' : Option ℤ} → a ≡ a' → b ≡ b' → c ≡ c' → d ≡ d' →
        joined decimals (lesser (lesser a b) (lesser c d)) (greater (greater a b) (greater c d)) reads ≡ joined decimals (lesser (lesser a' b') (lesser c' d')) (greater (greater a' b') (greater c' d')) reads
    of_ends decimals reads p q r s = cc
