use Rattle.std.proofs.Common.{◌≡◌, ◌∷◌, ℕ, List, string_bytes, get_or, ap, ◌∙◌, arith}
use Rattle.std.proofs.lemmas.List.{get_or_read}
use Rattle.dictionaries.proofs.PieceLemmas.{within-ends, slice_get-pieces_from, start-le-end, start_is_boundary, end_is_boundary}
use Rattle.dictionaries.proofs.entries.Entries.get.Goals as goal

pub index-requires : goal.index-requires
index-requires c =
    let fields = c.self.inside in
    omega (arith, within-ends (string_bytes fields.text) fields.ends.items c.args.self.now c.args.i c.self.view_is c.requires)

pub range-requires : goal.range-requires
range-requires c =
    let text = string_bytes c.self.inside.text in
    let ends = c.self.inside.ends.items in
    let i = c.args.i in
    let within = within-ends text ends c.args.self.now i c.self.view_is c.requires in
    let start : c.start_of-start.result ≡ get_or (0 ∷ ends) i 0 =
    c.start_of-start.ensures ∙ ap (λ (xs : List ℕ). get_or (0 ∷ xs) i 0) c.deref.ensures.value in
    let end : c.index.result.now ≡ get_or ends i 0 = get_or_read ends i c.index.result.now within c.index.ensures 0 in
    rw (start, end, c.as_str.ensures.value)
    (record {
      start_le_end = start-le-end 0 text ends i c.self.invariant within;
      start_boundary = start_is_boundary text ends i c.self.invariant within;
      end_boundary = end_is_boundary 0 text ends i c.self.invariant within;
    })

pub returns : goal.returns
returns c =
    let text = string_bytes c.self.inside.text in
    let ends = c.self.inside.ends.items in
    let i = c.args.i in
    let within = within-ends text ends c.args.self.now i c.self.view_is c.requires in
    let start : c.start_of-start.result ≡ get_or (0 ∷ ends) i 0 =
    c.start_of-start.ensures ∙ ap (λ (xs : List ℕ). get_or (0 ∷ xs) i 0) c.deref.ensures.value in
    let end : c.index.result.now ≡ get_or ends i 0 = get_or_read ends i c.index.result.now within c.index.ensures 0 in
    rw (c.range.ensures.value, start, end, c.as_str.ensures.value, ← c.self.view_is) (slice_get-pieces_from 0 text ends i within)

pub start_of-start-requires : goal.start_of-start-requires
start_of-start-requires c =
    let fields = c.self.inside in
    rw c.deref.ensures.value
    (within-ends (string_bytes fields.text) fields.ends.items c.args.self.now c.args.i c.self.view_is c.requires)
