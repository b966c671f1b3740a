use Rattle.std.proofs.Common.{List, ℕ, slice_get, Some, ap, sym, ◌∙◌}
use Rattle.row_text.proofs.WrittenLemmas.{place_within, slice_get-texts_in}
use Rattle.row_text.proofs.written_texts.WrittenTexts.get.Goals as goal

pub text_at-requires : goal.text_at-requires
text_at-requires c =
    let within = place_within c.self.inside.bytes.items c.self.inside.ends.items c.args.self.now c.args.i c.self.view_is c.requires in
    rw (c.deref.ensures.value, c.deref-2.ensures.value) (record { ends = c.self.invariant; place = within })

pub returns : goal.returns
returns c =
    let within = place_within c.self.inside.bytes.items c.self.inside.ends.items c.args.self.now c.args.i c.self.view_is c.requires in
    ap (λ (texts : List (List ℕ)). slice_get texts c.args.i) (sym c.self.view_is)
    ∙ slice_get-texts_in c.self.inside.bytes.items c.self.inside.ends.items c.args.i within
    ∙ ap Some (rw (c.text_at.ensures, c.deref.ensures.value, c.deref-2.ensures.value))
