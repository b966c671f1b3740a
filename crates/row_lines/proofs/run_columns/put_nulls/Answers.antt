use Rattle.std.proofs.Common.{◌≡◌, ℕ, Bool, false, List, get_or, if◌then◌else◌, slice_set, ap, arith, sym, ◌∙◌, inl, inr}
use Rattle.std.proofs.lemmas.Bool.{cases_lt}
use Rattle.std.proofs.lemmas.List.{set-get_or}
use Rattle.line_pages.specs.declared.piece.Piece.{Piece}
use Rattle.line_pages.specs.Pieces.{piece_text}
use Rattle.line_pages.specs.Rows.{piece_text_at}
use Rattle.row_lines.proofs.PieceLemmas.{piece_text_at-set, piece_text_at-set_other}
use Rattle.row_lines.proofs.run_columns.put_nulls.Goals as goal
use Rattle.row_lines.proofs.run_columns.put_nulls.Goals.{then-not-held-i, else-not-held-i}

-- a piece for each flag
abbrev wanted : List Bool → Piece → List Piece → ℕ → List ℕ
wanted held null old k = if get_or held k false then piece_text_at old k else piece_text null

pub loop-i-preserved : goal.loop-i-preserved
loop-i-preserved c = elim c.if-not-held-i.branch [
  | then-not-held-i w ↦ record {
    before = λ k below. ap (λ (all : List Piece). piece_text_at all k) w.pieces-is ∙ elim (cases_lt k c.loop-i.i) [
      | inl earlier ↦ piece_text_at-set_other c.loop-i.pieces c.loop-i.i k c.args.null (λ same. omega (arith, same, earlier)) ∙ c.loop-i.invariant.before k earlier
      | inr here ↦
          let same : k ≡ c.loop-i.i = omega (arith, below, here) in
          ap (piece_text_at (slice_set c.loop-i.pieces c.loop-i.i c.args.null)) same
          ∙ piece_text_at-set c.loop-i.pieces c.loop-i.i c.args.null (omega arith)
          ∙ sym (ap (λ (flag : Bool). if flag then piece_text_at c.args.pieces.now k else piece_text c.args.null) (ap (λ (j : ℕ). get_or c.args.held.now j false) same ∙ w.if-not-held-i.true))
    ];
    behind = λ k past.
        ap (λ (all : List Piece). piece_text_at all k) w.pieces-is
        ∙ piece_text_at-set_other c.loop-i.pieces c.loop-i.i k c.args.null (λ same. omega (arith, same, past)) ∙ c.loop-i.invariant.behind k (omega (arith, past));
  }
  | else-not-held-i w ↦
      let kept : c.if-not-held-i.pieces ≡ c.loop-i.pieces = w.pieces-is ∙ set-get_or c.loop-i.pieces c.loop-i.i c.index-pieces-i.result in
      record {
        before = λ k below. ap (λ (all : List Piece). piece_text_at all k) kept ∙ elim (cases_lt k c.loop-i.i) [
          | inl earlier ↦ c.loop-i.invariant.before k earlier
          | inr here ↦
              let same : k ≡ c.loop-i.i = omega (arith, below, here) in
              c.loop-i.invariant.behind k (omega (arith, here))
              ∙ sym (ap (λ (flag : Bool). if flag then piece_text_at c.args.pieces.now k else piece_text c.args.null) (ap (λ (j : ℕ). get_or c.args.held.now j false) same ∙ w.if-not-held-i.false))
        ];
        behind = λ k past. ap (λ (all : List Piece). piece_text_at all k) kept ∙ c.loop-i.invariant.behind k (omega (arith, past));
      }
]
