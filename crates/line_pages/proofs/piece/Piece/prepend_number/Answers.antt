use Rattle.std.proofs.Common.{◌∙◌}
use Rattle.line_pages.proofs.DigitLemmas.{last_digit_before, lone_digit_before, room_for_digit}
use Rattle.line_pages.proofs.piece.Piece.prepend_number.Goals as goal

pub prepend-piece-requires : goal.prepend-piece-requires
prepend-piece-requires c =
    room_for_digit c.loop-rest.rest c.args.number _ _ c.loop-rest.auto.rest-fits.fits c.loop-rest.invariant c.requires

pub loop-rest-preserved : goal.loop-rest-preserved
loop-rest-preserved c =
    last_digit_before c.loop-rest.rest _ _ c.loop-rest-test.true c.loop-rest.auto.rest-fits.fits c.prepend-piece.ensures
    ∙ c.loop-rest.invariant

pub prepend-requires : goal.prepend-requires
prepend-requires c =
    room_for_digit c.loop-rest.rest c.args.number _ _ c.loop-rest.auto.rest-fits.fits c.loop-rest.invariant c.requires

pub returns : goal.returns
returns c = lone_digit_before c.loop-rest.rest _ _ c.loop-rest-test.false c.prepend.ensures ∙ c.loop-rest.invariant
