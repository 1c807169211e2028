-- `picture::put_points` meets its contract: a valid deck has few pins and few Steiner points, and each of these has the symbol of a tap.
use native.Mathlib.Omega.{arith}
use Rattle.arrays.proofs.paste.Parts.{pasted_then}
use Rattle.model.proofs.FileSize.{steiner_few_lem}
use Rattle.points.proofs.Coded.{steiner_count_lem}
use Rattle.picture.proofs.Texts.{points-put}
use Rattle.picture.proofs.put_points.Goals as goal

pub put_taps-requires : goal.put_taps-requires
put_taps-requires c =
    let arranged = c.args.d.form.in_order.arranged in
    omega (arith, steiner_few_lem _ c.requires.valid_contents.state, steiner_count_lem _ arranged, arranged.pin_codes.few)

pub returns-clause-pasted : goal.returns-clause-pasted
returns-clause-pasted c = points-put _ c.args.d (pasted_then c.put_pins-next.ensures.pasted (omega arith) c.put_taps.ensures.pasted)

pub returns-clause-upper_bound : goal.returns-clause-upper_bound
returns-clause-upper_bound c =
    let arranged = c.args.d.form.in_order.arranged in
    omega (arith, steiner_few_lem _ c.requires.valid_contents.state, steiner_count_lem _ arranged, arranged.pin_codes.few)
