-- `listing::write_taps` meets its contract: a valid state has few Steiner points.
use native.Mathlib.Omega.{arith}
use Rattle.model.proofs.FileSize.{steiner_few_lem}
use Rattle.points.proofs.Coded.{steiner_count_lem}
use Rattle.listing.proofs.write_taps.Goals as goal

pub tap_lines-requires : goal.tap_lines-requires
tap_lines-requires c = omega (arith, steiner_few_lem _ c.requires.valid, steiner_count_lem _ c.args.w.in_order.arranged)

pub returns-clause-upper_bound : goal.returns-clause-upper_bound
returns-clause-upper_bound c = omega (arith, steiner_few_lem _ c.requires.valid, steiner_count_lem _ c.args.w.in_order.arranged)
