-- `edges::edge_numbers` meets its contract: the listing of the keys.
use native.Mathlib.Omega.{arith}
use lib.ListN.{length-take}
use Rattle.edges.proofs.Numbers.{row_is}
use Rattle.edges.proofs.edge_numbers.Goals as goal

pub listing-requires : goal.listing-requires
listing-requires c = omega (arith, length-take c.args.w.nkeys c.args.w.keys, c.args.w.in_order.keys_few)

pub returns : goal.returns
returns c = row_is c.args.w _ _ c.listing.ensures
