-- `buffer::put_header` meets its contract: the four letters, the count and the pairs, one behind the other.
use mathlib.Core.Path.{ap}
use Prim.Native.Nat.{ℕ}
use native.Mathlib.Omega.{arith}
use Rattle.arrays.proofs.paste.Parts.{pasted_same, pasted_then}
use Rattle.model.specs.Sections.{pairs_from, header}
use Rattle.buffer.proofs.put_header.Goals as goal

pub returns : goal.returns
unfolding header
returns c =
    let first = ap (λ (z : ℕ). pairs_from z c.args.sizes.now) c.header_size.ensures in
    pasted_then c.put_items-count.ensures (omega (arith, c.requires.sizes_in_bounds))
    (pasted_then c.put2-first.ensures (omega (arith, c.requires.sizes_in_bounds, c.put_items-count.auto.out))
    (pasted_same first c.put_pairs.ensures))
