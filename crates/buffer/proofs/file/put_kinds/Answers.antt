-- `buffer::file::put_kinds` meets its contract: nothing, or the kinds.
use mathlib.Core.Path.{◌≡◌, ap, subst}
use mathlib.Core.List.{[]}
use Prim.Native.Nat.{ℕ, ◌+◌}
use native.Mathlib.Omega.{arith}
use lib.ListN.{length}
use Rattle.arrays.specs.Paste.{Pasted}
use Rattle.arrays.proofs.paste.Parts.{pasted_none, pasted_same}
use Rattle.buffer.proofs.Parts.{bare_kinds, all_kinds_lem}
use Rattle.buffer.proofs.file.put_kinds.Goals as goal

pub returns-then-bare : goal.returns-then-bare
returns-then-bare c = let at = c.args.at in
    let same : at + 0 ≡ at = omega arith in
    pasted_same (bare_kinds c.args.kinds.now c.if-bare.true)
    (subst (λ (z : ℕ). Pasted [] c.args.out.now c.args.out.now at z) same (pasted_none c.args.out.now at))

pub put_items-requires : goal.put_items-requires
put_items-requires c = omega (arith, ap length (all_kinds_lem c.args.kinds.now c.if-bare.false), c.requires)

pub returns-else-bare : goal.returns-else-bare
returns-else-bare c = pasted_same (all_kinds_lem c.args.kinds.now c.if-bare.false) c.put_items.ensures
