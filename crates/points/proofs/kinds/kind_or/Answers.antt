-- `points::kinds::kind_or` meets its contract: what stands at the index of the pin, or nothing there.
use mathlib.Core.Path.{sym, ap, ◌∙◌}
use Prim.Native.Nat.{ℕ}
use native.Mathlib.Omega.{arith}
use lib.ListN.{get_or}
use Rattle.std.specs.Option.{unwrap_or}
use Rattle.points.proofs.kinds.Front.{by_index}
use Rattle.points.proofs.kinds.kind_or.Goals as goal

pub returns : goal.returns
returns c = let a = c.args in
    c.unwrap_or.ensures ∙ ap (λ o. unwrap_or o a.other) c.copied.ensures ∙ c.get.ensures.lookup.4 (omega arith) a.other
    ∙ ap (λ (i : ℕ). get_or a.kinds.now i a.other) c.index_of.ensures ∙ sym (by_index a.pins.now a.kinds.now a.k a.other c.requires)
