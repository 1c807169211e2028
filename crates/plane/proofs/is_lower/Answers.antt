-- `plane::is_lower` meets its contract: the order of two points is that of their stored coordinates, which each arm's test decides.
use mathlib.Core.Path.{sym, ◌∙◌}
use native.Mathlib.Omega.{arith}
use borrow.Author.Tests.{le-ltb}
use Rattle.plane.proofs.Stored.{lower-stored, unequal_first}
use Rattle.plane.proofs.is_lower.Goals as goal

pub returns-then-ax-bx : goal.returns-then-ax-bx
returns-then-ax-bx c = let s = c.args in
    sym (lower-stored s.ax s.ay s.bx s.by ∙ simp (le-ltb s.ax s.bx (omega arith), le-ltb s.bx s.ax (omega arith)))

pub returns-else-ax-bx : goal.returns-else-ax-bx
returns-else-ax-bx c = let s = c.args in
    sym (lower-stored s.ax s.ay s.bx s.by ∙ unequal_first s.ax s.ay s.bx s.by c.if-ax-bx.false)
