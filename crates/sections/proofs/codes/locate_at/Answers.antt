-- `sections::codes::locate_at` meets its contract: the two numbers handed on are the coordinates of the point.
use mathlib.Core.Path.{sym, ap₂, ◌∙◌}
use lib.IntN.{ℤ}
use Rattle.plane.specs.Point.{point}
use Rattle.plane.specs.Code.{located}
use Rattle.plane.proofs.codes.Points.{read-located}
use Rattle.sections.proofs.codes.locate_at.Goals as goal

pub returns : goal.returns
returns c = let x = c.from_bytes in
    let y = c.from_bytes-2 in
    sym (read-located _ _ _ (record { sfits = x.type_inv }) (record { sfits = y.type_inv }) c.locate.ensures)
    ∙ ap₂ (λ (a b : ℤ). located (point a b)) x.ensures y.ensures
