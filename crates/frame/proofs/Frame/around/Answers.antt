-- `frame::Frame::around` meets its contract: what was found along each axis makes the box.
use mathlib.Core.Path.{ap, ◌∙◌}
use Rattle.plane.specs.Coordinate.{coordinate}
use Rattle.frame.proofs.Box.{box_is}
use Rattle.frame.proofs.Extremes.{least-end, greatest-end}
use Rattle.frame.proofs.Frame.around.Goals as goal

pub returns : goal.returns
returns c =
    let x = c.args.xs.now in
    let y = c.args.ys.now in
    box_is x y c.requires _ _ _ (ap coordinate c.unwrap_or-left.ensures ∙ least-end x _ c.least.ensures.bound c.least.ensures.member)
    (ap coordinate c.unwrap_or-right.ensures ∙ greatest-end x _ c.greatest.ensures.bound c.greatest.ensures.member)
    (ap coordinate c.unwrap_or-bottom.ensures ∙ least-end y _ c.least-2.ensures.bound c.least-2.ensures.member)
    (ap coordinate c.unwrap_or-top.ensures ∙ greatest-end y _ c.greatest-2.ensures.bound c.greatest-2.ensures.member)
    c.apart.ensures c.apart-2.ensures
