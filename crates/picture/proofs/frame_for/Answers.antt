-- `picture::frame_for` meets its contract: the points of a working form are those of its state.
use mathlib.Core.Path.{ap, ◌∙◌}
use native.Mathlib.Omega.{arith}
use Rattle.frame.specs.Frame.{box_of}
use Rattle.picture.proofs.Texts.{points-taken}
use Rattle.picture.proofs.frame_for.Goals as goal

pub returns : goal.returns
returns c =
    let few = c.args.w.in_order.few in
    c.around.ensures ∙ ap box_of (points-taken c.args.w.xs c.args.w.ys c.args.w.npoints (omega arith) (omega arith) ∙ c.args.w.in_order.points)
