-- `questions::answer_of` meets its contract: the coordinates of the two codes.
use mathlib.Core.Path.{ap, ◌∙◌}
use mir.Syntax.{w32}
use mir.ValLaws.{to_z-of_z}
use Rattle.plane.specs.Coordinate.{coordinate}
use Rattle.questions.specs.declared.Answer.TheVariants.{Edge}
use Rattle.questions.proofs.answer_of.Goals as goal

pub returns : goal.returns
returns c = let signed-v = c.to_signed-v in
    let signed-u = c.to_signed-u in
    let signed-y = c.to_signed-y in
    let signed-x = c.to_signed-x in
    let x = to_z-of_z w32 _ (record { sfits = signed-x.type_inv }) ∙ signed-x.ensures ∙ ap coordinate c.x_of.ensures in
    let y = to_z-of_z w32 _ (record { sfits = signed-y.type_inv }) ∙ signed-y.ensures ∙ ap coordinate c.y_of.ensures in
    let u = to_z-of_z w32 _ (record { sfits = signed-u.type_inv }) ∙ signed-u.ensures ∙ ap coordinate c.x_of-2.ensures in
    let v = to_z-of_z w32 _ (record { sfits = signed-v.type_inv }) ∙ signed-v.ensures ∙ ap coordinate c.y_of-2.ensures in
    λ i. Edge (x i) (y i) (u i) (v i) c.args.e.length
