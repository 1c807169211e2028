-- `questions::degree_at` meets its contract: no point is held out of range, and in range the edges at the code are counted.
use mathlib.Core.Path.{ap, ◌∙◌}
use Rattle.plane.specs.Point.{Point}
use Rattle.working.specs.WorkingDeck.{contents_of}
use Rattle.working.proofs.InOrder.{arranged-placed}
use Rattle.plane.proofs.codes.Points.{read-located, out-located, located_is}
use Rattle.questions.specs.declared.Answer.TheVariants.{Degree}
use Rattle.questions.specs.Answers.{degree_answer}
use Rattle.questions.proofs.Answers.{none_beyond}
use Rattle.questions.proofs.degree_at.Goals as goal

pub degree_of-requires : goal.degree_of-requires
degree_of-requires c = record {
  t = (located_is _ _ (read-located _ _ _ c.ranges.x c.ranges.y c.locate.ensures ∙ c.in-Some.is)).1;
}

pub returns-in-None : goal.returns-in-None
returns-in-None c = let out = read-located _ _ _ c.ranges.x c.ranges.y c.locate.ensures ∙ c.in-None.is in
    ap Degree (none_beyond (contents_of c.args.d) (arranged-placed _ c.args.d.form.in_order.arranged) _ (out-located _ out))

pub returns-in-Some : goal.returns-in-Some
returns-in-Some c = let there = read-located _ _ _ c.ranges.x c.ranges.y c.locate.ensures ∙ c.in-Some.is in
    ap Degree c.degree_of.ensures ∙ ap (λ (p : Point). degree_answer p (contents_of c.args.d)) (located_is _ _ there).0
