-- `rounds::finish_of` meets its contract. The invariant: what the rounds to come lead to, the model's rounds lead to from the start.
use native.Mathlib.Omega.{arith}
use Rattle.rounds.proofs.Run.{running_start, running_less, running_more, running_end}
use Rattle.rounds.proofs.finish_of.Goals as goal

pub loop-next-init : goal.loop-next-init
loop-next-init c = running_start _ c.args.w c.requires.valid c.requires.tail_le_longest_tail

pub loop-next-smaller : goal.loop-next-smaller
loop-next-smaller c = omega (arith, running_less _ c.args.w c.loop-next.at _ c.loop-next.invariant c.in-Some.next c.in-Some.ensures)

pub loop-next-preserved : goal.loop-next-preserved
loop-next-preserved c = running_more _ c.args.w c.loop-next.at _ c.loop-next.invariant c.in-Some.next c.in-Some.ensures

pub returns : goal.returns
returns c = running_end _ c.args.w c.loop-next.at _ c.loop-next.invariant c.requires.valid c.in_default.ensures
