-- `calls::round` meets its contract, by that of `rounds::round_of`.
use lib.IntN.{ℤ}
use borrow.Author.Rules.{rules}
use Rattle.arrays.proofs.Signed.{read_two}
use Rattle.calls.specs.declared.Reply.TheVariants.{Tap}
use Rattle.calls.proofs.RoundCalls.{round_finished, round_added}
use Rattle.calls.proofs.round.Goals as goal

pub returns-in-None : goal.returns-in-None
returns-in-None c = round_finished c.args.d c.requires.valid_contents c.in-None.ensures

pub returns-in-Some : goal.returns-in-Some
returns-in-Some c = let r = c.in-Some.next in
    round_added c.args.d c.requires.valid_contents r c.in-Some.ensures _
    (read_two (λ (x y : ℤ). Tap x y r.fall) r.x r.y (search rules) (search rules))
