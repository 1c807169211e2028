-- What the model replied, by the program's reply: the program's is made from it, case by case.
use mathlib.Core.Path.{◌≡◌, refl, ap}
use Prim.Native.Nat.{ℕ}
use native.Mathlib.Omega.{arith}
use Rattle.model.specs.Round.{finished, tap}
use Rattle.model.specs.Call as call
use Rattle.calls.specs.declared.Reply.TheVariants as reply
use Rattle.calls.specs.Changes.{reply_of}

pub done-reply : (r : call.Reply) → reply_of r ≡ reply.Done → r ≡ call.done
unfolding reply_of
done-reply call.done e = refl
done-reply (call.refused n) e = let z : ◌≡◌ {A = ℕ} 0 1 = cc in absurd (omega arith)
done-reply (call.answered finished) e = let z : ◌≡◌ {A = ℕ} 0 1 = cc in absurd (omega arith)
done-reply (call.answered (tap p fall)) e = let z : ◌≡◌ {A = ℕ} 0 1 = cc in absurd (omega arith)
done-reply (call.rounds n) e = let z : ◌≡◌ {A = ℕ} 0 1 = cc in absurd (omega arith)

pub refused-reply : (r : call.Reply) (n : ℕ) → reply_of r ≡ reply.Refused n → r ≡ call.refused n
unfolding reply_of
refused-reply call.done n e = let z : ◌≡◌ {A = ℕ} 0 1 = cc in absurd (omega arith)
refused-reply (call.refused m) n e = let q : m ≡ n = cc in ap call.refused q
refused-reply (call.answered finished) n e = let z : ◌≡◌ {A = ℕ} 0 1 = cc in absurd (omega arith)
refused-reply (call.answered (tap p fall)) n e = let z : ◌≡◌ {A = ℕ} 0 1 = cc in absurd (omega arith)
refused-reply (call.rounds m) n e = let z : ◌≡◌ {A = ℕ} 0 1 = cc in absurd (omega arith)
