-- The claim on lists of calls in bytes: that of every entry, at the calls that the bytes say.
use mathlib.Core.List.{List}
use Prim.Native.Nat.{ℕ}
use Rattle.model.proofs.FileAnswer.{possible_valid}
use Rattle.deckfile.proofs.answer.Entry.{entered, answer-read}
use Rattle.replay.specs.Calls.{calls_of, start_of}
use Rattle.replay.specs.Claim.{Replayed}
use Rattle.replay.proofs.FirstDeck.{start_possible}

pub replayed : (b calls l : List ℕ) → Replayed b calls l
replayed b calls l =
    record {
      entered = entered (start_of b) (start_possible b) (calls_of calls) l;
      back = λ c e. answer-read c (possible_valid (start_of b) (start_possible b) c e) (calls_of calls);
    }
