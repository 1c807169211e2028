-- A reply or an answer in parts: its kind, three numbers and two points.
use Rattle.std.specs.Prelude.{◌≡◌, List, [], ◌∷◌, ℕ, ℤ, pos, Option, Some, None}
use Rattle.deck.specs.declared.Outcome.{Outcome}
use Rattle.calls.specs.declared.Reply.{Reply}
use Rattle.calls.specs.declared.Reply.TheVariants as reply
use Rattle.columns.specs.declared.Candidate.{Candidate}
use Rattle.questions.specs.declared.Answer.{Answer}
use Rattle.questions.specs.declared.Answer.TheVariants as answer
use Rattle.test_deck.specs.declared.parts.Parts.{Parts}
use Rattle.test_deck.specs.Words.{deck_in}

-- The parts in the caller's arrays.
abbrev pub parts_in : ℕ → List ℕ → List ℤ → Parts
parts_in k n p = record { kind = k; numbers = n; places = p }

-- A kind with one number and no point: zeros behind the number, and for the points.
abbrev pub one_number : ℕ → ℕ → Parts
one_number k n = parts_in k (n ∷ 0 ∷ 0 ∷ []) (pos 0 ∷ pos 0 ∷ pos 0 ∷ pos 0 ∷ [])

-- The number of a reply is that of a refusal, the fall in length or the number of rounds; its point is the new Steiner point.
abbrev pub parts_of_reply : Reply → Parts
parts_of_reply reply.Done = one_number 0 0
parts_of_reply (reply.Refused n) = one_number 1 n
parts_of_reply reply.Finished = one_number 2 0
parts_of_reply (reply.Tap x y fall) = parts_in 3 (fall ∷ 0 ∷ 0 ∷ []) (x ∷ y ∷ pos 0 ∷ pos 0 ∷ [])
parts_of_reply (reply.Rounds n) = one_number 4 n

-- What a column answers: the candidate stands where the first point does, and its saving, which may be negative, where the x of the second does.
abbrev pub parts_of_column : Option Candidate → Parts
parts_of_column None = one_number 12 0
parts_of_column (Some c) = parts_in 11 (0 ∷ 0 ∷ 0 ∷ []) (c.x ∷ c.y ∷ c.saving ∷ pos 0 ∷ [])

-- The numbers of an answer are that of a refusal, a length, a degree, the three counts or the three lengths by kind; its points are the ends of an edge, the
-- lower one first, or what `parts_of_column` says. A refusal has the kind that it has for a reply, and no other answer has a kind of those.
abbrev pub parts_of_answer : Answer → Parts
parts_of_answer (answer.Refused n) = one_number 1 n
parts_of_answer (answer.Length l) = one_number 5 l
parts_of_answer (answer.Counts p s e) = parts_in 6 (p ∷ s ∷ e ∷ []) (pos 0 ∷ pos 0 ∷ pos 0 ∷ pos 0 ∷ [])
parts_of_answer (answer.Edge x y u v l) = parts_in 7 (l ∷ 0 ∷ 0 ∷ []) (x ∷ y ∷ u ∷ v ∷ [])
parts_of_answer answer.NoEdge = one_number 8 0
parts_of_answer (answer.Degree n) = one_number 9 n
parts_of_answer (answer.Kinds a b c) = parts_in 10 (a ∷ b ∷ c ∷ []) (pos 0 ∷ pos 0 ∷ pos 0 ∷ pos 0 ∷ [])
parts_of_answer (answer.Column c) = parts_of_column c

-- The caller's arrays hold an outcome: the next deck, and the reply in its parts.
pub record Holds (o : Outcome) (w kinds : List ℕ) (p : Parts) : Type 0 where
  pub next : deck_in w kinds ≡ o.next
  pub reply : p ≡ parts_of_reply o.reply
