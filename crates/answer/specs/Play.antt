-- What one line of a script does to a deck, and the text of its answer, without a line feed (SPEC 9.3 to 9.5).
use Rattle.std.specs.Prelude.{◌≡◌, List, [], ℕ, ◌≤◌, min, leb, length, take}
use Rattle.arrays.specs.Test.{if}
use Rattle.plane.specs.Point.{point}
use Rattle.model.specs.Call as call
use Rattle.model.specs.File.{file_of}
use Rattle.arrays.specs.Paste.{Pasted}
use Rattle.deck.specs.declared.Deck.{Deck}
use Rattle.deck.specs.declared.Outcome.{Outcome}
use Rattle.questions.specs.declared.Answer.TheVariants as answer
use Rattle.deck.specs.Form.{contents_of, sound}
use Rattle.deck.specs.Calls.{called}
use Rattle.deck.specs.Questions.{asked}
use Rattle.questions.specs.Answers.{Question, of_length, of_counts, of_edge, of_degree, of_kinds, of_column}
use Rattle.deckfile.specs.Reading.{reading}
use Rattle.commands.specs.declared.Change.{Change}
use Rattle.commands.specs.declared.Change.TheVariants as change
use Rattle.commands.specs.declared.Query.{Query}
use Rattle.commands.specs.declared.Query.TheVariants as query
use Rattle.commands.specs.declared.Command.{Command}
use Rattle.commands.specs.declared.Command.TheVariants as command
use Rattle.commands.specs.Commands.{longest_file}
use Rattle.script.specs.Line as script
use Rattle.ascii.specs.Encoding.{file_text, joined_lines}
use Rattle.ascii.specs.Line.{error_word}
use Rattle.replies.specs.Replies.{reply_text, answer_text}
use Rattle.directions.specs.Directions.{direction_text}
use Rattle.listing.specs.Whole.{deck_text}
use Rattle.answer.specs.declared.Played.{Played}

-- Room for any answer.
abbrev pub answer_room : ℕ
answer_room = 26112

-- The deck after a line, and the answer; an empty text is no answer.
pub record Line : Type 0 where
  pub next : Deck
  pub text : List ℕ

-- The deck stays; or it is that of an outcome, and the answer is the line of the reply.
abbrev pub stays : Deck → List ℕ → Line
stays d t = record { next = d; text = t }

abbrev pub changes : Outcome → Line
changes o = record { next = o.next; text = reply_text o.reply }

-- `write CAPACITY`: what writing into a buffer of n bytes answers, with the file that then stands in it.
unfoldable pub write_text : Deck → ℕ → List ℕ
write_text d n =
    let file = file_of (contents_of d) in
    if (sound d)
    (λ _. if (leb (length file) n) (λ _. file_text file) (λ _. answer_text (answer.Refused 12)))
    (λ _. answer_text (answer.Refused 11))

-- The call and the question of a line.
unfoldable pub call_for : Change → call.Call
call_for (change.Add x y kind) = call.add (point x y) kind
call_for (change.Withdraw x y) = call.withdraw (point x y)
call_for change.Round = call.one_round
call_for change.Finish = call.run_to_end
call_for (change.Tail n) = call.set_tail n

unfoldable pub question_for : Query → Question
question_for query.Length = of_length
question_for query.Counts = of_counts
question_for (query.Run i) = of_edge i
question_for (query.Degree x y) = of_degree (point x y)
question_for query.Kinds = of_kinds
question_for (query.Column x) = of_column x

-- What a command asks for. No buffer for a file is longer than the longest file.
unfoldable pub line_of : Deck → List ℕ → Command → Line
line_of d b command.Blank = stays d []
line_of d b command.Error = stays d error_word
line_of d b command.Read = changes (reading (script.file_in_line b))
line_of d b (command.Write n) = stays d (write_text d (min n longest_file))
line_of d b (command.Call c) = changes (called d (call_for c))
line_of d b (command.Ask q) = stays d (answer_text (asked d (question_for q)))
line_of d b (command.Direct q) = stays d (direction_text q)
line_of d b command.List = stays d (joined_lines (deck_text d))

-- What a line does.
abbrev pub played : Deck → List ℕ → Line
played d b = line_of d b (script.command_of b)

-- The answer of a line stands at the front of the slice; the last part follows from the one before it, and spares a caller's slice a proof.
pub record Plays (a : Line) (before after : List ℕ) (r : Played) : Type 0 where
  pub next : r.next ≡ a.next
  pub front : Pasted a.text before after 0 r.size
  pub counts : (r.size ≤ length after) × (r.size ≡ length (take r.size after))
