-- What writing a deck answers, and what it leaves in the buffer (SPEC 8.4).
use Rattle.std.specs.Prelude.{List, ◌++◌, ℕ, Result, Ok, Err, leb, length, drop}
use Rattle.arrays.specs.Test.{if}
use Rattle.model.specs.Contents.{Contents}
use Rattle.model.specs.File.{file_of}
use Rattle.deck.specs.declared.Deck.{Deck}
use Rattle.deck.specs.Form.{contents_of, sound}

-- Putting the file of the contents c into the buffer l: refused by 12 where the buffer is shorter, else what `done` says of the file.
abbrev pub stored : {A : Type 0} → Contents → List ℕ → (ℕ → A) → (List ℕ → A) → A
stored c l refused done =
    let file = file_of c in
    if (leb (length file) (length l)) (λ _. done file) (λ _. refused 12)

-- What is answered then, and what the buffer holds: the file in front and the rest as it was; a refusal keeps every byte.
abbrev pub stored_answer : Contents → List ℕ → Result ℕ ℕ
stored_answer c l = stored c l Err (λ file. Ok (length file))

abbrev pub stored_buffer : Contents → List ℕ → List ℕ
stored_buffer c l = stored c l (λ _. l) (λ file. file ++ drop (length file) l)

-- Writing d into the buffer l: refused by 11 where the deck is not sound, before all else.
unfoldable pub written : Deck → List ℕ → Result ℕ ℕ
written d l = if (sound d) (λ _. stored_answer (contents_of d) l) (λ _. Err 11)

unfoldable pub buffer_after : Deck → List ℕ → List ℕ
buffer_after d l = if (sound d) (λ _. stored_buffer (contents_of d) l) (λ _. l)
