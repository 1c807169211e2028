-- A deck as words, part behind part, and the kinds of its pins.
use Rattle.std.specs.Prelude.{List, ◌∷◌, ◌++◌, ℕ, ◌+◌, take, drop, get_or}
use Rattle.deck.specs.declared.Deck.{Deck}

-- How many words there are for pins, for Steiner points and for the ends of edges.
abbrev pub pin_places : ℕ
pin_places = 64

abbrev pub steiner_places : ℕ
steiner_places = 128

abbrev pub end_places : ℕ
end_places = 128

-- The word with the number of pins, the first of the Steiner points, that with their number, and the first of the ends: each behind the part
-- in front of it, and the pins first. The number of all words.
abbrev pub pin_count_word : ℕ
pin_count_word = pin_places

abbrev pub steiner_word : ℕ
steiner_word = pin_count_word + 1

abbrev pub steiner_count_word : ℕ
steiner_count_word = steiner_word + steiner_places

abbrev pub tail_word : ℕ
tail_word = steiner_count_word + 1

abbrev pub ends_word : ℕ
ends_word = tail_word + 1

abbrev pub word_count : ℕ
word_count = ends_word + end_places

-- The deck that stands in the words and the kinds.
abbrev pub deck_in : List ℕ → List ℕ → Deck
deck_in w kinds =
    record {
      points = record {
        pins = take pin_places w;
        npins = get_or w pin_count_word 0;
        steiner = take steiner_places (drop steiner_word w);
        nsteiner = get_or w steiner_count_word 0;
      };
      kinds = kinds;
      tail = get_or w tail_word 0;
      ends = take end_places (drop ends_word w);
    }

-- The words of a deck.
abbrev pub words_of : Deck → List ℕ
words_of d = let p = d.points in p.pins ++ p.npins ∷ (p.steiner ++ p.nsteiner ∷ d.tail ∷ d.ends)
