-- The struct of a deck (SPEC 5.1) and the contents that it stands for.
use Rattle.std.specs.Prelude.{◌≡◌, Bool, ◌&&◌, ℕ, eqb, take}
use Rattle.arrays.specs.Same.{same_list}
use Rattle.model.specs.State.{State, max_pins}
use Rattle.model.specs.Contents.{Contents, with_kinds, with_tail, ValidContents, valid_contents}
use Rattle.model.specs.Tail.{no_tail}
use Rattle.points.specs.declared.Points.{Points}
use Rattle.points.specs.Coded as coded
use Rattle.edges.specs.Edges.{edge_row}
use Rattle.deck.specs.declared.Deck.{Deck}

-- The deck of contents.
unfoldable pub deck_of : Contents → Deck
deck_of c = record { points = coded.coded c.state; kinds = coded.padded max_pins c.kinds; tail = c.tail; ends = edge_row c.state }

-- The contents of a deck, and its pins and taps among them. It has as many kinds as pins.
abbrev pub contents_of : Deck → Contents
contents_of d = with_tail d.tail (with_kinds (coded.state_of d.points) (take d.points.npins d.kinds))

abbrev pub state_of : Deck → State
state_of d = (contents_of d).state

-- A deck with another tail, and every other place as it is; and one without tails.
abbrev pub tailed_deck : Deck → ℕ → Deck
tailed_deck d tail = record { points = d.points; kinds = d.kinds; tail = tail; ends = d.ends }

abbrev pub without_tail : Deck → Deck
without_tail d = tailed_deck d no_tail

-- A sound deck (SPEC 5.2): it is the deck of valid contents, in every place.
pub record Sound (d : Deck) : Type 0 where
  pub valid : ValidContents (contents_of d)
  pub same : d ≡ deck_of (contents_of d)

-- Whether two decks are the same in every place.
abbrev pub same_points : Points → Points → Bool
same_points q r =
    same_list q.pins r.pins
    && (eqb q.npins r.npins && (same_list q.steiner r.steiner && eqb q.nsteiner r.nsteiner))

abbrev pub same_deck : Deck → Deck → Bool
same_deck d e =
    same_points d.points e.points && (same_list d.kinds e.kinds && (eqb d.tail e.tail && same_list d.ends e.ends))

-- Soundness as a test (check 11, SPEC 8.3).
unfoldable pub sound : Deck → Bool
sound d = valid_contents (contents_of d) && same_deck d (deck_of (contents_of d))
