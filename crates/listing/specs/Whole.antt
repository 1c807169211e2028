-- The text of a deck.
use Rattle.std.specs.Prelude.{List, ℕ}
use Rattle.arrays.specs.Test.{if}
use Rattle.model.specs.Listing.{listing, refused_line}
use Rattle.deck.specs.declared.Deck.{Deck}
use Rattle.deck.specs.Form.{contents_of, sound}

-- Room for every listing.
abbrev pub listing_room : ℕ
listing_room = 8704

-- The listing of a deck (SPEC 9.2), or refusal 11 where it is not sound.
abbrev pub deck_text : Deck → List ℕ
deck_text d = if (sound d) (λ _. listing (contents_of d)) (λ _. refused_line 11)
