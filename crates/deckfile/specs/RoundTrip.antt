-- The claims on files as a whole, on what `read` answers (`reading`) and what `write` answers and leaves (`written`, `buffer_after`).
use Rattle.std.specs.Prelude.{◌≡◌, ◌⊎◌, ◌↔◌, not, ℕ, Ok, ◌≤◌, ◌<◌, T, length, take, drop}
use mathlib.Core.List.{List, ◌++◌, Memᴰ}
use Rattle.plane.specs.Point.{Point}
use Rattle.model.specs.Contents.{kind_at}
use Rattle.model.specs.Sections.{section_count}
use Rattle.model.specs.File.{plain}
use Rattle.deck.specs.declared.Deck.{Deck}
use Rattle.deck.specs.Form.{contents_of, state_of, without_tail, Sound}
use Rattle.deckfile.specs.Reading.{reading, accepted_deck}
use Rattle.deckfile.specs.Writing.{written, buffer_after}

-- The deck that reading hands back is sound, whatever the bytes are (SPEC 7.4, 8.1).
abbrev pub ReadSound : Type 0
ReadSound = (b : List ℕ) → Sound (reading b).next

-- It has no tails, whatever the bytes are (SPEC 7.6).
abbrev pub ReadUntailed : Type 0
ReadUntailed = (b : List ℕ) → (reading b).next.tail ≡ 0

-- Every sound deck can be written into a buffer of 856 bytes, and what is written has 30 bytes at least (SPEC 7.5, 10.1).
pub record Fits (d : Deck) (l : List ℕ) : Type 0 where
  pub size : ℕ
  pub least : 30 ≤ size
  pub most : size ≤ 856
  pub answer : written d l ≡ Ok size

abbrev pub SoundFits : Type 0
SoundFits = (d : Deck) (l : List ℕ) → Sound d → 856 ≤ length l → Fits d l

-- What was written, read again, is the same deck but for its tail, which is 0 (SPEC 7.6).
abbrev pub WrittenRead : Type 0
WrittenRead = (d : Deck) (l : List ℕ) (n : ℕ) → written d l ≡ Ok n → reading (take n (buffer_after d l)) ≡ accepted_deck (without_tail d)

-- A full file read is written back the same, byte for byte; so is one of 0 or 1 pin, which is full and plain at once (SPEC 7.4, 7.6).
abbrev pub FullWrittenBack : Type 0
FullWrittenBack =
    (b : List ℕ) (d : Deck) (l : List ℕ) → ((x : ℕ) → Memᴰ x b → x < 256) → reading b ≡ accepted_deck d
    → T (not (plain b)) ⊎ (d.points.npins ≤ 1) → length b ≤ length l → (written d l ≡ Ok (length b)) × (buffer_after d l ≡ b ++ drop (length b) l)

-- Any other file read, which is plain, is written full, with every run (SPEC 7.5).
abbrev pub PlainWrittenFull : Type 0
PlainWrittenFull =
    (b : List ℕ) (d : Deck) (l : List ℕ) (n : ℕ) → reading b ≡ accepted_deck d → 2 ≤ d.points.npins → written d l ≡ Ok n
    → T (not (plain (take n (buffer_after d l))))

-- A file that is written has four sections exactly if some pin is no sensor, and else three (SPEC 7.8).
pub record SectionsWritten (d : Deck) (file : List ℕ) : Type 0 where
  pub four : (section_count file ≡ 4) ↔ ((p : Point) × Memᴰ p (state_of d).pins × ¬ (kind_at (contents_of d) p ≡ 0))
  pub otherwise : (section_count file ≡ 3) ⊎ (section_count file ≡ 4)

abbrev pub WrittenSections : Type 0
WrittenSections = (d : Deck) (l : List ℕ) (n : ℕ) → written d l ≡ Ok n → SectionsWritten d (take n (buffer_after d l))
