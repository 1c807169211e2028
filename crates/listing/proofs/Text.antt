-- The text of a deck by whether it is sound, and the listing of a deck in working form from its four parts.
use mathlib.Core.Path.{◌≡◌, refl, sym, ap}
use mathlib.Core.Bool.{Bool, true}
use mathlib.Core.List.{List, ◌++◌}
use Prim.Native.Nat.{ℕ}
use lib.ListN.{get_or}
use Rattle.arrays.specs.Test.{if}
use Rattle.arrays.specs.Paste.{Pasted}
use Rattle.arrays.proofs.paste.Parts.{pasted_same}
use Rattle.model.specs.Question as question
use Rattle.model.specs.Contents.{Contents}
use Rattle.model.specs.Call.{run_to_end, step}
use Rattle.model.specs.File.{deck, refusal, read_file}
use Rattle.model.specs.KindLength.{kind_lengths}
use Rattle.model.specs.Listing.{deck_word, kinds_word, numbers_line, listing, tap_lines, run_lines, refused_line, listing_of_file}
use Rattle.working.specs.declared.deck.WorkingDeck.{WorkingDeck}
use Rattle.working.specs.InOrder as work
use Rattle.working.specs.WorkingDeck as workingDeck
use Rattle.deck.specs.declared.Deck.{Deck}
use Rattle.deck.specs.Form.{contents_of, sound}
use Rattle.measures.specs.declared.Measures.{Measures}
use Rattle.measures.specs.Measures.{measures_of}
use Rattle.listing.specs.Whole.{deck_text}

pub text-sound : (d : Deck) → sound d ≡ true → listing (contents_of d) ≡ deck_text d
text-sound d e = ap (λ (b : Bool). if b (λ _. listing (contents_of d)) (λ _. refused_line 11)) (sym e)

-- The head line and the line of kinds, by what was measured.
abbrev head_text : Measures → List ℕ
head_text m = numbers_line deck_word m.pins m.steiner m.length

abbrev kinds_text : List ℕ → List ℕ
kinds_text l = numbers_line kinds_word (get_or l 0 0) (get_or l 1 0) (get_or l 2 0)

pub listing-put : (d : WorkingDeck) (m : Measures) (l : List ℕ) → m ≡ measures_of (workingDeck.contents_of d) → l ≡ kind_lengths (workingDeck.contents_of d)
    → {old new : List ℕ} {at r : ℕ}
    → (let s = work.state_of d.form in Pasted (head_text m ++ (kinds_text l ++ (tap_lines s.steiner ++ run_lines d.tail (question.listed s)))) old new at r)
    → Pasted (listing (workingDeck.contents_of d)) old new at r
unfolding listing
listing-put d m l e f =
    let s = work.state_of d.form in
    pasted_same (λ i. head_text (e i) ++ (kinds_text (f i) ++ (tap_lines s.steiner ++ run_lines d.tail (question.listed s))))

-- The text of a file, by what reading it gives.
pub text-refused : (b : List ℕ) (n : ℕ) → read_file b ≡ refusal n → refused_line n ≡ listing_of_file b
unfolding listing_of_file
text-refused b n e = rw e refl

pub text-deck : (b : List ℕ) (c : Contents) → read_file b ≡ deck c → listing (step c run_to_end).next ≡ listing_of_file b
unfolding listing_of_file
text-deck b c e = rw e refl
