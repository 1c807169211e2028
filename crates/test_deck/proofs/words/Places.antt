-- A deck put into the words, part behind part, stands there: read back it is the same deck. By the seams of the lists.
use mathlib.Core.Path.{◌≡◌, sym, ap, ◌∙◌, subst}
use mathlib.Core.List.{List, [], ◌∷◌, ◌++◌, append_assoc, append-nil}
use Prim.Native.Nat.{ℕ, ◌+◌, ◌≤◌}
use native.Mathlib.Omega.{arith}
use lib.ListN.{length, take, drop, get_or, set, length-append}
use lib.Seq.{take_at, take_all, get_or_at, drop-length, drop-append-add, get_or-append-add}
use Rattle.arrays.specs.Paste.{Pasted}
use Rattle.arrays.proofs.paste.Parts.{pasted_one, pasted_then, pasted_length, front_is}
use Rattle.deck.specs.declared.Deck.{Deck}
use Rattle.test_deck.specs.Words.{pin_places, steiner_places, end_places, pin_count_word, steiner_word, steiner_count_word, tail_word, ends_word, word_count}
use Rattle.test_deck.specs.Words.{deck_in, words_of}

-- Items put over a whole array are the array.
whole : {items before after : List ℕ} {r : ℕ} → Pasted items before after 0 r → length before ≡ length items → after ≡ items
whole {items} {before} p h =
    front_is p ∙ ap (λ (k : ℕ). items ++ drop k before) (sym h) ∙ ap (λ (t : List ℕ). items ++ t) (drop-length before) ∙ append-nil items

-- One number behind what stands in the array.
then_one : {items before after : List ℕ} {r : ℕ} (at n : ℕ) → Pasted items before after 0 r → length items ≡ at → at + 1 ≤ length before
    → Pasted (items ++ n ∷ []) before (set after at n) 0 (at + 1)
then_one {items} {before} {after} {r} at n p h b =
    let e : r ≡ at = omega (arith, p.next) in
    let q : Pasted items before after 0 at = subst (λ (k : ℕ). Pasted items before after 0 k) e p in
    pasted_then q (omega arith) (pasted_one after at n (omega (arith, pasted_length q (omega arith))))

-- The arrays of a deck are as long as their types say.
pub record Sized (d : Deck) : Type 0 where
  pub pins : length d.points.pins ≡ pin_places
  pub steiner : length d.points.steiner ≡ steiner_places
  pub ends : length d.ends ≡ end_places

module _ (d : Deck) (sized : Sized d) where
  abbrev p : List ℕ
  p = d.points.pins

  abbrev s : List ℕ
  s = d.points.steiner

  abbrev n : ℕ
  n = d.points.npins

  abbrev m : ℕ
  m = d.points.nsteiner

  abbrev t : ℕ
  t = d.tail

  abbrev rest : List ℕ
  rest = s ++ m ∷ t ∷ d.ends

  drop-pins : (k : ℕ) → drop (pin_places + k) (words_of d) ≡ drop k (n ∷ rest)
  drop-pins k = ap (λ (z : ℕ). drop (z + k) (words_of d)) (sym sized.pins) ∙ drop-append-add p (n ∷ rest) k

  behind_pins : (k : ℕ) → get_or (words_of d) (pin_places + k) 0 ≡ get_or (n ∷ rest) k 0
  behind_pins k = ap (λ (z : ℕ). get_or (words_of d) (z + k) 0) (sym sized.pins) ∙ get_or-append-add p (n ∷ rest) k 0

  drop-steiner : drop (steiner_places + 2) rest ≡ d.ends
  drop-steiner = ap (λ (z : ℕ). drop (z + 2) rest) (sym sized.steiner) ∙ drop-append-add s (m ∷ t ∷ d.ends) 2

  behind_steiner : get_or rest (steiner_places + 1) 0 ≡ t
  behind_steiner = ap (λ (z : ℕ). get_or rest (z + 1) 0) (sym sized.steiner) ∙ get_or-append-add s (m ∷ t ∷ d.ends) 1 0

  -- The words of a deck hold that deck: each part is read from its place.
  pub deck_in_words : deck_in (words_of d) d.kinds ≡ d
  deck_in_words i =
      record {
        points = record {
          pins = take_at p (n ∷ rest) pin_places sized.pins i;
          npins = get_or_at p n rest 0 pin_count_word sized.pins i;
          steiner = (ap (take steiner_places) (drop-pins 1) ∙ take_at s (m ∷ t ∷ d.ends) steiner_places sized.steiner) i;
          nsteiner = (behind_pins (1 + steiner_places) ∙ get_or_at s m (t ∷ d.ends) 0 steiner_places sized.steiner) i;
        };
        kinds = d.kinds;
        tail = (behind_pins (2 + steiner_places) ∙ behind_steiner) i;
        ends = (ap (take end_places) (drop-pins (3 + steiner_places) ∙ drop-steiner) ∙ take_all end_places d.ends (omega (arith, sized.ends))) i;
      }

  -- The parts put one behind the other into an array for all words are the words of the deck.
  pub laid_out_lem : {before a b after : List ℕ} {i j k : ℕ} → length before ≡ word_count → Pasted p before a 0 i
      → Pasted s (set a pin_count_word n) b steiner_word j
      → Pasted d.ends (set (set b steiner_count_word m) tail_word t) after ends_word k → after ≡ words_of d
  laid_out_lem {before} {a} {b} size x y z =
      whole (pasted_then third (omega arith) z)
      (omega (arith, shorter, sized.ends, length-append (p₁ ++ s ++ m ∷ []) (t ∷ []), length-append ((p₁ ++ s ++ m ∷ []) ++ t ∷ []) d.ends))
      ∙ append_assoc (p₁ ++ s ++ m ∷ []) (t ∷ []) d.ends ∙ append_assoc (p₁ ++ s) (m ∷ []) (t ∷ d.ends) ∙ append_assoc p₁ s (m ∷ t ∷ d.ends)
      ∙ append_assoc p (n ∷ []) rest
    where
      p₁ : List ℕ
      p₁ = p ++ n ∷ []

      first : Pasted p₁ before (set a pin_count_word n) 0 steiner_word
      first = then_one pin_count_word n x sized.pins (omega arith)

      short : length (p₁ ++ s) ≡ steiner_count_word
      short = length-append p₁ s ∙ omega (arith, sized.pins, sized.steiner, length-append p (n ∷ []))

      second : Pasted (p₁ ++ s ++ m ∷ []) before (set b steiner_count_word m) 0 tail_word
      second = then_one steiner_count_word m (pasted_then first (omega arith) y) short (omega arith)

      shorter : length (p₁ ++ s ++ m ∷ []) ≡ tail_word
      shorter = length-append (p₁ ++ s) (m ∷ []) ∙ omega (arith, short)

      third : Pasted ((p₁ ++ s ++ m ∷ []) ++ t ∷ []) before (set (set b steiner_count_word m) tail_word t) 0 ends_word
      third = then_one tail_word t second shorter (omega arith)
