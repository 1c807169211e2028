-- `test_deck::words::put_deck` meets its contract: the parts are put one behind the other, and read back they are the deck.
-- (must-fail/counts_exchanged.edit changes two lines of it.)
use mathlib.Core.Path.{◌≡◌, ◌∙◌}
use mathlib.Core.List.{List}
use Prim.Native.Nat.{ℕ}
use native.Mathlib.Omega.{arith}
use lib.ListN.{length, set, length-set}
use Rattle.test_deck.specs.Words.{pin_count_word, steiner_count_word, tail_word, word_count, deck_in}
use Rattle.test_deck.proofs.words.Places.{Sized, laid_out_lem, deck_in_words}
use borrow.Author.Rules.{rules}
use Rattle.test_deck.proofs.words.put_deck.Goals as goal

set_twice : (l : List ℕ) (i a j b : ℕ) → length (set (set l i a) j b) ≡ length l
set_twice l i a j b = length-set (set l i a) j b ∙ length-set l i a

pub put_items-requires : goal.put_items-requires
put_items-requires c = let sized : Sized c.args.d = record { pins = search rules; steiner = search rules; ends = search rules } in
    omega (arith, sized.pins)

pub put_items-requires-2 : goal.put_items-requires-2
put_items-requires-2 c = let sized : Sized c.args.d = record { pins = search rules; steiner = search rules; ends = search rules } in
    omega (
      arith,
      sized.steiner,
      length-set c.put_items.new.out pin_count_word c.args.d.points.npins,
      c.put_items.auto.out,
    )

pub put_items-requires-3 : goal.put_items-requires-3
put_items-requires-3 c = let sized : Sized c.args.d = record { pins = search rules; steiner = search rules; ends = search rules } in
    omega (
      arith,
      sized.ends,
      set_twice c.put_items-2.new.out steiner_count_word c.args.d.points.nsteiner tail_word c.args.d.tail,
      c.put_items-2.auto.out,
    )

pub returns : goal.returns
returns c =
    let d = c.args.d in
    let sized : Sized d = record { pins = search rules; steiner = search rules; ends = search rules } in
    let size : length c.args.words.now ≡ word_count = search rules in
    let laid = laid_out_lem d sized size c.put_items.ensures c.put_items-2.ensures c.put_items-3.ensures in
    record { words_after = laid; kinds_after = (λ i. deck_in (laid i) (c.copy_from_slice.ensures.after i)) ∙ deck_in_words d sized }
