-- `deck::check::form_of` meets its contract: each part that fails says that the points are not those of a valid state, and all
-- together that they are.
use mathlib.Core.Path.{◌≡◌, sym, ◌∙◌}
use lib.ListN.{length}
use borrow.Author.Rules.{rules}
use Rattle.arrays.proofs.Test.{of_true, false_of}
use Rattle.points.proofs.check.Tests.{passes_arranged}
use Rattle.deck.specs.Check.{valid_points}
use Rattle.deck.proofs.check.Parts.{points-weak, points_pass}
use Rattle.deck.proofs.check.form_of.Goals as goal

pub arrange-w-requires : goal.arrange-w-requires
arrange-w-requires c = let q = c.args.q in
    let h : length q.pins ≡ 64 = search rules in
    let k : length q.steiner ≡ 128 = search rules in
    passes_arranged q h k (of_true (sym c.is_arranged.ensures ∙ c.if-not-is_arranged.false))

pub returns-then-lowest_weak-w : goal.returns-then-lowest_weak-w
returns-then-lowest_weak-w c = false_of (valid_points c.args.q)
    (points-weak _ c.arrange-w.result c.arrange-w.ensures _ c.lowest_weak.ensures c.if-lowest_weak-w.true)

pub returns : goal.returns
returns c = record {
  holds = points_pass _ c.arrange-w.result c.arrange-w.ensures _ c.lowest_weak.ensures c.if-lowest_weak-w.false
      (of_true (sym c.is_arranged.ensures ∙ c.if-not-is_arranged.false));
  in_order = c.arrange-w.result.in_order;
  same = c.arrange-w.ensures;
}
