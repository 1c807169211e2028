-- The parts of check 11 (SPEC 8.3).
use Rattle.std.specs.Prelude.{◌≡◌, Bool, false, ◌&&◌, T, Option, MatchOption}
use Rattle.model.specs.State.{valid}
use Rattle.points.specs.declared.Points.{Points}
use Rattle.points.specs.Coded.{arranged, state_of}
use Rattle.working.specs.declared.Working.{Working}
use Rattle.working.specs.declared.deck.WorkingDeck.{WorkingDeck}
use Rattle.working.specs.InOrder as work
use Rattle.deck.specs.declared.Deck.{Deck}

-- Points are those of a valid state.
abbrev pub valid_points : Points → Bool
valid_points q = arranged q && valid (state_of q)

-- The working form w of points of which a test holds.
pub record FormOf (test : Bool) (q : Points) (w : Working) : Type 0 where
  pub holds : T test
  pub in_order : work.InOrder w
  pub same : w.points ≡ q

-- What a test of points answers: their working form where the test holds, else none.
abbrev pub Forms : Bool → Points → Option Working → Type 0
Forms test q r = MatchOption r (test ≡ false) (FormOf test q)

-- The deck w in working form of a deck of which a test holds.
pub record WorkingOf (test : Bool) (d : Deck) (w : WorkingDeck) : Type 0 where
  pub holds : T test
  pub in_order : work.InOrder w.form
  pub points : w.form.points ≡ d.points
  pub kinds : w.kinds ≡ d.kinds
  pub tail : w.tail ≡ d.tail

-- What a test of a deck answers: the deck in working form where the test holds, else none.
abbrev pub Checks : Bool → Deck → Option WorkingDeck → Type 0
Checks test d r = MatchOption r (test ≡ false) (WorkingOf test d)
