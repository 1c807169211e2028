-- One column by itself (SPEC 4.9), as claims on what a sound deck answers, and rounds by the answers of the columns.
use Rattle.std.specs.Prelude.{◌≡◌, ◌⊎◌, ◌↔◌, ℕ, T, ℤ, pos, Some, None}
use Rattle.std.specs.Int.Signed.{lt_z}
use Rattle.plane.specs.Point.{Point, point}
use Rattle.model.specs.State.{points}
use Rattle.model.specs.Choice as model
use Rattle.model.specs.Call as call
use Rattle.columns.specs.Column.{ChosenAt, Columns}
use Rattle.calls.specs.declared.Reply.TheVariants as reply
use Rattle.questions.specs.declared.Answer.TheVariants.{Column}
use Rattle.questions.specs.Answers.{of_column}
use Rattle.deck.specs.declared.Deck.{Deck}
use Rattle.deck.specs.Form.{state_of}
use Rattle.deck.specs.Calls.{called}
use Rattle.deck.specs.Questions.{asked}

-- The column x of a deck names (u, y), which saves v.
abbrev pub Names : Deck → ℤ → ℤ → ℤ → ℤ → Type 0
Names d x u y v = asked d (of_column x) ≡ Column (Some (record { x = u; y = y; saving = v }))

pub record DeckColumns (d : Deck) : Type 0 where
  -- it names a point with a number exactly if that is the candidate chosen among those with its x, and the number its saving, tails counted
  pub names : (x u y v : ℤ)
      → Names d x u y v ↔ (ChosenAt d.tail (points (state_of d)) x (point u y) × (v ≡ model.saved d.tail (points (state_of d)) (point u y)))
  -- it names none exactly if no candidate has that x
  pub empty : (x : ℤ) → (asked d (of_column x) ≡ Column None) ↔ ((c : Point) → model.Candidate (points (state_of d)) c → ¬ (c.x ≡ x))
  -- a round is finished exactly if no column names a saving above 0
  pub finished : ((called d call.one_round).reply ≡ reply.Finished) ↔ ((x u y v : ℤ) → Names d x u y v → ¬ T (lt_z (pos 0) v))
  -- the tap of a round is named by its column, with a saving above 0 that none exceeds and that no column further left has too
  pub tap : (x y : ℤ) (fall : ℕ) → (called d call.one_round).reply ≡ reply.Tap x y fall
      → (v : ℤ) × Names d x x y v × T (lt_z (pos 0) v) × ((z u w n : ℤ) → Names d z u w n → ¬ T (lt_z v n) × (n ≡ v → (z ≡ x) ⊎ T (lt_z x z)))
  -- the candidate that a round chooses is the best of the answers of the columns, one after the other
  pub columns : Columns d.tail (points (state_of d))
