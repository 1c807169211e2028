-- What the functions of the reader promise of decks in working form. No demand speaks of these; the contracts and proofs inside do.
use Rattle.std.specs.Prelude.{◌≡◌, true, false, List, ℕ, Option, MatchOption, Result, MatchResult}
use Rattle.arrays.specs.Test.{if}
use Rattle.model.specs.State.{State, max_pins, valid}
use Rattle.model.specs.Contents.{Contents, empty_contents}
use Rattle.model.specs.File.{Read, deck, refusal, file_state, file_contents, holds_deck, shows_kinds, all_kinds}
use Rattle.points.specs.Coded.{padded}
use Rattle.working.specs.declared.Working.{Working}
use Rattle.working.specs.declared.deck.WorkingDeck.{WorkingDeck}
use Rattle.working.specs.InOrder.{InOrder, state_of}
use Rattle.working.specs.WorkingDeck.{contents_of}
use Rattle.calls.specs.declared.Changed.{Changed}
use Rattle.calls.specs.declared.Reply.{Reply}
use Rattle.calls.specs.declared.Reply.TheVariants.{Done, Refused}

-- What a file is taken as: its deck in working form, or the number of the refusal.
abbrev pub TakenAs : Read → Result WorkingDeck ℕ → Type 0
TakenAs r t = MatchResult t (λ w. r ≡ deck (contents_of w)) (λ n. r ≡ refusal n)

-- The contents that reading hands back, and its reply (SPEC 8.1: a refusal gives the empty deck).
unfoldable pub contents_read : Read → Contents
contents_read (deck c) = c
contents_read (refusal n) = empty_contents

unfoldable pub reply_read : Read → Reply
reply_read (deck c) = Done
reply_read (refusal n) = Refused n

-- What reading answers, with the deck that it hands back in working form.
pub record ReadTo (r : Read) (c : Changed) : Type 0 where
  pub in_order : InOrder c.working.form
  pub contents : contents_of c.working ≡ contents_read r
  pub reply : c.reply ≡ reply_read r

-- The working form of the points of a state, where the state is valid.
pub record FormOf (s : State) (w : Working) : Type 0 where
  pub passes : valid s ≡ true
  pub state : state_of w ≡ s

abbrev pub WorkingFor : State → Option Working → Type 0
WorkingFor s r = MatchOption r (valid s ≡ false) (λ w. FormOf s w)

-- The kinds of n pins at the front of an array, where they pass check 15.
abbrev pub KindsFor : List ℕ → ℕ → Option (List ℕ) → Type 0
KindsFor kinds n r = MatchOption r (all_kinds kinds n ≡ false) (λ row. (all_kinds kinds n ≡ true) × (row ≡ padded max_pins kinds))

-- Check 15: what is answered after all others passed.
unfoldable pub kinds_answer : List ℕ → Read
kinds_answer b = if (shows_kinds b) (λ _. deck (file_contents b)) (λ _. refusal 15)

-- Check 6, and then that.
unfoldable pub last_answer : List ℕ → Read
last_answer b = if (holds_deck b (file_state b)) (λ _. kinds_answer b) (λ _. refusal 6)
