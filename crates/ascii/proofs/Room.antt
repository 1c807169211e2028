-- A text at the front of a slice where there is room, else nothing. By whether there is room.
use mathlib.Core.Path.{subst, subst⁻¹}
use mathlib.Core.Bool.{Bool}
use mathlib.Core.List.{List, []}
use Prim.Native.Nat.{ℕ, ◌≤◌, ◌<◌}
use native.Mathlib.Omega.{arith}
use lib.ListN.{length}
use borrow.Author.Tests.{le-leb, lt-leb}
use Rattle.arrays.specs.Test.{if}
use Rattle.arrays.specs.Paste.{Pasted}
use Rattle.arrays.proofs.paste.Parts.{front_same}
use Rattle.ascii.specs.Text.{fitting}

-- No room: nothing is written.
pub front_none : (room : ℕ) (before text : List ℕ) → length before < room → Pasted (fitting room before text) before before 0 0
front_none room before text h =
    subst⁻¹ (λ (b : Bool). Pasted (if b (λ _. text) (λ _. [])) before before 0 0) (lt-leb room (length before) h) (front_same 0 before (omega arith))

-- A text at the place 0.
pub front-put : (room : ℕ) (before after text : List ℕ) (r : ℕ) → room ≤ length before → Pasted text before after 0 r
    → Pasted (fitting room before text) before after 0 r
front-put room before after text r h p =
    subst⁻¹ (λ (b : Bool). Pasted (if b (λ _. text) (λ _. [])) before after 0 r) (le-leb room (length before) h)
    p

-- There was room: the text itself stands there.
pub front_fits : (room : ℕ) (before after text : List ℕ) (r : ℕ) → room ≤ length before → Pasted (fitting room before text) before after 0 r
    → Pasted text before after 0 r
front_fits room before after text r h f =
    subst (λ (b : Bool). Pasted (if b (λ _. text) (λ _. [])) before after 0 r) (le-leb room (length before) h) f
