-- What the program prints for a file: the line of its refusal, or the listing of its deck after a run to the end.
use mathlib.Core.Path.{◌≡◌, refl, sym, ap, ◌∙◌, subst}
use mathlib.Core.Bool.{Bool}
use mathlib.Core.List.{List, []}
use Prim.Native.Nat.{ℕ, ◌≤◌}
use native.Mathlib.Omega.{arith}
use lib.ListN.{length}
use borrow.Author.Tests.{le-leb}
use Rattle.streams.specs.Counts.{IsPrefixLen}
use Rattle.arrays.specs.Test.{if}
use Rattle.model.specs.Contents.{Contents}
use Rattle.model.specs.Call as call
use Rattle.model.specs.File.{deck, read_file}
use Rattle.model.specs.Listing.{listing, listing_of_file}
use Rattle.arrays.specs.Paste.{Pasted}
use Rattle.ascii.specs.Text.{fitting}
use Rattle.listing.proofs.Text.{text-deck}

-- Nothing is within a slice.
pub none_counted : (l : List ℕ) → IsPrefixLen 0 l
none_counted l = (omega arith, refl)

-- A text that has room for less has room.
pub roomy : (m : ℕ) (before after t u : List ℕ) (r : ℕ) → m ≤ 8704 → 8704 ≤ length before → t ≡ u → Pasted (fitting m before t) before after 0 r
    → Pasted (fitting 8704 before u) before after 0 r
roomy m before after t u r h k e f =
    subst (λ (l : List ℕ). Pasted l before after 0 r)
    (ap (λ (b : Bool). if b (λ _. t) (λ _. [])) (le-leb m (length before) (omega arith) ∙ sym (le-leb 8704 (length before) k)) ∙ ap (fitting 8704 before) e) f

-- What is printed of a deck, after a run to the end.
pub printed_deck : (b : List ℕ) (c d : Contents) → read_file b ≡ deck c → d ≡ (call.step c call.run_to_end).next → listing d ≡ listing_of_file b
printed_deck b c d f e = ap listing e ∙ text-deck b c f
