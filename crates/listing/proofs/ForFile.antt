-- What is printed for a file, by whether there is room, and by what reading it gave.
use Rattle.std.specs.Prelude.{Ok, Err}
use mathlib.Core.Path.{◌≡◌, sym, ap}
use mathlib.Core.List.{List}
use Prim.Native.Nat.{ℕ, ◌≤◌, ◌<◌}
use native.Mathlib.Omega.{arith}
use lib.ListN.{length}
use Rattle.arrays.specs.Paste.{Pasted}
use Rattle.arrays.proofs.paste.Parts.{pasted_same}
use Rattle.model.specs.Contents.{Contents}
use Rattle.model.specs.File.{Read, deck, refusal}
use Rattle.model.specs.Listing.{refused_line}
use Rattle.ascii.specs.Text.{fitting}
use Rattle.ascii.proofs.Room.{front_none, front-put, front_fits}
use Rattle.ascii.specs.Line.{line_room}
use Rattle.listing.specs.Printed.{is_refused, printed_text, Prints}

module _ (room : ℕ) (text : Contents → List ℕ) (read : Read) (before : List ℕ) where
  -- No room.
  pub prints_none : length before < room → Prints room text read before before (Ok 0)
  prints_none h = record { stream = λ k. absurd (omega arith); put = front_none room before (printed_text text read) h }

  -- The line of a refusal, for which there is room too.
  pub prints_refusal : (n : ℕ) {after : List ℕ} {r : ℕ} → read ≡ refusal n → room ≤ length before → line_room ≤ room
      → Pasted (fitting line_room before (refused_line n)) before after 0 r → Prints room text read before after (Err r)
  prints_refusal n {after} {r} e h k p =
      record {
        stream = λ _. sym (ap is_refused e);
        put =
            front-put room before after (printed_text text read) r h
            (pasted_same (sym (ap (printed_text text) e)) (front_fits line_room before after (refused_line n) r (omega arith) p));
      }

  -- The text of a deck.
  pub prints_deck : (c : Contents) {after : List ℕ} {r : ℕ} → read ≡ deck c → Pasted (fitting room before (text c)) before after 0 r
      → Prints room text read before after (Ok r)
  prints_deck c e p =
      record { stream = λ _. sym (ap is_refused e); put = pasted_same (ap (λ (d : Read). fitting room before (printed_text text d)) (sym e)) p }
