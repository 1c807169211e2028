-- A text of coordinates line by line (SPEC 9.7): the contents of the deck of its pins, how many lines there were, and the first fault.
use Rattle.std.specs.Prelude.{Bool, List, ℕ, ◌+◌, ltb, Option, None, Some, is_some}
use Rattle.arrays.specs.Test.{if}
use Rattle.model.specs.Contents.{Contents, empty_contents}
use Rattle.model.specs.Call.{Call, add, Reply, done, refused, answered, rounds, step}
use Rattle.lines.specs.Lines.{all_lines, state_after}
use Rattle.pin_line.specs.declared.PinLine.{PinLine}
use Rattle.pin_line.specs.declared.PinLine.TheVariants as pin_line
use Rattle.pin_line.specs.PinLines.{pin_line_of}
use Rattle.packing.specs.declared.Fault.{Fault}
use Rattle.packing.specs.declared.Fault.TheVariants.{Error, Refused}

-- What is known of a text after some lines.
pub record Packed : Type 0 where
  pub contents : Contents
  pub lines : ℕ
  pub fault : Option Fault

-- Before the first line.
abbrev pub nothing_packed : Packed
nothing_packed = record { contents = empty_contents; lines = 0; fault = None }

-- The largest number of a line.
abbrev pub most_lines : ℕ
most_lines = 18446744073709551615

-- The number of the line behind n lines.
abbrev pub next_number : ℕ → ℕ
next_number n = if (ltb n most_lines) (λ _. n + 1) (λ _. n)

-- The fault of line n by what its call replies: a refusal (SPEC 8.3).
abbrev pub fault_of : ℕ → Reply → Option Fault
fault_of n done = None
fault_of n (refused m) = Some (Refused n m)
fault_of n (answered a) = None
fault_of n (rounds m) = None

-- A call for line n.
unfoldable pub by_call : ℕ → Contents → Call → Packed
by_call n c k = let o = step c k in record { contents = o.next; lines = n; fault = fault_of n o.reply }

-- What line n asks for: nothing, no pin, or a pin that is added (SPEC 4.2).
unfoldable pub by_pin : ℕ → Contents → PinLine → Packed
by_pin n c pin_line.Passed = record { contents = c; lines = n; fault = None }
by_pin n c pin_line.Error = record { contents = c; lines = n; fault = Some (Error n) }
by_pin n c (pin_line.Pin x y kind) = by_call n c (add (record { x = x; y = y }) kind)

abbrev pub by_line : ℕ → Contents → List ℕ → Packed
by_line n c line = by_pin n c (pin_line_of line)

-- Whether there is a fault.
abbrev pub has_fault : Option Fault → Bool
has_fault f = is_some f

-- One more line. After a fault nothing changes any more.
unfoldable pub pack_line : Packed → List ℕ → Packed
pack_line p line = if (has_fault p.fault) (λ _. p) (λ _. by_line (next_number p.lines) p.contents line)

-- The lines of an input, from the first on.
unfoldable pub pack_input : List ℕ → Packed
pack_input input = state_after pack_line nothing_packed (all_lines input)
