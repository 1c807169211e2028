-- What is printed for a text of coordinates (SPEC 9.7).
use Rattle.std.specs.Prelude.{List, [], ◌++◌, ℕ, Option, None, Some}
use Rattle.arrays.specs.Test.{if}
use Rattle.arrays.specs.Text.{bytes}
use Rattle.model.specs.File.{plain_file_of}
use Rattle.model.specs.Listing.{field, decimal, refused_line}
use Rattle.packing.specs.declared.Fault.{Fault}
use Rattle.packing.specs.declared.Fault.TheVariants.{Error, Refused}
use Rattle.packing.specs.Packing.{Packed, has_fault, pack_input}

-- Room for the line of a fault.
abbrev pub fault_room : ℕ
fault_room = 64

-- The line of a fault: `line N: error`, `line N: refused M`.
abbrev pub line_head : ℕ → List ℕ
line_head n = bytes "line" ++ (field (decimal n) ++ bytes ": ")

abbrev pub error_at : ℕ → List ℕ
error_at n = line_head n ++ bytes "error\n"

abbrev pub refused_at : ℕ → ℕ → List ℕ
refused_at n m = line_head n ++ refused_line m

abbrev pub fault_text : Option Fault → List ℕ
fault_text None = []
fault_text (Some (Error n)) = error_at n
fault_text (Some (Refused n m)) = refused_at n m

-- The plain file of the deck where there is no fault, else nothing.
abbrev pub packed_file : Packed → List ℕ
packed_file p = if (has_fault p.fault) (λ _. []) (λ _. plain_file_of p.contents)

-- Both outputs for an input: standard output and standard error.
pub record Outputs : Type 0 where
  pub out : List ℕ
  pub err : List ℕ

unfoldable pub packed : List ℕ → Outputs
packed input = let p = pack_input input in record { out = packed_file p; err = fault_text p.fault }
