-- The claims on a text of coordinates as a whole (SPEC 9.7), on what is printed for it (`packed`).
use Rattle.std.specs.Prelude.{◌≡◌, ◌↔◌, ◌⊎◌, ℕ, suc, ◌+◌, ltb, length, Some}
use mathlib.Core.List.{List, [], ◌∷◌, ◌++◌, Memᴰ, Permᴰ}
use Rattle.arrays.specs.Set.{Each}
use Rattle.arrays.specs.Test.{if}
use Rattle.model.specs.Contents.{Contents, empty_contents}
use Rattle.model.specs.Call.{Call, add, done, refused, step, contents_after}
use Rattle.model.specs.File.{deck, plain_file_of, read_file}
use Rattle.lines.specs.Lines.{all_lines, last_line, taken_all, state_after}
use Rattle.pin_line.specs.declared.PinLine.{PinLine}
use Rattle.pin_line.specs.declared.PinLine.TheVariants as pin_line
use Rattle.pin_line.specs.PinLines.{pin_line_of}
use Rattle.packing.specs.declared.Fault.{Fault}
use Rattle.packing.specs.declared.Fault.TheVariants.{Error, Refused}
use Rattle.packing.specs.Packing.{most_lines, nothing_packed, pack_line}
use Rattle.packing.specs.Printed.{fault_text, packed_file, packed}

-- The call of a line that names a pin, and those of lines, in their order.
abbrev pub call_of : PinLine → List Call
call_of pin_line.Passed = []
call_of pin_line.Error = []
call_of (pin_line.Pin x y kind) = add (record { x = x; y = y }) kind ∷ []

abbrev pub calls_of : List (List ℕ) → List Call
calls_of [] = []
calls_of (l ∷ ls) = call_of (pin_line_of l) ++ calls_of ls

-- Every one of these calls is done, each on what those before leave.
abbrev pub AllDone : Contents → List Call → Type 0
AllDone c [] = Unit {0}
AllDone c (k ∷ ks) = ((step c k).reply ≡ done) × AllDone (step c k).next ks

-- Lines without a fault: each is one of these lines, and every pin is added.
pub record Faultless (c : Contents) (lines : List (List ℕ)) : Type 0 where
  pub known : Each (λ (l : List ℕ). ¬ (pin_line_of l ≡ pin_line.Error)) lines
  pub added : AllDone c (calls_of lines)

-- The number of the line behind k lines, counted from 1; it stops at 2^64 - 1.
abbrev pub number_behind : ℕ → ℕ
number_behind k = if (ltb k most_lines) (λ _. suc k) (λ _. most_lines)

-- The pin of a line is refused by m on the contents c.
abbrev pub PinRefused : Contents → List ℕ → ℕ → Type 0
PinRefused c line m = (k : Call) × (call_of (pin_line_of line) ≡ k ∷ []) × ((step c k).reply ≡ refused m)

-- The first of these lines that has a fault, which is f: those before it have none, and it is none of these lines, or its pin is refused on what
-- those before leave. Its number counts k lines more.
pub record FirstFault (c : Contents) (k : ℕ) (lines : List (List ℕ)) (f : Fault) : Type 0 where
  pub before : List (List ℕ)
  pub line : List ℕ
  pub after : List (List ℕ)
  pub parts : lines ≡ before ++ (line ∷ after)
  pub good : Faultless c before
  pub why : ((pin_line_of line ≡ pin_line.Error) × (f ≡ Error (number_behind (k + length before))))
      ⊎ ((m : ℕ) × PinRefused (contents_after c (calls_of before)) line m × (f ≡ Refused (number_behind (k + length before)) m))

-- An input without a fault: on standard output the plain file of the deck of its pins, added in the order of their lines, which is read back as that
-- deck; nothing on standard error.
pub record Whole (input : List ℕ) : Type 0 where
  pub good : Faultless empty_contents (all_lines input)
  pub out : (packed input).out ≡ plain_file_of (contents_after empty_contents (calls_of (all_lines input)))
  pub back : read_file (packed input).out ≡ deck (contents_after empty_contents (calls_of (all_lines input)))
  pub err : (packed input).err ≡ []

-- One with a fault: nothing on standard output, and on standard error the line of the first.
pub record Stopped (input : List ℕ) : Type 0 where
  pub fault : Fault
  pub first : FirstFault empty_contents 0 (all_lines input) fault
  pub out : (packed input).out ≡ []
  pub err : (packed input).err ≡ fault_text (Some fault)

-- The claim.
abbrev pub InputPacked : Type 0
InputPacked = (input : List ℕ) → Whole input ⊎ Stopped input

-- The bytes of an input taken one after the other, and then what stands behind the last line feed, lead to what is printed.
abbrev pub InputTaken : Type 0
InputTaken =
    (input : List ℕ) → let r = taken_all pack_line (record { state = nothing_packed; line = [] }) input in
    let p = state_after pack_line r.state (last_line r.line) in
    packed input ≡ record { out = packed_file p; err = fault_text p.fault }

-- Two inputs without a fault whose lines name the same pins, each with the same kind, have the same file.
abbrev pub SamePins : Type 0
SamePins =
    (a b : List ℕ) → Whole a → Whole b → ((k : Call) → Memᴰ k (calls_of (all_lines a)) ↔ Memᴰ k (calls_of (all_lines b)))
    → (packed a).out ≡ (packed b).out

-- The order of the lines does not matter: of two inputs with the same lines in another order both have a fault or neither, and what is on standard
-- output is the same.
abbrev pub AnyOrder : Type 0
AnyOrder = (a b : List ℕ) → Permᴰ (all_lines a) (all_lines b) → (Whole a ↔ Whole b) × ((packed a).out ≡ (packed b).out)
