-- Which names a line can have with which numbers (SPEC 9.3), and no others (SPEC 9.5): apart from the definitions, which try the names one after
-- the other.
use Rattle.std.specs.Prelude.{◌≡◌, ◌↔◌, ◌⊎◌, ℕ, T, ℤ, pos, negsuc, Option, None, Some}
use mathlib.Core.List.{List, [], ◌∷◌, Memᴰ}
use Rattle.arrays.specs.Text.{bytes}
use Rattle.arguments.specs.declared.Arguments.{Arguments}
use Rattle.arguments.specs.declared.Arguments.TheVariants.{Zero, One, Two, Three, Four, Five}
use Rattle.words.specs.Hex.{is_hex}
use Rattle.arguments.specs.Arguments.{arguments_of}
use Rattle.commands.specs.declared.Command.TheVariants.{Error, Read, Write, Call, Ask, Direct}
use Rattle.commands.specs.declared.Command.TheVariants as command
use Rattle.commands.specs.declared.Change.TheVariants.{Add, Withdraw, Round, Finish, Tail}
use Rattle.commands.specs.declared.Query.TheVariants.{Length, Counts, Run, Degree, Kinds, Column}
use Rattle.commands.specs.declared.Direction.TheVariants.{Octant, Arrow, Glyph}
use Rattle.commands.specs.Commands.{are_short, of_numbers}
use Rattle.script.specs.Line.{of_words}

-- With these arguments no name but those listed is one.
abbrev pub OnlyNames : List (List ℕ) → Option Arguments → Type 0
OnlyNames names a = (w : List ℕ) → ¬ Memᴰ w names → of_numbers w a ≡ Error

pub record Names : Type 0 where
  -- no number
  pub write : of_numbers (bytes "write") (Some Zero) ≡ Write 856
  pub round : of_numbers (bytes "round") (Some Zero) ≡ Call Round
  pub finish : of_numbers (bytes "finish") (Some Zero) ≡ Call Finish
  pub list : of_numbers (bytes "list") (Some Zero) ≡ command.List
  pub length : of_numbers (bytes "length") (Some Zero) ≡ Ask Length
  pub counts : of_numbers (bytes "counts") (Some Zero) ≡ Ask Counts
  pub kinds : of_numbers (bytes "kinds") (Some Zero) ≡ Ask Kinds
  pub no_number : OnlyNames (bytes "write" ∷ bytes "round" ∷ bytes "finish" ∷ bytes "list" ∷ bytes "length" ∷ bytes "counts" ∷ bytes "kinds" ∷ []) (Some Zero)
  -- one: `write`, `run` and `tail` with one that is not negative
  pub write_into : (n : ℕ) → of_numbers (bytes "write") (Some (One (pos n))) ≡ Write n
  pub run : (n : ℕ) → of_numbers (bytes "run") (Some (One (pos n))) ≡ Ask (Run n)
  pub tail : (n : ℕ) → of_numbers (bytes "tail") (Some (One (pos n))) ≡ Call (Tail n)
  pub glyph : (z : ℤ) → of_numbers (bytes "glyph") (Some (One z)) ≡ Direct (Glyph z)
  pub column : (z : ℤ) → of_numbers (bytes "column") (Some (One z)) ≡ Ask (Column z)
  pub one_number : (z : ℤ) → OnlyNames (bytes "write" ∷ bytes "run" ∷ bytes "tail" ∷ bytes "glyph" ∷ bytes "column" ∷ []) (Some (One z))
  pub one_negative : (n : ℕ) → OnlyNames (bytes "glyph" ∷ bytes "column" ∷ []) (Some (One (negsuc n)))
  -- two
  pub add : (x y : ℤ) → of_numbers (bytes "add") (Some (Two x y)) ≡ Call (Add x y 0)
  pub withdraw : (x y : ℤ) → of_numbers (bytes "withdraw") (Some (Two x y)) ≡ Call (Withdraw x y)
  pub degree : (x y : ℤ) → of_numbers (bytes "degree") (Some (Two x y)) ≡ Ask (Degree x y)
  pub octant : (x y : ℤ) → of_numbers (bytes "octant") (Some (Two x y)) ≡ Direct (Octant x y)
  pub two_numbers : (x y : ℤ) → OnlyNames (bytes "add" ∷ bytes "withdraw" ∷ bytes "degree" ∷ bytes "octant" ∷ []) (Some (Two x y))
  -- three: `add` with a kind that is not negative
  pub add_kind : (x y : ℤ) (k : ℕ) → of_numbers (bytes "add") (Some (Three x y (pos k))) ≡ Call (Add x y k)
  pub three_numbers : (x y z : ℤ) → OnlyNames (bytes "add" ∷ []) (Some (Three x y z))
  pub three_negative : (x y : ℤ) (n : ℕ) → OnlyNames [] (Some (Three x y (negsuc n)))
  -- four
  pub four_numbers : (x y u v : ℤ) → OnlyNames [] (Some (Four x y u v))
  -- five: `arrow`, the first four of 16 bits
  pub arrow : (x y u v pitch : ℤ) → T (are_short x y u v) → of_numbers (bytes "arrow") (Some (Five x y u v pitch)) ≡ Direct (Arrow x y u v pitch)
  pub arrow_beyond : (x y u v pitch : ℤ) → ¬ T (are_short x y u v) → OnlyNames [] (Some (Five x y u v pitch))
  pub five_numbers : (x y u v pitch : ℤ) → OnlyNames (bytes "arrow" ∷ []) (Some (Five x y u v pitch))
  -- a word that is no number, or a sixth word
  pub invalid : OnlyNames [] None
  -- a line's words: `read` with one word that is a file, or another name with the numbers behind it
  pub nothing : of_words [] ≡ Error
  pub read : (x : List ℕ) → (of_words (bytes "read" ∷ x ∷ []) ≡ Read) ↔ ((x ≡ bytes "-") ⊎ T (is_hex x))
  pub named : (w : List ℕ) (l : List (List ℕ)) → ¬ (w ≡ bytes "read") → of_words (w ∷ l) ≡ of_numbers w (arguments_of l)
