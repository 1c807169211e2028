-- The command of a name and the numbers behind it (SPEC 9.3, 9.5).
use Rattle.std.specs.Prelude.{Bool, ◌&&◌, List, ℕ, ℤ, pos, negsuc, Option, None, Some}
use Rattle.std.specs.Int.Signed.{le_z}
use Rattle.arrays.specs.Test.{if, if_natural}
use Rattle.commands.specs.declared.Command.{Command}
use Rattle.commands.specs.declared.Command.TheVariants.{Error, Write, Call, Ask, Direct}
use Rattle.commands.specs.declared.Change.TheVariants.{Add, Withdraw, Round, Finish, Tail}
use Rattle.commands.specs.declared.Query.TheVariants.{Length, Counts, Run, Degree, Kinds, Column}
use Rattle.commands.specs.declared.Direction.TheVariants.{Octant, Arrow, Glyph}
use Rattle.commands.specs.declared.Command.TheVariants as command
use Rattle.arguments.specs.declared.Arguments.{Arguments}
use Rattle.arguments.specs.declared.Arguments.TheVariants.{Zero, One, Two, Three, Four, Five}
use Rattle.arrays.specs.Text.{bytes}
use Rattle.arrays.specs.Same.{same_list}

-- The most bytes of a deck file.
abbrev pub longest_file : ℕ
longest_file = 856

-- One word that is a question: `length`, `counts`, `kinds`.
unfoldable pub question_word : List ℕ → Command
question_word w =
    if (same_list w (bytes "length")) (λ _. Ask Length)
    (λ _. if (same_list w (bytes "counts")) (λ _. Ask Counts)
    (λ _. if (same_list w (bytes "kinds")) (λ _. Ask Kinds) (λ _. Error)))

-- One word: `write`, `round`, `finish`, `list`, or a question. The capacity of `write` is then that of the longest file.
unfoldable pub of_one_word : List ℕ → Command
of_one_word w =
    if (same_list w (bytes "write")) (λ _. Write longest_file)
    (λ _. if (same_list w (bytes "round")) (λ _. Call Round)
    (λ _. if (same_list w (bytes "finish")) (λ _. Call Finish)
    (λ _. if (same_list w (bytes "list")) (λ _. command.List) (λ _. question_word w))))

-- A word and a size: `write CAPACITY`, `run I`, `tail T`.
unfoldable pub with_size : List ℕ → ℕ → Command
with_size w n =
    if (same_list w (bytes "write")) (λ _. Write n)
    (λ _. if (same_list w (bytes "run")) (λ _. Ask (Run n))
    (λ _. if (same_list w (bytes "tail")) (λ _. Call (Tail n)) (λ _. Error)))

-- A word and a size, which is not negative.
unfoldable pub with_natural : List ℕ → ℤ → Command
with_natural w = if_natural (with_size w) Error

-- A word and a number: `glyph N`, `column X`, and the commands with a size.
unfoldable pub with_number : List ℕ → ℤ → Command
with_number w i =
    if (same_list w (bytes "glyph")) (λ _. Direct (Glyph i))
    (λ _. if (same_list w (bytes "column")) (λ _. Ask (Column i)) (λ _. with_natural w i))

-- A word and two numbers: `add X Y`, which adds a sensor, `withdraw X Y`, `degree X Y`, `octant DX DY`.
unfoldable pub with_pair : List ℕ → ℤ → ℤ → Command
with_pair w i j =
    if (same_list w (bytes "add")) (λ _. Call (Add i j 0))
    (λ _. if (same_list w (bytes "withdraw")) (λ _. Call (Withdraw i j))
    (λ _. if (same_list w (bytes "degree")) (λ _. Ask (Degree i j))
    (λ _. if (same_list w (bytes "octant")) (λ _. Direct (Octant i j)) (λ _. Error))))

-- A word and three numbers: `add X Y KIND`, of which the third is not negative.
unfoldable pub with_kind : ℤ → ℤ → ℤ → Command
with_kind x y kind = if_natural (λ (k : ℕ). Call (Add x y k)) Error kind

unfoldable pub with_three : List ℕ → ℤ → ℤ → ℤ → Command
with_three w x y kind = if (same_list w (bytes "add")) (λ _. with_kind x y kind) (λ _. Error)

-- A number that 16 bits hold, and four of them.
unfoldable pub is_short : ℤ → Bool
is_short z = le_z (negsuc 32767) z && le_z z (pos 32767)

unfoldable pub are_short : ℤ → ℤ → ℤ → ℤ → Bool
are_short x y u v = (is_short x && is_short y) && (is_short u && is_short v)

-- A word and five numbers: `arrow DISPLAYX DISPLAYY BAYX BAYY PITCH`, of which the first four are of 16 bits.
unfoldable pub with_places : ℤ → ℤ → ℤ → ℤ → ℤ → Command
with_places x y u v pitch = if (are_short x y u v) (λ _. Direct (Arrow x y u v pitch)) (λ _. Error)

unfoldable pub with_five : List ℕ → ℤ → ℤ → ℤ → ℤ → ℤ → Command
with_five w x y u v pitch = if (same_list w (bytes "arrow")) (λ _. with_places x y u v pitch) (λ _. Error)

-- A name and the numbers behind it, if they are numbers and five at most; no name has four.
unfoldable pub of_numbers : List ℕ → Option Arguments → Command
of_numbers w (Some Zero) = of_one_word w
of_numbers w (Some (One i)) = with_number w i
of_numbers w (Some (Two i j)) = with_pair w i j
of_numbers w (Some (Three i j k)) = with_three w i j k
of_numbers w (Some (Four i j k l)) = Error
of_numbers w (Some (Five i j k l m)) = with_five w i j k l m
of_numbers w None = Error
