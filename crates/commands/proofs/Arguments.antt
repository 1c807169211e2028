-- Numbers of 16 bits.
use mathlib.Core.Path.{◌≡◌, refl}
use native.Mathlib.Omega.{arith}
use lib.Dec.{T, leb→le}
use lib.IntN.{ℤ, pos, negsuc}
use lib.Signed.{le_z}
use mir.Syntax.{w16}
use mir.Val.{SFits}
use Rattle.arrays.proofs.Test.{and_parts, false_of}
use Rattle.commands.specs.declared.Command.TheVariants.{Error}
use Rattle.commands.specs.Commands.{is_short, are_short, with_places}

-- A number that 16 bits hold fits them.
is_short-fits : (z : ℤ) → T (is_short z) → SFits w16 z
unfolding is_short
is_short-fits (pos n) t = record { sfits = omega (arith, leb→le n 32767 (and_parts (le_z (negsuc 32767) (pos n)) (le_z (pos n) (pos 32767)) t).1) }
is_short-fits (negsuc n) t = record { sfits = omega (arith, leb→le n 32767 (and_parts (le_z (negsuc 32767) (negsuc n)) (le_z (negsuc n) (pos 32767)) t).0) }

-- The first of four numbers does not fit.
pub first_beyond : (x y u v pitch : ℤ) → ¬ SFits w16 x → Error ≡ with_places x y u v pitch
unfolding are_short with_places
first_beyond x y u v pitch n = rw (false_of (is_short x) (λ t. n (is_short-fits x t))) refl
