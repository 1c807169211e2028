-- The octant of two numbers, by what is read back from their bits.
use mathlib.Core.Path.{◌≡◌, sym, ◌∙◌}
use Prim.Native.Nat.{ℕ}
use lib.IntN.{ℤ}
use mir.Syntax.{w32}
use mir.Val.{SFits}
use Rattle.octants.specs.Octant.{octant}
use Rattle.arrays.proofs.Signed.{read, read_two}
use Rattle.plane.proofs.Whole.{plus, minus}
use Rattle.octants.proofs.Sector.{SectorOf}
use Rattle.octants.proofs.Between.{sector_octant, octant_none}

pub read-octant : (k : ℕ) (dx dy : ℤ) → SFits w32 dx → SFits w32 dy → SectorOf k (read dx) (read dy) → k ≡ octant dx dy
read-octant k dx dy f g s = sym (sector_octant k (read dx) (read dy) s) ∙ read_two octant dx dy f g

pub read_none : (dx dy : ℤ) → SFits w32 dx → SFits w32 dy → plus (read dx) ≡ minus (read dx) → plus (read dy) ≡ minus (read dy) → 8 ≡ octant dx dy
read_none dx dy f g e h = sym (octant_none (read dx) (read dy) e h) ∙ read_two octant dx dy f g
