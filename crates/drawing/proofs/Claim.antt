-- A coordinate in range is shown as it is: its stored form fits 16 bits, and stands for it.
use mathlib.Core.Path.{◌≡◌, ap, ◌∙◌}
use Prim.Native.Nat.{◌%◌}
use native.Mathlib.Omega.{arith}
use Rattle.plane.specs.Coordinate.{base, coordinate, stored_of}
use Rattle.plane.proofs.Stored.{coordinate-stored, stored-bound}
use Rattle.model.specs.Listing.{signed_decimal}
use Rattle.drawing.specs.Claim.{CoordinatesShown}

pub coordinates_shown : CoordinatesShown
coordinates_shown z t =
    let small : stored_of z % base ≡ stored_of z = omega (arith, stored-bound z t) in
    ap signed_decimal (ap coordinate small ∙ coordinate-stored z t)
