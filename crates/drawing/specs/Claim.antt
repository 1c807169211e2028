-- The claim on the coordinates in a title (SPEC 9.9).
use Rattle.std.specs.Prelude.{◌≡◌, T, ℤ}
use Rattle.plane.specs.Point.{coordinate_in_range}
use Rattle.plane.specs.Coordinate.{stored_of}
use Rattle.model.specs.Listing.{signed_decimal}
use Rattle.template.specs.Template.{coordinate_text}

-- A coordinate in range is shown as it is.
abbrev pub CoordinatesShown : Type 0
CoordinatesShown = (z : ℤ) → T (coordinate_in_range z) → coordinate_text (stored_of z) ≡ signed_decimal z
