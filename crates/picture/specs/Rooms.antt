-- Room for a picture: for 125 runs, for 126 points, and for all of it.
use Rattle.std.specs.Prelude.{ℕ}

abbrev pub runs_room : ℕ
runs_room = 21500

abbrev pub points_room : ℕ
points_room = 27846

abbrev pub picture_room : ℕ
picture_room = 51200
