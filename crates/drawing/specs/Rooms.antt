-- Room for the parts of a picture.
use Rattle.std.specs.Prelude.{ℕ}

-- For the head, a run, the template of a symbol, a symbol with its five numbers, and the foot.
abbrev pub head_room : ℕ
head_room = 640

abbrev pub run_room : ℕ
run_room = 172

abbrev pub template_room : ℕ
template_room = 95

abbrev pub symbol_room : ℕ
symbol_room = 221

abbrev pub foot_room : ℕ
foot_room = 640
