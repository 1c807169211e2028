-- `buffer::put_point` meets its contract: one coordinate behind the other.
use mathlib.Core.Path.{ap, ◌∙◌}
use mathlib.Core.List.{List}
use Prim.Native.Nat.{ℕ}
use native.Mathlib.Omega.{arith}
use Rattle.arrays.specs.Number.{bytes2}
use Rattle.arrays.proofs.paste.Parts.{pasted_same, pasted_then}
use Rattle.plane.specs.Coordinate.{coordinate, word16}
use Rattle.buffer.proofs.put_point.Goals as goal

pub returns : goal.returns
returns c = let two : ℕ → List ℕ = λ u. bytes2 (word16 (coordinate u)) in
    let x = ap bytes2 c.word_of.ensures ∙ ap two c.x_of.ensures in
    let y = ap bytes2 c.word_of-2.ensures ∙ ap two c.y_of.ensures in
    pasted_then (pasted_same x c.put2-next.ensures) (omega arith) (pasted_same y c.put2.ensures)
