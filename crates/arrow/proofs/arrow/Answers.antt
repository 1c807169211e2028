-- `arrow::arrow` meets its contract: the tests on the way to each return are those of the definition, on the same numbers, which are read back
-- from their bits.
use mathlib.Core.Path.{◌≡◌, sym, ap, ap₂, ◌∙◌}
use mathlib.Core.Bool.{Bool, ◌&&◌}
use lib.IntN.{ℤ}
use mir.Syntax.{w16, w32}
use mir.Val.{SFits}
use Rattle.std.proofs.Common.{Ok, Err}
use Rattle.arrays.proofs.Signed.{read, read_is, read_one, short}
use Rattle.plane.specs.Point.{point}
use Rattle.table.specs.Table.{in_table, entry}
use Rattle.arrow.specs.Arrow.{is_pitch, pitches}
use Rattle.arrow.proofs.Answers.{bad_pitch_lem, far, near, read-pitches}
use Rattle.arrow.proofs.arrow.Goals as goal
use Rattle.arrow.proofs.arrow.Goals.{else-is_in_table-via-then-is_in_table+else-is_in_table-2, else-is_in_table-via-else-is_in_table}

-- The test of the pitch is the definition's.
pitch_said : {b v : Bool} {p : ℤ} → SFits w32 p → b ≡ is_pitch (read p) → b ≡ v → is_pitch p ≡ v
pitch_said h said e = sym (said ∙ read_one is_pitch h) ∙ e

-- The pitches from one coordinate to another, read back twice.
pitches_read : {q from to p : ℤ} → SFits w32 q → SFits w16 from → SFits w16 to → SFits w32 p → q ≡ pitches (short from) (short to) (read p)
    → read q ≡ pitches from to p
pitches_read {q} {from} {to} {p} f g h i said = read_is f (said ∙ read-pitches from to p g h i)

-- Whether the table has a difference.
table_said : {b v : Bool} {d q : ℤ} → b ≡ in_table d → d ≡ q → b ≡ v → in_table q ≡ v
table_said said x e = sym (said ∙ ap in_table x) ∙ e

pub returns-then-not-is_pitch : goal.returns-then-not-is_pitch
returns-then-not-is_pitch c = ap Err c.from.ensures ∙ bad_pitch_lem _ _ _ (pitch_said c.ranges.pitch c.is_pitch.ensures c.if-not-is_pitch.true)

pub returns-then-is_in_table-2 : goal.returns-then-is_in_table-2
returns-then-is_in_table-2 c =
    let x = pitches_read (record { sfits = c.pitches-dx.type_inv }) c.ranges.x c.ranges.u c.ranges.pitch c.pitches-dx.ensures in
    let y = pitches_read (record { sfits = c.pitches-dy.type_inv }) c.ranges.y c.ranges.v c.ranges.pitch c.pitches-dy.ensures in
    ap Ok (c.entry.ensures ∙ ap₂ entry x y)
    ∙ near (point c.args.x c.args.y) (point c.args.u c.args.v) c.args.pitch (pitch_said c.ranges.pitch c.is_pitch.ensures c.if-not-is_pitch.false)
    (ap₂ (λ p q. p && q) (table_said c.is_in_table.ensures x c.if-is_in_table.true)
    (table_said c.is_in_table-then-is_in_table.ensures y c.if-is_in_table-2.true))

pub returns-else-is_in_table : goal.returns-else-is_in_table
returns-else-is_in_table c =
    let x = pitches_read (record { sfits = c.pitches-dx.type_inv }) c.ranges.x c.ranges.u c.ranges.pitch c.pitches-dx.ensures in
    let y = pitches_read (record { sfits = c.pitches-dy.type_inv }) c.ranges.y c.ranges.v c.ranges.pitch c.pitches-dy.ensures in
    ap Err c.from-else-is_in_table.ensures
    ∙ far (point c.args.x c.args.y) (point c.args.u c.args.v) c.args.pitch (pitch_said c.ranges.pitch c.is_pitch.ensures c.if-not-is_pitch.false)
    (elim c.else-is_in_table.branch [
      | else-is_in_table-via-then-is_in_table+else-is_in_table-2 w ↦ ap₂ (λ p q. p && q) (table_said c.is_in_table.ensures x w.if-is_in_table.true)
          (table_said w.is_in_table-then-is_in_table.ensures y w.if-is_in_table-2.false)
      | else-is_in_table-via-else-is_in_table w ↦ ap (λ p. p && in_table (pitches c.args.y c.args.v c.args.pitch))
          (table_said c.is_in_table.ensures x w.if-is_in_table.false)
    ])
