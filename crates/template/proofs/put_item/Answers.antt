-- `template::put_item` meets its contract, by how many numbers are left and which byte it is.
use native.Mathlib.Omega.{arith}
use Rattle.template.proofs.Items.{put_last, put-number, put_place, put_other}
use Rattle.template.proofs.put_item.Goals as goal

pub returns-then-used-numbers : goal.returns-then-used-numbers
returns-then-used-numbers c = put_last _ _ _ _ _ _ _ c.if-used-numbers.true c.put_byte.ensures

pub returns-in-37 : goal.returns-in-37
returns-in-37 c =
    put-number _ _ _ _ _ _ _ (omega (arith, c.requires.used_in_bounds, c.if-used-numbers.false)) (omega arith) c.decimal.ensures.upper_bound
    c.decimal.ensures.pasted

pub returns-in-64 : goal.returns-in-64
returns-in-64 c =
    put_place _ _ _ _ _ _ _ (omega (arith, c.requires.used_in_bounds, c.if-used-numbers.false)) (λ e. omega arith) (omega arith)
    c.put_coordinate.ensures.upper_bound c.put_coordinate.ensures.pasted

pub returns-in_default : goal.returns-in_default
returns-in_default c = put_other _ _ _ _ _ _ _ (omega (arith, c.requires.used_in_bounds, c.if-used-numbers.false)) (λ e. omega arith) (λ e. omega arith)
    c.put_byte-in_default.ensures
