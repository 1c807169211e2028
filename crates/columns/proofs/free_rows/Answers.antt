-- `columns::free_rows` meets its contract. The invariant: of the rows seen, those that are free stand at the front of `free`.
use native.Mathlib.Omega.{arith}
use Rattle.arrays.proofs.paste.Lines.{each-first_none, each-first_more, each-first_end}
use Rattle.columns.proofs.Rows.{rows-put}
use Rattle.columns.proofs.free_rows.Goals as goal

pub loop-y-init : goal.loop-y-init
loop-y-init c = each-first_none _ _ _ _ _ _

pub loop-y-preserved : goal.loop-y-preserved
loop-y-preserved c = let inv = c.loop-y.invariant in
    let most = inv.most in
    let same = inv.same in
    each-first_more _ _ _ _ _ _ inv (omega arith) (omega arith) (omega (arith, c.requires)) c.put_free-kept.ensures.pasted
    c.put_free-kept.ensures.upper_bound c.put_free-kept.auto.free

pub returns : goal.returns
returns c = let a = c.args in
    rows-put a.codes.now a.x a.rows.now (each-first_end _ _ _ _ _ _ c.loop-y.invariant (omega arith))
