-- `crossing::search_all` meets its contract: from the tree itself, the search over the crossings of the columns and the rows finds the
-- best candidate.
use native.Mathlib.Omega.{arith}
use Rattle.arrays.proofs.paste.Parts.{front-take}
use Rattle.score.proofs.Geometry.{column-given}
use Rattle.crossing.proofs.prepare.Values.{lines-rise}
use Rattle.crossing.proofs.Candidates.{best_found}
use Rattle.crossing.proofs.search_all.Goals as goal

pub prepare-requires-clause-tree_given : goal.prepare-requires-clause-tree_given
prepare-requires-clause-tree_given c =
    let p = c.requires in
    (p.0, p.1, lines-rise c.args.ys.now (front-take c.lines-count.ensures) (omega (arith, p.0.few, p.0.same)))

pub invariant_of-points : goal.invariant_of-points
invariant_of-points c = record { given = column-given c.prepare.ensures }

pub returns : goal.returns
returns c =
    best_found _ c.requires.0 c.requires.1 (front-take c.lines-width.ensures) (front-take c.lines-count.ensures)
    (c.all_columns.ensures _ c.prepare.ensures)
