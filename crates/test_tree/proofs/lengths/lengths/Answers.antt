-- `test_tree::lengths::lengths` meets its contract: the tree's keys and their table are what each crossing is tried on.
use mathlib.Core.Path.{◌∙◌}
use native.Mathlib.Omega.{arith}
use lib.ListN.{length-take}
use Rattle.arrays.proofs.paste.Parts.{front-take}
use Rattle.score.proofs.TreeKeys.{tree_filling}
use Rattle.test_tree.proofs.lengths.Rows.{keys_few_lem, tree-measured}
use Rattle.test_tree.proofs.lengths.lengths.Goals as goal

pub total_of-plain-requires : goal.total_of-plain-requires
total_of-plain-requires c =
    let few = keys_few_lem _ _ _ _ _ c.requires.0 c.build-m.ensures in
    omega (arith, length-take c.build-m.result c.build-m.new.keys)

pub fill-requires : goal.fill-requires
fill-requires c =
    let a = c.args in
    let few = keys_few_lem _ _ _ _ _ c.requires.0 c.build-m.ensures in
    tree_filling a.xs.now a.ys.now _ (omega (arith, c.requires.0.few)) (λ i. (c.type_inv.xs i).fits) (λ i. (c.type_inv.ys i).fits)
    (front-take c.build-m.ensures) c.blank-table.ensures

pub try_each-requires : goal.try_each-requires
try_each-requires c =
    let p = c.requires in
    let size = c.fill.auto.table ∙ c.blank-table.ensures in
    record {
      given = tree-measured _ _ _ _ _ _ _ p.0 c.build-m.ensures c.total_of-plain.ensures size c.fill.ensures;
      both = p.1;
      fits = p.2;
    }
