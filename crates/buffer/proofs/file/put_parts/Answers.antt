-- `buffer::file::put_parts` meets its contract: the kinds stand behind the edges.
use native.Mathlib.Omega.{arith}
use Rattle.arrays.proofs.paste.Parts.{pasted_then}
use Rattle.buffer.proofs.Parts.{kinds_fit}
use Rattle.buffer.proofs.file.put_parts.Goals as goal

pub put_kinds-requires : goal.put_kinds-requires
put_kinds-requires c =
    omega (arith, kinds_fit c.requires.parts_fit c.args.kinds.now c.requires.kinds_count c.put_tree-fourth.ensures, c.put_tree-fourth.auto.out)

pub returns : goal.returns
returns c =
    pasted_then c.put_tree-fourth.ensures
    (omega (arith, kinds_fit c.requires.parts_fit c.args.kinds.now c.requires.kinds_count c.put_tree-fourth.ensures)) c.put_kinds.ensures
