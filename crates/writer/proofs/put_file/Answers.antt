-- `writer::put_file` meets its contract: the parts are those of the file.
use mathlib.Core.Path.{◌≡◌}
use Prim.Native.Nat.{◌≤◌}
use native.Mathlib.Omega.{arith}
use lib.ListN.{length}
use Rattle.arrays.proofs.paste.Parts.{pasted_same}
use Rattle.writer.proofs.Parts.{file_parts_lem, parts_fit}
use borrow.Author.Rules.{rules}
use Rattle.writer.proofs.put_file.Goals as goal

pub put_parts-requires-clause-parts_fit : goal.put_parts-requires-clause-parts_fit
put_parts-requires-clause-parts_fit c =
    let room : length c.edge_numbers-ends.result ≡ 128 = search rules in
    let long : c.args.w.form.nkeys ≤ length c.edge_numbers-ends.result = omega (arith, room, c.args.w.form.in_order.keys_few) in
    parts_fit c.args.w c.requires.valid_contents c.is_bare.ensures c.edge_numbers-ends.ensures long _ c.requires.w_in_bounds

pub returns : goal.returns
returns c =
    let room : length c.edge_numbers-ends.result ≡ 128 = search rules in
    let long : c.args.w.form.nkeys ≤ length c.edge_numbers-ends.result = omega (arith, room, c.args.w.form.in_order.keys_few) in
    pasted_same (file_parts_lem c.args.w c.requires.valid_contents c.is_bare.ensures c.edge_numbers-ends.ensures long) c.put_parts.ensures
