-- `buffer::file::put_tree` meets its contract: one part behind the other.
use native.Mathlib.Omega.{arith}
use Rattle.buffer.proofs.Parts.{header_end, points-long, fits, tree-put}
use Rattle.buffer.proofs.file.put_tree.Goals as goal

pub put_file_header-first-requires : goal.put_file_header-first-requires
put_file_header-first-requires c = record {
  bare_in_bounds = omega (arith, fits c.requires);
  n_le_max_pins = (c.requires.pins_few, c.requires.steiner_few, c.requires.ends_few);
}

pub put_points-second-requires : goal.put_points-second-requires
put_points-second-requires c =
    omega (arith, header_end _ c.put_file_header-first.ensures, fits c.requires)

pub put_points-third-requires : goal.put_points-third-requires
put_points-third-requires c =
    omega (arith, header_end _ c.put_file_header-first.ensures, c.put_points-second.ensures.next, points-long c.args.pins.now, fits c.requires)

pub put_edges-requires : goal.put_edges-requires
put_edges-requires c =
    omega (
      arith,
      header_end _ c.put_file_header-first.ensures,
      c.put_points-second.ensures.next,
      points-long c.args.pins.now,
      c.put_points-third.ensures.next,
      points-long c.args.steiner.now,
      fits c.requires,
    )

pub returns : goal.returns
returns c = tree-put c.requires c.put_file_header-first.ensures c.put_points-second.ensures c.put_points-third.ensures c.put_edges.ensures
