-- `columns::greatest` meets its contract: no row of the column is held, and no point has its x; or the search is over its candidates.
use borrow.Author.Rules.{rules}
use Rattle.arrays.proofs.paste.Parts.{front-take}
use Rattle.rounds.proofs.Search.{given}
use Rattle.columns.proofs.OfWorking.{free-given, none_found, some_point, greatest_found}
use Rattle.columns.proofs.greatest.Goals as goal

pub returns-then-kept-rows-clause-value : goal.returns-then-kept-rows-clause-value
returns-then-kept-rows-clause-value c =
    let p = c.requires in
    none_found c.args.w (search rules) (search rules) _ p.x_le_stored_limit (front-take c.lines-count.ensures) c.free_rows-kept.ensures
    c.if-kept-rows.true

pub greatest_in_column-requires : goal.greatest_in_column-requires
greatest_in_column-requires c =
    let p = c.requires in
    let rows = front-take c.lines-count.ensures in
    let put = c.free_rows-kept.ensures in (
      given c.args.w (search rules) (search rules) (search rules),
      some_point c.args.w (search rules) (search rules) _ p.x_le_stored_limit rows put c.if-kept-rows.false,
      free-given c.args.w (search rules) (search rules) _ p.x_le_stored_limit rows put,
    )

pub returns-clause-value : goal.returns-clause-value
returns-clause-value c =
    let p = c.requires in
    greatest_found c.args.w (search rules) (search rules) _ p.x_le_stored_limit (front-take c.lines-count.ensures) c.free_rows-kept.ensures
    c.if-kept-rows.false c.greatest_in_column.ensures.value
