-- `calls::run_to_end` meets its contract, by that of `rounds::finish_of`.
use Rattle.calls.proofs.RoundCalls.{end_is}
use Rattle.calls.proofs.run_to_end.Goals as goal

pub finish_of-end-requires : goal.finish_of-end-requires
finish_of-end-requires c = record {
  valid = c.requires.valid_contents.state;
  tail_le_longest_tail = c.requires.valid_contents.tailed;
}

pub returns : goal.returns
returns c = end_is c.args.d c.requires.valid_contents c.finish_of-end.result c.finish_of-end.ensures
