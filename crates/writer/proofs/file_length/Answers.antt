-- `writer::file_length` meets its contract: the length for the two counts is that of the file's parts.
use mathlib.Core.Path.{◌∙◌}
use Rattle.writer.proofs.Parts.{few, file-long}
use Rattle.writer.proofs.file_length.Goals as goal

pub length_for-requires : goal.length_for-requires
length_for-requires c = few c.args.w c.requires.valid_contents

pub returns : goal.returns
returns c = c.length_for.ensures ∙ file-long c.args.w c.requires.valid_contents c.is_bare.ensures
