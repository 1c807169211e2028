-- `plain_file::put_file` meets its contract: the parts are those of the plain file.
use Rattle.arrays.proofs.paste.Parts.{pasted_same}
use Rattle.plain_file.proofs.Parts.{plain_parts}
use Rattle.plain_file.proofs.put_file.Goals as goal

pub returns : goal.returns
returns c = pasted_same (plain_parts c.args.w c.requires.valid_contents c.is_bare.ensures) c.put_parts.ensures
