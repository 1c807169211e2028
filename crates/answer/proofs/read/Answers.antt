-- `answer::read` meets its contract: the bytes of the line fit, so reading them is reading the file.
use mathlib.Core.Path.{ap, ◌∙◌}
use Rattle.script.proofs.FileSize.{read_fits}
use Rattle.deckfile.specs.Reading.{reading}
use Rattle.answer.specs.Play.{changes}
use Rattle.answer.proofs.Texts.{plays_same, filled-file}
use Rattle.answer.proofs.read.Goals as goal

pub returns : goal.returns
returns c =
    let f = filled-file _ _ _ c.bytes_of-n.ensures (read_fits _ c.requires.line_value) in
    plays_same _ _ _ _ _ (ap changes (c.read.ensures ∙ ap reading f)) c.changed.ensures
