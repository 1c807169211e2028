-- `deckfile::reader::with_kinds` meets its contract: sensors, or the kinds of the section where they pass.
use mathlib.Core.Path.{refl, sym}
use Rattle.deckfile.proofs.Checks.{passed, failed}
use Rattle.deckfile.proofs.reader.LastCheck.{refused_by}
use Rattle.deckfile.proofs.reader.KindsCheck.{shows-sensors, refused-kinds, shows_kinds_lem}
use Rattle.deckfile.proofs.reader.with_kinds.Goals as goal

pub returns-in_default : goal.returns-in_default
returns-in_default c = refused_by c.refuse.ensures
    (refused-kinds _ c.args.file.now.sections c.args.w c.requires (passed c.has_kinds.ensures c.if-has_kinds.true) c.in_default.ensures)

pub returns-in-Some : goal.returns-in-Some
returns-in-Some c =
    sym (shows_kinds_lem _ c.args.file.now.sections c.args.w c.requires (passed c.has_kinds.ensures c.if-has_kinds.true) c.in-Some.ensures.0
    c.in-Some.ensures.1)

pub returns-else-has_kinds : goal.returns-else-has_kinds
returns-else-has_kinds c =
    sym (shows-sensors _ c.args.file.now.sections c.args.w c.requires (failed c.has_kinds.ensures c.if-has_kinds.false) refl)
