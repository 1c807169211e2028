-- `deckfile::reader::working_of_file` meets its contract: one test after the other.
use Rattle.arrays.proofs.Test.{of_true}
use Rattle.deckfile.proofs.Checks.{passed, failed}
use Rattle.deckfile.proofs.reader.LastCheck.{read_as, refused_by, form_valid, last_many, last-invalid, last-plain, last_other, last_same}
use Rattle.deckfile.proofs.reader.working_of_file.Goals as goal
use Rattle.deckfile.proofs.reader.working_of_file.Goals.{else-not-is_plain-via-then-not-is_plain+else-not-has_edges, else-not-is_plain-via-else-not-is_plain}

pub returns-then-size-gt-STEINER_ROOM : goal.returns-then-size-gt-STEINER_ROOM
returns-then-size-gt-STEINER_ROOM c = refused_by c.refuse.ensures
    (last_many c.args.file.now.bytes.now c.args.file.now.sections (of_true c.requires.passes) _ c.size.ensures.0 c.if-size-gt-STEINER_ROOM.true)

pub returns-in_default : goal.returns-in_default
returns-in_default c = refused_by c.refuse-in_default.ensures
    (last-invalid c.args.file.now.bytes.now c.args.file.now.sections (of_true c.requires.passes) c.args.file.now.few_pins c.in_default.ensures)

pub has_edges-requires : goal.has_edges-requires
has_edges-requires c = form_valid c.args.file.now.bytes.now c.args.file.now.sections (of_true c.requires.passes) _ c.in-Some.ensures

pub returns-then-not-has_edges : goal.returns-then-not-has_edges
returns-then-not-has_edges c = refused_by c.refuse-then-not-has_edges.ensures
    (last_other c.args.file.now.bytes.now c.args.file.now.sections (of_true c.requires.passes) _ c.in-Some.ensures
    (failed c.is_plain.ensures c.if-not-is_plain.true) (failed c.has_edges.ensures c.if-not-has_edges.true))

pub returns : goal.returns
returns c =
    elim c.else-not-is_plain.branch [
      | else-not-is_plain-via-then-not-is_plain+else-not-has_edges w ↦
          read_as _
          (last_same c.args.file.now.bytes.now c.args.file.now.sections (of_true c.requires.passes) _ c.in-Some.ensures
          (failed c.is_plain.ensures w.if-not-is_plain.true) (passed w.has_edges.ensures w.if-not-has_edges.false))
          c.with_kinds.ensures
      | else-not-is_plain-via-else-not-is_plain w ↦
          read_as _
          (last-plain c.args.file.now.bytes.now c.args.file.now.sections (of_true c.requires.passes) (passed c.is_plain.ensures w.if-not-is_plain.false))
          c.with_kinds.ensures
    ]
