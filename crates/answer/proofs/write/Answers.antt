-- `answer::write` meets its contract: the buffer lent is the front of one for the longest file.
use mathlib.Core.Path.{refl, sym, ap, ◌∙◌}
use Rattle.answer.specs.Play.{stays, write_text}
use Rattle.answer.proofs.Texts.{plays, plays_same}
use Rattle.answer.proofs.Written.{part_length, refused-text, stored-within, stored-room, stored_answer_lem}
use Rattle.answer.proofs.write.Goals as goal

pub slice_bounds-file-end-in-Ok : goal.slice_bounds-file-end-in-Ok
slice_bounds-file-end-in-Ok c = (stored-within _ _ _ _ _ _ c.write.ensures.value c.write.ensures.out_after c.in-Ok.is).0

pub slice_bounds-file_line-end : goal.slice_bounds-file_line-end
slice_bounds-file_line-end c = (stored-within _ _ _ _ _ _ c.write.ensures.value c.write.ensures.out_after c.in-Ok.is).1

pub returns-in-Err : goal.returns-in-Err
returns-in-Err c = let k = part_length c.buffer-file.result _ _ c.buffer-file.ensures c.min-most.ensures in
    let d = c.args.d in
    plays_same _ _ _ _ _ (ap (stays d) (refused-text d _ _ (sym c.write.ensures.value ∙ c.in-Err.is) ∙ ap (write_text d) k.1))
    c.answered.ensures

pub returns-in-Ok : goal.returns-in-Ok
returns-in-Ok c = let k = part_length c.buffer-file.result _ _ c.buffer-file.ensures c.min-most.ensures in
    let d = c.args.d in
    plays (stays d _) _ _ _ _ _ _ (stored-room _ _ _ _ _ _ c.write.ensures.value c.write.ensures.out_after c.in-Ok.is)
    c.requires refl
    (stored_answer_lem _ _ _ _ _ _ c.write.ensures.value c.write.ensures.out_after c.in-Ok.is ∙ ap (write_text d) k.1)
    c.file_line.ensures
