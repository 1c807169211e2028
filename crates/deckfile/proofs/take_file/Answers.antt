-- `deckfile::take_file` meets its contract: one check after the other, each refused by its number or passed to the next.
use Rattle.deckfile.proofs.Checks.{passed, failed, sections_of_lem, few-pins, refused_1, refused_2, refused_3, refused_4, refused_5, all_passed}
use Rattle.deckfile.proofs.reader.LastCheck.{read_as, refused_by}
use Rattle.deckfile.proofs.take_file.Goals as goal

pub returns-then-not-is_headed : goal.returns-then-not-is_headed
returns-then-not-is_headed c = refused_by c.refuse.ensures (refused_1 c.args.file.now (failed c.is_headed.ensures c.if-not-is_headed.true))

pub returns-then-not-is_laid_out : goal.returns-then-not-is_laid_out
returns-then-not-is_laid_out c = refused_by c.refuse-then-not-is_laid_out.ensures
    (refused_2 c.args.file.now (passed c.is_headed.ensures c.if-not-is_headed.false) (failed c.is_laid_out.ensures c.if-not-is_laid_out.true))

pub returns-then-not-is_whole : goal.returns-then-not-is_whole
returns-then-not-is_whole c = refused_by c.refuse-then-not-is_whole.ensures
    (refused_3 c.args.file.now (passed c.is_headed.ensures c.if-not-is_headed.false)
    (passed c.is_laid_out.ensures c.if-not-is_laid_out.false) (failed c.is_whole.ensures c.if-not-is_whole.true))

pub returns-then-size-gt-MAX_PINS : goal.returns-then-size-gt-MAX_PINS
returns-then-size-gt-MAX_PINS c = refused_by c.refuse-then-size-gt-MAX_PINS.ensures
    (refused_4 c.args.file.now (passed c.is_headed.ensures c.if-not-is_headed.false)
    (passed c.is_laid_out.ensures c.if-not-is_laid_out.false) (passed c.is_whole.ensures c.if-not-is_whole.false) _ c.size.ensures.0
    c.if-size-gt-MAX_PINS.true)

pub invariant_of-checked : goal.invariant_of-checked
invariant_of-checked c = let b = c.args.file.now in
    let h = passed c.is_headed.ensures c.if-not-is_headed.false in
    let l = passed c.is_laid_out.ensures c.if-not-is_laid_out.false in
    let w = passed c.is_whole.ensures c.if-not-is_whole.false in
    record { sections = sections_of_lem b h l w; few_pins = few-pins b h l w _ c.size.ensures.0 c.if-size-gt-MAX_PINS.false }

pub returns-in_default : goal.returns-in_default
returns-in_default c = refused_by c.refuse-in_default.ensures
    (refused_5 c.args.file.now (passed c.is_headed.ensures c.if-not-is_headed.false)
    (passed c.is_laid_out.ensures c.if-not-is_laid_out.false) (passed c.is_whole.ensures c.if-not-is_whole.false) _ c.size.ensures.0
    c.if-size-gt-MAX_PINS.false c.in_default.ensures)

pub returns : goal.returns
returns c = read_as _
    (all_passed c.args.file.now (passed c.is_headed.ensures c.if-not-is_headed.false) (passed c.is_laid_out.ensures c.if-not-is_laid_out.false)
    (passed c.is_whole.ensures c.if-not-is_whole.false) _ c.size.ensures.0 c.if-size-gt-MAX_PINS.false c.in-Some.ensures.passes)
    c.working_of_file.ensures
