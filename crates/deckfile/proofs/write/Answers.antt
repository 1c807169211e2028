-- `deckfile::write` meets its contract: the check, then the file of the working form.
use mathlib.Core.Path.{ap, ◌∙◌}
use Rattle.std.specs.Prelude.{Err}
use Rattle.arrays.proofs.Test.{true_of}
use Rattle.deck.proofs.Calls.{checked_sound, checked_valid}
use Rattle.deckfile.proofs.Stored.{write_unsound, write-stored}
use Rattle.deckfile.proofs.write.Goals as goal

pub returns-in_default : goal.returns-in_default
returns-in_default c = let refused = write_unsound _ _ c.in_default.ensures in
    record { value = ap Err c.from.ensures ∙ refused.0; out_after = refused.1 }

pub write_working-requires : goal.write_working-requires
write_working-requires c = checked_valid _ _ c.in-Some.ensures

pub returns : goal.returns
returns c =
    let stored = write-stored _ _ (true_of _ c.in-Some.ensures.holds) (checked_sound _ _ c.in-Some.ensures).1
    (c.write_working.ensures.value, c.write_working.ensures.out_after) in
    record { value = stored.0; out_after = stored.1 }
