-- What the program prints by the number that the planner returned: below 30 it is that of the file's refusal, else the length of the file after a run
-- to the end. By the claim on entries.
use Rattle.std.specs.Prelude.{Ok, Err}
use mathlib.Core.Path.{◌≡◌, refl, sym, ap, ◌∙◌, subst}
use mathlib.Core.Logic.{⊎_elim}
use mathlib.Core.Bool.{true, false}
use mathlib.Core.List.{List, ◌++◌}
use Prim.Native.Nat.{ℕ, ◌≤◌, ◌<◌}
use native.Mathlib.Omega.{arith}
use lib.ListN.{length, drop}
use Rattle.arrays.specs.Paste.{Pasted}
use Rattle.arrays.proofs.paste.Parts.{front_of}
use Rattle.model.specs.Contents.{Contents, ValidContents}
use Rattle.model.specs.Call.{contents_after}
use Rattle.model.specs.File.{Read, deck, refusal, file_of, longest}
use Rattle.model.proofs.FileAnswer.{Possible, taken, refused}
use Rattle.model.proofs.FileSize.{file_size_lem}
use Rattle.model.proofs.Step.{after-valid}
use Rattle.model.specs.Listing.{refused_line}
use Rattle.ascii.specs.Text.{fitting}
use Rattle.ascii.proofs.Room.{front-put}
use Rattle.deckfile.specs.Answer.{answer_number, answer_buffer}
use Rattle.deckfile.proofs.answer.Entry.{entered}
use Rattle.planner.specs.Entry.{to_end}
use Rattle.ascii.specs.Line.{line_room}
use Rattle.listing.specs.Printed.{Prints}
use Rattle.listing.proofs.ForFile.{prints_refusal, prints_deck}
use Rattle.deckplan.specs.Plan.{planned_file}

module _ (before : List ℕ) (room : longest ≤ length before) where
  -- A deck was read: the file after the run fits.
  module _ (c : Contents) (v : ValidContents c) where
    abbrev file : List ℕ
    file = file_of (contents_after c to_end)

    size : (30 ≤ length file) × (length file ≤ longest)
    size = file_size_lem (contents_after c to_end) (after-valid to_end c v)

    answers : (answer_number (deck c) to_end before ≡ length file) × (answer_buffer (deck c) to_end before ≡ file ++ drop (length file) before)
    answers = (entered (deck c) (taken v) to_end before).fits c refl (omega (arith, size.1, room))

  -- A number below 30: the file was refused by it, and the buffer is as it was.
  number-refused : (r : Read) → Possible r → (n : ℕ) (after : List ℕ) → n ≡ answer_number r to_end before → after ≡ answer_buffer r to_end before → n < 30
      → (r ≡ refusal n) × (after ≡ before)
  number-refused (deck c) (taken v) n after e f h = absurd (omega (arith, e, (answers c v).0, (size c v).0))
  number-refused (refusal k) p n after e f h =
      let t = (entered (refusal k) p to_end before).turned_down k refl in
      (ap refusal (sym (e ∙ t.0)), f ∙ t.1)

  pub refusal_printed : (r : Read) → Possible r → (n : ℕ) (mid : List ℕ) {after : List ℕ} {s : ℕ} → n ≡ answer_number r to_end before
      → mid ≡ answer_buffer r to_end before → n < 30 → Pasted (fitting line_room mid (refused_line n)) mid after 0 s
      → Prints longest planned_file r before after (Err s)
  refusal_printed r p n mid {after} {s} e f h q =
      let t = number-refused r p n mid e f h in
      prints_refusal longest planned_file r before n t.0 room (omega arith)
      (subst (λ (m : List ℕ). Pasted (fitting line_room m (refused_line n)) m after 0 s) t.1 q)

  -- A number of 30 or more: the file of the deck stands in the buffer.
  pub number_printed : (r : Read) → Possible r → (n : ℕ) (after : List ℕ) → n ≡ answer_number r to_end before → after ≡ answer_buffer r to_end before → 30 ≤ n
      → Prints longest planned_file r before after (Ok n)
  unfolding planned_file contents_after
  number_printed (deck c) (taken v) n after e f h =
      let a = answers c v in
      prints_deck longest planned_file (deck c) before c refl (front-put longest before after (planned_file c) n room (front_of (e ∙ a.0) (f ∙ a.1)))
  number_printed (refusal k) (refused q) n after e f h =
      let t = (entered (refusal k) (refused q) to_end before).turned_down k refl in
      absurd (⊎_elim (λ b. omega (arith, b.1, e, t.0)) (λ b. omega (arith, b, e, t.0)) q)
