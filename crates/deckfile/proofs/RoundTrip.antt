-- The claims on files: each follows from the model's, since a deck read is that of the contents read, and a deck written is sound.
use mathlib.Core.Path.{◌≡◌, refl, sym, ap, ◌∙◌, subst, subst⁻¹}
use mathlib.Core.Logic.{inl, inr, ⊎_elim}
use mathlib.Core.Bool.{Bool, true, false, not}
use mathlib.Core.List.{List, ◌++◌}
use Prim.Native.Nat.{ℕ, ◌≤◌}
use native.Mathlib.Omega.{arith}
use lib.Dec.{T, not_T, leb, leb→le, eqb, eqb→eq}
use Rattle.std.specs.Prelude.{Result, Ok, Err}
use lib.ListN.{length, take, drop}
use lib.Seq.{take_at}
use Rattle.arrays.specs.Test.{if}
use Rattle.arrays.proofs.Test.{and_parts}
use Rattle.model.specs.State.{points}
use Rattle.model.specs.Contents.{Contents, empty_contents, ValidContents}
use Rattle.model.specs.Question.{listed}
use Rattle.points.proofs.Coded.{pins-count}
use Rattle.model.specs.File.{Read, deck, refusal, read_file, plain, sections_of, file_of}
use Rattle.model.specs.Sections.{size}
use Rattle.model.proofs.FileSize.{file_size_lem, runs-length}
use Rattle.model.proofs.Sections.{file_laid}
use Rattle.model.proofs.FileValid.{file-valid}
use Rattle.model.proofs.Refusal.{file-taken}
use Rattle.model.proofs.FileRoundTrip.{written_read_lem, full_written_back_lem}
use Rattle.model.proofs.FileKinds.{sections_few, written_count, four_exactly}
use Rattle.model.proofs.Session.{empty_contents_lem}
use Rattle.deck.specs.declared.Deck.{Deck}
use Rattle.deck.specs.declared.Outcome.{Outcome}
use Rattle.calls.specs.declared.Reply.TheVariants as reply
use Rattle.deck.specs.Form.{deck_of, contents_of, without_tail, Sound, sound}
use Rattle.deck.proofs.Form.{contents-deck, deck-sound, sound_is, sound-arranged}
use Rattle.deckfile.specs.Reading.{read_outcome, reading, accepted_deck}
use Rattle.deckfile.specs.Writing.{written, buffer_after}
use Rattle.deckfile.specs.RoundTrip.{ReadSound, ReadUntailed, SoundFits, WrittenRead, FullWrittenBack, PlainWrittenFull, SectionsWritten, WrittenSections}
use Rattle.writer.proofs.Runs.{edge_count_lem}
use Rattle.deckfile.proofs.Stored.{write-fits}

pub read-sound : ReadSound
unfolding read_outcome
read-sound b = go (read_file b) refl
  where
    go : (r : Read) → read_file b ≡ r → Sound (read_outcome r).next
    go (deck c) e = deck-sound c (file-valid b c e)
    go (refusal n) e = deck-sound empty_contents empty_contents_lem

pub read_untailed_lem : ReadUntailed
unfolding read_outcome deck_of
read_untailed_lem b = go (read_file b) refl
  where
    go : (r : Read) → read_file b ≡ r → (read_outcome r).next.tail ≡ 0
    go (deck c) e = ap (λ (z : Contents). z.tail) (sym ((file-taken b c).0 e).1)
    go (refusal n) e = refl

-- A deck read is that of the contents read.
pub record ReadFrom (b : List ℕ) (d : Deck) : Type 0 where
  pub contents : Contents
  pub read : read_file b ≡ deck contents
  pub is : d ≡ deck_of contents

pub read_from : (b : List ℕ) (d : Deck) → reading b ≡ accepted_deck d → ReadFrom b d
unfolding read_outcome
read_from b d e = go (read_file b) refl e
  where
    go : (r : Read) → read_file b ≡ r → read_outcome r ≡ accepted_deck d → ReadFrom b d
    go (deck c) f g = record { contents = c; read = f; is = sym (ap (λ (o : Outcome). o.next) g) }
    go (refusal n) f g =
        let q : reply.Refused n ≡ reply.Done = ap (λ (o : Outcome). o.reply) g in
        let z : ◌≡◌ {A = ℕ} 0 1 = cc in
        absurd (omega arith)

from_sound : (b : List ℕ) (d : Deck) → ReadFrom b d → Sound d
from_sound b d h = subst⁻¹ Sound h.is (deck-sound h.contents (file-valid b h.contents h.read))

from_contents : (b : List ℕ) (d : Deck) (h : ReadFrom b d) → contents_of d ≡ h.contents
from_contents b d h = ap contents_of h.is ∙ contents-deck h.contents (file-valid b h.contents h.read)

from_few : (b : List ℕ) (d : Deck) (h : ReadFrom b d) → d.points.npins ≤ 1 → length h.contents.state.pins ≤ 1
from_few b d h m =
    let n = pins-count d.points (sound-arranged d (from_sound b d h)) in
    subst (λ (z : Contents). length z.state.pins ≤ 1) (from_contents b d h) (subst⁻¹ (λ (z : ℕ). z ≤ 1) n m)

-- A deck that was written is sound, and its file stands at the front of the buffer.
pub record Wrote (d : Deck) (l : List ℕ) (n : ℕ) : Type 0 where
  pub sound : Sound d
  pub count : n ≡ length (file_of (contents_of d))
  pub front : buffer_after d l ≡ file_of (contents_of d) ++ drop (length (file_of (contents_of d))) l

pub wrote : (d : Deck) (l : List ℕ) (n : ℕ) → written d l ≡ Ok n → Wrote d l n
unfolding written buffer_after
wrote d l n e = go (sound d) refl (leb (length (file_of (contents_of d))) (length l)) refl e
  where
    go : (x : Bool) → sound d ≡ x → (y : Bool) → leb (length (file_of (contents_of d))) (length l) ≡ y
        → ◌≡◌ {A = Result ℕ ℕ} (if x (λ _. if y (λ _. Ok (length (file_of (contents_of d)))) (λ _. Err 12)) (λ _. Err 11)) (Ok n) → Wrote d l n
    go true p true q r =
        let s : Sound d = (sound_is d).0 (subst⁻¹ T p tt) in
        record { sound = s; count = cc; front = (write-fits d l s (leb→le (length (file_of (contents_of d))) (length l) (subst⁻¹ T q tt))).1 }
    go true p false q r = absurd (let z : ◌≡◌ {A = ℕ} 0 1 = cc in omega arith)
    go false p y q r = absurd (let z : ◌≡◌ {A = ℕ} 0 1 = cc in omega arith)

pub wrote_file : (d : Deck) (l : List ℕ) (n : ℕ) → Wrote d l n → take n (buffer_after d l) ≡ file_of (contents_of d)
wrote_file d l n w =
    ap (take n) w.front ∙ take_at (file_of (contents_of d)) (drop (length (file_of (contents_of d))) l) n (sym w.count)

pub sound-fits : SoundFits
sound-fits d l s h =
    let z = file_size_lem (contents_of d) s.valid in
    record {
      size = length (file_of (contents_of d));
      least = z.0;
      most = z.1;
      answer = (write-fits d l s (omega (arith, z.1))).0;
    }

pub written_then_read : WrittenRead
unfolding read_outcome deck_of
written_then_read d l n e =
    let w = wrote d l n e in
    ap reading (wrote_file d l n w)
    ∙ ap read_outcome (written_read_lem (contents_of d) w.sound.valid) ∙ ap (λ (z : Deck). accepted_deck (without_tail z)) (sym w.sound.same)

pub full_back : FullWrittenBack
full_back b d l h e full k =
    let v = read_from b d e in
    let s = from_sound b d v in
    let same : file_of (contents_of d) ≡ b =
    ap file_of (from_contents b d v) ∙ full_written_back_lem b v.contents h v.read (⊎_elim inl (λ m. inr (from_few b d v m)) full) in
    let w = write-fits d l s (subst⁻¹ (λ (f : List ℕ). length f ≤ length l) same k) in
    (w.0 ∙ ap (λ (f : List ℕ). Ok (length f)) same, w.1 ∙ ap (λ (f : List ℕ). f ++ drop (length f) l) same)

-- The file of two pins or more has edges.
not_plain : (c : Contents) → ValidContents c → 2 ≤ length c.state.pins → T (not (plain (file_of c)))
unfolding file_of
not_plain c v h =
    let s = c.state in
    let laid = (file_laid (sections_of c) (omega (arith, (sections_few c).1)) (omega (arith, (file_size_lem c v).1))).parts in
    not_T (plain (file_of c))
    (λ t. let e : size (file_of c) 2 ≡ 0 = eqb→eq _ 0 (and_parts (eqb (size (file_of c) 1) 0) (eqb (size (file_of c) 2) 0) t).1 in
    omega (arith, laid.3.3.1, runs-length (points s) (listed s), edge_count_lem s v.state))

pub plain_full : PlainWrittenFull
plain_full b d l n e h w =
    let f = wrote d l n w in
    let two = subst⁻¹ (λ (k : ℕ). 2 ≤ k) (pins-count d.points (sound-arranged d f.sound)) h in
    subst⁻¹ (λ (x : List ℕ). T (not (plain x))) (wrote_file d l n f) (not_plain (contents_of d) f.sound.valid two)

pub written_sections_lem : WrittenSections
written_sections_lem d l n e =
    let w = wrote d l n e in
    subst⁻¹ (SectionsWritten d) (wrote_file d l n w)
    (record { four = four_exactly (contents_of d) w.sound.valid; otherwise = written_count (contents_of d) w.sound.valid })
