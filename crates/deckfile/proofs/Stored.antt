-- Writing: what is answered and what is left in the buffer, by the checks in turn.
use mathlib.Core.Path.{◌≡◌, refl, sym, ap, ◌∙◌}
use mathlib.Core.Bool.{Bool, true, false}
use mathlib.Core.List.{List, ◌++◌}
use Prim.Native.Nat.{ℕ, ◌≤◌, ◌<◌}
use native.Mathlib.Omega.{arith}
use lib.Dec.{leb}
use Rattle.std.specs.Prelude.{Result, Ok, Err}
use lib.ListN.{length, drop}
use borrow.Author.Tests.{le-leb, lt-leb}
use Rattle.arrays.specs.Test.{if}
use Rattle.arrays.proofs.Test.{true_of}
use Rattle.model.specs.Contents.{Contents}
use Rattle.model.specs.File.{file_of}
use Rattle.deck.specs.declared.Deck.{Deck}
use Rattle.deck.specs.Form.{contents_of, Sound, sound}
use Rattle.deck.proofs.Form.{sound_is}
use Rattle.arrays.specs.Paste.{Pasted}
use Rattle.arrays.proofs.paste.Parts.{front_is}
use Rattle.deckfile.specs.Writing.{stored_answer, stored_buffer, written, buffer_after}

-- The file of contents, and a buffer that is too short or not.
module _ (c : Contents) (l : List ℕ) where
  by_room : {t : Bool} → leb (length (file_of c)) (length l) ≡ t
      → (if t (λ _. Ok (length (file_of c))) (λ _. Err 12) ≡ stored_answer c l)
      × (if t (λ _. file_of c ++ drop (length (file_of c)) l) (λ _. l) ≡ stored_buffer c l)
  by_room e = (
    ap (λ (t : Bool). if t (λ _. Ok (length (file_of c))) (λ _. Err 12)) (sym e),
    ap (λ (t : Bool). if t (λ _. file_of c ++ drop (length (file_of c)) l) (λ _. l)) (sym e),
  )

  pub stored_short : (n : ℕ) → n ≡ length (file_of c) → length l < n → (Err 12 ≡ stored_answer c l) × (l ≡ stored_buffer c l)
  stored_short n f h = by_room (lt-leb (length (file_of c)) (length l) (omega arith))

  pub stored-fits : length (file_of c) ≤ length l
      → (Ok (length (file_of c)) ≡ stored_answer c l) × (file_of c ++ drop (length (file_of c)) l ≡ stored_buffer c l)
  stored-fits h = by_room (le-leb (length (file_of c)) (length l) h)

  pub stored-done : (n : ℕ) → n ≡ length (file_of c) → n ≤ length l → {out : List ℕ} {r : ℕ} → Pasted (file_of c) l out 0 r
      → (Ok n ≡ stored_answer c l) × (out ≡ stored_buffer c l)
  stored-done n f h g = let r = stored-fits (omega arith) in (ap Ok f ∙ r.0, front_is g ∙ r.1)

-- A deck: refused where it is not sound, else stored.
module _ (d : Deck) (l : List ℕ) where
  by_sound : {t : Bool} → sound d ≡ t
      → (if t (λ _. stored_answer (contents_of d) l) (λ _. Err 11) ≡ written d l)
      × (if t (λ _. stored_buffer (contents_of d) l) (λ _. l) ≡ buffer_after d l)
  unfolding written buffer_after
  by_sound e = (
    ap (λ (t : Bool). if t (λ _. stored_answer (contents_of d) l) (λ _. Err 11)) (sym e),
    ap (λ (t : Bool). if t (λ _. stored_buffer (contents_of d) l) (λ _. l)) (sym e),
  )

  pub write_unsound : sound d ≡ false → (Err 11 ≡ written d l) × (l ≡ buffer_after d l)
  write_unsound e = by_sound e

  pub write-stored : sound d ≡ true → {c : Contents} → c ≡ contents_of d → {r : Result ℕ ℕ} {out : List ℕ}
      → (r ≡ stored_answer c l) × (out ≡ stored_buffer c l) → (r ≡ written d l) × (out ≡ buffer_after d l)
  write-stored e q h =
      (h.0 ∙ ap (λ (z : Contents). stored_answer z l) q ∙ (by_sound e).0, h.1 ∙ ap (λ (z : Contents). stored_buffer z l) q ∙ (by_sound e).1)

  pub write-short : sound d ≡ true → length l < length (file_of (contents_of d)) → (Err 12 ≡ written d l) × (l ≡ buffer_after d l)
  write-short e h = let r = stored_short (contents_of d) l (length (file_of (contents_of d))) refl h in (r.0 ∙ (by_sound e).0, r.1 ∙ (by_sound e).1)

-- A sound deck and a buffer that has room for its file.
pub write-fits : (d : Deck) (l : List ℕ) → Sound d → length (file_of (contents_of d)) ≤ length l
    → (written d l ≡ Ok (length (file_of (contents_of d)))) × (buffer_after d l ≡ file_of (contents_of d) ++ drop (length (file_of (contents_of d))) l)
write-fits d l s h =
    let e = true_of (sound d) ((sound_is d).1 s) in
    let r = stored-fits (contents_of d) l h in
    (sym (r.0 ∙ (by_sound d l e).0), sym (r.1 ∙ (by_sound d l e).1))
