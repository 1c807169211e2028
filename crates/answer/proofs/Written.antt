-- The answer to writing: the refusal's line, or the file that stands in the buffer lent.
use mathlib.Core.Path.{◌≡◌, refl, sym, ap, ◌∙◌}
use mathlib.Core.Bool.{Bool, true, false}
use mathlib.Core.List.{List, ◌++◌}
use Prim.Native.Nat.{ℕ, ◌+◌, ◌*◌, ◌≤◌, min}
use native.Mathlib.Omega.{arith}
use lib.Dec.{leb}
use lib.ListN.{length, take, drop, length-append}
use lib.Seq.{length-take-le, take-append-le}
use Rattle.arrays.specs.Test.{if}
use Rattle.model.specs.File.{file_of}
use Rattle.model.proofs.FileSize.{file_size_lem}
use Rattle.deck.specs.declared.Deck.{Deck}
use Rattle.questions.specs.declared.Answer.TheVariants as answer
use Rattle.deck.specs.Form.{contents_of, sound}
use Rattle.std.specs.Prelude.{Result, Ok, Err}
use Rattle.deckfile.specs.Writing.{written, buffer_after}
use Rattle.deckfile.proofs.RoundTrip.{Wrote, wrote, wrote_file}
use Rattle.ascii.specs.Encoding.{file_text}
use Rattle.replies.specs.Replies.{answer_text}
use Rattle.answer.specs.Play.{write_text}

-- By the two tests of writing.
module _ (d : Deck) (l : List ℕ) where
  text : Bool → Bool → List ℕ
  text a b = if a (λ _. if b (λ _. file_text (file_of (contents_of d))) (λ _. answer_text (answer.Refused 12))) (λ _. answer_text (answer.Refused 11))

  written_by : Bool → Bool → Result ℕ ℕ
  written_by a b = if a (λ _. if b (λ _. Ok (length (file_of (contents_of d)))) (λ _. Err 12)) (λ _. Err 11)

  pub refused-text : (k : ℕ) → written d l ≡ Err k → answer_text (answer.Refused k) ≡ write_text d (length l)
  unfolding written write_text text written_by
  refused-text k e = go (sound d) (leb (length (file_of (contents_of d))) (length l)) e
    where
      go : (a b : Bool) → written_by a b ≡ Err k → answer_text (answer.Refused k) ≡ text a b
      go true true q = let z : ◌≡◌ {A = ℕ} 0 1 = cc in absurd (omega arith)
      go true false q = let e : k ≡ 12 = cc in ap (λ (n : ℕ). answer_text (answer.Refused n)) e
      go false b q = let e : k ≡ 11 = cc in ap (λ (n : ℕ). answer_text (answer.Refused n)) e

  pub stored-text : (n : ℕ) → written d l ≡ Ok n → file_text (file_of (contents_of d)) ≡ write_text d (length l)
  unfolding written write_text text written_by
  stored-text n e = go (sound d) (leb (length (file_of (contents_of d))) (length l)) e
    where
      go : (a b : Bool) → written_by a b ≡ Ok n → file_text (file_of (contents_of d)) ≡ text a b
      go true true q = refl
      go true false q = let z : ◌≡◌ {A = ℕ} 0 1 = cc in absurd (omega arith)
      go false b q = let z : ◌≡◌ {A = ℕ} 0 1 = cc in absurd (omega arith)

-- The length of the part that is lent.
pub part_length : (b : List ℕ) (m c : ℕ) → length b ≡ 856 → m ≡ min c 856 → (m ≤ length b) × (length (take m b) ≡ min c 856)
part_length b m c e f =
    let h : m ≤ length b = omega (arith, e, f) in
    (h, length-take-le m b h ∙ f)

-- A file was written to the part l of a buffer, which then holds L, with `rest` behind it.
module _ (d : Deck) (l held rest : List ℕ) (r : Result ℕ ℕ) (n : ℕ) (w : r ≡ written d l) (e : held ≡ buffer_after d l) (is : r ≡ Ok n) where
  done : Wrote d l n
  done = wrote d l n (sym w ∙ is)

  long : n ≤ length held
  long =
      omega (arith, done.count, ap length (e ∙ done.front), length-append (file_of (contents_of d)) (drop (length (file_of (contents_of d))) l))

  pub stored-within : (n ≤ length (held ++ rest)) × (n ≡ length (take n (held ++ rest)))
  stored-within =
      let h : n ≤ length (held ++ rest) = omega (arith, long, length-append held rest) in
      (h, sym (length-take-le n (held ++ rest) h))

  stored-file : take n (held ++ rest) ≡ file_of (contents_of d)
  stored-file = take-append-le n held rest long ∙ ap (take n) e ∙ wrote_file d l n done

  pub stored-room : 64 + 2 * length (take n (held ++ rest)) ≤ 26112
  stored-room = omega (arith, stored-within.1, done.count, (file_size_lem (contents_of d) done.sound.valid).1)

  pub stored_answer_lem : file_text (take n (held ++ rest)) ≡ write_text d (length l)
  stored_answer_lem = ap file_text stored-file ∙ stored-text d l n (sym w ∙ is)
