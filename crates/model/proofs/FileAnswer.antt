-- What reading a list of bytes can give: valid contents, or a number from 1 to 6, or 15, since each check of a file has such a number.
use mathlib.Core.Path.{◌≡◌, refl, subst}
use mathlib.Core.Logic.{inl, inr, ⊎_elim}
use mathlib.Core.List.{List}
use Prim.Native.Nat.{ℕ}
use native.Mathlib.Omega.{arith}
use Rattle.model.specs.Contents.{Contents, ValidContents}
use Rattle.model.specs.File.{Read, deck, refusal, FileNumber, file_checks, read_file}
use Rattle.model.proofs.Refusal.{failed_number, file_refused_lem}
use Rattle.model.proofs.FileValid.{file-valid}

pub data Possible : Read → Type 0 where
  taken : {c : Contents} → ValidContents c → Possible (deck c)
  refused : {n : ℕ} → FileNumber n → Possible (refusal n)

numbered : (b : List ℕ) (n : ℕ) → read_file b ≡ refusal n → FileNumber n
numbered b n e =
    failed_number FileNumber n (file_checks b) (
      inl (omega arith, omega arith),
      (
        inl (omega arith, omega arith),
        (
          inl (omega arith, omega arith),
          (
            inl (omega arith, omega arith),
            (inl (omega arith, omega arith), (inl (omega arith, omega arith), (inr refl, tt))),
          ),
        ),
      ),
    ) ((file_refused_lem b n).0 e)

pub read_possible : (b : List ℕ) → Possible (read_file b)
read_possible b = go (read_file b) refl
  where
    go : (r : Read) → read_file b ≡ r → Possible r
    go (deck c) e = taken (file-valid b c e)
    go (refusal n) e = refused (numbered b n e)

-- No refusal is 0.
pub not_zero : {n : ℕ} → FileNumber n → ¬ (n ≡ 0)
not_zero f e = ⊎_elim (λ h. omega (arith, h.0)) (λ h. omega arith) f

pub possible_valid : (r : Read) → Possible r → (c : Contents) → r ≡ deck c → ValidContents c
possible_valid (deck d) (taken v) c e = let q : d ≡ c = cc in subst ValidContents q v
possible_valid (refusal n) p c e = let z : ◌≡◌ {A = ℕ} 0 1 = cc in absurd (omega arith)
