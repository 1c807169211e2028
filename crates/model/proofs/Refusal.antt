-- The first check that fails is the refusal, in both directions, and there is none exactly if all pass: by the tests in turn. So it
-- is of the checks of a file, of adding and of withdrawing.
use mathlib.Core.Path.{◌≡◌, refl, sym, ap, subst}
use mathlib.Core.Logic.{◌↔◌}
use mathlib.Core.Bool.{Bool, true, false}
use mathlib.Core.Option.{Option, none, some}
use mathlib.Core.List.{List, [], ◌∷◌}
use Prim.Native.Nat.{ℕ}
use native.Mathlib.Omega.{arith}
use lib.Dec.{T}
use Rattle.arrays.specs.Test.{if}
use Rattle.plane.specs.Point.{Point}
use Rattle.model.specs.Refusal.{Check, first_failed, Pass, FirstFailed, here, later}
use Rattle.model.specs.State.{insert, remove}
use Rattle.model.specs.DeviceKinds.{sensor}
use Rattle.model.specs.Contents.{Contents, following}
use Rattle.model.specs.Call.{add, withdraw, set_tail, done, refused, add_checks, withdraw_checks, tail_checks}
use Rattle.model.specs.Call.{insert_refusal, remove_refusal, tail_refusal, unless, step}
use Rattle.model.specs.File.{deck, refusal, file_checks, read_by, read_file, file_contents}

-- One check by its test.
failed_by : (n : ℕ) (c : Check) (l : List Check) (b : Bool) → c.test tt ≡ b → ((first_failed l ≡ some n) → FirstFailed n l)
    → if b (λ _. first_failed l) (λ _. some c.number) ≡ some n → FirstFailed n (c ∷ l)
failed_by n c l true e next f = later (subst T (sym e) tt) (next f)
failed_by n c l false e next f = let same : c.number ≡ n = cc in here same (λ t. subst T e t)

by_failed : (n : ℕ) (c : Check) (l : List Check) (b : Bool) → c.test tt ≡ b → (FirstFailed n l → first_failed l ≡ some n)
    → FirstFailed n (c ∷ l) → if b (λ _. first_failed l) (λ _. some c.number) ≡ some n
by_failed n c l true e next (here k f) = absurd (f (subst T (sym e) tt))
by_failed n c l true e next (later t r) = next r
by_failed n c l false e next (here k f) = ap some k
by_failed n c l false e next (later t r) = absurd (subst T e t)

failed_first : (n : ℕ) (l : List Check) → first_failed l ≡ some n → FirstFailed n l
unfolding first_failed
failed_first n [] e = let z : ◌≡◌ {A = ℕ} 0 1 = cc in absurd (omega arith)
failed_first n (c ∷ l) e = failed_by n c l (c.test tt) refl (failed_first n l) e

first_fails : (n : ℕ) (l : List Check) → FirstFailed n l → first_failed l ≡ some n
unfolding first_failed
first_fails n [] r = elim r [ ]
first_fails n (c ∷ l) r = by_failed n c l (c.test tt) refl (first_fails n l) r

pub first_failed_lem : (n : ℕ) (l : List Check) → (first_failed l ≡ some n) ↔ FirstFailed n l
first_failed_lem n l = (failed_first n l, first_fails n l)

-- None fails exactly if all pass.
passed_by : (c : Check) (l : List Check) (b : Bool) → c.test tt ≡ b → (first_failed l ≡ none → Pass l)
    → if b (λ _. first_failed l) (λ _. some c.number) ≡ none → T (c.test tt) × Pass l
passed_by c l true e next f = (subst T (sym e) tt, next f)
passed_by c l false e next f = let z : ◌≡◌ {A = ℕ} 0 1 = cc in absurd (omega arith)

by_passed : (c : Check) (l : List Check) (b : Bool) → c.test tt ≡ b → first_failed l ≡ none → T (c.test tt)
    → if b (λ _. first_failed l) (λ _. some c.number) ≡ none
by_passed c l true e rest t = rest
by_passed c l false e rest t = absurd (subst T e t)

none_failed : (l : List Check) → first_failed l ≡ none → Pass l
unfolding first_failed
none_failed [] e = tt
none_failed (c ∷ l) e = passed_by c l (c.test tt) refl (none_failed l) e

passes : (l : List Check) → Pass l → first_failed l ≡ none
unfolding first_failed
passes [] p = refl
passes (c ∷ l) p = by_passed c l (c.test tt) refl (passes l p.1) p.0

pub all_passed : (l : List Check) → (first_failed l ≡ none) ↔ Pass l
all_passed l = (none_failed l, passes l)

-- What holds of the number of every check holds of the refusal.
abbrev pub Numbered : (ℕ → Type 0) → List Check → Type 0
Numbered P [] = Unit {0}
Numbered P (c ∷ l) = P c.number × Numbered P l

pub failed_number : (P : ℕ → Type 0) (n : ℕ) (l : List Check) → Numbered P l → FirstFailed n l → P n
failed_number P n [] h r = elim r [ ]
failed_number P n (c ∷ l) h (here e f) = subst P e h.0
failed_number P n (c ∷ l) h (later t r) = failed_number P n l h.1 r

-- A file is refused by n exactly if n's check is the first that fails, and taken, as the deck that it shows, exactly if all pass.
read_number : (c : Contents) (o : Option ℕ) (n : ℕ) → (read_by c o ≡ refusal n) ↔ (o ≡ some n)
unfolding read_by
read_number c none n = (λ e. let z : ◌≡◌ {A = ℕ} 0 1 = cc in absurd (omega arith), λ e. let z : ◌≡◌ {A = ℕ} 0 1 = cc in absurd (omega arith))
read_number c (some m) n = (λ e. cc, λ e. cc)

read-deck : (c d : Contents) (o : Option ℕ) → (read_by c o ≡ deck d) ↔ ((o ≡ none) × (c ≡ d))
unfolding read_by
read-deck c d none = (λ e. (refl, cc), λ p. ap deck p.1)
read-deck c d (some m) = (λ e. let z : ◌≡◌ {A = ℕ} 0 1 = cc in absurd (omega arith), λ p. let e = p.0 in let z : ◌≡◌ {A = ℕ} 0 1 = cc in absurd (omega arith))

pub file_refused_lem : (b : List ℕ) (n : ℕ) → (read_file b ≡ refusal n) ↔ FirstFailed n (file_checks b)
unfolding read_file
file_refused_lem b n = (
  λ e. failed_first n (file_checks b) ((read_number (file_contents b) (first_failed (file_checks b)) n).0 e),
  λ r. (read_number (file_contents b) (first_failed (file_checks b)) n).1 (first_fails n (file_checks b) r),
)

pub file-taken : (b : List ℕ) (c : Contents) → (read_file b ≡ deck c) ↔ (Pass (file_checks b) × (file_contents b ≡ c))
unfolding read_file
file-taken b c = (
  λ e. let p = (read-deck (file_contents b) c (first_failed (file_checks b))).0 e in (none_failed (file_checks b) p.0, p.1),
  λ p. (read-deck (file_contents b) c (first_failed (file_checks b))).1 (passes (file_checks b) p.0, p.1),
)

-- A call is refused by n exactly if n's check is the first that fails, and done exactly if all pass.
pub unless-number : (o : Option ℕ) (c : Contents) (after : Unit {0} → Contents) (n : ℕ) → ((unless o c after).reply ≡ refused n) ↔ (o ≡ some n)
unless-number none c after n =
    (λ e. let z : ◌≡◌ {A = ℕ} 0 1 = cc in absurd (omega arith), λ e. let z : ◌≡◌ {A = ℕ} 0 1 = cc in absurd (omega arith))
unless-number (some m) c after n = (λ e. cc, λ e. cc)

pub unless-done : (o : Option ℕ) (c : Contents) (after : Unit {0} → Contents) → ((unless o c after).reply ≡ done) ↔ (o ≡ none)
unless-done none c after = (λ e. refl, λ e. refl)
unless-done (some m) c after =
    (λ e. let z : ◌≡◌ {A = ℕ} 0 1 = cc in absurd (omega arith), λ e. let z : ◌≡◌ {A = ℕ} 0 1 = cc in absurd (omega arith))

-- A call that is done leads to the contents that follow, and one that is refused keeps those it was given.
pub unless-next : (o : Option ℕ) (c : Contents) (after : Unit {0} → Contents) → (unless o c after).reply ≡ done → (unless o c after).next ≡ after tt
unless-next none c after e = refl
unless-next (some m) c after e = let z : ◌≡◌ {A = ℕ} 0 1 = cc in absurd (omega arith)

pub unless-kept : (o : Option ℕ) (c : Contents) (after : Unit {0} → Contents) (n : ℕ) → (unless o c after).reply ≡ refused n → (unless o c after).next ≡ c
unless-kept none c after n e = let z : ◌≡◌ {A = ℕ} 0 1 = cc in absurd (omega arith)
unless-kept (some m) c after n e = refl

module _ (c : Contents) (p : Point) where
  pub add-refused : (k n : ℕ) → ((step c (add p k)).reply ≡ refused n) ↔ FirstFailed n (add_checks p k c.state)
  unfolding step insert_refusal
  add-refused k n =
      let u = unless-number (first_failed (add_checks p k c.state)) c (λ _. following k c (insert p c.state)) n in
      (λ e. failed_first n (add_checks p k c.state) (u.0 e), λ r. u.1 (first_fails n (add_checks p k c.state) r))

  pub add-taken : (k : ℕ) → ((step c (add p k)).reply ≡ done) ↔ Pass (add_checks p k c.state)
  unfolding step insert_refusal
  add-taken k =
      let u = unless-done (first_failed (add_checks p k c.state)) c (λ _. following k c (insert p c.state)) in
      (λ e. none_failed (add_checks p k c.state) (u.0 e), λ a. u.1 (passes (add_checks p k c.state) a))

  pub withdraw-refused : (n : ℕ) → ((step c (withdraw p)).reply ≡ refused n) ↔ FirstFailed n (withdraw_checks p c.state)
  unfolding step remove_refusal
  withdraw-refused n =
      let u = unless-number (first_failed (withdraw_checks p c.state)) c (λ _. following sensor c (remove p c.state)) n in
      (λ e. failed_first n (withdraw_checks p c.state) (u.0 e), λ r. u.1 (first_fails n (withdraw_checks p c.state) r))

  pub withdraw-taken : ((step c (withdraw p)).reply ≡ done) ↔ Pass (withdraw_checks p c.state)
  unfolding step remove_refusal
  withdraw-taken =
      let u = unless-done (first_failed (withdraw_checks p c.state)) c (λ _. following sensor c (remove p c.state)) in
      (λ e. none_failed (withdraw_checks p c.state) (u.0 e), λ a. u.1 (passes (withdraw_checks p c.state) a))

module _ (c : Contents) (tail : ℕ) where
  pub tail-refused : (n : ℕ) → ((step c (set_tail tail)).reply ≡ refused n) ↔ FirstFailed n (tail_checks tail)
  unfolding step tail_refusal
  tail-refused n = (
    λ e. failed_first n (tail_checks tail) ((unless-number (first_failed (tail_checks tail)) c _ n).0 e),
    λ r. (unless-number (first_failed (tail_checks tail)) c _ n).1 (first_fails n (tail_checks tail) r),
  )

  pub tail-taken : ((step c (set_tail tail)).reply ≡ done) ↔ Pass (tail_checks tail)
  unfolding step tail_refusal
  tail-taken = (
    λ e. none_failed (tail_checks tail) ((unless-done (first_failed (tail_checks tail)) c _).0 e),
    λ a. (unless-done (first_failed (tail_checks tail)) c _).1 (passes (tail_checks tail) a),
  )
