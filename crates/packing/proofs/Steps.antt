-- One line of a text of coordinates, from what the functions below hand back: a pin that was added, a line that asks for none, a fault from before.
use mathlib.Core.Path.{◌≡◌, refl, sym, ap, ◌∙◌, subst, subst⁻¹}
use mathlib.Core.Bool.{Bool, true, false}
use mathlib.Core.List.{List}
use Prim.Native.Nat.{ℕ, ◌+◌, ◌≤◌, ◌<◌}
use lib.IntN.{ℤ}
use mir.Syntax.{w32}
use mir.Val.{SFits}
use native.Mathlib.Decide.{dec_lt}
use native.Mathlib.Omega.{arith}
use borrow.Author.Tests.{lt-ltb, le-ltb}
use Rattle.std.specs.Prelude.{Option, None, Some, is_some, min}
use Rattle.arrays.specs.Test.{if}
use Rattle.arrays.proofs.Signed.{read, read_two}
use Rattle.model.specs.Contents.{empty_contents, ValidContents}
use Rattle.model.specs.Round.{finished, tap}
use Rattle.model.specs.Call.{Call, add, Reply, done, refused, answered, rounds, step}
use Rattle.model.proofs.Session.{empty_contents_lem}
use Rattle.model.proofs.Step.{step-valid}
use Rattle.working.specs.declared.deck.WorkingDeck.{WorkingDeck}
use Rattle.working.specs.WorkingDeck.{contents_of}
use Rattle.calls.specs.declared.Changed.{Changed}
use Rattle.calls.specs.Changes.{reply_of, ChangedBy}
use Rattle.pin_line.specs.declared.PinLine.TheVariants as pin_line
use Rattle.pin_line.specs.PinLines.{pin_line_of}
use Rattle.packing.specs.declared.Fault.{Fault}
use Rattle.packing.specs.declared.Fault.TheVariants.{Error}
use Rattle.packing.specs.declared.Packing.{Packing}
use Rattle.packing.specs.Packing.{Packed, nothing_packed, next_number, fault_of, by_call, by_pin, by_line, has_fault, pack_line}
use Rattle.packing.specs.Held.{fault_by, pack_of, Packs, PacksAs}

-- Before the first line.
pub started : (d : WorkingDeck) → contents_of d ≡ empty_contents → PacksAs (record { deck = d; lines = 0; fault = None }) nothing_packed
started d h =
    record {
      packs = record { in_order = d.form.in_order; valid = subst⁻¹ ValidContents h empty_contents_lem };
      is = λ i. record { contents = h i; lines = 0; fault = None };
    }

-- The number of the next line.
number_by : ℕ → Bool → ℕ
number_by n t = if t (λ _. n + 1) (λ _. n)

pub number_more : (n : ℕ) → n < 18446744073709551615 → n + 1 ≡ next_number n
unfolding number_by
number_more n h = ap (number_by n) (sym (lt-ltb n 18446744073709551615 h))

pub number_stops : (n : ℕ) → 18446744073709551615 ≤ n → n ≡ next_number n
unfolding number_by
number_stops n h = ap (number_by n) (sym (le-ltb n 18446744073709551615 h))

pub number_next : (n : ℕ) → n ≤ 18446744073709551615 → min (n + 1) 18446744073709551615 ≡ next_number n
number_next n h = go (dec_lt n 18446744073709551615)
  where
    go : Dec (n < 18446744073709551615) → min (n + 1) 18446744073709551615 ≡ next_number n
    go (yes p) = let e : min (n + 1) 18446744073709551615 ≡ n + 1 = omega arith in e ∙ number_more n p
    go (no p) = let e : min (n + 1) 18446744073709551615 ≡ n = omega arith in e ∙ number_stops n (omega arith)

-- The fault by the program's reply and by the model's.
fault_same : (n : ℕ) (r : Reply) → fault_by n (reply_of r) ≡ fault_of n r
unfolding reply_of
fault_same n done = refl
fault_same n (refused m) = refl
fault_same n (answered finished) = refl
fault_same n (answered (tap p fall)) = refl
fault_same n (rounds m) = refl

none_told : (f : Option Fault) → is_some f ≡ false → f ≡ None
none_told None h = refl
none_told (Some f) h = absurd cc

module _ (d : WorkingDeck) (n : ℕ) where
  -- A pin, whose place was read back from its bits.
  pub pin_added : ValidContents (contents_of d) → (x y : ℤ) (kind : ℕ) → SFits w32 x → SFits w32 y
      → {r : Changed} {f : Option Fault} → ChangedBy d (add (record { x = read x; y = read y }) kind) r → f ≡ fault_by n r.reply
      → PacksAs (record { deck = r.working; lines = n; fault = f }) (by_call n (contents_of d) (add (record { x = x; y = y }) kind))
  unfolding by_call
  pin_added v x y kind fx fy {r} {f} h e =
      record {
        packs = record { in_order = by.in_order; valid = subst⁻¹ ValidContents by.next (step-valid (contents_of d) k v) };
        is = λ i. record {
          contents = by.next i;
          lines = n;
          fault = (e ∙ ap (fault_by n) by.reply ∙ fault_same n (step (contents_of d) k).reply) i;
        };
      }
    where
      k : Call
      k = add (record { x = x; y = y }) kind

      by : ChangedBy d k r
      by = subst (λ (k : Call). ChangedBy d k r) (read_two (λ (x y : ℤ). add (record { x = x; y = y }) kind) x y fx fy) h

  -- What a line asks for.
  module _ (line : List ℕ) where
    module _ (v : ValidContents (contents_of d)) where
      pub line_passed : {f : Option Fault} → is_some f ≡ false → pin_line_of line ≡ pin_line.Passed
          → PacksAs (record { deck = d; lines = n; fault = f }) (by_line n (contents_of d) line)
      unfolding by_pin
      line_passed {f} h e =
          record {
            packs = record { in_order = d.form.in_order; valid = v };
            is = (λ i. record { contents = contents_of d; lines = n; fault = none_told f h i }) ∙ sym (ap (by_pin n (contents_of d)) e);
          }

      pub line_error : pin_line_of line ≡ pin_line.Error → PacksAs (record { deck = d; lines = n; fault = Some (Error n) }) (by_line n (contents_of d) line)
      unfolding by_pin
      line_error e = record { packs = record { in_order = d.form.in_order; valid = v }; is = sym (ap (by_pin n (contents_of d)) e) }

    pub line_pin : (x y : ℤ) (kind : ℕ) → SFits w32 x → SFits w32 y → pin_line_of line ≡ pin_line.Pin x y kind
        → {r : Packing} → PacksAs r (by_call n (contents_of d) (add (record { x = read x; y = read y }) kind)) → PacksAs r (by_line n (contents_of d) line)
    unfolding by_pin
    line_pin x y kind fx fy e h =
        record {
          packs = h.packs;
          is =
              h.is ∙ read_two (λ (x y : ℤ). by_call n (contents_of d) (add (record { x = x; y = y }) kind)) x y fx fy
              ∙ sym (ap (by_pin n (contents_of d)) e);
        }

-- The number of the line by another name.
pub line-number : (d : WorkingDeck) {n m : ℕ} (line : List ℕ) {r : Packing} → n ≡ m → PacksAs r (by_line n (contents_of d) line)
    → PacksAs r (by_line m (contents_of d) line)
line-number d line {r} e h = subst (λ (n : ℕ). PacksAs r (by_line n (contents_of d) line)) e h

-- One more line, by whether there is a fault so far.
module _ (p : Packing) (line : List ℕ) where
  by : Bool → Packed
  by t = if t (λ _. pack_of p) (λ _. by_line (next_number p.lines) (contents_of p.deck) line)

  pub line-next : has_fault p.fault ≡ false → {r : Packing} → PacksAs r (by_line (next_number p.lines) (contents_of p.deck) line)
      → PacksAs r (pack_line (pack_of p) line)
  unfolding pack_line by
  line-next e h = record { packs = h.packs; is = h.is ∙ sym (ap by e) }

  pub line-after-fault : Packs p → has_fault p.fault ≡ true → PacksAs p (pack_line (pack_of p) line)
  unfolding pack_line by
  line-after-fault h e = record { packs = h; is = sym (ap by e) }
