-- A template filled byte by byte: what is put so far, and what the rest of it becomes, is the whole text.
use mathlib.Core.Path.{◌≡◌, refl, sym, ap, ◌∙◌, subst}
use mathlib.Core.List.{List, [], ◌++◌, append_assoc, append-nil}
use Prim.Native.Nat.{ℕ, ◌+◌, ◌*◌, ◌-◌, ◌≤◌, ◌<◌}
use native.Mathlib.Numerals.{add-one}
use native.Mathlib.Omega.{arith}
use lib.ListN.{length, drop, get_or, drop_of_length-le}
use lib.Seq.{drop-cons}
use Rattle.arrays.specs.Paste.{Pasted}
use Rattle.arrays.proofs.paste.Parts.{pasted_none, pasted_then, pasted_same}
use Rattle.template.specs.Template.{number_room, item_text, filled, Puts}
use Rattle.template.specs.declared.Place.{Place}

-- The first i bytes of a template are put, with the first `used` numbers, up to the place `next`.
pub record Filling (template numbers before after : List ℕ) (at next used i : ℕ) : Type 0 where
  pub done : List ℕ
  pub put : Pasted done before after at next
  pub rest : done ++ filled (drop i template) (drop used numbers) ≡ filled template numbers
  pub within : i ≤ length template
  pub known : used ≤ length numbers
  pub room : next + (length template - i) + number_room * (length numbers - used) ≤ at + (length template + number_room * length numbers)
  pub same : length after ≡ length before

module _ (template numbers before : List ℕ) (at : ℕ) where
  pub fill_none : Filling template numbers before before at at 0 0
  fill_none =
      record { done = []; put = first; rest = refl; within = omega arith; known = omega arith; room = omega arith; same = refl }
    where
      zero_more : at + 0 ≡ at
      zero_more = omega arith

      first : Pasted [] before before at at
      first = subst (λ (k : ℕ). Pasted [] before before at k) zero_more (pasted_none before at)

  pub fill_more : {after after' : List ℕ} {next used i : ℕ} (r : Place) → Filling template numbers before after at next used i → i < length template
      → at + (length template + number_room * length numbers) + number_room ≤ length before
      → Puts (get_or template i 0) numbers after after' next used r → length after' ≡ length after
      → Filling template numbers before after' at r.next r.used (i + 1)
  unfolding filled
  fill_more {after} {after'} {next} {used} {i} r f h fits p size =
      record {
        done = f.done ++ item;
        put = pasted_then f.put (omega (arith, f.room, fits)) p.text;
        rest = append_assoc f.done item (filled (drop (i + 1) template) (drop r.used numbers)) ∙ ap (λ (t : List ℕ). f.done ++ t) one_more ∙ f.rest;
        within = omega arith;
        known = p.within;
        room = omega (arith, f.room, p.room, h);
        same = size ∙ f.same;
      }
    where
      b : ℕ
      b = get_or template i 0

      item : List ℕ
      item = item_text b (drop used numbers)

      one_more : item ++ filled (drop (i + 1) template) (drop r.used numbers) ≡ filled (drop i template) (drop used numbers)
      one_more =
          (λ j. item ++ filled (drop (add-one i j) template) (p.left j))
          ∙ sym (ap (λ (t : List ℕ). filled t (drop used numbers)) (drop-cons template i 0 h))

  pub fill_end : {after : List ℕ} {next used i : ℕ} → Filling template numbers before after at next used i → length template ≤ i
      → Pasted (filled template numbers) before after at next × (next ≤ at + (length template + number_room * length numbers))
  unfolding filled
  fill_end {after} {next} {used} f h =
      let e = ap (λ (t : List ℕ). f.done ++ filled t (drop used numbers)) (sym (drop_of_length-le template h)) in
      (pasted_same (sym (append-nil f.done) ∙ e ∙ f.rest) f.put, omega (arith, f.room))
