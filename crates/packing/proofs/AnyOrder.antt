-- The order of the lines does not matter. The calls of the same lines in another order are the same in another order, and those that could be added
-- are added in any order; lines without a fault have no first fault, so the input is whole. What is printed is the file of the same pins then.
use mathlib.Core.Path.{◌≡◌, sym, ◌∙◌, subst, subst⁻¹}
use mathlib.Core.Logic.{◌⊎◌, inl, inr, ⊎_elim}
use mathlib.Core.List.{List, [], ◌∷◌, ◌++◌}
use mathlib.Core.List.Permᴰ.{cons as behind}
use mathlib.Core.List.Permᴰ.{nil as same}
use mathlib.Core.List.Permᴰ.{swap as swapped}
use mathlib.Core.List.Permᴰ.{trans as twice}
use mathlib.Core.List.{Permᴰ as Permuted}
use mathlib.Core.List.Permᴰ
use Prim.Native.Nat.{ℕ}
use native.Mathlib.Omega.{arith}
use Rattle.model.specs.Contents.{Contents, empty_contents}
use Rattle.model.specs.Call.{Call, done, refused, step, contents_after}
use Rattle.model.proofs.Session.{empty_contents_lem}
use Rattle.lines.specs.Lines.{all_lines}
use Rattle.pin_line.specs.declared.PinLine.TheVariants as pin_line
use Rattle.pin_line.specs.PinLines.{pin_line_of}
use Rattle.packing.specs.declared.Fault.{Fault}
use Rattle.packing.specs.Printed.{packed}
use Rattle.packing.specs.Claim.{call_of, calls_of, AllDone, Faultless, FirstFault, Whole, Stopped, AnyOrder}
use Rattle.packing.proofs.Addable.{addable_permuted, done_addable, addable_done}
use Rattle.packing.proofs.Claim.{after-append, input_packed}
use Rattle.arrays.proofs.Permuted.{permuted_in, permuted_each, permuted_parts}
use Rattle.packing.proofs.SamePins.{calls-add, same_pins}

calls_permuted : {l m : List (List ℕ)} → Permuted l m → Permuted (calls_of l) (calls_of m)
calls_permuted same = same
calls_permuted (behind {a = a} {l₁ = l} {l₂ = m} e d) =
    subst (λ (b : List ℕ). Permuted (calls_of (a ∷ l)) (calls_of (b ∷ m))) e (Permᴰ.append_left (call_of (pin_line_of a)) (calls_permuted d))
calls_permuted (swapped {a = a} {b = b} {b' = c} {l = l} e f) =
    subst (λ (z : List ℕ). Permuted (calls_of (a ∷ b ∷ l)) (calls_of (z ∷ c ∷ l))) f
    (subst (λ (z : List ℕ). Permuted (calls_of (a ∷ b ∷ l)) (calls_of (b ∷ z ∷ l))) e
    (permuted_parts (call_of (pin_line_of a)) (call_of (pin_line_of b)) (calls_of l)))
calls_permuted (twice c d) = twice (calls_permuted c) (calls_permuted d)

faultless_permuted : (l m : List (List ℕ)) → Permuted l m → Faultless empty_contents l → Faultless empty_contents m
faultless_permuted l m d h =
    record {
      known = permuted_each (λ (x : List ℕ). ¬ (pin_line_of x ≡ pin_line.Error)) d h.known;
      added = addable_done (calls_of m) empty_contents empty_contents_lem
          (addable_permuted empty_contents (calls_permuted d) (done_addable (calls_of l) (calls-add l) empty_contents empty_contents_lem h.added));
    }

-- Lines behind others.
done_behind : (c : Contents) (k l : List Call) → AllDone c (k ++ l) → AllDone (contents_after c k) l
unfolding contents_after
done_behind c [] l h = h
done_behind c (a ∷ k) l h = done_behind (step c a).next k l h.1

faultless_behind : (l m : List (List ℕ)) (c : Contents) → Faultless c (l ++ m) → Faultless (contents_after c (calls_of l)) m
unfolding contents_after
faultless_behind [] m c h = h
faultless_behind (x ∷ l) m c h =
    subst⁻¹ (λ (d : Contents). Faultless d m) (after-append c (call_of (pin_line_of x)) (calls_of l))
    (faultless_behind l m (contents_after c (call_of (pin_line_of x)))
    (record { known = h.known.1; added = done_behind c (call_of (pin_line_of x)) (calls_of (l ++ m)) h.added }))

-- Lines without a fault have no first one.
no_fault : (c : Contents) (n : ℕ) (l : List (List ℕ)) (f : Fault) → Faultless c l → FirstFault c n l f → ⊥
no_fault c n l f h r = ⊎_elim (λ w. rest.known.0 w.0) (λ w. not_refused w.0 w.1.0 w.1.1 w.1.2) r.why
  where
    d : Contents
    d = contents_after c (calls_of r.before)

    rest : Faultless d (r.line ∷ r.after)
    rest = faultless_behind r.before (r.line ∷ r.after) c (subst (Faultless c) r.parts h)

    not_refused : (m : ℕ) (k : Call) → call_of (pin_line_of r.line) ≡ k ∷ [] → (step d k).reply ≡ refused m → ⊥
    not_refused m k e g =
        let t : done ≡ refused m = sym (subst (λ (z : List Call). AllDone d (z ++ calls_of r.after)) e rest.added).0 ∙ g in
        let z : ◌≡◌ {A = ℕ} 0 1 = cc in
        omega arith

faultless_whole : (input : List ℕ) → Faultless empty_contents (all_lines input) → Whole input
faultless_whole input h = ⊎_elim (λ w. w) (λ s. absurd (no_fault empty_contents 0 (all_lines input) s.fault h s.first)) (input_packed input)

whole_permuted : (a b : List ℕ) → Permuted (all_lines a) (all_lines b) → Whole a → Whole b
whole_permuted a b d w = faultless_whole b (faultless_permuted (all_lines a) (all_lines b) d w.good)

-- The claim.
pub any_order : AnyOrder
any_order a b d = ((whole_permuted a b d, whole_permuted b a (Permᴰ.symm d)), go (input_packed a) (input_packed b))
  where
    files : Whole a → Whole b → (packed a).out ≡ (packed b).out
    files v w = same_pins a b v w (λ k. (permuted_in (calls_permuted d), permuted_in (Permᴰ.symm (calls_permuted d))))

    go : Whole a ⊎ Stopped a → Whole b ⊎ Stopped b → (packed a).out ≡ (packed b).out
    go (inl v) r = files v (whole_permuted a b d v)
    go (inr s) (inl w) = files (whole_permuted b a (Permᴰ.symm d) w) w
    go (inr s) (inr t) = s.out ∙ sym t.out
