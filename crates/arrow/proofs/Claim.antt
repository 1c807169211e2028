-- What is claimed of arrows: the entries of the table by their places, the quotients by size and sign, and each answer by the tests.
use mathlib.Core.Path.{◌≡◌, refl, sym, ap, ap₂, subst, ◌∙◌}
use mathlib.Core.Logic.{◌⊎◌, ◌↔◌, inl, inr}
use mathlib.Core.Bool.{Bool, true, false, ◌&&◌}
use mathlib.Core.Option.{Option, none, some}
use Prim.Native.Nat.{ℕ, ◌+◌, ◌*◌, ◌/◌, ◌%◌, ◌≤◌, ◌<◌}
use native.Mathlib.Omega.{arith}
use lib.Dec.{T, le→leb, leb→le}
use lib.IntN.{ℤ, pos, nat_abs, sub_ℕ, ◌-ℤ◌}
use lib.ListN.{get_or, get_or-eq_default}
use lib.Signed.{le_z, quot_z}
use Rattle.arrays.specs.Text.{byte}
use Rattle.arrays.proofs.Tab.{tab-length, tab_get}
use Rattle.arrays.proofs.Test.{and_parts, and_both, true_of, of_true, false_of}
use Rattle.model.specs.Refusal.{first_failed, FirstFailed}
use Rattle.model.proofs.Refusal.{first_failed_lem}
use Rattle.plane.specs.Point.{Point}
use Rattle.octants.specs.Octant.{in_octant, octant}
use Rattle.plane.proofs.Whole.{sub_value, abs_value, whole_ext}
use Rattle.octants.proofs.OneOctant.{octant_is, one_octant}
use Rattle.octants.proofs.Between.{octant-most, octant_none}
use Rattle.plane.proofs.Stored.{moved}
use Rattle.std.proofs.Common.{Result, Ok, Err}
use Rattle.table.specs.Table.{table_limit, in_table, difference_at, entry_at, arrow_table, offset, entry}
use Rattle.arrow.specs.Arrow.{is_pitch, arrow_checks, unless, arrow, glyphs, glyph}
use Rattle.arrow.specs.Claim.{TableOfOctants, TowardZero, ArrowFor, Arrows}
use Rattle.arrow.proofs.Quotient.{toward_zero, only_quotient}
use Rattle.table.proofs.Entries.{offset-small}
use Rattle.arrow.proofs.Answers.{same_arrow, arrow_no_refusal, x-pitches, y-pitches, bad_pitch_lem, far, near}

-- The entry at row j and place i.
at_place : (i j : ℕ) → i < 31 → j < 31 → get_or arrow_table (31 * j + i) 0 ≡ octant (sub_ℕ i 15) (sub_ℕ j 15)
unfolding arrow_table entry_at
at_place i j h k =
    tab_get entry_at 961 (31 * j + i) 0 (omega arith)
    ∙ (let column : (31 * j + i) % 31 ≡ i = omega arith in
    let row : (31 * j + i) / 31 ≡ j = omega arith in
    ap₂ (λ a b. octant (difference_at a) (difference_at b)) column row)

no_difference : octant (pos 0) (pos 0) ≡ 8
no_difference = octant_none (pos 0) (pos 0) refl refl

pub table_of_octants : TableOfOctants
unfolding arrow_table
table_of_octants =
    record {
      size = tab-length entry_at 961;
      entries = λ i j h k n. at_place i j h k;
      here = at_place 15 15 (omega arith) (omega arith) ∙ no_difference;
    }

-- The entry of a difference in the table is its octant.
back : (d : ℤ) → T (in_table d) → difference_at (offset d) ≡ d
back d t =
    let h = leb→le (nat_abs d) table_limit t in
    let m = moved d table_limit (omega (arith, abs_value d)) in
    whole_ext (difference_at (offset d)) d (omega (arith, m, sub_value (offset d) table_limit))

pub entry-octant : (dx dy : ℤ) → T (in_table dx) → T (in_table dy) → entry dx dy ≡ octant dx dy
unfolding entry
entry-octant dx dy s t =
    at_place (offset dx) (offset dy) (offset-small dx s) (offset-small dy t) ∙ ap₂ octant (back dx s) (back dy t)

-- The answers by the two tests; that of the pitch is the first.
module _ (display bay : Point) (p : ℤ) where
  abbrev inside : Bool
  inside = in_table (x-pitches display bay p) && in_table (y-pitches display bay p)

  data Seen : Result ℕ ℕ → Type 0 where
    bad_pitch : is_pitch p ≡ false → Seen (Err 13)
    too_far : is_pitch p ≡ true → inside ≡ false → Seen (Err 14)
    in_the_table : is_pitch p ≡ true → inside ≡ true → Seen (Ok (entry (x-pitches display bay p) (y-pitches display bay p)))

  seen : Seen (arrow display bay p)
  seen = go (is_pitch p) refl inside refl
    where
      go : (b : Bool) → is_pitch p ≡ b → (c : Bool) → inside ≡ c → Seen (arrow display bay p)
      go false e c f = subst Seen (bad_pitch_lem display bay p e) (bad_pitch e)
      go true e false f = subst Seen (far display bay p e f) (too_far e f)
      go true e true f = subst Seen (near display bay p e f) (in_the_table e f)

  pub bad_pitch_only : (arrow display bay p ≡ Err 13) ↔ ¬ (T (le_z (pos 1) p) × T (le_z p (pos 1000)))
  bad_pitch_only = (
    λ e h. no_both (from (arrow display bay p) seen e) (and_both (le_z (pos 1) p) (le_z p (pos 1000)) h.0 h.1),
    λ n. sym (bad_pitch_lem display bay p (false_of (is_pitch p) (λ t. n (and_parts (le_z (pos 1) p) (le_z p (pos 1000)) t)))),
  )
    where
      from : (a : Result ℕ ℕ) → Seen a → a ≡ Err 13 → is_pitch p ≡ false
      from a (bad_pitch e) q = e
      from a (too_far e f) q = let z : ◌≡◌ {A = ℕ} 14 13 = cc in absurd (omega arith)
      from a (in_the_table e f) q = let z : ◌≡◌ {A = ℕ} 0 1 = cc in absurd (omega arith)

      no_both : {b : Bool} → b ≡ false → T b → ⊥
      no_both e t = subst T e t

  pub other_numbers : (n : ℕ) → arrow display bay p ≡ Err n → (n ≡ 13) ⊎ (n ≡ 14)
  other_numbers n = from (arrow display bay p) seen
    where
      from : (a : Result ℕ ℕ) → Seen a → a ≡ Err n → (n ≡ 13) ⊎ (n ≡ 14)
      from a (bad_pitch e) q = let z : 13 ≡ n = cc in inl (sym z)
      from a (too_far e f) q = let z : 14 ≡ n = cc in inr (sym z)
      from a (in_the_table e f) q = let z : ◌≡◌ {A = ℕ} 0 1 = cc in absurd (omega arith)

  -- Each number exactly if its test is the first that fails.
  pub arrow-refused : (n : ℕ) → (arrow display bay p ≡ Err n) ↔ FirstFailed n (arrow_checks display bay p)
  unfolding arrow
  arrow-refused n =
      let f = first_failed_lem n (arrow_checks display bay p) in
      let u = by_number (first_failed (arrow_checks display bay p)) (entry (x-pitches display bay p) (y-pitches display bay p)) in
      (λ e. f.0 (u.0 e), λ r. u.1 (f.1 r))
    where
      by_number : (o : Option ℕ) (k : ℕ) → (unless o k ≡ Err n) ↔ (o ≡ some n)
      by_number none k =
          (λ e. let z : ◌≡◌ {A = ℕ} 0 1 = cc in absurd (omega arith), λ e. let z : ◌≡◌ {A = ℕ} 0 1 = cc in absurd (omega arith))
      by_number (some m) k = (λ e. cc, λ e. cc)

  -- An arrow is 8 at most.
  pub arrow-answered : ((k : ℕ) × (k ≤ 8) × (arrow display bay p ≡ Ok k))
      ⊎ ((n : ℕ) × ((n ≡ 13) ⊎ (n ≡ 14)) × (arrow display bay p ≡ Err n))
  arrow-answered = from (arrow display bay p) seen refl
    where
      from : (a : Result ℕ ℕ) → Seen a → arrow display bay p ≡ a
          → ((k : ℕ) × (k ≤ 8) × (arrow display bay p ≡ Ok k)) ⊎ ((n : ℕ) × ((n ≡ 13) ⊎ (n ≡ 14)) × (arrow display bay p ≡ Err n))
      from a (bad_pitch e) q = inr (13, inl refl, q)
      from a (too_far e f) q = inr (14, inr refl, q)
      from a (in_the_table t f) q =
          let r = and_parts (in_table (x-pitches display bay p)) (in_table (y-pitches display bay p)) (of_true f) in
          let k = entry (x-pitches display bay p) (y-pitches display bay p) in
          let e = entry-octant (x-pitches display bay p) (y-pitches display bay p) r.0 r.1 in
          inl (k, omega (arith, e, octant-most (x-pitches display bay p) (y-pitches display bay p)), q)

-- What is indicated where the pitch is taken, by quotients toward zero.
module _ (display bay : Point) (n : ℕ) (h : 1 ≤ n) (k : n ≤ 1000) (qx qy : ℤ)
    (x : TowardZero (bay.x -ℤ display.x) n qx) (y : TowardZero (bay.y -ℤ display.y) n qy) where
  pitch : is_pitch (pos n) ≡ true
  pitch = true_of (is_pitch (pos n)) (and_both (le_z (pos 1) (pos n)) (le_z (pos n) (pos 1000)) (le→leb 1 n h) (le→leb n 1000 k))

  within : nat_abs qx ≤ 15 → nat_abs qy ≤ 15 → arrow display bay (pos n) ≡ Ok (octant qx qy)
  within a b =
      let s = le→leb (nat_abs qx) 15 a in
      let t = le→leb (nat_abs qy) 15 b in
      let both : in_table (x-pitches display bay (pos n)) && in_table (y-pitches display bay (pos n)) ≡ true =
      ap₂ (λ u v. in_table u && in_table v) (sym (only_quotient _ n qx x)) (sym (only_quotient _ n qy y))
      ∙ true_of (in_table qx && in_table qy) (and_both (in_table qx) (in_table qy) s t) in
      sym (near display bay (pos n) pitch both)
      ∙ ap Ok (ap₂ entry (sym (only_quotient _ n qx x)) (sym (only_quotient _ n qy y)) ∙ entry-octant qx qy s t)

  beyond : ¬ ((nat_abs qx ≤ 15) × (nat_abs qy ≤ 15)) → arrow display bay (pos n) ≡ Err 14
  beyond m =
      sym (far display bay (pos n) pitch
      (ap₂ (λ u v. in_table u && in_table v) (sym (only_quotient _ n qx x)) (sym (only_quotient _ n qy y))
      ∙ false_of (in_table qx && in_table qy)
      (λ t. let r = and_parts (in_table qx) (in_table qy) t in m (leb→le (nat_abs qx) 15 r.0, leb→le (nat_abs qy) 15 r.1))))

  pub arrow_for_lem : ArrowFor display bay (pos n) qx qy
  arrow_for_lem =
      record {
        too_far = (λ e s. arrow_no_refusal (sym (within s.0 s.1) ∙ e), beyond);
        here = λ z. within (small z.0) (small z.1) ∙ ap Ok (ap₂ octant z.0 z.1 ∙ no_difference);
        points = λ a b z j. (
          λ e. subst (λ (m : ℕ). T (in_octant m qx qy)) (same_arrow (sym (within a b) ∙ e)) (one_octant qx qy z).1,
          λ t. within a b ∙ ap Ok (octant_is j qx qy t),
        );
      }
    where
      small : {q : ℤ} → q ≡ pos 0 → nat_abs q ≤ 15
      small e = subst (λ (q : ℤ). nat_abs q ≤ 15) (sym e) (omega arith)

pub no_arrow_lem : (n : ℕ) → 9 ≤ n → glyph n ≡ byte "?"
unfolding glyph
no_arrow_lem n h = get_or-eq_default glyphs (byte "?") h

pub arrows : Arrows
unfolding glyph
arrows =
    record {
      table = table_of_octants;
      bad_pitch = bad_pitch_only;
      others = other_numbers;
      quotient = λ d n h. (quot_z d (pos n), toward_zero d n h, only_quotient d n);
      arrow_for = arrow_for_lem;
      glyphs = refl;
      no_arrow = no_arrow_lem;
    }
