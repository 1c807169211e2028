-- When a call is refused, number by number: the first check that fails has that number alone, and the checks say what is asked.
use mathlib.Core.Path.{◌≡◌, refl, sym}
use mathlib.Core.Logic.{◌⊎◌, inl, inr, ⊎_elim}
use mathlib.Core.Bool.{Bool, true, false, not}
use mathlib.Core.List.{Memᴰ}
use Prim.Native.Nat.{ℕ, ◌≤◌, ◌<◌}
use native.Mathlib.Omega.{arith}
use lib.Dec.{T, not_T, leb, leb→le, le→leb, nleb→lt, ltb, ltb→lt, lt→ltb, nltb→le}
use lib.ListN.{length}
use Rattle.plane.specs.Point.{Point, in_range, lower}
use Rattle.plane.proofs.Order.{lower-order}
use Rattle.arrays.specs.Set.{has}
use Rattle.model.specs.Refusal.{FirstFailed, here, later}
use Rattle.model.specs.Contents.{Contents}
use Rattle.model.specs.Call.{add, add_checks, withdraw_checks, tail_checks}
use Rattle.model.specs.CallRefusal.{RefusedBy, AddRefusals, WithdrawRefusals, TailRefusals}
use Rattle.model.proofs.Refusal.{add-refused, add-taken, withdraw-refused, withdraw-taken, tail-refused, tail-taken}
use Rattle.arrays.proofs.Set.{has_in, has_not}

module _ (c : Contents) (p : Point) (k : ℕ) where
  -- The four checks of adding: which of them failed first.
  abbrev Failed : ℕ → Type 0
  Failed n =
      ((n ≡ 7) × ¬ T (in_range p))
      ⊎ (((n ≡ 15) × T (in_range p) × (3 ≤ k))
      ⊎ (((n ≡ 8) × T (in_range p) × (k ≤ 2) × Memᴰ p c.state.pins)
      ⊎ ((n ≡ 10) × T (in_range p) × (k ≤ 2) × (¬ Memᴰ p c.state.pins) × (64 ≤ length c.state.pins))))

  there : ¬ T (not (has lower p c.state.pins)) → Memᴰ p c.state.pins
  there f = (has_in lower lower-order p c.state.pins).0 (held (has lower p c.state.pins) f)
    where
      held : (b : Bool) → ¬ T (not b) → T b
      held true f = tt
      held false f = f tt

  above : ¬ T (leb k 2) → 3 ≤ k
  above f = let h : 2 < k = nleb→lt k 2 (not_T (leb k 2) f) in omega arith

  full : ¬ T (ltb (length c.state.pins) 64) → 64 ≤ length c.state.pins
  full f = nltb→le (length c.state.pins) 64 (not_T (ltb (length c.state.pins) 64) f)

  which : (n : ℕ) → FirstFailed n (add_checks p k c.state) → Failed n
  which n (later t (later u (later v (later _ x)))) = elim x [ ]
  which n (here e f) = inl (sym e, f)
  which n (later t (here e f)) = inr (inl (sym e, t, above f))
  which n (later t (later u (here e f))) = inr (inr (inl (sym e, t, leb→le k 2 u, there f)))
  which n (later t (later u (later v (here e f)))) =
      inr (inr (inr (sym e, t, leb→le k 2 u, (has_not lower lower-order p c.state.pins).0 v, full f)))

  refused_as : (n : ℕ) → RefusedBy c (add p k) n → Failed n
  refused_as n e = which n ((add-refused c p k n).0 e)

  pub add-refusals : AddRefusals c p k
  add-refusals =
      record {
        out_of_range = (
          λ e. ⊎_elim (λ h. h.1) (⊎_elim (λ h. absurd (omega (arith, h.0)))
              (⊎_elim (λ h. absurd (omega (arith, h.0))) (λ h. absurd (omega (arith, h.0))))) (refused_as 7 e),
          λ f. (add-refused c p k 7).1 (here refl f),
        );
        no_kind = (
          λ e. ⊎_elim (λ h. absurd (omega (arith, h.0))) (⊎_elim (λ h. (h.1, h.2))
              (⊎_elim (λ h. absurd (omega (arith, h.0))) (λ h. absurd (omega (arith, h.0))))) (refused_as 15 e),
          λ h. (add-refused c p k 15).1 (later h.0 (here refl (λ t. let m : k ≤ 2 = leb→le k 2 t in omega (arith, m, h.1)))),
        );
        pin_there = (
          λ e. ⊎_elim (λ h. absurd (omega (arith, h.0))) (⊎_elim (λ h. absurd (omega (arith, h.0)))
              (⊎_elim (λ h. (h.1, h.2, h.3)) (λ h. absurd (omega (arith, h.0))))) (refused_as 8 e),
          λ h. (add-refused c p k 8).1
              (later h.0 (later (le→leb k 2 h.1) (here refl (λ t. (has_not lower lower-order p c.state.pins).0 t h.2)))),
        );
        noRoom = (
          λ e. ⊎_elim (λ h. absurd (omega (arith, h.0))) (⊎_elim (λ h. absurd (omega (arith, h.0)))
              (⊎_elim (λ h. absurd (omega (arith, h.0))) (λ h. (h.1, h.2, h.3, h.4)))) (refused_as 10 e),
          λ h. (add-refused c p k 10).1
              (later h.0 (later (le→leb k 2 h.1) (later ((has_not lower lower-order p c.state.pins).1 h.2)
              (here refl (λ t. let m : length c.state.pins < 64 = ltb→lt (length c.state.pins) 64 t in omega (arith, m, h.3)))))),
        );
        taken = (
          λ e. let a = (add-taken c p k).0 e in (
            a.0,
            leb→le k 2 a.1.0,
            (has_not lower lower-order p c.state.pins).0 a.1.1.0,
            ltb→lt (length c.state.pins) 64 a.1.1.1.0,
          ),
          λ h. (add-taken c p k).1
              (h.0, (le→leb k 2 h.1, ((has_not lower lower-order p c.state.pins).1 h.2, (lt→ltb (length c.state.pins) 64 h.3, tt)))),
        );
        others = λ n e. ⊎_elim (λ h. inl h.0)
            (⊎_elim (λ h. inr (inl h.0)) (⊎_elim (λ h. inr (inr (inl h.0))) (λ h. inr (inr (inr h.0))))) (refused_as n e);
      }

module _ (c : Contents) (p : Point) where
  pub withdraw-refusals : WithdrawRefusals c p
  withdraw-refusals =
      record {
        no_pin = (
          λ e i. (none 9 ((withdraw-refused c p 9).0 e)).1 ((has_in lower lower-order p c.state.pins).1 i),
          λ f. (withdraw-refused c p 9).1 (here refl (λ t. f ((has_in lower lower-order p c.state.pins).0 t))),
        );
        taken = (
          λ e. (has_in lower lower-order p c.state.pins).0 ((withdraw-taken c p).0 e).0,
          λ i. (withdraw-taken c p).1 ((has_in lower lower-order p c.state.pins).1 i, tt),
        );
        others = λ n e. (none n ((withdraw-refused c p n).0 e)).0;
      }
    where
      none : (n : ℕ) → FirstFailed n (withdraw_checks p c.state) → (n ≡ 9) × ¬ T (has lower p c.state.pins)
      none n (here e f) = (sym e, f)
      none n (later _ r) = elim r [ ]

module _ (c : Contents) (tail : ℕ) where
  pub tail-refusals : TailRefusals c tail
  tail-refusals =
      record {
        too_long = (
          λ e. let h : 500 < tail = nleb→lt tail 500 (not_T (leb tail 500) (only 16 ((tail-refused c tail 16).0 e)).1) in omega arith,
          λ h. (tail-refused c tail 16).1 (here refl (λ t. let m : tail ≤ 500 = leb→le tail 500 t in omega (arith, m, h))),
        );
        taken = (λ e. leb→le tail 500 ((tail-taken c tail).0 e).0, λ h. (tail-taken c tail).1 (le→leb tail 500 h, tt));
        others = λ n e. (only n ((tail-refused c tail n).0 e)).0;
      }
    where
      only : (n : ℕ) → FirstFailed n (tail_checks tail) → (n ≡ 16) × ¬ T (leb tail 500)
      only n (here e f) = (sym e, f)
      only n (later _ r) = elim r [ ]
