-- Lower, the listing order and the order of runs are strict total orders, each by one key and then by another.
-- The order of runs is that of SPEC 2.1: by length, then by the lower end, then by the higher end.
use mathlib.Core.Path.{◌≡◌, sym}
use mathlib.Core.Logic.{◌⊎◌, inl, inr, ⊎_elim, ◌↔◌}
use Prim.Native.Nat.{ℕ, ◌+◌, ◌≤◌, ◌<◌}
use native.Mathlib.Omega.{arith}
use native.Mathlib.Decide.{dec_lt}
use lib.Dec.{T, ltb, ltb→lt, lt→ltb, nltb→le}
use lib.IntN.{ℤ}
use lib.Signed.{lt_z}
use Rattle.arrays.specs.Order.{StrictTotal}
use Rattle.plane.specs.Point.{Point, lower, Lower}
use Rattle.plane.specs.Edge.{Edge, edge_length, listed_before, before, Before, ComesBefore, shorter, by_lower_end, by_higher_end}
use Rattle.arrays.proofs.Order.{tied, not_less, by_keys, nat_order}
use Rattle.arrays.proofs.Test.{then_by_cases, then_by-first, then_by-next}
use Rattle.plane.proofs.Whole.{plus, minus, whole_ext, less_value, value_less}

pub whole-order : StrictTotal (λ (a b : ℤ). T (lt_z a b))
whole-order =
    record {
      irrefl = λ a t. omega (arith, less_value a a t);
      trans = λ a b c s t. value_less a c (omega (arith, less_value a b s, less_value b c t));
      compare = compare;
    }
  where
    go : (a b : ℤ) → Dec (plus a + minus b < plus b + minus a) → Dec (plus b + minus a < plus a + minus b)
        → T (lt_z a b) ⊎ ((a ≡ b) ⊎ T (lt_z b a))
    go a b (yes h) d = inl (value_less a b h)
    go a b (no h) (yes k) = inr (inr (value_less b a k))
    go a b (no h) (no k) = inr (inl (whole_ext a b (omega arith)))

    compare : (a b : ℤ) → T (lt_z a b) ⊎ ((a ≡ b) ⊎ T (lt_z b a))
    compare a b = go a b (dec_lt (plus a + minus b) (plus b + minus a)) (dec_lt (plus b + minus a) (plus a + minus b))

-- Lower: by x, then by y.
pub lower-order : StrictTotal Lower
unfolding lower
lower-order =
    by_keys (λ (p : Point). p.x) lt_z whole-order (λ (p q : Point). lt_z p.y q.y)
    (λ p. whole-order.irrefl p.y) (λ p q r. whole-order.trans p.y q.y r.y)
    (λ p q e. ⊎_elim (λ h. inl h) (λ r. inr (⊎_elim (λ f. inl (λ i. record { x = e i; y = f i })) (λ k. inr k) r)) (whole-order.compare p.y q.y))

-- The listing order: by the lower end, then by the higher.
pub listed-order : StrictTotal (λ (e f : Edge). T (listed_before e f))
unfolding listed_before
listed-order =
    by_keys (λ (e : Edge). e.lo) lower lower-order (λ (e f : Edge). lower e.hi f.hi)
    (λ e. lower-order.irrefl e.hi) (λ e f g. lower-order.trans e.hi f.hi g.hi)
    (λ e f p. ⊎_elim (λ h. inl h) (λ r. inr (⊎_elim (λ q. inl (λ i. record { lo = p i; hi = q i })) (λ k. inr k) r)) (lower-order.compare e.hi f.hi))

-- The test of the order of runs passes exactly if r comes before s by SPEC 2.1.
pub before_is : (r s : Edge) → Before r s ↔ ComesBefore r s
unfolding before listed_before
before_is r s = (
  λ t. ⊎_elim (λ h. shorter (ltb→lt m n h)) (λ c. by_ends (tied ltb nat_order m n c.0 c.1) c.2)
      (then_by_cases (ltb m n) (ltb n m) (λ _. listed_before r s) t),
  back,
)
  where
    m : ℕ
    m = edge_length r

    n : ℕ
    n = edge_length s

    by_ends : m ≡ n → T (listed_before r s) → ComesBefore r s
    by_ends e t =
        ⊎_elim (λ h. by_lower_end e h) (λ c. by_higher_end e (tied lower lower-order r.lo s.lo c.0 c.1) c.2)
        (then_by_cases (lower r.lo s.lo) (lower s.lo r.lo) (λ _. lower r.hi s.hi) t)

    same_length : m ≡ n → T (listed_before r s) → Before r s
    same_length e t =
        then_by-next (ltb m n) (ltb n m) (λ _. listed_before r s) (not_less ltb nat_order m n e) (not_less ltb nat_order n m (sym e)) t

    back : ComesBefore r s → Before r s
    back (shorter h) = then_by-first (ltb m n) (ltb n m) (λ _. listed_before r s) (lt→ltb m n h)
    back (by_lower_end e h) = same_length e (then_by-first (lower r.lo s.lo) (lower s.lo r.lo) (λ _. lower r.hi s.hi) h)
    back (by_higher_end e p h) =
        same_length e (then_by-next (lower r.lo s.lo) (lower s.lo r.lo) (λ _. lower r.hi s.hi)
        (not_less lower lower-order r.lo s.lo p) (not_less lower lower-order s.lo r.lo (sym p)) h)

-- The order of runs: by length, then by the listing order.
pub before-order : StrictTotal Before
unfolding before
before-order =
    by_keys edge_length ltb nat_order listed_before listed-order.irrefl listed-order.trans (λ e f p. listed-order.compare e f)

-- It agrees with length.
pub before-length : (e f : Edge) → Before e f → edge_length e ≤ edge_length f
unfolding before
before-length e f t =
    ⊎_elim (λ h. omega (arith, ltb→lt (edge_length e) (edge_length f) h)) (λ c. nltb→le (edge_length f) (edge_length e) c.1)
    (then_by_cases (ltb (edge_length e) (edge_length f)) (ltb (edge_length f) (edge_length e)) (λ _. listed_before e f) t)

-- A shorter run comes before.
pub shorter-before : (e f : Edge) → edge_length e < edge_length f → Before e f
unfolding before
shorter-before e f h =
    then_by-first (ltb (edge_length e) (edge_length f)) (ltb (edge_length f) (edge_length e)) (λ _. listed_before e f)
    (lt→ltb (edge_length e) (edge_length f) h)
