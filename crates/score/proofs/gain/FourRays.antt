-- The gain of four rays, from the parts that are worked out one by one.
use mathlib.Core.Path.{◌≡◌}
use mathlib.Core.List.{[], ◌∷◌}
use Prim.Native.Nat.{ℕ, ◌+◌, ◌-◌}
use native.Mathlib.Omega.{arith}
use Rattle.regions.specs.Rays.{ray_length, ray_point, far}
use Rattle.score.specs.Gain.{over, bound, gain}

sum : {a b c d a' b' c' d' : ℕ} → a ≡ a' → b ≡ b' → c ≡ c' → d ≡ d' → a + b + c + d ≡ 0 + a' + b' + c' + d'
sum ea eb ec ed = omega arith

pub four : (t : ℕ → ℕ → ℕ) (e w n s : ℕ) {bw bn' bn bs'' bs' bs a b c d : ℕ}
    → bw ≡ over t e (ray_point w) far → bn' ≡ over t e (ray_point n) far → bn ≡ over t w (ray_point n) bn'
    → bs'' ≡ over t e (ray_point s) far → bs' ≡ over t w (ray_point s) bs'' → bs ≡ over t n (ray_point s) bs'
    → a ≡ far - ray_length e → b ≡ bw - ray_length w → c ≡ bn - ray_length n → d ≡ bs - ray_length s
    → a + b + c + d ≡ gain t (s ∷ n ∷ w ∷ e ∷ [])
unfolding gain bound
four t e w n s ew en' en es'' es' es ea eb ec ed = sum ea (cc) (cc) (cc)
