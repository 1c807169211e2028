-- `words::hex::decode` meets its contract. The invariant: the bytes of the first k pairs of digits are written.
use mathlib.Core.Path.{◌≡◌, subst}
use Prim.Native.Nat.{ℕ, ◌+◌, ◌*◌}
use native.Mathlib.Omega.{arith}
use lib.ListN.{set}
use Rattle.words.proofs.hex.Bytes.{step_at, Decoded, decoded_none, decoded_more, decoded_all, some_digit, digit_read}
use Rattle.words.proofs.hex.decode.Goals as goal

pub loop-k-init : goal.loop-k-init
loop-k-init c = decoded_none _ _ c.requires

pub unwrap-high-requires : goal.unwrap-high-requires
unwrap-high-requires c = some_digit _ _ c.digit.ensures (step_at c.args.word.now (2 * c.loop-k.k) (omega arith) c.loop-k.invariant.hex).high

pub unwrap-low-requires : goal.unwrap-low-requires
unwrap-low-requires c = some_digit _ _ c.digit-in-loop-k.ensures (step_at c.args.word.now (2 * c.loop-k.k) (omega arith) c.loop-k.invariant.hex).low

pub loop-k-preserved : goal.loop-k-preserved
loop-k-preserved c = let l = c.loop-k in
    let next : 2 * l.k + 2 ≡ 2 * (l.k + 1) = omega arith in
    subst (λ (n : ℕ). Decoded c.args.word.now c.args.out.now (set l.out l.k (16 * c.unwrap-high.result + c.unwrap-low.result)) n (l.k + 1)) next
    (decoded_more _ _ _ (2 * l.k) l.k l.invariant _ _ (digit_read _ _ _ c.digit.ensures c.unwrap-high.ensures)
    (digit_read _ _ _ c.digit-in-loop-k.ensures c.unwrap-low.ensures) (omega arith) (omega arith))

pub returns : goal.returns
returns c = decoded_all c.args.word.now c.args.out.now c.loop-k.out c.loop-k.k c.min-count.result c.loop-k.invariant (omega arith) (omega arith)
