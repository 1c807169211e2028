-- What is printed for an input: by recursion over its lines, from any contents and any number of lines before. A line that is passed over or whose pin
-- is added goes on; any other is the first fault, and nothing changes behind it.
use mathlib.Core.Path.{◌≡◌, refl, sym, ap, ◌∙◌, subst, subst⁻¹}
use mathlib.Core.Logic.{◌⊎◌, inl, inr, ⊎_elim}
use mathlib.Core.Bool.{Bool, true}
use mathlib.Core.Option as option
use Rattle.std.specs.Prelude.{Option, Some, None}
use mathlib.Core.List.{List, [], ◌∷◌, ◌++◌}
use Prim.Native.Nat.{ℕ, zero, suc, ◌+◌, ◌≤◌, ◌<◌}
use native.Mathlib.Decide.{dec_le}
use native.Mathlib.Omega.{arith}
use lib.ListN.{length}
use borrow.Author.Tests.{lt-ltb, le-ltb}
use Rattle.arrays.specs.Set.{Each, out}
use Rattle.arrays.specs.Test.{if}
use Rattle.plane.specs.Point.{Point, lower}
use Rattle.model.specs.State.{prune_from, prune, insert}
use Rattle.model.specs.Contents.{Contents, with_tail, empty_contents, following}
use Rattle.model.specs.Tail.{no_tail}
use Rattle.model.specs.Call.{Call, add, done, refused, insert_refusal, unless, step, contents_after}
use Rattle.model.specs.File.{deck, plain_file_of, read_file}
use Rattle.model.proofs.PlainFile.{pins_alone, plain-read}
use Rattle.model.specs.TailClaim.{SetsNoTail}
use Rattle.model.proofs.TailsFollow.{adding_sets_none, tail-after}
use Rattle.model.proofs.Session.{empty_contents_lem}
use Rattle.model.proofs.Step.{after-valid}
use Rattle.lines.specs.Lines.{all_lines, state_after}
use Rattle.lines.proofs.Input.{all_lines-taken}
use Rattle.pin_line.specs.declared.PinLine.{PinLine}
use Rattle.pin_line.specs.declared.PinLine.TheVariants as pin_line
use Rattle.pin_line.specs.PinLines.{pin_line_of}
use Rattle.packing.specs.declared.Fault.{Fault}
use Rattle.packing.specs.declared.Fault.TheVariants.{Error, Refused}
use Rattle.packing.specs.Packing.{Packed, nothing_packed, next_number, fault_of, by_call, by_pin, by_line, has_fault, pack_line, pack_input}
use Rattle.packing.specs.Printed.{fault_text, packed_file, packed}
use Rattle.packing.specs.Claim.{call_of, calls_of, AllDone, Faultless, number_behind, PinRefused, FirstFault, Whole, Stopped, InputPacked, InputTaken}
use Rattle.packing.proofs.Steps.{number_more, number_stops}

-- The number of a line, by whether it is the largest.
number-below : (k : ℕ) → k < 18446744073709551615 → number_behind k ≡ suc k
number-below k h = rw (lt-ltb k 18446744073709551615 h) refl

number-largest : (k : ℕ) → 18446744073709551615 ≤ k → number_behind k ≡ 18446744073709551615
number-largest k h = rw (le-ltb k 18446744073709551615 h) refl

-- How many lines are counted after k of them; one more is the number of the next line.
abbrev counted : ℕ → ℕ
counted zero = 0
counted (suc k) = number_behind k

next-counted : (k : ℕ) → next_number (counted k) ≡ number_behind k
next-counted zero = refl
next-counted (suc k) = go (dec_le 18446744073709551615 k) (dec_le 18446744073709551615 (suc k))
  where
    go : Dec (18446744073709551615 ≤ k) → Dec (18446744073709551615 ≤ suc k) → next_number (number_behind k) ≡ number_behind (suc k)
    go (yes h) j =
        ap next_number (number-largest k h) ∙ sym (number_stops 18446744073709551615 (omega arith)) ∙ sym (number-largest (suc k) (omega arith))
    go (no h) (yes j) =
        let e : suc k ≡ 18446744073709551615 = omega arith in
        ap next_number (number-below k (omega arith) ∙ e) ∙ sym (number_stops 18446744073709551615 (omega arith)) ∙ sym (number-largest (suc k) j)
    go (no h) (no j) =
        let e : suc k + 1 ≡ suc (suc k) = omega arith in
        ap next_number (number-below k (omega arith)) ∙ sym (number_more (suc k) (omega arith)) ∙ e ∙ sym (number-below (suc k) (omega arith))

-- Calls one behind the other.
pub after-append : (c : Contents) (l m : List Call) → contents_after c (l ++ m) ≡ contents_after (contents_after c l) m
unfolding contents_after
after-append c [] m = refl
after-append c (k ∷ l) m = after-append (step c k).next l m

done-append : (c : Contents) (l m : List Call) → AllDone c l → AllDone (contents_after c l) m → AllDone c (l ++ m)
unfolding contents_after
done-append c [] m a b = b
done-append c (k ∷ l) m a b = (a.0, done-append (step c k).next l m a.1 b)

-- An addition is done, or refused.
add-replies : (c : Contents) (p : Point) (k : ℕ) → ((step c (add p k)).reply ≡ done) ⊎ ((m : ℕ) × ((step c (add p k)).reply ≡ refused m))
unfolding step
add-replies c p k = go (insert_refusal p k c.state)
  where
    go : (o : option.Option ℕ) → ((unless o c (λ _. following k c (insert p c.state))).reply ≡ done)
        ⊎ ((m : ℕ) × ((unless o c (λ _. following k c (insert p c.state))).reply ≡ refused m))
    go option.none = inl refl
    go (option.some m) = inr (m, refl)

-- After a fault nothing changes any more.
stays : (r : Packed) → ((l : List ℕ) → pack_line r l ≡ r) → (ls : List (List ℕ)) → state_after pack_line r ls ≡ r
unfolding state_after
stays r h [] = refl
stays r h (l ∷ ls) = ap (λ (s : Packed). state_after pack_line s ls) (h l) ∙ stays r h ls

fault-stays : (r : Packed) → has_fault r.fault ≡ true → (l : List ℕ) → pack_line r l ≡ r
unfolding pack_line
fault-stays r e l = ap (λ (t : Bool). if t (λ _. r) (λ _. by_line (next_number r.lines) r.contents l)) e

-- Where lines lead to without a fault.
record Taken (c : Contents) (lines : List (List ℕ)) (r : Packed) : Type 0 where
  good : Faultless c lines
  contents : r.contents ≡ contents_after c (calls_of lines)
  fault : r.fault ≡ None

-- Where lines lead to, from the contents c and k lines before.
abbrev Result : Contents → ℕ → List (List ℕ) → Packed → Type 0
Result c k lines r = Taken c lines r ⊎ ((f : Fault) × FirstFault c k lines f × (r.fault ≡ Some f))

abbrev at : Contents → ℕ → Packed
at c k = record { contents = c; lines = counted k; fault = None }

-- A line that asks for these calls, which are all done, in front of others.
module _ (c : Contents) (k : ℕ) (l : List ℕ) (ls : List (List ℕ)) (known : ¬ (pin_line_of l ≡ pin_line.Error)) (added : AllDone c (call_of (pin_line_of l)))
  where
    abbrev next : Contents
    next = contents_after c (call_of (pin_line_of l))

    longer : (m : List (List ℕ)) → Faultless next m → Faultless c (l ∷ m)
    longer m g = record { known = (known, g.known); added = done-append c (call_of (pin_line_of l)) (calls_of m) added g.added }

    fault_behind : {g : Fault} → FirstFault next (suc k) ls g → FirstFault c k (l ∷ ls) g
    fault_behind f =
        record {
          before = l ∷ f.before;
          line = f.line;
          after = f.after;
          parts = ap (λ (m : List (List ℕ)). l ∷ m) f.parts;
          good = longer f.before f.good;
          why = ⊎_elim (λ w. inl (w.0, w.1 ∙ ap (λ (n : ℕ). Error (number_behind n)) number))
              (λ w. inr (
                w.0,
                subst⁻¹ (λ (d : Contents). PinRefused d f.line w.0) (after-append c (call_of (pin_line_of l)) (calls_of f.before)) w.1,
                w.2 ∙ ap (λ (n : ℕ). Refused (number_behind n) w.0) number,
              ))
              f.why;
        }
      where
        number : suc k + length f.before ≡ k + suc (length f.before)
        number = omega arith

    in_front : (r : Packed) → Result next (suc k) ls r → Result c k (l ∷ ls) r
    in_front r (inl t) =
        inl (record {
          good = longer ls t.good;
          contents = t.contents ∙ sym (after-append c (call_of (pin_line_of l)) (calls_of ls));
          fault = t.fault;
        })
    in_front r (inr f) = inr (f.0, fault_behind f.1, f.2)

-- Which variant it is.
abbrev variant : PinLine → ℕ
variant pin_line.Passed = 0
variant pin_line.Error = 1
variant (pin_line.Pin x y kind) = 2

-- The first line of several, by what it asks for.
module _ (c : Contents) (k : ℕ) (l : List ℕ) (ls : List (List ℕ)) (rest : (d : Contents) → Result d (suc k) ls (state_after pack_line (at d (suc k)) ls)) where
  first : (q : PinLine) → pin_line_of l ≡ q → pack_line (at c k) l ≡ by_pin (number_behind k) c q
  unfolding pack_line
  first q e = λ i. by_pin (next-counted k i) c (e i)

  -- What it leads to.
  moved : (r : Packed) → pack_line (at c k) l ≡ r → Result c k (l ∷ ls) (state_after pack_line r ls)
      → Result c k (l ∷ ls) (state_after pack_line (at c k) (l ∷ ls))
  unfolding state_after
  moved r e h = subst⁻¹ (λ (s : Packed). Result c k (l ∷ ls) (state_after pack_line s ls)) e h

  goes_on : (d : Contents) → d ≡ contents_after c (call_of (pin_line_of l)) → ¬ (pin_line_of l ≡ pin_line.Error) → AllDone c (call_of (pin_line_of l))
      → pack_line (at c k) l ≡ at d (suc k) → Result c k (l ∷ ls) (state_after pack_line (at c k) (l ∷ ls))
  goes_on d e known added f =
      moved (at d (suc k)) f
      (in_front c k l ls known added _ (subst (λ (b : Contents). Result b (suc k) ls (state_after pack_line (at d (suc k)) ls)) e (rest d)))

  stops : (r : Packed) (f : Fault) → r.fault ≡ Some f → pack_line (at c k) l ≡ r → ((m : List ℕ) → pack_line r m ≡ r)
      → ((pin_line_of l ≡ pin_line.Error) × (f ≡ Error (number_behind k))) ⊎ ((m : ℕ) × PinRefused c l m × (f ≡ Refused (number_behind k) m))
      → Result c k (l ∷ ls) (state_after pack_line (at c k) (l ∷ ls))
  unfolding contents_after
  stops r f is e h why = moved r e (subst⁻¹ (Result c k (l ∷ ls)) (stays r h ls) (inr (f, here, is)))
    where
      number : k ≡ k + 0
      number = omega arith

      here : FirstFault c k (l ∷ ls) f
      here =
          record {
            before = [];
            line = l;
            after = ls;
            parts = refl;
            good = record { known = tt; added = tt };
            why = ⊎_elim (λ w. inl (w.0, w.1 ∙ ap (λ (n : ℕ). Error (number_behind n)) number))
                (λ w. inr (w.0, w.1, w.2 ∙ ap (λ (n : ℕ). Refused (number_behind n) w.0) number)) why;
          }

  -- A pin: it is added, or refused.
  pin_line_lem : (p : Point) (kind : ℕ) → ¬ (pin_line_of l ≡ pin_line.Error) → call_of (pin_line_of l) ≡ add p kind ∷ []
      → pack_line (at c k) l ≡ by_call (number_behind k) c (add p kind) → Result c k (l ∷ ls) (state_after pack_line (at c k) (l ∷ ls))
  unfolding by_call contents_after
  pin_line_lem p kind known calls f =
      ⊎_elim
      (λ e. goes_on (step c (add p kind)).next (sym (ap (contents_after c) calls)) known (subst⁻¹ (AllDone c) calls (e, tt))
      (f ∙ (λ i. record { contents = (step c (add p kind)).next; lines = number_behind k; fault = fault_of (number_behind k) (e i) })))
      (λ w. let r : Packed = record { contents = (step c (add p kind)).next; lines = number_behind k; fault = Some (Refused (number_behind k) w.0) } in
      stops r (Refused (number_behind k) w.0) refl
      (f ∙ (λ i. record { contents = (step c (add p kind)).next; lines = number_behind k; fault = fault_of (number_behind k) (w.1 i) }))
      (fault-stays r refl) (inr (w.0, (add p kind, calls, w.1), refl)))
      (add-replies c p kind)

  one_line : Result c k (l ∷ ls) (state_after pack_line (at c k) (l ∷ ls))
  unfolding by_pin contents_after
  one_line = go (pin_line_of l) refl
    where
      go : (q : PinLine) → pin_line_of l ≡ q → Result c k (l ∷ ls) (state_after pack_line (at c k) (l ∷ ls))
      go pin_line.Passed e =
          goes_on c (sym (ap (λ (q : PinLine). contents_after c (call_of q)) e)) (λ f. let z : ◌≡◌ {A = ℕ} 0 1 = ap variant (sym e ∙ f) in omega arith)
          (subst⁻¹ (λ (q : PinLine). AllDone c (call_of q)) e tt) (first pin_line.Passed e)
      go pin_line.Error e =
          let r : Packed = record { contents = c; lines = number_behind k; fault = Some (Error (number_behind k)) } in
          stops r (Error (number_behind k)) refl (first pin_line.Error e) (fault-stays r refl) (inl (e, refl))
      go (pin_line.Pin x y kind) e =
          pin_line_lem (record { x = x; y = y }) kind (λ f. let z : ◌≡◌ {A = ℕ} 2 1 = ap variant (sym e ∙ f) in omega arith) (ap call_of e)
          (first (pin_line.Pin x y kind) e)

all_lines_lem : (ls : List (List ℕ)) (c : Contents) (k : ℕ) → Result c k ls (state_after pack_line (at c k) ls)
unfolding state_after contents_after
all_lines_lem [] c k = inl (record { good = record { known = tt; added = tt }; contents = refl; fault = refl })
all_lines_lem (l ∷ ls) c k = one_line c k l ls (λ d. all_lines_lem ls d (suc k))

-- A sweep that has no tap to take out leaves none, so pins alone leave no tap.
swept_bare : (p : Point) (pins taps : List Point) → taps ≡ [] → (prune (record { pins = pins; steiner = out lower p taps })).steiner ≡ []
unfolding prune prune_from out
swept_bare p pins taps e = ap (λ (t : List Point). (prune (record { pins = pins; steiner = out lower p t })).steiner) e

added_bare : (c : Contents) (p : Point) (k : ℕ) → c.state.steiner ≡ [] → (step c (add p k)).next.state.steiner ≡ []
unfolding step insert
added_bare c p k e = go (insert_refusal p k c.state)
  where
    go : (o : option.Option ℕ) → (unless o c (λ _. following k c (insert p c.state))).next.state.steiner ≡ []
    go option.none = swept_bare p _ c.state.steiner e
    go (option.some m) = e

calls_bare : (ls : List (List ℕ)) (c : Contents) → c.state.steiner ≡ [] → (contents_after c (calls_of ls)).state.steiner ≡ []
unfolding contents_after
calls_bare [] c e = e
calls_bare (l ∷ ls) c e = go (pin_line_of l) (λ d. calls_bare ls d)
  where
    go : (q : PinLine) → ((d : Contents) → d.state.steiner ≡ [] → (contents_after d (calls_of ls)).state.steiner ≡ [])
        → (contents_after c (call_of q ++ calls_of ls)).state.steiner ≡ []
    go pin_line.Passed rest = rest c e
    go pin_line.Error rest = rest c e
    go (pin_line.Pin x y kind) rest = rest (step c (add (record { x = x; y = y }) kind)).next (added_bare c (record { x = x; y = y }) kind e)

-- The calls of lines set no tail.
calls-set_none : (ls : List (List ℕ)) → Each SetsNoTail (calls_of ls)
calls-set_none [] = tt
calls-set_none (l ∷ ls) = go (pin_line_of l) (calls-set_none ls)
  where
    go : (q : PinLine) → Each SetsNoTail (calls_of ls) → Each SetsNoTail (call_of q ++ calls_of ls)
    go pin_line.Passed rest = rest
    go pin_line.Error rest = rest
    go (pin_line.Pin x y kind) rest = (adding_sets_none (record { x = x; y = y }) kind, rest)

-- What is printed.
pub input_packed : InputPacked
unfolding packed pack_input
input_packed input = ⊎_elim (λ t. inl (whole t)) (λ f. inr (stopped f.0 f.1 f.2)) (all_lines_lem (all_lines input) empty_contents 0)
  where
    p : Packed
    p = pack_input input

    c : Contents
    c = contents_after empty_contents (calls_of (all_lines input))

    whole : Taken empty_contents (all_lines input) p → Whole input
    whole t =
        let out : packed_file p ≡ plain_file_of c = λ i. if (has_fault (t.fault i)) (λ _. []) (λ _. plain_file_of (t.contents i)) in
        record {
          good = t.good;
          out = out;
          back =
              ap read_file out ∙ plain-read c (after-valid (calls_of (all_lines input)) empty_contents empty_contents_lem)
              ∙ ap deck (ap (with_tail no_tail) (pins_alone c (calls_bare (all_lines input) empty_contents refl))
              ∙ (λ i. with_tail (sym (tail-after (calls_of (all_lines input)) (calls-set_none (all_lines input)) empty_contents) i) c));
          err = ap fault_text t.fault;
        }

    stopped : (f : Fault) → FirstFault empty_contents 0 (all_lines input) f → p.fault ≡ Some f → Stopped input
    stopped f first e =
        record {
          fault = f;
          first = first;
          out = ap (λ (g : Option Fault). if (has_fault g) (λ _. []) (λ _. plain_file_of p.contents)) e;
          err = ap fault_text e;
        }

pub input_taken : InputTaken
unfolding packed pack_input
input_taken input =
    ap (λ (p : Packed). record { out = packed_file p; err = fault_text p.fault }) (sym (all_lines-taken Packed pack_line nothing_packed input))
