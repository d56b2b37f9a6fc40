-- The search for the lowest unset variable.
use mathlib.Core.Path.{◌≡◌, sym, ap, ◌∙◌}
use mathlib.Core.Bool.{cond}
use mathlib.Core.List.{List}
use Prim.Native.Nat.{ℕ, zero, suc, ◌+◌, ◌-◌, ◌<◌, ◌≤◌}
use native.Mathlib.Omega.{arith}
use native.Mathlib.Numerals.{add-one}
use lib.ListN.{length, get_or}
use borrow.Author.Tests.{le-ltb}
use Rattle.std.specs.Prelude.{Some}
use Rattle.search.specs.Search.{Value, is_unset, lowest_unset}
use Rattle.search.specs.Memory.{value_of_byte, value_at, SetTo}

-- the lowest unset, from i on
pub record Seeks (vs : List ℕ) (i : ℕ) : Type 0 where
  pub low : i ≤ length vs
  pub same : lowest_unset (value_at vs) (suc i) (length vs - i) ≡ lowest_unset (value_at vs) 1 (length vs)

value_at_lem : (vs : List ℕ) (i : ℕ) → value_at vs (suc i) ≡ value_of_byte (get_or vs i 0)
value_at_lem vs i = ap (λ (k : ℕ). value_of_byte (get_or vs k 0)) (let e : suc i - 1 ≡ i = omega arith in e)

seeks_one : (vs : List ℕ) (i : ℕ) → i < length vs → lowest_unset (value_at vs) (suc i) (length vs - i) ≡ cond (is_unset (value_of_byte (get_or vs i 0))) (Some (suc i)) (lowest_unset (value_at vs) (suc (suc i)) (length vs - suc i))
seeks_one vs i l =
    ap (lowest_unset (value_at vs) (suc i)) (let e : length vs - i ≡ suc (length vs - suc i) = omega arith in e)
    ∙ ap (λ (x : Value). cond (is_unset x) (Some (suc i)) (lowest_unset (value_at vs) (suc (suc i)) (length vs - suc i))) (value_at_lem vs i)

seeks_zero : (vs : List ℕ) → Seeks vs 0
seeks_zero vs = record { low = omega arith; same = ap (lowest_unset (value_at vs) 1) (let e : length vs - 0 ≡ length vs = omega arith in e) }

seeks_suc : (vs : List ℕ) (i : ℕ) → Seeks vs i → i < length vs → get_or vs i 0 ≤ 1 → Seeks vs (suc i)
seeks_suc vs i s l h =
    let past = lowest_unset (value_at vs) (suc (suc i)) (length vs - suc i) in
    let e : cond (is_unset (value_of_byte (get_or vs i 0))) (Some (suc i)) past ≡ past = rw (le-ltb 1 (get_or vs i 0) h) in
    record { low = l; same = sym (seeks_one vs i l ∙ e) ∙ s.same }

pub seeks_next : (vs : List ℕ) (i : ℕ) → Seeks vs i → i < length vs → get_or vs i 0 ≤ 1 → Seeks vs (i + 1)
seeks_next vs i s l h = rw (add-one i) (seeks_suc vs i s l h)

-- where the first ones are set
pub seeks_start : (vs : List ℕ) (low : ℕ) → SetTo low vs → Seeks vs low
seeks_start vs zero h = seeks_zero vs
seeks_start vs (suc i) h =
    seeks_suc vs i (seeks_start vs i (record { within = omega (arith, h.within); bits = λ j l. h.bits j (omega arith) })) h.within (h.bits i (omega arith))
