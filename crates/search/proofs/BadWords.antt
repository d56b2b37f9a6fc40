-- Where a word list is refused.
use mathlib.Core.Path.{◌≡◌, refl}
use mathlib.Core.Bool.{Bool, true, false, not}
use mathlib.Core.List.{List, [], ◌∷◌}
use Prim.Native.Nat.{ℕ, zero, suc, ◌≤◌}
use native.Mathlib.Omega.{arith}
use lib.Dec.{ltb}
use lib.IntN.{ℤ, nat_abs}
use lib.ListN.{length, drop}
use borrow.Author.Tests.{ltb-false}
use Rattle.std.specs.Prelude.{None, Some}
use Rattle.clauses.specs.Words.{is_end}
use Rattle.search.specs.Solve.{bad_word}
use Rattle.search.specs.Memory.{AllIn, closed_from}

-- the first bad word, from i on
pub record Reads (n : ℕ) (ws : List ℤ) (i : ℕ) (begun : Bool) : Type 0 where
  pub low : i ≤ length ws
  pub same : bad_word n i begun (drop i ws) ≡ bad_word n 0 false ws

-- what a list that is not refused has
pub good_words : (n i : ℕ) (begun : Bool) (ws : List ℤ) → bad_word n i begun ws ≡ None → AllIn n ws × (closed_from begun ws ≡ true)
good_words n i true [] e = absurd (let z : ◌≡◌ {A = ℕ} 0 1 = cc in omega arith)
good_words n i false [] e = ((λ j h. absurd (omega arith)), refl)
good_words n i begun (w ∷ ws) e = go (ltb n (nat_abs w)) refl (good_words n (suc i) (not (is_end w)) ws)
  where
    all : nat_abs w ≤ n → AllIn n ws → AllIn n (w ∷ ws)
    all h k zero l = h
    all h k (suc j) l = k j (omega arith)

    go : (t : Bool) → ltb n (nat_abs w) ≡ t → (bad_word n (suc i) (not (is_end w)) ws ≡ None → AllIn n ws × (closed_from (not (is_end w)) ws ≡ true))
        → AllIn n (w ∷ ws) × (closed_from begun (w ∷ ws) ≡ true)
    go true p rec = absurd (let q : Some i ≡ None = rw p at e in let z : ◌≡◌ {A = ℕ} 0 1 = cc in omega arith)
    go false p rec = let r = rec (rw p at e) in (all (ltb-false n (nat_abs w) p) r.0, r.1)
