-- SOLVE: what its steps leave, and its cases.
use mathlib.Core.Path.{◌≡◌, sym, ◌∙◌, subst}
use mathlib.Core.Bool.{false, ◌||◌, cond}
use mathlib.Core.List.{List, ◌++◌}
use Prim.Native.Nat.{ℕ, ◌<◌, ◌≤◌}
use native.Mathlib.Omega.{arith}
use lib.Dec.{ltb}
use lib.IntN.{ℤ}
use lib.ListN.{length, drop, take}
use lib.Seq.{length-take-le}
use borrow.Author.Tests.{lt-ltb, le-ltb}
use Rattle.std.specs.Prelude.{None, Some}
use Rattle.design.specs.Answer.{answer}
use Rattle.clauses.specs.Words.{clauses_of}
use Rattle.search.specs.Search.{up_to, solved}
use Rattle.search.specs.Solve.{bad_word, After, refuses, leaves, solve}
use Rattle.search.specs.Memory.{Fresh, outcome, Leaves}
use Rattle.search.proofs.BadWords.{good_words}
use Rattle.search.specs.declared.Solved.{Solved}

-- SOLVE's cases
module _ (n : ℕ) (ws : List ℤ) (vs tr : List ℕ) (b : ℕ) where
  -- past the refusals of n and of the words
  rest : After
  rest = cond (ltb (length vs) n || ltb (length tr) n) (refuses 16 0 vs tr) (leaves n (solved n (clauses_of ws) (up_to b)) vs tr)

  pub solve_large : 2147483647 < n → refuses 17 0 vs tr ≡ solve n ws vs tr b
  unfolding solve
  solve_large h = rw (lt-ltb 2147483647 n h)

  module _ (small : n ≤ 2147483647) where
    pub solve_word : {i : ℕ} → Some i ≡ bad_word n 0 false ws → refuses 17 i vs tr ≡ solve n ws vs tr b
    unfolding solve rest
    solve_word e = rw (le-ltb 2147483647 n small, ← e)

    module _ (good : None ≡ bad_word n 0 false ws) where
      past : rest ≡ solve n ws vs tr b
      unfolding solve rest
      past = rw (le-ltb 2147483647 n small, ← good)

      pub solve_values : length vs < n → refuses 16 0 vs tr ≡ solve n ws vs tr b
      unfolding rest
      solve_values l = (let g : refuses 16 0 vs tr ≡ rest = rw (lt-ltb (length vs) n l) in g) ∙ past

      module _ (values : n ≤ length vs) where
        pub solve_trail : length tr < n → refuses 16 0 vs tr ≡ solve n ws vs tr b
        unfolding rest
        solve_trail l = (let g : refuses 16 0 vs tr ≡ rest = rw (le-ltb (length vs) n values, lt-ltb (length tr) n l) in g) ∙ past

        pub solve_fresh : n ≤ length tr → Fresh ws (take n vs) (take n tr)
        solve_fresh l =
            let g = good_words n 0 false ws (sym good) in
            let q = length-take-le n vs values in
            record { small = omega arith; inside = rw q g.0; closes = g.1; trail = length-take-le n tr l ∙ sym q }

        -- no refusal
        pub solve_leaves : n ≤ length tr → leaves n (solved n (clauses_of ws) (up_to b)) vs tr ≡ solve n ws vs tr b
        unfolding rest
        solve_leaves l = (let g : leaves n (solved n (clauses_of ws) (up_to b)) vs tr ≡ rest = rw (le-ltb (length vs) n values, le-ltb (length tr) n l) in g) ∙ past

        pub solve_done : {vs₂ tr₂ : List ℕ} {r : Solved} → n ≤ length tr → Leaves (outcome (take n vs) ws b) (length (take n vs)) r vs₂ tr₂
            → record { reply = answer r; values = vs₂ ++ drop n vs; trail = tr₂ ++ drop n tr } ≡ solve n ws vs tr b
        solve_done {vs₂} {tr₂} {r} l m =
            let g : Leaves (solved n (clauses_of ws) (up_to b)) n r vs₂ tr₂ = subst (λ (j : ℕ). Leaves (solved j (clauses_of ws) (up_to b)) j r vs₂ tr₂) (length-take-le n vs values) m in
            (λ i. record { reply = answer (g.result i); values = g.values i ++ drop n vs; trail = g.trail i ++ drop n tr }) ∙ solve_leaves l
