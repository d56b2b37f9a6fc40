-- The search on a bound's formula: what it needs of the words, and what it leaves.
use mathlib.Core.Path.{◌≡◌, refl, sym, ap, ap₂, ◌∙◌, subst}
use mathlib.Core.Bool.{Bool, false, not}
use mathlib.Core.List.{List, [], ◌∷◌, ◌++◌}
use Prim.Native.Nat.{ℕ, zero, suc, ◌-◌, ◌^◌, ◌<◌, ◌≤◌}
use native.Mathlib.Omega.{arith}
use lib.IntN.{ℤ, nat_abs}
use lib.ListN.{length, drop, take}
use lib.Seq.{length-take-le, take_at}
use borrow.Author.Tests.{le-ltb}
use Rattle.design.specs.Tree.{Design}
use Rattle.step.specs.Property.{Property}
use Rattle.clauses.specs.Literal.{Literal, positive, negative, variable_of, Clause}
use Rattle.clauses.specs.Meaning.{ClauseWithin, Within}
use Rattle.clauses.specs.Words.{word_of, clause_words, words, is_end, clauses_of}
use Rattle.clauses.specs.Formula.{n, formula}
use Rattle.clauses.specs.Theorem.{Theorem}
use Rattle.std.specs.Prelude.{None}
use Rattle.search.specs.Search.{up_to, solved}
use Rattle.search.specs.Solve.{bad_word}
use Rattle.search.specs.Memory.{Fresh, outcome, Leaves}
use Rattle.search.specs.declared.Solved.{Solved}
use Rattle.search.proofs.BadWords.{good_words}
use Rattle.verdict.specs.Verdict.{Memory, searched}
use Rattle.verdict.specs.Loop.{Tried}

-- the words of clauses over 1..m are not refused
word_size : (l : Literal) → nat_abs (word_of l) ≡ variable_of l
word_size (positive v) = refl
word_size (negative zero) = refl
word_size (negative (suc v)) = refl

clause_good : (m : ℕ) (c : Clause) (rest : List ℤ) → ClauseWithin m c → ((j : ℕ) → bad_word m j false rest ≡ None) → (i : ℕ) (begun : Bool) → bad_word m i begun (clause_words c ++ rest) ≡ None
clause_good m [] rest w f i begun = rw (le-ltb m 0 (omega arith)) (f (suc i))
clause_good m (l ∷ ls) rest w f i begun =
    let h : nat_abs (word_of l) ≤ m = omega (arith, word_size l, w.0.1) in
    rw (le-ltb m (nat_abs (word_of l)) h) (clause_good m ls rest w.1 f (suc i) (not (is_end (word_of l))))

words_good : (m : ℕ) (cs : List Clause) → Within m cs → (i : ℕ) → bad_word m i false (words cs) ≡ None
words_good m [] w i = refl
words_good m (c ∷ cs) w i = clause_good m c (words cs) w.0 (words_good m cs w.1) i false

module _ (d : Design) (p : Property) (k budget : ℕ) (lent : Memory) (i t : ℕ) (th : Theorem d p i) (clauses clauses' : List ℤ) (values trail : List ℕ) (m v : ℕ)
    (long : m ≡ length (words (formula d p i))) (many : v ≡ n d p i) (written : clauses' ≡ words (formula d p i) ++ drop (length (words (formula d p i))) clauses)
    (fits : n d p i ≤ length values)
  where
    front : take m clauses' ≡ words (formula d p i)
    front = ap (take m) written ∙ take_at (words (formula d p i)) (drop (length (words (formula d p i))) clauses) m (sym long)

    values_long : length (take v values) ≡ n d p i
    values_long = length-take-le v values (omega arith) ∙ many

    -- the words at the front, and as many values and trail words as the formula has variables
    pub fresh_bound : n d p i < 2 ^ 31 → n d p i ≤ length trail → Fresh (take m clauses') (take v values) (take v trail)
    fresh_bound small room =
        let g = good_words (n d p i) 0 false (words (formula d p i)) (words_good (n d p i) (formula d p i) th.within 0) in
        record {
          small = rw values_long small;
          inside = rw (values_long, front) g.0;
          closes = rw front g.1;
          trail = length-take-le v trail (omega arith) ∙ many ∙ sym values_long;
        }

    pub tried : {r : Solved} {vs₂ tr₂ : List ℕ} → Leaves (outcome (take v values) (take m clauses') (budget - t)) (length (take v values)) r vs₂ tr₂
        → Tried d p k budget lent i t clauses values trail r clauses' (vs₂ ++ drop v values) (tr₂ ++ drop v trail)
    unfolding searched
    tried {r} {vs₂} {tr₂} h =
        let a : clauses_of (take m clauses') ≡ formula d p i = ap clauses_of front ∙ th.words in
        let g : Leaves (solved (n d p i) (formula d p i) (up_to (budget - t))) (n d p i) r vs₂ tr₂ =
        subst (λ (x : ℕ). Leaves (solved x (formula d p i) (up_to (budget - t))) x r vs₂ tr₂) values_long
        (subst (λ (x : List Clause). Leaves (solved (length (take v values)) x (up_to (budget - t))) (length (take v values)) r vs₂ tr₂) a h) in
        record {
          result = g.result;
          written = written;
          values_left_lem = ap₂ (λ (x : List ℕ) (y : ℕ). x ++ drop y values) g.values many;
          trail_left = ap₂ (λ (x : List ℕ) (y : ℕ). x ++ drop y trail) g.trail many;
        }
