-- The circuit of equal, over any width.
use Rattle.std.proofs.Common.{◌≡◌, ℕ, ◌+◌, ◌*◌, ◌<◌, Bool, true, false, not, ◌&&◌, eqb, [], ◌∷◌, map, length, sym, refl, ap, ◌∙◌, arith, eq-eqb, ne_eqb, eqb-true}
use borrow.Author.Tests.{eqb-false}
use Rattle.design.specs.Tree.{bit}
use Rattle.clauses.specs.Literal.{Literal, negate, true_literal}
use Rattle.clauses.specs.Meaning.{Assignment, literal_true}
use Rattle.clauses.specs.Circuit.{Bits, xors!, chain!, equal! }
use Rattle.clauses.proofs.Gates.{differ, negate_true, and_assoc}
use Rattle.clauses.proofs.Correct.{LiteralBelow, Correct, correct_give, correct_bind, correct_means, and_correct, xor_correct}
use Rattle.clauses.proofs.Arithmetic.{BitsBelow, bits_up, bits_negate, suc_inj, Word, number}

-- all are true
abbrev every : Assignment → Bits → Bool
every ρ [] = true
every ρ (l ∷ ls) = literal_true ρ l && every ρ ls

and_true : (a : Bool) → a ≡ a && true
and_true true = refl
and_true false = refl

chain_correct : (c : Literal) (xs : Bits) (n : ℕ) → LiteralBelow n c → BitsBelow n xs
    → Correct n (chain! c xs n) LiteralBelow (λ ρ r. literal_true ρ r ≡ literal_true ρ c && every ρ xs)
unfolding chain!
chain_correct c [] n bc bx = correct_give _ bc λ ρ one. and_true (literal_true ρ c)
chain_correct c (x ∷ xs) n bc bx =
    correct_bind _ _ (and_correct c x n bc bx.0) λ y k l by.
    correct_means (chain_correct y xs k by (bits_up l xs bx.1)) λ ρ a one e ey.
    e ∙ ap (λ b. b && every ρ xs) ey ∙ and_assoc (literal_true ρ c) (literal_true ρ x) (every ρ xs)

eqb_same : (a b c d : ℕ) → (a ≡ b → c ≡ d) → (c ≡ d → a ≡ b) → eqb a b ≡ eqb c d
eqb_same a b c d f g = go (eqb a b) refl
  where
    go : (t : Bool) → eqb a b ≡ t → t ≡ eqb c d
    go true e = sym (eq-eqb c d (f (eqb-true a b e)))
    go false e = sym (ne_eqb c d (λ q. eqb-false a b e (g q)))

same_step : (a b : Bool) (n m : ℕ) → not (differ a b) && eqb n m ≡ eqb (bit a + 2 * n) (bit b + 2 * m)
same_step true true n m = eqb_same n m (1 + 2 * n) (1 + 2 * m) (λ e. omega arith) (λ e. omega arith)
same_step false false n m = eqb_same n m (0 + 2 * n) (0 + 2 * m) (λ e. omega arith) (λ e. omega arith)
same_step true false n m = sym (ne_eqb (1 + 2 * n) (0 + 2 * m) (λ e. omega arith))
same_step false true n m = sym (ne_eqb (0 + 2 * n) (1 + 2 * m) (λ e. omega arith))

xors_correct : (xs ys : Bits) (n : ℕ) → length xs ≡ length ys → BitsBelow n xs → BitsBelow n ys
    → Correct n (xors! xs ys n) BitsBelow (λ ρ r. every ρ (map negate r) ≡ eqb (number ρ xs) (number ρ ys))
unfolding xors!
xors_correct [] [] n e bx by = correct_give _ tt λ ρ one. refl
xors_correct [] (y ∷ ys) n e bx by = absurd (omega arith)
xors_correct (x ∷ xs) [] n e bx by = absurd (omega arith)
xors_correct (x ∷ xs) (y ∷ ys) n e bx by =
    correct_bind _ _ (xor_correct x y n bx.0 by.0) λ z k l bz.
    correct_bind _ _ (xors_correct xs ys k (suc_inj e) (bits_up l xs bx.1) (bits_up l ys by.1)) λ r k' l' br.
    correct_give _ (omega arith, br) λ ρ one er ez.
    rw (negate_true ρ z, er, ez) (same_step (literal_true ρ x) (literal_true ρ y) (number ρ xs) (number ρ ys))

pub equal_correct : (w : ℕ) (xs ys : Bits) (n : ℕ) → 1 < n → Word w n xs → Word w n ys
    → Correct n (equal! xs ys n) LiteralBelow (λ ρ r. literal_true ρ r ≡ eqb (number ρ xs) (number ρ ys))
unfolding equal!
equal_correct w xs ys n h bx by =
    correct_bind _ _ (xors_correct xs ys n (bx.wide ∙ sym by.wide) bx.below by.below) λ r k l br.
    correct_means (chain_correct true_literal (map negate r) k (omega arith) (bits_negate k r br)) λ ρ a one e er.
    e ∙ ap (λ b. b && every ρ (map negate r)) one ∙ er
