-- What SIZE's reply says to VERDICT: a refusal is VERDICT's own, and sizes are those of the formula for the full bound. Assumes nothing.
use mathlib.Core.Path.{◌≡◌, refl, sym, ap}
use mathlib.Core.List.{List}
use Prim.Native.Nat.{ℕ}
use native.Mathlib.Omega.{arith}
use Rattle.design.specs.Answer.{Answer, refused, answer}
use Rattle.clauses.specs.Size.{Sizes, size}
use Rattle.verdict.specs.Verdict.{Memory, verdict}
use Rattle.verdict.specs.Answers.{exit}
use Rattle.clauses.specs.Replies.{seven_of, size_reply}
use Rattle.clauses.specs.declared.frame.FormulaSizes.{FormulaSizes}
use Rattle.verdict.proofs.Calls.{size_refused, size_answers, Sized as IsSized}

pub sized_refusal : (file piece : List ℕ) (p k budget : ℕ) (lent : Memory) (number place : ℕ) → refused number place ≡ size_reply (size file piece p k)
    → record { reply = refused number place; memory = lent } ≡ exit (verdict file piece p k budget lent)
sized_refusal file piece p k budget lent number place e = ap exit (sym (size_refused file piece p k budget lent number place (go (size file piece p k) e)))
  where
    go : (a : Answer Sizes) → refused number place ≡ size_reply a → a ≡ refused number place
    go (refused m q) e = let x : number ≡ m = cc in let y : place ≡ q = cc in cc
    go (answer s) e = absurd (let z : ◌≡◌ {A = ℕ} 0 1 = cc in omega arith)

pub record FullSize (file piece : List ℕ) (p k : ℕ) (s : FormulaSizes) : Type 0 where
  pub sizes : Sizes
  pub sized : IsSized file piece p k sizes
  pub words : sizes.words ≡ s.words
  pub variables : sizes.variables ≡ s.variables

pub full_size : (file piece : List ℕ) (p k : ℕ) (s : FormulaSizes) → answer s ≡ size_reply (size file piece p k) → FullSize file piece p k s
full_size file piece p k s e = go (size file piece p k) refl e
  where
    go : (a : Answer Sizes) → size file piece p k ≡ a → answer s ≡ size_reply a → FullSize file piece p k s
    go (refused m q) h e = absurd (let z : ◌≡◌ {A = ℕ} 0 1 = cc in omega arith)
    go (answer t) h e = let x : s ≡ seven_of t = cc in record { sizes = t; sized = size_answers file piece p k t h; words = ap (λ (y : FormulaSizes). y.words) (sym x); variables = ap (λ (y : FormulaSizes). y.variables) (sym x) }
