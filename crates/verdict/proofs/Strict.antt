-- What an answer on property 0 or 1 says of strict runs; and strict runs that break a property, counted.
use mathlib.Core.Path.{◌≡◌, sym, ap, subst, ◌∙◌}
use mathlib.Core.Bool.{Bool, false, ◌&&◌}
use mathlib.Core.List.{List}
use Prim.Native.Nat.{ℕ}
use native.Mathlib.Omega.{arith}
use lib.ListN.{length, take, drop}
use lib.Seq.{take_at}
use Rattle.design.specs.Tree.{Design}
use Rattle.design.specs.State.{start}
use Rattle.step.specs.Property.{Property}
use Rattle.step.specs.OneStep.{breaks}
use Rattle.step.specs.Breaking.{Breaking}
use Rattle.step.specs.Strict.{strict, idles_from, StrictBreaking, BreakingStep, Smallest, ReadingsAgree}
use Rattle.step.proofs.Breaks.{breaks_from_at}
use Rattle.step.proofs.Strict.{within}
use Rattle.step.proofs.Striking.{never_strict}
use Rattle.clauses.specs.Theorem.{Exactly}
use Rattle.clauses.specs.Formula.{w}
use Rattle.clauses.proofs.Lists.{keep, in_keep, keep_in, distinct_keep, lists, lists_in, in_lists, distinct_lists}
use Rattle.verdict.proofs.Calls.{and_true}
use Rattle.verdict.specs.Verdict.{VIOLATED, CLEAN, Told}
use Rattle.verdict.specs.Claim.{Witness, OfVerdict, OfStrictRuns}

module _ (d : Design) (q : Property) (agree : ReadingsAgree d q) (k budget : ℕ) (told : Told) (lent left : List ℕ) (o : OfVerdict d q k budget told lent left) where
  -- the first breaking bound is the smallest breaking step
  smallest : (i : ℕ) → told.verdict ≡ VIOLATED i → Smallest (BreakingStep d q) i
  smallest i e =
      let x = o.witness i e in
      let f = ((o.verdict (VIOLATED i)).0 e).1 in
      record {
        some = record { list = x.list; movers = x.movers; breaks = x.breaks };
        none = λ j l b. f.none j l (within d q j b);
      }

  -- the choices at the front of what is left
  written : (i : ℕ) → (x : Witness d q i lent left) → take i left ≡ x.list
  written i x = ap (take i) x.written ∙ take_at x.list (drop i lent) i x.long

  breaking : (i : ℕ) (x : Witness d q i lent left) → Breaking d q i x.list
  breaking i x = let l = x.long in record { long = l; movers = x.movers; breaks = breaks_from_at d q x.list i (omega arith) x.breaks }

  witness : (i : ℕ) → told.verdict ≡ VIOLATED i → StrictBreaking d q i (take i left) × (idles_from d (start d) (take i left) ≡ false)
  unfolding strict
  witness i e =
      let x = o.witness i e in
      let never = agree.idle_free i (smallest i e) x.list (breaking i x) in
      subst (λ (cs : List ℕ). StrictBreaking d q i cs × (idles_from d (start d) cs ≡ false)) (sym (written i x))
      (record { breaking = breaking i x; strict = never_strict d (start d) x.list never }, never)

  pub of_strict : OfStrictRuns d q k told left
  of_strict = record {
    clean = λ e b. ((o.verdict CLEAN).0 e).1 ((agree.same k).0 b);
    violated = λ i e. (agree.smallest i).1 (smallest i e);
    witness = witness;
  }

-- Strict runs of k choices that break a property: among all lists of k choices, which computes.
abbrev breaks_strictly : Design → Property → List ℕ → Bool
breaks_strictly d q cs = breaks d q cs && strict d cs

unfoldable pub strict_breakers : Design → Property → ℕ → List (List ℕ)
strict_breakers d q k = keep (breaks_strictly d q) (lists (w d) k)

pub strict_count_lem : (d : Design) (q : Property) (k m : ℕ) → length (strict_breakers d q k) ≡ m → Exactly (StrictBreaking d q k) m
unfolding strict_breakers w
strict_count_lem d q k m size = record {
  list = strict_breakers d q k;
  size = size;
  distinct = distinct_keep (breaks_strictly d q) (lists (w d) k) (distinct_lists (w d) k);
  all = λ cs h.
      let r = in_keep (breaks_strictly d q) cs (lists (w d) k) h in
      let s = in_lists (w d) k cs r.0 in
      let t = and_true (breaks d q cs) (strict d cs) r.1 in
      record { breaking = record { long = s.0; movers = s.1; breaks = t.0 }; strict = t.1 };
  only = λ cs b. keep_in (breaks_strictly d q) cs (lists (w d) k) (lists_in (w d) k cs b.breaking.long b.breaking.movers) (rw (b.breaking.breaks, b.strict));
}
