-- The clause writer's theorem (specs/Theorem).
use Rattle.std.proofs.Common.{◌≡◌, ℕ, ◌-◌, ◌<◌, true, List, ◌++◌, length, get_or, replicate, arith, length-append}
use lib.ListN.{length-replicate}
use Rattle.design.specs.Tree.{Design, movers}
use Rattle.design.specs.Check.{Checked, check}
use Rattle.design.specs.WellFormed.{WellFormed}
use Rattle.design.proofs.WellFormed.{well_formed}
use Rattle.step.specs.Property.{Property, property_of, PropertyOk}
use Rattle.step.specs.Breaking.{Breaking, Breakable}
use Rattle.step.proofs.Properties.{property_ok}
use Rattle.clauses.specs.Meaning.{Assignment, satisfies, Satisfiable}
use Rattle.clauses.specs.Formula.{w, n, formula, choices}
use Rattle.clauses.specs.Theorem.{Theorem}
use Rattle.clauses.proofs.Models.{decodes_long, decodes_movers, decodes_breaks, decodes_once, is_decoded}
use Rattle.clauses.proofs.Within.{formula_within, words_back}
use Rattle.clauses.proofs.Decoding.{decode_chooses}
use Rattle.step.proofs.Longer.{breaks_append, below_append, zeros_below}

module _ (d : Design) (wf : WellFormed d) (p : Property) (ok : PropertyOk d p) (k : ℕ) where
  -- choices of mover 0 after it
  lengthen : (b : Breakable d p k) → Breaking d p k (b.list ++ replicate (k - length b.list) 0)
  lengthen b =
      let m = k - length b.list in
      record {
        long = omega (arith, length-append b.list (replicate m 0), length-replicate {A = ℕ} m 0, b.short);
        movers = below_append (length (movers d)) b.list (replicate m 0) b.movers (zeros_below (length (movers d)) m wf.some_mover);
        breaks = breaks_append d p b.list (replicate m 0) b.breaks;
      }

  breaking : (ρ : Assignment) → satisfies ρ (formula d p k) ≡ true → Breaking d p k (choices d p ρ k)
  unfolding w
  breaking ρ s = record { long = decodes_long d wf p ok k ρ; movers = decodes_movers d wf p ok k ρ s; breaks = decodes_breaks d wf p ok k ρ s }

  breakable : Satisfiable (formula d p k) → Breakable d p k
  breakable (ρ, s) = let b = breaking ρ s in record { list = choices d p ρ k; short = omega (arith, b.long); movers = b.movers; breaks = b.breaks }

  satisfied : Breakable d p k → Satisfiable (formula d p k)
  unfolding w
  satisfied b =
      let l = lengthen b in
      let r = is_decoded d wf p ok k (b.list ++ replicate (k - length b.list) 0) l.long l.movers l.breaks in
      (r.0, r.1)

  pub theorem : Theorem d p k
  unfolding w
  theorem = record {
    decodes = breaking;
    decoded = λ cs b. is_decoded d wf p ok k cs b.long b.movers b.breaks;
    once = λ ρ σ s t e v h l. decodes_once d wf p ok k ρ σ s t e v h (omega arith);
    within = formula_within d wf p ok k;
    satisfiable = (breakable, satisfied);
    words = words_back (n d p k) (formula d p k) (formula_within d wf p ok k);
    decode = λ ρ values s h. decode_chooses d wf p ok ρ values k s h.long h.value;
  }

-- so of every accepted file and every piece, whose entries are bytes
pub theorem_of_file : (file piece : List ℕ) → ((i : ℕ) → get_or file i 0 < 256) → ((i : ℕ) → get_or piece i 0 < 256) → (d : Design) → check file ≡ Checked.accepted d → (p k : ℕ)
    → Theorem d (property_of file piece d p) k
theorem_of_file file piece bytes all d e p k = theorem d (well_formed file bytes d e) (property_of file piece d p) (property_ok file piece bytes all d e p) k
