-- Demand 3, for every accepted file and every piece.
use mathlib.Core.Path.{◌≡◌, refl, sym, ap, ◌∙◌, subst}
use mathlib.Core.List.{List, ◌++◌}
use Prim.Native.Nat.{ℕ, ◌<◌}
use native.Mathlib.Omega.{arith}
use lib.ListN.{drop, get_or}
use Rattle.design.specs.Tree.{Design}
use Rattle.design.specs.Check.{Checked, check}
use Rattle.step.specs.Property.{Property, property_of}
use Rattle.step.proofs.Strict.{thesis_runs, readings_agree}
use Rattle.clauses.specs.Formula.{n, formula}
use Rattle.clauses.specs.Theorem.{Theorem}
use Rattle.clauses.proofs.Theorem.{theorem_of_file}
use Rattle.search.specs.Search.{SAT}
use Rattle.search.specs.Search as search
use Rattle.search.specs.Solve.{values_left}
use Rattle.search.proofs.Theorems.{search_ends}
use Rattle.verdict.specs.Verdict.{Verdict, VIOLATED, Told, Judged, judge, Memory, searched, choices_left, memory_left, verdict}
use Rattle.design.specs.Answer.{answer}
use Rattle.verdict.specs.Owners.{Owner, Buffers, with_choices, alone, owners}
use Rattle.verdict.specs.Isolation.{OwnersResult, Owns, result_of}
use Rattle.verdict.specs.Claim.{OfFormula, Says, OfVerdict, Witness, Demand3}
use Rattle.verdict.proofs.Calls.{Answered, answered}
use Rattle.verdict.proofs.Judging.{Known, Violated, judge_right, known_says, known_tries, same_verdict}
use Rattle.clauses.proofs.Within.{n_up}
use Rattle.verdict.proofs.Witness.{decodes, witness}
use Rattle.verdict.proofs.Isolation.{owner_counted, equals_alone}
use Rattle.verdict.proofs.Refuted.{joined, refuted}
use Rattle.verdict.proofs.Strict.{of_strict}

of_formula : (d : Design) (p : Property) (k : ℕ) → Theorem d p k → OfFormula d p k
unfolding searched
of_formula d p k th = record {
  satisfiable = th.satisfiable;
  decoded = λ cs b.
      let r = th.decoded cs b in
      record { assignment = r.0; satisfying = r.1; decodes = r.2; only = λ ρ s e v h l. th.once ρ r.0 s r.1 (e ∙ sym r.2) v h l };
  decodes = th.decodes;
  within = th.within;
  words = th.words;
  ends = search_ends (n d p k) (formula d p k) th.within;
}

module _ (file piece : List ℕ) (d : Design) (e : check file ≡ Checked.accepted d) (p k budget : ℕ) (lent : Memory) where
  module _ (th : (i : ℕ) → Theorem d (property_of file piece d p) i) (told : Told) (a : Answered file piece d p k budget lent told) where
    abbrev j : Judged
    j = judge d (property_of file piece d p) k budget

    known : Known d (property_of file piece d p) k budget told.tries j.bound j.outcome told.verdict
    known = subst (λ (t : Told). Known d (property_of file piece d p) k budget t.tries j.bound j.outcome t.verdict) a.same (judge_right d (property_of file piece d p) th k budget)

    says : Says d (property_of file piece d p) k budget told.verdict
    says = known_says d (property_of file piece d p) k budget told.tries j.bound j.outcome told.verdict known

    -- the choices left
    left : (i : ℕ) → told.verdict ≡ VIOLATED i → Witness d (property_of file piece d p) i lent.choices (verdict file piece p k budget lent).memory.choices
    unfolding memory_left
    left i q =
        let v : Violated d (property_of file piece d p) k budget told.tries j.bound j.outcome i = subst (Known d (property_of file piece d p) k budget told.tries j.bound j.outcome) q known in
        let rest = drop (n d (property_of file piece d p) i) lent.values in
        let m : (verdict file piece p k budget lent).memory.choices ≡ choices_left file piece d p (VIOLATED i) (values_left (n d (property_of file piece d p) i) (SAT v.settings) ++ rest) lent.choices =
        ap (λ (x : Memory). x.choices) a.memory
        ∙ ap (λ (x : Verdict). choices_left file piece d p x (values_left (n d (property_of file piece d p) j.bound) j.outcome.answer ++ drop (n d (property_of file piece d p) j.bound) lent.values) lent.choices) (ap (λ (x : Told). x.verdict) a.same ∙ q)
        ∙ ap (λ (x : ℕ). choices_left file piece d p (VIOLATED i) (values_left (n d (property_of file piece d p) x) j.outcome.answer ++ drop (n d (property_of file piece d p) x) lent.values) lent.choices) v.last
        ∙ ap (λ (x : search.Answer). choices_left file piece d p (VIOLATED i) (values_left (n d (property_of file piece d p) i) x ++ rest) lent.choices) v.sat in
        subst (Witness d (property_of file piece d p) i lent.choices) (sym m)
        (witness file piece d e p a.property a.right i v.settings rest lent.choices (th i)
        (omega (arith, v.within, a.bound)) (omega (arith, n_up d (property_of file piece d p) i k v.within, a.numbers)) (omega (arith, v.within, a.room.choices)) v.none v.satisfies)

    of_verdict : OfVerdict d (property_of file piece d p) k budget told lent.choices (verdict file piece p k budget lent).memory.choices
    of_verdict = record {
      verdict = λ v. ((λ q. subst (Says d (property_of file piece d p) k budget) q says), same_verdict d (property_of file piece d p) k budget told.verdict v says);
      tries = known_tries d (property_of file piece d p) k budget told.tries j.bound j.outcome told.verdict known;
      witness = left;
    }

-- an owner's part is VERDICT's alone
of_owner : (file piece : List ℕ) → ((i : ℕ) → get_or file i 0 < 256) → ((i : ℕ) → get_or piece i 0 < 256) → (d : Design) → check file ≡ Checked.accepted d
    → (k count : ℕ) (lent : Buffers) (pieces : List (List ℕ)) (budgets : List ℕ) (choices : List (List ℕ)) (i : ℕ) (o : Owner) → Owns i count pieces budgets choices o → o.piece ≡ piece
    → (told : Told) → (result_of i (owners file k lent count pieces budgets choices)).answer ≡ answer told
    → OfVerdict d (property_of file piece d 0) k o.budget told o.choices (result_of i (owners file k lent count pieces budgets choices)).choices
unfolding alone
of_owner file piece bytes all d e k count lent pieces budgets choices i o h same told q =
    let few = owner_counted file d e k count i pieces budgets choices lent told q in
    let part = equals_alone file k count few.0 few.1 pieces budgets choices i o h lent lent (record { clauses = refl; values = refl; trail = refl }) in
    let mine = with_choices lent o.choices in
    let says : (verdict file o.piece 0 k o.budget mine).answer ≡ answer told = sym (ap (λ (x : OwnersResult). x.answer) part) ∙ q in
    let says' : (verdict file piece 0 k o.budget mine).answer ≡ answer told = ap (λ (x : List ℕ). (verdict file x 0 k o.budget mine).answer) (sym same) ∙ says in
    let left : (verdict file piece 0 k o.budget mine).memory.choices ≡ (result_of i (owners file k lent count pieces budgets choices)).choices =
    ap (λ (x : List ℕ). (verdict file x 0 k o.budget mine).memory.choices) (sym same) ∙ sym (ap (λ (x : OwnersResult). x.choices) part) in
    subst (OfVerdict d (property_of file piece d 0) k o.budget told o.choices) left
    (of_verdict file piece d e 0 k o.budget mine (theorem_of_file file piece bytes all d e 0) told (answered file piece d e 0 k o.budget mine told says'))

-- The entries of a file and of a piece are bytes.
pub demand_3 : (file piece : List ℕ) → ((i : ℕ) → get_or file i 0 < 256) → ((i : ℕ) → get_or piece i 0 < 256) → (d : Design) → check file ≡ Checked.accepted d → Demand3 file piece d
demand_3 file piece bytes all d e = record {
  formula = λ p k. of_formula d (property_of file piece d p) k (theorem_of_file file piece bytes all d e p k);
  decode = λ p k low right few numbers. decodes file piece d e p low right k few numbers (theorem_of_file file piece bytes all d e p k);
  verdict = λ p k budget lent told h. of_verdict file piece d e p k budget lent (theorem_of_file file piece bytes all d e p) told (answered file piece d e p k budget lent told h);
  owners = λ k count lent pieces budgets choices i o h same told q. of_owner file piece bytes all d e k count lent pieces budgets choices i o h same told q;
  joined = λ p k low right few numbers. joined file piece d e p k low right few numbers;
  refuted = λ p k. refuted file piece d e p k (theorem_of_file file piece bytes all d e p k);
  readings = readings_agree file piece bytes d e;
  thesis = thesis_runs d;
  strict = λ p l k budget told lent left o. of_strict d (property_of file piece d p) (readings_agree file piece bytes d e p l) k budget told lent left o;
}
