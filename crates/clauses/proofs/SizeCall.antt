-- SIZE's answers.
use Rattle.std.proofs.Common.{◌≡◌, ℕ, ◌+◌, ◌*◌, ◌<◌, List, get_or, sym, ap, ◌∙◌, ap₂}
use Rattle.design.specs.Tree.{Design}
use Rattle.design.specs.WellFormed.{WellFormed}
use Rattle.design.proofs.WellFormed.{well_formed}
use Rattle.design.proofs.Places.{read}
use Rattle.design.specs.Answer.{refused, answer}
use Rattle.step.specs.Property.{Property, property_of}
use Rattle.clauses.specs.Formula.{S, w, n}
use Rattle.clauses.specs.Cost.{gates_in, words_in, property_cost, step_cost, first_clauses, first_words, step_clause_count, step_word_count, clause_count, word_count}
use Rattle.clauses.specs.Size.{sizes_of, size}
use Rattle.clauses.specs.FrameSizes.{frame_sizes, formula_sizes}
use Rattle.clauses.specs.Replies.{seven_of, admission_sizes, size_reply}
use Rattle.clauses.specs.declared.frame.FrameSizes.{FrameSizes}
use Rattle.clauses.specs.declared.frame.FormulaSizes.{FormulaSizes}
use Rattle.clauses.proofs.Limits.{sizes_computed}
use Rattle.clauses.proofs.FrameNumbers.{variables_are, frames_are}
use Rattle.clauses.proofs.Admissions.{admission_refused, admission_admitted, admitted_in}

-- SIZE's numbers, from the sizes of a frame of the design
module _ (d : Design) (wf : WellFormed d) (p : Property) where
  pub seven_are : (k : ℕ) → formula_sizes (frame_sizes d p) k ≡ seven_of (sizes_of d p k)
  unfolding frame_sizes clause_count word_count first_clauses first_words step_clause_count step_word_count
  seven_are k = with_n ∙ sym (ap seven_of (sizes_computed d wf p k))
    where
      with_n : formula_sizes (frame_sizes d p) k ≡ seven_of (record {
        state_bits = S d;
        property_gates = gates_in (property_cost d p);
        movers = w d;
        step_gates = gates_in (step_cost d p);
        variables = n d p k;
        clauses = clause_count d p k;
        words = word_count d p k;
      })
      with_n = ap₂ (λ (v m : ℕ). record {
        bits = S d;
        property = gates_in (property_cost d p);
        movers = w d;
        step = gates_in (step_cost d p);
        variables = v;
        clauses = clause_count d p k;
        words = first_words d + (1 + k) * words_in (property_cost d p) + k * step_word_count d p + m;
      }) (variables_are d wf p k) (frames_are k p)

module _ (file piece : List ℕ) (p k : ℕ) where
  pub size_refused : (number place : ℕ) → refused number place ≡ admission_sizes file piece p k → refused number place ≡ size_reply (size file piece p k)
  unfolding size
  size_refused number place e = sym (ap size_reply (admission_refused file piece p k number place e _))

  pub size_answer : (s : FrameSizes) → answer s ≡ admission_sizes file piece p k → ((i : ℕ) → get_or file i 0 < 256) → (r : FormulaSizes) → r ≡ formula_sizes s k → answer r ≡ size_reply (size file piece p k)
  unfolding size
  size_answer s e bytes r q =
      let a = admission_admitted file piece p k s e bytes in
      let t = read file a.accepted in
      ap answer (q ∙ ap (λ (x : FrameSizes). formula_sizes x k) (a.sizes t.tree t.is) ∙ seven_are t.tree (well_formed file bytes t.tree t.is) (property_of file piece t.tree p) k)
      ∙ sym (ap size_reply (admitted_in a bytes _ t.tree t.is))
