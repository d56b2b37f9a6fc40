-- What a call about a formula answers: CHECK's refusal, then 13, 8, 14 and 19, then what the call itself says of the design. `admit` is `gate` (step/proofs/Gates) before
-- one test more. Then what the code of `admit` replies. Assumes nothing.
use Rattle.std.proofs.Common.{◌≡◌, ℕ, ◌<◌, ◌≤◌, Bool, true, false, leb, List, get_or, sym, refl, ap, ◌∙◌, subst, ap₂, le_refl, arith, le-leb, leb-true}
use borrow.Author.Tests.{lt-leb}
use Rattle.design.specs.Tree.{Design}
use Rattle.design.specs.Check.{Checked, check, refusal}
use Rattle.design.specs.Answer.{Answer, refused, answer, need}
use Rattle.design.specs.Places.{Accepted}
use Rattle.design.specs.Refusal.{Refusal}
use Rattle.design.proofs.WellFormed.{well_formed}
use Rattle.design.proofs.Places.{read}
use Rattle.step.specs.Limits.{last_property, max_bound}
use Rattle.step.specs.Piece.{piece_right}
use Rattle.step.specs.Property.{Property, property_of}
use Rattle.step.specs.Gate.{gate_refusal}
use Rattle.step.proofs.Gates.{need_no, need_yes, need_answers, gate_in, gate_refuses, gate_answers, gate_both}
use Rattle.clauses.specs.Formula.{n}
use Rattle.clauses.specs.Limits.{last_variable}
use Rattle.clauses.specs.Admission.{admit}
use Rattle.clauses.specs.FrameSizes.{frame_sizes, SmallFrame, variables_of}
use Rattle.clauses.specs.Ready.{Admitted}
use Rattle.clauses.specs.Replies.{admission_sizes}
use Rattle.clauses.specs.declared.frame.FrameSizes.{FrameSizes}
use Rattle.clauses.proofs.Bounds.{bounded}
use Rattle.clauses.proofs.FrameCounts.{frame_bound}
use Rattle.clauses.proofs.FrameNumbers.{variables_are, small_numbers}

-- 19 in front of a call, for a bound
abbrev tested : {A : Type 0} → ℕ → (Design → Property → Answer A) → Design → Property → Answer A
tested k call d q = need (leb (n d q k) last_variable) 19 0 (call d q)

module _ (file piece : List ℕ) (p k : ℕ) where
  module _ {A : Type 0} (call : Design → Property → Answer A) where
    module _ (d : Design) (e : check file ≡ Checked.accepted d) (low : p ≤ last_property file) (right : piece_right file piece p ≡ true) (few : k ≤ max_bound) where
      past_gate : admit file piece p k call ≡ tested k call d (property_of file piece d p)
      unfolding admit
      past_gate = gate_in file piece p k (tested k call) d e low right few

      -- past 19, the answer is the call's
      pub admit_in : n d (property_of file piece d p) k ≤ last_variable → admit file piece p k call ≡ call d (property_of file piece d p)
      admit_in l = past_gate ∙ need_yes (leb (n d (property_of file piece d p) k) last_variable) 19 0 (call d (property_of file piece d p)) (le-leb (n d (property_of file piece d p) k) last_variable l)

      -- 19
      admit_over : last_variable < n d (property_of file piece d p) k → admit file piece p k call ≡ refused 19 0
      admit_over l = past_gate ∙ need_no (leb (n d (property_of file piece d p) k) last_variable) 19 0 (call d (property_of file piece d p)) (lt-leb (n d (property_of file piece d p) k) last_variable l)

    -- what `gate` refuses, `admit` refuses
    admit_refuses : (r : Refusal) → r ≡ gate_refusal file piece p k → (r.number ≡ 0 → ⊥) → admit file piece p k call ≡ refused r.number r.place
    unfolding admit
    admit_refuses r e z = gate_refuses file piece p k (tested k call) r e z

  -- a call that answers: all tests hold, and the call itself answers so
  pub record AdmittedCall {A : Type 0} (call : Design → Property → Answer A) (a : A) : Type 0 where
    pub design : Design
    pub accepted : check file ≡ Checked.accepted design
    pub property : p ≤ last_property file
    pub right : piece_right file piece p ≡ true
    pub bound : k ≤ max_bound
    pub numbers : n design (property_of file piece design p) k ≤ last_variable
    pub same : call design (property_of file piece design p) ≡ answer a

  pub admit_answers : {A : Type 0} (call : Design → Property → Answer A) (a : A) → admit file piece p k call ≡ answer a → AdmittedCall call a
  unfolding admit
  admit_answers call a e =
      let g = gate_answers file piece p k (tested k call) a e in
      let q = property_of file piece g.design p in
      let t = need_answers (leb (n g.design q k) last_variable) 19 0 (call g.design q) a g.same in
      record { design = g.design; accepted = g.accepted; property = g.property; right = g.right; bound = g.bound; numbers = leb-true (n g.design q k) last_variable t.0; same = t.1 }

  -- two calls behind one `admit`: what the one refuses the other refuses, if it is so of the calls themselves
  pub admit_both : {A B : Type 0} (f : Design → Property → Answer A) (g : Design → Property → Answer B) (number place : ℕ)
      → ((d : Design) → f d (property_of file piece d p) ≡ refused number place → g d (property_of file piece d p) ≡ refused number place)
      → admit file piece p k f ≡ refused number place → admit file piece p k g ≡ refused number place
  unfolding admit
  admit_both {A} {B} f g number place h e =
      gate_both file piece p k (tested k f) (tested k g) number place (λ d. go (leb (n d (property_of file piece d p) k) last_variable) (f d (property_of file piece d p)) (g d (property_of file piece d p)) (h d)) e
    where
      go : (t : Bool) (x : Answer A) (y : Answer B) → (x ≡ refused number place → y ≡ refused number place) → need t 19 0 x ≡ refused number place → need t 19 0 y ≡ refused number place
      go true x y r q = r q
      go false x y r q = (let i : 19 ≡ number = cc in let j : 0 ≡ place = cc in ap₂ (λ (a b : ℕ). refused a b) i j)

  -- what the code of `admit` replies
  abbrev sizes_asked : Design → Property → Answer FrameSizes
  sizes_asked d q = answer (frame_sizes d q)

  pub admission_refuses : (r : Refusal) → r ≡ gate_refusal file piece p k → (r.number ≡ 0 → ⊥) → refused r.number r.place ≡ admission_sizes file piece p k
  admission_refuses r e z = sym ((admit_refuses sizes_asked r e z))

  module _ (h : Accepted file) (low : p ≤ last_property file) (right : piece_right file piece p ≡ true) (few : k ≤ max_bound) (bytes : (i : ℕ) → get_or file i 0 < 256) (s : FrameSizes)
      (f : (d : Design) → check file ≡ Checked.accepted d → s ≡ frame_sizes d (property_of file piece d p)) (v : ℕ) (e : v ≡ variables_of s k) where
    abbrev d : Design
    d = (read file h).tree

    n_is : v ≡ n d (property_of file piece d p) k
    n_is = e ∙ ap (λ (x : FrameSizes). variables_of x k) (f d (read file h).is) ∙ variables_are d (well_formed file bytes d (read file h).is) (property_of file piece d p) k

    pub admission_19 : last_variable < v → refused 19 0 ≡ admission_sizes file piece p k
    admission_19 l = sym ((admit_over sizes_asked d (read file h).is low right few (let z : last_variable < n d (property_of file piece d p) k = omega (arith, n_is) in z)))

    pub admission_sizes_lem : v ≤ last_variable → answer s ≡ admission_sizes file piece p k
    admission_sizes_lem l =
        ap answer (f d (read file h).is) ∙ sym ((admit_in sizes_asked d (read file h).is low right few (let z : n d (property_of file piece d p) k ≤ last_variable = omega (arith, n_is) in z)))

  -- what its reply tells: a refusal is that of every call, and past it a formula may be written
  pub admission_refused : (number place : ℕ) → refused number place ≡ admission_sizes file piece p k → {A : Type 0} (call : Design → Property → Answer A) → admit file piece p k call ≡ refused number place
  admission_refused number place e call = go (admit file piece p k sizes_asked) refl e
    where
      go : (x : Answer FrameSizes) → admit file piece p k sizes_asked ≡ x → refused number place ≡ x → admit file piece p k call ≡ refused number place
      go (refused i j) q r =
          let a : i ≡ number = cc in
          let b : j ≡ place = cc in
          admit_both sizes_asked call number place (λ d z. absurd (let y : ◌≡◌ {A = ℕ} 0 1 = cc in omega arith)) (q ∙ ap₂ (λ (a b : ℕ). refused a b) a b)
      go (answer s) q r = absurd (let y : ◌≡◌ {A = ℕ} 0 1 = cc in omega arith)

  pub admission_admitted : (s : FrameSizes) → answer s ≡ admission_sizes file piece p k → ((i : ℕ) → get_or file i 0 < 256) → Admitted file piece p k s
  admission_admitted s e bytes = go (admit file piece p k sizes_asked) refl e
    where
      go : (x : Answer FrameSizes) → admit file piece p k sizes_asked ≡ x → answer s ≡ x → Admitted file piece p k s
      go (refused i j) q r = absurd (let y : ◌≡◌ {A = ℕ} 0 1 = cc in omega arith)
      go (answer t) q r =
          let g = admit_answers sizes_asked t q in
          let d = g.design in
          let same : s ≡ frame_sizes d (property_of file piece d p) = cc (r, g.same) in
          let small = frame_bound d (property_of file piece d p) (bounded file piece bytes d g.accepted p g.right) in
          record {
            accepted = ap (λ (c : Checked). (refusal c).number) g.accepted;
            property = g.property;
            right = g.right;
            small = record {
              sizes = subst SmallFrame (sym same) small;
              bound = g.bound;
              numbers = omega (arith, g.numbers, ap (λ (x : FrameSizes). variables_of x k) same ∙ variables_are d (well_formed file bytes d g.accepted) (property_of file piece d p) k);
            };
            sizes = λ c z. same ∙ ap (λ (x : Design). frame_sizes x (property_of file piece x p)) (let y : d ≡ c = cc (g.accepted, z) in y);
          }

-- a call about a formula that may be written answers what the call itself does
module _ {file piece : List ℕ} {p k : ℕ} {s : FrameSizes} (a : Admitted file piece p k s) (bytes : (i : ℕ) → get_or file i 0 < 256) {A : Type 0} (call : Design → Property → Answer A) where
  pub admitted_in : (d : Design) → check file ≡ Checked.accepted d → admit file piece p k call ≡ call d (property_of file piece d p)
  admitted_in d e =
      admit_in file piece p k call d e a.property a.right a.small.bound
      (small_numbers d (well_formed file bytes d e) (property_of file piece d p) a.small (a.sizes d e) k (le_refl k))
