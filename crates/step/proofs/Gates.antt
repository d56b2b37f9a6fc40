-- What a call answers: CHECK's refusal, then 13, 8 of the piece and 14, then what the call itself says of the design. Assumes nothing.
use Rattle.std.proofs.Common.{◌≡◌, ℕ, zero, suc, ◌<◌, ◌≤◌, Bool, true, false, leb, List, sym, refl, ap, ◌∙◌, ap₂, arith, le-leb, leb-true}
use borrow.Author.Tests.{lt-leb}
use Rattle.design.specs.Tree.{Design}
use Rattle.design.specs.Check.{Checked, check, refusal}
use Rattle.design.specs.Answer.{Answer, refused, answer, need, of_checked, on_design}
use Rattle.design.specs.Places.{Accepted}
use Rattle.design.specs.Refusal.{Refusal, number_of, place_of, refusal_of as refusal_of_refused}
use Rattle.design.specs.declared.refusal.Refused.{Refused}
use Rattle.design.proofs.Places.{read}
use Rattle.step.specs.Limits.{last_property, max_bound}
use Rattle.step.specs.Piece.{piece_right}
use Rattle.step.specs.Property.{Property, property_of}
use Rattle.step.specs.Gate.{gate, refusal_of, gate_refusal}

-- a test
module _ {A : Type 0} (t : Bool) (number place : ℕ) (r : Answer A) where
  pub need_no : t ≡ false → need t number place r ≡ refused number place
  need_no e = ap (λ (b : Bool). need b number place r) e

  pub need_yes : t ≡ true → need t number place r ≡ r
  need_yes e = ap (λ (b : Bool). need b number place r) e

-- where there is an answer, the test before it held
pub need_answers : {A : Type 0} (t : Bool) (number place : ℕ) (r : Answer A) (a : A) → need t number place r ≡ answer a → (t ≡ true) × (r ≡ answer a)
need_answers true number place r a e = (refl, e)
need_answers false number place r a e = absurd (let z : ◌≡◌ {A = ℕ} 0 1 = cc in omega arith)

-- CHECK
pub accepted_zero : (file : List ℕ) (r : Refusal) → r ≡ refusal (check file) → r.number ≡ 0 → Accepted file
accepted_zero file r e z = sym (ap (λ (y : Refusal). y.number) e) ∙ z

module _ {A : Type 0} (file : List ℕ) (call : Design → Answer A) where
  pub on_refused : (r : Refusal) → r ≡ refusal (check file) → (r.number ≡ 0 → ⊥) → on_design file call ≡ refused r.number r.place
  unfolding on_design
  on_refused r e z = go (check file) e
    where
      go : (x : Checked) → r ≡ refusal x → of_checked x call ≡ refused r.number r.place
      go (Checked.refused i p) q = ap₂ (λ (a b : ℕ). refused a b) (sym (ap (λ (y : Refusal). y.number) q)) (sym (ap (λ (y : Refusal). y.place) q))
      go (Checked.accepted d) q = absurd (z (ap (λ (y : Refusal). y.number) q))

  pub on_accepted : (h : Accepted file) → on_design file call ≡ call (read file h).tree
  unfolding on_design
  on_accepted h = ap (λ (x : Checked). of_checked x call) (read file h).is

-- the numbers of the documents begin at 1
pub some_number : (e : Refused) → number_of e ≡ 0 → ⊥
some_number e q = grind arith

-- what CHECK refuses, a call on the design refuses
pub check_handed : {A : Type 0} (file : List ℕ) (call : Design → Answer A) (e : Refused) → refusal_of_refused e ≡ refusal (check file) → refused (number_of e) (place_of e) ≡ on_design file call
check_handed file call e q = sym (on_refused file call (refusal_of_refused e) q (some_number e))

-- a call that the gate lets pass
pub record Passed (file piece : List ℕ) (p k : ℕ) : Type 0 where
  pub accepted : Accepted file
  pub property : p ≤ last_property file
  pub right : piece_right file piece p ≡ true
  pub bound : k ≤ max_bound

-- CHECK, 13, 8 and 14
module _ (file piece : List ℕ) (p k : ℕ) where
  module _ {A : Type 0} (call : Design → Property → Answer A) where
    abbrev called : Design → Answer A
    called d = call d (property_of file piece d p)

    tested : (h : Accepted file) → gate file piece p k call ≡ need (leb p (last_property file)) 13 0 (need (piece_right file piece p) 8 0 (need (leb k max_bound) 14 0 (called (read file h).tree)))
    unfolding gate
    tested h = on_accepted file (λ d. need (leb p (last_property file)) 13 0 (need (piece_right file piece p) 8 0 (need (leb k max_bound) 14 0 (called d)))) h

    over_property : Accepted file → last_property file < p → gate file piece p k call ≡ refused 13 0
    over_property h l = tested h ∙ need_no (leb p (last_property file)) 13 0 (need (piece_right file piece p) 8 0 (need (leb k max_bound) 14 0 (called (read file h).tree))) (lt-leb p (last_property file) l)

    past_property : (h : Accepted file) → p ≤ last_property file → gate file piece p k call ≡ need (piece_right file piece p) 8 0 (need (leb k max_bound) 14 0 (called (read file h).tree))
    past_property h l = tested h ∙ need_yes (leb p (last_property file)) 13 0 (need (piece_right file piece p) 8 0 (need (leb k max_bound) 14 0 (called (read file h).tree))) (le-leb p (last_property file) l)

    wrong_piece : Accepted file → p ≤ last_property file → piece_right file piece p ≡ false → gate file piece p k call ≡ refused 8 0
    wrong_piece h a f = past_property h a ∙ need_no (piece_right file piece p) 8 0 (need (leb k max_bound) 14 0 (called (read file h).tree)) f

    over_bound : Accepted file → p ≤ last_property file → piece_right file piece p ≡ true → max_bound < k → gate file piece p k call ≡ refused 14 0
    over_bound h a t l = past_property h a ∙ need_yes (piece_right file piece p) 8 0 (need (leb k max_bound) 14 0 (called (read file h).tree)) t ∙ need_no (leb k max_bound) 14 0 (called (read file h).tree) (lt-leb k max_bound l)

    -- past the gate, the answer is the call's
    pub gate_in : (d : Design) → check file ≡ Checked.accepted d → p ≤ last_property file → piece_right file piece p ≡ true → k ≤ max_bound → gate file piece p k call ≡ called d
    unfolding gate on_design
    gate_in d e a t b = rw (e, le-leb p (last_property file) a, t, le-leb k max_bound b)

    -- the same, of the design read from the file
    pub in_range : (h : Accepted file) → p ≤ last_property file → piece_right file piece p ≡ true → k ≤ max_bound → gate file piece p k call ≡ called (read file h).tree
    in_range h = gate_in (read file h).tree (read file h).is

    -- what the gate refuses, the call refuses
    pub gate_refuses : (r : Refusal) → r ≡ gate_refusal file piece p k → (r.number ≡ 0 → ⊥) → gate file piece p k call ≡ refused r.number r.place
    unfolding gate on_design
    gate_refuses r e z = go (check file) (leb p (last_property file)) (piece_right file piece p) (leb k max_bound) e
      where
        same : (number place : ℕ) → r ≡ record { number = number; place = place } → ◌≡◌ {A = Answer A} (refused number place) (refused r.number r.place)
        same number place q = ap₂ (λ (a b : ℕ). refused a b) (sym (ap (λ (y : Refusal). y.number) q)) (sym (ap (λ (y : Refusal). y.place) q))

        go : (x : Checked) (t s u : Bool) → r ≡ refusal_of (of_checked {A = Unit {0}} x (λ d. need t 13 0 (need s 8 0 (need u 14 0 (answer tt)))))
            → of_checked x (λ d. need t 13 0 (need s 8 0 (need u 14 0 (called d)))) ≡ refused r.number r.place
        go (Checked.refused i j) t s u q = same i j q
        go (Checked.accepted d) false s u q = same 13 0 q
        go (Checked.accepted d) true false u q = same 8 0 q
        go (Checked.accepted d) true true false q = same 14 0 q
        go (Checked.accepted d) true true true q = absurd (z (ap (λ (y : Refusal). y.number) q))

  abbrev unit_call : Design → Property → Answer (Unit {0})
  unit_call d q = answer tt

  -- what the code of the gate answers
  module _ (r : Refusal) (e : r ≡ refusal (check file)) where
    pub gate_check : (r.number ≡ 0 → ⊥) → r ≡ gate_refusal file piece p k
    unfolding gate on_design
    gate_check z = go (check file) e
      where
        go : (x : Checked) → r ≡ refusal x → r ≡ refusal_of (of_checked {A = Unit {0}} x (λ d. need (leb p (last_property file)) 13 0 (need (piece_right file piece p) 8 0 (need (leb k max_bound) 14 0 (answer tt)))))
        go (Checked.refused i j) q = q
        go (Checked.accepted d) q = absurd (z (ap (λ (y : Refusal). y.number) q))

    module _ (z : r.number ≡ 0) where
      pub gate_13 : last_property file < p → record { number = 13; place = 0 } ≡ gate_refusal file piece p k
      gate_13 l = sym (ap refusal_of (over_property unit_call (accepted_zero file r e z) l))

      pub gate_8 : p ≤ last_property file → piece_right file piece p ≡ false → record { number = 8; place = 0 } ≡ gate_refusal file piece p k
      gate_8 a f = sym (ap refusal_of (wrong_piece unit_call (accepted_zero file r e z) a f))

      pub gate_14 : p ≤ last_property file → piece_right file piece p ≡ true → max_bound < k → record { number = 14; place = 0 } ≡ gate_refusal file piece p k
      gate_14 a t l = sym (ap refusal_of (over_bound unit_call (accepted_zero file r e z) a t l))

      pub gate_none : p ≤ last_property file → piece_right file piece p ≡ true → k ≤ max_bound → r ≡ gate_refusal file piece p k
      gate_none a t b =
          let h = accepted_zero file r e z in
          e ∙ ap refusal (read file h).is ∙ sym (ap refusal_of (in_range unit_call h a t b))

  -- where a call is not refused, all tests hold
  module _ {A : Type 0} (call : Design → Property → Answer A) where
    tests : (t s u : Bool) (x : Answer A) → (refusal_of (need t 13 0 (need s 8 0 (need u 14 0 x)))).number ≡ 0 → (t ≡ true) × (s ≡ true) × (u ≡ true)
    tests true true true x q = (refl, refl, refl)
    tests true true false x q = absurd (let y : 14 ≡ 0 = q in omega arith)
    tests true false u x q = absurd (let y : 8 ≡ 0 = q in omega arith)
    tests false s u x q = absurd (let y : 13 ≡ 0 = q in omega arith)

    zero_accepted : (refusal_of (gate file piece p k call)).number ≡ 0 → Accepted file
    unfolding gate on_design
    zero_accepted = go (check file)
      where
        go : (x : Checked) → (refusal_of (of_checked x (λ d. need (leb p (last_property file)) 13 0 (need (piece_right file piece p) 8 0 (need (leb k max_bound) 14 0 (called call d)))))).number ≡ 0 → (refusal x).number ≡ 0
        go (Checked.refused i j) q = q
        go (Checked.accepted d) q = refl

    pub zero_passed : (refusal_of (gate file piece p k call)).number ≡ 0 → Passed file piece p k
    zero_passed z =
        let h = zero_accepted z in
        let s = tests (leb p (last_property file)) (piece_right file piece p) (leb k max_bound) (called call (read file h).tree) (ap (λ (a : Answer A). (refusal_of a).number) (sym (tested call h)) ∙ z) in
        record { accepted = h; property = leb-true p (last_property file) s.0; right = s.1; bound = leb-true k max_bound s.2 }

  pub gate_passed : (r : Refusal) → r ≡ gate_refusal file piece p k → r.number ≡ 0 → Passed file piece p k
  gate_passed r e z = zero_passed unit_call (sym (ap (λ (y : Refusal). y.number) e) ∙ z)

  -- a call that answers: the gate lets it pass, and the call itself answers so
  pub record Through {A : Type 0} (call : Design → Property → Answer A) (a : A) : Type 0 where
    pub design : Design
    pub accepted : check file ≡ Checked.accepted design
    pub property : p ≤ last_property file
    pub right : piece_right file piece p ≡ true
    pub bound : k ≤ max_bound
    pub same : call design (property_of file piece design p) ≡ answer a

  pub gate_answers : {A : Type 0} (call : Design → Property → Answer A) (a : A) → gate file piece p k call ≡ answer a → Through call a
  gate_answers {A} call a e =
      let g = zero_passed call (ap (λ (x : Answer A). (refusal_of x).number) e) in
      let t = read file g.accepted in
      record { design = t.tree; accepted = t.is; property = g.property; right = g.right; bound = g.bound; same = sym (in_range call g.accepted g.property g.right g.bound) ∙ e }

  -- two calls behind one gate: what the one refuses the other refuses, if it is so of the calls themselves
  pub gate_both : {A B : Type 0} (f : Design → Property → Answer A) (g : Design → Property → Answer B) (number place : ℕ)
      → ((d : Design) → f d (property_of file piece d p) ≡ refused number place → g d (property_of file piece d p) ≡ refused number place)
      → gate file piece p k f ≡ refused number place → gate file piece p k g ≡ refused number place
  gate_both {A} {B} f g number place h e = go (gate_refusal file piece p k) refl (gate_refusal file piece p k).number refl
    where
      go : (r : Refusal) → r ≡ gate_refusal file piece p k → (m : ℕ) → r.number ≡ m → gate file piece p k g ≡ refused number place
      go r q zero z =
          let s = gate_passed r q z in
          in_range g s.accepted s.property s.right s.bound ∙ h (read file s.accepted).tree (sym (in_range f s.accepted s.property s.right s.bound) ∙ e)
      go r q (suc m) z =
          let nz : r.number ≡ 0 → ⊥ = λ y. omega (arith, y, z) in
          let x : ◌≡◌ {A = Answer A} (refused r.number r.place) (refused number place) = sym (gate_refuses f r q nz) ∙ e in
          gate_refuses g r q nz ∙ (let i : r.number ≡ number = cc in let j : r.place ≡ place = cc in ap₂ (λ (a b : ℕ). refused a b) i j)
