-- What the answer of a call is, by the tests that led to it. Assumes nothing.
use Rattle.std.proofs.Common.{◌≡◌, ℕ, zero, suc, ◌<◌, ◌≤◌, Bool, true, false, ltb, List, [], ◌∷◌, length, get_or, sym, refl, ap, ◌∙◌, arith, ltb-true, eq-eqb, ne_eqb}
use Rattle.std.specs.Prelude.{Some, None}
use lib.ListN.{get_or-map}
use Rattle.design.specs.Tree.{Design, movers}
use Rattle.design.specs.State.{start}
use Rattle.design.specs.Check.{accepted, check}
use Rattle.design.specs.Answer.{Answer, refused, answer, need}
use Rattle.design.specs.Refusal.{number_of, place_of, refusal_of}
use Rattle.design.specs.declared.refusal.Refused.{Refused}
use Rattle.design.specs.Places.{Accepted}
use Rattle.design.proofs.Places.{read}
use Rattle.step.specs.declared.Replayed.{Replayed}
use Rattle.step.specs.Limits.{last_property, max_bound}
use Rattle.step.specs.Piece.{piece_right}
use Rattle.step.specs.Property.{property_of}
use Rattle.step.specs.Interface.{first_wrong, wrong_at}
use Rattle.step.specs.Gate.{gate_refusal}
use Rattle.step.specs.Operations.{all_right, run_told, choices_right, REPLAY}
use Rattle.step.proofs.Gates.{need_no, need_yes, some_number, in_range, gate_refuses}
use Rattle.step.proofs.Looking.{belows, belows_length, wrong_here, right_here}

-- all entries are right, or the first wrong one is before the end
right_before : (ts : List Bool) → length ts ≤ first_wrong ts → (i : ℕ) → i < length ts → (z : Bool) → get_or ts i z ≡ true
right_before [] h i l z = absurd (omega arith)
right_before (false ∷ ts) h i l z = absurd (omega arith)
right_before (true ∷ ts) h zero l z = refl
right_before (true ∷ ts) h (suc i) l z = right_before ts (omega arith) i (omega arith) z

pub wrong_most : (ts : List Bool) → first_wrong ts ≤ length ts
wrong_most [] = omega arith
wrong_most (false ∷ ts) = omega arith
wrong_most (true ∷ ts) = let h = wrong_most ts in omega arith

pub all_below : (cs : List ℕ) (w : ℕ) → None ≡ wrong_at (belows cs w) → (i : ℕ) → i < length cs → get_or cs i 0 < w
all_below cs w e i h =
    let n = belows_length cs w in
    ltb-true (get_or cs i 0) w (sym (get_or-map (λ (x : ℕ). ltb x w) cs i 0) ∙ right_before (belows cs w) (right_here (belows cs w) e) i (omega arith) (ltb 0 w))

-- a test of all of a list, by its first wrong one
module _ {A : Type 0} (ts : List Bool) (number : ℕ) (r : Answer A) where
  pub need_wrong : (i : ℕ) → Some i ≡ wrong_at ts → need (all_right ts) number (first_wrong ts) r ≡ refused number i
  need_wrong i e =
      let (q, l) = wrong_here ts i e in
      need_no (all_right ts) number (first_wrong ts) r (ne_eqb (first_wrong ts) (length ts) (λ z. omega arith)) ∙ ap (refused number) (sym q)

  pub need_right : None ≡ wrong_at ts → need (all_right ts) number (first_wrong ts) r ≡ r
  need_right e = need_yes (all_right ts) number (first_wrong ts) r (eq-eqb (first_wrong ts) (length ts) (omega (arith, wrong_most ts, right_here ts e)))

module _ (file piece : List ℕ) (p : ℕ) (cs : List ℕ) where
  pub replay_refused : (e : Refused) → refusal_of e ≡ gate_refusal file piece p (length cs) → refused (number_of e) (place_of e) ≡ REPLAY file piece p cs
  unfolding REPLAY
  replay_refused e q = sym (gate_refuses file piece p (length cs) _ (refusal_of e) q (some_number e))

  module _ (h : Accepted file) (a : p ≤ last_property file) (t : piece_right file piece p ≡ true) (b : length cs ≤ max_bound) (w : ℕ) (m : (d : Design) → check file ≡ accepted d → w ≡ length (movers d)) where
    abbrev d : Design
    d = (read file h).tree

    abbrev ts : List Bool
    ts = choices_right d cs

    abbrev last : Answer Replayed
    last = answer (run_told d (property_of file piece d p) (start d) cs)

    here : need (all_right ts) 12 (first_wrong ts) last ≡ REPLAY file piece p cs
    unfolding REPLAY
    here = sym (in_range file piece p (length cs) _ h a t b)

    same : wrong_at (belows cs w) ≡ wrong_at ts
    same = ap (λ (j : ℕ). wrong_at (belows cs j)) (m d (read file h).is)

    pub replay_over : (over : ℕ) → Some over ≡ wrong_at (belows cs w) → refused 12 over ≡ REPLAY file piece p cs
    replay_over over o = sym (need_wrong ts 12 last over (o ∙ same)) ∙ here

    pub replay_answer_lem : None ≡ wrong_at (belows cs w) → (r : Replayed) → ((d : Design) → check file ≡ accepted d → r ≡ run_told d (property_of file piece d p) (start d) cs) → answer r ≡ REPLAY file piece p cs
    replay_answer_lem o r f = ap answer (f d (read file h).is) ∙ sym (need_right ts 12 last (o ∙ same)) ∙ here
