-- Laws of lists of codes. Assumes nothing.
use Rattle.std.proofs.Common.{◌≡◌, ℕ, zero, suc, ◌+◌, ◌<◌, ◌≤◌, List, [], ◌∷◌, ◌++◌, length, get_or, take, drop, set, sym, refl, ap, ◌∙◌, append_assoc, add-one, arith, drop-cons, take-suc-set}
use Rattle.clauses.specs.Literal.{Literal}
use Rattle.clauses.specs.Writing.{from_code, from_codes}

pub drop_one : (l : List ℕ) (i : ℕ) → i < length l → drop i l ≡ get_or l i 0 ∷ drop (i + 1) l
drop_one l i h = rw (add-one, drop-cons l i 0 h)

pub drop_all : {A : Type 0} (l : List A) (i : ℕ) → length l ≤ i → drop i l ≡ []
drop_all [] zero h = refl
drop_all [] (suc i) h = refl
drop_all (x ∷ l) zero h = absurd (omega arith)
drop_all (x ∷ l) (suc i) h = drop_all l i (omega arith)

pub take_all : {A : Type 0} (l : List A) (i : ℕ) → length l ≤ i → take i l ≡ l
take_all [] zero h = refl
take_all [] (suc i) h = refl
take_all (x ∷ l) zero h = absurd (omega arith)
take_all (x ∷ l) (suc i) h = ap (λ r. x ∷ r) (take_all l i (omega arith))

pub take_none : {A : Type 0} (l : List A) → take 0 l ≡ []
take_none [] = refl
take_none (x ∷ l) = refl

pub drop_none : {A : Type 0} (l : List A) → drop 0 l ≡ l
drop_none [] = refl
drop_none (x ∷ l) = refl

pub codes_append : (a b : List ℕ) → from_codes (a ++ b) ≡ from_codes a ++ from_codes b
codes_append [] b = refl
codes_append (x ∷ a) b = ap (λ r. from_code x ∷ r) (codes_append a b)

pub codes_length : (a : List ℕ) → length (from_codes a) ≡ length a
codes_length [] = refl
codes_length (x ∷ a) = ap suc (codes_length a)

pub codes_take : (w : ℕ) (l : List ℕ) → from_codes (take w l) ≡ take w (from_codes l)
codes_take zero [] = refl
codes_take (suc w) [] = refl
codes_take zero (x ∷ l) = refl
codes_take (suc w) (x ∷ l) = ap (λ (r : List Literal). from_code x ∷ r) (codes_take w l)

pub codes_drop : (w : ℕ) (l : List ℕ) → from_codes (drop w l) ≡ drop w (from_codes l)
codes_drop zero [] = refl
codes_drop (suc w) [] = refl
codes_drop zero (x ∷ l) = refl
codes_drop (suc w) (x ∷ l) = codes_drop w l

-- the results so far, one more
pub codes_more : (out : List ℕ) (i x : ℕ) (s : Literal) (r : List Literal) → i < length out → from_code x ≡ s → from_codes (take i out) ++ (s ∷ r) ≡ from_codes (take (i + 1) (set out i x)) ++ r
codes_more out i x s r h e =
    let tk : take (i + 1) (set out i x) ≡ take i out ++ (x ∷ []) = ap (λ (j : ℕ). take j (set out i x)) (add-one i) ∙ take-suc-set out i x h in
    sym (ap (λ l. from_codes l ++ r) tk ∙ ap (λ l. l ++ r) (codes_append (take i out) (x ∷ [])) ∙ append_assoc (from_codes (take i out)) (from_code x ∷ []) r ∙ ap (λ z. from_codes (take i out) ++ (z ∷ r)) e)
