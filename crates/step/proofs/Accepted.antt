-- What a reader that succeeds tells of its parts. Assumes nothing.
use Rattle.std.proofs.Common.{◌≡◌, ℕ, Bool, true, false, refl}
use mathlib.Core.Bool.{false≢true}
use Rattle.design.specs.Reading.{Read, got, bad, bind, provided}
use Rattle.design.specs.Answers.{found}
use Rattle.std.specs.Prelude.{Some}
use Rattle.step.specs.Accepted.{is_read, past, value_of}

-- it is found, as the checkers say it
pub read_found : {A : Type 0} (x : Read A) → is_read x ≡ true → Some (past x) ≡ found x
read_found (got a n) h = refl
read_found bad h = absurd (false≢true h)

-- a test before what is read, and before what is made of it
pub provided_read : {A : Type 0} (t : Bool) (x : Read A) → is_read (provided t x) ≡ true → (t ≡ true) × (provided t x ≡ x)
provided_read true x h = (refl, refl)
provided_read false x h = absurd (false≢true h)

pub bind_read : {A B : Type 0} (t : Bool) (x : Read A) (k : A → ℕ → Read B) → is_read (bind (provided t x) k) ≡ true → (t ≡ true) × (bind (provided t x) k ≡ bind x k)
bind_read true x k h = (refl, refl)
bind_read false x k h = absurd (false≢true h)

-- one operand
module _ {A C : Type 0} (f : A → C) where
  pub one_first : (x : Read A) → is_read (bind x (λ a n. got (f a) n)) ≡ true → is_read x ≡ true
  one_first (got a n) h = refl
  one_first bad h = h

  pub one_past : (x : Read A) → past (bind x (λ a n. got (f a) n)) ≡ past x
  one_past (got a n) = refl
  one_past bad = refl

  module _ {P R : Type 0} (ev : C → R) (z : R) (ev₁ : A → P) (z₁ : P) (g : P → R) (law : (a : A) → ev (f a) ≡ g (ev₁ a)) where
    pub one_value : (x : Read A) → is_read (bind x (λ a n. got (f a) n)) ≡ true → value_of ev z (bind x (λ a n. got (f a) n)) ≡ g (value_of ev₁ z₁ x)
    one_value (got a n) h = law a
    one_value bad h = absurd (false≢true h)

-- two operands, one after the other
module _ {A B C : Type 0} (f : A → B → C) where
  abbrev pub two : Read A → (ℕ → Read B) → Read C
  two x q = bind x (λ a m. bind (q m) (λ b n. got (f a b) n))

  pub two_first : (x : Read A) (q : ℕ → Read B) → is_read (two x q) ≡ true → is_read x ≡ true
  two_first (got a m) q h = refl
  two_first bad q h = h

  pub two_second : (x : Read A) (q : ℕ → Read B) → is_read (two x q) ≡ true → is_read (q (past x)) ≡ true
  two_second (got a m) q h = one_first (f a) (q m) h
  two_second bad q h = absurd (false≢true h)

  pub two_past : (x : Read A) (q : ℕ → Read B) → is_read (two x q) ≡ true → past (two x q) ≡ past (q (past x))
  two_past (got a m) q h = one_past (f a) (q m)
  two_past bad q h = absurd (false≢true h)

  module _ {P Q R : Type 0} (ev : C → R) (z : R) (ev₁ : A → P) (z₁ : P) (ev₂ : B → Q) (z₂ : Q) (g : P → Q → R) (law : (a : A) (b : B) → ev (f a b) ≡ g (ev₁ a) (ev₂ b)) where
    pub two_value : (x : Read A) (q : ℕ → Read B) → is_read (two x q) ≡ true → value_of ev z (two x q) ≡ g (value_of ev₁ z₁ x) (value_of ev₂ z₂ (q (past x)))
    two_value (got a m) q h = one_value (f a) ev z ev₂ z₂ (g (ev₁ a)) (law a) (q m) h
    two_value bad q h = absurd (false≢true h)

-- three: an operand, and two of another kind
module _ {A B C : Type 0} (f : A → B → B → C) where
  abbrev pub three : Read A → (ℕ → Read B) → Read C
  three x q = bind x (λ a m. two (f a) (q m) q)

  pub three_first : (x : Read A) (q : ℕ → Read B) → is_read (three x q) ≡ true → is_read x ≡ true
  three_first (got a m) q h = refl
  three_first bad q h = h

  pub three_second : (x : Read A) (q : ℕ → Read B) → is_read (three x q) ≡ true → is_read (q (past x)) ≡ true
  three_second (got a m) q h = two_first (f a) (q m) q h
  three_second bad q h = absurd (false≢true h)

  pub three_third : (x : Read A) (q : ℕ → Read B) → is_read (three x q) ≡ true → is_read (q (past (q (past x)))) ≡ true
  three_third (got a m) q h = two_second (f a) (q m) q h
  three_third bad q h = absurd (false≢true h)

  pub three_past : (x : Read A) (q : ℕ → Read B) → is_read (three x q) ≡ true → past (three x q) ≡ past (q (past (q (past x))))
  three_past (got a m) q h = two_past (f a) (q m) q h
  three_past bad q h = absurd (false≢true h)

-- two things that are told of one reading
pub both_value : {A P Q : Type 0} (f : A → P) (g : A → Q) (z : P) (w : Q) (x : Read A) → value_of {B = P × Q} (λ (a : A). (f a, g a)) (z, w) x ≡ (value_of f z x, value_of g w x)
both_value f g z w (got a n) = refl
both_value f g z w bad = refl
