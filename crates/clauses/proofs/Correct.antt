-- The law that every builder gets. Its gates are numbered: each has the next variable and reads only smaller ones. Its result has a
-- shape, and under any assignment that obeys the gates it means what it should.
use Rattle.std.proofs.Common.{◌≡◌, ℕ, suc, ◌+◌, ◌<◌, ◌≤◌, Bool, true, false, cond, not, ◌&&◌, ◌||◌, List, [], ◌∷◌, ◌++◌, length, refl, ap, ◌∙◌, ap₂, le_refl, arith}
use Rattle.clauses.specs.Literal.{Literal, positive, negative, negate, variable_of}
use Rattle.clauses.specs.Meaning.{Assignment, literal_true}
use Rattle.clauses.specs.Gate.{Gate, and, xor, mux}
use Rattle.clauses.specs.Circuit.{Built, Build, give, ◌>>=◌, and!, xor!, mux!, or! }
use Rattle.clauses.proofs.Gates.{differ, gate_variable, Facts, negate_true, facts_append}

-- the literal's variable is one of 1, 2, .., n - 1
abbrev pub LiteralBelow : ℕ → Literal → Type 0
LiteralBelow n l = (0 < variable_of l) × (variable_of l < n)

abbrev pub GateBelow : ℕ → Gate → Type 0
GateBelow n (and g a b) = LiteralBelow n a × LiteralBelow n b
GateBelow n (xor g a b) = LiteralBelow n a × LiteralBelow n b
GateBelow n (mux g c a b) = LiteralBelow n c × LiteralBelow n a × LiteralBelow n b

-- the gates' variables are n, n + 1, .., m - 1, and each gate reads only smaller ones than its own
pub data Chain : ℕ → List Gate → ℕ → Type 0 where
  end : {n : ℕ} → Chain n [] n
  link : {n m : ℕ} {g : Gate} {gs : List Gate} → gate_variable g ≡ n → GateBelow n g → Chain (suc n) gs m → Chain n (g ∷ gs) m

chain_append : {n k m : ℕ} {xs ys : List Gate} → Chain n xs k → Chain k ys m → Chain n (xs ++ ys) m
chain_append end d = d
chain_append (link e b c) d = link e b (chain_append c d)

pub chain_le : {n m : ℕ} {gs : List Gate} → Chain n gs m → n ≤ m
chain_le {n = n} end = le_refl n
chain_le (link e b c) = let h = chain_le c in omega arith

pub chain_length : {n m : ℕ} {gs : List Gate} → Chain n gs m → m ≡ n + length gs
chain_length end = omega arith
chain_length (link e b c) = let h = chain_length c in omega arith

pub record Correct {A : Type 0} (n : ℕ) (r : Built A) (Q : ℕ → A → Type 0) (R : Assignment → A → Type 0) : Type 0 where
  pub chain : Chain n r.gates r.next
  pub shape : Q r.next r.out
  pub means : (ρ : Assignment) → ρ 1 ≡ true → Facts ρ r.gates → R ρ r.out

pub correct_give : {A : Type 0} {n : ℕ} (a : A) {Q : ℕ → A → Type 0} {R : Assignment → A → Type 0}
    → Q n a → ((ρ : Assignment) → ρ 1 ≡ true → R ρ a) → Correct n (give a n) Q R
unfolding give
correct_give a q h = record { chain = end; shape = q; means = λ ρ t f. h ρ t }

pub correct_bind : {A B : Type 0} {n : ℕ} (m : Build A) (f : A → Build B)
    {Q : ℕ → A → Type 0} {R : Assignment → A → Type 0} {Q' : ℕ → B → Type 0} {R' : Assignment → B → Type 0}
    → Correct n (m n) Q R
    → ((a : A) (k : ℕ) → n ≤ k → Q k a → Correct k (f a k) Q' (λ ρ b. R ρ a → R' ρ b))
    → Correct n ((m >>= f) n) Q' R'
unfolding ◌>>=◌
correct_bind {n = n} m f g h =
    let r = m n in
    let k = h r.out r.next (chain_le g.chain) g.shape in
    record {
      chain = chain_append g.chain k.chain;
      shape = k.shape;
      means = λ ρ t fs.
          let p = (facts_append ρ r.gates (f r.out r.next).gates).0 fs in
          k.means ρ t p.1 (g.means ρ t p.0);
    }

-- the same builder, a law that follows
pub correct_weaken : {A : Type 0} {n : ℕ} {r : Built A}
    {Q : ℕ → A → Type 0} {R : Assignment → A → Type 0} {Q' : ℕ → A → Type 0} {R' : Assignment → A → Type 0}
    → Correct n r Q R
    → ((a : A) (k : ℕ) → n ≤ k → Q k a → Q' k a × ((ρ : Assignment) → ρ 1 ≡ true → R ρ a → R' ρ a))
    → Correct n r Q' R'
correct_weaken {r = r} g h =
    let q = h r.out r.next (chain_le g.chain) g.shape in
    record { chain = g.chain; shape = q.0; means = λ ρ t f. q.1 ρ t (g.means ρ t f) }

-- the same shape, another meaning
pub correct_means : {A : Type 0} {n : ℕ} {r : Built A} {Q : ℕ → A → Type 0} {R R' : Assignment → A → Type 0}
    → Correct n r Q R → ((ρ : Assignment) (a : A) → ρ 1 ≡ true → R ρ a → R' ρ a) → Correct n r Q R'
correct_means g h = correct_weaken g λ a k l q. (q, λ ρ. h ρ a)

pub and_correct : (a b : Literal) (n : ℕ) → LiteralBelow n a → LiteralBelow n b
    → Correct n (and! a b n) LiteralBelow (λ ρ x. literal_true ρ x ≡ literal_true ρ a && literal_true ρ b)
unfolding and!
and_correct a b n p q = record { chain = link {g = and n a b} refl (p, q) end; shape = omega arith; means = λ ρ t f. f.0 }

pub xor_correct : (a b : Literal) (n : ℕ) → LiteralBelow n a → LiteralBelow n b
    → Correct n (xor! a b n) LiteralBelow (λ ρ x. literal_true ρ x ≡ differ (literal_true ρ a) (literal_true ρ b))
unfolding xor!
xor_correct a b n p q = record { chain = link {g = xor n a b} refl (p, q) end; shape = omega arith; means = λ ρ t f. f.0 }

pub mux_correct : (c a b : Literal) (n : ℕ) → LiteralBelow n c → LiteralBelow n a → LiteralBelow n b
    → Correct n (mux! c a b n) LiteralBelow (λ ρ x. literal_true ρ x ≡ cond (literal_true ρ c) (literal_true ρ a) (literal_true ρ b))
unfolding mux!
mux_correct c a b n r p q = record { chain = link {g = mux n c a b} refl (r, p, q) end; shape = omega arith; means = λ ρ t f. f.0 }

pub negate_below : (n : ℕ) (l : Literal) → LiteralBelow n l → LiteralBelow n (negate l)
negate_below n (positive v) h = h
negate_below n (negative v) h = h

de_morgan : (a b : Bool) → not (not a && not b) ≡ a || b
de_morgan true b = refl
de_morgan false true = refl
de_morgan false false = refl

pub or_correct : (a b : Literal) (n : ℕ) → LiteralBelow n a → LiteralBelow n b
    → Correct n (or! a b n) LiteralBelow (λ ρ x. literal_true ρ x ≡ literal_true ρ a || literal_true ρ b)
unfolding or!
or_correct a b n p q =
    correct_bind _ _ (and_correct (negate a) (negate b) n (negate_below n a p) (negate_below n b q))
    λ x k le bx. correct_give _ (negate_below k x bx) λ ρ t e.
    negate_true ρ x ∙ ap not (e ∙ ap₂ ◌&&◌ (negate_true ρ a) (negate_true ρ b)) ∙ de_morgan (literal_true ρ a) (literal_true ρ b)
