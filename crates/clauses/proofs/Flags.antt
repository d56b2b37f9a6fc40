-- What the clauses of flags and ties say: just one flag is true, and the next state's bits are those of its mover's result.
use Rattle.std.proofs.Common.{◌≡◌, ℕ, zero, suc, ◌<◌, Bool, true, false, not, ◌&&◌, ◌||◌, List, [], ◌∷◌, length, get_or, replicate, sym, refl, ap, ap₂, true≢false, arith}
use Rattle.clauses.specs.Literal.{Literal}
use Rattle.clauses.specs.Meaning.{Assignment, literal_true, clause_true, satisfies}
use Rattle.clauses.specs.Circuit.{Bits}
use Rattle.clauses.specs.Expression.{Slots}
use Rattle.clauses.specs.Formula.{flat, against, pairs, ties, all_ties, first_true}
use Rattle.clauses.proofs.Gates.{negate_true, satisfies_append, both, both_l, both_r}
use Rattle.clauses.proofs.StateBits.{bits_of}

-- flags: just one is true
abbrev pub one_hot : ℕ → ℕ → List Bool
one_hot zero c = []
one_hot (suc w) zero = true ∷ replicate w false
one_hot (suc w) (suc c) = false ∷ one_hot w c

against_off : (ρ : Assignment) (f : Literal) (hs : Bits) → literal_true ρ f ≡ false → satisfies ρ (against f hs) ≡ true
against_off ρ f [] e = refl
against_off ρ f (h ∷ hs) e = rw (negate_true ρ f, e) (against_off ρ f hs e)

against_to : (ρ : Assignment) (f : Literal) (hs : Bits) → literal_true ρ f ≡ true → satisfies ρ (against f hs) ≡ true → bits_of ρ hs ≡ replicate (length hs) false
against_to ρ f [] e s = refl
against_to ρ f (h ∷ hs) e s =
    let s' : (not (literal_true ρ h) || false) && satisfies ρ (against f hs) ≡ true = rw (negate_true ρ f, negate_true ρ h, e) at s in
    ap₂ ◌∷◌ (go (literal_true ρ h) (both_l (not (literal_true ρ h) || false) (satisfies ρ (against f hs)) s'))
    (against_to ρ f hs e (both_r (not (literal_true ρ h) || false) (satisfies ρ (against f hs)) s'))
  where
    go : (b : Bool) → not b || false ≡ true → b ≡ false
    go true z = sym z
    go false z = refl

against_from : (ρ : Assignment) (f : Literal) (hs : Bits) → bits_of ρ hs ≡ replicate (length hs) false → satisfies ρ (against f hs) ≡ true
against_from ρ f [] e = refl
against_from ρ f (h ∷ hs) e =
    let p : literal_true ρ h ≡ false = cc in
    let q : bits_of ρ hs ≡ replicate (length hs) false = cc in
    rw (negate_true ρ f, negate_true ρ h, p) (both (not (literal_true ρ f) || true) (satisfies ρ (against f hs)) (go (literal_true ρ f)) (against_from ρ f hs q))
  where
    go : (b : Bool) → not b || true ≡ true
    go true = refl
    go false = refl

pairs_none : (ρ : Assignment) (fs : Bits) → bits_of ρ fs ≡ replicate (length fs) false → satisfies ρ (pairs fs) ≡ true
pairs_none ρ [] e = refl
pairs_none ρ (f ∷ fs) e =
    let q : bits_of ρ fs ≡ replicate (length fs) false = cc in
    rw satisfies_append (both (satisfies ρ (against f fs)) (satisfies ρ (pairs fs)) (against_from ρ f fs q) (pairs_none ρ fs q))

pub record OneHot (ρ : Assignment) (fs : Bits) (c : ℕ) : Type 0 where
  pub low : c < length fs
  pub bits : bits_of ρ fs ≡ one_hot (length fs) c

pub flags_one : (ρ : Assignment) (fs : Bits) → clause_true ρ fs ≡ true → satisfies ρ (pairs fs) ≡ true → OneHot ρ fs (first_true ρ fs)
flags_one ρ [] t s = absurd (true≢false (sym t))
flags_one ρ (f ∷ fs) t s = go (literal_true ρ f) refl (λ t' s'. flags_one ρ fs t' s')
  where
    s₂ : satisfies ρ (against f fs) && satisfies ρ (pairs fs) ≡ true
    s₂ = rw satisfies_append at s

    go : (b : Bool) → literal_true ρ f ≡ b → (clause_true ρ fs ≡ true → satisfies ρ (pairs fs) ≡ true → OneHot ρ fs (first_true ρ fs)) → OneHot ρ (f ∷ fs) (first_true ρ (f ∷ fs))
    go true e r =
        rw e (record {
          low = omega arith;
          bits = ap₂ ◌∷◌ e (against_to ρ f fs e (both_l (satisfies ρ (against f fs)) (satisfies ρ (pairs fs)) s₂));
        })
    go false e r =
        let h = r (rw e at t) (both_r (satisfies ρ (against f fs)) (satisfies ρ (pairs fs)) s₂) in
        rw e (record { low = omega (arith, h.low); bits = ap₂ ◌∷◌ e h.bits })

pub record Flags (ρ : Assignment) (fs : Bits) (c : ℕ) : Type 0 where
  pub some : clause_true ρ fs ≡ true
  pub one : satisfies ρ (pairs fs) ≡ true
  pub choice : first_true ρ fs ≡ c

pub one_flags : (ρ : Assignment) (fs : Bits) (c : ℕ) → OneHot ρ fs c → Flags ρ fs c
one_flags ρ [] c h = absurd (omega (arith, h.low))
one_flags ρ (f ∷ fs) zero h =
    let p : literal_true ρ f ≡ true = cc h.bits in
    let q : bits_of ρ fs ≡ replicate (length fs) false = cc h.bits in
    record {
      some = rw p;
      one = rw satisfies_append (both (satisfies ρ (against f fs)) (satisfies ρ (pairs fs)) (against_from ρ f fs q) (pairs_none ρ fs q));
      choice = rw p;
    }
one_flags ρ (f ∷ fs) (suc c) h =
    let p : literal_true ρ f ≡ false = cc h.bits in
    let q : bits_of ρ fs ≡ one_hot (length fs) c = cc h.bits in
    let r = one_flags ρ fs c (record { low = omega (arith, h.low); bits = q }) in
    record {
      some = rw p r.some;
      one = rw satisfies_append (both (satisfies ρ (against f fs)) (satisfies ρ (pairs fs)) (against_off ρ f fs p) r.one);
      choice = rw p (ap suc r.choice);
    }

-- ties: a false flag says nothing, a true one that the bits are equal
ties_off : (ρ : Assignment) (f : Literal) (rs bs : Bits) → literal_true ρ f ≡ false → satisfies ρ (ties f rs bs) ≡ true
ties_off ρ f [] bs e = refl
ties_off ρ f (r ∷ rs) [] e = refl
ties_off ρ f (r ∷ rs) (b ∷ bs) e = rw (negate_true ρ f, e) (ties_off ρ f rs bs e)

tie_to : (r b x : Bool) → (not r || (b || false)) && ((r || (not b || false)) && x) ≡ true → r ≡ b
tie_to true true x e = refl
tie_to true false x e = sym e
tie_to false true x e = e
tie_to false false x e = refl

tie_rest : (r b x : Bool) → (not r || (b || false)) && ((r || (not b || false)) && x) ≡ true → x ≡ true
tie_rest true true x e = e
tie_rest true false x e = absurd (true≢false (sym e))
tie_rest false true x e = absurd (true≢false (sym e))
tie_rest false false x e = e

tie_from : (r b x : Bool) → r ≡ b → x ≡ true → (not r || (b || false)) && ((r || (not b || false)) && x) ≡ true
tie_from true true x e z = z
tie_from true false x e z = sym e
tie_from false true x e z = e
tie_from false false x e z = z

ties_to : (ρ : Assignment) (f : Literal) (rs bs : Bits) → length rs ≡ length bs → literal_true ρ f ≡ true → satisfies ρ (ties f rs bs) ≡ true → bits_of ρ rs ≡ bits_of ρ bs
ties_to ρ f [] [] l e s = refl
ties_to ρ f [] (b ∷ bs) l e s = absurd (omega arith)
ties_to ρ f (r ∷ rs) [] l e s = absurd (omega arith)
ties_to ρ f (r ∷ rs) (b ∷ bs) l e s =
    let s' : (not (literal_true ρ r) || (literal_true ρ b || false)) && ((literal_true ρ r || (not (literal_true ρ b) || false)) && satisfies ρ (ties f rs bs)) ≡ true
    = rw (negate_true ρ f, negate_true ρ r, negate_true ρ b, e) at s in
    ap₂ ◌∷◌ (tie_to (literal_true ρ r) (literal_true ρ b) (satisfies ρ (ties f rs bs)) s')
    (ties_to ρ f rs bs (omega arith) e (tie_rest (literal_true ρ r) (literal_true ρ b) (satisfies ρ (ties f rs bs)) s'))

ties_from : (ρ : Assignment) (f : Literal) (rs bs : Bits) → literal_true ρ f ≡ true → bits_of ρ rs ≡ bits_of ρ bs → satisfies ρ (ties f rs bs) ≡ true
ties_from ρ f [] bs e s = refl
ties_from ρ f (r ∷ rs) [] e s = refl
ties_from ρ f (r ∷ rs) (b ∷ bs) e s =
    let p : literal_true ρ r ≡ literal_true ρ b = cc in
    let q : bits_of ρ rs ≡ bits_of ρ bs = cc in
    rw (negate_true ρ f, negate_true ρ r, negate_true ρ b, e) (tie_from (literal_true ρ r) (literal_true ρ b) (satisfies ρ (ties f rs bs)) p (ties_from ρ f rs bs e q))

all_ties_none : (ρ : Assignment) (fs : Bits) (rs : List Slots) (bs : Bits) → bits_of ρ fs ≡ replicate (length fs) false → satisfies ρ (all_ties fs rs bs) ≡ true
all_ties_none ρ [] rs bs e = refl
all_ties_none ρ (f ∷ fs) [] bs e = refl
all_ties_none ρ (f ∷ fs) (r ∷ rs) bs e =
    let p : literal_true ρ f ≡ false = cc in
    let q : bits_of ρ fs ≡ replicate (length fs) false = cc in
    rw satisfies_append (both (satisfies ρ (ties f (flat r) bs)) (satisfies ρ (all_ties fs rs bs)) (ties_off ρ f (flat r) bs p) (all_ties_none ρ fs rs bs q))

pub all_ties_to : (ρ : Assignment) (fs : Bits) (rs : List Slots) (bs : Bits) (c : ℕ) → OneHot ρ fs c → length rs ≡ length fs
    → length (flat (get_or rs c [])) ≡ length bs
    → satisfies ρ (all_ties fs rs bs) ≡ true → bits_of ρ (flat (get_or rs c [])) ≡ bits_of ρ bs
all_ties_to ρ [] rs bs c h l w s = absurd (omega (arith, h.low))
all_ties_to ρ (f ∷ fs) [] bs c h l w s = absurd (omega arith)
all_ties_to ρ (f ∷ fs) (r ∷ rs) bs zero h l w s =
    let s' = rw satisfies_append at s in
    let p : literal_true ρ f ≡ true = cc h.bits in
    ties_to ρ f (flat r) bs w p (both_l (satisfies ρ (ties f (flat r) bs)) (satisfies ρ (all_ties fs rs bs)) s')
all_ties_to ρ (f ∷ fs) (r ∷ rs) bs (suc c) h l w s =
    let s' = rw satisfies_append at s in
    let q : bits_of ρ fs ≡ one_hot (length fs) c = cc h.bits in
    all_ties_to ρ fs rs bs c (record { low = omega (arith, h.low); bits = q }) (omega arith) w
    (both_r (satisfies ρ (ties f (flat r) bs)) (satisfies ρ (all_ties fs rs bs)) s')

pub all_ties_from : (ρ : Assignment) (fs : Bits) (rs : List Slots) (bs : Bits) (c : ℕ) → OneHot ρ fs c → length rs ≡ length fs
    → bits_of ρ (flat (get_or rs c [])) ≡ bits_of ρ bs → satisfies ρ (all_ties fs rs bs) ≡ true
all_ties_from ρ [] rs bs c h l e = refl
all_ties_from ρ (f ∷ fs) [] bs c h l e = refl
all_ties_from ρ (f ∷ fs) (r ∷ rs) bs zero h l e =
    let p : literal_true ρ f ≡ true = cc h.bits in
    let q : bits_of ρ fs ≡ replicate (length fs) false = cc h.bits in
    rw satisfies_append (both (satisfies ρ (ties f (flat r) bs)) (satisfies ρ (all_ties fs rs bs)) (ties_from ρ f (flat r) bs p e) (all_ties_none ρ fs rs bs q))
all_ties_from ρ (f ∷ fs) (r ∷ rs) bs (suc c) h l e =
    let p : literal_true ρ f ≡ false = cc h.bits in
    let q : bits_of ρ fs ≡ one_hot (length fs) c = cc h.bits in
    rw satisfies_append (both (satisfies ρ (ties f (flat r) bs)) (satisfies ρ (all_ties fs rs bs)) (ties_off ρ f (flat r) bs p)
    (all_ties_from ρ fs rs bs c (record { low = omega (arith, h.low); bits = q }) (omega arith) e))
