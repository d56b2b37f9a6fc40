-- The formula for bound k names only the variables 1..n, so its truth depends on these alone, and its words read back as its clauses.
use Rattle.std.proofs.Common.{◌≡◌, ℕ, zero, suc, ◌+◌, ◌-◌, ◌/◌, ◌%◌, ◌<◌, ◌≤◌, Bool, true, false, cond, ◌&&◌, ◌||◌, List, [], ◌∷◌, ◌++◌, ℤ, sym, refl, ap, ◌∙◌, ap₂, le_refl, arith}
use Rattle.design.specs.Tree.{Design, truth}
use Rattle.design.specs.State.{State, widths, start}
use Rattle.design.specs.WellFormed.{WellFormed}
use Rattle.step.specs.Property.{Property, invariant, no_invalid_cell, constraint, PropertyOk}
use Rattle.clauses.specs.Literal.{Literal, positive, negative, negate, Clause}
use Rattle.clauses.specs.Meaning.{Assignment, clause_true, satisfies, ClauseWithin, Within}
use Rattle.clauses.specs.Words.{clause_words, words, clauses_of}
use Rattle.clauses.specs.Gate.{Gate, and, xor, mux, gate_clauses, gates_clauses}
use Rattle.clauses.specs.Circuit.{Bits}
use Rattle.clauses.specs.Expression.{Slots}
use Rattle.clauses.specs.Formula.{flat, units_of, initial_units, against, pairs, ties, all_ties, property_literal, frames_taken, S, w, state_at, property_at, flags_at, step_at, step_property_at, P, G, F, frame, n, first_part, property_clauses, step_property_in, step_clauses, property_literal_in, negated_from, last_clause, formula}
use Rattle.clauses.proofs.Gates.{gate_variable}
use Rattle.clauses.proofs.Correct.{LiteralBelow, GateBelow, Chain, end, link, chain_le, negate_below}
use Rattle.clauses.proofs.Arithmetic.{BitsBelow, bits_up}
use Rattle.clauses.proofs.Expressions.{SlotsBelow, slots_up, fits_up}
use Rattle.clauses.proofs.Actions.{AllFit}
use Rattle.clauses.proofs.Definitions.{Same, literal_same}
use Rattle.clauses.proofs.StateBits.{variables_below, flat_below}
use Rattle.clauses.proofs.Alike.{GatesAlike, no_gates_lem, and_alike, xor_alike, step_property_alike, BelowToo, below_kept, slots_below_too}
use Rattle.clauses.proofs.Frames.{frames_from, state_wide, state_fits, property_at_lem, step_at_lem, step_property_at_lem, frame_big, property_next, step_ends, step_le}
use Rattle.clauses.proofs.Models.{formula_is}

-- every literal names one of the variables 1, 2, .., m - 1
abbrev ClausesBelow : ℕ → List Clause → Type 0
ClausesBelow m [] = Unit {0}
ClausesBelow m (c ∷ cs) = BitsBelow m c × ClausesBelow m cs

clauses_up : {m k : ℕ} → m ≤ k → (cs : List Clause) → ClausesBelow m cs → ClausesBelow k cs
clauses_up h [] b = tt
clauses_up h (c ∷ cs) b = (bits_up h c b.0, clauses_up h cs b.1)

clauses_append : (m : ℕ) (xs ys : List Clause) → ClausesBelow m xs → ClausesBelow m ys → ClausesBelow m (xs ++ ys)
clauses_append m [] ys p q = q
clauses_append m (x ∷ xs) ys p q = (p.0, clauses_append m xs ys p.1 q)

gate_below : (m : ℕ) (g : Gate) → 0 < m → gate_variable g ≡ m → GateBelow m g → ClausesBelow (suc m) (gate_clauses g)
gate_below m (and g a b) q e h =
    let na = negate_below m a h.0 in
    let nb = negate_below m b h.1 in
    omega arith
gate_below m (xor g a b) q e h =
    let na = negate_below m a h.0 in
    let nb = negate_below m b h.1 in
    omega arith
gate_below m (mux g c a b) q e h =
    let nc = negate_below m c h.0 in
    let na = negate_below m a h.1 in
    let nb = negate_below m b h.2 in
    omega arith

gates_below : {m k : ℕ} {gs : List Gate} → 0 < m → Chain m gs k → ClausesBelow k (gates_clauses gs)
gates_below q end = tt
gates_below {k = k} q (link {n = n} {g = g} {gs = gs} e b c) =
    clauses_append k (gate_clauses g) (gates_clauses gs) (clauses_up (chain_le c) (gate_clauses g) (gate_below n g q e b)) (gates_below (omega arith) c)

-- gates alike to gates that name only variables below m
alike_below : (m : ℕ) {gs hs : List Gate} → GatesAlike (BelowToo m) gs hs → ClausesBelow m (gates_clauses gs) → ClausesBelow m (gates_clauses hs)
alike_below m no_gates_lem h = tt
alike_below m (and_alike {c = c} {d = d} p q r) h =
    let g = h.0.0 in
    let a = p h.0.1.0 in
    let b = q h.1.0.1.0 in
    ((g, (a, tt)), ((g, (b, tt)), ((g, (negate_below m c a, (negate_below m d b, tt))), alike_below m r h.1.1.1)))
alike_below m (xor_alike {c = c} {d = d} p q r) h =
    let g = h.0.0 in
    let a = p h.0.1.0 in
    let b = q h.0.1.1.0 in
    let na = negate_below m c a in
    let nb = negate_below m d b in
    ((g, (a, (b, tt))), ((g, (na, (nb, tt))), ((g, (na, (b, tt))), ((g, (a, (nb, tt))), alike_below m r h.1.1.1.1))))

cond_below : (m : ℕ) (b : Bool) (x y : Literal) → LiteralBelow m x → LiteralBelow m y → LiteralBelow m (cond b x y)
cond_below m true x y p q = p
cond_below m false x y p q = q

units_below : (m : ℕ) (xs : Bits) (v : ℕ) → BitsBelow m xs → ClausesBelow m (units_of xs v)
units_below m [] v b = tt
units_below m (x ∷ xs) v b = ((cond_below m (truth (v % 2)) x (negate x) b.0 (negate_below m x b.0), tt), units_below m xs (v / 2) b.1)

initial_below : (m : ℕ) (s : Slots) (vs : State) → SlotsBelow m s → ClausesBelow m (initial_units s vs)
initial_below m [] vs b = tt
initial_below m (g ∷ gs) [] b = tt
initial_below m (g ∷ gs) (v ∷ vs) b = clauses_append m (units_of g v) (initial_units gs vs) (units_below m g v b.0) (initial_below m gs vs b.1)

against_below : (m : ℕ) (f : Literal) (hs : Bits) → LiteralBelow m f → BitsBelow m hs → ClausesBelow m (against f hs)
against_below m f [] p b = tt
against_below m f (h ∷ hs) p b = ((negate_below m f p, (negate_below m h b.0, tt)), against_below m f hs p b.1)

pairs_below : (m : ℕ) (fs : Bits) → BitsBelow m fs → ClausesBelow m (pairs fs)
pairs_below m [] b = tt
pairs_below m (f ∷ fs) b = clauses_append m (against f fs) (pairs fs) (against_below m f fs b.0 b.1) (pairs_below m fs b.1)

ties_below : (m : ℕ) (f : Literal) (rs bs : Bits) → LiteralBelow m f → BitsBelow m rs → BitsBelow m bs → ClausesBelow m (ties f rs bs)
ties_below m f [] bs p q r = tt
ties_below m f (x ∷ rs) [] p q r = tt
ties_below m f (x ∷ rs) (y ∷ bs) p q r =
    let nf = negate_below m f p in
    ((nf, (negate_below m x q.0, (r.0, tt))), ((nf, (q.0, (negate_below m y r.0, tt))), ties_below m f rs bs p q.1 r.1))

all_ties_below : (m : ℕ) (ws : List ℕ) (fs : Bits) (rs : List Slots) (bs : Bits) → BitsBelow m fs → AllFit ws m rs → BitsBelow m bs → ClausesBelow m (all_ties fs rs bs)
all_ties_below m ws [] rs bs p q r = tt
all_ties_below m ws (f ∷ fs) [] bs p q r = tt
all_ties_below m ws (f ∷ fs) (x ∷ rs) bs p q r =
    clauses_append m (ties f (flat x) bs) (all_ties fs rs bs) (ties_below m f (flat x) bs p.0 (flat_below m x q.0.below) r) (all_ties_below m ws fs rs bs p.1 q.1 r)

-- AllFit holds of larger variables too
allfit_up : (ws : List ℕ) {m k : ℕ} → m ≤ k → (ss : List Slots) → AllFit ws m ss → AllFit ws k ss
allfit_up ws h [] f = tt
allfit_up ws h (s ∷ ss) f = (fits_up h f.0, allfit_up ws h ss f.1)

-- of two literals the one that counts, where the one is below m in the frames 0 to k and the other in the frames before k
taken_below : (p : Property) (k i m : ℕ) (state step : Literal) → i < frames_taken p k → (i ≤ k → LiteralBelow m state) → (i < k → LiteralBelow m step) → LiteralBelow m (property_literal p state step)
taken_below (invariant e) k i m state step h f g = f (omega arith)
taken_below no_invalid_cell k i m state step h f g = f (omega arith)
taken_below (constraint e) k i m state step h f g = g h

within : (m : ℕ) (cs : List Clause) → ClausesBelow (suc m) cs → Within m cs
within m [] b = tt
within m (c ∷ cs) b = (clause m c b.0, within m cs b.1)
  where
    clause : (m : ℕ) (c : Clause) → BitsBelow (suc m) c → ClauseWithin m c
    clause m [] b = tt
    clause m (l ∷ ls) b = (omega arith, clause m ls b.1)

module _ (d : Design) (p : Property) where
  -- one past the last variable, where the last frame is frame j
  abbrev pub past : ℕ → ℕ
  past j = frame d p j + S d + P d p

  pub frame_suc : (j : ℕ) → frame d p (suc j) ≡ past j + w d + G d p
  unfolding frame F
  frame_suc j = omega arith

  pub past_le : (j m : ℕ) → past j ≤ past (j + m)
  past_le j zero = let q : j + 0 ≡ j = omega arith in rw q (le_refl (past j))
  past_le j (suc m) = let q : j + suc m ≡ suc j + m = omega arith in rw q (omega (arith, past_le (suc j) m, frame_suc j))

  past_up : (j k : ℕ) → j ≤ k → past j ≤ past k
  past_up j k h = let q : j + (k - j) ≡ k = omega arith in rw q at (past_le j (k - j))

  pub last_past : (k : ℕ) → past k ≤ suc (n d p k)
  unfolding n frame
  last_past k = omega arith

  -- a greater bound has no fewer variables
  pub n_up : (j k : ℕ) → j ≤ k → n d p j ≤ n d p k
  unfolding n frame
  n_up j k h = omega (arith, past_up j k h)

module _ (d : Design) (wf : WellFormed d) (p : Property) (ok : PropertyOk d p) where
  state_below : (j m : ℕ) → past d p j ≤ m → SlotsBelow m (state_at d (frame d p j))
  state_below j m h = slots_up (omega arith) (state_at d (frame d p j)) (state_fits d wf p (frame d p j) (frame_big d p j)).below

  property_below : (j m : ℕ) → past d p j ≤ m → ClausesBelow m (property_clauses d p j)
  unfolding property_clauses
  property_below j m h =
      let v = frame d p j in
      clauses_up (omega (arith, property_next d p v)) (gates_clauses (property_at d p v).gates)
      (gates_below (omega (arith, frame_big d p j)) (property_at_lem d wf p ok v (frame_big d p j)).chain)

  pub flags_below : (j m : ℕ) → past d p (suc j) ≤ m → BitsBelow m (flags_at d p (frame d p j))
  unfolding flags_at
  flags_below j m h =
      let v = frame d p j in
      variables_below (property_at d p v).next (w d) m (omega (arith, property_next d p v, frame_big d p j)) (omega (arith, property_next d p v, frame_suc d p j))

  record StepProperty (j m : ℕ) : Type 0 where
    clauses : ClausesBelow m (gates_clauses (step_property_in d p j).gates)
    out : LiteralBelow m (step_property_in d p j).out

  -- property 2 over the frame's own state is below the next frame; over the next frame's it is alike
  step_property_below : (j m : ℕ) → past d p (suc j) ≤ m → StepProperty j m
  unfolding step_property_in step_property_at
  step_property_below j m h =
      let v = frame d p j in
      let big = frame_big d p j in
      let s = state_at d v in
      let u = state_at d (frame d p (suc j)) in
      let le : v + S d ≤ (step_at d p v).next = omega (arith, property_next d p v, chain_le (step_at_lem d wf p v big).chain) in
      let own = step_property_at_lem d wf p ok v big s (fits_up le (state_fits d wf p v big)) in
      let out = own.shape in
      let up : (step_property_at d p v s).next ≤ m = omega (arith, step_ends d wf p j s) in
      let a = step_property_alike (BelowToo m) (below_kept m) d p s (step_at d p v).next
      (slots_below_too m s u (state_wide d v ∙ sym (state_wide d (frame d p (suc j)))) (state_below (suc j) m h)) in
      record {
        clauses = alike_below m a.gates (clauses_up up (gates_clauses (step_property_at d p v s).gates) (gates_below (omega arith) own.chain));
        out = a.out (omega arith);
      }

  step_below : (j m : ℕ) → past d p (suc j) ≤ m → ClausesBelow m (step_clauses d p j)
  unfolding step_clauses
  step_below j m h =
      let v = frame d p j in
      let fs = flags_at d p v in
      let bs = flat (state_at d (frame d p (suc j))) in
      let g = step_at_lem d wf p v (frame_big d p j) in
      let bf = flags_below j m h in
      let up : (step_at d p v).next ≤ m = omega (arith, step_le d wf p j) in
      let B = gates_clauses (step_at d p v).gates in
      let C = gates_clauses (step_property_in d p j).gates in
      let D = all_ties fs (step_at d p v).out bs in
      clauses_append m (fs ∷ pairs fs) (B ++ (C ++ D)) (bf, pairs_below m fs bf)
      (clauses_append m B (C ++ D) (clauses_up up B (gates_below (omega (arith, frame_big d p j, property_next d p v)) g.chain))
      (clauses_append m C D (step_property_below j m h).clauses
      (all_ties_below m (widths d) fs (step_at d p v).out bs bf (allfit_up (widths d) up (step_at d p v).out g.shape.0) (flat_below m (state_at d (frame d p (suc j))) (state_below (suc j) m h)))))

  frames_below : (r j m : ℕ) → past d p (j + r) ≤ m → ClausesBelow m (frames_from d p r j)
  unfolding frames_from
  frames_below zero j m h = property_below j m (let q : j + 0 ≡ j = omega arith in rw q at h)
  frames_below (suc r) j m h =
      let q : j + suc r ≡ suc j + r = omega arith in
      let h' : past d p (suc j + r) ≤ m = rw q at h in
      let l : past d p (suc j) ≤ m = omega (arith, past_le d p (suc j) r) in
      clauses_append m (property_clauses d p j ++ step_clauses d p j) (frames_from d p r (suc j))
      (clauses_append m (property_clauses d p j) (step_clauses d p j) (property_below j m (omega (arith, frame_suc d p j))) (step_below j m l))
      (frames_below r (suc j) m h')

  out_below : (j m : ℕ) → past d p j ≤ m → LiteralBelow m (property_at d p (frame d p j)).out
  out_below j m h = let b = (property_at_lem d wf p ok (frame d p j) (frame_big d p j)).shape in omega (arith, property_next d p (frame d p j))

  counted_below : (k i m : ℕ) → past d p k ≤ m → i < frames_taken p k → LiteralBelow m (property_literal_in d p i)
  unfolding property_literal_in
  counted_below k i m h l =
      taken_below p k i m (property_at d p (frame d p i)).out (step_property_in d p i).out l
      (λ e. out_below i m (omega (arith, past_up d p i k e))) (λ e. (step_property_below i m (omega (arith, past_up d p (suc i) k e))).out)

  negated_below : (r j m : ℕ) → ((i : ℕ) → i < j + r → LiteralBelow m (property_literal_in d p i)) → BitsBelow m (negated_from d p r j)
  unfolding negated_from
  negated_below zero j m f = tt
  negated_below (suc r) j m f = (negate_below m (property_literal_in d p j) (f j (omega arith)), negated_below r (suc j) m (λ i h. f i (omega arith)))

  first_below : (m : ℕ) → past d p 0 ≤ m → ClausesBelow m (first_part d p)
  unfolding first_part
  first_below m h = ((omega (arith, frame_big d p 0), tt), initial_below m (state_at d (frame d p 0)) (start d) (state_below 0 m h))

  formula_below : (k m : ℕ) → past d p k ≤ m → ClausesBelow m (formula d p k)
  unfolding last_clause
  formula_below k m h =
      let q : 0 + k ≡ k = omega arith in
      let h' : past d p (0 + k) ≤ m = rw q h in
      rw (formula_is d p k)
      (clauses_append m (first_part d p) (frames_from d p k 0 ++ (last_clause d p k ∷ [])) (first_below m (omega (arith, past_le d p 0 k)))
      (clauses_append m (frames_from d p k 0) (last_clause d p k ∷ []) (frames_below k 0 m h')
      (negated_below (frames_taken p k) 0 m (λ i l. counted_below k i m h (omega arith)), tt)))

  pub formula_within : (k : ℕ) → Within (n d p k) (formula d p k)
  formula_within k = within (n d p k) (formula d p k) (formula_below k (suc (n d p k)) (last_past d p k))

-- assignments that agree on 1..m make the same clauses true
clause_same : (m : ℕ) (ρ σ : Assignment) → Same (suc m) ρ σ → (c : Clause) → ClauseWithin m c → clause_true ρ c ≡ clause_true σ c
clause_same m ρ σ s [] h = refl
clause_same m ρ σ s (l ∷ ls) h = ap₂ ◌||◌ (literal_same (suc m) ρ σ s l (omega arith)) (clause_same m ρ σ s ls h.1)

pub satisfies_same : (m : ℕ) (ρ σ : Assignment) → Same (suc m) ρ σ → (cs : List Clause) → Within m cs → satisfies ρ cs ≡ satisfies σ cs
satisfies_same m ρ σ s [] h = refl
satisfies_same m ρ σ s (c ∷ cs) h = ap₂ ◌&&◌ (clause_same m ρ σ s c h.0) (satisfies_same m ρ σ s cs h.1)

-- words read back
clause_back : (m : ℕ) (c : Clause) (ws : List ℤ) → ClauseWithin m c → clauses_of (clause_words c ++ ws) ≡ c ∷ clauses_of ws
clause_back m [] ws h = refl
clause_back m (positive zero ∷ ls) ws h = absurd (omega (arith, h.0))
clause_back m (positive (suc v) ∷ ls) ws h = rw (clause_back m ls ws h.1)
clause_back m (negative zero ∷ ls) ws h = absurd (omega (arith, h.0))
clause_back m (negative (suc v) ∷ ls) ws h = rw (clause_back m ls ws h.1)

pub words_back : (m : ℕ) (cs : List Clause) → Within m cs → clauses_of (words cs) ≡ cs
words_back m [] h = refl
words_back m (c ∷ cs) h = clause_back m c (words cs) h.0 ∙ ap (λ l. c ∷ l) (words_back m cs h.1)
