-- DECODE on the values of a satisfying assignment: it is not refused, and finds the choices that the assignment decodes to.
use Rattle.std.proofs.Common.{◌≡◌, ℕ, zero, suc, ◌+◌, ◌-◌, ◌<◌, ◌≤◌, true, false, List, [], ◌∷◌, map, length, get_or, take, drop, replicate, refl, ap, ◌∙◌, ap₂, arith, drop-cons}
use Rattle.design.specs.Tree.{Design, bit}
use Rattle.design.specs.WellFormed.{WellFormed}
use Rattle.step.specs.Property.{Property, PropertyOk}
use Rattle.clauses.specs.Meaning.{Assignment, satisfies}
use Rattle.clauses.specs.Circuit.{Bits}
use Rattle.clauses.specs.Formula.{variables_from, first_true, S, w, property_at, flags_at, P, frame, n, formula, choices_from, choices}
use Rattle.design.specs.Answer.{answer}
use Rattle.clauses.specs.Decode.{all_bits, ones, first_one, just_one, flag_values, chosen_from}
use Rattle.clauses.proofs.Arithmetic.{BitsBelow}
use Rattle.clauses.proofs.Definitions.{Same, literal_same}
use Rattle.clauses.proofs.StateBits.{bits_of}
use Rattle.clauses.proofs.Flags.{one_hot}
use Rattle.clauses.proofs.Frames.{frames_from, frame_big, property_next, flags_wide, Frame, frame_to, frames_apart}
use Rattle.clauses.proofs.Within.{past, past_le, frame_suc, last_past, flags_below}
use Rattle.clauses.proofs.Models.{satisfies_frames}

-- The choices depend on the variables 1..n alone.
first_same : (m : ℕ) (ρ σ : Assignment) → Same m ρ σ → (fs : Bits) → BitsBelow m fs → first_true ρ fs ≡ first_true σ fs
first_same m ρ σ s [] b = refl
first_same m ρ σ s (f ∷ fs) b = rw (literal_same m ρ σ s f b.0, first_same m ρ σ s fs b.1)

module _ (d : Design) (wf : WellFormed d) (p : Property) (ok : PropertyOk d p) where
  choices_from_same : (m : ℕ) (ρ σ : Assignment) → Same m ρ σ → (r j : ℕ) → past d p (j + r) ≤ m → choices_from d p ρ r j ≡ choices_from d p σ r j
  unfolding choices_from
  choices_from_same m ρ σ s zero j h = refl
  choices_from_same m ρ σ s (suc r) j h =
      let q : j + suc r ≡ suc j + r = omega arith in
      let h' : past d p (suc j + r) ≤ m = rw q at h in
      ap₂ ◌∷◌ (first_same m ρ σ s (flags_at d p (frame d p j)) (flags_below d wf p ok j m (omega (arith, past_le d p (suc j) r))))
      (choices_from_same m ρ σ s r (suc j) h')

  pub choices_same : (k : ℕ) (ρ σ : Assignment) → Same (suc (n d p k)) ρ σ → choices d p ρ k ≡ choices d p σ k
  unfolding choices
  choices_same k ρ σ s =
      let q : 0 + k ≡ k = omega arith in
      choices_from_same (suc (n d p k)) ρ σ s k 0 (rw q (last_past d p k))

-- Flags of which just one is true, as bytes.
falses_bits : (m : ℕ) → all_bits (map bit (replicate m false)) ≡ true
falses_bits zero = refl
falses_bits (suc m) = falses_bits m

falses_ones : (m : ℕ) → ones (map bit (replicate m false)) ≡ 0
falses_ones zero = refl
falses_ones (suc m) = falses_ones m

hot_bits : (m c : ℕ) → all_bits (map bit (one_hot m c)) ≡ true
hot_bits zero c = refl
hot_bits (suc m) zero = falses_bits m
hot_bits (suc m) (suc c) = hot_bits m c

hot_ones : (m c : ℕ) → c < m → ones (map bit (one_hot m c)) ≡ 1
hot_ones zero c h = absurd (omega arith)
hot_ones (suc m) zero h = ap suc (falses_ones m)
hot_ones (suc m) (suc c) h = hot_ones m c (omega arith)

hot_first : (m c : ℕ) → c < m → first_one (map bit (one_hot m c)) ≡ c
hot_first zero c h = absurd (omega arith)
hot_first (suc m) zero h = refl
hot_first (suc m) (suc c) h = ap suc (hot_first m c (omega arith))

hot_just : (m c : ℕ) → c < m → just_one (map bit (one_hot m c)) ≡ true
hot_just m c h = rw (hot_bits m c, hot_ones m c h)

-- the bytes of so many variables from v + 1 on
module _ (ρ : Assignment) (values : List ℕ) where
  read_values : (m v : ℕ) → v + m ≤ length values → ((i : ℕ) → i < v + m → get_or values i 0 ≡ bit (ρ (suc i)))
      → take m (drop v values) ≡ map bit (bits_of ρ (variables_from (suc v) m))
  read_values zero v h f = refl
  read_values (suc m) v h f =
      ap (take (suc m)) (drop-cons values v 0 (omega arith))
      ∙ ap₂ ◌∷◌ (f v (omega arith)) (read_values m (suc v) (omega arith) (λ i l. f i (omega arith)))

module _ (d : Design) (wf : WellFormed d) (p : Property) (ok : PropertyOk d p) (ρ : Assignment) (values : List ℕ) where
  flags_read : (m j : ℕ) → past d p (suc j) ≤ suc m → m ≤ length values → ((i : ℕ) → i < m → get_or values i 0 ≡ bit (ρ (suc i)))
      → flag_values d p values j ≡ map bit (bits_of ρ (flags_at d p (frame d p j)))
  unfolding flag_values flags_at
  flags_read m j h l f =
      let v = frame d p j + S d + P d p - 1 in
      let big = frame_big d p j in
      let room : v + w d ≤ m = omega (arith, frame_suc d p j) in
      let q : suc v ≡ (property_at d p (frame d p j)).next = omega (arith, property_next d p (frame d p j)) in
      read_values ρ values (w d) v (omega arith) (λ i k. f i (omega arith))
      ∙ ap (λ x. map bit (bits_of ρ (variables_from x (w d)))) q

  chosen_is : (m r j : ℕ) → past d p (j + r) ≤ suc m → m ≤ length values → ((i : ℕ) → i < m → get_or values i 0 ≡ bit (ρ (suc i)))
      → satisfies ρ (frames_from d p r j) ≡ true → chosen_from d p values r j ≡ answer (choices_from d p ρ r j)
  unfolding chosen_from choices_from
  chosen_is m zero j h l f s = refl
  chosen_is m (suc r) j h l f s =
      let q : j + suc r ≡ suc j + r = omega arith in
      let h' : past d p (suc j + r) ≤ suc m = rw q at h in
      let a = frames_apart d wf p ρ r j s in
      let c = first_true ρ (flags_at d p (frame d p j)) in
      let fr : Frame d wf p ρ j c = frame_to d wf p ρ j a.0 in
      let e : flag_values d p values j ≡ map bit (one_hot (w d) c) =
      flags_read m j (omega (arith, past_le d p (suc j) r)) l f ∙ ap (map bit) (fr.flags.bits ∙ ap (λ x. one_hot x c) (flags_wide d p (frame d p j))) in
      let lo : c < w d = omega (arith, fr.flags.low, flags_wide d p (frame d p j)) in
      rw (e, hot_just (w d) c lo, hot_first (w d) c lo, chosen_is m r (suc j) h' l f a.1)

  -- `values` holds the values of variables 1..n
  pub decode_chooses : (k : ℕ) → satisfies ρ (formula d p k) ≡ true → n d p k ≤ length values → ((i : ℕ) → i < n d p k → get_or values i 0 ≡ bit (ρ (suc i)))
      → chosen_from d p values k 0 ≡ answer (choices d p ρ k)
  unfolding choices
  decode_chooses k s l f =
      let q : 0 + k ≡ k = omega arith in
      chosen_is (n d p k) k 0 (rw q (last_past d p k)) l f (satisfies_frames d wf p ok k ρ s)
