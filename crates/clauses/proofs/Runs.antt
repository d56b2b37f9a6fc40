-- The frames of a given list of choices are definitions, each variable by smaller ones: state bits as the literals that the step before
-- left, gates, flags as the choice has them. The gates of property 2 read the next frame's bits, which come after them: they are defined over the chosen
-- mover's result instead, and say the same.
use Rattle.std.proofs.Common.{◌≡◌, ℕ, zero, suc, ◌+◌, ◌<◌, Bool, true, false, List, [], ◌∷◌, ◌++◌, map, length, replicate, sym, refl, ap, ◌∙◌, subst, ap₂, le_refl, arith}
use Rattle.design.specs.Tree.{Design}
use Rattle.design.specs.State.{widths}
use Rattle.design.specs.WellFormed.{WellFormed}
use Rattle.step.specs.Property.{Property, PropertyOk}
use Rattle.clauses.specs.Literal.{literal_of}
use Rattle.clauses.specs.Meaning.{Assignment, satisfies}
use Rattle.clauses.specs.Circuit.{Bits}
use Rattle.clauses.specs.Formula.{total, variables_from, flat, first_true, S, w, state_at, property_at, flags_at, step_at, P, frame, choices_from}
use Rattle.step.specs.Breaking.{AllBelow}
use Rattle.clauses.proofs.Arithmetic.{BitsBelow, bits_up}
use Rattle.clauses.proofs.Expressions.{literal_of_true, literal_of_below}
use Rattle.clauses.proofs.Definitions.{Definition, Ordered, Obeys, ordered_append, obeys_split, obeys_join, of_gate, gates_ordered, facts_obey, obeys_facts, copies, copies_ordered, copies_say, say_copies}
use Rattle.clauses.proofs.StateBits.{bits_of, flat_slots, flat_below, length_flat, length_variables}
use Rattle.clauses.proofs.Alike.{facts_alike}
use Rattle.clauses.proofs.Flags.{one_hot, OneHot, one_flags}
use Rattle.clauses.proofs.Frames.{frames_from, property_at_lem, step_at_lem, frame_big, property_next, step_property_at_lem, step_ends, step_le, flags_wide, result_of, chosen_property, chosen_alike, Frame, frame_to, frame_from, results, frames_apart, frames_joined, last_to, last_from}

-- the flags of a choice, in constants
abbrev flags_of : ℕ → ℕ → Bits
flags_of w c = map literal_of (one_hot w c)

length-map : (bs : List Bool) → length (map literal_of bs) ≡ length bs
length-map [] = refl
length-map (b ∷ bs) = ap suc (length-map bs)

length_falses : (w : ℕ) → length (replicate w false) ≡ w
length_falses zero = refl
length_falses (suc w) = ap suc (length_falses w)

length_one_hot : (w c : ℕ) → length (one_hot w c) ≡ w
length_one_hot zero c = refl
length_one_hot (suc w) zero = ap suc (length_falses w)
length_one_hot (suc w) (suc c) = ap suc (length_one_hot w c)

length_flags : (w c : ℕ) → length (flags_of w c) ≡ w
length_flags w c = length-map (one_hot w c) ∙ length_one_hot w c

bits_literals : (ρ : Assignment) → ρ 1 ≡ true → (bs : List Bool) → bits_of ρ (map literal_of bs) ≡ bs
bits_literals ρ one [] = refl
bits_literals ρ one (b ∷ bs) = ap₂ ◌∷◌ (literal_of_true ρ one b) (bits_literals ρ one bs)

literals_below : (n : ℕ) → 1 < n → (bs : List Bool) → BitsBelow n (map literal_of bs)
literals_below n h [] = tt
literals_below n h (b ∷ bs) = (literal_of_below n b h, literals_below n h bs)

pub S-is : (d : Design) → total (widths d) ≡ S d
unfolding S
S-is d = refl

pub state_variables : (d : Design) (v : ℕ) → flat (state_at d v) ≡ variables_from v (S d)
unfolding state_at S
state_variables d v = flat_slots v (widths d)

state_to : (d : Design) (ρ : Assignment) (v : ℕ) (ls : Bits) → length ls ≡ S d → Obeys ρ (copies v ls) → bits_of ρ (flat (state_at d v)) ≡ bits_of ρ ls
state_to d ρ v ls l f = ap (bits_of ρ) (state_variables d v ∙ ap (variables_from v) (sym l)) ∙ copies_say ρ v ls f

state_from : (d : Design) (ρ : Assignment) (v : ℕ) (ls : Bits) → length ls ≡ S d → bits_of ρ (flat (state_at d v)) ≡ bits_of ρ ls → Obeys ρ (copies v ls)
state_from d ρ v ls l e = say_copies ρ v ls (ap (bits_of ρ) (sym (state_variables d v ∙ ap (variables_from v) (sym l))) ∙ e)

flags_to : (d : Design) (p : Property) (ρ : Assignment) → ρ 1 ≡ true → (v c : ℕ) → c < w d → Obeys ρ (copies (property_at d p v).next (flags_of (w d) c)) → OneHot ρ (flags_at d p v) c
unfolding flags_at
flags_to d p ρ one v c h f =
    let x = (property_at d p v).next in
    record {
      low = omega (arith, length_variables x (w d));
      bits = ap (λ k. bits_of ρ (variables_from x k)) (sym (length_flags (w d) c)) ∙ copies_say ρ x (flags_of (w d) c) f ∙ bits_literals ρ one (one_hot (w d) c)
          ∙ ap (λ k. one_hot k c) (sym (length_variables x (w d)));
    }

flags_from_lem : (d : Design) (p : Property) (ρ : Assignment) → ρ 1 ≡ true → (v c : ℕ) → OneHot ρ (flags_at d p v) c → Obeys ρ (copies (property_at d p v).next (flags_of (w d) c))
unfolding flags_at
flags_from_lem d p ρ one v c h =
    let x = (property_at d p v).next in
    say_copies ρ x (flags_of (w d) c)
    (ap (λ k. bits_of ρ (variables_from x k)) (length_flags (w d) c) ∙ h.bits ∙ ap (λ k. one_hot k c) (length_variables x (w d)) ∙ sym (bits_literals ρ one (one_hot (w d) c)))

module _ (d : Design) (wf : WellFormed d) (p : Property) where
  -- the parts of a frame whose state is given by literals
  abbrev state_is : ℕ → Bits → List Definition
  state_is j ls = copies (frame d p j) ls

  abbrev property_is : ℕ → List Definition
  property_is j = map of_gate (property_at d p (frame d p j)).gates

  abbrev choice_is : ℕ → ℕ → List Definition
  choice_is j c = copies (property_at d p (frame d p j)).next (flags_of (w d) c)

  abbrev step_is : ℕ → List Definition
  step_is j = map of_gate (step_at d p (frame d p j)).gates

  abbrev step_property_is : ℕ → ℕ → List Definition
  step_property_is j c = map of_gate (chosen_property d p j c).gates

  abbrev result : ℕ → ℕ → Bits
  result j c = flat (result_of d p j c)

  -- all variables from frame j on
  unfoldable pub run : ℕ → Bits → List ℕ → List Definition
  run j ls [] = state_is j ls ++ property_is j
  run j ls (c ∷ cs) = state_is j ls ++ (property_is j ++ (choice_is j c ++ (step_is j ++ (step_property_is j c ++ run (suc j) (result j c) cs))))

  result_wide : (j c : ℕ) → c < w d → length (result j c) ≡ S d
  result_wide j c h = length_flat (result_of d p j c) ∙ ap total (results d wf p j c h).wide ∙ S-is d

  result_below : (j c : ℕ) → c < w d → BitsBelow (frame d p (suc j)) (result j c)
  result_below j c h =
      bits_up (step_le d wf p j) (result j c) (flat_below (step_at d p (frame d p j)).next (result_of d p j c) (results d wf p j c h).below)

  pub run_ordered : PropertyOk d p → (cs : List ℕ) (j : ℕ) (ls : Bits) (m : ℕ) → length ls ≡ S d → BitsBelow (frame d p j) ls → AllBelow (w d) cs
      → m ≡ frame d p (j + length cs) + S d + P d p → Ordered (frame d p j) (run j ls cs) m
  unfolding run
  run_ordered ok [] j ls m l b lo e =
      let v = frame d p j in
      let q : j + 0 ≡ j = omega arith in
      let e' : (property_at d p v).next ≡ m = omega (arith, property_next d p v, rw q at e) in
      ordered_append (copies_ordered ls v v (v + S d) (omega arith) (le_refl v) b)
      (subst (λ x. Ordered (v + S d) (property_is j) x) e' (gates_ordered (property_at_lem d wf p ok v (frame_big d p j)).chain))
  run_ordered ok (c ∷ cs) j ls m l b lo e =
      let v = frame d p j in
      let h = frame_big d p j in
      let x = (property_at d p v).next in
      let q : j + suc (length cs) ≡ suc j + length cs = omega arith in
      ordered_append (copies_ordered ls v v (v + S d) (omega arith) (le_refl v) b)
      (ordered_append (gates_ordered (property_at_lem d wf p ok v h).chain)
      (ordered_append (copies_ordered (flags_of (w d) c) 2 x (x + w d) (omega (arith, length_flags (w d) c)) (omega (arith, property_next d p v)) (literals_below 2 (le_refl 2) (one_hot (w d) c)))
      (ordered_append (gates_ordered (step_at_lem d wf p v h).chain)
      (ordered_append (subst (λ y. Ordered (step_at d p v).next (step_property_is j c) y) (step_ends d wf p j (result_of d p j c))
      (gates_ordered (step_property_at_lem d wf p ok v h (result_of d p j c) (results d wf p j c lo.0)).chain))
      (run_ordered ok cs (suc j) (result j c) m (result_wide j c lo.0) (result_below j c lo.0) lo.1 (rw q at e))))))

  pub record Told (ρ : Assignment) (j : ℕ) (ls : Bits) (cs : List ℕ) : Type 0 where
    pub state : bits_of ρ (flat (state_at d (frame d p j))) ≡ bits_of ρ ls
    pub sat : satisfies ρ (frames_from d p (length cs) j) ≡ true
    pub choice : choices_from d p ρ (length cs) j ≡ cs

  -- an assignment that obeys the definitions of a list of choices satisfies the clauses of the frames, and decodes to that list
  pub run_to : (ρ : Assignment) → ρ 1 ≡ true → (cs : List ℕ) (j : ℕ) (ls : Bits) → length ls ≡ S d → AllBelow (w d) cs → Obeys ρ (run j ls cs) → Told ρ j ls cs
  unfolding run choices_from
  run_to ρ one [] j ls l lo f =
      let v = frame d p j in
      let r = obeys_split ρ (state_is j ls) (property_is j) f in
      record { state = state_to d ρ v ls l r.0; sat = last_from d wf p ρ j (obeys_facts ρ (property_at d p v).gates r.1); choice = refl }
  run_to ρ one (c ∷ cs) j ls l lo f =
      let v = frame d p j in
      let r₅ = run (suc j) (result j c) cs in
      let r₄ = step_property_is j c ++ r₅ in
      let r₃ = step_is j ++ r₄ in
      let r₂ = choice_is j c ++ r₃ in
      let f₁ = obeys_split ρ (state_is j ls) (property_is j ++ r₂) f in
      let f₂ = obeys_split ρ (property_is j) r₂ f₁.1 in
      let f₃ = obeys_split ρ (choice_is j c) r₃ f₂.1 in
      let f₄ = obeys_split ρ (step_is j) r₄ f₃.1 in
      let f₅ = obeys_split ρ (step_property_is j c) r₅ f₄.1 in
      let t = run_to ρ one cs (suc j) (result j c) (result_wide j c lo.0) lo.1 f₅.1 in
      let alike = chosen_alike d wf p ρ j c lo.0 (sym t.state) in
      let fr : Frame d wf p ρ j c = record {
        property = obeys_facts ρ (property_at d p v).gates f₂.0;
        flags = flags_to d p ρ one v c lo.0 f₃.0;
        steps = obeys_facts ρ (step_at d p v).gates f₄.0;
        step_property = (facts_alike ρ alike.gates).0 (obeys_facts ρ (chosen_property d p j c).gates f₅.0);
        after = sym t.state;
      } in
      record {
        state = state_to d ρ v ls l f₁.0;
        sat = frames_joined d wf p ρ (length cs) j (frame_from d wf p ρ j c fr) t.sat;
        choice = ap₂ ◌∷◌ (one_flags ρ (flags_at d p v) c fr.flags).choice t.choice;
      }

  -- an assignment that satisfies the clauses of the frames obeys the definitions of the list that it decodes to
  pub run_from : (ρ : Assignment) → ρ 1 ≡ true → (m j : ℕ) (ls : Bits) → length ls ≡ S d
      → bits_of ρ (flat (state_at d (frame d p j))) ≡ bits_of ρ ls → satisfies ρ (frames_from d p m j) ≡ true → Obeys ρ (run j ls (choices_from d p ρ m j))
  unfolding run choices_from
  run_from ρ one zero j ls l b s =
      let v = frame d p j in
      obeys_join ρ (state_is j ls) (property_is j) (state_from d ρ v ls l b) (facts_obey ρ (property_at d p v).gates (last_to d wf p ρ j s))
  run_from ρ one (suc m) j ls l b s =
      let v = frame d p j in
      let c = first_true ρ (flags_at d p v) in
      let a = frames_apart d wf p ρ m j s in
      let fr = frame_to d wf p ρ j a.0 in
      let lo : c < w d = omega (arith, fr.flags.low, flags_wide d p v) in
      let alike = chosen_alike d wf p ρ j c lo fr.after in
      let r₅ = run (suc j) (result j c) (choices_from d p ρ m (suc j)) in
      let r₄ = step_property_is j c ++ r₅ in
      let r₃ = step_is j ++ r₄ in
      let r₂ = choice_is j c ++ r₃ in
      obeys_join ρ (state_is j ls) (property_is j ++ r₂) (state_from d ρ v ls l b)
      (obeys_join ρ (property_is j) r₂ (facts_obey ρ (property_at d p v).gates fr.property)
      (obeys_join ρ (choice_is j c) r₃ (flags_from_lem d p ρ one v c fr.flags)
      (obeys_join ρ (step_is j) r₄ (facts_obey ρ (step_at d p v).gates fr.steps)
      (obeys_join ρ (step_property_is j c) r₅ (facts_obey ρ (chosen_property d p j c).gates ((facts_alike ρ alike.gates).1 fr.step_property))
      (run_from ρ one m (suc j) (result j c) (result_wide j c lo) (sym fr.after) a.1)))))

  pub choices_below : (ρ : Assignment) (m j : ℕ) → satisfies ρ (frames_from d p m j) ≡ true → AllBelow (w d) (choices_from d p ρ m j)
  unfolding choices_from
  choices_below ρ zero j s = tt
  choices_below ρ (suc m) j s =
      let a = frames_apart d wf p ρ m j s in
      let fr = frame_to d wf p ρ j a.0 in
      (omega (arith, fr.flags.low, flags_wide d p (frame d p j)), choices_below ρ m (suc j) a.1)
