-- DECODE's answers.
use Rattle.std.proofs.Common.{◌≡◌, ℕ, zero, suc, ◌+◌, ◌-◌, ◌*◌, ◌<◌, ◌≤◌, Bool, true, false, cond, ◌&&◌, leb, List, ◌∷◌, ◌++◌, length, get_or, take, drop, sym, refl, ap, ◌∙◌, subst, ap₂, suc-mul, arith, le-leb}
use borrow.Author.Tests.{lt-leb}
use Rattle.std.specs.Prelude.{Some, None}
use Rattle.design.specs.Tree.{Design}
use Rattle.design.specs.WellFormed.{WellFormed}
use Rattle.design.proofs.WellFormed.{well_formed}
use Rattle.design.proofs.Places.{read}
use Rattle.step.specs.Property.{Property, property_of}
use Rattle.clauses.specs.Formula.{S, w, P, F, n, frame}
use Rattle.clauses.specs.Cost.{gates_in}
use Rattle.design.specs.Answer.{Answer, refused, answer, need}
use Rattle.clauses.specs.Decode.{just_one, first_one, with_choice, flag_values, chosen_from, choices_of, choices_to_write, written, decode}
use Rattle.clauses.specs.FrameSizes.{cost_in, frame_sizes, frame_length, variables_of}
use Rattle.clauses.specs.Chosen.{below, chosen_in, flags_from, first_bad, chosen_list}
use Rattle.clauses.specs.Replies.{admission_sizes, DecodeExit, decode_exit, DECODE}
use Rattle.clauses.specs.declared.frame.FrameSizes.{FrameSizes}
use Rattle.clauses.proofs.Frames.{P-is}
use Rattle.clauses.proofs.FlagChoices.{found_at, none_found}
use Rattle.clauses.proofs.FrameNumbers.{length_is, variables_are}
use Rattle.clauses.proofs.Admissions.{admission_refused, admission_admitted, admitted_in}

-- the frames of a design, as the loops walk them
module _ (d : Design) (p : Property) (values : List ℕ) where
  abbrev bad : ℕ → ℕ → ℕ → ℕ
  bad m at j = first_bad values (F d p) (w d) m at j

  abbrev start : ℕ → ℕ
  start j = frame d p j + S d + P d p - 1

  start_on : (j : ℕ) → start j + F d p ≡ start (suc j)
  unfolding frame
  start_on j = let q = suc-mul j (F d p) in omega arith

  pub start_first : start 0 ≡ 1 + S d + P d p
  unfolding frame
  start_first = omega arith

  flags_here : (at j : ℕ) → at ≡ start j → just_one (flags_from values (F d p) (w d) at) ≡ just_one (flag_values d p values j)
  unfolding flag_values
  flags_here at j e = ap (λ (i : ℕ). just_one (take (w d) (drop i values))) e

  choice_here : (at j : ℕ) → at ≡ start j → just_one (flag_values d p values j) ≡ true
      → chosen_in (flags_from values (F d p) (w d) at) ≡ first_one (flag_values d p values j)
  unfolding flag_values
  choice_here at j e t =
      ap (λ (i : ℕ). chosen_in (take (w d) (drop i values))) e
      ∙ ap (λ (b : Bool). cond b (first_one (flag_values d p values j)) (length (flag_values d p values j))) t

  from_bad : (m at j : ℕ) → at ≡ start j → bad m at j < j + m → chosen_from d p values m j ≡ refused 18 (bad m at j)
  unfolding first_bad chosen_from
  from_bad zero at j e l = absurd (omega arith)
  from_bad (suc m) at j e l =
      go (just_one (flag_values d p values j)) (subst (λ (t : Bool). cond t later j < j + suc m) (flags_here at j e) l)
      (λ k. from_bad m (at + F d p) (suc j) (ap (λ (i : ℕ). i + F d p) e ∙ start_on j) k)
      ∙ ap (λ (t : Bool). refused 18 (cond t later j)) (sym (flags_here at j e))
    where
      later : ℕ
      later = bad m (at + F d p) (suc j)

      go : (t : Bool) → cond t later j < j + suc m → (later < suc j + m → chosen_from d p values m (suc j) ≡ refused 18 later)
          → need t 18 j (with_choice (first_one (flag_values d p values j)) (chosen_from d p values m (suc j))) ≡ refused 18 (cond t later j)
      go true k r = ap (with_choice (first_one (flag_values d p values j))) (r (omega arith))
      go false k r = refl

  from_good : (m at j : ℕ) → at ≡ start j → j + m ≤ bad m at j → chosen_from d p values m j ≡ answer (chosen_list values (F d p) (w d) m at)
  unfolding first_bad chosen_from chosen_list
  from_good zero at j e l = refl
  from_good (suc m) at j e l =
      go (just_one (flag_values d p values j)) refl (subst (λ (t : Bool). j + suc m ≤ cond t later j) (flags_here at j e) l)
      (λ k. from_good m (at + F d p) (suc j) (ap (λ (i : ℕ). i + F d p) e ∙ start_on j) k)
    where
      later : ℕ
      later = bad m (at + F d p) (suc j)

      rest : List ℕ
      rest = chosen_list values (F d p) (w d) m (at + F d p)

      go : (t : Bool) → just_one (flag_values d p values j) ≡ t → j + suc m ≤ cond t later j
          → (suc j + m ≤ later → chosen_from d p values m (suc j) ≡ answer rest)
          → need t 18 j (with_choice (first_one (flag_values d p values j)) (chosen_from d p values m (suc j))) ≡ answer (chosen_in (flags_from values (F d p) (w d) at) ∷ rest)
      go true q k r =
          ap (with_choice (first_one (flag_values d p values j))) (r (omega arith))
          ∙ ap (λ (c : ℕ). answer (c ∷ rest)) (sym (choice_here at j e q))
      go false q k r = absurd (omega arith)

list_long : (values : List ℕ) (size w m at : ℕ) → length (chosen_list values size w m at) ≡ m
unfolding chosen_list
list_long values size w zero at = refl
list_long values size w (suc m) at = ap suc (list_long values size w m (at + size))

-- the frames are among the values
pub frames_fit : (values : List ℕ) (s : FrameSizes) (k m size : ℕ) → m ≡ variables_of s k → m ≤ length values → size ≡ frame_length s
    → (1 + s.bits + gates_in (cost_in s.property) + k * size ≤ length values) × (s.movers ≤ size)
frames_fit values s k m size q l e = let z : k * size ≡ k * frame_length s = ap (λ (i : ℕ). k * i) e in (omega arith, omega arith)

module _ (k : ℕ) (values choices : List ℕ) where
  abbrev exit : Answer (Unit {0}) → List ℕ → DecodeExit
  exit r cs = record { reply = r; choices = cs }

  -- the call of a design, past 19
  module _ (d : Design) (q : Property) (wf : WellFormed d) (s : FrameSizes) (same : s ≡ frame_sizes d q) where
    abbrev asked : Answer (List ℕ)
    asked = choices_of d q k values (length choices)

    abbrev exited : DecodeExit
    exited = decode_exit (written asked choices)

    -- a refusal, and an answer
    refused_exit : (i j : ℕ) → asked ≡ refused i j → exit (refused i j) choices ≡ exited
    refused_exit i j e = sym (ap (λ (x : Answer (List ℕ)). decode_exit (written x choices)) e)

    answer_exit : (cs : List ℕ) → asked ≡ answer cs → length cs ≡ k → exit (answer tt) (cs ++ drop k choices) ≡ exited
    answer_exit cs e l = ap (λ (i : ℕ). exit (answer tt) (cs ++ drop i choices)) (sym l) ∙ sym (ap (λ (x : Answer (List ℕ)). decode_exit (written x choices)) e)

    n_is : variables_of s k ≡ n d q k
    n_is = ap (λ (x : FrameSizes). variables_of x k) same ∙ variables_are d wf q k

    pub short_values : (m : ℕ) → m ≡ variables_of s k → length values < m → exit (refused 16 0) choices ≡ exited
    unfolding choices_of
    short_values m e l = refused_exit 16 0 (ap (λ (t : Bool). need (t && leb k (length choices)) 16 0 (chosen_from d q values k 0)) (lt-leb (n d q k) (length values) (omega (arith, n_is))))

    module _ (m : ℕ) (e : m ≡ variables_of s k) (enough : m ≤ length values) where
      wide_room : leb (n d q k) (length values) ≡ true
      wide_room = le-leb (n d q k) (length values) (omega (arith, n_is))

      pub short_choices : length choices < k → exit (refused 16 0) choices ≡ exited
      unfolding choices_of
      short_choices l = refused_exit 16 0 (ap₂ (λ (t u : Bool). need (t && u) 16 0 (chosen_from d q values k 0)) wide_room (lt-leb k (length choices) l))

      module _ (fits : k ≤ length choices) (size base flags : ℕ) (sz : size ≡ frame_length s) (bs : base ≡ 1 + s.bits + gates_in (cost_in s.property)) (fl : flags ≡ s.movers) where
        deep : asked ≡ chosen_from d q values k 0
        unfolding choices_of
        deep = ap₂ (λ (t u : Bool). need (t && u) 16 0 (chosen_from d q values k 0)) wide_room (le-leb k (length choices) fits)

        size_is : size ≡ F d q
        size_is = sz ∙ ap frame_length same ∙ length_is d wf q

        base_is : base ≡ frame d q 0 + S d + P d q - 1
        unfolding frame_sizes
        base_is =
            bs ∙ ap (λ (x : FrameSizes). 1 + x.bits + gates_in (cost_in x.property)) same ∙ ap (λ (x : ℕ). 1 + S d + x) (sym (P-is d q))
            ∙ sym (start_first d q values)

        flags_is : flags ≡ w d
        unfolding frame_sizes
        flags_is = fl ∙ ap (λ (x : FrameSizes). x.movers) same

        bad_is : first_bad values size flags k base 0 ≡ first_bad values (F d q) (w d) k base 0
        bad_is = ap₂ (λ (x y : ℕ). first_bad values x y k base 0) size_is flags_is

        pub bad_frame : (r : ℕ) → Some r ≡ below k (first_bad values size flags k base 0) → exit (refused 18 r) choices ≡ exited
        bad_frame r e =
            let f = found_at k _ r e in
            let z : r ≡ first_bad values (F d q) (w d) k base 0 = f.0 ∙ bad_is in
            refused_exit 18 r (deep ∙ from_bad d q values k base 0 base_is (omega arith) ∙ ap (refused 18) (sym z))

        pub good_frames : None ≡ below k (first_bad values size flags k base 0) → (after : List ℕ) → after ≡ chosen_list values size flags k base ++ drop k choices → exit (answer tt) after ≡ exited
        good_frames e after c =
            let l : k ≤ first_bad values (F d q) (w d) k base 0 = omega (arith, none_found k _ e, bad_is) in
            let u : chosen_list values size flags k base ≡ chosen_list values (F d q) (w d) k base = ap₂ (λ (x y : ℕ). chosen_list values x y k base) size_is flags_is in
            ap (exit (answer tt)) (c ∙ ap (λ (xs : List ℕ). xs ++ drop k choices) u)
            ∙ answer_exit (chosen_list values (F d q) (w d) k base) (deep ∙ from_good d q values k base 0 base_is (omega arith)) (list_long values (F d q) (w d) k base)

  -- the call of a file
  module _ (file piece : List ℕ) (p : ℕ) where
    pub decode_refused : (number place : ℕ) → refused number place ≡ admission_sizes file piece p k → exit (refused number place) choices ≡ DECODE file piece p k values choices
    unfolding decode choices_to_write
    decode_refused number place e = sym (ap (λ (x : Answer (List ℕ)). decode_exit (written x choices)) (admission_refused file piece p k number place e _))

    pub decode_passed : (s : FrameSizes) → answer s ≡ admission_sizes file piece p k → ((i : ℕ) → get_or file i 0 < 256) → (x : DecodeExit)
        → ((d : Design) (q : Property) → WellFormed d → s ≡ frame_sizes d q → x ≡ decode_exit (written (choices_of d q k values (length choices)) choices)) → x ≡ DECODE file piece p k values choices
    unfolding decode choices_to_write
    decode_passed s e bytes x f =
        let a = admission_admitted file piece p k s e bytes in
        let t = read file a.accepted in
        f t.tree (property_of file piece t.tree p) (well_formed file bytes t.tree t.is) (a.sizes t.tree t.is)
        ∙ sym (ap (λ (y : Answer (List ℕ)). decode_exit (written y choices)) (admitted_in a bytes _ t.tree t.is))
