-- One owner: VERDICT, then zeros where its last formula and the values stood.
use mathlib.Core.Path.{◌≡◌, refl, sym, ap, ap₂, subst, ◌∙◌}
use mathlib.Core.List.{List, [], ◌∷◌, ◌++◌}
use Prim.Native.Nat.{ℕ, zero, suc, ◌+◌, ◌-◌, ◌<◌, ◌≤◌}
use native.Mathlib.Omega.{arith}
use lib.Dec.{leb}
use lib.IntN.{ℤ, pos}
use lib.ListN.{length, get_or, take, drop, replicate}
use lib.Seq.{length-take-le, drop_at}
use Rattle.design.specs.Tree.{Design}
use Rattle.design.specs.Check.{Checked, check}
use Rattle.design.specs.Answer.{Answer, refused, answer, need, of_checked, on_design}
use Rattle.design.proofs.WellFormed.{well_formed}
use Rattle.step.specs.Gate.{gate}
use Rattle.step.specs.Limits.{last_property, max_bound}
use Rattle.step.specs.Piece.{piece_right}
use Rattle.step.specs.Property.{Property, property_of}
use Rattle.clauses.specs.Words.{words}
use Rattle.clauses.specs.Formula.{n, formula}
use Rattle.clauses.specs.Limits.{last_variable}
use Rattle.clauses.specs.Admission.{admit}
use Rattle.clauses.specs.Size.{Sizes, sizes_of, size}
use Rattle.clauses.specs.Replies.{seven_of, size_reply}
use Rattle.clauses.specs.declared.frame.FormulaSizes.{FormulaSizes}
use Rattle.clauses.proofs.Admissions.{admit_in}
use Rattle.clauses.proofs.Within.{n_up}
use Rattle.search.specs.Search.{up_to, SAT, UNSAT, SPENT, Outcome}
use Rattle.search.specs.Search as search
use Rattle.search.specs.Solve.{values_left}
use Rattle.verdict.specs.Verdict.{Verdict, VIOLATED, CLEAN, SPENT-AT, Told, Judged, decided, searched, judged_from, judge, Memory, After, memory_left, room_for, after_call, verdict}
use Rattle.verdict.specs.Owners.{Owner, Buffers, with_choices, alone, last_tried, used_for, zeroed, buffers_left}
use Rattle.verdict.specs.Answers.{declared_verdict, declared_told, declared_reply, Exit, exit, verdict_number, verdict_step, owner_words}
use Rattle.verdict.specs.OwnersLoop.{last_bound, Clearable, Cleared, one_owner}
use Rattle.verdict.specs.declared.answer.Told as declared-told
use Rattle.verdict.proofs.Growing.{words_grow}
use Rattle.verdict.proofs.Calls.{Answered, answered}
use Rattle.verdict.proofs.Loop.{front_long, left_long}
use Rattle.verdict.proofs.Unread.{last_tried_lem}

-- the words of an owner that is not refused
pub owner_done : (t : declared-told.Told) {number step : ℕ} → number ≡ verdict_number t.verdict → step ≡ verdict_step t.verdict → 0 ∷ 0 ∷ number ∷ step ∷ t.tries ∷ [] ≡ owner_words (answer t)
owner_done t e q = ap₂ (λ (x y : ℕ). 0 ∷ 0 ∷ x ∷ y ∷ t.tries ∷ []) e q

-- Clearing: SIZE's reply is what `Clearable` says.
module _ {file piece : List ℕ} {i : ℕ} {clauses : List ℤ} {values : List ℕ} (h : Clearable file piece i clauses values) where
  pub never_refused : (number place : ℕ) → refused number place ≡ size_reply (size file piece 0 i) → ⊥
  never_refused number place e = let z : ◌≡◌ {A = ℕ} 0 1 = cc (e ∙ ap size_reply h.sized) in omega arith

  module _ (s : FormulaSizes) (e : answer s ≡ size_reply (size file piece 0 i)) where
    told_sizes : (t : Sizes) → size file piece 0 i ≡ answer t → s ≡ seven_of t
    told_sizes t q = cc (e ∙ ap size_reply q)

    pub words_room : s.words ≤ length clauses
    words_room = omega (arith, h.words, ap (λ (x : FormulaSizes). x.words) (told_sizes h.sizes h.sized))

    pub values_room : s.variables ≤ length values
    values_room = omega (arith, h.variables, ap (λ (x : FormulaSizes). x.variables) (told_sizes h.sizes h.sized))

    pub cleared : (w : List ℤ) (v : List ℕ) → w ≡ replicate (length (take s.words clauses)) (pos 0) → v ≡ replicate (length (take s.variables values)) 0
        → Cleared file piece i clauses (w ++ drop s.words clauses) values (v ++ drop s.variables values)
    cleared w v a b = record {
      words = λ t q.
          ap (λ (x : List ℤ). x ++ drop s.words clauses) (a ∙ ap (λ (m : ℕ). replicate m (pos 0)) (length-take-le s.words clauses words_room))
          ∙ ap (λ (m : ℕ). zeroed (pos 0) m clauses) (ap (λ (x : FormulaSizes). x.words) (told_sizes t q));
      variables = λ t q.
          ap (λ (x : List ℕ). x ++ drop s.variables values) (b ∙ ap (λ (m : ℕ). replicate m 0) (length-take-le s.variables values values_room))
          ∙ ap (λ (m : ℕ). zeroed 0 m values) (ap (λ (x : FormulaSizes). x.variables) (told_sizes t q));
    }

-- zeros over a front
zeroed_over : {A : Type 0} (z : A) (m : ℕ) (front xs : List A) → length front ≡ m → zeroed z m (front ++ drop m xs) ≡ zeroed z m xs
zeroed_over z m front xs h = ap (λ ys. replicate m z ++ ys) (drop_at front (drop m xs) m h)

-- the verdict as the code has it tells the last bound, too
last_same : (k : ℕ) (v : Verdict) → last_bound k (declared_verdict v) ≡ last_tried k v
last_same k (VIOLATED i) = refl
last_same k CLEAN = refl
last_same k (SPENT-AT i) = refl

-- no bound past the full one is tried
decided_low : (m : ℕ) (a : search.Answer) (tries i : ℕ) (o : Outcome) (rest : Judged) → i ≤ m → rest.bound ≤ m → (decided a tries i o rest).bound ≤ m
decided_low m (SAT settings) tries i o rest l h = l
decided_low m UNSAT tries i o rest l h = h
decided_low m SPENT tries i o rest l h = l

module _ (d : Design) (q : Property) (k budget : ℕ) where
  low_from : (m i t : ℕ) → i + m ≡ k → (judged_from d q budget m i t).bound ≤ k
  unfolding judged_from
  low_from zero i t e = let o = searched d q (up_to (budget - t)) i in decided_low k o.answer (t + o.tries) i o _ (omega arith) (omega arith)
  low_from (suc m) i t e = let o = searched d q (up_to (budget - t)) i in decided_low k o.answer (t + o.tries) i o _ (omega arith) (low_from m (suc i) (t + o.tries) (omega arith))

  bound_low : (judge d q k budget).bound ≤ k
  unfolding judge
  bound_low = low_from k 0 0 (omega arith)

-- what a reply tells of an answer
reply_refused : (a : Answer Told) (number place : ℕ) → refused number place ≡ declared_reply a → a ≡ refused number place
reply_refused (refused x y) number place e = let p : number ≡ x = cc in let q : place ≡ y = cc in cc
reply_refused (answer t) number place e = absurd (let z : ◌≡◌ {A = ℕ} 0 1 = cc in omega arith)

record Tells (a : Answer Told) (t : declared-told.Told) : Type 0 where
  pub told : Told
  pub is : a ≡ answer told
  pub same : declared_told told ≡ t

reply_done : (a : Answer Told) (t : declared-told.Told) → answer t ≡ declared_reply a → Tells a t
reply_done (refused x y) t e = absurd (let z : ◌≡◌ {A = ℕ} 0 1 = cc in omega arith)
reply_done (answer told) t e = record { told = told; is = refl; same = let p : t ≡ declared_told told = cc in sym p }

module _ (file : List ℕ) (k : ℕ) (lent : Buffers) (o : Owner) where
  abbrev mine : Memory
  mine = with_choices lent o.choices

  abbrev after : After
  after = verdict file o.piece 0 k o.budget mine

  -- what VERDICT comes to, before its exit
  abbrev came : Answer (Told × Memory)
  came = admit file o.piece 0 k λ d q. need (room_for d q k mine) 16 0 (answer ((judge d q k o.budget).told, memory_left file o.piece d 0 (judge d q k o.budget) mine))

  -- a refusal leaves what was lent
  refusal_keeps : (number place : ℕ) → after.answer ≡ refused number place → after.memory ≡ mine
  unfolding verdict
  refusal_keeps number place e = go came e
    where
      go : (r : Answer (Told × Memory)) → (after_call mine r).answer ≡ refused number place → (after_call mine r).memory ≡ mine
      go (refused x y) q = refl
      go (answer x) q = absurd (let z : ◌≡◌ {A = ℕ} 0 1 = cc in omega arith)

  module _ (r : Answer declared-told.Told) (m : Memory) (e : record { reply = r; memory = m } ≡ exit after) where
    -- a refused owner
    pub owner_refused : (number place : ℕ) → r ≡ refused number place → (d : Design) → record { reply = r; memory = m } ≡ exit (one_owner file d k lent o)
    unfolding alone
    owner_refused number place q d =
        let a : after.answer ≡ refused number place = reply_refused after.answer number place (sym q ∙ ap (λ (x : Exit). x.reply) e) in
        let keeps = refusal_keeps number place a in
        let same : after.memory ≡ with_choices (buffers_left (used_for file d k o after.answer) lent) after.memory.choices =
        keeps ∙ sym (ap₂ (λ (x : Answer Told) (y : Memory). with_choices (buffers_left (used_for file d k o x) lent) y.choices) a keeps) in
        e ∙ ap {B = Exit} (λ (x : Memory). record { reply = declared_reply after.answer; memory = x }) same

  -- an owner that is not refused: its file is accepted
  done_accepted : (told : Told) → after.answer ≡ answer told → (d : Design) × (check file ≡ Checked.accepted d)
  unfolding verdict admit gate on_design
  done_accepted told e = go (check file) refl e
    where
      go : (c : Checked) → check file ≡ c
          → (after_call mine (of_checked c (λ d. need (leb 0 (last_property file)) 13 0 (need (piece_right file o.piece 0) 8 0 (need (leb k max_bound) 14 0 (need (leb (n d (property_of file o.piece d 0) k) last_variable) 19 0
          (need (room_for d (property_of file o.piece d 0) k mine) 16 0 (answer ((judge d (property_of file o.piece d 0) k o.budget).told, memory_left file o.piece d 0 (judge d (property_of file o.piece d 0) k o.budget) mine))))))))).answer ≡ answer told
          → (d : Design) × (check file ≡ Checked.accepted d)
      go (Checked.refused number place) q z = absurd (let y : ◌≡◌ {A = ℕ} 0 1 = cc in omega arith)
      go (Checked.accepted d) q z = (d, q)

  module _ (d : Design) (e : check file ≡ Checked.accepted d) (bytes : (i : ℕ) → get_or file i 0 < 256) (told : Told) (a : Answered file o.piece d 0 k o.budget mine told) where
    abbrev q : Property
    q = property_of file o.piece d 0

    -- the last bound tried
    b : ℕ
    b = last_tried k told.verdict

    b_is : b ≡ (judge d q k o.budget).bound
    unfolding b
    b_is = ap (λ (t : Told). last_tried k t.verdict) (sym a.same) ∙ last_tried_lem d q k o.budget

    b_low : b ≤ k
    b_low = omega (arith, b_is, bound_low d q k o.budget)

    words_low : length (words (formula d q b)) ≤ length lent.clauses
    words_low = omega (arith, words_grow d q b_low (well_formed file bytes d e), a.room.clauses)

    values_low : n d q b ≤ length lent.values
    values_low = omega (arith, n_up d q b k b_low, a.room.values)

    -- SIZE for that bound
    sized : size file o.piece 0 b ≡ answer (sizes_of d q b)
    unfolding size
    sized = admit_in file o.piece 0 b _ d e a.property a.right (omega (arith, b_low, a.bound)) (omega (arith, n_up d q b k b_low, a.numbers))

    left : Memory
    left = memory_left file o.piece d 0 (judge d q k o.budget) mine

    -- what VERDICT left
    clauses_left : left.clauses ≡ words (formula d q b) ++ drop (length (words (formula d q b))) lent.clauses
    unfolding left memory_left
    clauses_left = ap (λ (i : ℕ). words (formula d q i) ++ drop (length (words (formula d q i))) lent.clauses) (sym b_is)

    values_left_lem : left.values ≡ values_left (n d q b) (judge d q k o.budget).outcome.answer ++ drop (n d q b) lent.values
    unfolding left memory_left
    values_left_lem = ap (λ (i : ℕ). values_left (n d q i) (judge d q k o.budget).outcome.answer ++ drop (n d q i) lent.values) (sym b_is)

    trail_left : left.trail ≡ zeroed 0 (n d q b) lent.trail
    unfolding left memory_left
    trail_left = ap (λ (i : ℕ). zeroed 0 (n d q i) lent.trail) (sym b_is)

    clearable : Clearable file o.piece b left.clauses left.values
    unfolding sizes_of
    clearable = record {
      sizes = sizes_of d q b;
      sized = sized;
      words = omega (arith, words_low, ap length clauses_left ∙ front_long (words (formula d q b)) lent.clauses (length (words (formula d q b))) refl words_low);
      variables = omega (arith, values_low, ap length values_left_lem ∙ front_long (values_left (n d q b) (judge d q k o.budget).outcome.answer) lent.values (n d q b) (left_long (n d q b) (judge d q k o.budget).outcome.answer) values_low);
    }

    owner_memory : (c : List ℤ) (v : List ℕ) → Cleared file o.piece b left.clauses c left.values v
        → record { clauses = c; values = v; trail = left.trail; choices = left.choices } ≡ with_choices (buffers_left (used_for file d k o (answer told)) lent) left.choices
    unfolding sizes_of b
    owner_memory c v h =
        let cs : c ≡ zeroed (pos 0) (length (words (formula d q b))) lent.clauses =
        h.words (sizes_of d q b) sized ∙ ap (zeroed (pos 0) (length (words (formula d q b)))) clauses_left ∙ zeroed_over (pos 0) (length (words (formula d q b))) (words (formula d q b)) lent.clauses refl in
        let vs : v ≡ zeroed 0 (n d q b) lent.values =
        h.variables (sizes_of d q b) sized ∙ ap (zeroed 0 (n d q b)) values_left_lem ∙ zeroed_over 0 (n d q b) (values_left (n d q b) (judge d q k o.budget).outcome.answer) lent.values (left_long (n d q b) (judge d q k o.budget).outcome.answer) in
        λ j. record { clauses = cs j; values = vs j; trail = trail_left j; choices = left.choices }

  module _ (r : Answer declared-told.Told) (m : Memory) (e : record { reply = r; memory = m } ≡ exit after) (t : declared-told.Told) (x : r ≡ answer t) (bytes : (i : ℕ) → get_or file i 0 < 256) where
    tells : Tells after.answer t
    tells = reply_done after.answer t (sym x ∙ ap (λ (y : Exit). y.reply) e)

    module _ (d : Design) (acc : check file ≡ Checked.accepted d) where
      met : Answered file o.piece d 0 k o.budget mine tells.told
      met = answered file o.piece d acc 0 k o.budget mine tells.told tells.is

      left_is : m ≡ left d acc bytes tells.told met
      unfolding left
      left_is = ap (λ (y : Exit). y.memory) e ∙ met.memory

      last_is : last_bound k t.verdict ≡ b d acc bytes tells.told met
      unfolding b
      last_is = ap (λ (y : declared-told.Told). last_bound k y.verdict) (sym tells.same) ∙ last_same k tells.told.verdict

    -- what it left may be cleared
    pub owner_clearable : {last : ℕ} → last ≡ last_bound k t.verdict → Clearable file o.piece last m.clauses m.values
    owner_clearable l =
        let y = done_accepted tells.told tells.is in
        subst (λ (i : ℕ). Clearable file o.piece i m.clauses m.values) (sym (l ∙ last_is y.0 y.1))
        (subst (λ (z : Memory). Clearable file o.piece (b y.0 y.1 bytes tells.told (met y.0 y.1)) z.clauses z.values) (sym (left_is y.0 y.1))
        (clearable y.0 y.1 bytes tells.told (met y.0 y.1)))

    -- an owner that is not refused: what is left
    pub owner_done_left : {last : ℕ} {c : List ℤ} {v : List ℕ} → last ≡ last_bound k t.verdict → Cleared file o.piece last m.clauses c m.values v
        → (d : Design) → check file ≡ Checked.accepted d
        → record { reply = answer t; memory = record { clauses = c; values = v; trail = m.trail; choices = m.choices } } ≡ exit (one_owner file d k lent o)
    unfolding alone
    owner_done_left {last} {c} {v} l h d acc =
        let w = left d acc bytes tells.told (met d acc) in
        let h₁ : Cleared file o.piece (b d acc bytes tells.told (met d acc)) m.clauses c m.values v = subst (λ (i : ℕ). Cleared file o.piece i m.clauses c m.values v) (l ∙ last_is d acc) h in
        let h₂ : Cleared file o.piece (b d acc bytes tells.told (met d acc)) w.clauses c w.values v =
        subst (λ (z : Memory). Cleared file o.piece (b d acc bytes tells.told (met d acc)) z.clauses c z.values v) (left_is d acc) h₁ in
        let mem : record { clauses = c; values = v; trail = m.trail; choices = m.choices } ≡ with_choices (buffers_left (used_for file d k o after.answer) lent) after.memory.choices =
        ap (λ (z : Memory). record { clauses = c; values = v; trail = z.trail; choices = z.choices }) (left_is d acc)
        ∙ owner_memory d acc bytes tells.told (met d acc) c v h₂
        ∙ ap₂ (λ (y : Answer Told) (z : Memory). with_choices (buffers_left (used_for file d k o y) lent) z.choices) (sym tells.is) (sym (left_is d acc) ∙ ap (λ (y : Exit). y.memory) e) in
        let rep : answer t ≡ declared_reply after.answer = sym x ∙ ap (λ (y : Exit). y.reply) e in
        λ j. record { reply = rep j; memory = mem j }
