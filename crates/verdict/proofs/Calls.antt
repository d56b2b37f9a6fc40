-- VERDICT's tests: a call that SIZE refuses, one with too little room, and one that answers.
use mathlib.Core.Path.{◌≡◌, refl, sym, ap, subst, ◌∙◌}
use mathlib.Core.Bool.{Bool, true, false, ◌&&◌}
use mathlib.Core.List.{List}
use Prim.Native.Nat.{ℕ, ◌<◌, ◌≤◌}
use native.Mathlib.Omega.{arith}
use lib.Dec.{leb}
use lib.ListN.{length, get_or}
use borrow.Author.Tests.{leb-true, le-leb}
use Rattle.design.specs.Tree.{Design}
use Rattle.design.specs.Check.{Checked, check}
use Rattle.step.specs.Piece.{piece_right}
use Rattle.step.specs.Property.{Property, property_of}
use Rattle.clauses.specs.Words.{words}
use Rattle.clauses.specs.Formula.{n, formula}
use Rattle.clauses.specs.Limits.{last_variable}
use Rattle.clauses.specs.Admission.{admit}
use Rattle.step.proofs.Gates.{need_answers}
use Rattle.clauses.proofs.Admissions.{admit_in, AdmittedCall, admit_answers, admit_both}
use Rattle.design.specs.Answer.{Answer, refused, answer, need}
use Rattle.step.specs.Limits.{last_property, max_bound}
use Rattle.clauses.specs.Size.{Sizes, sizes_of, size}
use Rattle.verdict.specs.Verdict.{Told, judge, Memory, After, memory_left, room_for, after_call, verdict}
use Rattle.verdict.specs.Answers.{exit}
use Rattle.verdict.specs.Loop.{ReadyMemory}

-- A call that answers passed each test.
pub and_true : (a b : Bool) → a && b ≡ true → (a ≡ true) × (b ≡ true)
and_true true b e = (refl, e)
and_true false b e = absurd (let z : ◌≡◌ {A = ℕ} 0 1 = cc in omega arith)

same_answer : {A : Type 0} (x y : A) → answer x ≡ answer y → x ≡ y
same_answer x y e = cc

after_answer : (lent : Memory) (r : Answer (Told × Memory)) (told : Told) → (after_call lent r).answer ≡ answer told
    → (m : Memory) × (r ≡ answer (told, m)) × ((after_call lent r).memory ≡ m)
after_answer lent (refused number place) told e = absurd (let z : ◌≡◌ {A = ℕ} 0 1 = cc in omega arith)
after_answer lent (answer (t, m)) told e = let q : t ≡ told = cc in (m, ap (λ (x : Told). answer (x, m)) q, refl)

-- there is room for the full bound
pub record Room (d : Design) (p : Property) (k : ℕ) (lent : Memory) : Type 0 where
  pub clauses : length (words (formula d p k)) ≤ length lent.clauses
  pub values : n d p k ≤ length lent.values
  pub trail : n d p k ≤ length lent.trail
  pub choices : k ≤ length lent.choices

module _ (d : Design) (p : Property) (k : ℕ) (lent : Memory) where
  pub room_for_lem : room_for d p k lent ≡ true → Room d p k lent
  unfolding room_for
  room_for_lem e =
      let a = leb (length (words (formula d p k))) (length lent.clauses) in
      let b = leb (n d p k) (length lent.values) in
      let c = leb (n d p k) (length lent.trail) in
      let f = leb k (length lent.choices) in
      let x = and_true (a && b && c) f e in
      let y = and_true (a && b) c x.0 in
      let z = and_true a b y.0 in
      record {
        clauses = leb-true (length (words (formula d p k))) (length lent.clauses) z.0;
        values = leb-true (n d p k) (length lent.values) z.1;
        trail = leb-true (n d p k) (length lent.trail) y.1;
        choices = leb-true k (length lent.choices) x.1;
      }

  pub for_room : Room d p k lent → room_for d p k lent ≡ true
  unfolding room_for
  for_room r =
      rw (
        le-leb (length (words (formula d p k))) (length lent.clauses) r.clauses,
        le-leb (n d p k) (length lent.values) r.values,
        le-leb (n d p k) (length lent.trail) r.trail,
        le-leb k (length lent.choices) r.choices,
      )

  -- what is lent is short
  pub no_room : (Room d p k lent → ⊥) → room_for d p k lent ≡ false
  no_room h = go (room_for d p k lent) refl
    where
      go : (b : Bool) → room_for d p k lent ≡ b → b ≡ false
      go true e = absurd (h (room_for_lem e))
      go false e = refl

-- what a call that answers was given, and what it left
pub record Answered (file piece : List ℕ) (d : Design) (p k budget : ℕ) (lent : Memory) (told : Told) : Type 0 where
  pub property : p ≤ last_property file
  pub right : piece_right file piece p ≡ true
  pub bound : k ≤ max_bound
  pub numbers : n d (property_of file piece d p) k ≤ last_variable
  pub room : Room d (property_of file piece d p) k lent
  pub same : (judge d (property_of file piece d p) k budget).told ≡ told
  pub memory : (verdict file piece p k budget lent).memory ≡ memory_left file piece d p (judge d (property_of file piece d p) k budget) lent

module _ (file piece : List ℕ) (d : Design) (e : check file ≡ Checked.accepted d) (p k budget : ℕ) (lent : Memory) where
  -- what VERDICT asks of a design, past 19
  abbrev asked : Design → Property → Answer (Told × Memory)
  asked d q = need (room_for d q k lent) 16 0 (answer ((judge d q k budget).told, memory_left file piece d p (judge d q k budget) lent))

  verdict_is : verdict file piece p k budget lent ≡ after_call lent (admit file piece p k asked)
  unfolding verdict
  verdict_is = refl

  pub answered : (told : Told) → (verdict file piece p k budget lent).answer ≡ answer told → Answered file piece d p k budget lent told
  answered told h =
      let a = after_answer lent (admit file piece p k asked) told (ap (λ (x : After). x.answer) (sym verdict_is) ∙ h) in
      let g = admit_answers file piece p k asked (told, a.0) a.1 in
      let same : g.design ≡ d = cc (g.accepted, e) in
      let numbers : n d (property_of file piece d p) k ≤ last_variable = subst (λ (x : Design). n x (property_of file piece x p) k ≤ last_variable) same g.numbers in
      let t = need_answers (room_for d (property_of file piece d p) k lent) 16 0 _ (told, a.0) (sym (admit_in file piece p k asked d e g.property g.right g.bound numbers) ∙ a.1) in
      let q = same_answer _ (told, a.0) t.1 in
      record {
        property = g.property;
        right = g.right;
        bound = g.bound;
        numbers = numbers;
        room = room_for_lem d (property_of file piece d p) k lent t.0;
        same = ap (λ (x : Told × Memory). x.0) q;
        memory = ap (λ (x : After). x.memory) verdict_is ∙ a.2 ∙ ap (λ (x : Told × Memory). x.1) (sym q);
      }

  module _ (low : p ≤ last_property file) (right : piece_right file piece p ≡ true) (few : k ≤ max_bound) (numbers : n d (property_of file piece d p) k ≤ last_variable) where
    verdict_in : verdict file piece p k budget lent ≡ after_call lent (asked d (property_of file piece d p))
    verdict_in = verdict_is ∙ ap (after_call lent) (admit_in file piece p k asked d e low right few numbers)

    -- "16 clauses, values, trail or choices short for the full bound"
    pub short : (Room d (property_of file piece d p) k lent → ⊥) → verdict file piece p k budget lent ≡ record { answer = refused 16 0; memory = lent }
    short h = verdict_in ∙ rw (no_room d (property_of file piece d p) k lent h)

    -- else it answers
    pub answers : Room d (property_of file piece d p) k lent → verdict file piece p k budget lent ≡ record { answer = answer (judge d (property_of file piece d p) k budget).told; memory = memory_left file piece d p (judge d (property_of file piece d p) k budget) lent }
    answers r = verdict_in ∙ rw (for_room d (property_of file piece d p) k lent r)

-- What SIZE refuses, VERDICT refuses, by the same number and place.
pub size_refused : (file piece : List ℕ) (p k budget : ℕ) (lent : Memory) (number place : ℕ) → size file piece p k ≡ refused number place
    → verdict file piece p k budget lent ≡ record { answer = refused number place; memory = lent }
unfolding size verdict
size_refused file piece p k budget lent number place h = ap (after_call lent) (admit_both file piece p k _ _ number place (λ d e. absurd (let z : ◌≡◌ {A = ℕ} 0 1 = cc in omega arith)) h)

-- where SIZE answers
abbrev pub Sized : List ℕ → List ℕ → ℕ → ℕ → Sizes → Type 0
Sized file piece p k s = AdmittedCall file piece p k (λ d q. answer (sizes_of d q k)) s

pub size_answers : (file piece : List ℕ) (p k : ℕ) (s : Sizes) → size file piece p k ≡ answer s → Sized file piece p k s
unfolding size
size_answers file piece p k s h = admit_answers file piece p k _ s h

-- What SIZE answers, held against the lengths lent.
module _ {file piece : List ℕ} {p k : ℕ} {s : Sizes} (z : Sized file piece p k s) (budget : ℕ) (lent : Memory) where
  words_are : length (words (formula z.design (property_of file piece z.design p) k)) ≡ s.words
  unfolding sizes_of
  words_are = ap (λ (x : Sizes). x.words) (same_answer _ s z.same)

  variables_are : n z.design (property_of file piece z.design p) k ≡ s.variables
  unfolding sizes_of
  variables_are = ap (λ (x : Sizes). x.variables) (same_answer _ s z.same)

  refuses : (Room z.design (property_of file piece z.design p) k lent → ⊥) → record { reply = refused 16 0; memory = lent } ≡ exit (verdict file piece p k budget lent)
  refuses h = ap exit (sym (short file piece z.design z.accepted p k budget lent z.property z.right z.bound z.numbers h))

  pub short_clauses : length lent.clauses < s.words → record { reply = refused 16 0; memory = lent } ≡ exit (verdict file piece p k budget lent)
  short_clauses h = refuses λ r. omega (arith, r.clauses, words_are)

  pub short_values : length lent.values < s.variables → record { reply = refused 16 0; memory = lent } ≡ exit (verdict file piece p k budget lent)
  short_values h = refuses λ r. omega (arith, r.values, variables_are)

  pub short_trail : length lent.trail < s.variables → record { reply = refused 16 0; memory = lent } ≡ exit (verdict file piece p k budget lent)
  short_trail h = refuses λ r. omega (arith, r.trail, variables_are)

  pub short_choices : length lent.choices < k → record { reply = refused 16 0; memory = lent } ≡ exit (verdict file piece p k budget lent)
  short_choices h = refuses λ r. omega (arith, r.choices)

  pub ready : ((i : ℕ) → get_or file i 0 < 256) → ((i : ℕ) → get_or piece i 0 < 256) → s.words ≤ length lent.clauses → s.variables ≤ length lent.values → s.variables ≤ length lent.trail → k ≤ length lent.choices
      → ReadyMemory file piece p k lent
  ready bytes all a b c e = record {
    design = z.design;
    accepted = z.accepted;
    bytes = bytes;
    piece_bytes = all;
    property = z.property;
    right = z.right;
    bound = z.bound;
    numbers = z.numbers;
    room = for_room z.design (property_of file piece z.design p) k lent (record { clauses = omega (arith, words_are); values = omega (arith, variables_are); trail = omega (arith, variables_are); choices = e });
  }
