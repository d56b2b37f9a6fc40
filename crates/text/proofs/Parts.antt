-- The text of clauses: of words, of a part, of all parts. Assumes nothing.
use mathlib.Core.Path.{◌≡◌, refl, sym, ap, ap₂, subst, ◌∙◌}
use mathlib.Core.Bool.{Bool, true, false, cond, ◌&&◌}
use mathlib.Core.List.{List, [], ◌∷◌, ◌++◌, append-nil, append_assoc}
use Prim.Native.Nat.{ℕ, zero, suc, ◌+◌, ◌*◌, ◌-◌, ◌<◌, ◌≤◌}
use native.Mathlib.Omega.{arith}
use native.Mathlib.Numerals.{add-one}
use lib.Dec.{leb}
use lib.IntN.{ℤ, pos}
use lib.ListN.{length, get_or, take, drop, drop_of_length-le, length-append}
use lib.Seq.{drop-cons, take_at, length-take-le}
use borrow.Author.Tests.{le-leb, lt-leb, leb-true, leb-false}
use Rattle.design.specs.Tree.{Design}
use Rattle.design.specs.Check.{Checked, check}
use Rattle.step.specs.Piece.{no_piece}
use Rattle.step.specs.Property.{property_of}
use Rattle.step.proofs.Gates.{need_yes}
use Rattle.step.proofs.Pieces.{no_piece_right}
use Rattle.clauses.proofs.Admissions.{admit_in, admit_answers, admit_both}
use Rattle.clauses.specs.Limits.{last_variable}
use Rattle.clauses.specs.Words.{words, is_end}
use Rattle.clauses.specs.Formula.{n, part, parts_from, formula}
use Rattle.std.specs.Prelude.{Result, Ok, Err, is_err}
use Rattle.design.specs.Answer.{Answer, refused, answer, need, told}
use Rattle.design.specs.Refusal.{number_of, place_of}
use Rattle.design.specs.declared.refusal.Refused.{Refused}
use Rattle.step.specs.Limits.{last_property, max_bound}
use Rattle.clauses.specs.Encode.{words_to_write, filled, encode}
use Rattle.clauses.specs.Replies.{EncodeExit, encode_exit, ENCODE}
use Rattle.clauses.proofs.SizeNumbers.{words_join}
use Rattle.text.specs.Text.{signed_text, TextWritten}
use Rattle.text.specs.Trace.{refused_at, refusal_text, max_read}
use Rattle.text.specs.Listing.{word_text, words_text, max_words, none_over, words_to_print, printed, of_input, clauses_text, part_text, part_of_input, is_refused, joined}
use Rattle.text.proofs.Putting.{written_then, Rest, rest_start, rest_next, rest_end}

-- a word's two cases
module _ (w : ℤ) {xs ys zs : List ℕ} {at m r : ℕ} where
  word_as : (t : Bool) → is_end w ≡ t → TextWritten (signed_text w) xs ys at m → TextWritten (cond t 10 32 ∷ []) ys zs m r → TextWritten (word_text w) xs zs at r
  word_as t e g h = subst (λ (b : Bool). TextWritten (signed_text w ++ (cond b 10 32 ∷ [])) xs zs at r) (sym e) (written_then g h)

  pub word_ends : is_end w ≡ true → TextWritten (signed_text w) xs ys at m → TextWritten (10 ∷ []) ys zs m r → TextWritten (word_text w) xs zs at r
  word_ends e g h = word_as true e g h

  pub word_goes : is_end w ≡ false → TextWritten (signed_text w) xs ys at m → TextWritten (32 ∷ []) ys zs m r → TextWritten (word_text w) xs zs at r
  word_goes e g h = word_as false e g h

-- words, one at a time
pub record WordsLeft (ws : List ℤ) (i : ℕ) (xs ys : List ℕ) (at p : ℕ) : Type 0 where
  pub rest : Rest (words_text (drop i ws)) (words_text ws) xs ys at p
  pub near : p ≤ at + 22 * i

pub words_start : (ws : List ℤ) (xs : List ℕ) (at : ℕ) → WordsLeft ws 0 xs xs at at
words_start ws xs at = record { rest = rest_start (words_text ws) xs at; near = omega arith }

words_split : (ws : List ℤ) (i : ℕ) → i < length ws → words_text (drop i ws) ≡ word_text (get_or ws i (pos 0)) ++ words_text (drop (suc i) ws)
unfolding words_text
words_split ws i h = rw (drop-cons ws i (pos 0) h)

pub words_next : (ws : List ℤ) (i : ℕ) {xs ys zs : List ℕ} {at p r : ℕ} → i < length ws → WordsLeft ws i xs ys at p → TextWritten (word_text (get_or ws i (pos 0))) ys zs p r → r ≤ p + 22 → WordsLeft ws (i + 1) xs zs at r
words_next ws i h l w n = rw (add-one i) (record {
  rest = rest_next (word_text (get_or ws i (pos 0))) (words_text (drop (suc i) ws)) (words_split ws i h) l.rest w;
  near = omega (arith, l.near);
})

pub words_end : (ws : List ℤ) (i : ℕ) {xs ys : List ℕ} {at p : ℕ} → length ws ≤ i → WordsLeft ws i xs ys at p → TextWritten (words_text ws) xs ys at p
unfolding words_text
words_end ws i h l = rest_end (ap words_text (drop_of_length-le ws h)) l.rest

words_append : (us vs : List ℤ) → words_text (us ++ vs) ≡ words_text us ++ words_text vs
unfolding words_text
words_append [] vs = refl
words_append (u ∷ us) vs = ap (λ (l : List ℕ). word_text u ++ l) (words_append us vs) ∙ sym (append_assoc (word_text u) (words_text us) (words_text vs))

-- what ENCODE's answer tells of the words
abbrev exit : Answer ℕ → List ℤ → EncodeExit
exit r after = record { reply = r; buffer = after }

told_refused : (x : Answer (List ℤ)) (before after : List ℤ) (n q : ℕ) → exit (refused n q) after ≡ encode_exit (filled x before) → x ≡ refused n q
told_refused (refused a b) before after n q e = let z : refused n q ≡ refused a b = ap (λ (y : EncodeExit). y.reply) e in cc
told_refused (answer ws) before after n q e =
    let z : refused n q ≡ answer (length ws) = ap (λ (y : EncodeExit). y.reply) e in
    let o : ◌≡◌ {A = ℕ} 0 1 = cc in
    absurd (omega arith)

pub record Told (x : Answer (List ℤ)) (after : List ℤ) (n : ℕ) : Type 0 where
  pub words : x ≡ answer (take n after)
  pub room : n ≤ length after
  pub size : length (take n after) ≡ n

told_encoded : (x : Answer (List ℤ)) (before after : List ℤ) (n : ℕ) → exit (answer n) after ≡ encode_exit (filled x before) → Told x after n
told_encoded (refused a b) before after n e =
    let z : answer n ≡ refused a b = ap (λ (y : EncodeExit). y.reply) e in
    let o : ◌≡◌ {A = ℕ} 0 1 = cc in
    absurd (omega arith)
told_encoded (answer ws) before after n e =
    let z : answer n ≡ answer (length ws) = ap (λ (y : EncodeExit). y.reply) e in
    let c : length ws ≡ n = cc in
    let b : after ≡ ws ++ drop (length ws) before = ap (λ (y : EncodeExit). y.buffer) e in
    let room : n ≤ length after = omega (arith, ap length b, length-append ws (drop (length ws) before)) in
    record {
      words = ap (λ (us : List ℤ). answer us) (sym (ap (take n) b ∙ take_at ws (drop (length ws) before) n c));
      room = room;
      size = length-take-le n after room;
    }

module _ (file : List ℕ) (p k i : ℕ) (before after : List ℤ) (r : Answer ℕ) (says : exit r after ≡ ENCODE file no_piece p k i before) where
  pub is_refused_lem : (n q : ℕ) → r ≡ refused n q → words_to_write file no_piece p k i (length before) ≡ refused n q
  unfolding encode
  is_refused_lem n q e = told_refused (words_to_write file no_piece p k i (length before)) before after n q (ap (λ (x : Answer ℕ). exit x after) (sym e) ∙ says)

  pub is_encoded : (n : ℕ) → r ≡ answer n → Told (words_to_write file no_piece p k i (length before)) after n
  unfolding encode
  is_encoded n e = told_encoded (words_to_write file no_piece p k i (length before)) before after n (ap (λ (x : Answer ℕ). exit x after) (sym e) ∙ says)

  pub refused_yes : (n q : ℕ) → r ≡ refused n q → true ≡ is_refused (words_to_write file no_piece p k i (length before))
  refused_yes n q e = sym (ap is_refused (is_refused_lem n q e))

  pub refused_no : (n : ℕ) → r ≡ answer n → false ≡ is_refused (words_to_write file no_piece p k i (length before))
  refused_no n e = sym (ap is_refused (is_encoded n e).words)

  module _ (size : length before ≡ max_words) {xs ys : List ℕ} {at past : ℕ} where
    part_as : (x : Answer (List ℤ)) → words_to_write file no_piece p k i (length before) ≡ x → TextWritten (printed x) xs ys at past → TextWritten (part_text file p k i) xs ys at past
    unfolding part_text
    part_as x e w =
        subst (λ (m : ℕ). TextWritten (printed (words_to_write file no_piece p k i m)) xs ys at past) size
        (subst (λ (y : Answer (List ℤ)). TextWritten (printed y) xs ys at past) (sym e) w)

    pub part_refused : (n q : ℕ) → r ≡ refused n q → TextWritten (refusal_text (refused_at n q)) xs ys at past → TextWritten (part_text file p k i) xs ys at past
    part_refused n q e w = part_as (refused n q) (is_refused_lem n q e) w

    pub part_written : (n : ℕ) → r ≡ answer n → TextWritten (words_text (take n after)) xs ys at past → TextWritten (part_text file p k i) xs ys at past
    part_written n e w = part_as (answer (take n after)) (is_encoded n e).words w

-- whether ENCODE refuses, by what it returned
pub refuses_told : (file : List ℕ) (p k i : ℕ) (before after : List ℤ) (r : Result ℕ Refused) → exit (told r) after ≡ ENCODE file no_piece p k i before → is_err r ≡ is_refused (words_to_write file no_piece p k i (length before))
refuses_told file p k i before after (Ok n) says = refused_no file p k i before after (answer n) says n refl
refuses_told file p k i before after (Err e) says = refused_yes file p k i before after (refused (number_of e) (place_of e)) says (number_of e) (place_of e) refl

-- so many texts from i on
joined_one : (f : ℕ → List ℕ) (i : ℕ) → joined f 1 i ≡ f i
unfolding joined
joined_one f i = append-nil (f i)

joined_same : (f g : ℕ → List ℕ) → ((j : ℕ) → f j ≡ g j) → (m i : ℕ) → joined f m i ≡ joined g m i
unfolding joined
joined_same f g h zero i = refl
joined_same f g h (suc m) i = ap₂ (λ (a b : List ℕ). a ++ b) (h i) (joined_same f g h m (suc i))

-- all parts
module _ (file : List ℕ) (p k : ℕ) where
  abbrev part_words : Design → ℕ → List ℤ
  part_words d i = words (part d (property_of file no_piece d p) k i)

  abbrev fits : Design → ℕ → Bool
  fits d i = leb (length (part_words d i)) max_words

  -- one part over is enough
  one_over : (d : Design) (i m j : ℕ) → j ≤ i → i < j + m → fits d i ≡ false → none_over d (property_of file no_piece d p) k m j ≡ false
  unfolding none_over
  one_over d i zero j a b e = absurd (omega arith)
  one_over d i (suc m) j a b e = go (fits d j) refl (λ l. one_over d i m (suc j) l (omega arith) e)
    where
      go : (t : Bool) → fits d j ≡ t → (j < i → none_over d (property_of file no_piece d p) k m (suc j) ≡ false) → t && none_over d (property_of file no_piece d p) k m (suc j) ≡ false
      go false q f = refl
      go true q f = let other : i ≡ j → ⊥ = λ y. (let o : ◌≡◌ {A = ℕ} 0 1 = cc in omega arith) in f (omega arith)

  -- past 19: a part that is refused, and one that is not
  refused_so : (n q : ℕ) (ws vs : List ℤ) (t u : Bool) → (t ≡ false → u ≡ false) → need t 16 0 (answer ws) ≡ refused n q → need u 16 0 (answer vs) ≡ refused n q
  refused_so n q ws vs false u f e = subst (λ (y : Bool). need y 16 0 (answer vs) ≡ refused n q) (sym (f refl)) e
  refused_so n q ws vs true u f e = let o : ◌≡◌ {A = ℕ} 0 1 = cc in absurd (omega arith)

  none_refused : (ws : List ℤ) (t : Bool) → is_refused (need t 16 0 (answer ws)) ≡ false → t ≡ true
  none_refused ws true e = refl
  none_refused ws false e = let o : ◌≡◌ {A = ℕ} 0 1 = cc in absurd (omega arith)

  not_15 : (i : ℕ) (r : Answer (List ℤ)) → i < k + 3 → need (leb i (k + 2)) 15 0 r ≡ r
  not_15 i r l = need_yes (leb i (k + 2)) 15 0 r (le-leb i (k + 2) (omega arith))

  all_refused : (i n q : ℕ) → i < k + 3 → words_to_write file no_piece p k i max_words ≡ refused n q → words_to_print file p k ≡ refused n q
  unfolding words_to_write words_to_print
  all_refused i n q l = admit_both file no_piece p k _ _ n q λ d e.
      refused_so n q (part_words d i) (words (formula d (property_of file no_piece d p) k)) (fits d i) (none_over d (property_of file no_piece d p) k (k + 3) 0) (one_over d i (k + 3) 0 (omega arith) (omega arith))
      (sym (not_15 i _ l) ∙ e)

  module _ (d : Design) (e : check file ≡ Checked.accepted d) (low : p ≤ last_property file) (few : k ≤ max_bound) (numbers : n d (property_of file no_piece d p) k ≤ last_variable) (h : (i : ℕ) → i < k + 3 → is_refused (words_to_write file no_piece p k i max_words) ≡ false) where
    part_in : (i : ℕ) → i < k + 3 → words_to_write file no_piece p k i max_words ≡ need (fits d i) 16 0 (answer (part_words d i))
    unfolding words_to_write
    part_in i l = admit_in file no_piece p k _ d e low (no_piece_right file p) few numbers ∙ not_15 i _ l

    fit : (i : ℕ) → i < k + 3 → fits d i ≡ true
    fit i l = none_refused (part_words d i) (fits d i) (ap is_refused (sym (part_in i l)) ∙ h i l)

    none_over_lem : (m j : ℕ) → j + m ≤ k + 3 → none_over d (property_of file no_piece d p) k m j ≡ true
    unfolding none_over
    none_over_lem zero j l = refl
    none_over_lem (suc m) j l = ap₂ (λ (a b : Bool). a && b) (fit j (omega arith)) (none_over_lem m (suc j) (omega arith))

    part_is : (i : ℕ) → i < k + 3 → words_to_write file no_piece p k i max_words ≡ answer (part_words d i)
    part_is i l = part_in i l ∙ rw (fit i l)

    all_is : words_to_print file p k ≡ answer (words (formula d (property_of file no_piece d p) k))
    unfolding words_to_print
    all_is = admit_in file no_piece p k _ d e low (no_piece_right file p) few numbers ∙ rw (none_over_lem (k + 3) 0 (omega arith))

    parts_joined : (m i : ℕ) → i + m ≤ k + 3 → words_text (words (parts_from d (property_of file no_piece d p) k m i)) ≡ joined (part_text file p k) m i
    unfolding words_text parts_from joined part_text
    parts_joined zero i l = refl
    parts_joined (suc m) i l =
        ap words_text (words_join (part d (property_of file no_piece d p) k i) (parts_from d (property_of file no_piece d p) k m (suc i)))
        ∙ words_append (part_words d i) (words (parts_from d (property_of file no_piece d p) k m (suc i)))
        ∙ ap₂ (λ (a b : List ℕ). a ++ b) (sym (ap printed (part_is i (omega arith)))) (parts_joined m (suc i) (omega arith))

    all_printed : printed (words_to_print file p k) ≡ joined (part_text file p k) (k + 3) 0
    unfolding formula
    all_printed = ap printed all_is ∙ parts_joined (k + 3) 0 (omega arith)

-- the parts so far are not refused
pub record Fine (file : List ℕ) (p k i : ℕ) : Type 0 where
  pub inside : i ≤ k + 3
  pub fine : (j : ℕ) → j < i → is_refused (words_to_write file no_piece p k j max_words) ≡ false

module _ (file : List ℕ) (p k : ℕ) where
  pub fine_start : Fine file p k 0
  fine_start = record { inside = omega arith; fine = λ j l. absurd (omega arith) }

  pub fine_on : (i room : ℕ) → Fine file p k i → i < k + 3 → room ≡ max_words → false ≡ is_refused (words_to_write file no_piece p k i room) → Fine file p k (i + 1)
  fine_on i room f l q e = record { inside = omega arith; fine = λ j m. go j (leb i j) refl m }
    where
      here : is_refused (words_to_write file no_piece p k i max_words) ≡ false
      here = sym (subst (λ (n : ℕ). false ≡ is_refused (words_to_write file no_piece p k i n)) q e)

      go : (j : ℕ) (t : Bool) → leb i j ≡ t → j < i + 1 → is_refused (words_to_write file no_piece p k j max_words) ≡ false
      go j true z m = let s : i ≡ j = omega (arith, leb-true i j z) in subst (λ (n : ℕ). is_refused (words_to_write file no_piece p k n max_words) ≡ false) s here
      go j false z m = f.fine j (omega (arith, leb-false i j z))

  pub parts_refused : (i room : ℕ) → i < k + 3 → room ≡ max_words → true ≡ is_refused (words_to_write file no_piece p k i room) → printed (words_to_print file p k) ≡ joined (part_text file p k) (i + 1 - i) i
  unfolding part_text
  parts_refused i room l q e =
      go (words_to_write file no_piece p k i max_words) refl (subst (λ (n : ℕ). true ≡ is_refused (words_to_write file no_piece p k i n)) q e)
      ∙ sym (ap (λ (m : ℕ). joined (part_text file p k) m i) (let z : i + 1 - i ≡ 1 = omega arith in z) ∙ joined_one (part_text file p k) i)
    where
      go : (x : Answer (List ℤ)) → words_to_write file no_piece p k i max_words ≡ x → true ≡ is_refused x → printed (words_to_print file p k) ≡ part_text file p k i
      go (refused n r) s t = ap printed (all_refused file p k i n r l s) ∙ sym (ap printed s)
      go (answer ws) s t = let o : ◌≡◌ {A = ℕ} 0 1 = cc in absurd (omega arith)

  pub parts_printed : (i : ℕ) → Fine file p k i → k + 3 ≤ i → printed (words_to_print file p k) ≡ joined (part_text file p k) (k + 3 - 0) 0
  unfolding words_to_write
  parts_printed i f l = go (words_to_write file no_piece p k 0 max_words) refl (f.fine 0 (omega arith))
    where
      go : (x : Answer (List ℤ)) → words_to_write file no_piece p k 0 max_words ≡ x → is_refused x ≡ false → printed (words_to_print file p k) ≡ joined (part_text file p k) (k + 3 - 0) 0
      go (refused n r) s t = let o : ◌≡◌ {A = ℕ} 0 1 = cc in absurd (omega arith)
      go (answer ws) s t =
          let g = admit_answers file no_piece p k _ ws s in
          all_printed file p k g.design g.accepted g.property g.bound g.numbers (λ j m. f.fine j (omega arith))
          ∙ ap (λ (m : ℕ). joined (part_text file p k) m 0) (let z : k + 3 ≡ k + 3 - 0 = omega arith in z)

-- the input's parts
module _ (input : List ℕ) where
  short_input : (text : List ℕ → ℕ → ℕ → List ℕ) → length input < 2 → of_input input text ≡ refusal_text (refused_at 1 0)
  short_input text h = ap (λ (t : Bool). cond t (text (take max_read (drop 2 input)) (get_or input 0 0) (get_or input 1 0)) (refusal_text (refused_at 1 0))) (lt-leb 2 (length input) h)

  long_input : (text : List ℕ → ℕ → ℕ → List ℕ) → 2 ≤ length input → of_input input text ≡ text (take max_read (drop 2 input)) (get_or input 0 0) (get_or input 1 0)
  long_input text h = ap (λ (t : Bool). cond t (text (take max_read (drop 2 input)) (get_or input 0 0) (get_or input 1 0)) (refusal_text (refused_at 1 0))) (le-leb 2 (length input) h)

  pub text_refused : length input < 2 → clauses_text input ≡ joined (part_of_input input) 1 0
  unfolding clauses_text part_of_input
  text_refused h =
      short_input (λ file p k. printed (words_to_print file p k)) h
      ∙ sym (joined_one (part_of_input input) 0 ∙ short_input (λ file p k. part_text file p k 0) h)

  pub text_joined : (file : List ℕ) (m i : ℕ) → 2 ≤ length input → file ≡ take max_read (drop 2 input) → printed (words_to_print file (get_or input 0 0) (get_or input 1 0)) ≡ joined (part_text file (get_or input 0 0) (get_or input 1 0)) m i → clauses_text input ≡ joined (part_of_input input) m i
  unfolding clauses_text part_of_input
  text_joined file m i h q e =
      long_input (λ file p k. printed (words_to_print file p k)) h
      ∙ subst (λ (f : List ℕ). printed (words_to_print f (get_or input 0 0) (get_or input 1 0)) ≡ joined (part_text f (get_or input 0 0) (get_or input 1 0)) m i) q e
      ∙ joined_same (part_text (take max_read (drop 2 input)) (get_or input 0 0) (get_or input 1 0)) (part_of_input input) (λ j. sym (long_input (λ file p k. part_text file p k j) h)) m i

  module _ (i : ℕ) {xs ys : List ℕ} {at r : ℕ} where
    pub input_refused : length input < 2 → TextWritten (refusal_text (refused_at 1 0)) xs ys at r → TextWritten (part_of_input input i) xs ys at r
    unfolding part_of_input
    input_refused h w = subst (λ (us : List ℕ). TextWritten us xs ys at r) (sym (short_input (λ file p k. part_text file p k i) h)) w

    pub input_part : (file : List ℕ) → 2 ≤ length input → file ≡ take max_read (drop 2 input) → TextWritten (part_text file (get_or input 0 0) (get_or input 1 0) i) xs ys at r → TextWritten (part_of_input input i) xs ys at r
    unfolding part_of_input
    input_part file h q w =
        subst (λ (us : List ℕ). TextWritten us xs ys at r) (sym (long_input (λ file p k. part_text file p k i) h))
        (subst (λ (f : List ℕ). TextWritten (part_text f (get_or input 0 0) (get_or input 1 0) i) xs ys at r) q w)
