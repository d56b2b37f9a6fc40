-- ENCODE's answers, and the whole formula. Assumes nothing.
use Rattle.std.proofs.Common.{◌≡◌, ℕ, ◌+◌, ◌<◌, ◌≤◌, Bool, leb, List, ◌++◌, length, get_or, drop, ℤ, sym, ap, ◌∙◌, subst, ap₂, arith, le-leb}
use borrow.Author.Tests.{lt-leb}
use Rattle.design.specs.Tree.{Design}
use Rattle.design.specs.Check.{Checked, check, refusal}
use Rattle.design.specs.Places.{Accepted}
use Rattle.design.proofs.WellFormed.{well_formed}
use Rattle.design.proofs.Places.{read}
use Rattle.step.specs.Property.{Property, property_of}
use Rattle.clauses.specs.Words.{words}
use Rattle.clauses.specs.Formula.{n, part, formula}
use Rattle.clauses.specs.Writing.{word_limit, Puts}
use Rattle.clauses.specs.FrameSizes.{frame_sizes, SmallFrame, part_words_of, variables_of}
use Rattle.design.specs.Answer.{Answer, refused, answer, need}
use Rattle.clauses.specs.Encode.{words_to_write, filled, encode}
use Rattle.clauses.specs.Ready.{Admitted, Writable, Written}
use Rattle.clauses.specs.Replies.{admission_sizes, EncodeExit, encode_exit, ENCODE}
use Rattle.clauses.specs.declared.frame.FrameSizes.{FrameSizes}
use Rattle.clauses.proofs.Limits.{small_of_file}
use Rattle.clauses.proofs.FrameNumbers.{variables_are, part_is}
use Rattle.clauses.proofs.Admissions.{admission_refused, admission_admitted, admitted_in}
use Rattle.clauses.proofs.EmitWords.{put_all}

-- words that were put at the front of a buffer with room for them
at_front : (ws before after : List ℤ) (c : ℕ) → length ws ≤ word_limit → length ws ≤ length before → Puts ws before after 0 c → (after ≡ ws ++ drop (length ws) before) × (c ≡ length ws)
at_front ws before after c few room p =
    let q = p.puts (omega arith) in
    (q.written ∙ put_all ws before room, omega (arith, q.cursor))

module _ (file piece : List ℕ) (p k i : ℕ) (buffer : List ℤ) where
  abbrev exit : Answer ℕ → List ℤ → EncodeExit
  exit r after = record { reply = r; buffer = after }

  -- what the call asks of a design, past 19
  abbrev asked : Design → Property → Answer (List ℤ)
  asked d q = need (leb i (k + 2)) 15 0 (need (leb (length (words (part d q k i))) (length buffer)) 16 0 (answer (words (part d q k i))))

  exits : (a : Answer (List ℤ)) → words_to_write file piece p k i (length buffer) ≡ a → encode_exit (filled a buffer) ≡ ENCODE file piece p k i buffer
  unfolding encode
  exits a e = sym (ap (λ (x : Answer (List ℤ)). encode_exit (filled x buffer)) e)

  pub encode_refused : (number place : ℕ) → refused number place ≡ admission_sizes file piece p k → exit (refused number place) buffer ≡ ENCODE file piece p k i buffer
  unfolding words_to_write
  encode_refused number place e = exits (refused number place) (admission_refused file piece p k number place e asked)

  module _ {s : FrameSizes} (a : Admitted file piece p k s) (bytes : (i : ℕ) → get_or file i 0 < 256) where
    abbrev d : Design
    d = (read file a.accepted).tree

    ok : check file ≡ Checked.accepted d
    ok = (read file a.accepted).is

    abbrev ws : List ℤ
    ws = words (part d (property_of file piece d p) k i)

    here : words_to_write file piece p k i (length buffer) ≡ asked d (property_of file piece d p)
    unfolding words_to_write
    here = admitted_in a bytes asked d ok

    over_part : k + 2 < i → exit (refused 15 0) buffer ≡ ENCODE file piece p k i buffer
    over_part l = exits (refused 15 0) (here ∙ ap (λ (t : Bool). need t 15 0 (need (leb (length ws) (length buffer)) 16 0 (answer ws))) (lt-leb i (k + 2) l))

    module _ (l : i ≤ k + 2) (m : ℕ) (q : m ≡ part_words_of s k i) where
      counted : m ≡ length ws
      counted = q ∙ ap (λ (x : FrameSizes). part_words_of x k i) (a.sizes d ok) ∙ part_is d (well_formed file bytes d ok) (property_of file piece d p) k i

      pub encode_short : length buffer < m → exit (refused 16 0) buffer ≡ ENCODE file piece p k i buffer
      encode_short r =
          let z : length buffer < length ws = omega (arith, counted) in
          exits (refused 16 0) (here ∙ ap₂ (λ (t u : Bool). need t 15 0 (need u 16 0 (answer ws))) (le-leb i (k + 2) l) (lt-leb (length ws) (length buffer) z))

      pub encode_done : m ≤ length buffer → (after : List ℤ) (c : ℕ)
          → ((d : Design) → check file ≡ Checked.accepted d → s ≡ frame_sizes d (property_of file piece d p) → Puts (words (part d (property_of file piece d p) k i)) buffer after 0 c)
          → exit (answer m) after ≡ ENCODE file piece p k i buffer
      encode_done r after c g =
          let few = (small_of_file file piece bytes d ok p a.right k a.small.bound).part_words_lem i in
          let room : length ws ≤ length buffer = omega (arith, counted) in
          let z = at_front ws buffer after c (omega arith) room (g d ok (a.sizes d ok)) in
          ap₂ (λ (x : ℕ) (y : List ℤ). exit (answer x) y) counted z.0
          ∙ exits (answer ws) (here ∙ ap₂ (λ (t u : Bool). need t 15 0 (need u 16 0 (answer ws))) (le-leb i (k + 2) l) (le-leb (length ws) (length buffer) room))

  -- 15
  pub encode_part : (s : FrameSizes) → answer s ≡ admission_sizes file piece p k → ((i : ℕ) → get_or file i 0 < 256) → k + 2 < i → exit (refused 15 0) buffer ≡ ENCODE file piece p k i buffer
  encode_part s e bytes = over_part (admission_admitted file piece p k s e bytes) bytes

-- the whole formula
pub writable_accepted : {file piece : List ℕ} {p k : ℕ} {buffer : List ℤ} → Writable file piece p k buffer → Accepted file
writable_accepted w = ap (λ (x : Checked). (refusal x).number) w.accepted

-- it may be written
pub writable_admitted : {file piece : List ℕ} {p k : ℕ} {buffer : List ℤ} {s : FrameSizes} → Writable file piece p k buffer → ((i : ℕ) → get_or file i 0 < 256) → SmallFrame s
    → ((d : Design) → check file ≡ Checked.accepted d → s ≡ frame_sizes d (property_of file piece d p)) → Admitted file piece p k s
writable_admitted {file} {piece} {p} {k} {s = s} w bytes small f =
    let d = w.design in
    let numbers : variables_of s k ≡ n d (property_of file piece d p) k = ap (λ (x : FrameSizes). variables_of x k) (f d w.accepted) ∙ variables_are d (well_formed file bytes d w.accepted) (property_of file piece d p) k in
    record { accepted = writable_accepted w; property = w.property; right = w.right; small = record { sizes = small; bound = w.bound; numbers = omega (arith, w.numbers) }; sizes = f }

pub formula_written : (file piece : List ℕ) (p k : ℕ) (before after : List ℤ) (s : FrameSizes) (count v : ℕ) → Writable file piece p k before → ((i : ℕ) → get_or file i 0 < 256)
    → ((d : Design) → check file ≡ Checked.accepted d → s ≡ frame_sizes d (property_of file piece d p))
    → ((d : Design) → check file ≡ Checked.accepted d → s ≡ frame_sizes d (property_of file piece d p) → Puts (words (formula d (property_of file piece d p) k)) before after 0 count) → v ≡ variables_of s k
    → (d : Design) → check file ≡ Checked.accepted d → Written d (property_of file piece d p) k before after count v
formula_written file piece p k before after s count v w bytes f g e d ok =
    let same : w.design ≡ d = cc (w.accepted, ok) in
    let room : length (words (formula d (property_of file piece d p) k)) ≤ length before = subst (λ (x : Design). length (words (formula x (property_of file piece x p) k)) ≤ length before) same w.room in
    let few = (small_of_file file piece bytes d ok p w.right k w.bound).formula_words_lem in
    let z = at_front (words (formula d (property_of file piece d p) k)) before after count (omega arith) room (g d ok (f d ok)) in
    record { counted = z.1; numbered = e ∙ ap (λ (x : FrameSizes). variables_of x k) (f d ok) ∙ variables_are d (well_formed file bytes d ok) (property_of file piece d p) k; written = z.0 }
