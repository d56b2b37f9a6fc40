-- DECODE is not refused on values that store a satisfying assignment; so on VIOLATED i it writes choices that break the property at step i.
use mathlib.Core.Path.{◌≡◌, refl, ap, ◌∙◌}
use mathlib.Core.Bool.{true, false}
use mathlib.Core.List.{List, ◌++◌}
use Prim.Native.Nat.{ℕ, suc, ◌+◌, ◌≤◌}
use native.Mathlib.Omega.{arith}
use lib.ListN.{length, drop, length-append, get_or-append}
use borrow.Author.Tests.{le-leb}
use Rattle.design.specs.Tree.{Design, bit}
use Rattle.design.specs.Check.{Checked, check}
use Rattle.step.specs.Piece.{piece_right}
use Rattle.step.specs.Property.{Property, property_of}
use Rattle.step.specs.Breaking.{Breaking}
use Rattle.clauses.specs.Meaning.{satisfies}
use Rattle.clauses.specs.Formula.{n, formula, choices}
use Rattle.clauses.specs.Limits.{last_variable}
use Rattle.clauses.proofs.Admissions.{admit_in}
use Rattle.design.specs.Answer.{Answer, answer}
use Rattle.step.specs.Limits.{last_property, max_bound}
use Rattle.clauses.specs.Decode.{AfterDecode, written, chosen_from, choices_of, choices_to_write, decode}
use Rattle.clauses.specs.Theorem.{Theorem, Stored}
use Rattle.search.specs.Search.{Value, unset, is, Settings, value_of}
use Rattle.search.specs.Solve.{bit_of, values_from}
use Rattle.search.proofs.Scans.{is_true, made}
use Rattle.search.proofs.Values.{length_from, get_d_from}
use Rattle.verdict.specs.Claim.{Decodes, NoneShorter, Witness}
use Rattle.verdict.proofs.Breaking.{breaks_at_lem}

bit_true : (x : Value) → bit_of x ≡ bit (is_true x)
bit_true unset = refl
bit_true (is true) = refl
bit_true (is false) = refl

-- the values that SAT leaves hold the assignment of its settings
values_hold : (m : ℕ) (ss : Settings) (rest : List ℕ) → Stored m (made ss) (values_from ss 1 m ++ rest)
values_hold m ss rest = record {
  long = omega (arith, length-append (values_from ss 1 m) rest, length_from ss 1 m);
  value = λ i h.
      get_or-append (values_from ss 1 m) rest 0 i (omega (arith, length_from ss 1 m))
      ∙ get_d_from ss 1 m i h
      ∙ ap (λ (v : ℕ). bit_of (value_of ss v)) (let e : 1 + i ≡ suc i = omega arith in e)
      ∙ bit_true (value_of ss (suc i));
}

module _ (file piece : List ℕ) (d : Design) (e : check file ≡ Checked.accepted d) (p : ℕ) (low : p ≤ last_property file) (right : piece_right file piece p ≡ true) where
  -- past the other refusals DECODE looks at the flags
  decode_past : (i : ℕ) (values cs : List ℕ) → i ≤ max_bound → n d (property_of file piece d p) i ≤ last_variable → n d (property_of file piece d p) i ≤ length values → i ≤ length cs
      → decode file piece p i values cs ≡ written (chosen_from d (property_of file piece d p) values i 0) cs
  unfolding decode choices_of choices_to_write
  decode_past i values cs few numbers long room =
      ap (λ (r : Answer (List ℕ)). written r cs) (admit_in file piece p i (λ (d : Design) (q : Property). choices_of d q i values (length cs)) d e low right few numbers)
      ∙ rw (le-leb (n d (property_of file piece d p) i) (length values) long, le-leb i (length cs) room)

  pub decodes : (i : ℕ) → i ≤ max_bound → n d (property_of file piece d p) i ≤ last_variable → Theorem d (property_of file piece d p) i → Decodes file piece d p i
  decodes i few numbers th ρ values cs s h room =
      decode_past i values cs few numbers h.long room
      ∙ ap (λ (r : Answer (List ℕ)). written r cs) (th.decode ρ values s h)
      ∙ ap {B = AfterDecode} (λ (m : ℕ). record { answer = answer tt; choices = choices d (property_of file piece d p) ρ i ++ drop m cs }) (th.decodes ρ s).long

  pub witness : (i : ℕ) (ss : Settings) (rest cs : List ℕ) → Theorem d (property_of file piece d p) i → i ≤ max_bound → n d (property_of file piece d p) i ≤ last_variable → i ≤ length cs → NoneShorter d (property_of file piece d p) i
      → satisfies (made ss) (formula d (property_of file piece d p) i) ≡ true → Witness d (property_of file piece d p) i cs (decode file piece p i (values_from ss 1 (n d (property_of file piece d p) i) ++ rest) cs).choices
  witness i ss rest cs th few numbers room none s =
      let b : Breaking d (property_of file piece d p) i (choices d (property_of file piece d p) (made ss) i) = th.decodes (made ss) s in
      let x = decodes i few numbers th (made ss) (values_from ss 1 (n d (property_of file piece d p) i) ++ rest) cs s (values_hold (n d (property_of file piece d p) i) ss rest) room in
      record {
        list = choices d (property_of file piece d p) (made ss) i;
        written = ap (λ (r : AfterDecode). r.choices) x;
        long = b.long;
        movers = b.movers;
        breaks = breaks_at_lem d (property_of file piece d p) i (choices d (property_of file piece d p) (made ss) i) b none;
      }
