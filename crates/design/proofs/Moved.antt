-- A reading does not depend on what stands before its text: a reader finds in a part of a text what it finds in the whole, so many bytes earlier. Assumes nothing.
use Prim.Native.Nat.{ℕ, zero, suc, ◌+◌, ◌-◌, ◌<◌, ◌≤◌}
use mathlib.Core.Path.{◌≡◌, refl, sym, ap, ap₂, subst, ◌∙◌}
use mathlib.Core.Bool.{Bool, true, false, not}
use mathlib.Core.List.{List}
use native.Mathlib.Omega.{arith}
use lib.ListN.{get_or, take, drop}
use lib.Seq.{get_or-take, get_or-drop}
use lib.Dec.{ltb, leb}
use borrow.Author.Tests.{ltb-true, ltb-false, leb-true, leb-false, lt-ltb, le-ltb, le-leb, lt-leb}
use Rattle.design.specs.Tree.{IntExpr, BoolExpr}
use Rattle.design.specs.Reading.{Read, got, bad, Reader, bind, provided}
use Rattle.design.specs.Expression.{Names, IntOp, BoolOp, int_op, bool_op, byte, word, legal, is_variable, is_integer, is_matrix, int_of, bool_of, int_expr, bool_expr}

-- what is found, so many bytes further on
abbrev pub moved : {A : Type 0} → ℕ → Read A → Read A
moved a (got x n) = got x (a + n)
moved a bad = bad

module _ {A : Type 0} (a : ℕ) where
  -- where it stands in the whole, it stands in the part
  pub moved_back : (r : Read A) (x : A) (n : ℕ) → moved a r ≡ got x (a + n) → r ≡ got x n
  moved_back (got y m) x n e = let p : y ≡ x = cc in let q : a + m ≡ a + n = cc in ap₂ got p (omega arith)
  moved_back bad x n e = let z : ◌≡◌ {A = ℕ} 0 1 = cc in absurd (omega arith)

  moved_provided : (t u : Bool) (r s : Read A) → u ≡ t → (t ≡ true → s ≡ moved a r) → provided u s ≡ moved a (provided t r)
  moved_provided true u r s p q = ap (λ (b : Bool). provided b s) p ∙ q refl
  moved_provided false u r s p q = ap (λ (b : Bool). provided b s) p

  moved_demand : (t : Bool) (r s : Read A) → s ≡ moved a r → provided t s ≡ moved a (provided t r)
  moved_demand t r s q = moved_provided t t r s refl (λ e. q)

moved_bind : {A B : Type 0} (a : ℕ) (x y : Read A) (j k : A → ℕ → Read B) → y ≡ moved a x → ((v : A) (n : ℕ) → k v (a + n) ≡ moved a (j v n)) → bind y k ≡ moved a (bind x j)
moved_bind a (got v n) y j k e h = ap (λ (z : Read _). bind z k) e ∙ h v n
moved_bind a bad y j k e h = ap (λ (z : Read _). bind z k) e

-- a position is tested against the end as it is further on
ltb_moved : (a at end : ℕ) → ltb (a + at) (a + end) ≡ ltb at end
ltb_moved a at end = go (ltb at end) refl
  where
    go : (t : Bool) → ltb at end ≡ t → ltb (a + at) (a + end) ≡ ltb at end
    go true e = let l = ltb-true at end e in lt-ltb (a + at) (a + end) (omega arith) ∙ sym e
    go false e = let l = ltb-false at end e in le-ltb (a + at) (a + end) (omega arith) ∙ sym e

leb_moved : (a at end : ℕ) → leb (a + at + 2) (a + end) ≡ leb (at + 2) end
leb_moved a at end = go (leb (at + 2) end) refl
  where
    go : (t : Bool) → leb (at + 2) end ≡ t → leb (a + at + 2) (a + end) ≡ leb (at + 2) end
    go true e = let l = leb-true (at + 2) end e in le-leb (a + at + 2) (a + end) (omega arith) ∙ sym e
    go false e = let l = leb-false (at + 2) end e in lt-leb (a + at + 2) (a + end) (omega arith) ∙ sym e

-- `part` has the bytes of `text` from a on, up to `end` of its own
module _ (part text : List ℕ) (names : Names) (a end : ℕ) (same : (i : ℕ) → i < end → get_or part i 0 ≡ get_or text (a + i) 0) where
  byte_moved : (at : ℕ) → byte text names (a + end) (a + at) ≡ moved a (byte part names end at)
  byte_moved at = moved_provided a (ltb at end) (ltb (a + at) (a + end)) _ _ (ltb_moved a at end) (λ e. ap₂ got (sym (same at (ltb-true at end e))) (omega arith))

  word_moved : (at : ℕ) → word text names (a + end) (a + at) ≡ moved a (word part names end at)
  word_moved at =
      moved_provided a (leb (at + 2) end) (leb (a + at + 2) (a + end)) _ _ (leb_moved a at end)
      (λ e. let l = leb-true (at + 2) end e in
      let p = same at (omega arith) in
      let s : a + (at + 1) ≡ a + at + 1 = omega arith in
      let q = same (at + 1) (omega arith) ∙ ap (λ (j : ℕ). get_or text j 0) s in
      ap₂ got (omega arith) (omega arith))

  -- a reader of the text, and one of its part
  abbrev Moves : {A : Type 0} → Reader A → Reader A → Type 0
  Moves whole r = (at : ℕ) → whole (a + at) ≡ moved a (r at)

  int_of_moved : (whole operand : Reader IntExpr) → Moves whole operand → (o : IntOp) → Moves (int_of text names (a + end) whole o) (int_of part names end operand o)
  int_of_moved whole operand h IntOp.op_constant at = moved_bind a (word part names end at) (word text names (a + end) (a + at)) _ _ (word_moved at) (λ c n. refl)
  int_of_moved whole operand h (IntOp.op_variable next) at =
      moved_bind a (byte part names end at) (byte text names (a + end) (a + at)) _ _ (byte_moved at)
      (λ v n. moved_demand a (legal part names end next) _ _ (moved_demand a (is_variable part names end v) _ _ (moved_demand a (is_integer part names end v) _ _ refl)))
  int_of_moved whole operand h (IntOp.op_status next) at =
      moved_bind a (byte part names end at) (byte text names (a + end) (a + at)) _ _ (byte_moved at)
      (λ v n. moved_demand a (legal part names end next) _ _ (moved_demand a (is_matrix part names end v) _ _ refl))
  int_of_moved whole operand h IntOp.op_product at =
      moved_bind a (word part names end at) (word text names (a + end) (a + at)) _ _ (word_moved at) (λ c n. moved_bind a (operand n) (whole (a + n)) _ _ (h n) (λ x m. refl))
  int_of_moved whole operand h IntOp.op_unknown at = refl
  int_of_moved whole operand h (IntOp.op_ints f) at = moved_bind a (operand at) (whole (a + at)) _ _ (h at) (λ x n. moved_bind a (operand n) (whole (a + n)) _ _ (h n) (λ y m. refl))

  pub int_moved : (depth : ℕ) → Moves (int_expr text names (a + end) depth) (int_expr part names end depth)
  unfolding int_expr
  int_moved zero at = refl
  int_moved (suc depth) at =
      moved_bind a (byte part names end at) (byte text names (a + end) (a + at)) _ _ (byte_moved at)
      (λ op n. int_of_moved (int_expr text names (a + end) depth) (int_expr part names end depth) (int_moved depth) (int_op op) n)

  bool_of_moved : (whole_int int : Reader IntExpr) → Moves whole_int int → (whole operand : Reader BoolExpr) → Moves whole operand → (o : BoolOp) → Moves (bool_of text names (a + end) whole_int whole o) (bool_of part names end int operand o)
  bool_of_moved wi int i whole operand h BoolOp.op_constant at = moved_bind a (byte part names end at) (byte text names (a + end) (a + at)) _ _ (byte_moved at) (λ c n. moved_demand a (leb c 1) _ _ refl)
  bool_of_moved wi int i whole operand h (BoolOp.op_variable next) at =
      moved_bind a (byte part names end at) (byte text names (a + end) (a + at)) _ _ (byte_moved at)
      (λ v n. moved_demand a (legal part names end next) _ _ (moved_demand a (is_variable part names end v) _ _ (moved_demand a (not (is_integer part names end v)) _ _ refl)))
  bool_of_moved wi int i whole operand h BoolOp.op_not at = moved_bind a (operand at) (whole (a + at)) _ _ (h at) (λ x n. refl)
  bool_of_moved wi int i whole operand h BoolOp.op_unknown at = refl
  bool_of_moved wi int i whole operand h (BoolOp.op_bools f) at = moved_bind a (operand at) (whole (a + at)) _ _ (h at) (λ x n. moved_bind a (operand n) (whole (a + n)) _ _ (h n) (λ y m. refl))
  bool_of_moved wi int i whole operand h (BoolOp.op_ints f) at = moved_bind a (int at) (wi (a + at)) _ _ (i at) (λ x n. moved_bind a (int n) (wi (a + n)) _ _ (i n) (λ y m. refl))

  pub bool_moved : (depth : ℕ) → Moves (bool_expr text names (a + end) depth) (bool_expr part names end depth)
  unfolding bool_expr
  bool_moved zero at = refl
  bool_moved (suc depth) at =
      moved_bind a (byte part names end at) (byte text names (a + end) (a + at)) _ _ (byte_moved at)
      (λ op n. bool_of_moved (int_expr text names (a + end) depth) (int_expr part names end depth) (int_moved depth) (bool_expr text names (a + end) depth) (bool_expr part names end depth) (bool_moved depth) (bool_op op) n)

-- what a reader finds from a on, up to e, it finds in that part of the text
pub bool_in_part : (text : List ℕ) (names : Names) (a e depth : ℕ) (x : BoolExpr) → a ≤ e → bool_expr text names e depth a ≡ got x e → bool_expr (take (e - a) (drop a text)) names (e - a) depth 0 ≡ got x (e - a)
bool_in_part text names a e depth x l r =
    let s : a + 0 ≡ a = omega arith in
    let t : e ≡ a + (e - a) = omega arith in
    moved_back a (bool_expr (take (e - a) (drop a text)) names (e - a) depth 0) x (e - a)
    (sym (bool_moved (take (e - a) (drop a text)) text names a (e - a) (λ i k. get_or-take (e - a) (drop a text) i 0 k ∙ get_or-drop a text i 0) depth 0)
    ∙ (subst (λ (j : ℕ). bool_expr text names j depth (a + 0) ≡ got x j) t (ap (bool_expr text names e depth) s ∙ r)))
