-- How far all variables are set: a unit sets one more, and after a try all up to its variable are set. So the next branch is sought from there.
use mathlib.Core.Path.{◌≡◌, refl, sym, ap, ◌∙◌, subst}
use mathlib.Core.Bool.{Bool, true, false, cond, true≢false}
use mathlib.Core.List.{List, [], ◌∷◌}
use Prim.Native.Nat.{ℕ, zero, suc, ◌+◌, ◌-◌, ◌/◌, ◌<◌, ◌≤◌}
use native.Mathlib.Omega.{arith}
use native.Mathlib.Nat.{le_refl}
use lib.Dec.{eqb}
use lib.ListN.{length, get_or}
use borrow.Author.Tests.{eqb-true, eqb-false, lt-ltb}
use Rattle.std.specs.Prelude.{Option, None, Some}
use Rattle.clauses.specs.Literal.{Clause}
use Rattle.search.specs.Search.{unset, is, Setting, Settings, value_of, is_unset, lowest_unset, Turn, sets, takes, satisfied, refuted, forced, branch_false, branch_true, undo, branch}
use Rattle.search.specs.AnyOrder.{Move, by_conflict, by_unit, by_branch}
use Rattle.search.specs.Memory.{value_of_byte, settings_of, TrailAgrees, SetTo}
use Rattle.search.proofs.Scans.{AllSet, LowestRight, lowest_right}
use Rattle.search.proofs.Counting.{value_of_other, value_of_same}
use Rattle.search.proofs.Sound.{Good}
use Rattle.search.proofs.State.{named}

-- one more setting
all_more : (m k : ℕ) (s : Setting) (ss : Settings) → AllSet m ss → ((v : ℕ) → v ≤ k → (v ≡ s.variable → ⊥) → v ≤ m) → AllSet k (s ∷ ss)
all_more m k s ss h f v a b = go (eqb v s.variable) refl
  where
    go : (t : Bool) → eqb v s.variable ≡ t → is_unset (value_of (s ∷ ss) v) ≡ false
    go true e = ap is_unset (value_of_same s ss v (eqb-true v s.variable e))
    go false e = let ne = eqb-false v s.variable e in ap is_unset (value_of_other s ss v ne) ∙ h v a (f v b ne)

-- all up to the latest setting's variable are set
abbrev pub Reaches : Settings → Type 0
Reaches [] = ⊥
Reaches (s ∷ ss) = AllSet s.variable (s ∷ ss)

reaches : (s : Setting) (ss : Settings) → AllSet (s.variable - 1) ss → Reaches (s ∷ ss)
reaches s ss h = all_more (s.variable - 1) s.variable s ss h (λ v l ne. omega arith)

-- of a turn, where 1, 2, .., m were set
abbrev pub Onward : ℕ → Turn → Type 0
Onward m (sets ss) = AllSet m ss
Onward m (takes ss) = Reaches ss
Onward m (satisfied ss) = Unit {0}
Onward m refuted = Unit {0}

undo_onward : (n : ℕ) (cs : List Clause) (m : ℕ) (ss : Settings) → Good n cs ss → Onward m (undo ss)
undo_onward n cs m [] g = tt
undo_onward n cs m (s ∷ ss) g = go s.first refl (undo_onward n cs m ss g.1)
  where
    go : (t : Bool) → s.first ≡ t → Onward m (undo ss) → Onward m (cond t (takes (branch_true s.variable ∷ ss)) (undo ss))
    go true e r = reaches (branch_true s.variable) ss (g.0.lowest e)
    go false e r = r

pub move_onward : (n : ℕ) (cs : List Clause) (m : ℕ) (ss : Settings) → Good n cs ss → AllSet m ss → {x : Turn} → Move n cs ss x → Onward m x
move_onward n cs m ss g a (by_conflict e) = undo_onward n cs m ss g
move_onward n cs m ss g a (by_unit l u) = all_more m m (forced l) ss a (λ v k ne. k)
move_onward n cs m ss g a (by_branch q) = go (lowest_unset (value_of ss) 1 n) (lowest_right ss 1 n)
  where
    go : (p : Option ℕ) → LowestRight ss 1 n p → Onward m (branch ss p)
    go None h = tt
    go (Some v) h = reaches (branch_false v) ss (λ u b c. h.before u b (omega (arith, h.low)))

-- In lent memory: a byte that is set is a bit, and each byte tells its variable's value.
pub set_bit : (x : ℕ) → is_unset (value_of_byte x) ≡ false → x ≤ 1
set_bit zero e = omega arith
set_bit (suc zero) e = le_refl 1
set_bit (suc (suc x)) e =
    absurd (true≢false (ap (λ (c : Bool). is_unset (cond c unset (is (eqb (suc (suc x)) 1)))) (sym (lt-ltb 1 (suc (suc x)) (omega arith))) ∙ e))

module _ (n : ℕ) (vs tr : List ℕ) (t : ℕ) (h : TrailAgrees n vs tr t) where
  pub byte_here : (i : ℕ) → i < n → value_of (settings_of vs tr t) (1 + i) ≡ value_of_byte (get_or vs i 0)
  byte_here i l = h.looks (1 + i) (omega arith) (omega arith) ∙ ap (λ (k : ℕ). value_of_byte (get_or vs k 0)) (let e : 1 + i - 1 ≡ i = omega arith in e)

  pub set_to : (low : ℕ) → low ≤ n → AllSet low (settings_of vs tr t) → SetTo low vs
  set_to low l a = record {
    within = omega (arith, h.values);
    bits = λ i b. set_bit (get_or vs i 0) (ap is_unset (sym (byte_here i (omega arith))) ∙ a (1 + i) (omega arith) (omega arith));
  }

-- the variable of the latest setting
pub record Latest (n : ℕ) (vs tr : List ℕ) (k : ℕ) : Type 0 where
  pub some : 0 < k
  pub room : k ≤ length tr
  pub set : AllSet (get_or tr (k - 1) 0 / 2) (settings_of vs tr k)
  pub high : get_or tr (k - 1) 0 / 2 ≤ n

pub latest_set : (n : ℕ) (vs tr : List ℕ) (k : ℕ) → TrailAgrees n vs tr k → Reaches (settings_of vs tr k) → Latest n vs tr k
latest_set n vs tr zero h a = absurd a
latest_set n vs tr (suc k) h a =
    let m = named n vs tr (suc k) (omega arith) h in
    record {
      some = omega arith;
      room = omega (arith, m.short, h.trail);
      set = subst (λ (j : ℕ). AllSet (get_or tr j 0 / 2) (settings_of vs tr (suc k))) (let e : k ≡ suc k - 1 = omega arith in e) a;
      high = m.high;
    }
