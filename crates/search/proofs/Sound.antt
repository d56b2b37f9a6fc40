-- A turn that sets units in any order is right, and the tries that can come fall.
use mathlib.Core.Path.{◌≡◌, refl, sym, ap, ◌∙◌}
use mathlib.Core.Logic.{inl, inr}
use mathlib.Core.Bool.{Bool, true, false, not, cond, true≢false}
use mathlib.Core.List.{List, [], ◌∷◌}
use Prim.Native.Nat.{ℕ, suc, ◌+◌, ◌-◌, ◌^◌, ◌<◌, ◌≤◌}
use native.Mathlib.Omega.{arith}
use Rattle.std.specs.Prelude.{Option, None, Some}
use Rattle.clauses.specs.Literal.{Literal, positive, negative, variable_of, Clause}
use Rattle.clauses.specs.Meaning.{Assignment, literal_true, satisfies, Within}
use Rattle.search.specs.Search.{unset, Setting, Settings, Values, value_of, Scan, all_false, unit, some_true, several, scan, conflict, FirstUnit, nothing, found, or_else, first_unit, lowest_unset, Turn, sets, takes, satisfied, refuted, forced, branch_false, branch_true, undo, set_unit, branch, turn}
use Rattle.search.specs.AnyOrder.{IsUnit, Move, by_conflict, by_unit, by_branch}
use Rattle.search.specs.Memory.{unset_count}
use Rattle.search.proofs.Scans.{Follows, follows_none, follows_more, AllSet, conflict_no, Forced, unit_forced, settled, made, made_follows, LowestRight, lowest_right}
use Rattle.search.proofs.Counting.{count_set, owed, ahead, falls_set, falls_branch, falls_undo}

-- good settings: each of a variable in 1..n that was unset; a branch at its first value is false, and all variables below it were set; any other setting is
-- implied by those before it
pub record Good₁ (n : ℕ) (cs : List Clause) (s : Setting) (ss : Settings) : Type 0 where
  pub low : 0 < s.variable
  pub high : s.variable ≤ n
  pub unset! : value_of ss s.variable ≡ unset
  pub begins : s.first ≡ true → s.value ≡ false
  pub lowest : s.first ≡ true → AllSet (s.variable - 1) ss
  pub implied : s.first ≡ false → (ρ : Assignment) → Follows ρ ss → satisfies ρ cs ≡ true → ρ s.variable ≡ s.value

abbrev pub Good : ℕ → List Clause → Settings → Type 0
Good n cs [] = Unit {0}
Good n cs (s ∷ ss) = Good₁ n cs s ss × Good n cs ss

-- what a turn leaves, where m bounds the tries ahead
abbrev pub Ok : ℕ → List Clause → ℕ → Turn → Type 0
Ok n cs m (sets ss) = Good n cs ss × (ahead n ss < m)
Ok n cs m (takes ss) = Good n cs ss × (ahead n ss < m)
Ok n cs m (satisfied ss) = AllSet n ss × (satisfies (made ss) cs ≡ true)
Ok n cs m refuted = (ρ : Assignment) → satisfies ρ cs ≡ true → ⊥

ok_up : (n : ℕ) (cs : List Clause) (m k : ℕ) → m ≤ k → (x : Turn) → Ok n cs m x → Ok n cs k x
ok_up n cs m k h (sets ss) o = (o.0, omega (arith, o.1))
ok_up n cs m k h (takes ss) o = (o.0, omega (arith, o.1))
ok_up n cs m k h (satisfied ss) o = o
ok_up n cs m k h refuted o = o

-- no assignment that follows satisfies
abbrev Refuted : List Clause → Settings → Type 0
Refuted cs ss = (ρ : Assignment) → Follows ρ ss → satisfies ρ cs ≡ true → ⊥

pub undo_ok : (n : ℕ) (cs : List Clause) (ss : Settings) → Good n cs ss → Refuted cs ss → Ok n cs (owed n ss) (undo ss)
undo_ok n cs [] g ref = λ ρ s. ref ρ (follows_none ρ) s
undo_ok n cs (s ∷ ss) g ref = go s.first refl (undo_ok n cs ss g.1)
  where
    go : (t : Bool) → s.first ≡ t → (Refuted cs ss → Ok n cs (owed n ss) (undo ss))
        → Ok n cs (cond t (2 ^ unset_count ss 1 n - 1) 0 + owed n ss) (cond t (takes (branch_true s.variable ∷ ss)) (undo ss))
    go true e r =
        let s' : Setting = branch_true s.variable in
        let h : suc (unset_count (s' ∷ ss) 1 n) ≡ unset_count ss 1 n = count_set s' ss 1 n g.0.unset! g.0.low (omega (arith, g.0.high)) in (
          (
            record {
              low = g.0.low;
              high = g.0.high;
              unset! = g.0.unset!;
              begins = λ x. absurd (true≢false (sym x));
              lowest = λ x. absurd (true≢false (sym x));
              implied = λ x ρ f k. pick ρ f k (ρ s.variable) refl;
            },
            g.1,
          ),
          falls_undo (unset_count (s' ∷ ss) 1 n) (2 ^ unset_count ss 1 n) (owed n ss) (ap (λ (k : ℕ). 2 ^ k) (sym h)),
        )
      where
        pick : (ρ : Assignment) → Follows ρ ss → satisfies ρ cs ≡ true → (b : Bool) → ρ s.variable ≡ b → ρ s.variable ≡ true
        pick ρ f k true p = p
        pick ρ f k false p = absurd (ref ρ (follows_more ρ s ss f (p ∙ sym (g.0.begins e))) k)
    go false e r =
        ok_up n cs (owed n ss) (0 + owed n ss) (omega arith) (undo ss)
        (r (λ ρ f k. ref ρ (follows_more ρ s ss f (g.0.implied e ρ f k)) k))

pub forced_name : (l : Literal) → (forced l).variable ≡ variable_of l
forced_name (positive v) = refl
forced_name (negative v) = refl

pub forced_first : (l : Literal) → (forced l).first ≡ false
forced_first (positive v) = refl
forced_first (negative v) = refl

pub forced_value : (ρ : Assignment) (l : Literal) → literal_true ρ l ≡ true → ρ (forced l).variable ≡ (forced l).value
forced_value ρ (positive v) e = e
forced_value ρ (negative v) e = go (ρ v) e
  where
    go : (b : Bool) → not b ≡ true → b ≡ false
    go true e = sym e
    go false e = refl

-- a new setting is good
forced_good : (n : ℕ) (cs : List Clause) (ss : Settings) (l : Literal) → Forced n cs ss l → Good₁ n cs (forced l) ss
forced_good n cs ss l h =
    let e = forced_name l in
    record {
      low = rw e h.fresh.low;
      high = rw e h.fresh.high;
      unset! = rw e h.fresh.unset!;
      begins = λ x. absurd (true≢false (sym x ∙ forced_first l));
      lowest = λ x. absurd (true≢false (sym x ∙ forced_first l));
      implied = λ x ρ f s. forced_value ρ l (h.implied ρ f s);
    }

-- a move leaves good settings, or is right to end
module _ (n : ℕ) (cs : List Clause) (ss : Settings) (w : Within n cs) (g : Good n cs ss) where
  branch_ok : conflict (value_of ss) cs ≡ false → (p : Option ℕ) → LowestRight ss 1 n p → Ok n cs (ahead n ss) (branch ss p)
  branch_ok e None h =
      let a : AllSet n ss = λ v x y. h v x (omega arith) in
      (a, settled n (made ss) ss (made_follows ss) a cs w e)
  branch_ok e (Some v) h =
      let l : suc (unset_count (branch_false v ∷ ss) 1 n) ≡ unset_count ss 1 n = count_set (branch_false v) ss 1 n h.unset! h.low h.high in (
        (
          record {
            low = h.low;
            high = omega (arith, h.high);
            unset! = h.unset!;
            begins = λ x. refl;
            lowest = λ x u a b. h.before u a (omega (arith, h.low));
            implied = λ x. absurd (true≢false x);
          },
          g,
        ),
        let p : 2 ^ unset_count ss 1 n ≡ 2 ^ suc (unset_count (branch_false v ∷ ss) 1 n) = ap (λ (k : ℕ). 2 ^ k) (sym l) in
            let q : 2 ^ suc (unset_count ss 1 n) ≡ 2 ^ suc (suc (unset_count (branch_false v ∷ ss) 1 n)) = ap (λ (k : ℕ). 2 ^ suc k) (sym l) in
            let f = falls_branch (unset_count (branch_false v ∷ ss) 1 n) (2 ^ unset_count ss 1 n) (2 ^ suc (unset_count ss 1 n)) (owed n ss) p q in
            let r = p in
            omega arith,
      )

  unit_ok : (l : Literal) → Forced n cs ss l → Ok n cs (ahead n ss) (sets (forced l ∷ ss))
  unit_ok l h =
      let k = forced_good n cs ss l h in
      let c : suc (unset_count (forced l ∷ ss) 1 n) ≡ unset_count ss 1 n = count_set (forced l) ss 1 n k.unset! k.low (omega (arith, k.high)) in
      let q : 2 ^ suc (unset_count ss 1 n) ≡ 2 ^ suc (suc (unset_count (forced l ∷ ss) 1 n)) = ap (λ (k : ℕ). 2 ^ suc k) (sym c) in
      let f = falls_set (unset_count (forced l ∷ ss) 1 n) (2 ^ suc (unset_count (forced l ∷ ss) 1 n)) (2 ^ suc (unset_count ss 1 n)) (owed n ss) refl q in
      let o : owed n (forced l ∷ ss) ≡ 0 + owed n ss = ap (λ (b : Bool). cond b (2 ^ unset_count ss 1 n - 1) 0 + owed n ss) (forced_first l) in
      ((k, g), omega arith)

  pub move_ok : {x : Turn} → Move n cs ss x → Ok n cs (ahead n ss) x
  move_ok (by_conflict e) = ok_up n cs (owed n ss) (ahead n ss) (omega arith) (undo ss) (undo_ok n cs ss g (λ ρ f s. conflict_no ρ ss f cs e s))
  move_ok (by_unit l u) = unit_ok l (unit_forced n cs ss w l u)
  move_ok (by_branch q) = branch_ok q.calm (lowest_unset (value_of ss) 1 n) (lowest_right ss 1 n)

-- document 01's turn is a move
pub first_unit_lem : (σ : Values) (cs : List Clause) (l : Literal) → first_unit σ cs ≡ found l → IsUnit σ cs l
first_unit_lem σ [] l e = absurd (let z : ◌≡◌ {A = ℕ} 0 1 = cc in omega arith)
first_unit_lem σ (c ∷ cs) l e = go (scan σ c) refl e (first_unit_lem σ cs l)
  where
    go : (r : Scan) → scan σ c ≡ r → or_else r (first_unit σ cs) ≡ found l → (first_unit σ cs ≡ found l → IsUnit σ cs l) → IsUnit σ (c ∷ cs) l
    go all_false p e k = inr (k e)
    go (unit m) p e k = inl (p ∙ ap unit (let q : m ≡ l = cc in q))
    go some_true p e k = inr (k e)
    go several p e k = inr (k e)

pub turn_move : (n : ℕ) (cs : List Clause) (ss : Settings) → Move n cs ss (turn n cs ss)
unfolding turn
turn_move n cs ss = start (conflict (value_of ss) cs) refl
  where
    units : conflict (value_of ss) cs ≡ false → (f : FirstUnit) → first_unit (value_of ss) cs ≡ f → Move n cs ss (set_unit ss f (branch ss (lowest_unset (value_of ss) 1 n)))
    units e nothing p = by_branch (record { calm = e; closed = p })
    units e (found l) p = by_unit l (first_unit_lem (value_of ss) cs l p)

    start : (t : Bool) → conflict (value_of ss) cs ≡ t → Move n cs ss (cond t (undo ss) (set_unit ss (first_unit (value_of ss) cs) (branch ss (lowest_unset (value_of ss) 1 n))))
    start true e = by_conflict e
    start false e = units e (first_unit (value_of ss) cs) refl

pub turn_ok : (n : ℕ) (cs : List Clause) (ss : Settings) → Within n cs → Good n cs ss → Ok n cs (ahead n ss) (turn n cs ss)
turn_ok n cs ss w g = move_ok n cs ss w g (turn_move n cs ss)
