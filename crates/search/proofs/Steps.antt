-- A turn on lent memory is a move of the search.
use mathlib.Core.Path.{◌≡◌, refl, sym, ap, ap₂, ◌∙◌, subst}
use mathlib.Core.Logic.{inl, inr}
use mathlib.Core.Bool.{Bool, true, false, ◌||◌, cond}
use mathlib.Core.List.{List, [], ◌∷◌}
use Prim.Native.Nat.{ℕ, zero, suc, ◌+◌, ◌<◌, ◌≤◌}
use native.Mathlib.Omega.{arith}
use native.Mathlib.Nat.{le_refl}
use native.Mathlib.Numerals.{add-one}
use lib.Dec.{eqb}
use lib.IntN.{ℤ}
use lib.ListN.{length}
use Rattle.std.specs.Prelude.{Option, None, Some}
use Rattle.clauses.specs.Literal.{Literal, positive, negative, variable_of, Clause}
use Rattle.clauses.specs.Meaning.{ClauseWithin, Within}
use Rattle.clauses.specs.Words.{clauses_of}
use Rattle.search.specs.Search.{Value, unset, Setting, Values, value_of, opposite, literal_value, Scan, scan_one, join, scan, is_false, conflict, or_else, first_unit, is_unset, lowest_unset, sets, takes, forced, branch_true, undo, branch}
use Rattle.search.specs.AnyOrder.{IsUnit, Quiet, Move, by_conflict, by_unit, by_branch}
use Rattle.search.specs.Memory.{value_at, Agree, Starts, literal_from, Finds, settings_of, Settable, Assigned, Undone, ReadyTrail, AfterTurn}
use Rattle.search.proofs.Scans.{Free, unit_forced, LowestAt, LowestRight, lowest_right}
use Rattle.search.proofs.Counting.{count_set}
use Rattle.search.proofs.Reading.{within_words}
use Rattle.search.proofs.State.{grown}
use Rattle.search.specs.declared.scan.Found.{Found}
use Rattle.search.specs.declared.scan.Found.TheVariants.{Nothing, Conflict, Unit as UnitAt}
use Rattle.search.specs.declared.run.Step.TheVariants.{Goes, Tries, Sat as AllSat, Unsat as NoneLeft}

lit_ext : (n : ℕ) (σ τ : Values) → Agree n σ τ → (l : Literal) → 0 < variable_of l → variable_of l ≤ n → literal_value σ l ≡ literal_value τ l
lit_ext n σ τ h (positive v) a b = h v a b
lit_ext n σ τ h (negative v) a b = ap opposite (h v a b)

scan_ext : (n : ℕ) (σ τ : Values) → Agree n σ τ → (c : Clause) → ClauseWithin n c → scan σ c ≡ scan τ c
scan_ext n σ τ h [] w = refl
scan_ext n σ τ h (l ∷ ls) w = ap₂ (λ (x : Value) (y : Scan). join (scan_one l x) y) (lit_ext n σ τ h l w.0.0 w.0.1) (scan_ext n σ τ h ls w.1)

pub conflict_ext : (n : ℕ) (σ τ : Values) → Agree n σ τ → (cs : List Clause) → Within n cs → conflict σ cs ≡ conflict τ cs
conflict_ext n σ τ h [] w = refl
conflict_ext n σ τ h (c ∷ cs) w = ap₂ (λ (x : Scan) (y : Bool). is_false x || y) (scan_ext n σ τ h c w.0) (conflict_ext n σ τ h cs w.1)

unit_ext : (n : ℕ) (σ τ : Values) → Agree n σ τ → (cs : List Clause) → Within n cs → first_unit σ cs ≡ first_unit τ cs
unit_ext n σ τ h [] w = refl
unit_ext n σ τ h (c ∷ cs) w = ap₂ or_else (scan_ext n σ τ h c w.0) (unit_ext n σ τ h cs w.1)

lowest_ext : (σ τ : Values) (v k : ℕ) → ((u : ℕ) → v ≤ u → u < v + k → σ u ≡ τ u) → lowest_unset σ v k ≡ lowest_unset τ v k
lowest_ext σ τ v zero h = refl
lowest_ext σ τ v (suc k) h =
    ap₂ (λ (x : Value) (y : Option ℕ). cond (is_unset x) (Some v) y) (h v (le_refl v) (omega arith)) (lowest_ext σ τ (suc v) k (λ u a b. h u (omega arith) (omega arith)))

pub is_unit_ext : (n : ℕ) (σ τ : Values) → Agree n σ τ → (cs : List Clause) → Within n cs → (l : Literal) → IsUnit τ cs l → IsUnit σ cs l
is_unit_ext n σ τ h [] w l u = u
is_unit_ext n σ τ h (c ∷ cs) w l (inl e) = inl (scan_ext n σ τ h c w.0 ∙ e)
is_unit_ext n σ τ h (c ∷ cs) w l (inr u) = inr (is_unit_ext n σ τ h cs w.1 l u)

pub quiet_ext : (n : ℕ) (σ τ : Values) → Agree n σ τ → (cs : List Clause) → Within n cs → Quiet τ cs → Quiet σ cs
quiet_ext n σ τ h cs w q = record { calm = conflict_ext n σ τ h cs w ∙ q.calm; closed = unit_ext n σ τ h cs w ∙ q.closed }

pub variable_is : (v b : ℕ) → variable_of (literal_from v b) ≡ v
variable_is v b = go (eqb b 1)
  where
    go : (c : Bool) → variable_of (cond c (positive v) (negative v)) ≡ v
    go true = refl
    go false = refl

pub forced_is : (v b : ℕ) → forced (literal_from v b) ≡ record { variable = v; value = eqb b 1; first = eqb 0 1 }
forced_is v b = go (eqb b 1)
  where
    go : (c : Bool) → forced (cond c (positive v) (negative v)) ≡ record { variable = v; value = c; first = eqb 0 1 }
    go true = refl
    go false = refl

module _ {n : ℕ} {ws : List ℤ} {vs tr : List ℕ} {t from low : ℕ} (h : ReadyTrail n ws vs tr t from low) where
  w : Within n (clauses_of ws)
  w = within_words n ws h.inside

  agree : Agree n (value_of (settings_of vs tr t)) (value_at vs)
  agree v a b = h.shaped.looks v a b

  lowest_same : lowest_unset (value_of (settings_of vs tr t)) 1 n ≡ lowest_unset (value_at vs) 1 n
  lowest_same = lowest_ext (value_of (settings_of vs tr t)) (value_at vs) 1 n (λ u a b. agree u a (omega arith))

  room_left : (v : ℕ) → 0 < v → v ≤ n → value_of (settings_of vs tr t) v ≡ unset → Settable n (length tr) t v
  room_left v a b u =
      let k = h.shaped.count in
      let s = h.small in
      let e = h.shaped.trail in
      let l = count_set (branch_true v) (settings_of vs tr t) 1 n u a (omega arith) in
      record { low = a; high = b; small = omega arith; room = omega arith }

  -- after a scan that found r
  module _ (r : Found) (f : Finds (Starts ws) (value_at vs) (clauses_of ws) r) where
    finds : {q : Found} → r ≡ q → Finds (Starts ws) (value_at vs) (clauses_of ws) q
    finds e = subst (Finds (Starts ws) (value_at vs) (clauses_of ws)) e f

    -- a conflict
    undoes : r ≡ Conflict → Move n (clauses_of ws) (settings_of vs tr t) (undo (settings_of vs tr t))
    undoes e = by_conflict (conflict_ext n (value_of (settings_of vs tr t)) (value_at vs) agree (clauses_of ws) w ∙ finds e)

    module _ (e : r ≡ Conflict) {o : Option ℕ} (vs' tr' : List ℕ) (u : Undone n (settings_of vs tr t) o vs' tr') where
      left : {q : Option ℕ} → o ≡ q → Undone n (settings_of vs tr t) q vs' tr'
      left s = subst (λ (q : Option ℕ). Undone n (settings_of vs tr t) q vs' tr') s u

      pub step_undo : {k : ℕ} → o ≡ Some k → AfterTurn n ws (settings_of vs tr t) (Tries k) vs vs' tr'
      step_undo s = (subst (Move n (clauses_of ws) (settings_of vs tr t)) (left s).0 (undoes e), (left s).1)

      pub step_unsat : o ≡ None → AfterTurn n ws (settings_of vs tr t) NoneLeft vs vs' tr'
      step_unsat s = subst (Move n (clauses_of ws) (settings_of vs tr t)) (left s) (undoes e)

    -- a unit
    module _ {v b next : ℕ} (e : r ≡ UnitAt v b next) where
      is_unit : IsUnit (value_of (settings_of vs tr t)) (clauses_of ws) (literal_from v b)
      is_unit = is_unit_ext n (value_of (settings_of vs tr t)) (value_at vs) agree (clauses_of ws) w (literal_from v b) (finds e).unit

      fresh : Free n (value_of (settings_of vs tr t)) (literal_from v b)
      fresh = (unit_forced n (clauses_of ws) (settings_of vs tr t) w (literal_from v b) is_unit).fresh

      free : value_of (settings_of vs tr t) v ≡ unset
      free = subst (λ (k : ℕ). value_of (settings_of vs tr t) k ≡ unset) (variable_is v b) fresh.unset!

      pub unit_settable : Settable n (length tr) t v
      unit_settable = room_left v (subst (λ (k : ℕ). 0 < k) (variable_is v b) fresh.low) (subst (λ (k : ℕ). k ≤ n) (variable_is v b) fresh.high) free

      pub step_unit : {vs' tr' : List ℕ} → Assigned vs tr t v b 0 vs' tr' → AfterTurn n ws (settings_of vs tr t) (Goes (t + 1) next) vs vs' tr'
      step_unit {vs'} {tr'} a =
          let s = unit_settable in
          let g = grown a h.shaped s.low s.high free (finds e).bit (omega arith) in
          rw (add-one t) (
            subst (Move n (clauses_of ws) (settings_of vs tr t)) (ap (λ (x : Setting). sets (x ∷ settings_of vs tr t)) (forced_is v b) ∙ ap sets (sym g.is)) (by_unit (literal_from v b) is_unit),
            g.shaped,
            (finds e).starts,
          )

    -- neither
    module _ (e : r ≡ Nothing) where
      branches : Move n (clauses_of ws) (settings_of vs tr t) (branch (settings_of vs tr t) (lowest_unset (value_at vs) 1 n))
      branches =
          subst (λ (p : Option ℕ). Move n (clauses_of ws) (settings_of vs tr t) (branch (settings_of vs tr t) p)) lowest_same
          (by_branch (quiet_ext n (value_of (settings_of vs tr t)) (value_at vs) agree (clauses_of ws) w (finds e)))

      module _ {v : ℕ} (s : Some v ≡ lowest_unset (value_at vs) 1 n) where
        lowest : LowestAt (settings_of vs tr t) 1 n v
        lowest = subst (LowestRight (settings_of vs tr t) 1 n) (lowest_same ∙ sym s) (lowest_right (settings_of vs tr t) 1 n)

        pub branch_settable : Settable n (length tr) t v
        branch_settable = room_left v lowest.low (omega (arith, lowest.high)) lowest.unset!

        pub step_branch : {vs' tr' : List ℕ} → Assigned vs tr t v 0 1 vs' tr' → AfterTurn n ws (settings_of vs tr t) (Tries (t + 1)) vs vs' tr'
        step_branch {vs'} {tr'} a =
            let g = grown a h.shaped lowest.low (omega (arith, lowest.high)) lowest.unset! (omega arith) (le_refl 1) in
            rw (add-one t) (
              subst (Move n (clauses_of ws) (settings_of vs tr t)) (ap (branch (settings_of vs tr t)) (sym s) ∙ ap takes (sym g.is)) branches,
              g.shaped,
            )

      pub step_sat : None ≡ lowest_unset (value_at vs) 1 n → AfterTurn n ws (settings_of vs tr t) AllSat vs vs tr
      step_sat s = (subst (λ (p : Option ℕ). Move n (clauses_of ws) (settings_of vs tr t) (branch (settings_of vs tr t) p)) (sym s) branches, refl)
