-- The loops of a replay: the first state is loaded, and each choice acts on what the one before it left. Assumes nothing.
use Rattle.std.proofs.Common.{◌≡◌, ℕ, zero, suc, ◌+◌, ◌*◌, ◌<◌, ◌≤◌, Bool, true, false, cond, ◌&&◌, ◌||◌, eqb, ltb, leb, List, [], ◌∷◌, ◌++◌, map, length, get_or, take, drop, set, replicate, sym, refl, ap, ◌∙◌, subst, ap₂, add-one, arith, length-set, drop_of_length-le, take_all, drop-cons, take_at, drop_at, ne_eqb}
use mathlib.Core.Option.{Option, none, some}
use Rattle.std.specs.Prelude.{Option as Maybe, Some, None, is_some}
use Rattle.step.specs.declared.Replayed.{Replayed}
use lib.ListN.{length-map, length-replicate, get_or-map}
use lib.Seq.{paste, paste-zero, paste-suc}
use Rattle.design.specs.Tree.{Variable, boolean, Design, bit}
use Rattle.design.specs.State.{State, start}
use Rattle.design.specs.DesignFile.{Item, item, need, kind, at8, at16, variable_at}
use Rattle.design.specs.Check.{check, accepted, items_end, variable_count, matrix_count}
use Rattle.design.specs.Places.{Accepted}
use Rattle.design.specs.Sections.{Parts}
use Rattle.design.proofs.Sections.{whole, need_inv, item_same}
use Rattle.design.proofs.Positions.{variable_stands}
use Rattle.design.proofs.Places.{read}
use Rattle.step.specs.Limits.{last_state_property}
use Rattle.step.specs.Property.{Property, property_of}
use Rattle.step.specs.OneStep.{step, true_at}
use Rattle.step.specs.StatusEventGuard.{event_read_by, guard_read_by, count_from}
use Rattle.step.specs.Operations.{first_break, break_told, run_told}
use Rattle.step.specs.Ready.{before_in, kept_in, tested_by}
use Rattle.step.specs.declared.mover.Tested.{Tested}
use Rattle.design.proofs.Indexed.{variables_inside}
use Rattle.design.proofs.Widths.{matrix_count_lem}
use Rattle.design.specs.Limits.{max_variables}
use Rattle.step.proofs.Pairs.{front_long, kept_true}
use Rattle.step.proofs.Counts.{bit_most}

pub drop_replicate : {A : Type 0} (n m : ℕ) (z : A) → drop n (replicate (n + m) z) ≡ replicate m z
drop_replicate zero m z = ap (λ (k : ℕ). replicate k z) (let q : 0 + m ≡ m = omega arith in q)
drop_replicate (suc n) m z = ap (λ (k : ℕ). drop (suc n) (replicate k z)) (let q : suc n + m ≡ suc (n + m) = omega arith in q) ∙ drop_replicate n m z

pub take_replicate : {A : Type 0} (n m : ℕ) (z : A) → n ≤ m → take n (replicate m z) ≡ replicate n z
take_replicate zero m z h = refl
take_replicate (suc n) zero z h = absurd (omega arith)
take_replicate (suc n) (suc m) z h = ap (λ (l : List _). z ∷ l) (take_replicate n m z (omega arith))

pub zeros_long : (n : ℕ) (s : State) → s ≡ replicate n 0 → length s ≡ n
zeros_long n s e = ap length e ∙ length-replicate n 0

replicate_last : {A : Type 0} (n : ℕ) (z : A) → replicate (n + 1) z ≡ replicate n z ++ (z ∷ [])
replicate_last zero z = refl
replicate_last (suc n) z = ap (λ (k : ℕ). replicate k z) (let q : suc n + 1 ≡ suc (n + 1) = omega arith in q) ∙ ap (λ (l : List _). z ∷ l) (replicate_last n z)

-- the initial value of variable v
initial_at : (file : List ℕ) (d : Design) (w : Parts file d) (v : ℕ) → v < variable_count file → get_or (map (λ (x : Variable). x.initial) d.variables) v 0 ≡ at16 file (3 * v + 1)
unfolding variable_at
initial_at file d w v h =
    let none : Variable = record { kind = boolean; initial = 0 } in
    let right = leb (at8 file (3 * v)) 2 && (eqb (at8 file (3 * v)) 1 || leb (at16 file (3 * v + 1)) 1) in
    let made : Item Variable = item (record { kind = kind (at8 file (3 * v)); initial = at16 file (3 * v + 1) }) (3 * v + 3) in
    let a = (need_inv (leb (3 * v + 3) (items_end file)) 4 (3 * v) (need right 5 (3 * v) made) _ _ (variable_stands file d w v h none)).1 in
    let b = (need_inv right 5 (3 * v) made _ _ a).1 in
    get_or-map (λ (x : Variable). x.initial) d.variables v none ∙ ap (λ (x : Variable). x.initial) (sym (item_same _ _ _ _ b))

-- the first v values are loaded
pub record Loading (file : List ℕ) (nv nm v : ℕ) (s : State) : Type 0 where
  pub inside : v ≤ nv
  pub size : length s ≡ nv + nm + 1
  pub same : (d : Design) → check file ≡ accepted d → s ≡ paste (replicate (nv + nm + 1) 0) 0 (map (λ (x : Variable). x.initial) d.variables) v

module _ (file : List ℕ) (a : Accepted file) (nv nm : ℕ) (e : nv ≡ variable_count file) (q : nm ≡ matrix_count file) where
  pub loading_start : (s : State) → s ≡ replicate (nv + nm + 1) 0 → Loading file nv nm 0 s
  loading_start s h = record { inside = omega arith; size = ap length h ∙ length-replicate (nv + nm + 1) 0; same = λ d c. h ∙ paste-zero (replicate (nv + nm + 1) 0) 0 (map (λ (x : Variable). x.initial) d.variables) }

  pub loading_inside : (v : ℕ) → v < nv → (3 * v + 1 + 1 < length file) × (nv ≤ max_variables)
  loading_inside v l = let b = variables_inside file a in let t = (read file a).all in (omega (arith, t.long), omega (arith, t.variables))

  pub loading_on : (v x : ℕ) (s : State) → v < nv → x ≡ at16 file (3 * v + 1) → Loading file nv nm v s → Loading file nv nm (v + 1) (set s v x)
  loading_on v x s l h g = record {
    inside = omega arith;
    size = length-set s v x ∙ g.size;
    same = λ d c.
        let w = (whole file d c).parts in
        let xs = map (λ (y : Variable). y.initial) d.variables in
        let n : length xs ≡ nv = length-map d.variables (λ (y : Variable). y.initial) ∙ w.variable_count_lem ∙ sym e in
        let k : v < length xs = omega arith in
        ap (λ (t : State). set t v x) (g.same d c) ∙ ap (set (paste (replicate (nv + nm + 1) 0) 0 xs v) v) (h ∙ sym (initial_at file d w v (omega arith)))
        ∙ ap (λ (i : ℕ). set (paste (replicate (nv + nm + 1) 0) 0 xs v) i (get_or xs v 0)) (let z : v ≡ 0 + v = omega arith in z)
        ∙ paste-suc (replicate (nv + nm + 1) 0) 0 xs v 0 (let z : length (replicate {A = ℕ} (nv + nm + 1) 0) ≡ nv + nm + 1 = length-replicate (nv + nm + 1) 0 in omega arith) k ∙ ap (paste (replicate (nv + nm + 1) 0) 0 xs) (sym (add-one v));
  }

  pub loading_end : (v : ℕ) (s : State) → nv ≤ v → Loading file nv nm v s → (d : Design) → check file ≡ accepted d → s ≡ start d
  unfolding start
  loading_end v s l g d c =
      let w = (whole file d c).parts in
      let xs = map (λ (y : Variable). y.initial) d.variables in
      let i = g.inside in
      let n : length xs ≡ nv = length-map d.variables (λ (y : Variable). y.initial) ∙ w.variable_count_lem ∙ sym e in
      let m : nm ≡ length d.statuses = q ∙ sym (matrix_count_lem file d w) in
      let back : drop {A = ℕ} (0 + nv) (replicate (nv + nm + 1) 0) ≡ replicate (nm + 1) 0 = ap₂ (λ (k j : ℕ). drop k (replicate j 0)) (let z : 0 + nv ≡ nv = omega arith in z) (let z : nv + nm + 1 ≡ nv + (nm + 1) = omega arith in z)
      ∙ drop_replicate nv (nm + 1) 0 in
      g.same d c ∙ ap (paste (replicate (nv + nm + 1) 0) 0 xs) (let z : v ≡ nv = omega arith in z)
      ∙ ap₂ (λ (x y : State). x ++ y) (take_all nv xs (omega arith)) (back ∙ replicate_last nm 0 ∙ ap (λ (k : ℕ). replicate k 0 ++ (0 ∷ [])) m)

-- A count by step i of the run from s₀ is k, and the whole is k and what the choices from i on count.
pub record Counted (d : Design) (test : State → ℕ → Bool) (s₀ : State) (cs : List ℕ) (now : State) (i k : ℕ) : Type 0 where
  pub same : count_from d test s₀ cs ≡ k + count_from d test now (drop i cs)
  pub few : k ≤ i

counted_on : (d : Design) (test : State → ℕ → Bool) (s₀ : State) (cs : List ℕ) (now : State) (i k : ℕ) → Counted d test s₀ cs now i k → i < length cs
    → Counted d test s₀ cs (step d now (get_or cs i 0)) (suc i) (k + bit (test now (get_or cs i 0)))
unfolding count_from
counted_on d test s₀ cs now i k g l =
    let c = get_or cs i 0 in
    let split : count_from d test now (drop i cs) ≡ bit (test now c) + count_from d test (step d now c) (drop (suc i) cs) = ap (count_from d test now) (drop-cons cs i 0 l) in
    record { same = omega (arith, g.same, split); few = omega (arith, g.few, bit_most (test now c)) }

counted_end : (d : Design) (test : State → ℕ → Bool) (s₀ : State) (cs : List ℕ) (now : State) (i k : ℕ) → Counted d test s₀ cs now i k → length cs ≤ i → k ≡ count_from d test s₀ cs
unfolding count_from
counted_end d test s₀ cs now i k g l =
    let none : count_from d test now (drop i cs) ≡ 0 = ap (count_from d test now) (drop_of_length-le cs l) in
    omega (arith, g.same, none)

-- the first break: the one that the walk has, or the first of the rest
abbrev break_or : Maybe ℕ → Option ℕ → Option ℕ
break_or (Some at) rest = some at
break_or None rest = rest

-- What the walk has in its variables by step i of the run from s₀, `before` and `now` being the states before and at i: the first break, if there was one, and the counts.
-- The run's first break is the one that it has, or the first from i on.
pub record SoFar (d : Design) (q : Property) (s₀ : State) (cs : List ℕ) (before : Option State) (now : State) (i : ℕ) (broken : Maybe ℕ) (e k : ℕ) : Type 0 where
  pub breaks : first_break d q none s₀ cs 0 ≡ break_or broken (first_break d q before now (drop i cs) i)
  pub events : Counted d (event_read_by d) s₀ cs now i e
  pub guards : Counted d (guard_read_by d) s₀ cs now i k

-- with step i judged the first break is the one before, or, if the property is false now, it is now
first_judged : (was : Maybe ℕ) (holds : Bool) (i : ℕ) (broken : Maybe ℕ) → broken ≡ cond (is_some was || holds) was (Some i) → (rest : Option ℕ) → break_or was (cond holds rest (some i)) ≡ break_or broken rest
first_judged was holds i broken h rest = go was holds ∙ sym (ap (λ (b : Maybe ℕ). break_or b rest) h)
  where
    go : (b : Maybe ℕ) (t : Bool) → break_or b (cond t rest (some i)) ≡ break_or (cond (is_some b || t) b (Some i)) rest
    go (Some at) t = refl
    go None true = refl
    go None false = refl

-- what the walk has at the end is the run's first break
told_is : (broken : Maybe ℕ) (o : Option ℕ) → o ≡ break_or broken none → broken ≡ break_told o
told_is (Some at) o f = sym (ap break_told f)
told_is None o f = sym (ap break_told f)

module _ (d : Design) (q : Property) (s₀ : State) (cs : List ℕ) (before : Option State) (now : State) (i : ℕ) (was : Maybe ℕ) (events guards : ℕ) (g : SoFar d q s₀ cs before now i was events guards)
    (broken : Maybe ℕ) (h : broken ≡ cond (is_some was || true_at d q before now) was (Some i)) where
  abbrev holds : Bool
  holds = true_at d q before now

  -- a choice: the property is judged in the state that it acts on, and it is counted by what was read
  so_far_on : i < length cs → SoFar d q s₀ cs (some now) (step d now (get_or cs i 0)) (suc i) broken (events + bit (event_read_by d now (get_or cs i 0))) (guards + bit (guard_read_by d now (get_or cs i 0)))
  unfolding first_break
  so_far_on l = record {
    breaks = g.breaks ∙ ap (λ (xs : List ℕ). break_or was (first_break d q before now xs i)) (drop-cons cs i 0 l)
        ∙ first_judged was holds i broken h (first_break d q (some now) (step d now (get_or cs i 0)) (drop (suc i) cs) (suc i));
    events = counted_on d (event_read_by d) s₀ cs now i events g.events l;
    guards = counted_on d (guard_read_by d) s₀ cs now i guards g.guards l;
  }

  so_far_end : length cs ≤ i → ◌≡◌ {A = Replayed} (record { broken = broken; events = events; guards = guards }) (run_told d q s₀ cs)
  unfolding first_break
  so_far_end l =
      ap (λ (b : Maybe ℕ). record { broken = b; events = events; guards = guards })
      (told_is broken (first_break d q none s₀ cs 0) (g.breaks ∙ ap (λ (xs : List ℕ). break_or was (first_break d q before now xs i)) (drop_of_length-le cs l) ∙ first_judged was holds i broken h none))
      ∙ ap₂ (λ (e k : ℕ). record { broken = break_told (first_break d q none s₀ cs 0); events = e; guards = k })
      (counted_end d (event_read_by d) s₀ cs now i events g.events l) (counted_end d (guard_read_by d) s₀ cs now i guards g.guards l)

-- the loop: `pair` has the state before and the state now, of n slots each
pub record Replaying (file piece : List ℕ) (p n : ℕ) (cs : List ℕ) (pair₀ : State) (i : ℕ) (pair : State) (broken : Maybe ℕ) (events guards : ℕ) : Type 0 where
  pub inside : i ≤ length cs
  pub size : length pair ≡ length pair₀
  pub so_far : (d : Design) → check file ≡ accepted d → SoFar d (property_of file piece d p) (drop n pair₀) cs (before_in (eqb i 0) n pair) (drop n pair) i broken events guards

pub replaying_start : (file piece : List ℕ) (p n : ℕ) (cs : List ℕ) (pair : State) → Replaying file piece p n cs pair 0 pair None 0 0
replaying_start file piece p n cs pair = record {
  inside = omega arith;
  size = refl;
  so_far = λ d e. record { breaks = refl; events = record { same = omega arith; few = omega arith }; guards = record { same = omega arith; few = omega arith } };
}

-- the counts are no more than the choices so far
pub replaying_few : (file piece : List ℕ) (p n : ℕ) (cs : List ℕ) (pair₀ : State) (i : ℕ) (pair : State) (broken : Maybe ℕ) (events guards : ℕ) → Replaying file piece p n cs pair₀ i pair broken events guards
    → Accepted file → (events ≤ i) × (guards ≤ i)
replaying_few file piece p n cs pair₀ i pair broken events guards g a =
    let t = read file a in
    let w = g.so_far t.tree t.is in
    (w.events.few, w.guards.few)

-- past the last choice
pub replaying_last : (file piece : List ℕ) (p n : ℕ) (cs : List ℕ) (pair₀ : State) (i : ℕ) (pair : State) (broken : Maybe ℕ) (events guards : ℕ) → Replaying file piece p n cs pair₀ i pair broken events guards
    → length cs ≤ i → Replaying file piece p n cs pair₀ (length cs) pair broken events guards
replaying_last file piece p n cs pair₀ i pair broken events guards g l =
    let k = g.inside in
    subst (λ (j : ℕ). Replaying file piece p n cs pair₀ j pair broken events guards) (let z : i ≡ length cs = omega arith in z) g

-- `broken` is the walk's first break with step i judged
module _ (file piece : List ℕ) (p n : ℕ) (cs : List ℕ) (pair₀ : State) (i : ℕ) (pair : State) (was : Maybe ℕ) (events guards : ℕ) (g : Replaying file piece p n cs pair₀ i pair was events guards)
    (broken : Maybe ℕ) (h : (d : Design) (w : Parts file d) → broken ≡ cond (is_some was || true_at d (property_of file piece d p) (before_in (eqb i 0) n pair) (drop n pair)) was (Some i)) where
  abbrev now : State
  now = drop n pair

  kept_break : (d : Design) (keep : Bool) → keep ≡ ltb last_state_property p → (s : State) (xs : List ℕ) (j : ℕ)
      → first_break d (property_of file piece d p) (some now) s xs j ≡ first_break d (property_of file piece d p) (some (kept_in keep n pair)) s xs j
  unfolding first_break
  kept_break d keep e s [] j = sym (ap (λ (t : Bool). cond t none (some j)) (kept_true file piece d p n pair keep e s))
  kept_break d keep e s (c ∷ xs) j = sym (ap (λ (t : Bool). cond t (first_break d (property_of file piece d p) (some s) (step d s c) xs (suc j)) (some j)) (kept_true file piece d p n pair keep e s))

  -- a choice: the state now is kept as the one before, where the property is judged on both, and the step out of it stands behind it
  pub replaying_on : i < length cs → length pair₀ ≡ n + n → (c : ℕ) → c ≡ get_or cs i 0 → (keep : Bool) → keep ≡ ltb last_state_property p
      → (pair' : State) (t : Tested) → length pair' ≡ length pair
      → ((d : Design) → check file ≡ accepted d → (pair' ≡ kept_in keep n pair ++ step d now c) × (t ≡ tested_by d now c))
      → (e k : ℕ) → e ≡ events + bit t.event → k ≡ guards + bit t.guard → Replaying file piece p n cs pair₀ (i + 1) pair' broken e k
  replaying_on l long c q keep kp pair' t m next e k u v = rw (add-one i) (record {
    inside = omega arith;
    size = m ∙ g.size;
    so_far = λ d a.
        let q' = property_of file piece d p in
        let s₀ = drop n pair₀ in
        let front : length (kept_in keep n pair) ≡ n = front_long n pair (g.size ∙ long) keep in
        let r = next d a in
        let s = step d now c in
        let second : drop n pair' ≡ s = ap (drop n) r.0 ∙ drop_at (kept_in keep n pair) s n front in
        let first : before_in (eqb (suc i) 0) n pair' ≡ some (kept_in keep n pair) = ap (λ (b : Bool). before_in b n pair') (ne_eqb (suc i) 0 (λ o. omega arith))
        ∙ ap some (ap (take n) r.0 ∙ take_at (kept_in keep n pair) s n front) in
        let read : e ≡ events + bit (event_read_by d now c) = u ∙ ap (λ (x : Tested). events + bit x.event) r.1 in
        let guarded : k ≡ guards + bit (guard_read_by d now c) = v ∙ ap (λ (x : Tested). guards + bit x.guard) r.1 in
        let w = subst (λ (j : ℕ). SoFar d q' s₀ cs (some now) (step d now j) (suc i) broken (events + bit (event_read_by d now j)) (guards + bit (guard_read_by d now j))) (sym q)
        (so_far_on d q' s₀ cs (before_in (eqb i 0) n pair) now i was events guards (g.so_far d a) broken (h d (whole file d a).parts) l) in
        rw first (rw second (rw read (rw guarded (record {
          breaks = w.breaks ∙ ap (break_or broken) (kept_break d keep kp s (drop (suc i) cs) (suc i));
          events = w.events;
          guards = w.guards;
        }))));
  })

  pub replaying_end : length cs ≤ i → (d : Design) → check file ≡ accepted d → ◌≡◌ {A = Replayed} (record { broken = broken; events = events; guards = guards }) (run_told d (property_of file piece d p) (drop n pair₀) cs)
  replaying_end l d e =
      so_far_end d (property_of file piece d p) (drop n pair₀) cs (before_in (eqb i 0) n pair) now i was events guards (g.so_far d e) broken (h d (whole file d e).parts) l
