-- The run: its loop stays with document 01's search.
use mathlib.Core.Path.{◌≡◌, refl, sym, ap, ap₂, ◌∙◌, subst}
use mathlib.Core.List.{List, []}
use Prim.Native.Nat.{ℕ, zero, suc, ◌+◌, ◌-◌, ◌/◌, ◌<◌, ◌≤◌}
use native.Mathlib.Omega.{arith}
use native.Mathlib.Nat.{le_refl}
use native.Mathlib.Numerals.{add-one}
use lib.IntN.{ℤ}
use lib.ListN.{length, get_or, get_or-replicate}
use lib.Seq.{ext_get_or}
use Rattle.clauses.specs.Meaning.{Within}
use Rattle.clauses.specs.Words.{clauses_of}
use Rattle.search.specs.Search.{Turn, up_to, Answer, SAT, UNSAT, SPENT, Outcome, solved}
use Rattle.search.specs.Answers.{declared_answer, declared_solved}
use Rattle.search.specs.Solve.{bit_of, values_from, values_left}
use Rattle.search.specs.AnyOrder.{Move}
use Rattle.search.specs.Memory.{value_of_byte, settings_of, unset_count, Starts, TrailAgrees, ReadyTrail, AfterTurn, Fresh, AllUnset, Kept, Ran}
use Rattle.search.proofs.Scans.{AllSet}
use Rattle.search.proofs.Counting.{count_none, ahead}
use Rattle.search.proofs.Sound.{Good, Ok, move_ok}
use Rattle.search.proofs.Values.{length_from, get_d_from}
use Rattle.search.proofs.Order.{Any, AnyAfter, Joins, joins_move, any_ends, any_spends}
use Rattle.search.proofs.Branching.{Onward, move_onward, byte_here, set_to, Latest, latest_set}
use Rattle.search.proofs.Reading.{starts_zero, within_words}
use Rattle.search.specs.declared.run.Step.{Step}
use Rattle.search.specs.declared.run.Step.TheVariants.{Goes, Tries, Sat as AllSat, Unsat as NoneLeft}
use Rattle.search.specs.declared.Answered.{Answered}
use Rattle.search.specs.declared.Answered.TheVariants.{Sat, Unsat, Spent}
use Rattle.search.specs.declared.Solved.{Solved}

bit_back : (x : ℕ) → x ≤ 1 → x ≡ bit_of (value_of_byte x)
bit_back zero l = refl
bit_back (suc zero) l = refl
bit_back (suc (suc x)) l = absurd (omega arith)

values_are : (n : ℕ) (vs tr : List ℕ) (t : ℕ) → TrailAgrees n vs tr t → AllSet n (settings_of vs tr t) → vs ≡ values_from (settings_of vs tr t) 1 n
values_are n vs tr t h a =
    let ss = settings_of vs tr t in
    let s = set_to n vs tr t h n (le_refl n) a in
    let ln = h.values in
    ext_get_or 0 vs (values_from ss 1 n) (h.values ∙ sym (length_from ss 1 n)) λ i l.
    bit_back (get_or vs i 0) (s.bits i (omega arith)) ∙ ap bit_of (sym (byte_here n vs tr t h i (omega arith))) ∙ sym (get_d_from ss 1 n i (omega arith))

-- the loop, after u tries
pub record Searching (n : ℕ) (ws : List ℤ) (b : ℕ) (vs tr : List ℕ) (t from low u : ℕ) : Type 0 where
  pub ready : ReadyTrail n ws vs tr t from low
  pub low_set : AllSet low (settings_of vs tr t)
  pub good : Good n (clauses_of ws) (settings_of vs tr t)
  pub within : u ≤ b
  pub joins : Joins n (clauses_of ws) (settings_of vs tr t) u

pub searching_start : (ws : List ℤ) (b : ℕ) (vs tr : List ℕ) → Fresh ws vs tr → AllUnset vs → Searching (length vs) ws b vs tr 0 0 0 0
searching_start ws b vs tr h e =
    record {
      ready = record {
        small = h.small;
        inside = h.inside;
        closes = h.closes;
        starts = starts_zero ws h.closes;
        shaped = record {
          values = refl;
          trail = h.trail;
          proper = tt;
          looks = λ v a c. sym (ap value_of_byte (ap (λ (x : List ℕ). get_or x (v - 1) 0) e ∙ get_or-replicate (length vs) (v - 1) 2 0 (omega arith)));
          count = (let l = count_none 1 (length vs) in let r : 0 + unset_count [] 1 (length vs) ≡ length vs = omega arith in r);
        };
        low_set = record { within = omega arith; bits = λ i l. absurd (omega arith) };
      };
      low_set = λ v a c. absurd (omega arith);
      good = tt;
      within = omega arith;
      joins = λ a r d. d;
    }

module _ {n : ℕ} {ws : List ℤ} {b : ℕ} {vs tr : List ℕ} {t from low u : ℕ} (h : Searching n ws b vs tr t from low u) where
  w : Within n (clauses_of ws)
  w = within_words n ws h.ready.inside

  -- of a move: its settings are good and nearer the end, and what it reaches is reached
  ok : {x : Turn} → Move n (clauses_of ws) (settings_of vs tr t) x → Ok n (clauses_of ws) (ahead n (settings_of vs tr t)) x
  ok m = move_ok n (clauses_of ws) (settings_of vs tr t) w h.good m

  reached : {x : Turn} → Move n (clauses_of ws) (settings_of vs tr t) x → (a : Answer) (r : ℕ) → AnyAfter n (clauses_of ws) u x a r → Any n (clauses_of ws) [] 0 a r
  reached m = joins_move n (clauses_of ws) (settings_of vs tr t) u h.joins m

  onward : {x : Turn} → Move n (clauses_of ws) (settings_of vs tr t) x → Onward low x
  onward m = move_onward n (clauses_of ws) low (settings_of vs tr t) h.good h.low_set m

  pub record Again (vs' tr' : List ℕ) (k next low' u' : ℕ) : Type 0 where
    pub searching : Searching n ws b vs' tr' k next low' u'
    pub less : ahead n (settings_of vs' tr' k) < ahead n (settings_of vs tr t)

  -- after a turn that came to r and left vs' and tr'
  module _ (r : Step) (vs' tr' : List ℕ) (s : AfterTurn (length vs) ws (settings_of vs tr t) r vs vs' tr') where
    stepped : {q : Step} → r ≡ q → AfterTurn n ws (settings_of vs tr t) q vs vs' tr'
    stepped {q} e =
        subst (λ (k : ℕ). AfterTurn k ws (settings_of vs tr t) q vs vs' tr') h.ready.shaped.values
        (subst (λ (x : Step). AfterTurn (length vs) ws (settings_of vs tr t) x vs vs' tr') e s)

    -- the loop's facts after it, where the scan reads on at next and 1, 2, .., low' are set
    on : {k next low' : ℕ} → Starts ws next → TrailAgrees n vs' tr' k → low' ≤ n → AllSet low' (settings_of vs' tr' k) → ReadyTrail n ws vs' tr' k next low'
    on {k} {next} {low'} s p l a = record {
      small = h.ready.small;
      inside = h.ready.inside;
      closes = h.ready.closes;
      starts = s;
      shaped = p;
      low_set = set_to n vs' tr' k p low' l a;
    }

    pub again_goes : {k next : ℕ} → r ≡ Goes k next → Again vs' tr' k next low u
    again_goes {k} {next} e =
        let x = stepped e in
        let o = ok x.0 in
        let a = onward x.0 in
        record {
          searching = record {
            ready = on x.2 x.1 (omega (arith, h.ready.low_set.within, h.ready.shaped.values)) a;
            low_set = a;
            good = o.0;
            within = h.within;
            joins = λ a r d. reached x.0 a r d;
          };
          less = o.1;
        }

    pub latest_try : {k : ℕ} → r ≡ Tries k → Latest n vs' tr' k
    latest_try {k} e = let x = stepped e in latest_set n vs' tr' k x.1 (onward x.0)

    pub again_tries : {k low' : ℕ} → r ≡ Tries k → low' ≡ get_or tr' (k - 1) 0 / 2 → u < b → Again vs' tr' k 0 low' (u + 1)
    again_tries {k} e v l =
        let x = stepped e in
        let o = ok x.0 in
        let a = latest_try e in
        rw (add-one u, v) (record {
          searching = record {
            ready = on (starts_zero ws h.ready.closes) x.1 a.high a.set;
            low_set = a.set;
            good = o.0;
            within = l;
            joins = λ a r d. reached x.0 a r d;
          };
          less = o.1;
        })

    pub ends_spent : {k : ℕ} → r ≡ Tries k → b ≤ u → Ran (solved n (clauses_of ws) (up_to b)) n (record { answer = Spent; tries = u }) vs'
    ends_spent {k} e l =
        let x = stepped e in
        let q : u ≡ b = omega (arith, h.within) in
        let j : Joins n (clauses_of ws) (settings_of vs' tr' k) (suc b) = subst (λ (y : ℕ). Joins n (clauses_of ws) (settings_of vs' tr' k) (suc y)) q (λ a r d. reached x.0 a r d) in
        let g = any_spends n (clauses_of ws) w b (settings_of vs' tr' k) (ok x.0).0 j in
        record {
          result = ap {B = Solved} (λ (y : ℕ). record { answer = Spent; tries = y }) q ∙ ap declared_solved (sym g);
          kept = subst (λ (o : Outcome). Kept n o.answer vs') (sym g) tt;
        }

    -- an answer within the budget
    ends_with : (a : Answer) → Any n (clauses_of ws) [] 0 a u → Kept n (solved n (clauses_of ws) (up_to b)).answer vs'
        → Ran (solved n (clauses_of ws) (up_to b)) n (record { answer = declared_answer a; tries = u }) vs'
    ends_with a d k =
        let c = any_ends n (clauses_of ws) w b d h.within in
        record { result = ap₂ {C = Solved} (λ (x : Answered) (y : ℕ). record { answer = x; tries = y }) (sym c.code) (sym c.tries); kept = k }

    pub ends_sat : r ≡ AllSat → Ran (solved n (clauses_of ws) (up_to b)) n (record { answer = Sat; tries = u }) vs'
    ends_sat e =
        let x = stepped e in
        let d = reached x.0 (SAT (settings_of vs tr t)) u (refl, refl) in
        let c = any_ends n (clauses_of ws) w b d h.within in
        ends_with (SAT (settings_of vs tr t)) d
        (kept (solved n (clauses_of ws) (up_to b)).answer (x.1 ∙ values_are n vs tr t h.ready.shaped (ok x.0).0 ∙ sym c.values))
      where
        kept : (a : Answer) → vs' ≡ values_left n a → Kept n a vs'
        kept (SAT ss) v = v
        kept UNSAT v = tt
        kept SPENT v = tt

    pub ends_unsat : r ≡ NoneLeft → Ran (solved n (clauses_of ws) (up_to b)) n (record { answer = Unsat; tries = u }) vs'
    ends_unsat e =
        let d = reached (stepped e) UNSAT u (refl, refl) in
        let c = any_ends n (clauses_of ws) w b d h.within in
        ends_with UNSAT d (kept (solved n (clauses_of ws) (up_to b)).answer c.code)
      where
        kept : (a : Answer) → declared_answer a ≡ Unsat → Kept n a vs'
        kept (SAT ss) e = absurd (let z : ◌≡◌ {A = ℕ} 0 1 = cc in omega arith)
        kept UNSAT e = tt
        kept SPENT e = tt
