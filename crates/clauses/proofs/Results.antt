-- A mover ends in S muxes, so the bits of its result are S variables one after the other.
use Rattle.std.proofs.Common.{◌≡◌, ℕ, zero, suc, ◌+◌, ◌<◌, List, [], ◌∷◌, ◌++◌, map, length, get_or, sym, refl, ap, ◌∙◌, ap₂, arith}
use Rattle.design.specs.Tree.{Mover}
use Rattle.design.specs.State.{Layout}
use Rattle.design.specs.WellFormed.{HasMark, MoverOk, MoversOk}
use Rattle.clauses.specs.Literal.{Literal, positive}
use Rattle.clauses.specs.Circuit.{Bits, give, ◌>>=◌, mux! }
use Rattle.clauses.specs.Expression.{Slots}
use Rattle.clauses.specs.Action.{mux_bits!, muxes!, enable!, effect!, mover!, movers! }
use Rattle.clauses.specs.Formula.{total, variables_from, flat}
use Rattle.clauses.specs.Cost.{gates_in, enable_cost, effect_cost, mover_cost}
use Rattle.clauses.proofs.Actions.{head_eq, tail_eq}
use Rattle.clauses.proofs.Costs.{mux_bits_costs, enable_costs, effect_costs, mover_costs}
use Rattle.clauses.proofs.StateBits.{variables_append}

mux_bits_out : (w : ℕ) (c : Literal) (xs ys : Bits) (n : ℕ) → length xs ≡ w → length ys ≡ w → (mux_bits! c xs ys n).out ≡ variables_from n w
unfolding mux_bits! mux! give ◌>>=◌
mux_bits_out zero c [] ys n p q = refl
mux_bits_out zero c (x ∷ xs) ys n p q = absurd (omega arith)
mux_bits_out (suc w) c [] ys n p q = absurd (omega arith)
mux_bits_out (suc w) c (x ∷ xs) [] n p q = absurd (omega arith)
mux_bits_out (suc w) c (x ∷ xs) (y ∷ ys) n p q = ap (λ l. positive n ∷ l) (mux_bits_out w c xs ys (suc n) (omega arith) (omega arith))

pub muxes_out : (ws : List ℕ) (c : Literal) (s u : Slots) (n : ℕ) → map length s ≡ ws → map length u ≡ ws → flat (muxes! c s u n).out ≡ variables_from n (total ws)
unfolding muxes! give ◌>>=◌
muxes_out [] c [] u n p q = refl
muxes_out [] c (x ∷ xs) u n p q = absurd (omega (arith, ap length p))
muxes_out (w ∷ ws) c [] u n p q = absurd (omega (arith, ap length p))
muxes_out (w ∷ ws) c (x ∷ xs) [] n p q = absurd (omega (arith, ap length q))
muxes_out (w ∷ ws) c (x ∷ xs) (y ∷ ys) n p q =
    let k : (mux_bits! c x y n).next ≡ n + w = omega (arith, (mux_bits_costs w c x y n (head_eq p) (head_eq q)).next) in
    ap₂ ◌++◌ (mux_bits_out w c x y n (head_eq p) (head_eq q)) (muxes_out ws c xs ys (mux_bits! c x y n).next (tail_eq p) (tail_eq q) ∙ ap (λ v. variables_from v (total ws)) k)
    ∙ sym (variables_append n w (total ws))

-- where the muxes of a mover start that is built from variable n on, and those of mover c of a list
abbrev pub muxes_of : ℕ → Mover → ℕ → ℕ
muxes_of bits m n = n + gates_in (enable_cost m) + gates_in (effect_cost bits m)

abbrev pub result_from : ℕ → List Mover → ℕ → ℕ → ℕ
result_from bits [] c n = n
result_from bits (m ∷ ms) zero n = muxes_of bits m n
result_from bits (m ∷ ms) (suc c) n = result_from bits ms c (n + gates_in (mover_cost bits m))

module _ (ws : List ℕ) (l : Layout) (mark : HasMark ws l) (s : Slots) (f : map length s ≡ ws) where
  pub mover_out : (m : Mover) (n : ℕ) → MoverOk ws l m → flat (mover! l s m n).out ≡ variables_from (muxes_of (total ws) m n) (total ws)
  unfolding mover! ◌>>=◌
  mover_out m n k =
      let e = enable! l s m n in
      let r = effect! l s m e.next in
      let c = effect_costs ws l mark s f m e.next k in
      muxes_out ws e.out r.out s r.next c.shape f
      ∙ ap (λ v. variables_from v (total ws)) (let q : r.next ≡ muxes_of (total ws) m n = omega (arith, c.next, (enable_costs ws l s m n).next) in q)

  pub movers_out : (ms : List Mover) (c n : ℕ) → c < length ms → MoversOk ws l ms
      → flat (get_or (movers! l s ms n).out c []) ≡ variables_from (result_from (total ws) ms c n) (total ws)
  unfolding movers! give ◌>>=◌
  movers_out [] c n h k = absurd (omega arith)
  movers_out (m ∷ ms) zero n h k = mover_out m n k.0
  movers_out (m ∷ ms) (suc c) n h k =
      movers_out ms c (mover! l s m n).next (omega arith) k.1
      ∙ ap (λ v. variables_from (result_from (total ws) ms c v) (total ws)) (mover_costs ws l mark s f m n k.0).next
