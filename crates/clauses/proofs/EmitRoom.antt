-- Room for the clauses of a frame, and gates that were written as clauses that were put. Assumes nothing.
use Rattle.std.proofs.Common.{◌≡◌, ℕ, suc, ◌+◌, ◌≤◌, List, ◌∷◌, ◌++◌, length, ℤ, sym, ap, ◌∙◌, subst, ap₂, arith}
use Rattle.design.specs.Tree.{Design, movers}
use Rattle.design.specs.State.{Layout, layout}
use Rattle.design.specs.WellFormed.{WellFormed}
use Rattle.step.specs.Property.{Property}
use Rattle.clauses.specs.Literal.{Literal, Clause}
use Rattle.clauses.specs.Words.{clause_words, words}
use Rattle.clauses.specs.Gate.{gates_clauses}
use Rattle.clauses.specs.Circuit.{Built, Bits}
use Rattle.clauses.specs.Expression.{Slots}
use Rattle.clauses.specs.Action.{movers! }
use Rattle.clauses.specs.Formula.{variables_from, flat, pairs, all_ties, S, w, P, G, n, property!, step_property!, step!, state_at, property_at, flags_at, step_at, step_property_at, frame, property_clauses, step_property_in, step_clauses}
use Rattle.clauses.specs.Limits.{last_variable}
use Rattle.clauses.specs.Cost.{step_cost}
use Rattle.clauses.specs.Writing.{gate_words, variable_limit, word_limit, Puts, Emits}
use Rattle.clauses.proofs.Costs.{gates_counted}
use Rattle.clauses.proofs.Frames.{property_costs_at, step_costs_at, step_property_costs_at, property_next, P-is, G-is}
use Rattle.clauses.proofs.Runs.{state_variables}
use Rattle.clauses.proofs.SizeNumbers.{words_append as words-length}
use Rattle.clauses.proofs.Within.{frame_suc, last_past}
use Rattle.clauses.proofs.EmitBuilds.{emits_same}
use Rattle.clauses.proofs.EmitWords.{puts_then, puts_same, words_append}

module _ {xs ys : List ℤ} {cur c : ℕ} where
  -- what is put may rely on the words' number, as the claim does
  pub puts_under : (ws : List ℤ) → (cur + length ws ≤ word_limit → Puts ws xs ys cur c) → Puts ws xs ys cur c
  puts_under ws f = record { puts = λ h. (f h).puts h }

  -- clauses one after the other
  pub puts_clauses : (cs ds : List Clause) {zs : List ℤ} {c' : ℕ} → Puts (words cs) xs ys cur c → Puts (words ds) ys zs c c' → Puts (words (cs ++ ds)) xs zs cur c'
  puts_clauses cs ds p q = puts_same (sym (words_append cs ds)) (puts_then p q)

  -- gates that were written, where their variables are within the limit
  pub gates_puts : {A : Type 0} (n : ℕ) (b : Built A) {out : A} {v : ℕ} → n + length b.gates ≤ variable_limit → Emits n b xs ys cur out c v → Puts (words (gates_clauses b.gates)) xs ys cur c
  unfolding gate_words
  gates_puts n b h e = record { puts = λ l. let r = e.emits (record { numbers = h; words = l }) in record { written = r.written; cursor = r.cursor } }

words_lengths : (xs ys zs : List Clause) → length (words (xs ++ (ys ++ zs))) ≡ length (words xs) + (length (words ys) + length (words zs))
words_lengths xs ys zs = words-length xs (ys ++ zs) ∙ ap (λ (k : ℕ). length (words xs) + k) (words-length ys zs)

-- The variables of frame j are within the limit.
module _ (d : Design) (p : Property) where
  property_gates_lem : (v : ℕ) → length (property_at d p v).gates ≡ P d p
  property_gates_lem v = let c = property_costs_at d p v in omega (arith, gates_counted (property_at d p v).gates, c.ands, c.wides, P-is d p)

  -- the movers' gates, and property 2's behind them
  step_gates_lem : WellFormed d → (v : ℕ) (next : Slots) → length (step_at d p v).gates + length (step_property_at d p v next).gates ≡ G d p
  unfolding step_cost
  step_gates_lem wf v next =
      let c = step_costs_at d wf p v in
      let s = step_property_costs_at d p v next in
      omega (arith, gates_counted (step_at d p v).gates, gates_counted (step_property_at d p v next).gates, c.ands, c.wides, s.ands, s.wides, G-is d wf p)

  -- the property's clauses of frame j
  pub property_puts : (j var : ℕ) (s : Slots) {xs ys : List ℤ} {cur c : ℕ} {out : Literal} {u : ℕ} → n d p j ≤ last_variable → s ≡ state_at d (frame d p j) → var ≡ frame d p j + S d
      → Emits var (property! d p s var) xs ys cur out c u → Puts (words (property_clauses d p j)) xs ys cur c
  unfolding property_clauses property_at
  property_puts j var s low es ev e =
      let v = frame d p j in
      let q : property! d p s var ≡ property_at d p v = ap₂ (λ (x : Slots) (y : ℕ). property! d p x y) es ev in
      gates_puts var (property_at d p v) (omega (arith, property_gates_lem v, last_past d p j, ev)) (emits_same _ _ q e)

  -- the step's clauses out of frame j: the flags', the gates', property 2's, the ties'. The ties rely on the results.
  pub step_puts : (j flags after var : ℕ) (l : Layout) (s : Slots) (rs : List Slots) {x0 x1 x2 x3 x4 x5 : List ℤ} {c0 c1 c2 c3 c4 c5 u u' : ℕ} {out : Literal}
      → WellFormed d → n d p (suc j) ≤ last_variable → s ≡ state_at d (frame d p j) → layout d ≡ l → flags ≡ frame d p j + S d + P d p → after ≡ frame d p (suc j) → var ≡ flags + w d
      → Puts (clause_words (variables_from flags (w d))) x0 x1 c0 c1 → Puts (words (pairs (variables_from flags (w d)))) x1 x2 c1 c2
      → Emits var (movers! l s (movers d) var) x2 x3 c2 rs c3 u
      → Emits u (step_property! d p (state_at d (frame d p j)) (state_at d after) u) x3 x4 c3 out c4 u'
      → (rs ≡ (movers! l s (movers d) var).out → var + length (movers! l s (movers d) var).gates ≤ variable_limit → Puts (words (all_ties (variables_from flags (w d)) rs (variables_from after (S d)))) x4 x5 c4 c5)
      → Puts (words (step_clauses d p j)) x0 x5 c0 c5
  unfolding step_clauses flags_at step_at step! step_property_in step_property_at gate_words
  step_puts j flags after var l s rs {x0 = x0} {x2 = x2} {x3 = x3} {x4 = x4} {c0 = c0} {c2 = c2} {c3 = c3} {c4 = c4} {u = u} {u' = u'} {out = out} wf low es el ef ea ev any prs e e' ties =
      let v = frame d p j in
      let fs = flags_at d p v in
      let b = step_at d p v in
      let q = step_property_in d p j in
      let gs = gates_clauses b.gates in
      let qs = gates_clauses q.gates in
      let ts = all_ties fs b.out (flat (state_at d (frame d p (suc j)))) in
      let eq : flags ≡ (property_at d p v).next = omega (arith, property_next d p v) in
      let en : var ≡ (property_at d p v).next + w d = omega arith in
      let fl : variables_from flags (w d) ≡ fs = ap (λ (x : ℕ). variables_from x (w d)) eq in
      let same : movers! l s (movers d) var ≡ b = ap (λ (x : Layout). movers! x s (movers d) var) (sym el) ∙ ap₂ (λ (x : Slots) (y : ℕ). movers! (layout d) x (movers d) y) es en in
      let front : Puts (words (fs ∷ pairs fs)) x0 x2 c0 c2 = subst (λ (f : Bits). Puts (words (f ∷ pairs f)) x0 x2 c0 c2) fl (puts_then any prs) in
      let gates : Emits var b x2 x3 c2 rs c3 u = emits_same _ _ same e in
      let all = step_gates_lem wf v (state_at d (frame d p (suc j))) in
      let fits : var + length b.gates ≤ variable_limit = omega (arith, all, last_past d p (suc j), frame_suc d p j) in
      puts_under (words (step_clauses d p j)) λ h.
      let lw = words_lengths (fs ∷ pairs fs) gs (qs ++ ts) in
      let one = front.puts (omega (arith, lw)) in
      let two = gates.emits (record { numbers = fits; words = omega (arith, lw, one.cursor) }) in
      let also : step_property! d p (state_at d v) (state_at d after) u ≡ q = ap₂ (λ (x y : ℕ). step_property! d p (state_at d v) (state_at d x) y) ea two.next in
      let three : Emits u q x3 x4 c3 out c4 u' = emits_same _ _ also e' in
      let fits' : u + length q.gates ≤ variable_limit = omega (arith, two.counted, all, last_past d p (suc j), frame_suc d p j) in
      let bs : variables_from after (S d) ≡ flat (state_at d (frame d p (suc j))) = ap (λ (x : ℕ). variables_from x (S d)) ea ∙ sym (state_variables d (frame d p (suc j))) in
      let tied : all_ties (variables_from flags (w d)) rs (variables_from after (S d)) ≡ ts = ap₂ (λ (f : Bits) (r : List Slots). all_ties f r (variables_from after (S d))) fl two.result ∙ ap (all_ties fs b.out) bs in
      puts_clauses (fs ∷ pairs fs) (gs ++ (qs ++ ts)) front (puts_clauses gs (qs ++ ts) (gates_puts var b fits gates) (puts_clauses qs ts (gates_puts u q fits' three)
      (puts_same (ap words tied) (ties (two.result ∙ ap (λ (x : Built (List Slots)). x.out) (sym same)) (omega (arith, fits, ap (λ (x : Built (List Slots)). length x.gates) same))))))
