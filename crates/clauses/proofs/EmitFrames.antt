-- The state's variables of a frame, as the file and as the design name them; the ties of all movers. Assumes nothing.
use Rattle.std.proofs.Common.{◌≡◌, ℕ, zero, suc, ◌+◌, ◌-◌, ◌<◌, ◌≤◌, true, List, [], ◌∷◌, ◌++◌, map, length, get_or, take, drop, ℤ, sym, refl, ap, ◌∙◌, subst, ap₂, arith, length-drop, length-take-le, get_or-take, take_at, drop_at}
use lib.Seq.{take-append-le, drop-append-le}
use Rattle.design.specs.Tree.{Design, Mover, movers}
use Rattle.design.specs.State.{Layout, widths}
use Rattle.design.specs.WellFormed.{HasMark, MoversOk, WellFormed}
use Rattle.design.specs.Sections.{Parts}
use Rattle.design.proofs.Places.{read}
use Rattle.design.specs.Limits.{max_bits, pair_bits}
use Rattle.design.specs.declared.shape.Shape.{Shape}
use Rattle.design.proofs.Widths.{state_size, total_append, widths_are as widths-by-bytes}
use Rattle.clauses.specs.Literal.{positive}
use Rattle.clauses.specs.Words.{words}
use Rattle.clauses.specs.Circuit.{Bits}
use Rattle.clauses.specs.Expression.{Slots}
use Rattle.clauses.specs.Action.{movers! }
use Rattle.clauses.specs.Formula.{total, variables_from, slots_from, flat, ties, all_ties, S, state_at}
use Rattle.clauses.specs.Cost.{gates_in, mover_cost, movers_cost}
use Rattle.clauses.specs.Writing.{from_codes, variable_limit, Puts}
use Rattle.clauses.specs.FlatState.{widths_from, widths_in, cut, slots_of, read_slots, layout_of}
use Rattle.clauses.specs.Ready.{ShapedFile, result_from}
use Rattle.clauses.proofs.Costs.{movers_costs, gates_counted}
use Rattle.clauses.proofs.StateBits.{length_variables, variables_append, flat_slots}
use Rattle.clauses.proofs.Frames.{state_wide}
use Rattle.clauses.proofs.Runs.{S-is}
use Rattle.clauses.proofs.Results.{movers_out, result_from as first_mux}
use Rattle.clauses.proofs.EmitWords.{words_append}
use Rattle.clauses.proofs.EmitLists.{codes_length, drop_one, drop_none}
use Rattle.clauses.proofs.EmitStates.{cut_take}
use Rattle.clauses.proofs.EmitCells.{few_bits}
use Rattle.clauses.proofs.EmitSteps.{layout_is}
use Rattle.clauses.proofs.EmitClauses.{PutsLeft, puts_start, puts_on, puts_end, one_more, no_more, Along, along_start, along_on, along_less}

-- consecutive variables, cut into slots
pub cut_variables : (ws : List ℕ) (v : ℕ) → cut ws (variables_from v (total ws)) ≡ slots_from v ws
unfolding cut
cut_variables [] v = refl
cut_variables (w ∷ ws) v =
    let a = variables_from v w in
    let b = variables_from (v + w) (total ws) in
    ap (λ (z : Bits). take w z ∷ cut ws (drop w z)) (variables_append v w (total ws))
    ∙ ap₂ (λ (x y : Bits). x ∷ cut ws y) (take_at a b w (length_variables v w)) (drop_at a b w (length_variables v w))
    ∙ ap (λ (r : Slots). a ∷ r) (cut_variables ws (v + w))

-- slots after slots
cut_append : (ws us : List ℕ) (xs ys : Bits) → length xs ≡ total ws → cut (ws ++ us) (xs ++ ys) ≡ cut ws xs ++ cut us ys
unfolding cut
cut_append [] us [] ys e = refl
cut_append [] us (x ∷ xs) ys e = absurd (omega arith)
cut_append (w ∷ ws) us xs ys e =
    ap₂ (λ (x y : Bits). x ∷ cut (ws ++ us) y) (take-append-le w xs ys (omega arith)) (drop-append-le w xs ys (omega arith))
    ∙ ap (λ (r : Slots). take w xs ∷ r) (cut_append ws us (drop w xs) ys (omega (arith, length-drop w xs)))

module _ (file : List ℕ) (shape : Shape) where
  pub result_slots : (v : ℕ) → result_from file shape v ≡ slots_from v (widths_in file shape)
  unfolding result_from
  result_slots v = cut_variables (widths_in file shape) v

  pub result_flat : (v : ℕ) → flat (result_from file shape v) ≡ variables_from v (total (widths_in file shape))
  result_flat v = ap flat (result_slots v) ∙ flat_slots v (widths_in file shape)

module _ {file : List ℕ} {shape : Shape} (h : ShapedFile file shape) (d : Design) (w : Parts file d) where
  widths_are : widths_in file shape ≡ widths d
  widths_are = widths-by-bytes file d w shape.variables shape.matrices h.counts.variables h.counts.matrices

  pub bits_are : total (widths_in file shape) ≡ S d
  bits_are = sym h.bits.total ∙ h.bits.state d w

  -- a frame's state, from the literals of its variables
  pub state_is_lem : (codes : List ℕ) (v : ℕ) → length codes ≡ max_bits → take (S d) (from_codes codes) ≡ variables_from v (S d) → slots_of file shape codes ≡ state_at d v
  unfolding slots_of state_at
  state_is_lem codes v l e =
      let ws = widths_in file shape in
      cut_take ws (from_codes codes) (omega (arith, few_bits h, codes_length codes))
      ∙ ap (cut ws) (ap (λ (k : ℕ). take k (from_codes codes)) bits_are ∙ e ∙ ap (variables_from v) (sym bits_are))
      ∙ cut_variables ws v ∙ ap (slots_from v) widths_are

  -- the states of two frames, likewise
  two_states : (codes : List ℕ) (v u : ℕ) → length codes ≡ pair_bits → take (S d + S d) (from_codes codes) ≡ variables_from v (S d) ++ variables_from u (S d)
      → read_slots true file shape codes ≡ state_at d v ++ state_at d u
  unfolding state_at
  two_states codes v u l e =
      let ws = widths_in file shape in
      let both : total (ws ++ ws) ≡ S d + S d = total_append ws ws ∙ ap₂ ◌+◌ bits_are bits_are in
      let one : (x : ℕ) → cut ws (variables_from x (S d)) ≡ slots_from x (widths d) = (λ x. ap (λ (k : ℕ). cut ws (variables_from x k)) (sym bits_are) ∙ cut_variables ws x ∙ ap (slots_from x) widths_are) in
      cut_take (ws ++ ws) (from_codes codes) (omega (arith, total_append ws ws, few_bits h, codes_length codes))
      ∙ ap (cut (ws ++ ws)) (ap (λ (k : ℕ). take k (from_codes codes)) both ∙ e)
      ∙ cut_append ws ws (variables_from v (S d)) (variables_from u (S d)) (length_variables v (S d) ∙ sym bits_are) ∙ ap₂ ◌++◌ (one v) (one u)

  pub states_are : (codes : List ℕ) (v u n : ℕ) → n ≡ shape.bits → length codes ≡ pair_bits
      → (v + n ≤ variable_limit → u + n ≤ variable_limit → take (n + n) (from_codes codes) ≡ variables_from v n ++ variables_from u n)
      → v + S d ≤ variable_limit → u + S d ≤ variable_limit → read_slots true file shape codes ≡ state_at d v ++ state_at d u
  states_are codes v u n q l f a b =
      let s : n ≡ S d = q ∙ h.bits.state d w in
      two_states codes v u l (subst (λ (k : ℕ). take (k + k) (from_codes codes) ≡ variables_from v k ++ variables_from u k) s (f (omega arith) (omega arith)))

  pub result_bits : (v : ℕ) → flat (result_from file shape v) ≡ variables_from v (S d)
  result_bits v = result_flat file shape v ∙ ap (variables_from v) bits_are

-- The ties of all movers, a mover at a time. `R` names a result by its first variable.
pub record Tied (f all b n : ℕ) (firsts : List ℕ) (xs₀ : List ℤ) (cur₀ : ℕ) (xs : List ℤ) (cur x i : ℕ) : Type 0 where
  pub along : Along f all x i
  pub left : f + all ≤ variable_limit → b + n ≤ variable_limit → ((k : ℕ) → k < all → get_or firsts k 0 + n ≤ variable_limit) → (R : ℕ → Slots) → ((v : ℕ) → flat (R v) ≡ variables_from v n)
      → PutsLeft (words (all_ties (variables_from f all) (map R (take all firsts)) (variables_from b n))) xs₀ cur₀ (words (all_ties (variables_from x (all - i)) (map R (drop i (take all firsts))) (variables_from b n))) xs cur

module _ (f all b n : ℕ) (firsts : List ℕ) (xs₀ : List ℤ) (cur₀ : ℕ) where
  abbrev whole : (ℕ → Slots) → List ℤ
  whole R = words (all_ties (variables_from f all) (map R (take all firsts)) (variables_from b n))

  pub tied_start : Tied f all b n firsts xs₀ cur₀ xs₀ cur₀ f 0
  tied_start = record {
    along = along_start f all;
    left = λ h g k R e.
        subst (λ (t : List ℤ). PutsLeft (whole R) xs₀ cur₀ t xs₀ cur₀)
        (ap₂ (λ (j : ℕ) (l : List ℕ). words (all_ties (variables_from f j) (map R l) (variables_from b n))) (let q : all ≡ all - 0 = omega arith in q) (sym (drop_none (take all firsts))))
        (puts_start (whole R) xs₀ cur₀);
  }

  pub tied_on : {xs : List ℤ} {cur x i : ℕ} → i < all → all ≤ length firsts → Tied f all b n firsts xs₀ cur₀ xs cur x i → (y : ℕ) → (x < variable_limit → y ≡ x + 1)
      → {ys : List ℤ} {c : ℕ} → (x + 1 ≤ variable_limit → get_or firsts i 0 + n ≤ variable_limit → b + n ≤ variable_limit → Puts (words (ties (positive x) (variables_from (get_or firsts i 0) n) (variables_from b n))) xs ys cur c)
      → Tied f all b n firsts xs₀ cur₀ ys c y (i + 1)
  tied_on {xs} {cur} {x} {i} l few z y ey {ys} {c} p = record {
    along = along_on y l z.along ey;
    left = λ h g k R e.
        let bx = along_less l h z.along in
        let v = get_or firsts i 0 in
        let B = variables_from b n in
        let j = all - i - 1 in
        let m : all - i - 1 ≡ all - (i + 1) = omega arith in
        let vs = drop (i + 1) (take all firsts) in
        let rest = all_ties (variables_from (x + 1) j) (map R vs) B in
        let one = words (ties (positive x) (variables_from v n) B) in
        let cons : drop i (take all firsts) ≡ v ∷ vs = drop_one (take all firsts) i (omega (arith, length-take-le all firsts few)) ∙ ap (λ (t : ℕ). t ∷ vs) (get_or-take all firsts i 0 l) in
        let e1 : words (all_ties (variables_from x (all - i)) (map R (drop i (take all firsts))) B) ≡ one ++ words rest =
        ap₂ (λ (s : Bits) (t : List ℕ). words (all_ties s (map R t) B)) (one_more x (all - i) (omega arith)) cons
        ∙ words_append (ties (positive x) (flat (R v)) B) rest ∙ ap (λ (s : Bits). words (ties (positive x) s B) ++ words rest) (e v) in
        let q = puts_on one (words rest) e1 (z.left h g k R e) (p (omega arith) (k i l) g) in
        subst (λ (t : Bits). PutsLeft (whole R) xs₀ cur₀ (words (all_ties t (map R vs) B)) ys c) (ap₂ variables_from (sym (ey bx)) m) q;
  }

  pub tied_end : {xs : List ℤ} {cur x i : ℕ} → all ≤ i → Tied f all b n firsts xs₀ cur₀ xs cur x i → f + all ≤ variable_limit → b + n ≤ variable_limit
      → ((k : ℕ) → k < all → get_or firsts k 0 + n ≤ variable_limit) → (R : ℕ → Slots) → ((v : ℕ) → flat (R v) ≡ variables_from v n) → Puts (whole R) xs₀ xs cur₀ cur
  tied_end {x = x} {i = i} l z h g k R e = puts_end (ap (λ (s : Bits). words (all_ties s (map R (drop i (take all firsts))) (variables_from b n))) (no_more x (all - i) (omega arith))) (z.left h g k R e)

-- The variables of a mover's result are gates of the step.
last_mux : (bits : ℕ) (ms : List Mover) (c n : ℕ) → c < length ms → first_mux bits ms c n + bits ≤ n + gates_in (movers_cost bits ms)
unfolding movers_cost mover_cost
last_mux bits [] c n h = absurd (omega arith)
last_mux bits (m ∷ ms) zero n h = omega arith
last_mux bits (m ∷ ms) (suc c) n h = omega (arith, last_mux bits ms c (n + gates_in (mover_cost bits m)) (omega arith))

same_first : (v u n : ℕ) → 0 < n → variables_from v n ≡ variables_from u n → v ≡ u
same_first v u zero h e = absurd (omega arith)
same_first v u (suc n) h e = cc

map_at : (R : ℕ → Slots) (l : List ℕ) (c : ℕ) → c < length l → get_or (map R l) c [] ≡ R (get_or l c 0)
map_at R [] c h = absurd (omega arith)
map_at R (x ∷ l) zero h = refl
map_at R (x ∷ l) (suc c) h = map_at R l c (omega arith)

module _ {file : List ℕ} {shape : Shape} (h : ShapedFile file shape) (d : Design) (w : Parts file d) (wf : WellFormed d) where
  some_bits : 0 < S d
  some_bits = omega (arith, bits_are h d w, state_size file shape.variables shape.matrices (total (widths_from file 0 shape.variables)) refl, (read file h.accepted).all.matrix, h.counts.matrices)

  pub firsts_within : (v : ℕ) (s : Slots) (n all : ℕ) (firsts : List ℕ) → s ≡ state_at d v → all ≡ length (movers d) → all ≤ length firsts
      → map (result_from file shape) (take all firsts) ≡ (movers! (layout_of shape) s (movers d) n).out → n + length (movers! (layout_of shape) s (movers d) n).gates ≤ variable_limit
      → (k : ℕ) → k < all → get_or firsts k 0 + S d ≤ variable_limit
  firsts_within v s n all firsts es ea few out room k l =
      let ws = widths d in
      let L = layout_is h d w in
      let wide : map length s ≡ ws = ap (map length) es ∙ state_wide d v in
      let b = movers! (layout_of shape) s (movers d) n in
      let c = subst (λ (y : Layout). MoversOk ws y (movers d)) L wf.movers in
      let mark = subst (HasMark ws) L wf.mark in
      let costs = movers_costs ws (layout_of shape) mark s wide (movers d) n c in
      let one : flat (get_or b.out k []) ≡ variables_from (first_mux (total ws) (movers d) k n) (S d) = movers_out ws (layout_of shape) mark s wide (movers d) k n (omega arith) c ∙ ap (variables_from (first_mux (total ws) (movers d) k n)) (S-is d) in
      let two : flat (get_or b.out k []) ≡ variables_from (get_or firsts k 0) (S d) =
      ap (λ (o : List Slots). flat (get_or o k [])) (sym out) ∙ ap flat (map_at (result_from file shape) (take all firsts) k (omega (arith, length-take-le all firsts few)) ∙ ap (result_from file shape) (get_or-take all firsts k 0 l))
      ∙ result_bits h d w (get_or firsts k 0) in
      let q = same_first (get_or firsts k 0) (first_mux (total ws) (movers d) k n) (S d) some_bits (sym two ∙ one) in
      omega (arith, last_mux (total ws) (movers d) k n (omega arith), gates_counted b.gates, costs.ands, costs.wides, S-is d)
