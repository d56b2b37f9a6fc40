-- Gates of the cells of an accepted file, over the bytes.
use Rattle.std.proofs.Common.{◌≡◌, ℕ, ◌+◌, ◌-◌, ◌*◌, ◌<◌, ◌≤◌, Bool, true, false, List, [], ◌∷◌, length, get_or, sym, refl, ap, ◌∙◌, subst, arith}
use Rattle.design.specs.Tree.{Stmts, Design, cell}
use Rattle.design.specs.Limits.{max_bytes, tail_bytes, max_variables, max_matrices, max_depth, max_nest, event_places}
use Rattle.design.specs.Reading.{Read, got}
use Rattle.design.specs.Expression.{Names, with_later, bool_expr}
use Rattle.design.specs.Action.{list}
use Rattle.design.specs.DesignFile.{Entry, normal, invalid, c_matrix, c_event, c_kind, c_guard, c_middle, c_past, events}
use Rattle.design.specs.Check.{version, has_constraint, items_end, constraint_offset, names, names_of, matrices_offset, cells_offset, cell_count, invariant_offset, event_in}
use Rattle.design.specs.declared.shape.Shape.{Shape}
use Rattle.design.specs.Sections.{Parts, Cells, CellRead, NormalRead, Standing, CellFields}
use Rattle.design.specs.Places.{Indexed}
use Rattle.design.proofs.Positions.{cell_reads, constraint_none}
use Rattle.design.proofs.Places.{Read as Tree, read, cell_fields}
use Rattle.step.specs.Piece.{no_piece, piece_right}
use Rattle.step.specs.Ready.{expression_text}
use Rattle.step.specs.Property.{property_of}
use Rattle.step.proofs.Pieces as pieces
use Rattle.step.specs.Accepted.{is_read}
use Rattle.design.specs.Sections.{NormalCell}
use Rattle.design.proofs.Indexed as indexed
use Rattle.clauses.specs.Cost.{Cost, cost, add_costs, bool_cost, statements_cost, status_and_event_cost, enable_cost, effect_cost, mover_cost, property_cost, step_property_cost}
use Rattle.clauses.specs.FrameSizes.{gates_at, both, more, list_gates, entry_cost, entries_cost, HasGates, FewGates, CellHere, PlaceCounted, CellCounted, no_gates}
use Rattle.clauses.specs.Ready.{ShapedFile, Ready}
use Rattle.clauses.specs.Limits.{text_gates, most_gates}
use Rattle.clauses.specs.declared.cost.GatesAt.{GatesAt}
use Rattle.clauses.proofs.Bounds.{bounded}
use Rattle.clauses.proofs.FrameCounts.{entries_few, property_cells, property_expression, property_none, step_property_none, step_property_cost_lem}
use Rattle.clauses.proofs.TextGates.{Few, bool_few}

-- the gates of what is known to be read
known_gates : {A : Type 0} (f : A → Cost) (x : Read A) (a : A) (n : ℕ) (r : GatesAt) → x ≡ got a n → r ≡ gates_at f x → HasGates r (f a)
known_gates f x a n r e q =
    let z = q ∙ ap (gates_at f) e in
    record { ands = ap (λ (y : GatesAt). y.ands) z; wides = ap (λ (y : GatesAt). y.wides) z }

-- what has no gates, and what has those of another part and so many ands more
pub none_gates : (r : GatesAt) (n : ℕ) → r ≡ no_gates n → (r.ands ≡ 0) × (r.wides ≡ 0) × (r.next ≡ n)
none_gates r n e = (ap (λ (z : GatesAt). z.ands) e, ap (λ (z : GatesAt). z.wides) e, ap (λ (z : GatesAt). z.next) e)

pub more_gates : (x e r : GatesAt) (n k : ℕ) → e ≡ no_gates n → r ≡ both x e k 0 → (r.ands ≡ x.ands + k) × (r.wides ≡ x.wides) × (r.next ≡ n)
more_gates x e r n k p q =
    let z = none_gates e n p in
    (omega (arith, z.0, ap (λ (y : GatesAt). y.ands) q), omega (arith, z.1, ap (λ (y : GatesAt). y.wides) q), ap (λ (y : GatesAt). y.next) q ∙ z.2)

pub few_gates : (r : GatesAt) → Few r → FewGates most_gates r
few_gates r f = record { ands = omega (arith, f.ands); wides = omega (arith, f.wides) }

pub none_few : (r : GatesAt) (n : ℕ) → r ≡ no_gates n → FewGates most_gates r
none_few r n e = let z = none_gates r n e in record { ands = omega (arith, z.0); wides = omega (arith, z.1) }

none_has : (r : GatesAt) (n : ℕ) → r ≡ no_gates n → {k : Cost} → k ≡ cost 0 0 → HasGates r k
none_has r n e q = let z = none_gates r n e in subst (HasGates r) (sym q) (record { ands = z.0; wides = z.1 })

-- an and more, which a property ends in
one_more : (x r : GatesAt) (k : Cost) → r ≡ more x 1 0 → HasGates x k → HasGates r (add_costs k (cost 1 0))
one_more x r k e g = record { ands = omega (arith, ap (λ (z : GatesAt). z.ands) e, g.ands); wides = omega (arith, ap (λ (z : GatesAt). z.wides) e, g.wides) }

few_more : (x r : GatesAt) → Few x → r ≡ more x 1 0 → FewGates most_gates r
few_more x r f e = record { ands = omega (arith, f.ands, ap (λ (z : GatesAt). z.ands) e); wides = omega (arith, f.wides, ap (λ (z : GatesAt). z.wides) e) }

pub property_without : (file piece : List ℕ) (p : ℕ) → (p ≡ 0 → ⊥) → (p ≡ 1 → ⊥) → (r : GatesAt) → r ≡ no_gates 0 → FewGates most_gates r × ((d : Design) → HasGates r (property_cost d (property_of file piece d p)))
property_without file piece p z o r e = (none_few r 0 e, λ d. none_has r 0 e (property_none file piece d p z o))

-- what is known of an accepted file with its shape
module _ {file : List ℕ} {shape : Shape} (h : ShapedFile file shape) where
  pub sizes : (16 ≤ length file) × (length file ≤ max_bytes) × (shape.matrices ≤ max_matrices) × (shape.variables ≤ max_variables)
  sizes = indexed.sizes file h.accepted shape h.counts

  pub kinds : 3 * shape.variables ≤ length file
  kinds = indexed.kinds file h.accepted shape h.counts

  pub tail : tail_bytes (version file) ≤ length file
  tail = indexed.tail_inside file h.accepted

  -- the gates of property 2 in a step
  abbrev StepGates : ℕ → GatesAt → Type 0
  StepGates p r = FewGates most_gates r × ((d : Design) → Parts file d → (piece : List ℕ) → HasGates r (step_property_cost (property_of file piece d p)))

  pub no_step_property : (p : ℕ) → p < 2 → (r : GatesAt) → r ≡ no_gates 0 → StepGates p r
  no_step_property p l r e = (none_few r 0 e, λ d w piece. none_has r 0 e (step_property_none file piece d p l))

  pub no_constraint : has_constraint file ≡ false → (p : ℕ) → 2 ≤ p → (x r : GatesAt) → x ≡ no_gates 0 → r ≡ more x 1 0 → StepGates p r
  unfolding bool_cost
  no_constraint z p l x r e q = (
    let n = none_gates x 0 e in record { ands = omega (arith, n.0, ap (λ (y : GatesAt). y.ands) q); wides = omega (arith, n.1, ap (λ (y : GatesAt). y.wides) q) },
    λ d w piece. subst (HasGates r) (sym (step_property_cost_lem file piece d p l)) (one_more x r _ q (none_has x 0 e (ap (bool_cost false) (constraint_none file d w z)))),
  )

  module _ (c : has_constraint file ≡ true) (at end : ℕ) (a : at ≡ constraint_offset file) (b : end ≡ items_end file) where
    pub constraint_reads : is_read (bool_expr file (with_later true (names_of file shape)) end max_depth at) ≡ true
    constraint_reads = ap is_read (indexed.constraint_some file h.accepted shape h.counts at end a b c).1

    module _ (x : GatesAt) (e : x ≡ gates_at (bool_cost false) (bool_expr file (with_later true (names_of file shape)) end max_depth at)) where
      constraint_some : Few x
      constraint_some = bool_few file _ end (omega (arith, sizes.1)) false max_depth at x e

      pub constraint_few : FewGates most_gates x
      constraint_few = few_gates x constraint_some

      pub constraint_gates : (p : ℕ) → 2 ≤ p → (r : GatesAt) → r ≡ more x 1 0 → StepGates p r
      constraint_gates p l r q = (
        few_more x r constraint_some q,
        λ d w piece. subst (HasGates r) (sym (step_property_cost_lem file piece d p l))
            (one_more x r _ q (known_gates (bool_cost false) _ _ _ x (indexed.constraint_got file h.accepted shape h.counts at end a b d w c) e)),
      )

pub tables : {file table : List ℕ} {shape : Shape} → Ready file table shape → Indexed file table shape
tables h = record { accepted = h.shaped.accepted; events = h.events; shaped = h.shaped.counts }

module _ (file table : List ℕ) (H : Shape) (h : Ready file table H) where
  abbrev N : Names
  N = names_of file H

  -- event e of matrix m
  module _ (m e : ℕ) (a : m < H.matrices) (b : e < events file (matrices_offset file) m) where
    abbrev place : ℕ
    place = get_or table (16 * m + e) 0

    pub event_slot : 16 * m + e < event_places
    event_slot = indexed.event_slot file table H (tables h) m e a b

    pub event_inside : place + 1 + get_or file place 0 ≤ items_end file
    event_inside = indexed.event_inside file table H (tables h) m e a b

    module _ (k : ℕ) (q : k ≡ get_or file place 0) where
      past_is : place + 1 + k ≡ place + 1 + get_or file place 0
      past_is = ap (λ (x : ℕ). place + 1 + x) q

      pub event_reads : is_read (bool_expr file N (place + 1 + k) max_depth (place + 1)) ≡ true
      event_reads = ap is_read (indexed.event_some file table H (tables h) m e a b (place + 1 + k) (place + 1) past_is refl).1

      pub event_gates : (r : GatesAt) → r ≡ gates_at (bool_cost false) (bool_expr file N (place + 1 + k) max_depth (place + 1)) → FewGates text_gates r × ((d : Design) (w : Parts file d) → HasGates r (bool_cost false (event_in w.rows m e)))
      event_gates r z =
          let f = bool_few file N (place + 1 + k) (omega (arith, past_is, event_inside, (sizes h.shaped).1)) false max_depth (place + 1) r z in (
            record { ands = f.ands; wides = f.wides },
            λ d w. known_gates (bool_cost false) _ _ _ r (indexed.event_got file table H (tables h) m e a b d w (place + 1 + k) (place + 1) past_is refl) z,
          )

  -- status and event of the cell at p
  module _ (p m e : ℕ) (a : m ≡ c_matrix file p) (b : e ≡ c_event file p) where
    pub place_range : CellFields file p → (m < H.matrices) × (e < events file (matrices_offset file) m)
    place_range = indexed.cell_names file table H (tables h) p m e a b

    pub place_gates : (x r : GatesAt) → ((d : Design) (w : Parts file d) → HasGates x (bool_cost false (event_in w.rows m e)))
        → r.ands ≡ x.ands + 17 → r.wides ≡ x.wides + 16 → PlaceCounted file p r
    place_gates x r k u v d w =
        let s = subst (λ (i : ℕ). HasGates x (bool_cost false (event_in w.rows i (c_event file p)))) a (subst (λ (j : ℕ). HasGates x (bool_cost false (event_in w.rows m j))) b (k d w)) in
        record { ands = omega (arith, s.ands); wides = omega (arith, s.wides) }

  -- the property: the expression of the piece or of the file, the invalid cells, or none here
  module _ (piece : List ℕ) (p : ℕ) (right : piece_right file piece p ≡ true) (z : p ≡ 0) (text : List ℕ) (e : text ≡ expression_text file piece) where
    right_0 : piece_right file piece 0 ≡ true
    right_0 = ap (piece_right file piece) (sym z) ∙ right

    pub expression_short : length text ≤ max_bytes
    expression_short = pieces.short file piece h.shaped.accepted right_0 H h.shaped.counts text e

    pub expression_reads : is_read (bool_expr text N (length text) max_depth 0) ≡ true
    expression_reads = pieces.expression_reads file piece h.shaped.accepted right_0 H h.shaped.counts text e

    module _ (x : GatesAt) (k : x ≡ gates_at (bool_cost false) (bool_expr text N (length text) max_depth 0)) where
      expression_some : Few x
      expression_some = bool_few text N (length text) expression_short false max_depth 0 x k

      pub expression_few : FewGates most_gates x
      expression_few = few_gates x expression_some

      pub expression_gates : (r : GatesAt) → r ≡ more x 1 0 → FewGates most_gates r × ((d : Design) → Parts file d → HasGates r (property_cost d (property_of file piece d p)))
      expression_gates r q = (
        few_more x r expression_some q,
        λ d w. subst (HasGates r) (sym (property_expression file d w H.bits (h.shaped.bits.state d w) piece p z))
            (one_more x r _ q (known_gates (bool_cost false) _ _ _ x (pieces.expression_got file piece h.shaped.accepted right_0 H h.shaped.counts text e d w) k)),
      )

  pub property_gates_lem : ((i : ℕ) → get_or file i 0 < 256) → (piece : List ℕ) (p : ℕ) → piece_right file piece p ≡ true → p ≡ 1 → (x r : GatesAt)
      → ((d : Design) (w : Parts file d) → HasGates x (entries_cost H.bits true w.entries)) → r ≡ more x 1 0
      → FewGates most_gates r × ((d : Design) → Parts file d → HasGates r (property_cost d (property_of file piece d p)))
  property_gates_lem bytes piece p right z x r k q =
      let all : (d : Design) → Parts file d → HasGates r (property_cost d (property_of file piece d p))
      = λ d w. subst (HasGates r) (sym (property_cells file d w H.bits (h.shaped.bits.state d w) piece p z)) (one_more x r _ q (k d w)) in
      let t = read file h.shaped.accepted in
      let g = all t.tree t.all.parts in
      let b = bounded file piece bytes t.tree t.is p right in
      (record { ands = omega (arith, g.ands, b.gates); wides = omega (arith, g.wides, b.gates) }, all)

  -- a normal cell
  module _ (p : ℕ) (x : NormalCell file p) where
    pub normal_fields : CellFields file p
    normal_fields = indexed.normal_fields file table H (tables h) p x

    module _ (n : ℕ) (q : n ≡ c_guard file p) where
      pub guard_inside : p + 8 + n ≤ items_end file
      guard_inside = let f = normal_fields.past in omega arith

      pub guard_none : n ≡ 0 → (r : GatesAt) → r.ands ≡ 0 → r.wides ≡ 0 → HasGates r (bool_cost false x.cell.guard)
      unfolding bool_cost
      guard_none z r u v =
          let g = ap (bool_cost false) (indexed.guard_none file table H (tables h) p x (sym q ∙ z)) in
          record { ands = u ∙ sym (ap (λ (k : Cost). k.ands) g); wides = v ∙ sym (ap (λ (k : Cost). k.wides) g) }

      module _ (z : n ≡ 0 → ⊥) where
        pub guard_reads : is_read (bool_expr file N (p + 8 + n) max_depth (p + 8)) ≡ true
        guard_reads = ap is_read (indexed.guard_got file table H (tables h) p x n q z)

        pub guard_gates : (r : GatesAt) → r ≡ gates_at (bool_cost false) (bool_expr file N (p + 8 + n) max_depth (p + 8)) → HasGates r (bool_cost false x.cell.guard)
        guard_gates r k = known_gates (bool_cost false) _ _ _ r (indexed.guard_got file table H (tables h) p x n q z) k

    module _ (m n : ℕ) (a : m ≡ c_middle file p) (b : n ≡ c_past file p) where
      pub action_reads : is_read (list file N n max_nest m) ≡ true
      action_reads = ap is_read (indexed.action_got file table H (tables h) p x m n a b)

      -- enable, the action, and the muxes
      pub normal_gates : (e g s t r : GatesAt) → PlaceCounted file p e
          → HasGates g (bool_cost false x.cell.guard) → s ≡ list_gates H.bits (list file N n max_nest m) → t ≡ both e g 1 0 → r ≡ both t s 0 H.bits → HasGates r (mover_cost H.bits (cell x.cell))
      unfolding mover_cost enable_cost effect_cost
      normal_gates e g s t r f k q u v =
          let is : NormalRead file (items_end file) (names file) (matrices_offset file) (event_in x.parts.rows) p x.cell = x.stands.1.entry.1 in
          let ev = ap status_and_event_cost is.event in
          let i = f x.tree x.parts in
          let j = known_gates (λ (y : Stmts). statements_cost y H.bits) _ _ _ s (indexed.action_got file table H (tables h) p x m n a b) q in
          record {
            ands = omega (arith, ap (λ (y : Cost). y.ands) ev, i.ands, k.ands, j.ands, ap (λ (y : GatesAt). y.ands) u, ap (λ (y : GatesAt). y.ands) v);
            wides = omega (arith, ap (λ (y : Cost). y.wides) ev, i.wides, k.wides, j.wides, ap (λ (y : GatesAt). y.wides) u, ap (λ (y : GatesAt). y.wides) v);
          }

  -- the cell at p by its kind
  module _ (p : ℕ) where
    pub here_fields : CellHere file p → CellFields file p
    here_fields x = cell_fields file (event_in x.parts.rows) p x.entry x.stands

    pub here_normal : CellHere file p → c_kind file p ≡ 0 → NormalCell file p
    here_normal x z = go x.entry x.stands
      where
        go : (y : Entry) → Standing file (event_in x.parts.rows) p y → NormalCell file p
        go (normal c) s = record { tree = x.tree; parts = x.parts; cell = c; stands = s }
        go (invalid i) s = absurd (s.1.entry.0 z)

    abbrev Right : Bool → GatesAt → Type 0
    Right t r = CellCounted file H.bits t p r

    no_gates_lem : (r : GatesAt) → r.ands ≡ 0 → r.wides ≡ 0 → HasGates r (cost 0 0)
    no_gates_lem r a b = record { ands = a; wides = b }

    pub normal_passed : c_kind file p ≡ 0 → (t : Bool) → t ≡ true → (r : GatesAt) → r.ands ≡ 0 → r.wides ≡ 0 → Right t r
    normal_passed z t e r a b d w x s = subst (λ (k : Bool). HasGates r (entry_cost H.bits k x)) (sym e) (go x s)
      where
        go : (y : Entry) → Standing file (event_in w.rows) p y → HasGates r (entry_cost H.bits true y)
        go (normal c) u = no_gates_lem r a b
        go (invalid i) u = absurd (u.1.entry.0 z)

    pub invalid_passed : (c_kind file p ≡ 0 → ⊥) → (t : Bool) → t ≡ false → (r : GatesAt) → r.ands ≡ 0 → r.wides ≡ 0 → Right t r
    invalid_passed z t e r a b d w x s = subst (λ (k : Bool). HasGates r (entry_cost H.bits k x)) (sym e) (go x s)
      where
        go : (y : Entry) → Standing file (event_in w.rows) p y → HasGates r (entry_cost H.bits false y)
        go (normal c) u = absurd (z u.1.entry.0)
        go (invalid i) u = no_gates_lem r a b

    pub normal_counted : c_kind file p ≡ 0 → (t : Bool) → t ≡ false → (r y : GatesAt) → ((x : NormalCell file p) → HasGates y (mover_cost H.bits (cell x.cell))) → r.ands ≡ y.ands + 0 → r.wides ≡ y.wides → Right t r
    normal_counted z t e r y k a b d w x s = subst (λ (i : Bool). HasGates r (entry_cost H.bits i x)) (sym e) (go x s)
      where
        go : (v : Entry) → Standing file (event_in w.rows) p v → HasGates r (entry_cost H.bits false v)
        go (normal c) u = let g = k (record { tree = d; parts = w; cell = c; stands = u }) in record { ands = omega (arith, g.ands); wides = b ∙ g.wides }
        go (invalid i) u = absurd (u.1.entry.0 z)

    pub invalid_counted : (c_kind file p ≡ 0 → ⊥) → (t : Bool) → t ≡ true → (r y : GatesAt) → PlaceCounted file p y
        → r.ands ≡ y.ands + 1 → r.wides ≡ y.wides → Right t r
    invalid_counted z t e r y k a b d w x s = subst (λ (i : Bool). HasGates r (entry_cost H.bits i x)) (sym e) (go x s)
      where
        go : (v : Entry) → Standing file (event_in w.rows) p v → HasGates r (entry_cost H.bits true v)
        go (normal c) u = absurd (z u.1.entry.0)
        go (invalid i) u =
            let g = k d w in
            let ev = ap status_and_event_cost u.1.entry.1.event in
            record { ands = omega (arith, g.ands, ap (λ (q : Cost). q.ands) ev); wides = omega (arith, g.wides, ap (λ (q : Cost). q.wides) ev) }

-- The loop over the cells: the gates so far, with those of the cells that are left, are those of all.
pub record CellsLeft (file : List ℕ) (d : Design) (w : Parts file d) (bits : ℕ) (t : Bool) (left : ℕ) (g : GatesAt) : Type 0 where
  pub rest : List Entry
  pub before : ℕ
  pub run : Cells file (event_in w.rows) before g.next rest (invariant_offset file)
  pub count : length rest ≡ left
  pub ands : g.ands + (entries_cost bits t rest).ands ≡ (entries_cost bits t w.entries).ands
  pub wides : g.wides + (entries_cost bits t rest).wides ≡ (entries_cost bits t w.entries).wides

pub record Walking (file : List ℕ) (bits : ℕ) (t : Bool) (left : ℕ) (g : GatesAt) : Type 0 where
  pub of : (d : Design) (w : Parts file d) → CellsLeft file d w bits t left g

module _ (file : List ℕ) (bits : ℕ) (t : Bool) where
  pub walking_start : (left : ℕ) (g : GatesAt) (at : ℕ) → left ≡ cell_count file → g ≡ no_gates at → at ≡ cells_offset file → Walking file bits t left g
  walking_start left g at e z q =
      let (a, b, m) = none_gates g at z in
      let n = m ∙ q in
      record {
        of = λ d w. record {
          rest = w.entries;
          before = cells_offset file;
          run = subst (λ (p : ℕ). Cells file (event_in w.rows) (cells_offset file) p w.entries (invariant_offset file)) (sym n) w.cell_run;
          count = w.cell_count_lem ∙ sym e;
          ands = omega arith;
          wides = omega arith;
        };
      }

  module _ (left : ℕ) (g : GatesAt) (l : 0 < left) (k : Walking file bits t left g) where
    -- the first cell that is left
    pub record First (d : Design) (w : Parts file d) : Type 0 where
      pub entry : Entry
      pub more : List Entry
      pub stands : Standing file (event_in w.rows) g.next entry
      pub run : Cells file (event_in w.rows) g.next (c_past file g.next) more (invariant_offset file)
      pub count : length more ≡ left - 1
      pub ands : g.ands + ((entry_cost bits t entry).ands + (entries_cost bits t more).ands) ≡ (entries_cost bits t w.entries).ands
      pub wides : g.wides + ((entry_cost bits t entry).wides + (entries_cost bits t more).wides) ≡ (entries_cost bits t w.entries).wides

    first : (d : Design) (w : Parts file d) → First d w
    unfolding entries_cost
    first d w = let c = k.of d w in go c.rest c.before c.run c.count c.ands c.wides
      where
        go : (es : List Entry) (b : ℕ) → Cells file (event_in w.rows) b g.next es (invariant_offset file) → length es ≡ left
            → g.ands + (entries_cost bits t es).ands ≡ (entries_cost bits t w.entries).ands → g.wides + (entries_cost bits t es).wides ≡ (entries_cost bits t w.entries).wides → First d w
        go [] b r c a v = absurd (omega arith)
        go (x ∷ xs) b r c a v =
            let q = cell_reads file (items_end file) (names file) (matrices_offset file) (event_in w.rows) b g.next x r.0 r.1 in
            record {
              entry = x;
              more = xs;
              stands = (b, subst (CellRead file (items_end file) (names file) (matrices_offset file) (event_in w.rows) b g.next x) q.past q);
              run = subst (λ (p : ℕ). Cells file (event_in w.rows) g.next p xs (invariant_offset file)) q.past r.2;
              count = omega arith;
              ands = a;
              wides = v;
            }

    pub walking_here : (d : Design) (w : Parts file d) → CellHere file g.next
    walking_here d w = let f = first d w in record { tree = d; parts = w; entry = f.entry; stands = f.stands }

    module _ (x : GatesAt) (n : x.next ≡ c_past file g.next) (s : CellCounted file bits t g.next x) where
      pub walking_within : (d : Design) (w : Parts file d) → (g.ands + x.ands ≤ (entries_cost bits t w.entries).ands) × (g.wides + x.wides ≤ (entries_cost bits t w.entries).wides)
      walking_within d w =
          let f = first d w in
          let u = s d w f.entry f.stands in
          (omega (arith, u.ands, f.ands), omega (arith, u.wides, f.wides))

      pub walking_on : (r : GatesAt) → r ≡ both g x 0 0 → (rest : ℕ) → rest ≡ left - 1 → Walking file bits t rest r
      walking_on r e rest q = rw q (subst (Walking file bits t (left - 1)) (sym e) (record {
        of = λ d w.
            let f = first d w in
            let u = s d w f.entry f.stands in
            record {
              rest = f.more;
              before = g.next;
              run = subst (λ (p : ℕ). Cells file (event_in w.rows) g.next p f.more (invariant_offset file)) (sym n) f.run;
              count = f.count;
              ands = omega (arith, u.ands, f.ands);
              wides = omega (arith, u.wides, f.wides);
            };
      }))

  pub walking_end : (left : ℕ) (g : GatesAt) → left ≤ 0 → Walking file bits t left g → (d : Design) (w : Parts file d) → HasGates g (entries_cost bits t w.entries)
  unfolding entries_cost
  walking_end left g l k d w = let c = k.of d w in go c.rest c.count c.ands c.wides
    where
      go : (es : List Entry) → length es ≡ left → g.ands + (entries_cost bits t es).ands ≡ (entries_cost bits t w.entries).ands → g.wides + (entries_cost bits t es).wides ≡ (entries_cost bits t w.entries).wides
          → HasGates g (entries_cost bits t w.entries)
      go [] c a v = record { ands = omega arith; wides = omega arith }
      go (x ∷ xs) c a v = absurd (omega arith)

-- the sums of the loop are few
module _ (file table : List ℕ) (H : Shape) (h : Ready file table H) (bytes : (i : ℕ) → get_or file i 0 < 256) where
  tree : Tree file
  tree = read file h.shaped.accepted

  total_few : (t : Bool) → ((entries_cost H.bits t tree.all.parts.entries).ands ≤ most_gates) × ((entries_cost H.bits t tree.all.parts.entries).wides ≤ most_gates)
  unfolding property_of
  total_few t = entries_few file tree.tree tree.all.parts H.bits (h.shaped.bits.state tree.tree tree.all.parts) (bounded file no_piece bytes tree.tree tree.is 1 (pieces.no_piece_right file 1)) t

  module _ (t : Bool) (left : ℕ) (g : GatesAt) where
    pub cell_here : 0 < left → Walking file H.bits t left g → CellHere file g.next
    cell_here l k = walking_here file H.bits t left g l k tree.tree tree.all.parts

    pub sum_few : 0 < left → Walking file H.bits t left g → (x : GatesAt)
        → (x.next ≡ c_past file g.next) × CellCounted file H.bits t g.next x
        → (g.ands + x.ands ≤ most_gates) × (g.wides + x.wides ≤ most_gates)
    sum_few l k x s =
        let f = walking_within file H.bits t left g l k x s.0 s.1 tree.tree tree.all.parts in
        let m = total_few t in
        (omega arith, omega arith)

    pub all_counted : left ≤ 0 → Walking file H.bits t left g → FewGates most_gates g × ((d : Design) (w : Parts file d) → HasGates g (entries_cost H.bits t w.entries))
    all_counted l k =
        let e = walking_end file H.bits t left g l k in
        let f = e tree.tree tree.all.parts in
        let m = total_few t in
        (record { ands = omega (arith, f.ands); wides = omega (arith, f.wides) }, e)
