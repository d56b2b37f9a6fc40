-- The loop over the owners: how it starts, goes on and ends.
use mathlib.Core.Path.{◌≡◌, refl, sym, ap, ◌∙◌}
use mathlib.Core.List.{List, [], ◌∷◌, ◌++◌, map, append_assoc}
use Prim.Native.Nat.{ℕ, zero, suc, ◌+◌, ◌-◌, ◌<◌, ◌≤◌, max}
use native.Mathlib.Omega.{arith}
use native.Mathlib.Numerals.{add-one}
use native.Mathlib.Decide.{dec_le}
use denote.Ref.{Bor}
use denote.MutBor.{MutBor}
use lib.IntN.{pos}
use lib.ListN.{length, get_or, take, drop, set, replicate, length-map, length-set, length-replicate, replicate-append-replicate, get_or-map}
use lib.Seq.{drop-append-add, drop-drop, drop-cons, drop_at, take-suc, set_at, get_or_at, map-set_same, length-take-le}
use Rattle.design.specs.Tree.{Design}
use Rattle.design.specs.Check.{Checked, check}
use Rattle.design.specs.Answer.{Answer}
use Rattle.verdict.specs.Verdict.{Told, Memory}
use Rattle.verdict.specs.Owners.{Owner, Buffers, alone, Used, none, longer, used_for, used_by_any, zeroed, buffers_left, owners_of, each_owner}
use Rattle.verdict.specs.Isolation.{SameLengths}
use Rattle.verdict.specs.Answers.{declared_reply, Exit, exit, owner_words, OwnersExit, owners_exit}
use Rattle.verdict.specs.OwnersLoop.{one_owner, Counted}
use Rattle.clauses.proofs.Actions.{map_set}
use Rattle.verdict.proofs.Unread.{Alike, verdict_alike}
use Rattle.verdict.specs.declared.answer.Told as declared-told

-- zeros twice are zeros up to the longer
zeroed_twice : {A : Type 0} (z : A) (m a : ℕ) (xs : List A) → zeroed z a (zeroed z m xs) ≡ zeroed z (max m a) xs
zeroed_twice {A} z m a xs = go (dec_le a m)
  where
    front : (b c : ℕ) → b + c ≡ m → drop b (replicate m z ++ drop m xs) ≡ replicate c z ++ drop m xs
    front b c e =
        ap (λ (j : ℕ). drop b (replicate j z ++ drop m xs)) (sym e)
        ∙ ap (λ (l : List A). drop b (l ++ drop m xs)) (sym (replicate-append-replicate b c z))
        ∙ ap (drop b) (append_assoc (replicate b z) (replicate c z) (drop m xs))
        ∙ drop_at (replicate b z) (replicate c z ++ drop m xs) b (length-replicate b z)

    go : Dec (a ≤ m) → zeroed z a (zeroed z m xs) ≡ zeroed z (max m a) xs
    go (yes l) =
        let e : a + (m - a) ≡ m = omega arith in
        let q : max m a ≡ m = omega arith in
        ap (λ (ys : List A). replicate a z ++ ys) (front a (m - a) e)
        ∙ sym (append_assoc (replicate a z) (replicate (m - a) z) (drop m xs))
        ∙ ap (λ (ys : List A). ys ++ drop m xs) (replicate-append-replicate a (m - a) z ∙ ap (λ (j : ℕ). replicate j z) e)
        ∙ ap (λ (j : ℕ). zeroed z j xs) (sym q)
    go (no l) =
        let e : a ≡ length (replicate m z) + (a - m) = omega (arith, length-replicate m z) in
        let f : m + (a - m) ≡ a = omega arith in
        let q : max m a ≡ a = omega arith in
        ap (λ (ys : List A). replicate a z ++ ys)
        (ap (λ (j : ℕ). drop j (replicate m z ++ drop m xs)) e ∙ drop-append-add (replicate m z) (drop m xs) (a - m) ∙ drop-drop (a - m) m xs ∙ ap (λ (j : ℕ). drop j xs) f)
        ∙ ap (λ (j : ℕ). zeroed z j xs) (sym q)

buffers_twice : (u v : Used) (lent : Buffers) → buffers_left v (buffers_left u lent) ≡ buffers_left (longer u v) lent
buffers_twice u v lent =
    let cs = zeroed_twice (pos 0) u.words v.words lent.clauses in
    let vs = zeroed_twice 0 u.variables v.variables lent.values in
    let ts = zeroed_twice 0 u.variables v.variables lent.trail in
    λ j. record { clauses = cs j; values = vs j; trail = ts j }

-- one owner more
used_more : (file : List ℕ) (d : Design) (k : ℕ) (lent : Buffers) (xs : List Owner) (o : Owner)
    → longer (used_by_any file d k lent xs) (used_for file d k o (alone file k lent o).answer) ≡ used_by_any file d k lent (xs ++ (o ∷ []))
used_more file d k lent [] o = used_max none (used_for file d k o (alone file k lent o).answer)
  where
    used_max : (a b : Used) → longer a b ≡ longer b a
    used_max a b = let e : max a.words b.words ≡ max b.words a.words = omega arith in let f : max a.variables b.variables ≡ max b.variables a.variables = omega arith in λ j. record { words = e j; variables = f j }
used_more file d k lent (x ∷ xs) o =
    used_assoc (used_for file d k x (alone file k lent x).answer) (used_by_any file d k lent xs) (used_for file d k o (alone file k lent o).answer)
    ∙ ap (longer (used_for file d k x (alone file k lent x).answer)) (used_more file d k lent xs o)
  where
    used_assoc : (a b c : Used) → longer (longer a b) c ≡ longer a (longer b c)
    used_assoc a b c =
        let e : max (max a.words b.words) c.words ≡ max a.words (max b.words c.words) = omega arith in
        let f : max (max a.variables b.variables) c.variables ≡ max a.variables (max b.variables c.variables) = omega arith in
        λ j. record { words = e j; variables = f j }

map_snoc : {A B : Type 0} (f : A → B) (xs : List A) (x : A) → map f (xs ++ (x ∷ [])) ≡ map f xs ++ (f x ∷ [])
map_snoc f [] x = refl
map_snoc {B = B} f (y ∷ xs) x = ap (λ (l : List B). f y ∷ l) (map_snoc f xs x)

-- one entry more is written over a list
more_written : {A B : Type 0} (f : A → B) (xs : List A) (x : A) (i : ℕ) (old : List B) (y z : B) → length xs ≡ i → i < length old → y ≡ f x
    → set (map f xs ++ drop i old) i y ≡ map f (xs ++ (x ∷ [])) ++ drop (suc i) old
more_written {B = B} f xs x i old y z e l q =
    ap (λ (ys : List B). set (map f xs ++ ys) i y) (drop-cons old i z l)
    ∙ set_at (map f xs) (get_or old i z) (drop (suc i) old) y i (length-map xs f ∙ e)
    ∙ ap (λ (v : B). map f xs ++ (v ∷ drop (suc i) old)) q
    ∙ sym (append_assoc (map f xs) (f x ∷ []) (drop (suc i) old))
    ∙ ap (λ (ys : List B). ys ++ drop (suc i) old) (sym (map_snoc f xs x))

-- owner i
abbrev pub nobody : Owner
nobody = record { piece = []; budget = 0; choices = [] }

pub owner_at : (pieces : List (List ℕ)) (budgets : List ℕ) (choices : List (List ℕ)) (i : ℕ) → i < length pieces → i < length budgets → i < length choices
    → (i < length (owners_of pieces budgets choices)) × (get_or (owners_of pieces budgets choices) i nobody ≡ record { piece = get_or pieces i []; budget = get_or budgets i 0; choices = get_or choices i [] })
owner_at [] budgets choices i a b c = absurd (omega arith)
owner_at (p ∷ pieces) [] choices i a b c = absurd (omega arith)
owner_at (p ∷ pieces) (x ∷ budgets) [] i a b c = absurd (omega arith)
owner_at (p ∷ pieces) (x ∷ budgets) (y ∷ choices) zero a b c = (omega arith, refl)
owner_at (p ∷ pieces) (x ∷ budgets) (y ∷ choices) (suc i) a b c = let r = owner_at pieces budgets choices i (omega arith) (omega arith) (omega arith) in (omega (arith, r.0), r.1)

module _
    (file : List ℕ) (k count : ℕ) (pieces : List (Bor (List ℕ))) (budgets : List ℕ) (lent : Buffers) (choices₀ : List (MutBor (List ℕ))) (answers₀ : List (List ℕ))
  where
    abbrev lists : List (List ℕ)
    lists = map (λ x. x.now) choices₀

    abbrev os : List Owner
    os = owners_of (map (λ x. x.now) pieces) budgets lists

    -- i owners were asked
    pub record SoFar (i : ℕ) (buffers : Buffers) (choices : List (MutBor (List ℕ))) (answers : List (List ℕ)) : Type 0 where
      pub low : i ≤ count
      pub counted : Counted count pieces budgets choices₀ answers₀
      pub lengths : SameLengths buffers lent
      pub choices_long : length choices ≡ length choices₀
      pub answers_long : length answers ≡ length answers₀
      pub done : (d : Design) → check file ≡ Checked.accepted d
          → record { refusal = record { number = 0; place = 0 }; buffers = buffers; choices = map (λ x. x.now) choices; pointers = map (λ x. x.ref_ptr) choices; answers = answers }
          ≡ owners_exit (each_owner file k lent d (take i os) lists) (map (λ x. x.ref_ptr) choices₀) answers₀

    pub so_far_start : Counted count pieces budgets choices₀ answers₀ → SoFar 0 lent choices₀ answers₀
    unfolding each_owner
    so_far_start c = record { low = omega arith; counted = c; lengths = record { clauses = refl; values = refl; trail = refl }; choices_long = refl; answers_long = refl; done = λ d e. refl }

    module _ {i : ℕ} {buffers : Buffers} {choices : List (MutBor (List ℕ))} {answers : List (List ℕ)} (t : SoFar i buffers choices answers) (more : i < count) (z : Bor (List ℕ)) (empty : z.now ≡ []) (y : MutBor (List ℕ)) (vacant : y.now ≡ []) where
      -- the next owner, as the code has it
      abbrev here : Owner
      here = record { piece = (get_or pieces i z).now; budget = get_or budgets i 0; choices = (get_or choices i y).now }

      in_pieces : i < length (map (λ x. x.now) pieces)
      in_pieces = omega (arith, more, t.counted.has_pieces, length-map pieces (λ x. x.now))

      in_lists : i < length lists
      in_lists = omega (arith, more, t.counted.has_choices, length-map choices₀ (λ x. x.now))

      at_i : (i < length os) × (get_or os i nobody ≡ record { piece = get_or (map (λ x. x.now) pieces) i []; budget = get_or budgets i 0; choices = get_or lists i [] })
      at_i = owner_at (map (λ x. x.now) pieces) budgets lists i in_pieces (omega (arith, more, t.counted.has_budgets)) in_lists

      -- how many there were, and one more
      so_many : length (take i os) ≡ i
      so_many = length-take-le i os (omega (arith, at_i.0))

      so_many_more : length (take (suc i) os) ≡ suc i
      so_many_more = length-take-le (suc i) os (omega (arith, at_i.0))

      one_more : take (suc i) os ≡ take i os ++ (get_or os i nobody ∷ [])
      one_more = take-suc os i nobody at_i.0

      module _ (d : Design) (e : check file ≡ Checked.accepted d) where
        -- its choices are still those that were lent
        kept_choices : get_or (map (λ x. x.now) choices) i [] ≡ get_or lists i []
        unfolding each_owner
        kept_choices =
            ap (λ (x : OwnersExit). get_or x.choices i []) (t.done d e)
            ∙ ap (λ (j : ℕ). get_or (map (λ (o : Owner). (alone file k lent o).memory.choices) (take i os) ++ drop j lists) i []) so_many
            ∙ ap (λ (l : List (List ℕ)). get_or (map (λ (o : Owner). (alone file k lent o).memory.choices) (take i os) ++ l) i []) (drop-cons lists i [] in_lists)
            ∙ get_or_at (map (λ (o : Owner). (alone file k lent o).memory.choices) (take i os)) (get_or lists i []) (drop (suc i) lists) [] i
            (length-map (take i os) (λ (o : Owner). (alone file k lent o).memory.choices) ∙ so_many)

        read : (l : List (Bor (List ℕ))) → (get_or l i z).now ≡ get_or (map (λ x. x.now) l) i []
        read l = sym (get_or-map (λ x. x.now) l i z) ∙ ap (get_or (map (λ x. x.now) l) i) empty

        lent_now : (l : List (MutBor (List ℕ))) → (get_or l i y).now ≡ get_or (map (λ x. x.now) l) i []
        lent_now l = sym (get_or-map (λ x. x.now) l i y) ∙ ap (get_or (map (λ x. x.now) l) i) vacant

        is_here : here ≡ get_or os i nobody
        is_here =
            let p = read pieces in
            let c = lent_now choices ∙ kept_choices in
            (λ j. record { piece = p j; budget = get_or budgets i 0; choices = c j }) ∙ sym at_i.1

        -- VERDICT says of it what it says with the buffers as they were lent
        alike : Alike (alone file k buffers here) (alone file k lent here)
        unfolding alone
        alike = verdict_alike file here.piece 0 k here.budget here.choices buffers lent t.lengths

        abbrev told : Owner → Answer Told
        told o = (alone file k lent o).answer

        abbrev chosen : Owner → List ℕ
        chosen o = (alone file k lent o).memory.choices

        abbrev spoken : Answer Told → List ℕ
        spoken a = owner_words (declared_reply a)

        module _ {r : Answer declared-told.Told} {m : Memory} (came : record { reply = r; memory = m } ≡ exit (one_owner file d k buffers here)) where
          buffers_next : record { clauses = m.clauses; values = m.values; trail = m.trail } ≡ buffers_left (used_by_any file d k lent (take (suc i) os)) lent
          unfolding each_owner
          buffers_next =
              ap {B = Buffers} (λ (x : Exit). record { clauses = x.memory.clauses; values = x.memory.values; trail = x.memory.trail }) came
              ∙ ap (λ (a : Answer Told). buffers_left (used_for file d k here a) buffers) alike.answer
              ∙ ap (λ (o : Owner). buffers_left (used_for file d k o (told o)) buffers) is_here
              ∙ ap (λ (x : OwnersExit). buffers_left (used_for file d k (get_or os i nobody) (told (get_or os i nobody))) x.buffers) (t.done d e)
              ∙ buffers_twice (used_by_any file d k lent (take i os)) (used_for file d k (get_or os i nobody) (told (get_or os i nobody))) lent
              ∙ ap (λ (u : Used). buffers_left u lent) (used_more file d k lent (take i os) (get_or os i nobody) ∙ ap (used_by_any file d k lent) (sym one_more))

          choices_next : (x : MutBor (List ℕ)) → x.now ≡ m.choices → map (λ x. x.now) (set choices i x) ≡ map chosen (take (suc i) os) ++ drop (length (take (suc i) os)) lists
          unfolding each_owner
          choices_next x left =
              let same : x.now ≡ chosen (get_or os i nobody) = left ∙ ap (λ (e : Exit). e.memory.choices) came ∙ alike.choices ∙ ap chosen is_here in
              map_set (λ x. x.now) choices i x
              ∙ ap (λ (e : OwnersExit). set e.choices i x.now) (t.done d e)
              ∙ ap (λ (j : ℕ). set (map chosen (take i os) ++ drop j lists) i x.now) so_many
              ∙ more_written chosen (take i os) (get_or os i nobody) i lists x.now [] so_many in_lists same
              ∙ ap (λ (l : List Owner). map chosen l ++ drop (suc i) lists) (sym one_more)
              ∙ ap (λ (j : ℕ). map chosen (take (suc i) os) ++ drop j lists) (sym so_many_more)

          pointers_next : (x : MutBor (List ℕ)) → x.ref_ptr ≡ (get_or choices i y).ref_ptr → map (λ x. x.ref_ptr) (set choices i x) ≡ map (λ x. x.ref_ptr) choices₀
          unfolding each_owner
          pointers_next x at = map-set_same (λ x. x.ref_ptr) choices i x y at ∙ ap (λ (e : OwnersExit). e.pointers) (t.done d e)

          answers_next : (w : List ℕ) → w ≡ owner_words r → set answers i w ≡ map spoken (map told (take (suc i) os)) ++ drop (length (map told (take (suc i) os))) answers₀
          unfolding each_owner
          answers_next w says =
              let same : w ≡ spoken (told (get_or os i nobody)) = says ∙ ap (λ (e : Exit). owner_words e.reply) came ∙ ap spoken (alike.answer ∙ ap told is_here) in
              let n₀ : length (map told (take i os)) ≡ i = length-map (take i os) told ∙ so_many in
              let n₁ : length (map told (take (suc i) os)) ≡ suc i = length-map (take (suc i) os) told ∙ so_many_more in
              ap (λ (e : OwnersExit). set e.answers i w) (t.done d e)
              ∙ ap (λ (j : ℕ). set (map spoken (map told (take i os)) ++ drop j answers₀) i w) n₀
              ∙ more_written spoken (map told (take i os)) (told (get_or os i nobody)) i answers₀ w [] n₀ (omega (arith, more, t.counted.has_answers)) same
              ∙ ap (λ (l : List (Answer Told)). map spoken l ++ drop (suc i) answers₀) (sym (map_snoc told (take i os) (get_or os i nobody)) ∙ ap (map told) (sym one_more))
              ∙ ap (λ (j : ℕ). map spoken (map told (take (suc i) os)) ++ drop j answers₀) (sym n₁)

      -- one owner more was asked
      pub so_far_next : {r : Answer declared-told.Told} {m : Memory} → ((d : Design) → check file ≡ Checked.accepted d → record { reply = r; memory = m } ≡ exit (one_owner file d k buffers here))
          → (x : MutBor (List ℕ)) → x.ref_ptr ≡ (get_or choices i y).ref_ptr → x.now ≡ m.choices → (w : List ℕ) → w ≡ owner_words r
          → SameLengths (record { clauses = m.clauses; values = m.values; trail = m.trail }) buffers
          → SoFar (i + 1) (record { clauses = m.clauses; values = m.values; trail = m.trail }) (set choices i x) (set answers i w)
      unfolding each_owner
      so_far_next came x at left w says kept = rw (add-one i) (record {
        low = more;
        counted = t.counted;
        lengths = record { clauses = kept.clauses ∙ t.lengths.clauses; values = kept.values ∙ t.lengths.values; trail = kept.trail ∙ t.lengths.trail };
        choices_long = length-set choices i x ∙ t.choices_long;
        answers_long = length-set answers i w ∙ t.answers_long;
        done = λ d e.
            let bs = buffers_next d e (came d e) in
            let cs = choices_next d e (came d e) x left in
            let ps = pointers_next d e (came d e) x at in
            let ws = answers_next d e (came d e) w says in
            λ j. record { refusal = record { number = 0; place = 0 }; buffers = bs j; choices = cs j; pointers = ps j; answers = ws j };
      })

    pub so_far_end : {i : ℕ} {buffers : Buffers} {choices : List (MutBor (List ℕ))} {answers : List (List ℕ)} → SoFar i buffers choices answers → count ≤ i → (d : Design) → check file ≡ Checked.accepted d
        → record { refusal = record { number = 0; place = 0 }; buffers = buffers; choices = map (λ x. x.now) choices; pointers = map (λ x. x.ref_ptr) choices; answers = answers }
        ≡ owners_exit (each_owner file k lent d (take count os) lists) (map (λ x. x.ref_ptr) choices₀) answers₀
    so_far_end {i} t l d e =
        let q : i ≡ count = omega (arith, t.low) in
        t.done d e ∙ ap (λ (j : ℕ). owners_exit (each_owner file k lent d (take j os) lists) (map (λ x. x.ref_ptr) choices₀) answers₀) q
