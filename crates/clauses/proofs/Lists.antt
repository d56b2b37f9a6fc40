-- Lists without repetition, and all lists of k numbers below w.
use Rattle.std.proofs.Common.{◌≡◌, ℕ, zero, suc, ◌<◌, Bool, true, false, cond, ◌⊎◌, List, [], ◌∷◌, ◌++◌, length, sym, refl, ap, ◌∙◌, inl, inr, arith}
use native.Mathlib.Decide.{ℕ_discrete}
use Rattle.step.specs.Breaking.{AllBelow}
use Rattle.clauses.specs.Theorem.{In, Distinct}

module _ {A : Type 0} where
  in_left : (a : A) (xs ys : List A) → In a xs → In a (xs ++ ys)
  in_left a [] ys h = absurd h
  in_left a (x ∷ xs) ys (inl e) = inl e
  in_left a (x ∷ xs) ys (inr h) = inr (in_left a xs ys h)

  in_right : (a : A) (xs ys : List A) → In a ys → In a (xs ++ ys)
  in_right a [] ys h = h
  in_right a (x ∷ xs) ys h = inr (in_right a xs ys h)

  push : (a x : A) (xs ys : List A) → In a xs ⊎ In a ys → In a (x ∷ xs) ⊎ In a ys
  push a x xs ys (inl h) = inl (inr h)
  push a x xs ys (inr h) = inr h

  in_split : (a : A) (xs ys : List A) → In a (xs ++ ys) → In a xs ⊎ In a ys
  in_split a [] ys h = inr h
  in_split a (x ∷ xs) ys (inl e) = inl (inl e)
  in_split a (x ∷ xs) ys (inr h) = push a x xs ys (in_split a xs ys h)

  distinct_append : (xs ys : List A) → Distinct xs → Distinct ys → ((a : A) → In a xs → In a ys → ⊥) → Distinct (xs ++ ys)
  distinct_append [] ys p q n = q
  distinct_append (x ∷ xs) ys p q n =
      (λ h. go (in_split x xs ys h), distinct_append xs ys p.1 q (λ a h k. n a (inr h) k))
    where
      go : In x xs ⊎ In x ys → ⊥
      go (inl h) = p.0 h
      go (inr h) = n x (inl refl) h

  abbrev pub keep : (A → Bool) → List A → List A
  keep f [] = []
  keep f (x ∷ xs) = cond (f x) (x ∷ keep f xs) (keep f xs)

  pub in_keep : (f : A → Bool) (a : A) (xs : List A) → In a (keep f xs) → In a xs × (f a ≡ true)
  in_keep f a [] h = absurd h
  in_keep f a (x ∷ xs) h = go (f x) refl h (λ h'. in_keep f a xs h')
    where
      at : f x ≡ true → In a (x ∷ keep f xs) → (In a (keep f xs) → In a xs × (f a ≡ true)) → In a (x ∷ xs) × (f a ≡ true)
      at e (inl k) r = (inl k, ap f k ∙ e)
      at e (inr k) r = (inr (r k).0, (r k).1)

      go : (b : Bool) → f x ≡ b → In a (cond b (x ∷ keep f xs) (keep f xs)) → (In a (keep f xs) → In a xs × (f a ≡ true)) → In a (x ∷ xs) × (f a ≡ true)
      go true e k r = at e k r
      go false e k r = (inr (r k).0, (r k).1)

  pub keep_in : (f : A → Bool) (a : A) (xs : List A) → In a xs → f a ≡ true → In a (keep f xs)
  keep_in f a [] h e = absurd h
  keep_in f a (x ∷ xs) (inl k) e = rw (sym (ap f k) ∙ e) (inl k)
  keep_in f a (x ∷ xs) (inr k) e = go (f x) (keep_in f a xs k e)
    where
      go : (b : Bool) → In a (keep f xs) → In a (cond b (x ∷ keep f xs) (keep f xs))
      go true r = inr r
      go false r = r

  pub distinct_keep : (f : A → Bool) (xs : List A) → Distinct xs → Distinct (keep f xs)
  distinct_keep f [] d = tt
  distinct_keep f (x ∷ xs) d = go (f x) (distinct_keep f xs d.1)
    where
      go : (b : Bool) → Distinct (keep f xs) → Distinct (cond b (x ∷ keep f xs) (keep f xs))
      go true r = (λ h. d.0 (in_keep f x xs h).0, r)
      go false r = r

-- the lists that begin with c, and those that begin with a number below w
abbrev pub before : ℕ → List (List ℕ) → List (List ℕ)
before c [] = []
before c (l ∷ ls) = (c ∷ l) ∷ before c ls

abbrev pub each : ℕ → List (List ℕ) → List (List ℕ)
each zero ls = []
each (suc c) ls = each c ls ++ before c ls

abbrev pub lists : ℕ → ℕ → List (List ℕ)
lists w zero = [] ∷ []
lists w (suc k) = each w (lists w k)

before_in_lem : (c : ℕ) (l : List ℕ) (ls : List (List ℕ)) → In l ls → In (c ∷ l) (before c ls)
before_in_lem c l [] h = absurd h
before_in_lem c l (x ∷ xs) (inl e) = inl (ap (λ y. c ∷ y) e)
before_in_lem c l (x ∷ xs) (inr h) = inr (before_in_lem c l xs h)

in_before : (c : ℕ) (a : List ℕ) (ls : List (List ℕ)) → In a (before c ls) → (l : List ℕ) × (a ≡ c ∷ l) × In l ls
in_before c a [] h = absurd h
in_before c a (x ∷ xs) (inl e) = (x, e, inl refl)
in_before c a (x ∷ xs) (inr h) = let r = in_before c a xs h in (r.0, r.1, inr r.2)

each_in : (w c : ℕ) (l : List ℕ) (ls : List (List ℕ)) → c < w → In l ls → In (c ∷ l) (each w ls)
each_in zero c l ls h m = absurd (omega arith)
each_in (suc w) c l ls h m = go (ℕ_discrete c w) (λ h'. each_in w c l ls h' m)
  where
    go : Dec (c ≡ w) → (c < w → In (c ∷ l) (each w ls)) → In (c ∷ l) (each w ls ++ before w ls)
    go (yes e) r = in_right (c ∷ l) (each w ls) (before w ls) (rw e (before_in_lem w l ls m))
    go (no q) r = in_left (c ∷ l) (each w ls) (before w ls) (r (omega arith))

abbrev Begun : ℕ → List ℕ → List (List ℕ) → Type 0
Begun w a ls = (c : ℕ) × (l : List ℕ) × (a ≡ c ∷ l) × (c < w) × In l ls

in_each : (w : ℕ) (a : List ℕ) (ls : List (List ℕ)) → In a (each w ls) → Begun w a ls
in_each zero a ls h = absurd h
in_each (suc w) a ls h = go (in_split a (each w ls) (before w ls) h) (λ h'. in_each w a ls h')
  where
    go : In a (each w ls) ⊎ In a (before w ls) → (In a (each w ls) → Begun w a ls) → Begun (suc w) a ls
    go (inl k) r = let t = r k in (t.0, t.1, t.2, omega (arith, t.3), t.4)
    go (inr k) r = let t = in_before w a ls k in (w, t.0, t.1, omega arith, t.2)

distinct_before : (c : ℕ) (ls : List (List ℕ)) → Distinct ls → Distinct (before c ls)
distinct_before c [] d = tt
distinct_before c (x ∷ xs) d =
    (λ h. let t = in_before c (c ∷ x) xs h in let e : x ≡ t.0 = cc t.1 in d.0 (rw e t.2), distinct_before c xs d.1)

distinct_each : (w : ℕ) (ls : List (List ℕ)) → Distinct ls → Distinct (each w ls)
distinct_each zero ls d = tt
distinct_each (suc w) ls d =
    distinct_append (each w ls) (before w ls) (distinct_each w ls d) (distinct_before w ls d)
    (λ a h k. let s = in_each w a ls h in let t = in_before w a ls k in
    let e : s.0 ≡ w = cc (s.2, t.1) in omega (arith, s.3))

pub distinct_lists : (w k : ℕ) → Distinct (lists w k)
distinct_lists w zero = (λ h. h, tt)
distinct_lists w (suc k) = distinct_each w (lists w k) (distinct_lists w k)

pub lists_in : (w k : ℕ) (cs : List ℕ) → length cs ≡ k → AllBelow w cs → In cs (lists w k)
lists_in w zero [] e l = inl refl
lists_in w zero (c ∷ cs) e l = absurd (omega arith)
lists_in w (suc k) [] e l = absurd (omega arith)
lists_in w (suc k) (c ∷ cs) e l = each_in w c cs (lists w k) l.0 (lists_in w k cs (omega arith) l.1)

pub in_lists : (w k : ℕ) (cs : List ℕ) → In cs (lists w k) → (length cs ≡ k) × AllBelow w cs
in_lists w zero [] h = (refl, tt)
in_lists w zero (c ∷ cs) (inl e) = absurd (omega (arith, ap length e))
in_lists w zero (c ∷ cs) (inr h) = absurd h
in_lists w (suc k) [] h = absurd (omega (arith, ap length (in_each w [] (lists w k) h).2))
in_lists w (suc k) (c ∷ cs) h =
    let t = in_each w (c ∷ cs) (lists w k) h in
    let ec : c ≡ t.0 = cc t.2 in
    let el : cs ≡ t.1 = cc t.2 in
    let r = in_lists w k cs (rw el t.4) in
    (ap suc r.0, (omega (arith, t.3), r.1))
