-- How many models a formula has: as many as there are breaking lists among all lists of k choices, which computes.
use Rattle.std.proofs.Common.{◌≡◌, ℕ, zero, suc, ◌+◌, ◌<◌, Bool, false, List, [], ◌∷◌, length, get_or, sym, refl, ap, ◌∙◌, inl, inr, arith, ext_get_or}
use Rattle.design.specs.Tree.{Design}
use Rattle.design.specs.WellFormed.{WellFormed}
use Rattle.step.specs.Property.{Property, PropertyOk}
use Rattle.step.specs.OneStep.{breaks}
use Rattle.step.specs.Breaking.{Breaking}
use Rattle.clauses.specs.Meaning.{Assignment}
use Rattle.clauses.specs.Formula.{w, n, formula, choices}
use Rattle.clauses.specs.Theorem.{assignment_of, Model, In, Distinct, Exactly}
use Rattle.clauses.proofs.Definitions.{Same}
use Rattle.clauses.proofs.Within.{formula_within, satisfies_same}
use Rattle.clauses.proofs.Decoding.{choices_same}
use Rattle.clauses.proofs.Theorem.{theorem}
use Rattle.clauses.proofs.Lists.{keep, in_keep, keep_in, distinct_keep, lists, lists_in, in_lists, distinct_lists}

-- the values of an assignment from variable v on
abbrev values_from : Assignment → ℕ → ℕ → List Bool
values_from ρ v zero = []
values_from ρ v (suc m) = ρ v ∷ values_from ρ (suc v) m

length_values : (ρ : Assignment) (v m : ℕ) → length (values_from ρ v m) ≡ m
length_values ρ v zero = refl
length_values ρ v (suc m) = ap suc (length_values ρ (suc v) m)

values_at : (ρ : Assignment) (v m i : ℕ) → i < m → get_or (values_from ρ v m) i false ≡ ρ (v + i)
values_at ρ v zero i h = absurd (omega arith)
values_at ρ v (suc m) zero h = let q : v ≡ v + 0 = omega arith in ap ρ q
values_at ρ v (suc m) (suc i) h = let q : suc v + i ≡ v + suc i = omega arith in values_at ρ (suc v) m i (omega arith) ∙ ap ρ q

values_same : (ρ : Assignment) (m : ℕ) → Same (suc m) (assignment_of (values_from ρ 1 m)) ρ
values_same ρ m zero p h = absurd (omega arith)
values_same ρ m (suc v) p h = let q : 1 + v ≡ suc v = omega arith in values_at ρ 1 m v (omega arith) ∙ ap ρ q

abbrev decoded : Design → Property → ℕ → List Bool → List ℕ
decoded d p k bs = choices d p (assignment_of bs) k

unfoldable pub breakers : Design → Property → ℕ → List (List ℕ)
breakers d p k = keep (breaks d p) (lists (w d) k)

breaking : (d : Design) (p : Property) (k : ℕ) → Exactly (Breaking d p k) (length (breakers d p k))
unfolding breakers w
breaking d p k = record {
  list = breakers d p k;
  size = refl;
  distinct = distinct_keep (breaks d p) (lists (w d) k) (distinct_lists (w d) k);
  all = λ cs h. let r = in_keep (breaks d p) cs (lists (w d) k) h in let s = in_lists (w d) k cs r.0 in
      record { long = s.0; movers = s.1; breaks = r.1 };
  only = λ cs b. keep_in (breaks d p) cs (lists (w d) k) (lists_in (w d) k cs b.long b.movers) b.breaks;
}

module _ (d : Design) (wf : WellFormed d) (p : Property) (ok : PropertyOk d p) (k : ℕ) where
  -- the model of a breaking list
  model_of : (cs : List ℕ) → Breaking d p k cs → List Bool
  model_of cs b = values_from ((theorem d wf p ok k).decoded cs b).0 1 (n d p k)

  model_of_model : (cs : List ℕ) (b : Breaking d p k cs) → Model d p k (model_of cs b)
  unfolding model_of
  model_of_model cs b =
      let r = (theorem d wf p ok k).decoded cs b in
      record {
        long = length_values r.0 1 (n d p k);
        satisfies = satisfies_same (n d p k) _ r.0 (values_same r.0 (n d p k)) (formula d p k) (formula_within d wf p ok k) ∙ r.1;
      }

  model_of_decodes : (cs : List ℕ) (b : Breaking d p k cs) → decoded d p k (model_of cs b) ≡ cs
  unfolding model_of
  model_of_decodes cs b = let r = (theorem d wf p ok k).decoded cs b in choices_same d wf p ok k _ r.0 (values_same r.0 (n d p k)) ∙ r.2

  at_most_one : (xs bs : List Bool) → Model d p k xs → Model d p k bs → decoded d p k xs ≡ decoded d p k bs → xs ≡ bs
  at_most_one xs bs a b e =
      ext_get_or false xs bs (a.long ∙ sym b.long)
      (λ i h. (theorem d wf p ok k).once (assignment_of xs) (assignment_of bs) a.satisfies b.satisfies e (suc i) (omega arith) (omega (arith, a.long)))

  -- the models of a list of breaking lists
  models_of : (ls : List (List ℕ)) → ((cs : List ℕ) → In cs ls → Breaking d p k cs) → List (List Bool)
  models_of [] f = []
  models_of (x ∷ xs) f = model_of x (f x (inl refl)) ∷ models_of xs (λ cs h. f cs (inr h))

  length_models : (ls : List (List ℕ)) (f : (cs : List ℕ) → In cs ls → Breaking d p k cs) → length (models_of ls f) ≡ length ls
  unfolding models_of
  length_models [] f = refl
  length_models (x ∷ xs) f = ap suc (length_models xs (λ cs h. f cs (inr h)))

  in_models : (ls : List (List ℕ)) (f : (cs : List ℕ) → In cs ls → Breaking d p k cs) (bs : List Bool) → In bs (models_of ls f)
      → Model d p k bs × In (decoded d p k bs) ls
  unfolding models_of
  in_models [] f bs h = absurd h
  in_models (x ∷ xs) f bs (inl e) =
      let b = f x (inl refl) in
      (rw e (model_of_model x b), inl (ap (decoded d p k) e ∙ model_of_decodes x b))
  in_models (x ∷ xs) f bs (inr h) = let r = in_models xs (λ cs h. f cs (inr h)) bs h in (r.0, inr r.1)

  models_in : (ls : List (List ℕ)) (f : (cs : List ℕ) → In cs ls → Breaking d p k cs) (bs : List Bool) → Model d p k bs → In (decoded d p k bs) ls
      → In bs (models_of ls f)
  unfolding models_of
  models_in [] f bs m h = absurd h
  models_in (x ∷ xs) f bs m (inl e) =
      let b = f x (inl refl) in
      inl (at_most_one bs (model_of x b) m (model_of_model x b) (e ∙ sym (model_of_decodes x b)))
  models_in (x ∷ xs) f bs m (inr h) = inr (models_in xs (λ cs h. f cs (inr h)) bs m h)

  distinct_models : (ls : List (List ℕ)) (f : (cs : List ℕ) → In cs ls → Breaking d p k cs) → Distinct ls → Distinct (models_of ls f)
  unfolding models_of
  distinct_models [] f s = tt
  distinct_models (x ∷ xs) f s =
      let b = f x (inl refl) in
      (λ h. s.0 (rw (sym (model_of_decodes x b)) (in_models xs (λ cs h. f cs (inr h)) (model_of x b) h).1), distinct_models xs (λ cs h. f cs (inr h)) s.1)

  -- as many models as breaking lists
  pub models : (m : ℕ) → length (breakers d p k) ≡ m → Exactly (Model d p k) m
  models m e =
      let x = breaking d p k in
      record {
        list = models_of x.list x.all;
        size = length_models x.list x.all ∙ x.size ∙ e;
        distinct = distinct_models x.list x.all x.distinct;
        all = λ bs h. (in_models x.list x.all bs h).0;
        only = λ bs b. models_in x.list x.all bs b (x.only (decoded d p k bs) ((theorem d wf p ok k).decodes (assignment_of bs) b.satisfies));
      }
