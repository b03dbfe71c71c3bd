-- Laws of filter, any and all.
use mathlib.Core.Path.{◌≡◌, refl, ap, sym, ◌∙◌}
use mathlib.Core.Bool.{Bool, true, false, cond, not, ◌&&◌, ◌||◌, false≢true, true≢false}
use mathlib.Core.List.{List, [], ◌∷◌, ◌++◌}
use Prim.Native.Nat.{suc, ◌+◌, ◌≤◌}
use native.Mathlib.Omega.{arith}
use lib.ListN.{length}
use Rattle.steps.specs.Lists.{filter, any}

module _ {A : Type 0} where
  abbrev pub nonempty : List A → Bool
  nonempty [] = false
  nonempty (x ∷ xs) = true

  -- any asks if filter leaves something
  pub any_filter : (f : A → Bool) (l : List A) → any f l ≡ nonempty (filter f l)
  any_filter f [] = refl
  any_filter f (x ∷ xs) = go (f x) (any_filter f xs)
    where
      go : (b : Bool) → any f xs ≡ nonempty (filter f xs) → (b || any f xs) ≡ nonempty (cond b (x ∷ filter f xs) (filter f xs))
      go true ih = refl
      go false ih = ih

  pub filter_append : (f : A → Bool) (l m : List A) → filter f (l ++ m) ≡ filter f l ++ filter f m
  filter_append f [] m = refl
  filter_append f (x ∷ xs) m = go (f x) (filter_append f xs m)
    where
      go : (b : Bool) → filter f (xs ++ m) ≡ filter f xs ++ filter f m → cond b (x ∷ filter f (xs ++ m)) (filter f (xs ++ m)) ≡ cond b (x ∷ filter f xs) (filter f xs) ++ filter f m
      go true ih = rw ih
      go false ih = ih

  -- two tests at once, or one after the other
  pub filter_fuse : (f g : A → Bool) (xs : List A) → filter (λ q. f q && g q) xs ≡ filter f (filter g xs)
  filter_fuse f g [] = refl
  filter_fuse f g (x ∷ xs) = go (f x) (g x) refl (filter_fuse f g xs)
    where
      go : (a b : Bool) → f x ≡ a → filter (λ q. f q && g q) xs ≡ filter f (filter g xs)
          → cond (a && b) (x ∷ filter (λ q. f q && g q) xs) (filter (λ q. f q && g q) xs) ≡ filter f (cond b (x ∷ filter g xs) (filter g xs))
      go true true u e = rw u (ap (λ (l : List _). x ∷ l) e)
      go true false u e = e
      go false true u e = rw u e
      go false false u e = e

  -- what passes f passes g: filtering by g before f makes no difference
  pub filter_in : (f g : A → Bool) → ((x : A) → f x ≡ true → g x ≡ true) → (l : List A) → filter f (filter g l) ≡ filter f l
  filter_in f g h [] = refl
  filter_in f g h (x ∷ xs) = go (f x) (g x) refl refl (filter_in f g h xs)
    where
      go : (b c : Bool) → f x ≡ b → g x ≡ c → filter f (filter g xs) ≡ filter f xs → filter f (cond c (x ∷ filter g xs) (filter g xs)) ≡ cond b (x ∷ filter f xs) (filter f xs)
      go true true p q ih = rw (p, ih)
      go true false p q ih = absurd (true≢false (cc (h x p)))
      go false true p q ih = rw (p, ih)
      go false false p q ih = ih

  -- what passes f fails g: nothing is left
  pub filter_out : (f g : A → Bool) → ((x : A) → f x ≡ true → g x ≡ false) → (l : List A) → filter f (filter g l) ≡ []
  filter_out f g h [] = refl
  filter_out f g h (x ∷ xs) = go (f x) (g x) refl refl (filter_out f g h xs)
    where
      go : (b c : Bool) → f x ≡ b → g x ≡ c → filter f (filter g xs) ≡ [] → filter f (cond c (x ∷ filter g xs) (filter g xs)) ≡ []
      go true true p q ih = absurd (true≢false (cc (h x p)))
      go true false p q ih = ih
      go false true p q ih = rw (p, ih)
      go false false p q ih = ih

  -- each element passes f or fails it
  pub length_split : (f : A → Bool) (l : List A) → length l ≡ length (filter f l) + length (filter (λ x. not (f x)) l)
  length_split f [] = refl
  length_split f (x ∷ xs) = go (f x) (length_split f xs)
    where
      F : List A
      F = filter f xs

      G : List A
      G = filter (λ x. not (f x)) xs

      go : (b : Bool) → length xs ≡ length F + length G → suc (length xs) ≡ length (cond b (x ∷ F) F) + length (cond (not b) (x ∷ G) G)
      go true ih = omega arith
      go false ih = omega arith

  pub length_filter : (f : A → Bool) (l : List A) → length (filter f l) ≤ length l
  length_filter f l = omega (arith, length_split f l)

  pub any_one : (f : A → Bool) (l : List A) → any f l ≡ true → 1 ≤ length (filter f l)
  any_one f l h = go (filter f l) (sym (any_filter f l) ∙ h)
    where
      go : (m : List A) → nonempty m ≡ true → 1 ≤ length m
      go [] e = absurd (false≢true e)
      go (x ∷ xs) e = omega arith

  pub any_none : (f : A → Bool) (l : List A) → any f l ≡ false → length (filter f l) ≡ 0
  any_none f l h = go (filter f l) (sym (any_filter f l) ∙ h)
    where
      go : (m : List A) → nonempty m ≡ false → length m ≡ 0
      go [] e = refl
      go (x ∷ xs) e = absurd (true≢false e)

  pub any_append : (f : A → Bool) (l m : List A) → any f (l ++ m) ≡ (any f l || any f m)
  any_append f [] m = refl
  any_append f (x ∷ xs) m = go (f x) (any_append f xs m)
    where
      go : (b : Bool) → any f (xs ++ m) ≡ (any f xs || any f m) → (b || any f (xs ++ m)) ≡ (b || any f xs || any f m)
      go true ih = refl
      go false ih = ih
