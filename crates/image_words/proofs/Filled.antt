-- A list that is made one place after the other, and a loan that is filled with it from its start: what was written, and the rest as it was.
-- Assumes nothing.
--   listed_length   there are as many as asked
--   listed_get      which one stands at a place
--   fill_none       the loan before the first turn
--   fill_more       the loan one turn on
--   fill_all        the loan that is full
--   listed_is, listed_same   a list that has each in its place, and one value at every place
use mathlib.Core.Path.{◌≡◌, refl, sym, ap, ◌∙◌}
use mathlib.Core.Logic.{◌≢◌, by_cases}
use mathlib.Core.List.{List, [], ◌∷◌, ◌++◌, append_assoc, append-nil}
use Prim.Native.Nat.{ℕ, zero, suc, ◌+◌, ◌<◌, ◌≤◌}
use native.Mathlib.Numerals.{add-one}
use native.Mathlib.Omega.{arith}
use native.Mathlib.Decide.{ℕ_discrete}
use lib.ListN.{length, get_or, drop, set, replicate, length-append, get_or-append}
use Rattle.std.proofs.lemmas.List.{ext_get_or, get_or-replicate, length-replicate, drop_all}
use lib.Seq.{drop-cons, set_at, get_or_at}
use Rattle.image_words.specs.Lists.{listed}

grows : {A : Type 0} (done old : List A) (i : ℕ) (v d : A) → length done ≡ i → i < length old →
    set (done ++ drop i old) i v ≡ (done ++ (v ∷ [])) ++ drop (i + 1) old
grows done old i v d e h =
    rw (drop-cons old i d h, add-one i) (set_at done (get_or old i d) (drop (suc i) old) v i e ∙ sym (append_assoc done (v ∷ []) (drop (suc i) old)))

module _ {A : Type 0} (f : ℕ → A) where
  pub listed_length : (n : ℕ) → length (listed f n) ≡ n
  unfolding listed
  listed_length zero = refl
  listed_length (suc n) = let h = listed_length n in simp length-append (omega arith)

  pub listed_get : (d : A) (n k : ℕ) → k < n → get_or (listed f n) k d ≡ f k
  unfolding listed
  listed_get d zero k h = absurd (omega arith)
  listed_get d (suc n) k h =
      let l = listed_length n in
      let next : k < n → get_or (listed f n) k d ≡ f k = listed_get d n k in
      by_cases (ℕ_discrete k n)
      (λ (e : k ≡ n). get_or_at (listed f n) (f n) [] d k (omega arith) ∙ ap f (sym e))
      (λ (e : k ≢ n). get_or-append (listed f n) (f n ∷ []) d k (omega arith) ∙ next (omega arith))

  step : (i : ℕ) → listed f i ++ (f i ∷ []) ≡ listed f (i + 1)
  unfolding listed
  step i = rw (add-one i)

  pub fill_none : (old : List A) → old ≡ listed f 0 ++ drop 0 old
  unfolding listed
  fill_none old = refl

  pub fill_more : (old l : List A) (i : ℕ) (v : A) → i < length old → l ≡ listed f i ++ drop i old → v ≡ f i →
      set l i v ≡ listed f (i + 1) ++ drop (i + 1) old
  fill_more old l i v h e g =
      rw (e, g) (grows (listed f i) old i (f i) (f i) (listed_length i) h ∙ ap (λ (k : List A). k ++ drop (i + 1) old) (step i))

  -- the loan is full
  pub fill_all : (old l : List A) (i n : ℕ) → i ≡ n → length old ≤ n → l ≡ listed f i ++ drop i old → l ≡ listed f n
  fill_all old l i n p h e =
      e ∙ ap (λ (k : ℕ). listed f k ++ drop k old) p ∙ ap (λ (k : List A). listed f n ++ k) (drop_all n old h) ∙ append-nil (listed f n)

  -- a list that has each in its place
  pub listed_is : (d : A) (l : List A) (n : ℕ) → length l ≡ n → ((k : ℕ) → k < n → get_or l k d ≡ f k) → l ≡ listed f n
  listed_is d l n e h =
      ext_get_or d l (listed f n) (e ∙ sym (listed_length n)) (λ k j. h k (omega arith) ∙ sym (listed_get d n k (omega arith)))

  pub listed_same : (n : ℕ) (v : A) → ((k : ℕ) → f k ≡ v) → replicate n v ≡ listed f n
  listed_same n v e =
      listed_is v (replicate n v) n (length-replicate n v) (λ k j. get_or-replicate n k v v j ∙ sym (e k))
