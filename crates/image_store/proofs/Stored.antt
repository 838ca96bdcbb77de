-- What stands where in stored numbers, and stores one behind another. Assumes nothing.
--   stored_length     k bytes are k bytes
--   low_first         std's bytes of a number are those bytes
--   put_in            and put into a part of a list they are a run of stores
--   sets_append       a run of stores in two parts
--   each_append, each_length   things stored one behind another: in two parts, and how many bytes of a width w
--   each_get          byte i of thing k stands at w * k + i
--   each_none, each_more, each_step   a loan before the first, and one thing on
use mathlib.Core.Path.{◌≡◌, refl, sym, ap, ◌∙◌}
use mathlib.Core.List.{List, [], ◌∷◌, ◌++◌, append_assoc, append-nil}
use Prim.Native.Nat.{ℕ, zero, suc, ◌+◌, ◌*◌, ◌/◌, ◌%◌, ◌^◌, ◌-◌, ◌<◌, ◌≤◌}
use native.Mathlib.Nat.{mul-zero, mul-suc, pow-suc}
use Rattle.std.proofs.Math.Nat.{div-one, div-div-eq-div-mul}
use native.Mathlib.Numerals.{add-one}
use borrow.Rule.Slice.PartMut.{put_mid}
use Rattle.std.specs.Int.{byte_at, bytes_low_first}
use Rattle.std.proofs.lemmas.Slice.{put_mid-paste}
use Rattle.std.proofs.lemmas.List.Edits.{paste_all}
use native.Mathlib.Omega.{arith}
use lib.ListN.{length, get_or, set, take, drop, length-append, get_or-append}
use lib.Seq.{sets, sets-eq, take-suc, length-take-le, get_or-append-add}
use Rattle.image_store.specs.Stores.{stored, stored_each}

pub stored_length : (k x : ℕ) → length (stored k x) ≡ k
unfolding stored
stored_length zero x = refl
stored_length (suc k) x = ap suc (stored_length k (x / 256))

-- std's bytes of a number, from byte i upward, are those of what is above
pub low_first : (i k x : ℕ) → bytes_low_first i k x ≡ stored k (x / 256 ^ i)
unfolding stored
low_first i zero x = refl
low_first i (suc k) x =
    ap (λ (b : ℕ). b ∷ bytes_low_first (suc i) k x) (digit i)
    ∙ ap (λ (l : List ℕ). (x / 256 ^ i % 256) ∷ l) (low_first (suc i) k x ∙ ap (stored k) (above i))
  where
    digit : (j : ℕ) → byte_at j x ≡ x / 256 ^ j % 256
    digit zero = ap (λ (q : ℕ). q % 256) (sym (div-one x))
    digit (suc j) = refl

    above : (j : ℕ) → x / 256 ^ suc j ≡ x / 256 ^ j / 256
    above j = ap (λ (q : ℕ). x / q) (pow-suc 256 j) ∙ sym (div-div-eq-div-mul x (256 ^ j) 256)

module _ {A : Type 0} where
  pub sets_append : (l : List A) (at : ℕ) (xs ys : List A) → sets l at (xs ++ ys) ≡ sets (sets l at xs) (at + length xs) ys
  sets_append l at [] ys = let z : at + 0 ≡ at = omega arith in ap (λ (k : ℕ). sets l k ys) (sym z)
  sets_append l at (x ∷ xs) ys =
      let next = sets_append (set l at x) (suc at) xs ys in
      let z : suc at + length xs ≡ at + suc (length xs) = omega arith in
      next ∙ ap (λ (k : ℕ). sets (sets (set l at x) (suc at) xs) k ys) z

-- the bytes of a number put into a part of a list
pub put_in : (k : ℕ) (l : List ℕ) {b p : List ℕ} (at x : ℕ) {e : ℕ} → e ≡ at + k → e ≤ length l → b ≡ bytes_low_first 0 k x → p ≡ b →
    put_mid at (e - at) l p ≡ sets l at (stored k x)
put_in k l {b} {p} at x {e} w h g q =
    let z : p ≡ stored k x = q ∙ g ∙ low_first 0 k x ∙ ap (stored k) (div-one x) in
    let n : length (stored k x) ≡ k = stored_length k x in
    let m : length (stored k x) ≡ e - at = omega arith in
    put_mid-paste at (e - at) l p (stored k x) (length (stored k x)) z m refl
    ∙ paste_all l at (stored k x) (length (stored k x)) refl
    ∙ sym (append_assoc (take at l) (stored k x) (drop (at + length (stored k x)) l)) ∙ sym (sets-eq (stored k x) l at (omega arith))

module _ {A : Type 0} (f : A → List ℕ) where
  pub each_append : (xs ys : List A) → stored_each f (xs ++ ys) ≡ stored_each f xs ++ stored_each f ys
  unfolding stored_each
  each_append [] ys = refl
  each_append (x ∷ xs) ys = ap (λ (l : List ℕ). f x ++ l) (each_append xs ys) ∙ sym (append_assoc (f x) (stored_each f xs) (stored_each f ys))

  -- a loan before the first thing
  pub each_none : (bytes : List ℕ) (from : ℕ) (xs : List A) → bytes ≡ sets bytes from (stored_each f (take 0 xs))
  unfolding stored_each
  each_none bytes from xs = refl

  module _ (w : ℕ) (wide : (x : A) → length (f x) ≡ w) where
    pub each_length : (xs : List A) → length (stored_each f xs) ≡ w * length xs
    unfolding stored_each
    each_length [] = sym (mul-zero w)
    each_length (x ∷ xs) =
        let h = each_length xs in
        let v = wide x in
        let m = mul-suc w (length xs) in
        let a = length-append (f x) (stored_each f xs) in
        omega arith

    pub each_get : (d : A) (xs : List A) (k i : ℕ) → k < length xs → i < w → get_or (stored_each f xs) (w * k + i) 0 ≡ get_or (f (get_or xs k d)) i 0
    unfolding stored_each
    each_get d [] k i h j = absurd (omega arith)
    each_get d (x ∷ xs) zero i h j =
        let v = wide x in
        let m = mul-zero w in
        let z : w * 0 + i ≡ i = omega arith in
        ap (λ (m : ℕ). get_or (f x ++ stored_each f xs) m 0) z ∙ get_or-append (f x) (stored_each f xs) 0 i (rw v j)
    each_get d (x ∷ xs) (suc k) i h j =
        let v = wide x in
        let m = mul-suc w k in
        let z : w * suc k + i ≡ length (f x) + (w * k + i) = omega arith in
        ap (λ (m : ℕ). get_or (f x ++ stored_each f xs) m 0) z ∙ get_or-append-add (f x) (stored_each f xs) (w * k + i) 0
        ∙ each_get d xs k i (omega arith) j

    -- a loan with the first i of xs in it, and with one more
    pub each_more : (d : A) (xs : List A) (i : ℕ) (bytes : List ℕ) (from : ℕ) → i < length xs →
        sets (sets bytes from (stored_each f (take i xs))) (from + w * i) (f (get_or xs i d)) ≡ sets bytes from (stored_each f (take (suc i) xs))
    unfolding stored_each
    each_more d xs i bytes from h =
        let long : length (stored_each f (take i xs)) ≡ w * i = each_length (take i xs) ∙ ap (λ (m : ℕ). w * m) (length-take-le i xs (omega arith)) in
        let one : stored_each f (get_or xs i d ∷ []) ≡ f (get_or xs i d) = append-nil (f (get_or xs i d)) in
        sym (
        ap (λ (l : List A). sets bytes from (stored_each f l)) (take-suc xs i d h)
        ∙ ap (λ (l : List ℕ). sets bytes from l) (each_append (take i xs) (get_or xs i d ∷ []) ∙ ap (λ (l : List ℕ). stored_each f (take i xs) ++ l) one)
        ∙ sets_append bytes from (stored_each f (take i xs)) (f (get_or xs i d))
        ∙ ap (λ (m : ℕ). sets (sets bytes from (stored_each f (take i xs))) (from + m) (f (get_or xs i d))) long)

    -- the same as a loop's turn leaves it, at its place `at`
    pub each_step : (d : A) (xs : List A) (i : ℕ) (bytes l new : List ℕ) (from at : ℕ) → i < length xs → at ≡ from + w * i →
        l ≡ sets bytes from (stored_each f (take i xs)) → new ≡ sets l at (f (get_or xs i d)) → new ≡ sets bytes from (stored_each f (take (i + 1) xs))
    each_step d xs i bytes l new from at h p e g =
        g ∙ ap (λ (m : List ℕ). sets m at (f (get_or xs i d))) e
        ∙ ap (λ (k : ℕ). sets (sets bytes from (stored_each f (take i xs))) k (f (get_or xs i d))) p ∙ each_more d xs i bytes from h
        ∙ ap (λ (k : ℕ). sets bytes from (stored_each f (take k xs))) (sym (add-one i))
