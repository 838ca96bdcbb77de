-- A number stored and read, and bytes read and stored; the same of coordinates. Assumes nothing.
--   number_stored     what is read from the stored bytes of a number is the number
--   number_alike      reading depends on the bytes that are read alone
--   stored_number     what is stored of a number that was read are the bytes
--   number_below      bytes are no more than a number of their width
--   put_there, put_elsewhere   a number put at a place and read there, and bytes elsewhere left alone
--   word_is, long_is  words and double words as the reader reads them
--   finite_is         std's word for a finite double
--   finite_bits, bits_finite   a finite coordinate's pattern, and a pattern read as a finite coordinate
use mathlib.Core.Path.{◌≡◌, refl, sym, ap, ◌∙◌, subst}
use mathlib.Core.Bool.{true, not}
use mathlib.Core.Logic.{◌≢◌, ◌⊎◌, inl, inr, ⊎_elim}
use mathlib.Core.List.{List, [], ◌∷◌, ◌++◌}
use Prim.Native.Nat.{ℕ, zero, suc, ◌+◌, ◌*◌, ◌/◌, ◌%◌, ◌^◌, ◌<◌, ◌≤◌}
use native.Mathlib.Omega.{arith}
use native.Mathlib.Nat.{pow-suc}
use lib.ListN.{length, get_or, set, take, drop, length-append, get_or-append}
use lib.Seq.{sets, sets-eq, length-take-le, get_or-append-add, get_or-set_other}
use lib.Dec.{T}
use lib.Ieee.{Float, nan, inf, fin, binary64, of_bits, to_bits, fits, is_nan}
use lib.Ieee.Scale.{finite}
use Rattle.std.specs.Float.{float_is_finite}
use lib.Ieee.Bits.{of_bits-to_bits, to_bits-of_bits}
use Rattle.image_words.specs.Words.{word32, word64}
use Rattle.image_store.specs.Stores.{stored, number_at, Bytes}
use Rattle.image_store.proofs.Stored.{stored_length}

pub number_alike : (k : ℕ) (l m : List ℕ) (at bt : ℕ) → ((i : ℕ) → i < k → get_or l (at + i) 0 ≡ get_or m (bt + i) 0) → number_at k l at ≡ number_at k m bt
unfolding number_at
number_alike zero l m at bt h = refl
number_alike (suc k) l m at bt h =
    let a : at + 0 ≡ at = omega arith in
    let b : bt + 0 ≡ bt = omega arith in
    let here : get_or l at 0 ≡ get_or m bt 0 = ap (λ (j : ℕ). get_or l j 0) (sym a) ∙ h 0 (omega arith) ∙ ap (λ (j : ℕ). get_or m j 0) b in
    let next =
    number_alike k l m (suc at) (suc bt) (λ i j.
    let a : suc at + i ≡ at + suc i = omega arith in
    let b : suc bt + i ≡ bt + suc i = omega arith in
    ap (λ (n : ℕ). get_or l n 0) a ∙ h (suc i) (omega arith) ∙ ap (λ (n : ℕ). get_or m n 0) (sym b)) in
    omega arith

pub number_stored : (k x : ℕ) → x < 256 ^ k → number_at k (stored k x) 0 ≡ x
unfolding number_at stored
number_stored zero x h = omega arith
number_stored (suc k) x h =
    let p = pow-suc 256 k in
    let next = number_stored k (x / 256) (omega arith) in
    let shift =
    number_alike k ((x % 256) ∷ stored k (x / 256)) (stored k (x / 256)) 1 0 (λ i j.
    let a : 1 + i ≡ suc i = omega arith in
    let z : i ≡ 0 + i = omega arith in
    ap (λ (n : ℕ). get_or ((x % 256) ∷ stored k (x / 256)) n 0) a ∙ ap (λ (n : ℕ). get_or (stored k (x / 256)) n 0) z) in
    omega arith

pub stored_number : (k : ℕ) (l : List ℕ) (at i : ℕ) → Bytes l → i < k → get_or (stored k (number_at k l at)) i 0 ≡ get_or l (at + i) 0
unfolding number_at stored
stored_number zero l at i b h = absurd (omega arith)
stored_number (suc k) l at zero b h =
    let s = b at in
    let a : at + 0 ≡ at = omega arith in
    let q : (get_or l at 0 + 256 * number_at k l (suc at)) % 256 ≡ get_or l at 0 = omega arith in
    q ∙ ap (λ (n : ℕ). get_or l n 0) (sym a)
stored_number (suc k) l at (suc i) b h =
    let s = b at in
    let a : suc at + i ≡ at + suc i = omega arith in
    let q : (get_or l at 0 + 256 * number_at k l (suc at)) / 256 ≡ number_at k l (suc at) = omega arith in
    ap (λ (x : ℕ). get_or (stored k x) i 0) q ∙ stored_number k l (suc at) i b (omega arith) ∙ ap (λ (n : ℕ). get_or l n 0) a

pub number_below : (k : ℕ) (l : List ℕ) (at : ℕ) → Bytes l → number_at k l at < 256 ^ k
unfolding number_at
number_below zero l at b = omega arith
number_below (suc k) l at b =
    let p = pow-suc 256 k in
    let s = b at in
    let next = number_below k l (suc at) b in
    omega arith

-- ---- stores

sets_there : (l xs : List ℕ) (at j : ℕ) → at + length xs ≤ length l → j < length xs → get_or (sets l at xs) (at + j) 0 ≡ get_or xs j 0
sets_there l xs at j r h =
    let front = length-take-le at l (omega arith) in
    let rest = drop (at + length xs) l in
    let a = length-append (take at l) xs in
    ap (λ (m : List ℕ). get_or m (at + j) 0) (sets-eq xs l at r) ∙ get_or-append (take at l ++ xs) rest 0 (at + j) (omega arith)
    ∙ ap (λ (k : ℕ). get_or (take at l ++ xs) (k + j) 0) (sym front) ∙ get_or-append-add (take at l) xs j 0

-- bytes before and behind what is put
pub put_elsewhere : (l xs : List ℕ) (at j : ℕ) → (j < at) ⊎ (at + length xs ≤ j) → get_or (sets l at xs) j 0 ≡ get_or l j 0
put_elsewhere l [] at j h = refl
put_elsewhere l (x ∷ xs) at j h =
    let away : j ≢ at = λ e. ⊎_elim (λ (a : j < at). omega arith) (λ (b : at + suc (length xs) ≤ j). omega arith) h in
    put_elsewhere (set l at x) xs (suc at) j (⊎_elim (λ (a : j < at). inl (omega arith)) (λ (b : at + suc (length xs) ≤ j). inr (omega arith)) h)
    ∙ get_or-set_other l at j x 0 away

-- a number put at a place and read there
pub put_there : (k : ℕ) (l : List ℕ) (at x : ℕ) → at + k ≤ length l → x < 256 ^ k → number_at k (sets l at (stored k x)) at ≡ x
put_there k l at x r h =
    let s = stored_length k x in
    number_alike k (sets l at (stored k x)) (stored k x) at 0 (λ i j.
    let z : i ≡ 0 + i = omega arith in
    sets_there l (stored k x) at i (omega arith) (omega arith) ∙ ap (λ (n : ℕ). get_or (stored k x) n 0) z)
    ∙ number_stored k x h

pub word_is : (l : List ℕ) (at : ℕ) → word32 l at ≡ number_at 4 l at
unfolding word32 number_at
word_is l at =
    let a₁ : at + 1 ≡ suc at = omega arith in
    let a₂ : at + 2 ≡ suc (suc at) = omega arith in
    let a₃ : at + 3 ≡ suc (suc (suc at)) = omega arith in
    rw (a₁, a₂, a₃) (omega arith)

pub long_is : (l : List ℕ) (at : ℕ) → word64 l at ≡ number_at 8 l at
unfolding word64 number_at
long_is l at =
    let a : at + 4 ≡ suc (suc (suc (suc at))) = omega arith in
    let lo = word_is l at in
    let hi = word_is l (suc (suc (suc (suc at)))) in
    rw (a, lo, hi) (omega arith)

-- what std says that is finite
pub finite_is : (x : Float) → float_is_finite x ≡ finite x
unfolding float_is_finite
finite_is nan = refl
finite_is (inf s) = refl
finite_is (fin s m e) = refl

pub finite_no_nan : (x : Float) → finite x ≡ true → T (not (is_nan x))
unfolding is_nan
finite_no_nan nan h = subst T (sym h) tt
finite_no_nan (inf s) h = tt
finite_no_nan (fin s m e) h = tt

-- a finite double, a negative zero and a subnormal too
pub finite_bits : (x : Float) → T (fits binary64 x) → of_bits binary64 (to_bits binary64 x) ≡ x
finite_bits x f = of_bits-to_bits binary64 x f

pub bits_finite : (n : ℕ) → n < 2 ^ 64 → finite (of_bits binary64 n) ≡ true → to_bits binary64 (of_bits binary64 n) ≡ n
bits_finite n f h = to_bits-of_bits binary64 n f (finite_no_nan (of_bits binary64 n) h)
