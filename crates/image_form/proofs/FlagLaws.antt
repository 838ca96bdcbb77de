-- The laws of the test of the flags. Assumes nothing.
--   flags_null, flags_bits, flags_pass   each case of the test
--   flags_done     flags that pass keep the rules
--   flags_good     flags that keep the rules pass
use Prim.Native.Nat.{ℕ, zero, suc, ◌+◌, ◌-◌, ◌<◌, ◌≤◌}
use native.Mathlib.Omega.{arith}
use native.Mathlib.Decide.{ℕ_discrete}
use mathlib.Core.Path.{◌≡◌, refl, sym, ap, ◌∙◌}
use mathlib.Core.Logic.{◌≢◌, by_cases}
use mathlib.Core.List.{List}
use mathlib.Core.Bool.{Bool, true, false, ◌&&◌, true≢false}
use lib.ListN.{get_or}
use lib.Dec.{leb}
use borrow.Author.Tests.{le-leb, eq-eqb, ne_eqb, leb-true, eqb-true}
use Rattle.map_betas.specs.declared.error.Refusal.TheVariants.{BadImage}
use Rattle.map_betas.specs.Answers.{pass}
use Rattle.image_form.specs.Form.{form1, flag_offset, vertex_offset, flag_at, Flags}
use Rattle.image_form.specs.Tests.{unless, bits_only, flags_test}
use Rattle.image_form.proofs.HeaderLaws.{unless_done}
use Rattle.std.specs.Prelude.{Err, is_ok}

pub and_true : (a b : Bool) → (a && b) ≡ true → (a ≡ true) × (b ≡ true)
and_true true b e = (refl, e)
and_true false b e = absurd (true≢false (sym e))

bits_each : (k : ℕ) (bytes : List ℕ) (at : ℕ) → bits_only k bytes at ≡ true → (p : ℕ) → at ≤ p → p < at + k → get_or bytes p 0 ≤ 1
unfolding bits_only
bits_each zero bytes at t p a b = absurd (omega arith)
bits_each (suc k) bytes at t p a b =
    let q = and_true (leb (get_or bytes at 0) 1) (bits_only k bytes (at + 1)) t in
    let next : at + 1 ≤ p → get_or bytes p 0 ≤ 1 = λ l. bits_each k bytes (at + 1) q.1 p l (omega arith) in
    by_cases (ℕ_discrete p at) (λ (e : p ≡ at). rw e (leb-true (get_or bytes at 0) 1 q.0)) (λ (e : p ≢ at). next (omega arith))

bits_all : (k : ℕ) (bytes : List ℕ) (at : ℕ) → ((p : ℕ) → at ≤ p → p < at + k → get_or bytes p 0 ≤ 1) → bits_only k bytes at ≡ true
unfolding bits_only
bits_all zero bytes at h = refl
bits_all (suc k) bytes at h =
    simp (le-leb (get_or bytes at 0) 1 (h at (omega arith) (omega arith))) (bits_all k bytes (at + 1) (λ p a b. h p (omega arith) (omega arith)))

-- the test

-- `from` and `to` are what the code has for the start and the end of the flags
module _ (bytes : List ℕ) (n from to : ℕ) (f : from ≡ flag_offset form1 n) (t : to ≡ vertex_offset form1 n) where
  null_at : get_or bytes from 0 ≡ flag_at bytes n 0
  null_at = let p : from ≡ flag_offset form1 n + 0 = omega arith in ap (λ (k : ℕ). get_or bytes k 0) p

  bits_at : bits_only (to - from) bytes from ≡ bits_only n bytes (flag_offset form1 n)
  bits_at = let p : to - from ≡ n = omega arith in rw (p, f) refl

  pub flags_null : get_or bytes from 0 ≢ 0 → Err (BadImage 7) ≡ flags_test bytes n
  unfolding flags_test unless
  flags_null h = let p = null_at in simp (ne_eqb (flag_at bytes n 0) 0 (λ (e : flag_at bytes n 0 ≡ 0). h (p ∙ e)))

  pub flags_bits : get_or bytes from 0 ≡ 0 → bits_only (to - from) bytes from ≡ false → Err (BadImage 7) ≡ flags_test bytes n
  unfolding flags_test unless
  flags_bits a h = simp (eq-eqb (flag_at bytes n 0) 0 (sym null_at ∙ a), sym bits_at ∙ h)

  pub flags_pass : get_or bytes from 0 ≡ 0 → bits_only (to - from) bytes from ≡ true → pass ≡ flags_test bytes n
  unfolding flags_test unless
  flags_pass a h = simp (eq-eqb (flag_at bytes n 0) 0 (sym null_at ∙ a), sym bits_at ∙ h)

module _ (bytes : List ℕ) (n : ℕ) where
  pub flags_done : is_ok (flags_test bytes n) ≡ true → Flags bytes n
  unfolding flags_test
  flags_done t =
      let a = unless_done _ _ _ t in
      let b = unless_done _ _ _ a.1 in
      record {
        null = eqb-true _ _ a.0;
        each = λ d h. bits_each n bytes (flag_offset form1 n) b.0 (flag_offset form1 n + d) (omega arith) (omega arith);
      }

  pub flags_good : Flags bytes n → flags_test bytes n ≡ pass
  unfolding flags_test unless
  flags_good f =
      simp (
        eq-eqb (flag_at bytes n 0) 0 f.null,
        bits_all n bytes (flag_offset form1 n)
            (λ p a b.
            let e : flag_offset form1 n + (p - flag_offset form1 n) ≡ p = omega arith in
            rw e at (f.each (p - flag_offset form1 n) (omega arith))),
      )
