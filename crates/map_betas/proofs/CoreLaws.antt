-- Each case of the cores, with the values as the code reads them. Assumes nothing.
use Prim.Native.Nat.{ℕ, ◌≤◌}
use mathlib.Core.Path.{◌≡◌, sym, ap, ◌∙◌}
use mathlib.Core.Logic.{◌≢◌}
use mathlib.Core.List.{List}
use lib.ListN.{set}
use borrow.Author.Tests.{eq-eqb, ne_eqb, le-leb}
use Rattle.map_betas.specs.declared.error.Refusal.TheVariants.{NonFreeBase, NonFreeImage, AlreadyFree}
use Rattle.map_betas.specs.Betas.{place, beta, opp}
use Rattle.map_betas.specs.Answers.{out, nothing, done}
use Rattle.map_betas.specs.Cores.{link_core, unlink_core}
use Rattle.map_betas.proofs.BetaLaws.{no_self, opp_high}
use Rattle.std.specs.Prelude.{Err}

module _ (rows : List ℕ) (i l r : ℕ) where
  pub link_base : beta rows i l ≢ 0 → out (Err (NonFreeBase i l r)) rows ≡ link_core rows i l r
  unfolding link_core
  link_base n = simp (ne_eqb _ _ n)

  pub link_image : (j : ℕ) → j ≡ opp i → beta rows i l ≡ 0 → beta rows j r ≢ 0 → out (Err (NonFreeImage j l r)) rows ≡ link_core rows i l r
  unfolding link_core
  link_image j e z n = simp (← e, eq-eqb _ _ z, ne_eqb _ _ n)

  pub link_self : (j : ℕ) → j ≡ opp i → beta rows i l ≡ 0 → beta rows j r ≡ 0 → 2 ≤ i → l ≡ r →
      out (Err (NonFreeImage i l r)) rows ≡ link_core rows i l r
  unfolding link_core
  link_self j e z n h s =
      ap (λ (k : ℕ). out (Err (NonFreeImage k l r)) rows) (sym (opp_high i h))
      ∙ simp (← e, eq-eqb _ _ z, eq-eqb _ _ n, le-leb _ _ h, eq-eqb l r s)

  pub link_done : (j : ℕ) (a b : List ℕ) → j ≡ opp i → beta rows i l ≡ 0 → beta rows j r ≡ 0 → (2 ≤ i → l ≢ r) →
      a ≡ set rows (place i l) r → b ≡ set a (place j r) l → out nothing b ≡ link_core rows i l r
  unfolding link_core
  link_done j a b e z n h ea eb = simp (eb, ea, ← e, eq-eqb _ _ z, eq-eqb _ _ n, no_self i l r h)

module _ (rows : List ℕ) (i l : ℕ) where
  pub unlink_free : beta rows i l ≡ 0 → out (Err (AlreadyFree i l)) rows ≡ unlink_core rows i l
  unfolding unlink_core
  unlink_free z = simp (eq-eqb _ _ z)

  pub unlink_done : (j x : ℕ) (a b : List ℕ) → j ≡ opp i → x ≡ beta rows i l → x ≢ 0 →
      a ≡ set rows (place i l) 0 → b ≡ set a (place j x) 0 → out (done x 0) b ≡ unlink_core rows i l
  unfolding unlink_core
  unlink_done j x a b e ex n ea eb = simp (eb, ea, e, ← ex, ne_eqb _ _ n)
