-- The rows that a part of a sew has left are a map, as the code has them: `one_linked`, `one_unlinked`, `core_linked`, `core_unlinked`. Assumes nothing.
use Rattle.std.specs.Prelude.{◌≡◌, ℕ, ◌<◌, ◌≤◌, List}
use mathlib.Core.Path.{ap}
use Rattle.map_betas.specs.Betas.{darts}
use Rattle.map_betas.specs.Answers.{Out, out, Answer}
use Rattle.map_betas.specs.Cores.{link_core, unlink_core}
use Rattle.map_betas.specs.Guards.{Dart}
use Rattle.map_betas.specs.Maps.{WellFormed}
use Rattle.map_betas.proofs.Always.{link_formed, unlink_formed}
use Rattle.sew_ground.specs.One.{one_links, one_unlinks}
use Rattle.sew_ground.proofs.OneLaws.{formed_as}
use Rattle.sew_ground.proofs.OneBack.{links_formed, unlinks_formed}

pub one_linked : (rows : List ℕ) (ld rd : ℕ) (a : Answer) (rows₁ : List ℕ) → WellFormed rows → Dart (darts rows) 1 ld → Dart (darts rows) 1 rd →
    out a rows₁ ≡ one_links rows ld rd → WellFormed rows₁
one_linked rows ld rd a rows₁ w dl dr e = formed_as _ _ (ap (λ (o : Out). o.rows) e) (links_formed rows ld rd w dl dr).0

pub one_unlinked : (rows : List ℕ) (ld : ℕ) (a : Answer) (rows₁ : List ℕ) → WellFormed rows → out a rows₁ ≡ one_unlinks rows ld → WellFormed rows₁
one_unlinked rows ld a rows₁ w e = formed_as _ _ (ap (λ (o : Out). o.rows) e) (unlinks_formed rows ld w).0

pub core_linked : (rows : List ℕ) (i l r : ℕ) (a : Answer) (rows₁ : List ℕ) → WellFormed rows → 1 ≤ i → i < 4 → Dart (darts rows) 1 l →
    Dart (darts rows) 1 r → out a rows₁ ≡ link_core rows i l r → WellFormed rows₁
core_linked rows i l r a rows₁ w h₁ h₄ dl dr e = formed_as _ _ (ap (λ (o : Out). o.rows) e) (link_formed rows i l r w h₁ h₄ dl dr)

pub core_unlinked : (rows : List ℕ) (i l : ℕ) (a : Answer) (rows₁ : List ℕ) → WellFormed rows → 1 ≤ i → i < 4 → out a rows₁ ≡ unlink_core rows i l →
    WellFormed rows₁
core_unlinked rows i l a rows₁ w h₁ h₄ e = formed_as _ _ (ap (λ (o : Out). o.rows) e) (unlink_formed rows i l w h₁ h₄)
