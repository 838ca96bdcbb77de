-- `free::free_at` meets its contract: each return is one of the cases of `free_at`. Assumes nothing.
use native.Mathlib.Omega.{arith}
use Rattle.map_betas.proofs.FreeLaws.{free_0, free_1, free_2, free_3}
use Rattle.map_breaches.proofs.free.free_at.Goals as goal

pub returns-then-beta_at-ne0 : goal.returns-then-beta_at-ne0
returns-then-beta_at-ne0 c = free_0 _ _ (omega arith)

pub returns-then-beta_at-ne0-2 : goal.returns-then-beta_at-ne0-2
returns-then-beta_at-ne0-2 c = free_1 _ _ (omega arith) (omega arith)

pub returns-then-beta_at-ne0-3 : goal.returns-then-beta_at-ne0-3
returns-then-beta_at-ne0-3 c = free_2 _ _ (omega arith) (omega arith) (omega arith)

pub returns : goal.returns
returns c = free_3 _ _ (omega arith) (omega arith) _ (omega arith) c.beta_at-4.ensures
