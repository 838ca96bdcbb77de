-- `structure::null_breach` meets its contract: an image of the null dart breaks a rule where it is not null. Assumes nothing.
use mathlib.Core.Path.{sym, ◌∙◌}
use Rattle.map_betas.proofs.MapLaws.{breaks_of_null, keeps_null, breach_0, breach_1, breach_2, breach_3, breach_none}
use Rattle.map_test.proofs.structure.null_breach.Goals as goal

pub returns-then-beta_at-ne0 : goal.returns-then-beta_at-ne0
returns-then-beta_at-ne0 c = breach_0 _ _ (breaks_of_null _ c.requires 0 (λ e. c.if-beta_at-ne0.true (c.beta_at.ensures ∙ e)))

pub returns-then-beta_at-ne0-2 : goal.returns-then-beta_at-ne0-2
returns-then-beta_at-ne0-2 c =
    breach_1 _ _ (keeps_null _ c.requires 0 (sym c.beta_at.ensures ∙ c.if-beta_at-ne0.false))
    (breaks_of_null _ c.requires 1 (λ e. c.if-beta_at-ne0-2.true (c.beta_at-2.ensures ∙ e)))

pub returns-then-beta_at-ne0-3 : goal.returns-then-beta_at-ne0-3
returns-then-beta_at-ne0-3 c =
    breach_2 _ _ (keeps_null _ c.requires 0 (sym c.beta_at.ensures ∙ c.if-beta_at-ne0.false))
    (keeps_null _ c.requires 1 (sym c.beta_at-2.ensures ∙ c.if-beta_at-ne0-2.false))
    (breaks_of_null _ c.requires 2 (λ e. c.if-beta_at-ne0-3.true (c.beta_at-3.ensures ∙ e)))

pub returns-then-beta_at-ne0-4 : goal.returns-then-beta_at-ne0-4
returns-then-beta_at-ne0-4 c =
    breach_3 _ _ (keeps_null _ c.requires 0 (sym c.beta_at.ensures ∙ c.if-beta_at-ne0.false))
    (keeps_null _ c.requires 1 (sym c.beta_at-2.ensures ∙ c.if-beta_at-ne0-2.false))
    (keeps_null _ c.requires 2 (sym c.beta_at-3.ensures ∙ c.if-beta_at-ne0-3.false))
    (breaks_of_null _ c.requires 3 (λ e. c.if-beta_at-ne0-4.true (c.beta_at-4.ensures ∙ e)))

pub returns : goal.returns
returns c =
    breach_none _ _ (keeps_null _ c.requires 0 (sym c.beta_at.ensures ∙ c.if-beta_at-ne0.false))
    (keeps_null _ c.requires 1 (sym c.beta_at-2.ensures ∙ c.if-beta_at-ne0-2.false))
    (keeps_null _ c.requires 2 (sym c.beta_at-3.ensures ∙ c.if-beta_at-ne0-3.false))
    (keeps_null _ c.requires 3 (sym c.beta_at-4.ensures ∙ c.if-beta_at-ne0-4.false))
