-- `breaches::least_breach` meets its contract: each return is one of the cases of `breach_at`. Assumes nothing.
use mathlib.Core.Path.{sym, ◌∙◌}
use Rattle.map_betas.proofs.MapLaws.{breach_0, breach_1, breach_2, breach_3, breach_none}
use Rattle.map_breaches.proofs.breaches.least_breach.Goals as goal

pub returns-then-breaks_at : goal.returns-then-breaks_at
returns-then-breaks_at c = breach_0 _ _ (sym c.breaks_at.ensures ∙ c.if-breaks_at.true)

pub returns-then-breaks_at-2 : goal.returns-then-breaks_at-2
returns-then-breaks_at-2 c =
    breach_1 _ _ (sym c.breaks_at.ensures ∙ c.if-breaks_at.false)
    (sym c.breaks_at-2.ensures ∙ c.if-breaks_at-2.true)

pub returns-then-breaks_at-3 : goal.returns-then-breaks_at-3
returns-then-breaks_at-3 c =
    breach_2 _ _ (sym c.breaks_at.ensures ∙ c.if-breaks_at.false) (sym c.breaks_at-2.ensures
    ∙ c.if-breaks_at-2.false)
    (sym c.breaks_at-3.ensures ∙ c.if-breaks_at-3.true)

pub returns-then-breaks_at-4 : goal.returns-then-breaks_at-4
returns-then-breaks_at-4 c =
    breach_3 _ _ (sym c.breaks_at.ensures ∙ c.if-breaks_at.false) (sym c.breaks_at-2.ensures ∙ c.if-breaks_at-2.false)
    (sym c.breaks_at-3.ensures ∙ c.if-breaks_at-3.false) (sym c.breaks_at-4.ensures ∙ c.if-breaks_at-4.true)

pub returns : goal.returns
returns c =
    breach_none _ _ (sym c.breaks_at.ensures ∙ c.if-breaks_at.false) (sym c.breaks_at-2.ensures ∙ c.if-breaks_at-2.false)
    (sym c.breaks_at-3.ensures ∙ c.if-breaks_at-3.false) (sym c.breaks_at-4.ensures ∙ c.if-breaks_at-4.false)
