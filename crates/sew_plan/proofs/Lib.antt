-- The laws of plans.
--   PlanLaws   an entry written, and what that leaves of a plan
--   Examples   the plans of worked examples
pub mod PlanLaws
pub mod Examples
