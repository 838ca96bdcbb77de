-- The laws of a command's answer.
--   AnswerLaws   five stores are an answer; what stands before and behind it
pub mod AnswerLaws
