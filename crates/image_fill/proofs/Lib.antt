-- The laws of what is written, each file over the one before it.
--   FillLaws   the vertex records put into their slots, turn by turn
--   SlotLaws   what the slots hold then
pub mod FillLaws
pub mod SlotLaws
