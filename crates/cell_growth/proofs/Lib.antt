-- The laws of growing the queue of a list.
--   GrowLaws   what the queue holds after a dart
pub mod GrowLaws
