-- The laws of commands, each file over the ones before it.
--   CommandLaws   one command: on a map its call is its core, a map stays a map, a refusal changes nothing
--   RoomLaws      what an answer says fits its place, and what is written fits the plan
--   ListLaws      a list: its first command and the rest, two lists, two ways to make one
--   TurnLaws      the code's way through a list
--   CallLaws      the call: what its tests give, and each way in which it ends
--   Demand        what a list promises
pub mod CommandLaws
pub mod RoomLaws
pub mod ListLaws
pub mod TurnLaws
pub mod CallLaws
pub mod Demand
