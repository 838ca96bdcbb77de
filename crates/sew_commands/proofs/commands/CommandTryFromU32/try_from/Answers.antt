-- A command from a number: number by number. Assumes nothing.
use native.Mathlib.Omega.{arith}
use mathlib.Core.Path.{sym, ap}
use Rattle.sew_commands.specs.Commands.{command_of}
use Rattle.sew_commands.proofs.CommandLaws.{no_command}
use Rattle.sew_commands.proofs.commands.CommandTryFromU32.try_from.Goals as goal

pub returns-in-1 : goal.returns-in-1
unfolding command_of
returns-in-1 c = ap command_of (sym c.in-1.is)

pub returns-in-2 : goal.returns-in-2
unfolding command_of
returns-in-2 c = ap command_of (sym c.in-2.is)

pub returns-in-3 : goal.returns-in-3
unfolding command_of
returns-in-3 c = ap command_of (sym c.in-3.is)

pub returns-in-4 : goal.returns-in-4
unfolding command_of
returns-in-4 c = ap command_of (sym c.in-4.is)

pub returns-in-5 : goal.returns-in-5
unfolding command_of
returns-in-5 c = ap command_of (sym c.in-5.is)

pub returns-in-6 : goal.returns-in-6
unfolding command_of
returns-in-6 c = ap command_of (sym c.in-6.is)

pub returns-in-7 : goal.returns-in-7
unfolding command_of
returns-in-7 c = ap command_of (sym c.in-7.is)

pub returns-in-8 : goal.returns-in-8
unfolding command_of
returns-in-8 c = ap command_of (sym c.in-8.is)

pub returns-in-9 : goal.returns-in-9
unfolding command_of
returns-in-9 c = ap command_of (sym c.in-9.is)

pub returns-in-10 : goal.returns-in-10
unfolding command_of
returns-in-10 c = ap command_of (sym c.in-10.is)

pub returns-in-11 : goal.returns-in-11
unfolding command_of
returns-in-11 c = ap command_of (sym c.in-11.is)

pub returns-in_default : goal.returns-in_default
returns-in_default c =
    no_command _ (omega arith) (omega arith) (omega arith) (omega arith) (omega arith) (omega arith) (omega arith)
    (omega arith) (omega arith) (omega arith) (omega arith)
