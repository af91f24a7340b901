-- The numbers of faults.
use Rattle.std.specs.Prelude.{ℕ}
use Rattle.replay_commands.specs.declared.tool_fault.ToolFault.{ToolFault}
use Rattle.replay_commands.specs.declared.tool_fault.ToolFault.TheVariants as tool

-- the number of a fault
abbrev pub number_of_fault : ToolFault → ℕ
number_of_fault (tool.Trace fault) = 1
number_of_fault tool.NoMemory = 2
number_of_fault tool.Device = 3
number_of_fault tool.GateShut = 4
number_of_fault tool.TurnLimit = 5
