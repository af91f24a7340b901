-- The exit statuses of the program.
use Rattle.std.specs.Prelude.{◌≡◌, ◌⊎◌, ℕ}
use Rattle.lock_trace.specs.declared.faults.TraceKind.{TraceKind}
use Rattle.lock_trace.specs.declared.faults.TraceKind.TheVariants as kind
use Rattle.history_commands.specs.declared.dump_fault.DumpFault.{DumpFault}
use Rattle.history_commands.specs.declared.dump_fault.DumpFault.TheVariants as dump
use Rattle.history_commands.specs.declared.show_fault.ShowFault.{ShowFault}
use Rattle.history_commands.specs.declared.show_fault.ShowFault.TheVariants as show
use Rattle.replay_commands.specs.declared.tool_fault.ToolFault.{ToolFault}
use Rattle.replay_commands.specs.declared.tool_fault.ToolFault.TheVariants as tool
use Rattle.glm.specs.declared.outcomes.TheConstants.{DONE, REFUSED, USAGE, NO_MEMORY, DEVICE, STOPPED, ILLEGAL}

-- one of the seven exit statuses
abbrev pub IsStatus : ℕ → Type 0
IsStatus status = (status ≡ DONE) ⊎ ((status ≡ REFUSED) ⊎ ((status ≡ USAGE) ⊎ ((status ≡ NO_MEMORY) ⊎ ((status ≡ DEVICE) ⊎ ((status ≡ STOPPED) ⊎ (status ≡ ILLEGAL))))))

-- the exit status of a row's fault
abbrev pub status_of_kind : TraceKind → ℕ
status_of_kind kind.Device = DEVICE
status_of_kind kind.NoMemory = NO_MEMORY
status_of_kind kind.Shape = REFUSED
status_of_kind kind.Session = REFUSED
status_of_kind kind.Op = REFUSED
status_of_kind (kind.Path fault) = REFUSED
status_of_kind kind.Mode = REFUSED
status_of_kind kind.Extra = REFUSED
status_of_kind kind.Place = REFUSED
status_of_kind kind.Reply = REFUSED
status_of_kind kind.Value = REFUSED

-- the exit status of a fault
abbrev pub status_for : ToolFault → ℕ
status_for (tool.Trace fault) = status_of_kind fault.kind
status_for tool.NoMemory = NO_MEMORY
status_for tool.Device = DEVICE
status_for tool.GateShut = STOPPED
status_for tool.TurnLimit = STOPPED

-- the exit status of a fault of `show --state`
abbrev pub status_for_dump : DumpFault → ℕ
status_for_dump (dump.Row row) = REFUSED
status_for_dump dump.NoMemory = NO_MEMORY
status_for_dump dump.Unread = DEVICE
status_for_dump dump.Device = DEVICE

-- the exit status of a fault of `show`, `explain` or `timeline`
abbrev pub status_for_show : ShowFault → ℕ
status_for_show (show.Trace fault) = status_of_kind fault.kind
status_for_show (show.NoPlace place entries) = USAGE
status_for_show show.NoMemory = NO_MEMORY
status_for_show show.Device = DEVICE
