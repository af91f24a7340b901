-- The texts of answers that tell of no call.
use Rattle.std.specs.Prelude.{◌≡◌, ◌⊎◌, ℕ, ◌<◌, List, ◌++◌, codes, decimal}
use Rattle.lock_tree.specs.declared.path_fault.PathFault.{PathFault}
use Rattle.lock_tree.specs.declared.path_fault.PathFault.TheVariants as path
use Rattle.lock_trace.specs.declared.faults.TraceFault.{TraceFault}
use Rattle.lock_trace.specs.declared.faults.TraceKind.{TraceKind}
use Rattle.lock_trace.specs.declared.faults.TraceKind.TheVariants as kind
use Rattle.lock_shell.specs.declared.line.Unread.{Unread}
use Rattle.lock_shell.specs.declared.line.Unread.TheVariants as unread
use Rattle.lock_shell.specs.declared.texts.TheConstants.{NO_CALLS}

-- what is wrong with a call, and what would help, by the first test that its row fails
abbrev pub text_of_fault : TraceKind → List ℕ
text_of_fault kind.Session = codes "can't read this: a line begins with one of the sessions, as in '1 begin'; 'help' lists the words\n"
text_of_fault kind.Op = codes "can't read this: calls are begin, lock, path, convert, try, release, poll, withdraw, commit, abort and restart\n"
text_of_fault (kind.Path fault) = codes "can't read this: a resource is 1 to 5 numbers joined by '/', as in 1/2/3\n"
text_of_fault kind.Mode = codes "can't read this: a mode is IS, IX, S, SIX, U or X, as in '1 lock 1/2 S'\n"
text_of_fault kind.Extra = codes "can't read this: this call takes fewer words; 'help' shows each\n"
text_of_fault _ = codes "can't read this: 'help' shows what can be typed\n"

-- what is wrong with a line that can't be read, and what would help
abbrev pub text_of_unread : Unread → List ℕ
text_of_unread unread.Long = codes "can't read this: more words than a call has, as in '1 lock 1/2 S'\n"
text_of_unread unread.Word = codes "can't read this: a line begins with a session, as in '1 begin'; 'help' lists the words\n"
text_of_unread unread.Session = codes "can't read this: 'why' takes one of the sessions, as in 'why 1'\n"
text_of_unread unread.Name = codes "can't read this: a file is named by one word, as in 'save calls.csv'\n"
text_of_unread (unread.Call fault) = text_of_fault fault

-- how many calls an `undo` took back
abbrev pub text_of_undo : ℕ → List ℕ
text_of_undo count = codes "calls taken back: " ++ decimal count ++ codes "\n"

-- how many calls a `save` wrote
abbrev pub text_of_save : ℕ → List ℕ
text_of_save count = codes "calls saved: " ++ decimal count ++ codes "\n"

-- the text is the answer to a `save` of so many calls: that they are saved, or for what reason the file can't be written
abbrev pub IsSaved : ℕ → List ℕ → Type 0
IsSaved count text = (text ≡ text_of_save count) ⊎ ((reason : List ℕ) × (text ≡ codes "can't write this file: " ++ reason ++ codes "\n"))

-- the name of the fault of a path
abbrev pub name_of_path_fault : PathFault → List ℕ
name_of_path_fault path.Empty = codes "Empty"
name_of_path_fault path.TooDeep = codes "TooDeep"
name_of_path_fault path.NotANumber = codes "NotANumber"
name_of_path_fault path.TooLarge = codes "TooLarge"
name_of_path_fault path.LeadingZero = codes "LeadingZero"

-- the name of a fault of a row, with that of its path
abbrev pub name_of_kind : TraceKind → List ℕ
name_of_kind kind.Shape = codes "Shape"
name_of_kind kind.Session = codes "Session"
name_of_kind kind.Op = codes "Op"
name_of_kind (kind.Path fault) = codes "Path " ++ name_of_path_fault fault
name_of_kind kind.Mode = codes "Mode"
name_of_kind kind.Extra = codes "Extra"
name_of_kind kind.Device = codes "Device"
name_of_kind kind.NoMemory = codes "NoMemory"
name_of_kind kind.Place = codes "Place"
name_of_kind kind.Reply = codes "Reply"
name_of_kind kind.Value = codes "Value"

-- the first row of a trace that can't be read, by its number, and its fault
abbrev pub text_of_bad_row : TraceFault → List ℕ
text_of_bad_row fault = (codes "can't load this trace: row " ++ decimal fault.row) ++ (codes ": " ++ name_of_kind fault.kind ++ codes "\n")

-- the text says why none of a file's calls was served: for what reason the file can't be opened, or that it has no calls, or which of
-- its rows, counted from 1, can't be read
abbrev pub IsNotLoaded : List ℕ → Type 0
IsNotLoaded text =
    ((reason : List ℕ) × (text ≡ codes "can't read this file: " ++ reason ++ codes "\n"))
    ⊎ ((text ≡ NO_CALLS.now) ⊎ ((fault : TraceFault) × ((0 < fault.row) × (text ≡ text_of_bad_row fault))))
