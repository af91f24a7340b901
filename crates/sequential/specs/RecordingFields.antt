-- What the fields of a recording say.
use Rattle.std.specs.Prelude.{◌≤◌, All}
use Rattle.sequential.specs.declared.entry.TheConstants.{MAX_SESSIONS}
use Rattle.sequential.specs.Histories.{IsEntryWithin}
use Rattle.sequential.specs.Replies.{AreRepliesOf}
use Rattle.sequential.specs.Recorded.{RecordedView}
use Rattle.sequential.specs.declared.stepping.Stepping.{Ghosts}
use Rattle.sequential.specs.declared.recording.Recording.TheInside.{Inside}

module _ {S C R : Type 0} where
  -- What contracts see.
  abbrev pub recorded_view_of : Inside S C R → RecordedView S C R
  recorded_view_of r = record { object = r.object; sessions = r.sessions; history = r.history.items; cut = r.history.cut; bound = r.history.bound }

module _ {S C R : Type 0} (obj : Ghosts S C R) where
  -- The object is as the history leaves it, and the history has its replies, to calls of its sessions.
  pub record IsRecorded (r : Inside S C R) : Type 0 where
    pub some : 1 ≤ r.sessions
    pub few : r.sessions ≤ MAX_SESSIONS
    pub behind : obj.is_behind r.object r.history.items
    pub legal : AreRepliesOf obj.reply_to r.history.items
    pub within : All (IsEntryWithin r.sessions) r.history.items
