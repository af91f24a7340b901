-- The line that shows a call with its reply, and what explains the reply. The format is this project's own choice.
use Rattle.std.specs.Prelude.{◌≡◌, ℕ, List, [], ◌++◌, length, take, drop, Option, Some, None, codes, decimal}
use Rattle.std.specs.List.{flat_map}
use Rattle.lock_modes.specs.declared.Mode.{Mode}
use Rattle.lock_modes.specs.Codes.{name_of}
use Rattle.lock_tree.specs.Text.{text_of}
use Rattle.lock_rules.specs.declared.calls.Call.{Call}
use Rattle.lock_rules.specs.declared.calls.Call.TheVariants as call
use Rattle.lock_rules.specs.declared.calls.Reply.{Reply}
use Rattle.lock_rules.specs.declared.calls.Reply.TheVariants as reply
use Rattle.lock_rules.specs.declared.calls.Why.{Why}
use Rattle.lock_rules.specs.declared.listing.Claim.{Claim}
use Rattle.lock_rules.specs.Entries.{Entry}
use Rattle.lock_rules.specs.Kinds.{kind_of_reply, op_of_call, word_of, word_of_reply}
use Rattle.lock_rules.specs.Legal.{state_of}
use Rattle.lock_rules.specs.Step.{step}
use Rattle.lock_explain.specs.declared.explanation.Blocker.{Blocker}
use Rattle.lock_explain.specs.declared.explanation.Explanation.{Explanation}
use Rattle.lock_explain.specs.declared.explanation.MissedParent.{MissedParent}
use Rattle.lock_explain.specs.declared.explanation.Party.{Party}
use Rattle.lock_explain.specs.declared.explanation.Refusal.{Refusal}
use Rattle.lock_explain.specs.declared.explanation.Wait.{Wait}
use Rattle.lock_explain.specs.Explanations.{IsExplanation}
use Rattle.lock_explain.specs.ExplanationText.{words_of_ahead, words_of_request, words_of_why}

-- a resource and a mode behind an op
abbrev pub words_of_request_at : List ℕ → Mode → List ℕ
words_of_request_at r m = codes " " ++ text_of r ++ codes " " ++ name_of m

-- what a call names behind its op
abbrev pub words_of_operands : Call → List ℕ
words_of_operands call.Begin = []
words_of_operands (call.Lock r m) = words_of_request_at r m
words_of_operands (call.Convert r m) = words_of_request_at r m
words_of_operands call.Poll = []
words_of_operands (call.Release r) = codes " " ++ text_of r
words_of_operands call.Commit = []
words_of_operands call.Abort = []
words_of_operands (call.Try r m) = words_of_request_at r m
words_of_operands call.Withdraw = []
words_of_operands call.Restart = []

-- the place of a call of session s, its session and its op
abbrev pub words_of_start : ℕ → ℕ → Call → List ℕ
words_of_start place s c = codes "[" ++ decimal place ++ codes "] " ++ decimal s ++ codes " " ++ word_of (op_of_call c)

-- the lock of a session that a request waits for, nothing if it doesn't conflict
abbrev pub words_of_lock : Option Mode → List ℕ
words_of_lock None = []
words_of_lock (Some m) = codes ", which holds " ++ name_of m

-- a session that a request waits for, and through what, with these words in front
abbrev pub words_of_blocker : List ℕ → Blocker → List ℕ
words_of_blocker start b = start ++ codes "session " ++ decimal b.party.session ++ words_of_lock b.held ++ words_of_ahead b.held b.ahead

-- the sessions that a request waits for: the first, and the others
abbrev pub words_of_blockers : List Blocker → List ℕ
words_of_blockers bs = flat_map (words_of_blocker (codes " for ")) (take 1 bs) ++ flat_map (words_of_blocker (codes "; for ")) (drop 1 bs)

-- for whom a request begins to wait, nothing if none does
abbrev pub words_of_wait : Option Wait → List ℕ
words_of_wait None = []
words_of_wait (Some w) = words_of_blockers w.blockers.items

-- what a request needs of the parent
abbrev pub words_of_need : MissedParent → List ℕ
words_of_need p = codes "needs " ++ name_of p.needed ++ codes " on " ++ text_of p.parent

-- why a call is refused: what it needs of the parent, or else the reason
abbrev pub words_of_refusal : Why → Option Refusal → List ℕ
words_of_refusal w None = words_of_why w
words_of_refusal w (Some f) = words_of_missed w f.missed
  where
    words_of_missed : Why → Option MissedParent → List ℕ
    words_of_missed w None = words_of_why w
    words_of_missed w (Some p) = words_of_need p

-- what stands behind the word of a reply, and explains it
abbrev pub words_behind : Reply → Explanation → List ℕ
words_behind (reply.Began n) x = codes " transaction " ++ decimal n
words_behind (reply.Granted m) x = codes " " ++ name_of m
words_behind reply.Waiting x = words_of_wait x.wait
words_behind reply.Clear x = codes ": it doesn't wait"
words_behind (reply.Committed n) x = codes ", locks given back: " ++ decimal n
words_behind (reply.Aborted n) x = codes ", locks given back: " ++ decimal n
words_behind (reply.Refused w) x = codes ": " ++ words_of_refusal w x.refusal
words_behind (reply.Restarted n) x = codes ", locks given back: " ++ decimal n
words_behind _ x = []

-- a reply, and what explains it
abbrev pub words_of_reply : Reply → Explanation → List ℕ
words_of_reply r x = word_of_reply (kind_of_reply r) ++ words_behind r x

-- what becomes of a victim, and how to see why
abbrev pub words_of_fate : ℕ → List ℕ
words_of_fate s = codes " is the victim, and can only abort or restart; 'why " ++ decimal s ++ codes "' says more\n"

-- the line of a session whose transaction a call makes a deadlock victim
abbrev pub line_of_doomed : ℕ → List ℕ
line_of_doomed s = (codes "  deadlock: " ++ codes "session " ++ decimal s) ++ words_of_fate s

-- the line of a transaction that a call makes a deadlock victim
abbrev pub line_of_victim : Party → List ℕ
line_of_victim p = line_of_doomed p.session

-- the line of a request of another session that a call grants
abbrev pub line_of_granted : Claim → List ℕ
line_of_granted c = codes "  session " ++ decimal c.session ++ codes " is granted its request " ++ words_of_request c ++ codes "\n"

-- what a call did to others
abbrev pub lines_of_others : Explanation → List ℕ
lines_of_others x = flat_map line_of_victim x.victims.items ++ flat_map line_of_granted x.granted.items

-- the line of the call at a place with its reply, and what it did to others
abbrev pub text_of_reply : ℕ → Entry → Explanation → List ℕ
text_of_reply place e x =
    words_of_start place e.session e.call ++ words_of_operands e.call ++ codes ": " ++ words_of_reply e.reply x ++ codes "\n" ++ lines_of_others x

-- with sessions 1 to n, behind these entries: the entry has the lock manager's reply, and the text is its line, with what explains it
pub record IsReplied (n : ℕ) (front : List Entry) (e : Entry) (text : List ℕ) : Type 0 where
  pub explanation : Explanation
  pub given : e.reply ≡ (step (state_of front) e.session e.call).reply
  pub is_why : IsExplanation n (state_of front) e.session e.call explanation
  pub text_is : text ≡ text_of_reply (length front) e explanation
