-- The board's atomic words: where each word lies in the table, and what its values mean. StepKinds.antt has who changes which word.
use Rattle.std.specs.Prelude.{ℕ, ◌+◌, ◌*◌, ◌/◌}

-- The index of the lock word (number 0) or of the state word of session `number`'s record. One record takes eight
-- words of 8 bytes, so two records share no cache line of 64 bytes.
abbrev pub word_of : ℕ → ℕ
word_of number = number * 8

-- The index of a record's link word, next to its state word. With number 0 it is the index of the publication list's
-- head word.
abbrev pub link_of : ℕ → ℕ
link_of number = number * 8 + 1

-- The session whose state word or link word has this index, or 0 for the lock word and the head word.
abbrev pub session_of_word : ℕ → ℕ
session_of_word at = at / 8

-- Lock word: no session has the object. Any other value is the number of the session that has it.
abbrev pub FREE : ℕ
FREE = 0

-- Head word or link word: no record follows.
abbrev pub END : ℕ
END = 65535

-- State word of a record: its session has no call pending, and the record isn't on the publication list.
abbrev pub OUT : ℕ
OUT = 0

-- State word of a record: the slot holds a published call that no combiner has opened.
abbrev pub POSTED : ℕ
POSTED = 1

-- State word of a record: a combiner has opened the call.
abbrev pub BUSY : ℕ
BUSY = 2

-- State word of a record: the slot holds the reply.
abbrev pub SERVED : ℕ
SERVED = 3

-- State word of a record: its session has retired and publishes no more calls.
abbrev pub CLOSED : ℕ
CLOSED = 4

-- State word of a record: its session has no call pending, and the record is on the publication list.
abbrev pub EMPTY : ℕ
EMPTY = 5
