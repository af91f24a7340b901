-- A shell goes on by one turn more.
use Rattle.std.proofs.Common.{◌≡◌, ◌∙◌, ◌+◌, ℕ, List, [], ◌∷◌, ◌++◌, Option, refl, sym, ap, subst, append_assoc, append-nil}
use Rattle.std.specs.Io.KnownBytes.{Appends}
use Rattle.std.proofs.KnownBytes.{Appends-trans, Appends-nil}
use Rattle.std.proofs.lemmas.List.{length_push}
use Rattle.replay_commands.specs.Written.{AppendsPart}
use Rattle.replay_commands.proofs.Written.{part_behind, part_of}
use Rattle.lock_shell.specs.declared.texts.TheConstants.{GREETING}
use Rattle.lock_shell.specs.Turns.{AreTurns, HasTalked, HasTalkedPart, IsTurn, Kept, Turn, answers_of, nothing_kept, text_of_turns}
use Rattle.lock_shell.specs.inner.Answered.{HasAnswered, HasAnsweredPart, HasTurned, HasTurnedPart, back_of}

-- turns, and one that follows them
turns_more : (n : ℕ) (front : Kept) (ts : List Turn) (t : Turn) → AreTurns n front ts → IsTurn n (back_of front ts) t → AreTurns n front (ts ++ t ∷ [])
turns_more n front [] t are is = (is, tt)
turns_more n front (u ∷ us) t are is = (are.0, turns_more n u.back us t are.1 is)

-- they lead to what the last one leaves
back_more : (front : Kept) (ts : List Turn) (t : Turn) → back_of front (ts ++ t ∷ []) ≡ t.back
back_more front [] t = refl
back_more front (u ∷ us) t = back_more u.back us t

-- and its answer follows theirs
answers_more : (ts : List Turn) (t : Turn) → answers_of (ts ++ t ∷ []) ≡ answers_of ts ++ t.text
answers_more [] t = append-nil t.text
answers_more (u ∷ us) t = ap (λ (rest : List ℕ). u.text ++ rest) (answers_more us t) ∙ sym (append_assoc u.text (answers_of us) t.text)

-- no line was answered yet
pub none_answered : (n : ℕ) (front : Kept) (out : Option (List ℕ)) → HasAnswered n 0 front front out out
none_answered n front out = record { turns = []; counted = refl; answered = tt; leads = refl; written = Appends-nil out }

-- one line more was answered
pub answered_more : (n count : ℕ) (front back more : Kept) (old mid new : Option (List ℕ)) → HasAnswered n count front back old mid
    → HasTurned n back more mid new → HasAnswered n (count + 1) front more old new
answered_more n count front back more old mid new h (text, ((asks, is), wrote)) =
    let t : Turn = record { asks = asks; back = more; text = text } in
    record {
      turns = h.turns ++ t ∷ [];
      counted = length_push h.turns t ∙ ap (λ (i : ℕ). i + 1) h.counted;
      answered = turns_more n front h.turns t h.answered (subst (λ (k : Kept). IsTurn n k t) (sym h.leads) is);
      leads = back_more front h.turns t;
      written = subst (Appends old new) (sym (answers_more h.turns t)) (Appends-trans old mid new (answers_of h.turns) text h.written wrote);
    }

-- what was written of one line more is a part of the whole
pub answered_part : (n count : ℕ) (front back : Kept) (old mid new : Option (List ℕ)) → HasAnswered n count front back old mid
    → HasTurnedPart n back mid new → HasAnsweredPart n front old new
answered_part n count front back old mid new h (more, text, ((asks, is), part)) =
    let t : Turn = record { asks = asks; back = more; text = text } in
    record {
      turns = h.turns ++ t ∷ [];
      answered = turns_more n front h.turns t h.answered (subst (λ (k : Kept). IsTurn n k t) (sym h.leads) is);
      written = part_behind old mid new (answers_of (h.turns ++ t ∷ [])) (answers_of h.turns) text []
          (answers_more h.turns t ∙ ap (λ (rest : List ℕ). answers_of h.turns ++ rest) (sym (append-nil text))) h.written part;
    }

-- what was written up to here is a part of itself
pub answered_whole : (n count : ℕ) (front back : Kept) (old new : Option (List ℕ)) → HasAnswered n count front back old new → HasAnsweredPart n front old new
answered_whole n count front back old new h = record { turns = h.turns; answered = h.answered; written = part_of old new (answers_of h.turns) (answers_of h.turns) [] (sym (append-nil (answers_of h.turns))) h.written }

-- the answers behind the first line are what a shell writes
pub talked : (n count : ℕ) (back : Kept) (old mid new : Option (List ℕ)) → Appends old mid GREETING.now → HasAnswered n count nothing_kept back mid new
    → HasTalked n count old new
talked n count back old mid new greeted h = record { turns = h.turns; counted = h.counted; answered = h.answered; written = Appends-trans old mid new GREETING.now (answers_of h.turns) greeted h.written }

-- a part of the answers behind the first line is a part of what a shell writes
pub talked_part : (n : ℕ) (old mid new : Option (List ℕ)) → Appends old mid GREETING.now → HasAnsweredPart n nothing_kept mid new → HasTalkedPart n old new
talked_part n old mid new greeted h = record {
  turns = h.turns;
  answered = h.answered;
  written = part_behind old mid new (text_of_turns h.turns) GREETING.now (answers_of h.turns) []
      (ap (λ (rest : List ℕ). GREETING.now ++ rest) (sym (append-nil (answers_of h.turns)))) greeted h.written;
}

-- a part of the first line is one
pub greeted_part : (n : ℕ) (old new : Option (List ℕ)) → AppendsPart old new GREETING.now → HasTalkedPart n old new
greeted_part n old new part = record { turns = []; answered = tt; written = subst (AppendsPart old new) (sym (append-nil GREETING.now)) part }

-- nothing is a part, too
pub silent_part : (n : ℕ) (out : Option (List ℕ)) → HasTalkedPart n out out
silent_part n out = record { turns = []; answered = tt; written = (0, Appends-nil out) }
