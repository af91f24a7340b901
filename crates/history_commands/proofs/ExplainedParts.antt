-- Explanations of calls: what `explain` ensures of a text that was written in part, and the accounts of one entry more.
use Rattle.std.proofs.Common.{◌≡◌, ◌∙◌, ℕ, ◌+◌, ◌<◌, Bool, true, false, List, [], ◌∷◌, ◌++◌, Option, Some, None, IfSome, IfNone, Ok, Err, length, take, get_or, refl, sym, ap, subst, append_assoc, append-nil}
use Rattle.std.specs.List.{All}
use Rattle.lock_rules.specs.Entries.{Entry}
use Rattle.lock_trace.specs.Entries.{IsEntry}
use Rattle.lock_trace.specs.ReadHistories.{history_of}
use Rattle.history_commands.specs.Explaining.{AreAccounts, Explains, HasExplainedPart, IsAccount, IsAccountIfEventful, IsExplained, is_entry_eventful}
use Rattle.replay_commands.specs.Written.{AppendsPart}
use Rattle.replay_commands.proofs.IsVerdict.{one_more}
use Rattle.command_line.specs.declared.args.Form.{Form}
use Rattle.replay_commands.specs.declared.checking.Verdict.{Verdict}
use Rattle.history_commands.specs.declared.show_fault.ShowFault.TheVariants as show

-- an explanation whose writer failed was written in part
pub explain_part : (form : Form) (n : ℕ) (asked : Option ℕ) (history : List Entry) (found : Verdict) (text : List ℕ) (old new : Option (List ℕ))
    → All (IsEntry n) history → IsExplained form n asked found history text → AppendsPart old new text → HasExplainedPart form n asked old new
explain_part form n asked history found text old new are is part = (history, found, text, (are, is, part))

-- likewise for known bytes
pub explain_part_known : (form : Form) (n : ℕ) (asked : Option ℕ) (bytes : List ℕ) (history : List Entry) (found : Verdict) (text : List ℕ) (old new : Option (List ℕ))
    → history_of n bytes ≡ Ok history → IsExplained form n asked found history text → AppendsPart old new text
    → Explains form n asked bytes old new (Err show.Device)
explain_part_known form n asked bytes history found text old new read is part = (history, found, text, (read, is, part))

-- the text is the account of the entry behind these entries, if that is told
abbrev pub IsToldBehind : Form → ℕ → List Entry → Entry → List ℕ → Type 0
IsToldBehind form n front e added = IsAccountIfEventful (is_entry_eventful n front e) form n front e added

-- the accounts of one entry more, which follows the others
pub accounts_grow : (form : Form) (n : ℕ) (front es : List Entry) (e : Entry) (text added : List ℕ) → AreAccounts form n front es text
    → IsToldBehind form n (front ++ es) e added → AreAccounts form n front (es ++ e ∷ []) (text ++ added)
accounts_grow form n front [] e text added are told = (
  added,
  [],
  (
    subst (λ (xs : List Entry). IsToldBehind form n xs e added) (append-nil front) told,
    refl,
    ap (λ (xs : List ℕ). xs ++ added) are ∙ sym (append-nil added),
  ),
)
accounts_grow form n front (d ∷ es) e text added (first, rest, (own, others, is)) told =
    let behind = subst (λ (xs : List Entry). IsToldBehind form n xs e added) (sym (append_assoc front (d ∷ []) es)) told in (
      first,
      rest ++ added,
      (
        own,
        accounts_grow form n (front ++ d ∷ []) es e rest added others behind,
        ap (λ (xs : List ℕ). xs ++ added) is ∙ append_assoc first rest added,
      ),
    )

-- what is known of nothing, and of something
pub of_none : {X : Type 0} (o : Option X) (P : Type 0) → o ≡ None → IfNone o P → P
of_none o P is = subst (λ (p : Option _). IfNone p P) is

pub of_some : {X : Type 0} (o : Option X) (x : X) (P : X → Type 0) → o ≡ Some x → IfSome o P → P x
of_some o x P is = subst (λ (p : Option _). IfSome p P) is

-- the account of an entry that is told
pub account_told : (form : Form) (n : ℕ) (front : List Entry) (e : Entry) (account : List ℕ) → is_entry_eventful n front e ≡ true
    → IsAccount form n front e account → IsToldBehind form n front e account
account_told form n front e account told is = subst (λ (b : Bool). IsAccountIfEventful b form n front e account) (sym told) is

-- nothing is written of an entry that isn't told
pub nothing_told : (form : Form) (n : ℕ) (front : List Entry) (e : Entry) → is_entry_eventful n front e ≡ false → IsToldBehind form n front e []
nothing_told form n front e untold = subst (λ (b : Bool). IsAccountIfEventful b form n front e []) (sym untold) refl

-- the history grown by an entry whose reply is the recorded one
pub served_more : (es : List Entry) (i : ℕ) (e : Entry) (before after : List Entry) → i < length es → e ≡ get_or es i e → before ≡ take i es
    → after ≡ before ++ e ∷ [] → after ≡ take (i + 1) es
served_more es i e before after lt is so_far more = one_more es i e e.reply before after lt is so_far more refl

-- the accounts of the entries so far, and of one more
pub told_more : (form : Form) (n m : ℕ) (es : List Entry) (i : ℕ) (e : Entry) (front : List Entry) (old new : List ℕ) → i < length es → e ≡ get_or es i e
    → m ≡ n → front ≡ take i es → AreAccounts form n [] (take i es) old → (added : List ℕ) × (IsToldBehind form m front e added × (new ≡ old ++ added))
    → AreAccounts form n [] (take (i + 1) es) new
told_more form n m es i e front old new lt is sessions so_far are (added, (told, grows)) =
    let there = subst (λ (k : ℕ). IsToldBehind form k (take i es) e added) sessions (subst (λ (xs : List Entry). IsToldBehind form m xs e added) so_far told) in
    subst (λ (xs : List Entry). AreAccounts form n [] xs new) (served_more es i e (take i es) (take i es ++ e ∷ []) lt is refl refl)
    (subst (AreAccounts form n [] (take i es ++ e ∷ [])) (sym grows) (accounts_grow form n [] (take i es) e old added are there))
