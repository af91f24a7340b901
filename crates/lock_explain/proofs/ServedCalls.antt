-- The last call of a history.
use Rattle.std.proofs.Common.{◌≡◌, ℕ, List, [], ◌∷◌, ◌++◌, ◌∙◌, ap, subst}
use Rattle.std.specs.List.{All}
use Rattle.std.proofs.lemmas.List.Elements.{All-nil, All-cons, All-head, All-tail}
use Rattle.lock_rules.specs.Entries.{Entry}
use Rattle.lock_rules.specs.Legal.{state_of, IsLegal}
use Rattle.lock_rules.proofs.Histories.{legal-steps, state_of-push}
use Rattle.sequential.specs.Histories.{IsEntryWithin}
use Rattle.lock_explain.specs.inner.Served.{IsServed}

-- what holds of each entry of a list holds of those before the last
but-last : (P : Entry → Type 0) (es : List Entry) (e : Entry) → All P (es ++ e ∷ []) → All P es
but-last P [] e a = All-nil P
but-last P (f ∷ es) e a = All-cons P f es (All-head P f (es ++ e ∷ []) a) (but-last P es e (All-tail P f (es ++ e ∷ []) a))

-- and of the last
of-last : (P : Entry → Type 0) (es : List Entry) (e : Entry) → All P (es ++ e ∷ []) → P e
of-last P [] e a = All-head P e [] a
of-last P (f ∷ es) e a = of-last P es e (All-tail P f (es ++ e ∷ []) a)

-- the last entry of a legal history was served after the entries before it
pub is-served : (n m : ℕ) (history now : List Entry) (e : Entry) → m ≡ n → now ≡ history ++ e ∷ [] → IsLegal now → All (IsEntryWithin m) now → IsServed n history e (state_of now)
is-served n m history now e same is legal within =
    let all : All (IsEntryWithin n) (history ++ e ∷ []) = subst (λ (es : List Entry). All (IsEntryWithin n) es) is (subst (λ (k : ℕ). All (IsEntryWithin k) now) same within) in
    record {
      entries = but-last (IsEntryWithin n) history e all;
      session = of-last (IsEntryWithin n) history e all;
      reply = legal-steps now legal history [] e is;
      state = ap state_of is ∙ state_of-push history e;
    }
