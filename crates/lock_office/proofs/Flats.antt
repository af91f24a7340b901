-- The calls of programs, laid end to end.
use Rattle.std.proofs.Common.{◌≡◌, ℕ, ◌≤◌, List, [], ◌∷◌, ◌++◌, refl, sym, ap, ◌∙◌, append_assoc}
use Rattle.std.specs.Prelude.{All}
use Rattle.std.proofs.lemmas.List.Elements.{All-nil, All-cons, All-head, All-tail, All-append}
use Rattle.sequential.specs.declared.entry.Entry.{Entry}
use Rattle.sequential.specs.Histories.{Answered, IsEntryWithin}
use Rattle.programs.specs.Form.{Form}
use Rattle.programs.specs.Flat.{entries, answers_from, entries_of, flat, flat_calls}

-- the entries of a session's calls are its own
entries-within : {C R : Type 0} (n s : ℕ) (cs : List C) (rs : List R) → 1 ≤ s → s ≤ n → All (IsEntryWithin n) (entries s cs rs)
entries-within n s [] rs some few = All-nil (IsEntryWithin n)
entries-within n s (c ∷ cs) [] some few = All-nil (IsEntryWithin n)
entries-within n s (c ∷ cs) (r ∷ rs) some few =
    All-cons (IsEntryWithin n) (record { session = s; call = c; reply = r }) (entries s cs rs) (record { some = some; within = few }) (entries-within n s cs rs some few)

module _ {P A C R : Type 0} (form : Form P A C R) where
  -- the calls of sessions in a range are of sessions in it
  pub flat-within : (n : ℕ) (h : List (Entry P A)) → All (IsEntryWithin n) h → All (IsEntryWithin n) (flat form h)
  flat-within n [] all = All-nil (IsEntryWithin n)
  flat-within n (e ∷ es) all =
      let here = All-head (IsEntryWithin n) e es all in
      All-append (IsEntryWithin n) (entries_of form e) (flat form es)
      (entries-within n e.session (form.calls e.call) (form.replies e.call e.reply) here.some here.within)
      (flat-within n es (All-tail (IsEntryWithin n) e es all))

  -- the calls of more programs follow those of the others
  pub flat_calls-append : (xs ys : List (Answered P A)) → flat_calls form (xs ++ ys) ≡ flat_calls form xs ++ flat_calls form ys
  flat_calls-append [] ys = refl
  flat_calls-append (x ∷ xs) ys =
      let own : List (Answered C R) = answers_from (form.first x.reply) (form.calls x.call) (form.replies x.call x.reply) in
      ap (λ (l : List (Answered C R)). own ++ l) (flat_calls-append xs ys) ∙ sym (append_assoc own (flat_calls form xs) (flat_calls form ys))
