-- The text of a history is read as its records.
use Rattle.std.proofs.Common.{◌≡◌, ℕ, ◌+◌, ◌<◌, ◌%◌, ◌^◌, Bool, false, List, [], ◌∷◌, ◌++◌, length, Some, refl, sym, ap, ◌∙◌, append_assoc, arith, ne_eqb}
use Rattle.std.specs.Prelude.{decimal}
use Rattle.std.specs.List.{list_any, AllByRecursion}
use Rattle.std.proofs.lemmas.Fmt.{decimal_by_steps, decimal_digit}
use Rattle.std.proofs.lemmas.List.Elements.{recursion_from_All}
use Rattle.std.proofs.lemmas.List.Folds.{list_any-append}
use Rattle.csv.specs.Machine.{next_record}
use Rattle.csv.specs.Reading.{default_config, strip_bom}
use Rattle.csv.specs.Writing.{default_writer, needs_byte, fields_text, row_text}
use Rattle.csv.specs.declared.parser.State.TheVariants as st
use Rattle.csv.proofs.RoundTrip.{read-write}
use Rattle.lock_modes.specs.declared.Mode.{Mode}
use Rattle.lock_modes.specs.declared.Mode.TheVariants.{NL, IS, IX, S, SIX, U, X}
use Rattle.lock_modes.specs.Codes.{name_of}
use Rattle.lock_tree.specs.Paths.{IsResource}
use Rattle.lock_tree.specs.Text.{text_of}
use Rattle.lock_rules.specs.declared.calls.Call.{Call}
use Rattle.lock_rules.specs.declared.calls.Call.TheVariants as call
use Rattle.lock_rules.specs.declared.calls.Reply.{Reply}
use Rattle.lock_rules.specs.declared.calls.Reply.TheVariants as reply
use Rattle.lock_rules.specs.declared.calls.Why.{Why}
use Rattle.lock_rules.specs.declared.calls.Why.TheVariants as why
use Rattle.lock_rules.specs.Entries.{Entry}
use Rattle.lock_rules.specs.Names.{name_of_why}
use Rattle.lock_trace.specs.Rows.{fields_of_call, HasResources}
use Rattle.lock_trace.specs.Records.{records_on, records_of}
use Rattle.lock_trace.specs.Histories.{fields_of_reply, fields_of_entry, records_of_history, after_commas, line_of, lines_of, text_of_history, ReplyFits, EntryFits, AllFit}
use Rattle.lock_trace.specs.Files.{fields_from}
use Rattle.lock_trace.proofs.RecordSteps.{after_next}

-- A byte of the field would make csv quote it.
abbrev is_special : List ℕ → Bool
is_special f = list_any (needs_byte default_writer) f

-- A digit needs no quotes.
digit_plain : (n : ℕ) → n < 10 → needs_byte default_writer (48 + n) ≡ false
digit_plain n lt = rw (ne_eqb (48 + n) 44 (λ e. omega (arith, e)), ne_eqb (48 + n) 34 (λ e. omega (arith, e)), ne_eqb (48 + n) 13 (λ e. omega (arith, e)), ne_eqb (48 + n) 10 (λ e. omega (arith, e))) refl

-- Two texts that need no quotes need none together.
special_append : (xs ys : List ℕ) → is_special xs ≡ false → is_special ys ≡ false → is_special (xs ++ ys) ≡ false
special_append xs ys a b = list_any-append (needs_byte default_writer) xs ys ∙ rw (a, b) refl

-- A decimal number needs no quotes.
decimal_plain : (n : ℕ) → n < 18446744073709551616 → is_special (decimal n) ≡ false
decimal_plain n lt = decimal_by_steps (λ n bs. is_special bs ≡ false) (λ m small. rw (digit_plain m small) refl) (λ m ds big so_far. special_append ds ((48 + m % 10) ∷ []) so_far (rw (digit_plain (m % 10) (omega arith)) refl)) n lt

-- The name of a mode needs no quotes.
mode_plain : (m : Mode) → is_special (name_of m) ≡ false
mode_plain NL = refl
mode_plain IS = refl
mode_plain IX = refl
mode_plain S = refl
mode_plain SIX = refl
mode_plain U = refl
mode_plain X = refl

-- The name of a reason of a refusal needs no quotes.
why_plain : (w : Why) → is_special (name_of_why w) ≡ false
why_plain why.AlreadyOpen = refl
why_plain why.NoTransaction = refl
why_plain why.IsWaiting = refl
why_plain why.IsDoomed = refl
why_plain why.NothingAsked = refl
why_plain why.NotHeld = refl
why_plain why.ParentNotHeld = refl
why_plain why.ChildHeld = refl
why_plain why.TooManyLocks = refl
why_plain why.WouldWait = refl
why_plain why.NotWaiting = refl

-- The path of 32-bit numbers needs no quotes.
joined_plain : (r : List ℕ) → AllByRecursion (λ n. n < 2 ^ 32) r → is_special (text_of r) ≡ false
joined_plain [] small = refl
joined_plain (n ∷ []) small = decimal_plain n (omega (arith, small.0))
joined_plain (n ∷ m ∷ ns) small = special_append (decimal n) (47 ∷ text_of (m ∷ ns)) (decimal_plain n (omega (arith, small.0))) (rw (joined_plain (m ∷ ns) small.1) refl)

-- The path of a resource needs no quotes.
resource_plain : (r : List ℕ) → IsResource r → is_special (text_of r) ≡ false
resource_plain r h = joined_plain r (recursion_from_All (λ n. n < 2 ^ 32) r h.small)

-- No field needs quotes.
abbrev ArePlain : List (List ℕ) → Type 0
ArePlain [] = Unit {0}
ArePlain (f ∷ fs) = (is_special f ≡ false) × ArePlain fs

-- The fields of a reply need no quotes.
reply_plain : (r : Reply) → ReplyFits r → ArePlain (fields_of_reply r)
reply_plain (reply.Began n) fits = (refl, (decimal_plain n fits, tt))
reply_plain (reply.Granted m) fits = (refl, (mode_plain m, tt))
reply_plain reply.Waiting fits = (refl, (refl, tt))
reply_plain reply.Deadlock fits = (refl, (refl, tt))
reply_plain reply.Clear fits = (refl, (refl, tt))
reply_plain reply.Released fits = (refl, (refl, tt))
reply_plain reply.Withdrawn fits = (refl, (refl, tt))
reply_plain (reply.Committed n) fits = (refl, (decimal_plain n fits, tt))
reply_plain (reply.Aborted n) fits = (refl, (decimal_plain n fits, tt))
reply_plain (reply.Restarted n) fits = (refl, (decimal_plain n fits, tt))
reply_plain (reply.Refused w) fits = (refl, (why_plain w, tt))

-- The fields of a call need no quotes.
call_plain : (c : Call) (fs : List (List ℕ)) → HasResources c → ArePlain fs → ArePlain (fields_of_call c ++ fs)
call_plain call.Begin fs has rest = (refl, (refl, (refl, rest)))
call_plain (call.Lock r m) fs has rest = (refl, (resource_plain r has, (mode_plain m, rest)))
call_plain (call.Convert r m) fs has rest = (refl, (resource_plain r has, (mode_plain m, rest)))
call_plain call.Poll fs has rest = (refl, (refl, (refl, rest)))
call_plain (call.Release r) fs has rest = (refl, (resource_plain r has, (refl, rest)))
call_plain call.Commit fs has rest = (refl, (refl, (refl, rest)))
call_plain call.Abort fs has rest = (refl, (refl, (refl, rest)))
call_plain (call.Try r m) fs has rest = (refl, (resource_plain r has, (mode_plain m, rest)))
call_plain call.Withdraw fs has rest = (refl, (refl, (refl, rest)))
call_plain call.Restart fs has rest = (refl, (refl, (refl, rest)))

-- The fields of an entry need no quotes.
entry_plain : (place : ℕ) (e : Entry) → place < 18446744073709551616 → EntryFits e → ArePlain (fields_of_entry place e)
entry_plain place e lt fits = (decimal_plain place lt, (decimal_plain e.session fits.session, call_plain e.call (fields_of_reply e.reply) fits.resources (reply_plain e.reply fits.reply)))

-- The csv writer would write the same lines.

-- Fields that need no quotes are written by csv with a comma before each, as they are.
fields_plain : (fs : List (List ℕ)) → ArePlain fs → fields_text default_writer fs ≡ after_commas fs
unfolding fields_text after_commas
fields_plain [] plain = refl
fields_plain (f ∷ fs) plain = rw (plain.0, fields_plain fs plain.1) refl

-- The line of such fields is the line that csv would write.
line_is : (f g : List ℕ) (fs : List (List ℕ)) → ArePlain (f ∷ g ∷ fs) → row_text default_writer (f ∷ g ∷ fs) ≡ line_of (f ∷ g ∷ fs)
unfolding Rattle.csv.specs.Writing.is_blank
line_is f g fs plain = rw (plain.0, fields_plain (g ∷ fs) plain.1) (append_assoc f (after_commas (g ∷ fs)) (10 ∷ []))

-- The csv reader reads them back.

-- A line of at least two such fields is read back as these fields.
line_back : (f g : List ℕ) (fs : List (List ℕ)) (rest : List ℕ) → ArePlain (f ∷ g ∷ fs) → records_on st.StartRecord [] [] (line_of (f ∷ g ∷ fs) ++ rest) ≡ (f ∷ g ∷ fs) ∷ records_on st.StartRecord [] [] rest
line_back f g fs rest plain =
    let next : next_record default_config st.StartRecord [] [] (line_of (f ∷ g ∷ fs) ++ rest) ≡ Some (f ∷ g ∷ fs, st.StartRecord, rest) =
    ap (λ (t : List ℕ). next_record default_config st.StartRecord [] [] (t ++ rest)) (sym (line_is f g fs plain)) ∙ read-write (f ∷ g ∷ fs) rest in
    after_next st.StartRecord [] [] (line_of (f ∷ g ∷ fs) ++ rest) ∙ rw next refl

-- The lines of entries are read back as their fields.
lines_back : (place : ℕ) (es : List Entry) → place + length es < 18446744073709551616 → AllByRecursion EntryFits es → records_on st.StartRecord [] [] (lines_of (fields_from fields_of_entry place es)) ≡ fields_from fields_of_entry place es
unfolding records_on
lines_back place [] lt fits = refl
lines_back place (e ∷ es) lt fits =
    let here : place < 18446744073709551616 = omega arith in
    let rest : place + 1 + length es < 18446744073709551616 = omega arith in
    line_back (decimal place) (decimal e.session) (fields_of_call e.call ++ fields_of_reply e.reply) (lines_of (fields_from fields_of_entry (place + 1) es)) (entry_plain place e here fits.0)
    ∙ ap (λ (rs : List (List (List ℕ))). fields_of_entry place e ∷ rs) (lines_back (place + 1) es rest fits.1)

-- The text begins with a digit, so with no byte order mark.

-- A text that begins with the digit 0 and another byte has no byte order mark.
strip_plain : (b : ℕ) (rest : List ℕ) → strip_bom (48 ∷ b ∷ rest) ≡ 48 ∷ b ∷ rest
unfolding strip_bom
strip_plain b [] = refl
strip_plain b (c ∷ rest) = refl

-- A text equal to such a text has no byte order mark.
strip_text : (text : List ℕ) (b : ℕ) (rest : List ℕ) → text ≡ 48 ∷ b ∷ rest → strip_bom text ≡ text
strip_text text b rest e = rw e (strip_plain b rest)

-- The text of a history has no byte order mark.
no_mark : (es : List Entry) → strip_bom (text_of_history es) ≡ text_of_history es
unfolding strip_bom after_commas
no_mark [] = refl
no_mark (e ∷ es) = strip_text (text_of_history (e ∷ es)) 44 (((decimal e.session ++ after_commas (fields_of_call e.call ++ fields_of_reply e.reply)) ++ (10 ∷ [])) ++ lines_of (fields_from fields_of_entry 1 es)) (rw (decimal_digit 0 (omega arith)) refl)

-- The records of a history's text are the fields of its entries.
pub history_back : (es : List Entry) → length es < 2 ^ 64 → AllFit es → records_of (text_of_history es) ≡ records_of_history es
history_back es lt fits = ap (records_on st.StartRecord [] []) (no_mark es) ∙ lines_back 0 es (omega (arith, lt)) (recursion_from_All EntryFits es fits)
