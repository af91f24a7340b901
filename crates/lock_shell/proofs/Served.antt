-- A history grows by entries, and a text by their lines.
use Rattle.std.proofs.Common.{◌≡◌, ◌∙◌, ◌+◌, ◌-◌, ◌<◌, ℕ, suc, true, false, List, [], ◌∷◌, ◌++◌, Some, add-one, length, take, take-suc, take_all, get_or, map, min, inl, inr, refl, sym, ap, subst, append_assoc, append-nil, arith}
use Rattle.std.specs.List.{range_with_len}
use Rattle.std.specs.Prelude.{slice_get}
use Rattle.std.proofs.Math.Seq.{get_or-append_seam, take-append_seam}
use Rattle.std.proofs.lemmas.List.{map_push, length_push, take_min}
use Rattle.std.proofs.lemmas.List.Elements.{All-push, All-take}
use Rattle.std.proofs.lemmas.Option.{slice_get_read}
use Rattle.lock_modes.specs.declared.Mode.{Mode}
use Rattle.lock_rules.specs.declared.calls.Call.{Call}
use Rattle.lock_rules.specs.declared.calls.Reply.{Reply}
use Rattle.lock_rules.specs.Entries.{Entry}
use Rattle.lock_rules.specs.Legal.{IsLegal, state_of}
use Rattle.lock_rules.proofs.Histories.{legal-steps}
use Rattle.lock_rules.specs.Step.{step}
use Rattle.lock_explain.specs.declared.explanation.Explanation.{Explanation}
use Rattle.lock_explain.specs.Explanations.{IsExplanation}
use Rattle.lock_trace.specs.declared.trace_row.TraceRow.{TraceRow}
use Rattle.lock_trace.specs.Histories.{row_of_entry}
use Rattle.lock_shell.specs.Replies.{IsReplied, text_of_reply}
use Rattle.lock_desk.specs.BookView.{BookView}
use Rattle.replay_commands.proofs.IsVerdict.{fewer, grown as grown_front, one_more}
use Rattle.lock_desk.specs.Paths.{grants, lock_of_level}
use Rattle.lock_shell.specs.Turns.{AreGranted, AreReplied, HasServed, HasServedPath, HasServedRows, IsUndone, path_row}
use Rattle.lock_shell.specs.inner.Desks.{AreAlike, kept_in}
use Rattle.lock_shell.specs.inner.Parts.{HasServedLevels}
use Rattle.lock_rules.proofs.Ranges.{one-behind}

-- the line of one entry, with what explains its reply
pub one_served : (n : ℕ) (front back : List Entry) (e : Entry) (x : Explanation) (old new : List ℕ) → back ≡ front ++ e ∷ []
    → e.reply ≡ (step (state_of front) e.session e.call).reply → IsExplanation n (state_of front) e.session e.call x
    → new ≡ old ++ text_of_reply (length front) e x → HasServed n front back (e ∷ []) old new
one_served n front back e x old new more given why told = record {
  added = text_of_reply (length front) e x;
  served = more;
  replied = (
    text_of_reply (length front) e x,
    [],
    (record { explanation = x; given = given; is_why = why; text_is = refl }, refl, sym (append-nil (text_of_reply (length front) e x))),
  );
  told = told;
}

-- the lines of one entry more, which follows the others
replied_more : (n : ℕ) (front es : List Entry) (e : Entry) (text added : List ℕ) → AreReplied n front es text → IsReplied n (front ++ es) e added
    → AreReplied n front (es ++ e ∷ []) (text ++ added)
replied_more n front [] e text added are told = (
  added,
  [],
  (
    subst (λ (xs : List Entry). IsReplied n xs e added) (append-nil front) told,
    refl,
    ap (λ (xs : List ℕ). xs ++ added) are ∙ sym (append-nil added),
  ),
)
replied_more n front (d ∷ es) e text added (first, rest, (own, others, is)) told =
    let behind = subst (λ (xs : List Entry). IsReplied n xs e added) (sym (append_assoc front (d ∷ []) es)) told in (
      first,
      rest ++ added,
      (
        own,
        replied_more n (front ++ d ∷ []) es e rest added others behind,
        ap (λ (xs : List ℕ). xs ++ added) is ∙ append_assoc first rest added,
      ),
    )

-- nothing was served yet
pub none_served : (n : ℕ) (front : List Entry) (old : List ℕ) → HasServed n front front [] old old
none_served n front old = record { added = []; served = sym (append-nil front); replied = refl; told = sym (append-nil old) }

-- one entry more was served
pub served_more : (n : ℕ) (front back more es : List Entry) (e : Entry) (old mid new : List ℕ) → HasServed n front back es old mid
    → HasServed n back more (e ∷ []) mid new → HasServed n front more (es ++ e ∷ []) old new
served_more n front back more es e old mid new h k =
    let (first, rest, (own, none, is)) = k.replied in
    let added_is : k.added ≡ first = is ∙ ap (λ (r : List ℕ). first ++ r) none ∙ append-nil first in
    let there : IsReplied n (front ++ es) e k.added = subst (λ (xs : List Entry). IsReplied n xs e k.added) h.served (subst (IsReplied n back e) (sym added_is) own) in
    record {
      added = h.added ++ k.added;
      served = k.served ∙ ap (λ (xs : List Entry). xs ++ e ∷ []) h.served ∙ append_assoc front es (e ∷ []);
      replied = replied_more n front es e h.added k.added h.replied there;
      told = k.told ∙ ap (λ (t : List ℕ). t ++ k.added) h.told ∙ append_assoc old h.added k.added;
    }

-- the call of one row more was served
pub rows_more : (n : ℕ) (rows : List TraceRow) (row : TraceRow) (front back more : List Entry) (e : Entry) (old mid new : List ℕ)
    → HasServedRows n rows front back old mid → HasServed n back more (e ∷ []) mid new → row_of_entry e ≡ row
    → HasServedRows n (rows ++ row ∷ []) front more old new
rows_more n rows row front back more e old mid new h k is = record {
  served = h.served ++ e ∷ [];
  calls = map_push row_of_entry h.served e ∙ ap (λ (rs : List TraceRow). rs ++ row_of_entry e ∷ []) h.calls ∙ ap (λ (r : TraceRow). rows ++ r ∷ []) is;
  told = served_more n front back more h.served e old mid new h.told k;
}

-- no row was served yet
pub no_rows : (n : ℕ) (front : List Entry) (old : List ℕ) → HasServedRows n [] front front old old
no_rows n front old = record { served = []; calls = refl; told = none_served n front old }

-- no level was served yet
pub no_levels : (n s : ℕ) (r : List ℕ) (m : Mode) (front : List Entry) (old : List ℕ) → HasServedLevels n s r m 0 front front old old
no_levels n s r m front old = record { served = []; count = refl; calls = refl; granted = λ k x lt. absurd (omega (arith, lt)); told = none_served n front old }

-- the rows of the calls of one level more
rows_of_levels : (s : ℕ) (r : List ℕ) (m : Mode) (level : ℕ) (es : List Entry) (e : Entry) → map row_of_entry es ≡ map (path_row s r m) (range_with_len 1 level)
    → row_of_entry e ≡ path_row s r m (level + 1) → map row_of_entry (es ++ e ∷ []) ≡ map (path_row s r m) (range_with_len 1 (level + 1))
rows_of_levels s r m level es e calls is =
    let next : level + 1 ≡ suc level = omega arith in
    let at : 1 + level ≡ level + 1 = omega arith in
    map_push row_of_entry es e ∙ ap (λ (rs : List TraceRow). rs ++ row_of_entry e ∷ []) calls
    ∙ ap (λ (x : TraceRow). map (path_row s r m) (range_with_len 1 level) ++ x ∷ []) is
    ∙ sym (ap (λ (i : ℕ). map (path_row s r m) (range_with_len 1 i)) next ∙ ap (map (path_row s r m)) (one-behind 1 level (level + 1) at)
    ∙ map_push (path_row s r m) (range_with_len 1 level) (level + 1))

-- one level more was served, and granted
pub levels_more : (n s : ℕ) (r : List ℕ) (m : Mode) (level : ℕ) (front back more : List Entry) (e : Entry) (old mid new : List ℕ)
    → HasServedLevels n s r m level front back old mid → HasServed n back more (e ∷ []) mid new → row_of_entry e ≡ path_row s r m (level + 1)
    → grants e.reply ≡ true → HasServedLevels n s r m (level + 1) front more old new
levels_more n s r m level front back more e old mid new h k is granted = record {
  served = h.served ++ e ∷ [];
  count = length_push h.served e ∙ ap (λ (i : ℕ). i + 1) h.count;
  calls = rows_of_levels s r m level h.served e h.calls is;
  granted = All-push (λ (x : Entry). grants x.reply ≡ true) h.served e h.granted granted;
  told = served_more n front back more h.served e old mid new h.told k;
}

-- how many entries are in front of the last one
all_but_one : (es : List Entry) (e : Entry) → length (es ++ e ∷ []) - 1 ≡ length es
all_but_one es e = omega (arith, length_push es e)

-- the entries without the last one
but_last : (es : List Entry) (e : Entry) → take (length (es ++ e ∷ []) - 1) (es ++ e ∷ []) ≡ es
but_last es e = ap (λ (i : ℕ). take i (es ++ e ∷ [])) (all_but_one es e) ∙ take-append_seam es (e ∷ [])

-- the last one
last_is : (es : List Entry) (e : Entry) → slice_get (es ++ e ∷ []) (length (es ++ e ∷ []) - 1) ≡ Some e
last_is es e =
    let all = es ++ e ∷ [] in
    let at : e ≡ get_or all (length es) e = sym (get_or-append_seam es e [] e) in
    ap (slice_get all) (all_but_one es e) ∙ slice_get_read all (length all) (length es) e refl (omega (arith, length_push es e)) at

-- one level more was served, and not granted: the path stops
pub levels_stop : (n s : ℕ) (r : List ℕ) (m : Mode) (level : ℕ) (front back more : List Entry) (e : Entry) (old mid new : List ℕ)
    → HasServedLevels n s r m level front back old mid → HasServed n back more (e ∷ []) mid new → row_of_entry e ≡ path_row s r m (level + 1)
    → level < length r → grants e.reply ≡ false → HasServedPath n s r m front more old new
levels_stop n s r m level front back more e old mid new h k is lt denied =
    let count : length (h.served ++ e ∷ []) ≡ level + 1 = length_push h.served e ∙ ap (λ (i : ℕ). i + 1) h.count in
    record {
      served = h.served ++ e ∷ [];
      few = omega (arith, count, lt);
      calls = rows_of_levels s r m level h.served e h.calls is ∙ ap (λ (i : ℕ). map (path_row s r m) (range_with_len 1 i)) (sym count);
      goes_on = subst AreGranted (sym (but_last h.served e)) h.granted;
      ends = inr (e, (last_is h.served e, denied));
      told = served_more n front back more h.served e old mid new h.told k;
    }

-- all levels were served, and granted: the path is locked
pub levels_end : (n s : ℕ) (r : List ℕ) (m : Mode) (level : ℕ) (front back : List Entry) (old new : List ℕ) → level ≡ length r
    → HasServedLevels n s r m level front back old new → HasServedPath n s r m front back old new
levels_end n s r m level front back old new all h = record {
  served = h.served;
  few = omega (arith, all, h.count);
  calls = h.calls ∙ ap (λ (i : ℕ). map (path_row s r m) (range_with_len 1 i)) (sym h.count);
  goes_on = All-take (λ (x : Entry). grants x.reply ≡ true) (length h.served - 1) h.served h.granted;
  ends = inl (h.count ∙ all);
  told = h.told;
}

-- the entry of a call
abbrev pub entry_of : ℕ → Call → Reply → Entry
entry_of s call r = record { session = s; call = call; reply = r }

-- a book that has served one call more
abbrev pub grown : BookView → ℕ → Call → Reply → List ℕ → BookView
grown b s call r ended = record b { history = b.history ++ entry_of s call r ∷ []; ended = ended }

-- both books have served the same call
pub alike_more : (n s : ℕ) (call : Call) (r q : Reply) (ended others : List ℕ) (before after before2 after2 : BookView) → AreAlike n before after
    → after2 ≡ grown after s call r ended → r ≡ (step (state_of after.history) s call).reply
    → before2 ≡ grown before s call q others → q ≡ (step (state_of before.history) s call).reply → AreAlike n before2 after2
alike_more n s call r q ended others before after before2 after2 alike one by_one two by_two =
    let same : q ≡ r = by_two ∙ ap (λ (es : List Entry). (step (state_of es) s call).reply) alike.history ∙ sym by_one in
    record {
      sessions = ap (λ (b : BookView). b.sessions) two ∙ alike.sessions;
      others = ap (λ (b : BookView). b.sessions) one ∙ alike.others;
      history = ap (λ (b : BookView). b.history) two ∙ ap (λ (es : List Entry). es ++ entry_of s call q ∷ []) alike.history
          ∙ ap (λ (p : Reply). after.history ++ entry_of s call p ∷ []) same ∙ sym (ap (λ (b : BookView). b.history) one);
      all = ap (λ (b : BookView). b.cut) one ∙ alike.all;
      unbounded = ap (λ (b : BookView). b.bound) one ∙ alike.unbounded;
    }

-- a call of a legal history that is served again gets the reply that it had
pub again_more : (es : List Entry) (i : ℕ) (e : Entry) (given : Reply) (before after : List Entry) → IsLegal es → i < length es → e ≡ get_or es i e → before ≡ take i es
    → after ≡ before ++ entry_of e.session e.call given ∷ [] → given ≡ (step (state_of before) e.session e.call).reply → after ≡ take (i + 1) es
again_more es i e given before after legal lt is so_far more by_step =
    let whole : IsLegal (take (length es) es) = subst IsLegal (sym (take_all (length es) es (omega arith))) legal in
    let front : IsLegal (take (i + 1) es) = fewer es (i + 1) (length es) (omega (arith, lt)) whole in
    let own : e.reply ≡ (step (state_of (take i es)) e.session e.call).reply = legal-steps (take (i + 1) es) front (take i es) [] e (grown_front es i e lt is) in
    let there : given ≡ (step (state_of (take i es)) e.session e.call).reply = by_step ∙ ap (λ (xs : List Entry). (step (state_of xs) e.session e.call).reply) so_far in
    one_more es i e given before after lt is so_far more (there ∙ sym own)

-- the items up to the next one
pub take_next : {X : Type 0} (xs : List X) (i : ℕ) (x : X) → i < length xs → x ≡ get_or xs i x → take (i + 1) xs ≡ take i xs ++ x ∷ []
take_next {X} xs i x lt is = ap (λ (k : ℕ). take k xs) (add-one i) ∙ take-suc xs i x lt ∙ ap (λ (y : X). take i xs ++ (y ∷ [])) (sym is)

-- the call of one row was served, with a text of its own
pub row_served : (n : ℕ) (row : TraceRow) (r : Reply) (front back : List Entry) (old new : List ℕ) → old ≡ []
    → HasServed n front back (entry_of row.session row.call r ∷ []) old new → HasServedRows n (row ∷ []) front back [] new
row_served n row r front back old new none h = record { served = entry_of row.session row.call r ∷ []; calls = refl; told = subst (λ (text : List ℕ). HasServed n front back (entry_of row.session row.call r ∷ []) text new) none h }

-- the entry of a call that locks a level is of the row of the level
pub row_of_level : (s : ℕ) (r : List ℕ) (m : Mode) (k : ℕ) (call : Call) (given : Reply) → call ≡ lock_of_level r m k → row_of_entry (entry_of s call given) ≡ path_row s r m k
row_of_level s r m k call given is = ap (λ (c : Call). row_of_entry (entry_of s c given)) is

-- the calls behind the last mark were taken back
pub undone : (after again : BookView) (old new : List ℕ) (mark kept : ℕ) → old ≡ new ++ mark ∷ [] → kept ≡ min mark (length after.history)
    → again.history ≡ take kept after.history → IsUndone (kept_in after old) (kept_in again new)
undone after again old new mark kept marks is served =
    inr (mark, (marks, served ∙ ap (λ (k : ℕ). take k after.history) is ∙ take_min mark after.history))
