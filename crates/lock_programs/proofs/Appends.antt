-- One more reply.
use Rattle.std.proofs.Common.{◌≡◌, ◌≢◌, ℕ, zero, suc, ◌+◌, ◌<◌, ◌≤◌, true, List, [], ◌∷◌, ◌++◌, length, Some, slice_get, slice_index_or, set, refl, sym, ap, ◌∙◌, arith, get_or-set_other, get_or-set_same}
use Rattle.lock_modes.specs.declared.Mode.{Mode}
use Rattle.lock_modes.specs.declared.Mode.TheVariants.{NL}
use Rattle.lock_rules.specs.declared.calls.Call.{Call}
use Rattle.lock_rules.specs.declared.calls.Call.TheVariants.{Begin, Lock, Convert, Poll, Release, Commit, Abort, Try, Withdraw, Restart}
use Rattle.lock_rules.specs.declared.calls.Reply.{Reply}
use Rattle.lock_rules.specs.declared.calls.Reply.TheVariants.{Began, Granted, Waiting, Deadlock, Clear, Released, Committed, Aborted, Refused, Withdrawn, Restarted}
use Rattle.programs.specs.Form.{AllGoOn}
use Rattle.lock_programs.specs.declared.stop.Stop.{Stop}
use Rattle.lock_programs.specs.declared.stop.Stop.TheVariants.{GoesOn, Waits, IsVictim, IsRefused}
use Rattle.lock_programs.specs.declared.program.Program.{Program}
use Rattle.lock_programs.specs.Calls.{calls_of}
use Rattle.lock_programs.specs.Answers.{NotedReplies, done_with, done_reply, stop_at, stop_reply, reply_at, replies_from, program_form}
use Rattle.lock_programs.specs.Fits.{goes_on_behind, fits}
use Rattle.lock_programs.specs.inner.Noting.{began_after, ended_after, granted_after}
use Rattle.lock_programs.proofs.Lasts.{last-with}
use Rattle.lock_programs.proofs.Shapes.{begin-once, commit-place, abort-place, restart-place}

-- fewer replies than calls were served
pub served-few : (a : NotedReplies) (cs : List Call) (k n : ℕ) → length (replies_from a cs k n) < length cs → n < length cs
served-few a [] k n h = absurd (omega (arith, h))
served-few a (c ∷ cs) k zero h = omega arith
served-few a (c ∷ cs) k (suc n) h = omega (arith, served-few a cs (k + 1) n (omega (arith, h)))

-- as many replies as were served
pub served-length : (a : NotedReplies) (cs : List Call) (k n : ℕ) → n ≤ length cs → length (replies_from a cs k n) ≡ n
served-length a [] k zero h = refl
served-length a [] k (suc n) h = absurd (omega (arith, h))
served-length a (c ∷ cs) k zero h = refl
served-length a (c ∷ cs) k (suc n) h = ap suc (served-length a cs (k + 1) n (omega (arith, h)))

-- a reply behind which the program goes on isn't one at which it stops
no-stop : (s : Stop) (r : Reply) → goes_on_behind (stop_reply s r) ≡ true → s ≡ GoesOn
no-stop GoesOn r h = refl
no-stop Waits r h = absurd (cc)
no-stop IsVictim r h = absurd (cc)
no-stop (IsRefused why) r h = absurd (cc)

-- the program went on behind the last reply
going-stop : (a : NotedReplies) (cs : List Call) (k n : ℕ) → suc n ≤ length cs → AllGoOn program_form (replies_from a cs k (suc n)) → a.stop ≡ GoesOn
going-stop a [] k n l h = absurd (omega (arith, l))
going-stop a (c ∷ cs) k zero l h = no-stop a.stop (done_reply a c k) h.0
going-stop a (c ∷ cs) k (suc n) l h = going-stop a cs (k + 1) n (omega (arith, l)) h.1

-- the reply before the one that is appended
reply-before : (a : NotedReplies) (c : Call) (k n : ℕ) → (suc n ≢ 0 → a.stop ≡ GoesOn) → reply_at a c k n ≡ done_reply a c k
reply-before a c k zero h = ap (λ (s : Stop). stop_reply s (done_reply a c k)) (h (λ e. omega (arith, e)))
reply-before a c k (suc n) h = refl

pub none-from : (a : NotedReplies) (cs : List Call) (k : ℕ) → replies_from a cs k 0 ≡ []
none-from a [] k = refl
none-from a (c ∷ cs) k = refl

-- one more reply, if those before are told as they were
push-from : (old new : NotedReplies) (cs : List Call) (k n : ℕ) (r : Reply) → n < length cs → (n ≢ 0 → old.stop ≡ GoesOn)
    → ((j : ℕ) (c : Call) → j < n → slice_get cs j ≡ Some c → done_reply new c (k + j) ≡ done_reply old c (k + j))
    → ((c : Call) → slice_get cs n ≡ Some c → stop_reply new.stop (done_reply new c (k + n)) ≡ r)
    → replies_from new cs k (suc n) ≡ replies_from old cs k n ++ r ∷ []
push-from old new [] k n r l s f g = absurd (omega (arith, l))
push-from old new (c ∷ cs) k zero r l s f g =
    let z : k ≡ k + 0 = omega arith in
    let e : stop_reply new.stop (done_reply new c k) ≡ r = ap (λ (i : ℕ). stop_reply new.stop (done_reply new c i)) z ∙ g c refl in
    ap (λ (x : List Reply). stop_reply new.stop (done_reply new c k) ∷ x) (none-from new cs (k + 1)) ∙ ap (λ (x : Reply). x ∷ []) e
push-from old new (c ∷ cs) k (suc n) r l s f g =
    let z : k ≡ k + 0 = omega arith in
    let e : done_reply new c k ≡ done_reply old c k = ap (done_reply new c) z ∙ f 0 c (omega arith) refl ∙ ap (done_reply old c) (sym z) in
    let next : replies_from new cs (k + 1) (suc n) ≡ replies_from old cs (k + 1) n ++ r ∷ []
    = push-from old new cs (k + 1) n r (omega (arith, l)) (λ q. s (λ x. omega (arith, x)))
    (λ j d i h. let y : k + suc j ≡ k + 1 + j = omega arith in ap (done_reply new d) (sym y) ∙ f (suc j) d (omega (arith, i)) h ∙ ap (done_reply old d) y)
    (λ d h. let y : k + suc n ≡ k + 1 + n = omega arith in ap (λ (i : ℕ). stop_reply new.stop (done_reply new d i)) (sym y) ∙ g d h) in
    ap (λ (x : Reply). x ∷ replies_from new cs (k + 1) (suc n)) (e ∙ sym (reply-before old c k n s))
    ∙ ap (λ (x : List Reply). reply_at old c k n ∷ x) next

-- a call at each place
call-at : (cs : List Call) (n : ℕ) → n < length cs → (c : Call) × (slice_get cs n ≡ Some c)
call-at [] n h = absurd (omega (arith, h))
call-at (c ∷ cs) zero h = (c, refl)
call-at (c ∷ cs) (suc n) h = call-at cs n (omega (arith, h))

-- the call of a reply
only-begin : (c : Call) (k : ℕ) → fits c (Began k) ≡ true → c ≡ Begin
only-begin Begin k h = refl
only-begin (Lock q m) k h = absurd (cc)
only-begin (Convert q m) k h = absurd (cc)
only-begin Poll k h = absurd (cc)
only-begin (Release q) k h = absurd (cc)
only-begin Commit k h = absurd (cc)
only-begin Abort k h = absurd (cc)
only-begin (Try q m) k h = absurd (cc)
only-begin Withdraw k h = absurd (cc)
only-begin Restart k h = absurd (cc)

only-commit : (c : Call) (k : ℕ) → fits c (Committed k) ≡ true → c ≡ Commit
only-commit Begin k h = absurd (cc)
only-commit (Lock q m) k h = absurd (cc)
only-commit (Convert q m) k h = absurd (cc)
only-commit Poll k h = absurd (cc)
only-commit (Release q) k h = absurd (cc)
only-commit Commit k h = refl
only-commit Abort k h = absurd (cc)
only-commit (Try q m) k h = absurd (cc)
only-commit Withdraw k h = absurd (cc)
only-commit Restart k h = absurd (cc)

only-abort : (c : Call) (k : ℕ) → fits c (Aborted k) ≡ true → c ≡ Abort
only-abort Begin k h = absurd (cc)
only-abort (Lock q m) k h = absurd (cc)
only-abort (Convert q m) k h = absurd (cc)
only-abort Poll k h = absurd (cc)
only-abort (Release q) k h = absurd (cc)
only-abort Commit k h = absurd (cc)
only-abort Abort k h = refl
only-abort (Try q m) k h = absurd (cc)
only-abort Withdraw k h = absurd (cc)
only-abort Restart k h = absurd (cc)

only-restart : (c : Call) (k : ℕ) → fits c (Restarted k) ≡ true → c ≡ Restart
only-restart Begin k h = absurd (cc)
only-restart (Lock q m) k h = absurd (cc)
only-restart (Convert q m) k h = absurd (cc)
only-restart Poll k h = absurd (cc)
only-restart (Release q) k h = absurd (cc)
only-restart Commit k h = absurd (cc)
only-restart Abort k h = absurd (cc)
only-restart (Try q m) k h = absurd (cc)
only-restart Withdraw k h = absurd (cc)
only-restart Restart k h = refl

-- a mode that was granted before
mode-kept : (old new : List Mode) (n j : ℕ) (m : Mode) → new ≡ set old n m → j < n → slice_index_or new (0 + j) NL ≡ slice_index_or old (0 + j) NL
mode-kept old new n j m g i =
    let z : 0 + j ≡ j = omega arith in
    let ne : j ≢ n = λ e. omega (arith, e, i) in
    ap (λ (i : ℕ). slice_index_or new i NL) z ∙ ap (λ (l : List Mode). slice_index_or l j NL) g ∙ get_or-set_other old n j m NL ne ∙ sym (ap (λ (i : ℕ). slice_index_or old i NL) z)

-- the number of the begun transaction is noted at the begin alone
began-kept : (p : Program) (old : ℕ) (r : Reply) (n j : ℕ) → j < n → ((c : Call) → slice_get (calls_of p) n ≡ Some c → fits c r ≡ true) → n < length (calls_of p)
    → slice_get (calls_of p) j ≡ Some Begin → began_after old r ≡ old
began-kept p old Waiting n j l f m h = refl
began-kept p old Deadlock n j l f m h = refl
began-kept p old Clear n j l f m h = refl
began-kept p old Released n j l f m h = refl
began-kept p old Withdrawn n j l f m h = refl
began-kept p old (Granted k) n j l f m h = refl
began-kept p old (Committed k) n j l f m h = refl
began-kept p old (Aborted k) n j l f m h = refl
began-kept p old (Restarted k) n j l f m h = refl
began-kept p old (Refused why) n j l f m h = refl
began-kept p old (Began k) n j l f m h =
    let c = call-at (calls_of p) n m in
    let b : c.0 ≡ Begin = only-begin c.0 k (f c.0 c.1) in
    absurd (omega (arith, l, begin-once p j n h (c.1 ∙ ap Some b)))

-- the number of locks that were released, at the end alone
ended-kept : (p : Program) (old : ℕ) (r : Reply) (n j : ℕ) → j < n → ((c : Call) → slice_get (calls_of p) n ≡ Some c → fits c r ≡ true) → n < length (calls_of p)
    → ended_after old r ≡ old
ended-kept p old Waiting n j l f m = refl
ended-kept p old Deadlock n j l f m = refl
ended-kept p old Clear n j l f m = refl
ended-kept p old Released n j l f m = refl
ended-kept p old Withdrawn n j l f m = refl
ended-kept p old (Granted k) n j l f m = refl
ended-kept p old (Began k) n j l f m = refl
ended-kept p old (Refused why) n j l f m = refl
ended-kept p old (Committed k) n j l f m =
    let c = call-at (calls_of p) n m in
    let b : c.0 ≡ Commit = only-commit c.0 k (f c.0 c.1) in
    absurd (omega (arith, l, commit-place p n (c.1 ∙ ap Some b)))
ended-kept p old (Aborted k) n j l f m =
    let c = call-at (calls_of p) n m in
    let b : c.0 ≡ Abort = only-abort c.0 k (f c.0 c.1) in
    absurd (omega (arith, l, abort-place p n (c.1 ∙ ap Some b)))
ended-kept p old (Restarted k) n j l f m =
    let c = call-at (calls_of p) n m in
    let b : c.0 ≡ Restart = only-restart c.0 k (f c.0 c.1) in
    absurd (omega (arith, l, restart-place p n (c.1 ∙ ap Some b)))

-- what was told of an earlier call is told still
kept : (p : Program) (old new : NotedReplies) (r : Reply) (n : ℕ) → ((c : Call) → slice_get (calls_of p) n ≡ Some c → fits c r ≡ true) → n < length (calls_of p)
    → new.began ≡ began_after old.began r → new.ended ≡ ended_after old.ended r → (m : Mode) → new.granted ≡ set old.granted n m
    → (j : ℕ) (c : Call) → j < n → slice_get (calls_of p) j ≡ Some c → done_reply new c (0 + j) ≡ done_reply old c (0 + j)
kept p old new r n f l b e m g j Begin i h = ap Began (b ∙ began-kept p old.began r n j i f l h)
kept p old new r n f l b e m g j Commit i h = ap Committed (e ∙ ended-kept p old.ended r n j i f l)
kept p old new r n f l b e m g j Abort i h = ap Aborted (e ∙ ended-kept p old.ended r n j i f l)
kept p old new r n f l b e m g j Restart i h = ap Restarted (e ∙ ended-kept p old.ended r n j i f l)
kept p old new r n f l b e m g j (Lock q k) i h = ap Granted (mode-kept old.granted new.granted n j m g i)
kept p old new r n f l b e m g j (Convert q k) i h = ap Granted (mode-kept old.granted new.granted n j m g i)
kept p old new r n f l b e m g j (Try q k) i h = ap Granted (mode-kept old.granted new.granted n j m g i)
kept p old new r n f l b e m g j Poll i h = refl
kept p old new r n f l b e m g j (Release q) i h = refl
kept p old new r n f l b e m g j Withdraw i h = refl

-- the program went on behind the replies before
went : (cs : List Call) (a : NotedReplies) (n : ℕ) → AllGoOn program_form (replies_from a cs 0 n) → n < length cs → n ≢ 0 → a.stop ≡ GoesOn
went cs a zero h l z = absurd (z refl)
went cs a (suc n) h l z = going-stop a cs 0 n (omega (arith, l)) h

-- the last reply is told as it is
last : (p : Program) (old new : NotedReplies) (r : Reply) (n : ℕ) → n < length old.granted → new.began ≡ began_after old.began r → new.ended ≡ ended_after old.ended r
    → new.granted ≡ set old.granted n (granted_after (slice_index_or old.granted n NL) r) → new.stop ≡ stop_at r
    → (c : Call) → fits c r ≡ true → stop_reply new.stop (done_reply new c (0 + n)) ≡ r
last p old new r n w b e g t c f =
    let o : Mode = slice_index_or old.granted n NL in
    let z : 0 + n ≡ n = omega arith in
    let m : slice_index_or new.granted (0 + n) NL ≡ granted_after o r
    = ap (λ (i : ℕ). slice_index_or new.granted i NL) z ∙ ap (λ (l : List Mode). slice_index_or l n NL) g ∙ get_or-set_same old.granted n (granted_after o r) NL w in
    ap (λ (s : Stop). stop_reply s (done_reply new c (0 + n))) t
    ∙ ap (λ (x : ℕ). stop_reply (stop_at r) (done_with x new.ended (slice_index_or new.granted (0 + n) NL) c)) b
    ∙ ap (λ (x : ℕ). stop_reply (stop_at r) (done_with (began_after old.began r) x (slice_index_or new.granted (0 + n) NL) c)) e
    ∙ ap (λ (x : Mode). stop_reply (stop_at r) (done_with (began_after old.began r) (ended_after old.ended r) x c)) m
    ∙ last-with c r old.began old.ended o f

-- the answer with one more reply tells one more
pub appended : (p : Program) (old new : NotedReplies) (n : ℕ) (r : Reply) → AllGoOn program_form (replies_from old (calls_of p) 0 n) → length (replies_from old (calls_of p) 0 n) < length (calls_of p)
    → ((c : Call) → slice_get (calls_of p) (length (replies_from old (calls_of p) 0 n)) ≡ Some c → fits c r ≡ true) → n < length old.granted
    → new.began ≡ began_after old.began r → new.ended ≡ ended_after old.ended r
    → new.granted ≡ set old.granted n (granted_after (slice_index_or old.granted n NL) r) → new.stop ≡ stop_at r
    → replies_from new (calls_of p) 0 (n + 1) ≡ replies_from old (calls_of p) 0 n ++ r ∷ []
appended p old new n r h l f w b e g t =
    let cs : List Call = calls_of p in
    let few : n < length cs = served-few old cs 0 n l in
    let same : length (replies_from old cs 0 n) ≡ n = served-length old cs 0 n (omega (arith, few)) in
    let fit : (c : Call) → slice_get cs n ≡ Some c → fits c r ≡ true = λ (c : Call) (q : slice_get cs n ≡ Some c). f c (ap (slice_get cs) same ∙ q) in
    let one : n + 1 ≡ suc n = omega arith in
    ap (replies_from new cs 0) one
    ∙ push-from old new cs 0 n r few (went cs old n h few)
    (kept p old new r n fit few b e (granted_after (slice_index_or old.granted n NL) r) g)
    (λ (c : Call) (q : slice_get cs n ≡ Some c). last p old new r n w b e g t c (fit c q))
