-- The request of a parsed command, from its options up to the words: at most one, and when there is none.
use Rattle.std.proofs.Common.{rules, arith, ap, ap₂, get_or, inl, inr, refl, subst, sym, ◌≡◌, ◌≢◌, ◌⊎◌, ◌∙◌, ◌<◌, ◌^◌, ℕ, List, [], ◌∷◌, Option, Some, None, codes}
use Rattle.std.specs.Prelude.{IfSome, IfNone, decimal}
use Rattle.std.proofs.lemmas.Fmt.{decimal_injective}
use Rattle.clap.specs.Simple.{subcommand_of}
use Rattle.clap.specs.Walk.{Row, Text}
use Rattle.lock_rules.specs.declared.calls.TheConstants.{MAX_SESSIONS}
use Rattle.command_line.specs.declared.args.TheConstants.{MAX_TURNS}
use Rattle.command_line.specs.declared.args.TheConstants.{MAX_STREAMED_SESSIONS}
use Rattle.command_line.specs.declared.args.Delivery.{Delivery}
use Rattle.command_line.specs.declared.args.Delivery.TheVariants as delivery
use Rattle.command_line.specs.declared.args.CommandRequest.{CommandRequest}
use Rattle.command_line.specs.declared.args.Request.{Request}
use Rattle.command_line.specs.declared.args.CommandRequest.TheVariants as request
use Rattle.command_line.specs.declared.args.Form.{Form}
use Rattle.command_line.proofs.AskShow.{form-one, place-one}
use Rattle.clap.specs.Kinds.{Kinds}
use Rattle.clap.specs.declared.error.kind.ErrorKind.{ErrorKind}
use Rattle.clap.specs.declared.error.kind.ErrorKind.TheVariants.{DisplayHelp, DisplayVersion}
use Rattle.command_line.specs.CommandLine.{Ask, AskNothing, Gives, GivesPlace, WantsForm, IsRequest, HasFlag, IsRequestIn, Wants, faults_of, glm_command, most_sessions}

-- a number of sessions that a run takes is one that a command takes
pub as_sessions : (rows : List Row) (d : Delivery) (n : ℕ) → Gives (codes "sessions") (most_sessions d) rows n → Gives (codes "sessions") MAX_SESSIONS rows n
as_sessions rows delivery.Whole n given = given
as_sessions rows delivery.InPieces n given = record { given = given.given; some = given.some; few = omega (arith, given.few) }

-- an option gives at most one number
pub gives-one : (option : Text) (greatest : ℕ) (rows : List Row) (m n : ℕ) → greatest < 2 ^ 64
    → Gives option greatest rows m → Gives option greatest rows n → m ≡ n
gives-one option greatest rows m n lt a b =
    let same : Some (decimal m) ≡ Some (decimal n) = sym a.given ∙ b.given in
    let text : decimal m ≡ decimal n = cc in
    decimal_injective m n (omega (arith, a.few, lt)) (omega (arith, b.few, lt)) text

-- `--sessions` gives at most one number
sessions-one : (rows : List Row) (m n : ℕ) → Gives (codes "sessions") MAX_SESSIONS rows m → Gives (codes "sessions") MAX_SESSIONS rows n → m ≡ n
sessions-one rows m n = gives-one _ _ rows m n (omega arith)

-- `--turns` gives at most one number
turns-one : (rows : List Row) (m n : ℕ) → Gives (codes "turns") MAX_TURNS rows m → Gives (codes "turns") MAX_TURNS rows n → m ≡ n
turns-one rows m n = gives-one _ _ rows m n (omega arith)

-- options want the history delivered in one way
delivery-one : (rows : List Row) (d e : Delivery) → Wants rows d → Wants rows e → d ≡ e
delivery-one rows delivery.Whole delivery.Whole a b = refl
delivery-one rows delivery.Whole delivery.InPieces a b = absurd (a b)
delivery-one rows delivery.InPieces delivery.Whole a b = absurd (b a)
delivery-one rows delivery.InPieces delivery.InPieces a b = refl

-- the two names begin with other letters, c and s
check_or_shell : codes "check" ≢ codes "shell"
check_or_shell same = let first : 99 ≡ 115 = ap (λ (t : Text). get_or t 0 0) same in omega (arith, first)

check_or_stats : codes "check" ≢ codes "stats"
check_or_stats same = let first : 99 ≡ 115 = ap (λ (t : Text). get_or t 0 0) same in omega (arith, first)

shell_or_stats : codes "shell" ≢ codes "stats"
shell_or_stats same = let second : 104 ≡ 116 = ap (λ (t : Text). get_or t 1 0) same in omega (arith, second)

-- no request is in the options if they give no number of sessions
pub no_sessions : (name : Text) (rows : List Row) → ((n : ℕ) → ¬ Gives (codes "sessions") MAX_SESSIONS rows n)
    → (asked : CommandRequest) → ¬ IsRequest (Some (name, rows)) asked
no_sessions name rows none (request.Replay n d) is = none n is.1
no_sessions name rows none (request.Run n t d) is = none n (as_sessions rows d n is.1)
no_sessions name rows none (request.Check n d) is = none n is.1
no_sessions name rows none (request.Show n p f) is = none n is.1
no_sessions name rows none (request.Dump n f) is = none n is.1
no_sessions name rows none (request.Explain n p f) is = none n is.1
no_sessions name rows none (request.Timeline n p q) is = none n is.1
no_sessions name rows none (request.Stats n f) is = none n is.1
no_sessions name rows none (request.Shell n) is = none n is.1

-- no request is in the options of `run` if they give no number of turns
pub no_turns : (name : Text) (rows : List Row) → name ≡ codes "run" → ((n : ℕ) → ¬ Gives (codes "turns") MAX_TURNS rows n)
    → (asked : CommandRequest) → ¬ IsRequest (Some (name, rows)) asked
no_turns name rows run none (request.Replay n d) is = let bad : codes "run" ≡ codes "replay" = sym run ∙ is.0 in cc
no_turns name rows run none (request.Run n t d) is = none t is.2
no_turns name rows run none (request.Check n d) is = let bad : codes "run" ≡ codes "check" = sym run ∙ is.0 in cc
no_turns name rows run none (request.Show n p f) is = let bad : codes "run" ≡ codes "show" = sym run ∙ is.0 in cc
no_turns name rows run none (request.Dump n f) is = let bad : codes "run" ≡ codes "show" = sym run ∙ is.0 in cc
no_turns name rows run none (request.Explain n p f) is = let bad : codes "run" ≡ codes "explain" = sym run ∙ is.0 in cc
no_turns name rows run none (request.Timeline n p q) is = let bad : codes "run" ≡ codes "timeline" = sym run ∙ is.0 in cc
no_turns name rows run none (request.Stats n f) is = let bad : codes "run" ≡ codes "stats" = sym run ∙ is.0 in cc
no_turns name rows run none (request.Shell n) is = let bad : codes "run" ≡ codes "shell" = sym run ∙ is.0 in cc

-- no request is in the options of a run that want the history in pieces, and the greatest number of sessions
pub no_streamed : (name : Text) (rows : List Row) (n : ℕ) → name ≡ codes "run" → Gives (codes "sessions") MAX_SESSIONS rows n → MAX_STREAMED_SESSIONS < n
    → HasFlag (codes "stream") rows → (asked : CommandRequest) → ¬ IsRequest (Some (name, rows)) asked
no_streamed name rows n run given many flag (request.Replay m d) is = let bad : codes "run" ≡ codes "replay" = sym run ∙ is.0 in cc
no_streamed name rows n run given many flag (request.Run m t delivery.Whole) is = is.3 flag
no_streamed name rows n run given many flag (request.Run m t delivery.InPieces) is =
    let same : m ≡ n = sessions-one rows m n (as_sessions rows delivery.InPieces m is.1) given in
    omega (arith, same, many, is.1.few)
no_streamed name rows n run given many flag (request.Check m d) is = let bad : codes "run" ≡ codes "check" = sym run ∙ is.0 in cc
no_streamed name rows n run given many flag (request.Show m p f) is = let bad : codes "run" ≡ codes "show" = sym run ∙ is.0 in cc
no_streamed name rows n run given many flag (request.Dump m f) is = let bad : codes "run" ≡ codes "show" = sym run ∙ is.0 in cc
no_streamed name rows n run given many flag (request.Explain m p f) is = let bad : codes "run" ≡ codes "explain" = sym run ∙ is.0 in cc
no_streamed name rows n run given many flag (request.Timeline m p q) is = let bad : codes "run" ≡ codes "timeline" = sym run ∙ is.0 in cc
no_streamed name rows n run given many flag (request.Stats m f) is = let bad : codes "run" ≡ codes "stats" = sym run ∙ is.0 in cc
no_streamed name rows n run given many flag (request.Shell m) is = let bad : codes "run" ≡ codes "shell" = sym run ∙ is.0 in cc

-- no request is in the options of `show` if they don't give both a place and a form
pub nothing_shown : (name : Text) (rows : List Row) → name ≡ codes "show" → ((p : Option ℕ) (f : Form) → GivesPlace (codes "at") rows p → ¬ WantsForm rows f)
    → (asked : CommandRequest) → ¬ IsRequest (Some (name, rows)) asked
nothing_shown name rows show none (request.Replay n d) is = let bad : codes "show" ≡ codes "replay" = sym show ∙ is.0 in cc
nothing_shown name rows show none (request.Run n t d) is = let bad : codes "show" ≡ codes "run" = sym show ∙ is.0 in cc
nothing_shown name rows show none (request.Check n d) is = let bad : codes "show" ≡ codes "check" = sym show ∙ is.0 in cc
nothing_shown name rows show none (request.Show n p f) is = none p f is.2 is.3
nothing_shown name rows show none (request.Dump n f) is = none None f is.2 is.3
nothing_shown name rows show none (request.Explain n p f) is = let bad : codes "show" ≡ codes "explain" = sym show ∙ is.0 in cc
nothing_shown name rows show none (request.Timeline n p q) is = let bad : codes "show" ≡ codes "timeline" = sym show ∙ is.0 in cc
nothing_shown name rows show none (request.Stats n f) is = let bad : codes "show" ≡ codes "stats" = sym show ∙ is.0 in cc
nothing_shown name rows show none (request.Shell n) is = let bad : codes "show" ≡ codes "shell" = sym show ∙ is.0 in cc

-- no request is in the options of `show` if they have the flag `--state` and a place
pub no_dump_at : (rows : List Row) (place : ℕ) → HasFlag (codes "state") rows → GivesPlace (codes "at") rows (Some place)
    → (asked : CommandRequest) → ¬ IsRequest (Some (codes "show", rows)) asked
no_dump_at rows place state at (request.Replay n d) is = let bad : codes "show" ≡ codes "replay" = is.0 in cc
no_dump_at rows place state at (request.Run n t d) is = let bad : codes "show" ≡ codes "run" = is.0 in cc
no_dump_at rows place state at (request.Check n d) is = let bad : codes "show" ≡ codes "check" = is.0 in cc
no_dump_at rows place state at (request.Show n p f) is = is.4 state
no_dump_at rows place state at (request.Dump n f) is = let bad : Some (decimal place) ≡ None = sym at.given ∙ is.2 in cc
no_dump_at rows place state at (request.Explain n p f) is = let bad : codes "show" ≡ codes "explain" = is.0 in cc
no_dump_at rows place state at (request.Timeline n p q) is = let bad : codes "show" ≡ codes "timeline" = is.0 in cc
no_dump_at rows place state at (request.Stats n f) is = let bad : codes "show" ≡ codes "stats" = is.0 in cc
no_dump_at rows place state at (request.Shell n) is = let bad : codes "show" ≡ codes "shell" = is.0 in cc

-- no request is in the options of `explain` if they don't give both a place and a form
pub nothing_explained : (name : Text) (rows : List Row) → name ≡ codes "explain" → ((p : Option ℕ) (f : Form) → GivesPlace (codes "at") rows p → ¬ WantsForm rows f)
    → (asked : CommandRequest) → ¬ IsRequest (Some (name, rows)) asked
nothing_explained name rows explain none (request.Replay n d) is = let bad : codes "explain" ≡ codes "replay" = sym explain ∙ is.0 in cc
nothing_explained name rows explain none (request.Run n t d) is = let bad : codes "explain" ≡ codes "run" = sym explain ∙ is.0 in cc
nothing_explained name rows explain none (request.Check n d) is = let bad : codes "explain" ≡ codes "check" = sym explain ∙ is.0 in cc
nothing_explained name rows explain none (request.Show n p f) is = let bad : codes "explain" ≡ codes "show" = sym explain ∙ is.0 in cc
nothing_explained name rows explain none (request.Dump n f) is = let bad : codes "explain" ≡ codes "show" = sym explain ∙ is.0 in cc
nothing_explained name rows explain none (request.Explain n p f) is = none p f is.2 is.3
nothing_explained name rows explain none (request.Timeline n p q) is = let bad : codes "explain" ≡ codes "timeline" = sym explain ∙ is.0 in cc
nothing_explained name rows explain none (request.Stats n f) is = let bad : codes "explain" ≡ codes "stats" = sym explain ∙ is.0 in cc
nothing_explained name rows explain none (request.Shell n) is = let bad : codes "explain" ≡ codes "shell" = sym explain ∙ is.0 in cc

-- no request is in the options of `show` or `explain` if they don't give both a place and a form
pub nothing_told : (name : Text) (rows : List Row) → (name ≡ codes "show") ⊎ (name ≡ codes "explain")
    → ((p : Option ℕ) (f : Form) → GivesPlace (codes "at") rows p → ¬ WantsForm rows f) → (asked : CommandRequest) → ¬ IsRequest (Some (name, rows)) asked
nothing_told name rows (inl show) none asked is = nothing_shown name rows show none asked is
nothing_told name rows (inr explain) none asked is = nothing_explained name rows explain none asked is

-- no request is in the options of `timeline` if `--from` gives no place
pub no_first_place : (name : Text) (rows : List Row) → name ≡ codes "timeline" → ((p : Option ℕ) → ¬ GivesPlace (codes "from") rows p)
    → (asked : CommandRequest) → ¬ IsRequest (Some (name, rows)) asked
no_first_place name rows timeline none (request.Replay n d) is = let bad : codes "timeline" ≡ codes "replay" = sym timeline ∙ is.0 in cc
no_first_place name rows timeline none (request.Run n t d) is = let bad : codes "timeline" ≡ codes "run" = sym timeline ∙ is.0 in cc
no_first_place name rows timeline none (request.Check n d) is = let bad : codes "timeline" ≡ codes "check" = sym timeline ∙ is.0 in cc
no_first_place name rows timeline none (request.Show n p f) is = let bad : codes "timeline" ≡ codes "show" = sym timeline ∙ is.0 in cc
no_first_place name rows timeline none (request.Dump n f) is = let bad : codes "timeline" ≡ codes "show" = sym timeline ∙ is.0 in cc
no_first_place name rows timeline none (request.Explain n p f) is = let bad : codes "timeline" ≡ codes "explain" = sym timeline ∙ is.0 in cc
no_first_place name rows timeline none (request.Timeline n p q) is = none p is.2
no_first_place name rows timeline none (request.Stats n f) is = let bad : codes "timeline" ≡ codes "stats" = sym timeline ∙ is.0 in cc
no_first_place name rows timeline none (request.Shell n) is = let bad : codes "timeline" ≡ codes "shell" = sym timeline ∙ is.0 in cc

-- no request is in the options of `timeline` if `--to` gives no place
pub no_last_place : (name : Text) (rows : List Row) → name ≡ codes "timeline" → ((p : Option ℕ) → ¬ GivesPlace (codes "to") rows p)
    → (asked : CommandRequest) → ¬ IsRequest (Some (name, rows)) asked
no_last_place name rows timeline none (request.Replay n d) is = let bad : codes "timeline" ≡ codes "replay" = sym timeline ∙ is.0 in cc
no_last_place name rows timeline none (request.Run n t d) is = let bad : codes "timeline" ≡ codes "run" = sym timeline ∙ is.0 in cc
no_last_place name rows timeline none (request.Check n d) is = let bad : codes "timeline" ≡ codes "check" = sym timeline ∙ is.0 in cc
no_last_place name rows timeline none (request.Show n p f) is = let bad : codes "timeline" ≡ codes "show" = sym timeline ∙ is.0 in cc
no_last_place name rows timeline none (request.Dump n f) is = let bad : codes "timeline" ≡ codes "show" = sym timeline ∙ is.0 in cc
no_last_place name rows timeline none (request.Explain n p f) is = let bad : codes "timeline" ≡ codes "explain" = sym timeline ∙ is.0 in cc
no_last_place name rows timeline none (request.Timeline n p q) is = none q is.3
no_last_place name rows timeline none (request.Stats n f) is = let bad : codes "timeline" ≡ codes "stats" = sym timeline ∙ is.0 in cc
no_last_place name rows timeline none (request.Shell n) is = let bad : codes "timeline" ≡ codes "shell" = sym timeline ∙ is.0 in cc

-- no request is in the options of `stats` if they don't give a form
pub nothing_counted : (name : Text) (rows : List Row) → name ≡ codes "stats" → ((f : Form) → ¬ WantsForm rows f)
    → (asked : CommandRequest) → ¬ IsRequest (Some (name, rows)) asked
nothing_counted name rows stats none (request.Replay n d) is = let bad : codes "stats" ≡ codes "replay" = sym stats ∙ is.0 in cc
nothing_counted name rows stats none (request.Run n t d) is = let bad : codes "stats" ≡ codes "run" = sym stats ∙ is.0 in cc
nothing_counted name rows stats none (request.Check n d) is = check_or_stats (sym is.0 ∙ stats)
nothing_counted name rows stats none (request.Show n p f) is = let bad : codes "stats" ≡ codes "show" = sym stats ∙ is.0 in cc
nothing_counted name rows stats none (request.Dump n f) is = let bad : codes "stats" ≡ codes "show" = sym stats ∙ is.0 in cc
nothing_counted name rows stats none (request.Explain n p f) is = let bad : codes "stats" ≡ codes "explain" = sym stats ∙ is.0 in cc
nothing_counted name rows stats none (request.Timeline n p q) is = let bad : codes "stats" ≡ codes "timeline" = sym stats ∙ is.0 in cc
nothing_counted name rows stats none (request.Stats n f) is = none f is.2
nothing_counted name rows stats none (request.Shell n) is = shell_or_stats (sym is.0 ∙ stats)

-- no request has a name other than those of the commands
pub no_name : (name : Text) (rows : List Row) → name ≢ codes "replay" → name ≢ codes "run" → name ≢ codes "check" → name ≢ codes "show"
    → name ≢ codes "explain" → name ≢ codes "timeline" → name ≢ codes "stats" → name ≢ codes "shell" → (asked : CommandRequest) → ¬ IsRequest (Some (name, rows)) asked
no_name name rows replay run check show explain timeline stats shell (request.Replay n d) is = replay is.0
no_name name rows replay run check show explain timeline stats shell (request.Run n t d) is = run is.0
no_name name rows replay run check show explain timeline stats shell (request.Check n d) is = check is.0
no_name name rows replay run check show explain timeline stats shell (request.Show n p f) is = show is.0
no_name name rows replay run check show explain timeline stats shell (request.Dump n f) is = show is.0
no_name name rows replay run check show explain timeline stats shell (request.Explain n p f) is = explain is.0
no_name name rows replay run check show explain timeline stats shell (request.Timeline n p q) is = timeline is.0
no_name name rows replay run check show explain timeline stats shell (request.Stats n f) is = stats is.0
no_name name rows replay run check show explain timeline stats shell (request.Shell n) is = shell is.0

-- a name with its options is at most one request
one-in : (name : Text) (rows : List Row) (r q : CommandRequest) → IsRequestIn name rows r → IsRequestIn name rows q → r ≡ q
one-in name rows (request.Replay n d) (request.Replay m e) a b = ap₂ (λ k l. request.Replay k l) (sessions-one rows n m a.1 b.1) (delivery-one rows d e a.2 b.2)
one-in name rows (request.Replay n d) (request.Run m u e) a b = let bad : codes "replay" ≡ codes "run" = sym a.0 ∙ b.0 in cc
one-in name rows (request.Replay n d) (request.Check m e) a b = let bad : codes "replay" ≡ codes "check" = sym a.0 ∙ b.0 in cc
one-in name rows (request.Replay n d) (request.Show m q g) a b = let bad : codes "replay" ≡ codes "show" = sym a.0 ∙ b.0 in cc
one-in name rows (request.Replay n d) (request.Dump m g) a b = let bad : codes "replay" ≡ codes "show" = sym a.0 ∙ b.0 in cc
one-in name rows (request.Replay n d) (request.Explain m q g) a b = let bad : codes "replay" ≡ codes "explain" = sym a.0 ∙ b.0 in cc
one-in name rows (request.Replay n d) (request.Timeline m r s) a b = let bad : codes "replay" ≡ codes "timeline" = sym a.0 ∙ b.0 in cc
one-in name rows (request.Replay n d) (request.Stats m g) a b = let bad : codes "replay" ≡ codes "stats" = sym a.0 ∙ b.0 in cc
one-in name rows (request.Replay n d) (request.Shell m) a b = let bad : codes "replay" ≡ codes "shell" = sym a.0 ∙ b.0 in cc
one-in name rows (request.Run n t d) (request.Replay m e) a b = let bad : codes "run" ≡ codes "replay" = sym a.0 ∙ b.0 in cc
one-in name rows (request.Run n t d) (request.Run m u e) a b =
    let same : n ≡ m = sessions-one rows n m (as_sessions rows d n a.1) (as_sessions rows e m b.1) in
    let tries : t ≡ u = turns-one rows t u a.2 b.2 in
    let way : d ≡ e = delivery-one rows d e a.3 b.3 in
    cc
one-in name rows (request.Run n t d) (request.Check m e) a b = let bad : codes "run" ≡ codes "check" = sym a.0 ∙ b.0 in cc
one-in name rows (request.Run n t d) (request.Show m q g) a b = let bad : codes "run" ≡ codes "show" = sym a.0 ∙ b.0 in cc
one-in name rows (request.Run n t d) (request.Dump m g) a b = let bad : codes "run" ≡ codes "show" = sym a.0 ∙ b.0 in cc
one-in name rows (request.Run n t d) (request.Explain m q g) a b = let bad : codes "run" ≡ codes "explain" = sym a.0 ∙ b.0 in cc
one-in name rows (request.Run n t d) (request.Timeline m r s) a b = let bad : codes "run" ≡ codes "timeline" = sym a.0 ∙ b.0 in cc
one-in name rows (request.Run n t d) (request.Stats m g) a b = let bad : codes "run" ≡ codes "stats" = sym a.0 ∙ b.0 in cc
one-in name rows (request.Run n t d) (request.Shell m) a b = let bad : codes "run" ≡ codes "shell" = sym a.0 ∙ b.0 in cc
one-in name rows (request.Check n d) (request.Replay m e) a b = let bad : codes "check" ≡ codes "replay" = sym a.0 ∙ b.0 in cc
one-in name rows (request.Check n d) (request.Run m u e) a b = let bad : codes "check" ≡ codes "run" = sym a.0 ∙ b.0 in cc
one-in name rows (request.Check n d) (request.Check m e) a b = ap₂ (λ k l. request.Check k l) (sessions-one rows n m a.1 b.1) (delivery-one rows d e a.2 b.2)
one-in name rows (request.Check n d) (request.Show m q g) a b = let bad : codes "check" ≡ codes "show" = sym a.0 ∙ b.0 in cc
one-in name rows (request.Check n d) (request.Dump m g) a b = let bad : codes "check" ≡ codes "show" = sym a.0 ∙ b.0 in cc
one-in name rows (request.Check n d) (request.Explain m q g) a b = let bad : codes "check" ≡ codes "explain" = sym a.0 ∙ b.0 in cc
one-in name rows (request.Check n d) (request.Timeline m r s) a b = let bad : codes "check" ≡ codes "timeline" = sym a.0 ∙ b.0 in cc
one-in name rows (request.Check n d) (request.Stats m g) a b = absurd (check_or_stats (sym a.0 ∙ b.0))
one-in name rows (request.Check n d) (request.Shell m) a b = absurd (check_or_shell (sym a.0 ∙ b.0))
one-in name rows (request.Show n p f) (request.Replay m e) a b = let bad : codes "show" ≡ codes "replay" = sym a.0 ∙ b.0 in cc
one-in name rows (request.Show n p f) (request.Run m u e) a b = let bad : codes "show" ≡ codes "run" = sym a.0 ∙ b.0 in cc
one-in name rows (request.Show n p f) (request.Check m e) a b = let bad : codes "show" ≡ codes "check" = sym a.0 ∙ b.0 in cc
one-in name rows (request.Show n p f) (request.Show m q g) a b =
    let same : n ≡ m = sessions-one rows n m a.1 b.1 in
    let there : p ≡ q = place-one _ rows p q a.2 b.2 in
    let way : f ≡ g = form-one rows f g a.3 b.3 in
    cc
one-in name rows (request.Show n p f) (request.Explain m q g) a b = let bad : codes "show" ≡ codes "explain" = sym a.0 ∙ b.0 in cc
one-in name rows (request.Show n p f) (request.Dump m g) a b = absurd (a.4 b.4)
one-in name rows (request.Show n p f) (request.Timeline m r s) a b = let bad : codes "show" ≡ codes "timeline" = sym a.0 ∙ b.0 in cc
one-in name rows (request.Show n p f) (request.Stats m g) a b = let bad : codes "show" ≡ codes "stats" = sym a.0 ∙ b.0 in cc
one-in name rows (request.Show n p f) (request.Shell m) a b = let bad : codes "show" ≡ codes "shell" = sym a.0 ∙ b.0 in cc
one-in name rows (request.Dump n f) (request.Replay m e) a b = let bad : codes "show" ≡ codes "replay" = sym a.0 ∙ b.0 in cc
one-in name rows (request.Dump n f) (request.Run m u e) a b = let bad : codes "show" ≡ codes "run" = sym a.0 ∙ b.0 in cc
one-in name rows (request.Dump n f) (request.Check m e) a b = let bad : codes "show" ≡ codes "check" = sym a.0 ∙ b.0 in cc
one-in name rows (request.Dump n f) (request.Explain m q g) a b = let bad : codes "show" ≡ codes "explain" = sym a.0 ∙ b.0 in cc
one-in name rows (request.Dump n f) (request.Timeline m r s) a b = let bad : codes "show" ≡ codes "timeline" = sym a.0 ∙ b.0 in cc
one-in name rows (request.Dump n f) (request.Stats m g) a b = let bad : codes "show" ≡ codes "stats" = sym a.0 ∙ b.0 in cc
one-in name rows (request.Dump n f) (request.Shell m) a b = let bad : codes "show" ≡ codes "shell" = sym a.0 ∙ b.0 in cc
one-in name rows (request.Dump n f) (request.Show m q g) a b = absurd (b.4 a.4)
one-in name rows (request.Dump n f) (request.Dump m g) a b = ap₂ (λ k l. request.Dump k l) (sessions-one rows n m a.1 b.1) (form-one rows f g a.3 b.3)
one-in name rows (request.Explain n p f) (request.Replay m e) a b = let bad : codes "explain" ≡ codes "replay" = sym a.0 ∙ b.0 in cc
one-in name rows (request.Explain n p f) (request.Run m u e) a b = let bad : codes "explain" ≡ codes "run" = sym a.0 ∙ b.0 in cc
one-in name rows (request.Explain n p f) (request.Check m e) a b = let bad : codes "explain" ≡ codes "check" = sym a.0 ∙ b.0 in cc
one-in name rows (request.Explain n p f) (request.Show m q g) a b = let bad : codes "explain" ≡ codes "show" = sym a.0 ∙ b.0 in cc
one-in name rows (request.Explain n p f) (request.Dump m g) a b = let bad : codes "explain" ≡ codes "show" = sym a.0 ∙ b.0 in cc
one-in name rows (request.Explain n p f) (request.Explain m q g) a b =
    let same : n ≡ m = sessions-one rows n m a.1 b.1 in
    let there : p ≡ q = place-one _ rows p q a.2 b.2 in
    let way : f ≡ g = form-one rows f g a.3 b.3 in
    cc
one-in name rows (request.Explain n p f) (request.Timeline m r s) a b = let bad : codes "explain" ≡ codes "timeline" = sym a.0 ∙ b.0 in cc
one-in name rows (request.Explain n p f) (request.Stats m g) a b = let bad : codes "explain" ≡ codes "stats" = sym a.0 ∙ b.0 in cc
one-in name rows (request.Explain n p f) (request.Shell m) a b = let bad : codes "explain" ≡ codes "shell" = sym a.0 ∙ b.0 in cc
one-in name rows (request.Timeline n p o) (request.Replay m e) a b = let bad : codes "timeline" ≡ codes "replay" = sym a.0 ∙ b.0 in cc
one-in name rows (request.Timeline n p o) (request.Run m u e) a b = let bad : codes "timeline" ≡ codes "run" = sym a.0 ∙ b.0 in cc
one-in name rows (request.Timeline n p o) (request.Check m e) a b = let bad : codes "timeline" ≡ codes "check" = sym a.0 ∙ b.0 in cc
one-in name rows (request.Timeline n p o) (request.Show m q g) a b = let bad : codes "timeline" ≡ codes "show" = sym a.0 ∙ b.0 in cc
one-in name rows (request.Timeline n p o) (request.Dump m g) a b = let bad : codes "timeline" ≡ codes "show" = sym a.0 ∙ b.0 in cc
one-in name rows (request.Timeline n p o) (request.Explain m q g) a b = let bad : codes "timeline" ≡ codes "explain" = sym a.0 ∙ b.0 in cc
one-in name rows (request.Timeline n p o) (request.Timeline m r s) a b =
    let same : n ≡ m = sessions-one rows n m a.1 b.1 in
    let first : p ≡ r = place-one _ rows p r a.2 b.2 in
    let last : o ≡ s = place-one _ rows o s a.3 b.3 in
    cc
one-in name rows (request.Timeline n p o) (request.Stats m g) a b = let bad : codes "timeline" ≡ codes "stats" = sym a.0 ∙ b.0 in cc
one-in name rows (request.Timeline n p o) (request.Shell m) a b = let bad : codes "timeline" ≡ codes "shell" = sym a.0 ∙ b.0 in cc
one-in name rows (request.Stats n f) (request.Replay m e) a b = let bad : codes "stats" ≡ codes "replay" = sym a.0 ∙ b.0 in cc
one-in name rows (request.Stats n f) (request.Run m u e) a b = let bad : codes "stats" ≡ codes "run" = sym a.0 ∙ b.0 in cc
one-in name rows (request.Stats n f) (request.Check m e) a b = absurd (check_or_stats (sym b.0 ∙ a.0))
one-in name rows (request.Stats n f) (request.Show m q g) a b = let bad : codes "stats" ≡ codes "show" = sym a.0 ∙ b.0 in cc
one-in name rows (request.Stats n f) (request.Dump m g) a b = let bad : codes "stats" ≡ codes "show" = sym a.0 ∙ b.0 in cc
one-in name rows (request.Stats n f) (request.Explain m q g) a b = let bad : codes "stats" ≡ codes "explain" = sym a.0 ∙ b.0 in cc
one-in name rows (request.Stats n f) (request.Timeline m r s) a b = let bad : codes "stats" ≡ codes "timeline" = sym a.0 ∙ b.0 in cc
one-in name rows (request.Stats n f) (request.Stats m g) a b = ap₂ (λ k l. request.Stats k l) (sessions-one rows n m a.1 b.1) (form-one rows f g a.2 b.2)
one-in name rows (request.Stats n f) (request.Shell m) a b = absurd (shell_or_stats (sym b.0 ∙ a.0))
one-in name rows (request.Shell n) (request.Replay m e) a b = let bad : codes "shell" ≡ codes "replay" = sym a.0 ∙ b.0 in cc
one-in name rows (request.Shell n) (request.Run m u e) a b = let bad : codes "shell" ≡ codes "run" = sym a.0 ∙ b.0 in cc
one-in name rows (request.Shell n) (request.Check m e) a b = absurd (check_or_shell (sym b.0 ∙ a.0))
one-in name rows (request.Shell n) (request.Show m q g) a b = let bad : codes "shell" ≡ codes "show" = sym a.0 ∙ b.0 in cc
one-in name rows (request.Shell n) (request.Dump m g) a b = let bad : codes "shell" ≡ codes "show" = sym a.0 ∙ b.0 in cc
one-in name rows (request.Shell n) (request.Explain m q g) a b = let bad : codes "shell" ≡ codes "explain" = sym a.0 ∙ b.0 in cc
one-in name rows (request.Shell n) (request.Timeline m r s) a b = let bad : codes "shell" ≡ codes "timeline" = sym a.0 ∙ b.0 in cc
one-in name rows (request.Shell n) (request.Stats m g) a b = absurd (shell_or_stats (sym a.0 ∙ b.0))
one-in name rows (request.Shell n) (request.Shell m) a b = ap (λ k. request.Shell k) (sessions-one rows n m a.1 b.1)

-- a command that was found is at most one request
pub one_request : (found : Option (Text × List Row)) (r q : CommandRequest) → IsRequest found r → IsRequest found q → r ≡ q
one_request None r q a b = absurd a
one_request (Some found) r q a b = one-in found.0 found.1 r q a b

-- a command that was found is a replay of at most one number of sessions
pub one_replay : (found : Option (Text × List Row)) (m n : ℕ) (d : Delivery) → IsRequest found (request.Replay m d) → IsRequest found (request.Replay n d) → m ≡ n
one_replay None m n d a b = absurd a
one_replay (Some found) m n d a b = sessions-one found.1 m n a.1 b.1

-- a command that was found wants the history delivered in one way
pub not_both : (found : Option (Text × List Row)) (m n : ℕ) → IsRequest found (request.Replay m delivery.Whole) → ¬ IsRequest found (request.Replay n delivery.InPieces)
not_both None m n a b = a
not_both (Some found) m n a b = a.2 b.2

-- a run that was found wants the history delivered in one way
pub not_both_of_runs : (found : Option (Text × List Row)) (m n t u : ℕ) → IsRequest found (request.Run m t delivery.Whole)
    → ¬ IsRequest found (request.Run n u delivery.InPieces)
not_both_of_runs None m n t u a b = a
not_both_of_runs (Some found) m n t u a b = a.3 b.3

-- a request in the name and options is a request in the parsed command
pub requests_moved : (found : Option (Text × List Row)) (name : Text) (rows : List Row) (r : Option Request) → found ≡ Some (name, rows)
    → IfSome r (λ q. IsRequest (Some (name, rows)) q.command) → IfSome r (λ q. IsRequest found q.command)
requests_moved found name rows r is h = subst (λ (f : Option (Text × List Row)). IfSome r (λ q. IsRequest f q.command)) (sym is) h

-- no request in the name and options means no request in the parsed command
pub no_requests_moved : (found : Option (Text × List Row)) (name : Text) (rows : List Row) (r : Option Request) → found ≡ Some (name, rows)
    → IfNone r ((asked : CommandRequest) → ¬ IsRequest (Some (name, rows)) asked) → IfNone r ((asked : CommandRequest) → ¬ IsRequest found asked)
no_requests_moved found name rows r is h = subst (λ (f : Option (Text × List Row)). IfNone r ((asked : CommandRequest) → ¬ IsRequest f asked)) (sym is) h

-- no request is in words without a command
pub no_command : (found : Option (Text × List Row)) → found ≡ None → (asked : CommandRequest) → ¬ IsRequest found asked
no_command None is asked h = h
no_command (Some p) is asked h = cc

-- words without an error ask for the request of their command
pub words_ask : (words : List Text) (found : Option (Text × List Row)) (r : Option Request) → faults_of words ≡ [] → found ≡ subcommand_of glm_command words
    → IfSome r (λ q. IsRequest found q.command) → IfSome r (λ q. Ask words q.command)
words_ask words found None whole is h = search rules
words_ask words found (Some q) whole is h =
    record { whole = whole; request_is = subst (λ (f : Option (Text × List Row)). IsRequest f q.command) is h }

-- words ask for nothing if no request is in their command
pub words_ask_nothing : (words : List Text) (found : Option (Text × List Row)) (r : Option Request) → found ≡ subcommand_of glm_command words
    → IfNone r ((asked : CommandRequest) → ¬ IsRequest found asked) → IfNone r ((asked : CommandRequest) → ¬ Ask words asked)
words_ask_nothing words found (Some q) is h = search rules
words_ask_nothing words found None is h =
    λ asked ask. h asked (subst (λ (f : Option (Text × List Row)). IsRequest f asked) (sym is) ask.request_is)

-- words with an error other than help or the version ask for nothing
pub faulty : (words : List Text) (kind : ErrorKind) (kinds : Kinds) → faults_of words ≡ kind ∷ kinds → kind ≢ DisplayHelp → kind ≢ DisplayVersion → AskNothing words
faulty words kind kinds is other another = record {
  no_request = λ asked ask. let bad : kind ∷ kinds ≡ [] = sym is ∙ ask.whole in cc;
  no_help = λ help. let bad : kind ∷ kinds ≡ DisplayHelp ∷ [] = sym is ∙ help in other cc;
  no_version = λ version. let bad : kind ∷ kinds ≡ DisplayVersion ∷ [] = sym is ∙ version in another cc;
}
