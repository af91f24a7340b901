use Rattle.std.proofs.Common.{◌≡◌, Bool, not, ℕ, List, sym, subst, ap, ◌∙◌}
use Rattle.publication.specs.Views.{TicketView}
use Rattle.publication.specs.declared.slot.Load.{Load}
use Rattle.combining.specs.Woken.{HasAddedTold, entered_since}
use Rattle.combining.specs.inner.OwnCalls.{IsOwnEntered, IsPassWithOwn}
use Rattle.combining.specs.inner.Passes.{HasPassed, HasServed}
use Rattle.combining.proofs.EndedWaits.{told-both}
use Rattle.combining.proofs.OwnCalls.{some_weaker, none_then, own_first, own_last, refused-first, refused-last, served-first, served-last, entered-longer, own-entered, pass-entered}
use Rattle.combining.proofs.Places.{entered-both}
use Rattle.combining.proofs.own_call.pass_with_own.Goals as goal

-- ---- The call goes first: nothing is served ahead of it.

pub returns-then-goes_first-clause-performed : goal.returns-then-goes_first-clause-performed
returns-then-goes_first-clause-performed g c =
    let before = c.args.session.now in
    let is = c.if-goes_first.true in
    let ahead = c.make_rounds_if-ahead in
    let own = c.perform_own_telling-answer in
    let pass = c.make_rounds_if-behind in
    let call = c.args.call.now in
    let served = pass.result.served in
    let same = (ahead.ensures.none (ap not is)).0 in
    some_weaker own.result (λ (r : ℕ × _). IsOwnEntered ahead.new.session own.new.session call r.0 r.1) (λ (r : ℕ × _). IsPassWithOwn (g.O.Serving.goes_first call) before pass.new.session call r.0 r.1 served)
    (λ (r : ℕ × _) entered. subst (λ (b : Bool). IsPassWithOwn b before pass.new.session call r.0 r.1 served) (sym is ∙ c.goes_first-goes_first.ensures)
    (own_first before own.new.session pass.new.session call r.0 r.1 served (subst (λ (t : TicketView _ _). IsOwnEntered t own.new.session call r.0 r.1) same entered) (pass.ensures.passed is) (pass.ensures.served is).longer)) own.ensures.some

pub returns-then-goes_first-clause-refused : goal.returns-then-goes_first-clause-refused
returns-then-goes_first-clause-refused g c =
    let before = c.args.session.now in
    let is = c.if-goes_first.true in
    let ahead = c.make_rounds_if-ahead in
    let own = c.perform_own_telling-answer in
    let pass = c.make_rounds_if-behind in
    none_then own.result (own.new.session ≡ ahead.new.session) (HasPassed before pass.new.session pass.result.served)
    (λ same. refused-first before own.new.session pass.new.session pass.result.served (same ∙ (ahead.ensures.none (ap not is)).0) (pass.ensures.passed is)) own.ensures.none

pub returns-then-goes_first-clause-told : goal.returns-then-goes_first-clause-told
returns-then-goes_first-clause-told g c =
    let is = c.if-goes_first.true in
    let n = c.args.board.now.sessions in
    let ahead = c.make_rounds_if-ahead in
    let own = c.perform_own_telling-answer in
    let pass = c.make_rounds_if-behind in
    let none = ahead.ensures.none (ap not is) in
    let new = g.T.Listener.list pass.new.listener in
    subst (λ (t : TicketView _ _). HasAddedTold g.T.Listener.ends n pass.new.session.front (entered_since t pass.new.session) (g.T.Listener.list c.args.listener.now) new) none.0
    (subst (λ (l : List ℕ). HasAddedTold g.T.Listener.ends n pass.new.session.front (entered_since ahead.new.session pass.new.session) l new) (ap g.T.Listener.list none.2)
    (told-both n own.new.session.front pass.new.session.front _ _ _ (g.T.Listener.list ahead.new.listener) (g.T.Listener.list own.new.listener) new
    (pass.ensures.served is).longer
    (entered-both ahead.new.session own.new.session pass.new.session (own-entered ahead.new.session own.new.session c.args.call.now own.result own.ensures.some own.ensures.none) (pass-entered own.new.session pass.new.session pass.result.served (pass.ensures.passed is)))
    own.ensures.told (pass.ensures.told is)))

pub returns-then-goes_first-clause-served : goal.returns-then-goes_first-clause-served
returns-then-goes_first-clause-served g c =
    let is = c.if-goes_first.true in
    let n = c.args.board.now.sessions in
    let ahead = c.make_rounds_if-ahead in
    let own = c.perform_own_telling-answer in
    let pass = c.make_rounds_if-behind in
    let none = ahead.ensures.none (ap not is) in
    subst (λ (t : TicketView _ _). HasServed n t pass.new.session c.args.load.now pass.new.load pass.result.starved pass.result.left) none.0
    (subst (λ (l : Load _ _ _). HasServed n ahead.new.session pass.new.session l pass.new.load pass.result.starved pass.result.left) none.1
    (served-first n ahead.new.session own.new.session pass.new.session c.args.call.now own.result ahead.new.load own.new.load pass.new.load pass.result.starved pass.result.left
    own.ensures.some own.ensures.none own.ensures.taken (pass.ensures.served is)))

-- ---- The call goes last: nothing is served behind it.

pub returns-clause-performed : goal.returns-clause-performed
returns-clause-performed g c =
    let before = c.args.session.now in
    let is = c.if-goes_first.false in
    let pass = c.make_rounds_if-ahead in
    let own = c.perform_own_telling-answer in
    let behind = c.make_rounds_if-behind in
    let call = c.args.call.now in
    let served = pass.result.served in
    let same = (behind.ensures.none is).0 in
    let done = ap not is in
    some_weaker own.result (λ (r : ℕ × _). IsOwnEntered pass.new.session own.new.session call r.0 r.1) (λ (r : ℕ × _). IsPassWithOwn (g.O.Serving.goes_first call) before behind.new.session call r.0 r.1 served)
    (λ (r : ℕ × _) entered. subst (λ (b : Bool). IsPassWithOwn b before behind.new.session call r.0 r.1 served) (sym is ∙ c.goes_first-goes_first.ensures)
    (own_last before pass.new.session behind.new.session call r.0 r.1 served (pass.ensures.passed done) (pass.ensures.served done).longer
    (subst (λ (t : TicketView _ _). IsOwnEntered pass.new.session t call r.0 r.1) (sym same) entered))) own.ensures.some

pub returns-clause-refused : goal.returns-clause-refused
returns-clause-refused g c =
    let before = c.args.session.now in
    let is = c.if-goes_first.false in
    let pass = c.make_rounds_if-ahead in
    let own = c.perform_own_telling-answer in
    let behind = c.make_rounds_if-behind in
    none_then own.result (own.new.session ≡ pass.new.session) (HasPassed before behind.new.session pass.result.served)
    (λ same. refused-last before pass.new.session behind.new.session pass.result.served (pass.ensures.passed (ap not is)) ((behind.ensures.none is).0 ∙ same)) own.ensures.none

pub returns-clause-told : goal.returns-clause-told
returns-clause-told g c =
    let before = c.args.session.now in
    let is = c.if-goes_first.false in
    let n = c.args.board.now.sessions in
    let pass = c.make_rounds_if-ahead in
    let own = c.perform_own_telling-answer in
    let behind = c.make_rounds_if-behind in
    let none = behind.ensures.none is in
    let done = ap not is in
    let old = g.T.Listener.list c.args.listener.now in
    subst (λ (t : TicketView _ _). HasAddedTold g.T.Listener.ends n t.front (entered_since before t) old (g.T.Listener.list behind.new.listener)) (sym none.0)
    (subst (λ (l : List ℕ). HasAddedTold g.T.Listener.ends n own.new.session.front (entered_since before own.new.session) old l) (ap g.T.Listener.list (sym none.2))
    (told-both n pass.new.session.front own.new.session.front _ _ _ old (g.T.Listener.list pass.new.listener) (g.T.Listener.list own.new.listener)
    (entered-longer pass.new.session own.new.session c.args.call.now own.result own.ensures.some own.ensures.none)
    (entered-both before pass.new.session own.new.session (pass-entered before pass.new.session pass.result.served (pass.ensures.passed done)) (own-entered pass.new.session own.new.session c.args.call.now own.result own.ensures.some own.ensures.none))
    (pass.ensures.told done) own.ensures.told))

pub returns-clause-served : goal.returns-clause-served
returns-clause-served g c =
    let before = c.args.session.now in
    let is = c.if-goes_first.false in
    let n = c.args.board.now.sessions in
    let pass = c.make_rounds_if-ahead in
    let own = c.perform_own_telling-answer in
    let behind = c.make_rounds_if-behind in
    let none = behind.ensures.none is in
    subst (λ (t : TicketView _ _). HasServed n before t c.args.load.now behind.new.load pass.result.starved pass.result.left) (sym none.0)
    (subst (λ (l : Load _ _ _). HasServed n before own.new.session c.args.load.now l pass.result.starved pass.result.left) (sym none.1)
    (served-last n before pass.new.session own.new.session c.args.call.now own.result c.args.load.now pass.new.load own.new.load pass.result.starved pass.result.left
    own.ensures.some own.ensures.none own.ensures.taken (pass.ensures.served (ap not is))))

pub returns-clause-noted : goal.returns-clause-noted
returns-clause-noted g c =
    let is = c.if-goes_first.false in
    let own = c.perform_own_telling-answer in
    let behind = c.make_rounds_if-behind in
    let none = behind.ensures.none is in
    subst (λ (t : TicketView _ _). g.T.Listener.notes behind.new.listener t.front) (sym none.0)
    (subst (λ (w : _). g.T.Listener.notes w own.new.session.front) (sym none.2) (own.ensures.notes (c.make_rounds_if-ahead.ensures.noted (ap not is))))
