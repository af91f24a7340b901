use Rattle.std.proofs.Common.{rules, ◌≡◌, List, length, sym, subst, ap, ◌∙◌}
use Rattle.std.specs.Prelude.{Any}
use Rattle.std.proofs.lemmas.List.{length-map}
use Rattle.library_sessions.specs.declared.session_handle.SessionHandle.{SessionHandle}
use Rattle.library_sessions.proofs.Handles.{new_tickets_count, are_unknowing}
use Rattle.pelgaisti_c.proofs.office.pelgaisti_raw_office_open.Goals as goal

pub open_handles-requires-clause-free : goal.open_handles-requires-clause-free
open_handles-requires-clause-free c = λ k d few. (c.in-Ok-shares_of.ensures.office k d few).free

pub open_handles-requires-clause-as_many : goal.open_handles-requires-clause-as_many
open_handles-requires-clause-as_many c =
    let ws = c.in-Ok-shares_of.shares.items in
    let made : length c.in-Ok.made.items ≡ length c.items-sessions.result.now = ap length c.in-Ok.ensures.sessions ∙ new_tickets_count _ _ _ in
    let same : length c.has_open.new.handles ≡ length c.items-sessions.result.now = ap length c.has_open.ensures.same in
    sym (length-map ws (λ share. share.value.session)) ∙ (ap length c.in-Ok-shares_of.ensures.sessions ∙ (made ∙ sym same))

pub returns-then-has_open-clause-open : goal.returns-then-has_open-clause-open
returns-then-has_open-clause-open c = λ _.
    let at : c.items-sessions.result.now ≡ c.args.sessions.now.behind = search rules in
    subst (λ (handles : List SessionHandle). Any (λ handle. handle.is_open ≡ 1) handles) at (c.has_open.ensures.open (search rules))

pub shares_of-requires-clause-unknowing : goal.shares_of-requires-clause-unknowing
shares_of-requires-clause-unknowing c = search (are_unknowing, c.in-Ok.ensures.sessions)
