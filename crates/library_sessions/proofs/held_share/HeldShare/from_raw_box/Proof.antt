-- `from_raw_box` moves the pointer, the allocator, and what the pointer owns.
use Rattle.std.proofs.Common.{◌≡◌, [], ◌++◌, refl}
use Rattle.library_books.proofs.Walking.{emp, id⊢, fact_i, tables, RattleType, plain, Stays, stay_dropped, Goes-blank, proved_at, ghosts}
use Rattle.std.specs.contracts.alloc.Global as heap
use Rattle.library_books.proofs.PointerValues.{value_is}
use Rattle.library_books.proofs.Moving.{moved}
use Rattle.library_sessions.specs.inner.Held.{share_at}
use Rattle.library_sessions.specs.contracts.session_share.SessionShare as inner
use Rattle.library_books.specs.contracts.raw_box.RawBox as raw_box
use Rattle.library_sessions.specs.contracts.held_share.HeldShare.from_raw_box.{ended, clauses}
use Rattle.library_sessions.specs.contracts.held_share.HeldShare.from_raw_box.Key.{name as #self}
use Rattle.library_sessions.proofs.held_share.HeldShare.from_raw_box.Statement.{statement}
use Rattle.library_sessions.proofs.held_share.HeldShare.from_raw_box.Code as code

pub from_raw_box_spec : {M : Type 1} → statement M
from_raw_box_spec 𝓤 𝓛 𝓜 𝓡 wired =
    let raw : RattleType = raw_box.the_row inner.the_row heap.the_row ghosts in
    let c = clauses 𝓛 𝓜.mem 𝓡.returns in let 𝓣 = tables 𝓤 𝓛.H 𝓜 𝓡 𝓡.env in
    let stays : Stays ended.signature.params ended.kept = (stay_dropped (plain (λ _. raw)) ended.kept.0, tt) in
    proved_at 𝓛 ended stays c 𝓜 𝓡 (Goes-blank 𝓛 0 (plain (λ _. raw)) ended.kept.0 (λ κs x f. tt), tt) #self code.function (code.unfolded 𝓤 𝓛.H 𝓜 𝓡 wired) (λ z are.
    let x = z.0.3.0 in
    moved 𝓛 ended stays c 𝓣.C 𝓣.Λ z x.at x.alloc (share_at x.alloc x.at x.value) (record { at = x.at; alloc = x.alloc; share = x.value }) (tt, tt) (tt, tt) _ _ z.0.4.0 (λ i. value_is x.at x.alloc z.0.4.0 are.0.0 i ++ [])
    (id⊢ 𝓤 _) (id⊢ 𝓤 _) (id⊢ 𝓤 _) (fact_i 𝓤 (x.value ≡ x.value) (emp 𝓤) refl))
