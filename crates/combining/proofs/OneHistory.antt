-- One history of a closed office.
use Rattle.std.proofs.Common.{◌≡◌, ◌∙◌, ◌↔◌, List, [], ◌∷◌, ◌++◌, get_or, sym, subst, append_assoc}
use Rattle.std.specs.Prelude.{Contains}
use Rattle.sequential.specs.declared.entry.Entry.{Entry}
use Rattle.sequential.specs.declared.object.Sequential.{Ghosts}
use Rattle.sequential.specs.Histories.{Answered, IsEntryOf, ArePlacesRising}
use Rattle.sequential.specs.Meaning.{AreFrontsLegal, AreRepliesDetermined}
use Rattle.sequential.proofs.SessionCalls.{contains-entry, entry-contains, rising}
use Rattle.publication.specs.Views.{BoardView, TicketView}
use Rattle.combining.specs.Closed.{IsClosed, IsOnlyReply, IsOneHistory}

module _ {O C R : Type 0} {obj : Ghosts O C R} where
  -- An entry of a legal history has a reply with which any other that the object can give agrees.
  only-reply : AreFrontsLegal obj → AreRepliesDetermined obj → (h front rest : List (Entry C R)) (e : Entry C R) → obj.is_legal h → h ≡ front ++ e ∷ rest → IsOnlyReply obj front e
  only-reply fronts determined h front rest e legal is =
      let whole : h ≡ (front ++ e ∷ []) ++ rest = is ∙ sym (append_assoc front (e ∷ []) rest) in
      let here : obj.is_legal (front ++ e ∷ []) = fronts (front ++ e ∷ []) rest (subst obj.is_legal whole legal) in
      record { legal = here; only = λ other legal_too. determined front e.session e.call e.reply other here legal_too }

  -- The history of a closed office is one history.
  pub one-history : AreFrontsLegal obj → AreRepliesDetermined obj → (office : BoardView) (sessions : List (TicketView C R)) (object : O)
      → IsClosed obj office sessions object → IsOneHistory obj sessions (obj.history object)
  one-history fronts determined office sessions object closed = let h : List (Entry C R) = obj.history object in record {
    fronts = λ front rest is. fronts front rest (subst obj.is_legal is closed.legal);
    replies = λ front rest e is. only-reply fronts determined h front rest e closed.legal is;
    entries = λ k d few a. subst (λ (l : List (Answered C R)). Contains l a ↔ IsEntryOf (get_or sessions k d).number h a) (closed.accounts k d few).calls
        (contains-entry (get_or sessions k d).number h a, entry-contains (get_or sessions k d).number h a);
    in_order = λ k d few. subst ArePlacesRising (closed.accounts k d few).calls (rising (get_or sessions k d).number h);
    whose = λ k d few. let e = closed.within k d few in closed.all.each (get_or h k d).session e.some e.within;
  }
