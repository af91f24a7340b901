-- The pieces of the history that sessions took: which are a session's, and that no step but a release adds any.
use Rattle.std.proofs.Common.{◌≡◌, ◌≢◌, ℕ, ◌<◌, ◌≤◌, ◌==◌, true, false, List, [], ◌∷◌, ◌++◌, length, get_or, refl, sym, ap, ◌∙◌, subst, arith, append-nil}
use Rattle.std.specs.Prelude.{All}
use Rattle.std.proofs.lemmas.Bool.Decides.{nat_tests}
use Rattle.std.proofs.lemmas.List.Elements.{All-append, All-head, All-tail, filter-append}
use Rattle.std.proofs.Math.Seq.{drop-append_seam}
use mathlib.Core.Option as opt
use lib.ListN.{get_elem?}
use Rattle.publication.specs.Words.{FREE}
use Rattle.publication.specs.Pieces.{pieces_of, HasAdded, added}
use Rattle.publication.specs.Views.{Handed}
use Rattle.publication.specs.Rule.{BoardState, word, home, seat, pieces_in, IsOfSession, HasPieces, ArePieces}
use Rattle.publication.specs.declared.piece.Piece.{Piece}
use Rattle.publication.specs.declared.view.View.{View}

-- pieces of sessions

is_session : (p : Piece) (i : ℕ) → p.session ≡ i → p.session == i ≡ true
is_session p i e = grind (arith, nat_tests)

isn't_session : (p : Piece) (i : ℕ) → p.session ≢ i → p.session == i ≡ false
isn't_session p i ne = grind (arith, nat_tests)

-- If no piece is of session i, it has none.
pub none_of : (i : ℕ) (ps : List Piece) → All (λ p. p.session ≢ i) ps → pieces_of i ps ≡ []
none_of i [] all = refl
none_of i (p ∷ ps) all = rw (isn't_session p i (All-head (λ q. q.session ≢ i) p ps all)) (none_of i ps (All-tail (λ q. q.session ≢ i) p ps all))

-- If all are of session i, it has all.
pub all_of : (i : ℕ) (ps : List Piece) → All (λ p. p.session ≡ i) ps → pieces_of i ps ≡ ps
all_of i [] all = refl
all_of i (p ∷ ps) all = rw (is_session p i (All-head (λ q. q.session ≡ i) p ps all)) (ap (λ l. p ∷ l) (all_of i ps (All-tail (λ q. q.session ≡ i) p ps all)))

-- What holds of each element of a list holds of each in a weaker form.
weaker : {A : Type 0} (P Q : A → Type 0) (l : List A) → ((x : A) → P x → Q x) → All P l → All Q l
weaker P Q l so all k d few = so (get_or l k d) (all k d few)

-- A session that isn't made has taken no piece.
pub unmade_none : (slots n j : ℕ) (ps : List Piece) → All (IsOfSession slots n) ps → n ≤ j → pieces_of j ps ≡ []
unmade_none slots n j ps all past = none_of j ps (weaker (IsOfSession slots n) (λ p. p.session ≢ j) ps (λ p is e. omega (arith, is.2)) all)

-- With more seats the pieces are still of sessions that are made.
pub more_seats : (slots n m : ℕ) (ps : List Piece) → n ≤ m → All (IsOfSession slots n) ps → All (IsOfSession slots m) ps
more_seats slots n m ps le = weaker (IsOfSession slots n) (IsOfSession slots m) ps (λ p is. (is.0, is.1, omega (arith, is.2)))

-- A session took more pieces.
module _ (k : ℕ) (before after : List Piece) (t : HasAdded k before after) where
  -- The pieces that it added.
  pub added_is : added before after ≡ t.more
  added_is = ap (λ (l : List Piece). added before l) t.after_is ∙ drop-append_seam before t.more

  -- Its pieces are those that it had, and those that it added.
  pub own_added : pieces_of k after ≡ pieces_of k before ++ added before after
  own_added = ap (pieces_of k) t.after_is ∙ (filter-append (λ p. p.session == k) before t.more
      ∙ (ap (λ (l : List Piece). pieces_of k before ++ l) (all_of k t.more t.own ∙ sym added_is)))

  -- No other session has others.
  pub others_kept : (j : ℕ) → j ≢ k → pieces_of j after ≡ pieces_of j before
  others_kept j ne = ap (pieces_of j) t.after_is ∙ (filter-append (λ p. p.session == j) before t.more
      ∙ (ap (λ (l : List Piece). pieces_of j before ++ l) (none_of j t.more (weaker (λ p. p.session ≡ k) (λ p. p.session ≢ j) t.more (λ p is e. ne (sym e ∙ is)) t.own)) ∙ append-nil (pieces_of j before)))

  -- They are all of sessions that are made.
  pub within_added : (slots n : ℕ) → 0 < k → k < slots → k < n → All (IsOfSession slots n) before → All (IsOfSession slots n) after
  within_added slots n some small few all = subst (All (IsOfSession slots n)) (sym t.after_is)
      (All-append (IsOfSession slots n) before t.more all (weaker (λ p. p.session ≡ k) (IsOfSession slots n) t.more (λ p is. (omega (arith, is), omega (arith, is), omega (arith, is))) t.own))

module _ {C R : Type 0} where
  -- seats

  -- A seat that names no session, is no combiner's and knows of no session that was handed in knows nothing false.
  pub knows_none : (all : List Piece) (v : View C R) → v.number ≡ 0 → v.others.handed ≡ [] → v.combiner.has_object ≡ false → HasPieces all v
  knows_none all v no_number none no_object = record {
    own = λ some. absurd (some no_number);
    handed = λ p x at. absurd (opt.some-ne-none x (sym at ∙ ap (λ (l : List (Handed C R)). get_elem? l p) none));
    known = λ has. absurd (cc (has, no_object));
  }

module _ {O C R : Type 0} where
  -- The rule of the pieces after a step that changes no lock word and no slot of the lock.
  pub pieces_kept : (slots : ℕ) (s t : BoardState O C R) (o : ArePieces slots s) → length s.views ≤ length t.views → (word t 0 ≡ FREE → (word s 0 ≡ FREE) × (home t 0 ≡ home s 0))
      → ((k : ℕ) → HasPieces o.all (seat t k)) → ArePieces slots t
  pieces_kept slots s t o more same seats = record {
    all = o.all;
    within = more_seats slots (length s.views) (length t.views) o.all more o.within;
    seats = seats;
    home = λ e. let r = same e in ap pieces_in r.1 ∙ o.home r.0;
  }
