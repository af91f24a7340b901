-- Calls that were performed on the object and not answered yet.
use Rattle.std.proofs.Common.{◌≡◌, ℕ, suc, ◌+◌, ◌-◌, ◌<◌, ◌≤◌, Some, List, [], ◌∷◌, ◌++◌, length, map, get_or, set, take, drop, refl, sym, ap, ◌∙◌, subst, arith, append_assoc, length-append}
use mathlib.Core.List.{IsPrefix}
use Rattle.std.proofs.lemmas.List.{append-nil, get_or-take, length-take-le}
use Rattle.std.proofs.Math.Seq.{drop-cons, drop-append_seam}
use Rattle.sequential.specs.declared.entry.Entry.{Entry}
use Rattle.sequential.specs.declared.entry.Item.{Item}
use Rattle.sequential.specs.Batches.{item_of}
use Rattle.publication.specs.Views.{TicketView, entry}
use Rattle.publication.specs.Boards.{asked_at}
use Rattle.publication.specs.StepKinds.{called}
use Rattle.combining.specs.inner.Passes.{AreOpened, KeepsCalls, IsObjectInHand}
use Rattle.combining.specs.inner.Ages.{sessions_of, sessions_since, noted}
use Rattle.combining.proofs.CallsToServe.{answered, calls-answer}
use Rattle.sequential.specs.Meaning.{AreFrontsLegal}
use Rattle.sequential.specs.declared.object.Sequential.{Ghosts}

module _ {C R : Type 0} where
  -- The rest of a row from index k on begins with item k.
  pub drop-next : (row : List (Item C R)) (k : ℕ) (i : Item C R) → k < length row → i ≡ get_or row k i → drop k row ≡ i ∷ drop (k + 1) row
  drop-next row k i few here = drop-cons row k i few ∙ (ap (λ (x : Item C R). x ∷ drop (suc k) row) (sym here) ∙ ap (λ (m : ℕ). i ∷ drop m row) (let one : suc k ≡ k + 1 = omega arith in one))

module _ {O C R : Type 0} (obj : Ghosts O C R) where
  -- A performed call can be answered: its item has a reply, the history with its entry is legal,
  -- and the object is then ahead of the history by the calls behind it.
  pub record IsAnswerable (n : ℕ) (object : O) (t : TicketView C R) (i : Item C R) (is : List (Item C R)) : Type 0 where
    pub reply : R
    pub told : i.reply ≡ Some reply
    pub legal : obj.is_legal (t.front ++ entry i.session i.call reply ∷ [])
    pub later : (u : TicketView C R) → u.front ≡ t.front ++ entry i.session i.call reply ∷ [] → IsObjectInHand obj n object u is

module _ {O C R : Type 0} {obj : Ghosts O C R} where
  -- The first of the performed calls can be answered.
  pub first-answerable : AreFrontsLegal obj → (n : ℕ) (object : O) (t : TicketView C R) (i : Item C R) (is : List (Item C R)) → obj.is_legal (obj.history object) → IsObjectInHand obj n object t (i ∷ is) → IsAnswerable obj n object t i is
  first-answerable fronts n object t i is legal h = by_entries h.entries h.performed h.history
    where
      by_entries : (es : List (Entry C R)) → i ∷ is ≡ map item_of es → (obj.history object) ≡ t.front ++ es → IsAnswerable obj n object t i is
      by_entries [] p all = absurd (cc p)
      by_entries (e ∷ es) p all =
          let first : i ≡ item_of e = cc p in
          let others : is ≡ map item_of es = cc p in
          let same : e ≡ entry i.session i.call e.reply = rw first refl in
          let front : (obj.history object) ≡ (t.front ++ entry i.session i.call e.reply ∷ []) ++ es
          = all ∙ (ap (λ (x : Entry C R). t.front ++ x ∷ es) same ∙ sym (append_assoc t.front (entry i.session i.call e.reply ∷ []) es)) in
          record {
            reply = e.reply;
            told = ap (λ (x : Item C R). x.reply) first;
            legal = fronts (t.front ++ entry i.session i.call e.reply ∷ []) es (subst obj.is_legal front legal);
            later = λ u known. record {
              sessions_are = h.sessions_are;
              entries = es;
              performed = others;
              history = front ∙ ap (λ (f : List (Entry C R)). f ++ es) (sym known);
            };
          }

module _ {O C R : Type 0} (obj : Ghosts O C R) where
  -- The performed call at index k of the row is answered next.
  pub record IsAnswered (n : ℕ) (object : O) (t u : TicketView C R) (row : List (Item C R)) (served k : ℕ) (i : Item C R) (reply : R) : Type 0 where
    pub legal : obj.is_legal (t.front ++ entry i.session (asked_at obj t i.session) reply ∷ [])
    pub book_is : IsObjectInHand obj n object u (drop (k + 1) (take served row))
    pub row_is : AreOpened n u.opened (drop (k + 1) row)
    pub longer : IsPrefix t.front u.front
    pub count : length u.front ≡ length t.front + 1
    pub calls : KeepsCalls t u

module _ {O C R : Type 0} {obj : Ghosts O C R} where
  -- The performed call at index k can be answered, once those before it were.
  pub answerable-at : AreFrontsLegal obj → (n : ℕ) (object : O) (t : TicketView C R) (row : List (Item C R)) (k : ℕ) (i : Item C R) → k < length row → i ≡ get_or row k i → obj.is_legal (obj.history object) → IsObjectInHand obj n object t (drop k row)
      → IsAnswerable obj n object t i (drop (k + 1) row)
  answerable-at fronts n object t row k i few here legal h = first-answerable fronts n object t i (drop (k + 1) row) legal (subst (λ (l : List (Item C R)). IsObjectInHand obj n object t l) (drop-next row k i few here) h)

  -- After that answer, the calls behind index k remain to be answered.
  pub answered-at : AreFrontsLegal obj → (n : ℕ) (object : O) (t u : TicketView C R) (row : List (Item C R)) (served k : ℕ) (i : Item C R) (reply : R) → served ≤ length row → k < length (take served row) → i ≡ get_or (take served row) k i
      → i.reply ≡ Some reply → obj.is_legal (obj.history object) → IsObjectInHand obj n object t (drop k (take served row)) → AreOpened n t.opened (drop k row) → u ≡ (answered obj) t i.session reply
      → IsAnswered obj n object t u row served k i reply
  answered-at fronts n object t u row served k i reply most few here told legal h all is =
      let next = answerable-at fronts n object t (take served row) k i few here legal h in
      let long = length-take-le served row most in
      let in_row : i ≡ get_or row k i = here ∙ get_or-take served row k i (omega (arith, few, long)) in
      let opened : AreOpened n t.opened (i ∷ drop (k + 1) row) = subst (λ (l : List (Item C R)). AreOpened n t.opened l) (drop-next row k i (omega (arith, few, long, most)) in_row) all in
      let asked : asked_at obj t i.session ≡ i.call = ap (called obj) opened.1 in
      let told_entry = entry i.session (asked_at obj t i.session) reply in
      let known : u.front ≡ t.front ++ told_entry ∷ [] = ap (λ (x : TicketView C R). x.front) is in
      let e : entry i.session i.call next.reply ≡ told_entry = cc (sym asked, (let s : Some next.reply ≡ Some reply = sym next.told ∙ told in s)) in
      let front : t.front ++ entry i.session i.call next.reply ∷ [] ≡ t.front ++ told_entry ∷ [] = ap (λ (x : Entry C R). t.front ++ x ∷ []) e in
      record {
        legal = subst obj.is_legal front next.legal;
        book_is = next.later u (known ∙ sym front);
        row_is = subst (λ (x : TicketView C R). AreOpened n x.opened (drop (k + 1) row)) (sym is) opened.2;
        longer = (told_entry ∷ [], sym known);
        count = ap (λ (es : List (Entry C R)). length es) known ∙ length-append t.front (told_entry ∷ []);
        calls = subst (λ (x : TicketView C R). KeepsCalls t x) (sym is) (calls-answer obj t i.session reply i.call opened.1);
      }

module _ {C R : Type 0} where
  -- No entries stand for no items.
  no-entries : (es : List (Entry C R)) → [] ≡ map item_of es → es ≡ []
  no-entries [] p = refl
  no-entries (e ∷ es) p = absurd (cc p)

module _ {O C R : Type 0} {obj : Ghosts O C R} where
  -- Once each performed call is answered, the object's history is the one that the combiner knows.
  pub in-hand : (n : ℕ) (object : O) (t : TicketView C R) → IsObjectInHand obj n object t [] → (obj.history object) ≡ t.front
  in-hand n object t b = b.history ∙ (ap (λ (es : List (Entry C R)). t.front ++ es) (no-entries b.entries b.performed) ∙ append-nil t.front)

module _ {C R : Type 0} where
  -- Items made of entries are of the entries' sessions.
  sessions-same : (es : List (Entry C R)) → map (λ (e : Entry C R). e.session) es ≡ sessions_of (map item_of es)
  sessions-same [] = refl
  sessions-same (e ∷ es) = ap (λ (js : List ℕ). e.session ∷ js) (sessions-same es)

module _ {O C R : Type 0} {obj : Ghosts O C R} where
  -- Once all performed calls are answered, the entries that the known history gained are of their sessions, in order.
  pub all-entered : (n : ℕ) (object : O) (t u : TicketView C R) (row : List (Item C R)) → IsObjectInHand obj n object t row → IsObjectInHand obj n object u []
      → sessions_since (length t.front) u.front ≡ sessions_of row
  all-entered n object t u row before after =
      let whole : u.front ≡ t.front ++ before.entries = sym (in-hand n object u after) ∙ before.history in
      let gained : drop (length t.front) u.front ≡ before.entries = ap (λ (f : List (Entry C R)). drop (length t.front) f) whole ∙ drop-append_seam t.front before.entries in
      ap (λ (es : List (Entry C R)). map (λ (e : Entry C R). e.session) es) gained ∙ (sessions-same before.entries ∙ ap sessions_of (sym before.performed))

module _ {C R : Type 0} where
  -- Noting the age of the session at index k leaves those behind it to be noted.
  pub noted-next : (ages after : List ℕ) (passes : ℕ) (row : List (Item C R)) (k : ℕ) (i : Item C R) → k < length row → i ≡ get_or row k i → after ≡ set ages (i.session - 1) passes
      → noted after (sessions_of (drop (k + 1) row)) passes ≡ noted ages (sessions_of (drop k row)) passes
  noted-next ages after passes row k i few here is =
      ap (λ (l : List ℕ). noted l (sessions_of (drop (k + 1) row)) passes) is ∙ sym (ap (λ (r : List (Item C R)). noted ages (sessions_of r) passes) (drop-next row k i few here))
