-- What sessions that make single calls know of their programs.
use Rattle.std.proofs.Common.{◌≡◌, ◌∙◌, ◌⊎◌, inl, inr, ⊎_elim, ℕ, zero, suc, ◌+◌, ◌<◌, ◌≤◌, Bool, Option, Some, None, List, [], ◌∷◌, ◌++◌, append_assoc, length, take, ◌-◌, ◌^◌, min, refl, sym, ap, subst, arith, length-append}
use mathlib.Core.Option as opt
use lib.ListN.{get_elem?}
use Rattle.programs.specs.Flat.{entry, IsAnswer}
use Rattle.programs.specs.Fronts.{fronts_are_legal}
use Rattle.programs.specs.Determined.{last-run}
use Rattle.lock_rules.specs.declared.calls.Call.{Call}
use Rattle.lock_rules.specs.declared.calls.Reply.{Reply}
use Rattle.lock_rules.specs.Legal.{IsLegal as IsLegalByCalls}
use Rattle.lock_rules.proofs.Histories.{legal-front}
use Rattle.lock_programs.specs.declared.program.Program.{Program}
use Rattle.lock_programs.specs.declared.answer.ProgramAnswer.{ProgramAnswer}
use Rattle.lock_programs.specs.Calls.{calls_of}
use Rattle.lock_programs.specs.Answers.{replies_of, program_form}
use Rattle.publication.specs.Views.{asks}
use Rattle.publication.specs.Boards.{publishing, enlisted, tried}
use Rattle.publication.specs.declared.board.Posted.{Posted}
use Rattle.combining.specs.Calls as any
use Rattle.combining.proofs.EndedWaits.{split-at}
use Rattle.lock_office.specs.declared.session.Session.TheInside.{Inside}
use Rattle.lock_office.specs.inner.Sessions.{MakesACall, IsReadable}
use Rattle.lock_office.specs.ProgramBoards.{TicketView, Pending, ProgramEntry, program_object, IsLegal}
use Rattle.lock_office.specs.SingleCalls.{MakesOneCall, IsLastReply}
use Rattle.lock_office.proofs.OneReplies.{some-replies, one-reply}

-- an answer in a legal history is one that its program can have

answered-between : (h front rest : List ProgramEntry) (s : ℕ) (p : Program) (a : ProgramAnswer) → IsLegal h → h ≡ front ++ entry s p a ∷ rest → IsAnswer program_form p a
answered-between h front rest s p a legal is =
    let e : ProgramEntry = entry s p a in
    let whole : h ≡ (front ++ e ∷ []) ++ rest = is ∙ sym (append_assoc front (e ∷ []) rest) in
    let here = fronts_are_legal program_form IsLegalByCalls legal-front (front ++ e ∷ []) rest (subst IsLegal whole legal) in
    (last-run program_form 0 front e here.1).1

pub answered-at : (h : List ProgramEntry) (i s : ℕ) (p : Program) (a : ProgramAnswer) → IsLegal h → get_elem? h i ≡ opt.some (entry s p a) → IsAnswer program_form p a
answered-at h i s p a legal at = let cut = split-at h i (entry s p a) at in answered-between h (take i h) cut.0 s p a legal cut.1

-- so that to a program that makes a call there is a reply
pub replies-at : (h : List ProgramEntry) (i s : ℕ) (p : Program) (a : ProgramAnswer) → 0 < length (calls_of p) → IsLegal h → get_elem? h i ≡ opt.some (entry s p a) → 0 < length (replies_of p a)
replies-at h i s p a some legal at = some-replies p a some (answered-at h i s p a legal at)

-- what an answer tells as its last reply, and its place
abbrev pub IsLastTold : Program → ProgramAnswer → ℕ → Reply → Type 0
IsLastTold p a place reply = (earlier : List Reply) × (replies_of p a ≡ earlier ++ reply ∷ []) × (place ≡ min (a.first + length earlier) (2 ^ 64 - 1))

last-is : (xs : List Reply) (x y : Reply) → xs ++ x ∷ [] ≡ y ∷ [] → y ≡ x
last-is [] x y e = let same : x ≡ y = cc e in sym same
last-is (z ∷ zs) x y e = absurd (let n = ap (λ (l : List Reply). length l) e in omega (arith, n, length-append zs (x ∷ [])))

pub last-reply : (p : Program) (a : ProgramAnswer) (place : ℕ) (reply : Reply) → IsAnswer program_form p a → IsLastTold p a place reply → (length (replies_of p a) ≡ 1 → a.first ≡ place) → IsLastReply p a place reply
last-reply p a place reply fits told first = record {
  earlier = told.0;
  replies = told.1;
  place_is = told.2;
  one = λ call calls.
      let r = one-reply p a call calls fits in
      record {
        calls = calls;
        replies = r.1 ∙ ap (λ (q : Reply). q ∷ []) (last-is told.0 reply r.0 (sym told.1 ∙ r.1));
        place_is = first (ap (λ (l : List Reply). length l) r.1);
      };
}

-- a program of a call makes some
pub some-first : (p : Program) → MakesACall p → 0 < length (calls_of p)
some-first p m = subst (λ (l : List Call). 0 < length l) (sym m.2) (omega arith)

first-of : (l : List Call) → 0 < length l → (first : Call) × (rest : List Call) × (l ≡ first ∷ rest)
first-of [] some = absurd (omega (arith, some))
first-of (c ∷ cs) some = (c, cs, refl)

-- what is kept of the pending program
pub kept-some : (p asked : Program) → (p ≡ asked) × MakesACall p → (p ≡ asked) × (0 < length (calls_of p))
kept-some p asked kept = (kept.0, some-first p kept.1)

-- the pending program is answered
module _ (s t : TicketView) (at : ℕ) (a : ProgramAnswer) (asked : Program) (d : any.IsAnswered program_object s t at a) (kept : (d.0 ≡ asked) × (0 < length (calls_of d.0))) where
  pub pending-stands : get_elem? t.front at ≡ opt.some (entry s.number asked a)
  pending-stands = subst (λ (p : Program). get_elem? t.front at ≡ opt.some (entry s.number p a)) kept.0 d.3.stands

-- What is kept of a session, as it goes on.

pub readable-on : (n : ℕ) (s : Inside) (t : TicketView) → IsReadable s → t.pending ≡ s.session.pending → IsReadable (record { session = t; asked = s.asked; seen = n })
readable-on n s t kept pending p floor is = kept p floor (sym pending ∙ is)

pub readable-idle : (n : ℕ) (asked : Program) (t : TicketView) → t.pending ≡ None → IsReadable (record { session = t; asked = asked; seen = n })
readable-idle n asked t none p floor is = absurd (let e = sym none ∙ is in cc)

pub readable-running : (n : ℕ) (asked : Program) (t : TicketView) → 0 < length (calls_of asked)
    → ((p : Program) (floor : ℕ) → t.pending ≡ Some (asks p floor) → p ≡ asked) → IsReadable (record { session = t; asked = asked; seen = n })
readable-running n asked t some pending p floor is = let same = pending p floor is in (same, subst MakesACall (sym same) (first-of (calls_of asked) some))

-- a single call is a call
pub some-call : (p : Program) (c : Call) → MakesOneCall p c → 0 < length (calls_of p)
some-call p c one = subst (λ (l : List Call). 0 < length l) (sym one) (omega arith)

pub readable-asking : (n : ℕ) (asked : Program) (c : Call) (t : TicketView) → MakesOneCall asked c
    → ((p : Program) (floor : ℕ) → t.pending ≡ Some (asks p floor) → p ≡ asked) → IsReadable (record { session = t; asked = asked; seen = n })
readable-asking n asked c t one pending = readable-running n asked t (some-call asked c one) pending

abbrev asked-or : Program → Option Pending → Program
asked-or p None = p
asked-or p (Some r) = r.call

-- a pending call is this program
pub asks-same : (p q : Program) (a b : ℕ) (o : Option Pending) → o ≡ Some (asks p a) → o ≡ Some (asks q b) → q ≡ p
asks-same p q a b o is also = sym (ap (asked-or p) (sym is ∙ also))

-- a call that was published is pending
pub published : {Y : Type 0} (s t : TicketView) (p : Program) (posted : Posted) → (posted ≡ Posted.Listed → (t ≡ enlisted (publishing s p)) ⊎ (t ≡ tried (enlisted (publishing s p))))
    → (posted ≡ Posted.Unlisted → (t ≡ tried (publishing s p)) × Y) → t.pending ≡ (publishing s p).pending
published s t p Posted.Listed l u = ⊎_elim (λ e. ap (λ (x : TicketView). x.pending) e) (λ e. ap (λ (x : TicketView). x.pending) e) (l refl)
published s t p Posted.Unlisted l u = ap (λ (x : TicketView). x.pending) (u refl).0

-- and nothing more is known of the history
pub published-front : {Y : Type 0} (s t : TicketView) (p : Program) (posted : Posted) → (posted ≡ Posted.Listed → (t ≡ enlisted (publishing s p)) ⊎ (t ≡ tried (enlisted (publishing s p))))
    → (posted ≡ Posted.Unlisted → (t ≡ tried (publishing s p)) × Y) → t.front ≡ s.front
published-front s t p Posted.Listed l u = ⊎_elim (λ e. ap (λ (x : TicketView). x.front) e) (λ e. ap (λ (x : TicketView). x.front) e) (l refl)
published-front s t p Posted.Unlisted l u = ap (λ (x : TicketView). x.front) (u refl).0

pub option-cases : {X : Type 0} (o : Option Pending) → (o ≡ None → X) → ((p : Program) (floor : ℕ) → o ≡ Some (asks p floor) → X) → X
option-cases None f g = f refl
option-cases (Some q) f g = g q.call q.floor refl

pub compared : (a b : ℕ) → (a < b) ⊎ (b ≤ a)
compared a zero = inr (omega arith)
compared zero (suc b) = inl (omega arith)
compared (suc a) (suc b) = ⊎_elim (λ h. inl (omega (arith, h))) (λ h. inr (omega (arith, h))) (compared a b)
