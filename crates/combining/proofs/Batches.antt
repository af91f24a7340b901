-- A row whose first calls were served as a batch.
use Rattle.std.proofs.Common.{◌≡◌, ◌∙◌, ℕ, ◌≤◌, Some, None, List, [], ◌∷◌, ◌++◌, length, get_or, set, take, drop, sym, ap, subst}
use Rattle.std.proofs.Math.Seq.{take-append_seam, drop-append_seam}
use Rattle.sequential.specs.declared.entry.Entry.{Entry}
use Rattle.sequential.specs.declared.entry.Item.{Item}
use Rattle.sequential.specs.Batches.{IsBatch, asked_by, asked_in}
use Rattle.sequential.proofs.Batches.{asked-same, batch-served}
use Rattle.sequential.specs.declared.object.Sequential.{Ghosts}
use Rattle.publication.specs.Views.{TicketView}
use Rattle.combining.specs.inner.Passes.{AreOpened, IsObjectInHand}
use Rattle.combining.proofs.OpenedRow.{Calls}
use Rattle.combining.proofs.PerformedCalls.{in-hand}

module _ {C R : Type 0} where
  -- Which records a row has opened depends on its calls alone.
  opened-same : (n : ℕ) (l : Calls C) (row other : List (Item C R)) → asked_by row ≡ asked_by other → AreOpened n l row → AreOpened n l other
  opened-same n l [] [] same all = all
  opened-same n l [] (j ∷ js) same all = absurd (cc same)
  opened-same n l (i ∷ is) [] same all = absurd (cc same)
  opened-same n l (i ∷ is) (j ∷ js) same all =
      let both : (i.session, i.call) ≡ (j.session, j.call) = cc same in
      let rest : asked_by is ≡ asked_by js = cc same in
      let session : i.session ≡ j.session = ap (λ (p : ℕ × C). p.0) both in
      let call : i.call ≡ j.call = ap (λ (p : ℕ × C). p.1) both in (
        record { some = subst (λ (s : ℕ). 1 ≤ s) session all.0.some; within = subst (λ (s : ℕ). s ≤ n) session all.0.within },
        ap (λ (s : ℕ). get_or l s None) (sym session) ∙ (all.1 ∙ ap Some call),
        opened-same n (set l j.session None) is js rest (subst (λ (s : ℕ). AreOpened n (set l s None) is) session all.2),
      )

  -- The batch is written back whole.
  pub written : (len : ℕ) (row items last : List (Item C R)) → len ≡ length items → last ≡ take len (items ++ drop (length items) row) → last ≡ items
  written len row items last long read = read ∙ (ap (λ (m : ℕ). take m (items ++ drop (length items) row)) long ∙ take-append_seam items (drop (length items) row))

  -- Serving the first calls of a row, and writing the batch back into the vector, changes none of its calls.
  pub opened-performed : (n : ℕ) (l : Calls C) (before after : List (Entry C R)) (served len : ℕ) (row cells items last : List (Item C R)) → AreOpened n l row → cells ≡ row → IsBatch before after cells items served → len ≡ length items
      → last ≡ take len (items ++ drop (length items) row) → AreOpened n l last
  opened-performed n l before after served len row cells items last all same batch long read =
      let whole : last ≡ items = written len row items last long read in
      opened-same n l row last (ap asked_by (sym same) ∙ (sym (asked-same before after cells items served batch) ∙ ap asked_by (sym whole))) all

module _ {O C R : Type 0} {obj : Ghosts O C R} where
  -- After a batch the object is ahead of the known history by the calls that the batch has served.
  pub batch-in_hand : (n : ℕ) (before after : O) (t : TicketView C R) (old items last : List (Item C R)) (served : ℕ) → IsObjectInHand obj n before t [] → obj.sessions after ≡ obj.sessions before → served ≤ length old
      → IsBatch (obj.history before) (obj.history after) old items served → last ≡ items → IsObjectInHand obj n after t (take served last)
  batch-in_hand n before after t old items last served h sessions few b same = record {
    sessions_are = sessions ∙ h.sessions_are;
    entries = b.entries;
    performed = ap (λ (l : List (Item C R)). take served l) same ∙ batch-served (obj.history before) (obj.history after) old items served few b;
    history = b.history ∙ ap (λ (l : List (Entry C R)). l ++ b.entries) (in-hand n before t h);
  }

  -- What the entries asked by which a batch has led on is what the first items of the batch ask.
  pub asked-since : (n : ℕ) (before after : O) (t u : TicketView C R) (old items : List (Item C R)) (served : ℕ) → IsObjectInHand obj n before t [] → IsObjectInHand obj n after u []
      → IsBatch (obj.history before) (obj.history after) old items served → asked_in (drop (length t.front) u.front) ≡ asked_by (take served old)
  asked-since n before after t u old items served h k b =
      let front : u.front ≡ t.front ++ b.entries = sym (in-hand n after u k) ∙ (b.history ∙ ap (λ (l : List (Entry C R)). l ++ b.entries) (in-hand n before t h)) in
      ap (λ (l : List (Entry C R)). asked_in (drop (length t.front) l)) front ∙ (ap asked_in (drop-append_seam t.front b.entries) ∙ b.asked)
