-- The laws of the histories of an object that is given by one function.
use Rattle.std.proofs.Common.{◌≡◌, ℕ, ◌⊎◌, List, [], ◌∷◌, ◌++◌, refl, sym, ap, ◌∙◌, inl, inr, ⊎_elim, append_assoc}
use Rattle.sequential.specs.declared.entry.Entry.{Entry}
use Rattle.sequential.specs.Replies.{AreRepliesOf}

module _ {C R : Type 0} where
  not-empty : (f r : List (Entry C R)) (e : Entry C R) → [] ≡ f ++ e ∷ r → ⊥
  not-empty [] r e p = absurd (cc p)
  not-empty (x ∷ xs) r e p = absurd (cc p)

  -- Where an entry stands in a list with one entry more: it is the last one, or stands in the list.
  split : (h f r : List (Entry C R)) (x e : Entry C R) → h ++ x ∷ [] ≡ f ++ e ∷ r → ((f ≡ h) × (e ≡ x)) ⊎ ((rest : List (Entry C R)) × (h ≡ f ++ e ∷ rest))
  split [] [] r x e p = inl (refl, (let q : e ≡ x = cc p in q))
  split [] (y ∷ ys) r x e p = absurd (not-empty ys r e (let q : [] ≡ ys ++ e ∷ r = cc p in q))
  split (z ∷ zs) [] r x e p = inr (zs, ap (λ (w : Entry C R). w ∷ zs) (let q : z ≡ e = cc p in q))
  split (z ∷ zs) (y ∷ ys) r x e p =
      let first : z ≡ y = cc p in
      let later : zs ++ x ∷ [] ≡ ys ++ e ∷ r = cc p in
      ⊎_elim (λ last. inl (ap (λ (l : List (Entry C R)). y ∷ l) last.0 ∙ ap (λ (w : Entry C R). w ∷ zs) (sym first), last.1))
      (λ there. inr (there.0, ap (λ (w : Entry C R). w ∷ zs) first ∙ ap (λ (l : List (Entry C R)). y ∷ l) there.1))
      (split zs ys r x e later)

module _ {C R : Type 0} (reply_to : List (Entry C R) → ℕ → C → R) where
  pub fronts_of : (front rest : List (Entry C R)) → AreRepliesOf reply_to (front ++ rest) → AreRepliesOf reply_to front
  fronts_of front rest all f r e is = all f (r ++ rest) e (ap (λ (l : List (Entry C R)). l ++ rest) is ∙ append_assoc f (e ∷ r) rest)

  pub empty_of : AreRepliesOf reply_to []
  empty_of f r e is = absurd (not-empty f r e is)

  pub determined_of : (front : List (Entry C R)) (session : ℕ) (call : C) (reply other : R) → AreRepliesOf reply_to (front ++ record { session = session; call = call; reply = reply } ∷ [])
      → AreRepliesOf reply_to (front ++ record { session = session; call = call; reply = other } ∷ []) → reply ≡ other
  determined_of front session call reply other h k =
      h front [] (record { session = session; call = call; reply = reply }) refl ∙ sym (k front [] (record { session = session; call = call; reply = other }) refl)

  -- One call more, with the object's reply.
  pub push_of : (h : List (Entry C R)) (x : Entry C R) → AreRepliesOf reply_to h → x.reply ≡ reply_to h x.session x.call → AreRepliesOf reply_to (h ++ x ∷ [])
  push_of h x all replied f r e is = ⊎_elim
      (λ last. ap (λ (w : Entry C R). w.reply) last.1 ∙ (replied ∙ (ap (λ (w : Entry C R). reply_to h w.session w.call) (sym last.1) ∙ ap (λ (l : List (Entry C R)). reply_to l e.session e.call) (sym last.0))))
      (λ there. all f there.0 e there.1)
      (split h f r x e is)

  pub total_of : (front : List (Entry C R)) (session : ℕ) (call : C) → AreRepliesOf reply_to front → (reply : R) × AreRepliesOf reply_to (front ++ record { session = session; call = call; reply = reply } ∷ [])
  total_of front session call all = (reply_to front session call, push_of front (record { session = session; call = call; reply = reply_to front session call }) all refl)
