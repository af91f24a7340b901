-- Batches: their calls and lengths, and one call more.
use Rattle.std.proofs.Common.{◌≡◌, ◌∙◌, ℕ, zero, suc, ◌+◌, ◌<◌, ◌≤◌, Some, List, [], ◌∷◌, ◌++◌, length, map, get_or, set, take, drop, refl, sym, ap, arith, append_assoc}
use Rattle.std.specs.Prelude.{All}
use Rattle.std.proofs.lemmas.List.{length-take-le}
use Rattle.std.proofs.Math.Seq.{drop-cons, take-append_seam}
use Rattle.sequential.specs.declared.entry.Entry.{Entry}
use Rattle.sequential.specs.declared.entry.Item.{Item}
use Rattle.sequential.specs.Batches.{IsItemWithin, IsBatch, item_of, asked_by, asked_in}

module _ {C R : Type 0} where
  pub asked-append : (xs ys : List (Item C R)) → asked_by (xs ++ ys) ≡ asked_by xs ++ asked_by ys
  asked-append [] ys = refl
  asked-append (x ∷ xs) ys = ap (λ (l : List (ℕ × C)). (x.session, x.call) ∷ l) (asked-append xs ys)

  asked_in-append : (xs ys : List (Entry C R)) → asked_in (xs ++ ys) ≡ asked_in xs ++ asked_in ys
  asked_in-append [] ys = refl
  asked_in-append (x ∷ xs) ys = ap (λ (l : List (ℕ × C)). (x.session, x.call) ∷ l) (asked_in-append xs ys)

  items-append : (xs ys : List (Entry C R)) → map item_of (xs ++ ys) ≡ map item_of xs ++ map item_of ys
  items-append [] ys = refl
  items-append (x ∷ xs) ys = ap (λ (l : List (Item C R)). item_of x ∷ l) (items-append xs ys)

  pub asked-items : (es : List (Entry C R)) → asked_by (map item_of es) ≡ asked_in es
  asked-items [] = refl
  asked-items (e ∷ es) = ap (λ (l : List (ℕ × C)). (e.session, e.call) ∷ l) (asked-items es)

  take-drop : (k : ℕ) (xs : List (Item C R)) → take k xs ++ drop k xs ≡ xs
  take-drop zero xs = refl
  take-drop (suc k) [] = refl
  take-drop (suc k) (x ∷ xs) = ap (λ (l : List (Item C R)). x ∷ l) (take-drop k xs)

  -- A batch changes no call of its items.
  pub asked-same : (before after : List (Entry C R)) (old new : List (Item C R)) (served : ℕ) → IsBatch before after old new served → asked_by new ≡ asked_by old
  asked-same before after old new served b =
      ap asked_by b.items
      ∙ (asked-append (map item_of b.entries) (drop served old)
      ∙ (ap (λ (l : List (ℕ × C)). l ++ asked_by (drop served old)) (asked-items b.entries ∙ b.asked)
      ∙ (sym (asked-append (take served old) (drop served old)) ∙ ap asked_by (take-drop served old))))

  asked-length : (xs : List (Item C R)) → length (asked_by xs) ≡ length xs
  asked-length [] = refl
  asked-length (x ∷ xs) = ap suc (asked-length xs)

  entries-length : (es : List (Entry C R)) → length (asked_in es) ≡ length es
  entries-length [] = refl
  entries-length (e ∷ es) = ap suc (entries-length es)

  items-length : (es : List (Entry C R)) → length {A = Item C R} (map item_of es) ≡ length es
  items-length [] = refl
  items-length (e ∷ es) = ap suc (items-length es)

  -- A batch has an entry for each call that it served.
  pub batch-length : (before after : List (Entry C R)) (old new : List (Item C R)) (served : ℕ) → served ≤ length old → (b : IsBatch before after old new served) → length {A = Item C R} (map item_of b.entries) ≡ served
  batch-length before after old new served few b =
      omega (arith, items-length b.entries, entries-length b.entries, ap (λ (l : List (ℕ × C)). length l) b.asked, asked-length (take served old), length-take-le served old few)

  -- The first items of a batch are those of its entries.
  pub batch-served : (before after : List (Entry C R)) (old new : List (Item C R)) (served : ℕ) → served ≤ length old → (b : IsBatch before after old new served) → take served new ≡ map item_of b.entries
  batch-served before after old new served few b =
      ap (λ (l : List (Item C R)). take served l) b.items
      ∙ (ap (λ (k : ℕ). take k (map item_of b.entries ++ drop served old)) (sym (batch-length before after old new served few b))
      ∙ take-append_seam (map item_of b.entries) (drop served old))

  -- One call more.

  set-seam : (xs ys : List (Item C R)) (y x : Item C R) → set (xs ++ y ∷ ys) (length xs) x ≡ xs ++ x ∷ ys
  set-seam [] ys y x = refl
  set-seam (z ∷ zs) ys y x = ap (λ (l : List (Item C R)). z ∷ l) (set-seam zs ys y x)

  get-seam : (xs ys : List (Item C R)) (y d : Item C R) → get_or (xs ++ y ∷ ys) (length xs) d ≡ y
  get-seam [] ys y d = refl
  get-seam (z ∷ zs) ys y d = get-seam zs ys y d

  take-next : (xs : List (Item C R)) (k : ℕ) (d : Item C R) → k < length xs → take (suc k) xs ≡ take k xs ++ get_or xs k d ∷ []
  take-next [] k d few = absurd (omega arith)
  take-next (x ∷ xs) zero d few = refl
  take-next (x ∷ xs) (suc k) d few = ap (λ (l : List (Item C R)). x ∷ l) (take-next xs k d (omega arith))

  -- After the call at index k, the batch has served one call more.
  pub batch-next : (before mid after : List (Entry C R)) (old items now : List (Item C R)) (k : ℕ) (i j : Item C R) (reply : R) → k < length items → length items ≡ length old
      → IsBatch before mid old items k → i ≡ get_or items k i → after ≡ mid ++ record { session = i.session; call = i.call; reply = reply } ∷ []
      → now ≡ set items k (record { session = (get_or items k j).session; call = (get_or items k j).call; reply = Some reply }) → IsBatch before after old now (k + 1)
  batch-next before mid after old items now k i j reply few long b here grown written =
      let o : Item C R = get_or old k i in
      let small : k < length old = omega (arith, few, long) in
      let done : List (Item C R) = map item_of b.entries in
      let left : List (Item C R) = drop (suc k) old in
      let size : length done ≡ k = batch-length before mid old items k (omega (arith, small)) b in
      let whole : items ≡ done ++ o ∷ left = b.items ∙ ap (λ (l : List (Item C R)). done ++ l) (drop-cons old k i small) in
      let at : (d : Item C R) → get_or items k d ≡ o = λ d. ap (λ (l : List (Item C R)). get_or l k d) whole ∙ (ap (λ (n : ℕ). get_or (done ++ o ∷ left) n d) (sym size) ∙ get-seam done left o d) in
      let same : i ≡ o = here ∙ at i in
      let other : get_or items k j ≡ i = at j ∙ sym same in
      let e : Entry C R = record { session = i.session; call = i.call; reply = reply } in
      let next : suc k ≡ k + 1 = omega arith in
      record {
        entries = b.entries ++ e ∷ [];
        history = grown ∙ (ap (λ (l : List (Entry C R)). l ++ e ∷ []) b.history ∙ append_assoc before b.entries (e ∷ []));
        asked = asked_in-append b.entries (e ∷ [])
            ∙ (ap (λ (l : List (ℕ × C)). l ++ (i.session, i.call) ∷ []) b.asked
            ∙ (ap (λ (x : Item C R). asked_by (take k old) ++ (x.session, x.call) ∷ []) same
            ∙ (sym (asked-append (take k old) (o ∷ [])) ∙ (ap asked_by (sym (take-next old k i small)) ∙ ap (λ (n : ℕ). asked_by (take n old)) next))));
        items = written
            ∙ (ap (λ (x : Item C R). set items k (record { session = x.session; call = x.call; reply = Some reply })) other
            ∙ (ap (λ (l : List (Item C R)). set l k (item_of e)) whole
            ∙ (ap (λ (n : ℕ). set (done ++ o ∷ left) n (item_of e)) (sym size)
            ∙ (set-seam done left o (item_of e)
            ∙ (sym (append_assoc done (item_of e ∷ []) left)
            ∙ (ap (λ (l : List (Item C R)). l ++ left) (sym (items-append b.entries (e ∷ [])))
            ∙ ap (λ (n : ℕ). map item_of (b.entries ++ e ∷ []) ++ drop n old) next))))));
      }

  -- An item of the same session stands for the one at index k.
  pub within-set : (n m : ℕ) (items : List (Item C R)) (k : ℕ) (j x : Item C R) → n ≡ m → k < length items → x.session ≡ (get_or items k j).session → All (IsItemWithin n) items → All (IsItemWithin m) (set items k x)
  within-set n m [] k j x same few is all i d less = absurd (omega (arith, few))
  within-set n m (y ∷ ys) zero j x same few is all zero d less = let w = all zero y (omega arith) in record { some = omega (arith, w.some, is); within = omega (arith, w.within, is, same) }
  within-set n m (y ∷ ys) zero j x same few is all (suc i) d less = let w = all (suc i) d (omega (arith, less)) in record { some = w.some; within = omega (arith, w.within, same) }
  within-set n m (y ∷ ys) (suc k) j x same few is all zero d less = let w = all zero y (omega arith) in record { some = w.some; within = omega (arith, w.within, same) }
  within-set n m (y ∷ ys) (suc k) j x same few is all (suc i) d less = within-set n m ys k j x same (omega (arith, few)) is (λ h e l. all (suc h) e (omega (arith, l))) i d (omega (arith, less))
