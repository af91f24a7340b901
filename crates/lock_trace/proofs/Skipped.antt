-- What is left of a text without comments, piece by piece and byte by byte.
use Rattle.std.proofs.Common.{rules, arith, ap, ap₂, sym, refl, ◌≡◌, ◌∙◌, ◌++◌, ◌+◌, ◌<◌, ◌≤◌, ℕ, Bool, true, false, List, [], ◌∷◌, Option, Some, None, length, take, drop, slice_set, slice_index, option_map, if◌then◌else◌, append_assoc, append-nil, length-set, drop-set-lt}
use Rattle.std.proofs.lemmas.List.{at_drop_more, at_drop_all, take_more_set}
use Rattle.std.specs.Io.KnownBytes.{Consumes}
use Rattle.lock_trace.specs.declared.spot.Spot.{Spot}
use Rattle.lock_trace.specs.Comments.{is_shown, spot_after, spot_behind, without_comments_from}

-- a byte in front of a list in two parts, or none
in_front : (b : Bool) (x : ℕ) (all front back : List ℕ) → all ≡ front ++ back
    → (if b then x ∷ all else all) ≡ (if b then x ∷ front else front) ++ back
in_front true x all front back is = ap (λ (r : List ℕ). x ∷ r) is
in_front false x all front back is = is

-- a text in two parts is without comments part by part
without-append : (s : Spot) (xs ys : List ℕ) → without_comments_from s (xs ++ ys) ≡ without_comments_from s xs ++ without_comments_from (spot_after s xs) ys
unfolding without_comments_from spot_after
without-append s [] ys = refl
without-append s (x ∷ xs) ys = in_front (is_shown s x) x _ _ _ (without-append (spot_behind s x) xs ys)

-- known bytes that lose bs lose what bs has beside comments
pub consumes_shown : (s : Spot) (bs : List ℕ) (old new : Option (List ℕ)) → Consumes old new bs
    → Consumes (option_map (without_comments_from s) old) (option_map (without_comments_from (spot_after s bs)) new) (without_comments_from s bs)
consumes_shown s bs None new h = search rules
consumes_shown s bs (Some xs) None h = absurd h
consumes_shown s bs (Some xs) (Some ys) h = ap (without_comments_from s) h ∙ without-append s bs ys

-- a byte that is shown is left in the text
shown_byte : (s : Spot) (c : ℕ) (rest : List ℕ) → is_shown s c ≡ true → without_comments_from s (c ∷ rest) ≡ c ∷ without_comments_from (spot_behind s c) rest
unfolding without_comments_from
shown_byte s c rest is =
    ap (λ (b : Bool). if b then c ∷ without_comments_from (spot_behind s c) rest else without_comments_from (spot_behind s c) rest) is

-- a byte that isn't shown is left out
hidden_byte : (s : Spot) (c : ℕ) (rest : List ℕ) → is_shown s c ≡ false → without_comments_from s (c ∷ rest) ≡ without_comments_from (spot_behind s c) rest
unfolding without_comments_from
hidden_byte s c rest is =
    ap (λ (b : Bool). if b then c ∷ without_comments_from (spot_behind s c) rest else without_comments_from (spot_behind s c) rest) is

-- the spot behind a byte and the rest
behind_byte : (s : Spot) (c : ℕ) (rest : List ℕ) → spot_after s (c ∷ rest) ≡ spot_after (spot_behind s c) rest
unfolding spot_after
behind_byte s c rest = refl

-- the first bytes of a buffer, up to a place, were moved to the front without comments; the next spot is `now`
pub record KeptUpTo (spot : Spot) (before after : List ℕ) (kept at : ℕ) (now : Spot) : Type 0 where
  pub order : kept ≤ at
  pub same_length : length after ≡ length before
  pub shown : take kept after ++ without_comments_from now (drop at after) ≡ without_comments_from spot before
  pub spot_is : spot_after now (drop at after) ≡ spot_after spot before

-- a byte that is shown is moved to the front
pub kept_one : (spot : Spot) (before after : List ℕ) (kept at : ℕ) (now : Spot) → KeptUpTo spot before after kept at now → at < length after
    → is_shown now (slice_index after at) ≡ true
    → KeptUpTo spot before (slice_set after kept (slice_index after at)) (kept + 1) (at + 1) (spot_behind now (slice_index after at))
kept_one spot before after kept at now h lt is =
    let c = slice_index after at in
    let rest : drop (at + 1) (slice_set after kept c) ≡ drop (at + 1) after = drop-set-lt (at + 1) after kept c (omega (arith, h.order)) in
    let front : take (kept + 1) (slice_set after kept c) ≡ take kept after ++ c ∷ [] = take_more_set after kept c (omega (arith, h.order, lt)) in
    let text = at_drop_more (without_comments_from now) after at 0 lt ∙ shown_byte now c (drop (at + 1) after) is in
    record {
      order = omega (arith, h.order);
      same_length = length-set after kept c ∙ h.same_length;
      shown = ap₂ (λ (f r : List ℕ). f ++ without_comments_from (spot_behind now c) r) front rest
          ∙ append_assoc (take kept after) (c ∷ []) (without_comments_from (spot_behind now c) (drop (at + 1) after))
          ∙ ap (λ (r : List ℕ). take kept after ++ r) (sym text) ∙ h.shown;
      spot_is = ap (spot_after (spot_behind now c)) rest ∙ sym (at_drop_more (spot_after now) after at 0 lt ∙ behind_byte now c (drop (at + 1) after)) ∙ h.spot_is;
    }

-- a byte that isn't shown is passed over
pub kept_no_more : (spot : Spot) (before after : List ℕ) (kept at : ℕ) (now : Spot) → KeptUpTo spot before after kept at now → at < length after
    → is_shown now (slice_index after at) ≡ false
    → KeptUpTo spot before after kept (at + 1) (spot_behind now (slice_index after at))
kept_no_more spot before after kept at now h lt is =
    let c = slice_index after at in
    let text = at_drop_more (without_comments_from now) after at 0 lt ∙ hidden_byte now c (drop (at + 1) after) is in
    record {
      order = omega (arith, h.order);
      same_length = h.same_length;
      shown = ap (λ (r : List ℕ). take kept after ++ r) (sym text) ∙ h.shown;
      spot_is = sym (at_drop_more (spot_after now) after at 0 lt ∙ behind_byte now c (drop (at + 1) after)) ∙ h.spot_is;
    }

-- at the end all bytes that are shown are at the front
pub kept_all : (spot : Spot) (before after : List ℕ) (kept at : ℕ) (now : Spot) → KeptUpTo spot before after kept at now → length after ≤ at
    → (take kept after ≡ without_comments_from spot before) × (now ≡ spot_after spot before)
unfolding without_comments_from spot_after
kept_all spot before after kept at now h le = (
  sym (append-nil (take kept after)) ∙ ap (λ (r : List ℕ). take kept after ++ r) (sym (at_drop_all (without_comments_from now) after at le)) ∙ h.shown,
  sym (at_drop_all (spot_after now) after at le) ∙ h.spot_is,
)
