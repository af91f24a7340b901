-- Moving a pointer and an allocator from one struct to another. Assumes `Logic`.
use Rattle.std.proofs.Common.{◌≡◌, ℕ, List, [], ◌∷◌, refl}
use Rattle.library_books.proofs.Walking.{Ura, Fn, Ty, ty_ptr, ty_struct, tcons, tnil, local, value_local, seq, assign, return, place, field, copy, rv_opd, aggregate, Val, SProp, ent, emp, id⊢, WpFn, Calls, Loops, Logic, sem}
use Rattle.library_books.proofs.Walking.{suffices, ‵, raw, ◌⊛◌, prop, ◌$◌, ◌∵◌, !, qed, by, move, drop, keep, use0, use1, split, regoal, fsplit, fjoin, whole, sub, agg, stop, fld, of_opd, no_more, and_then, returns, enter}
use Rattle.library_books.proofs.Walking.{alloc_all, pass_all, free_all, look_at, get, get_in, sets, lone, Ptr, Fml, ftrue, fsep, owns, types_at, type_at, nothing, Ended, Clauses, Lasts, at_exit, Stays, Fit, has_of, walk_of}
use Rattle.library_books.proofs.Walking.{leaves}
use denote.Triple.Entry.{Res, alive}
use Rattle.std.specs.declared.alloc.Global.{Global}
use Rattle.std.specs.contracts.alloc.Global as heap
use Rattle.library_books.proofs.PointerValues.{word, own, made, ptr_typed, typed}

-- the machine type of a struct with this name that has a pointer and a `Global`
abbrev pub pair_ty : List ℕ → Ty
pair_ty name = ty_struct name (tcons ty_ptr (tcons (lone heap.the_row.mir) tnil))

-- the code that moves both fields of one struct into another
abbrev pub move_code : List ℕ → List ℕ → Fn
move_code to from = record {
  lifetimes = 0;
  outlives = [];
  ty_params = [];
  givens = 0;
  params = 1;
  locals = local (pair_ty to) value_local ∷ local (pair_ty from) value_local ∷ local ty_ptr value_local ∷ local (lone heap.the_row.mir) value_local ∷ local ty_ptr value_local ∷ [];
  body = seq (assign (place 2 []) (rv_opd (copy (place 1 (field 0 ∷ []))))) (seq (assign (place 3 []) (rv_opd (copy (place 1 (field 1 ∷ [])))))
      (seq (assign (place 4 []) (rv_opd (copy (place 2 [])))) (seq (assign (place 0 []) (aggregate (copy (place 4 []) ∷ copy (place 3 []) ∷ []))) return)));
}

module _ {M : Type 1} {𝓤 : Ura M} (𝓛 : Logic 𝓤) (C : Calls 𝓤 𝓛.H) (Λ : Loops 𝓤 𝓛.H) (Post : Val → SProp 𝓤) where
  -- the code returns the machine value that it takes
  pub moves : (to from : List ℕ) (p : Ptr) → ent 𝓤 (Post (word p)) (WpFn 𝓤 𝓛.H C Λ (move_code to from) (word p ∷ []) Post)
  moves to from p =
      qed 𝓛 (raw (Post (word p)) ∷ []) ∵ enter ! C Λ (move_code to from) (word p ∷ []) Post $
      alloc_all ! (λ l. pass_all ! refl (typed p, tt) $
      sets ! (of_opd ! (get_in ! (fld ! refl (stop !)) (sub ! 0 refl (whole !)))) refl (ptr_typed p) $
      sets ! (of_opd ! (get_in ! (fld ! refl (stop !)) (sub ! 1 refl (whole !)))) refl (tt, ((tt, tt), tt)) $
      sets ! (of_opd ! (get ! refl)) refl (ptr_typed p) $
      sets ! (agg ! (and_then ! (get ! refl) (and_then ! (get ! refl) (no_more !)))) refl (typed p) $
      returns ! (look_at ! 0 refl) $ free_all ! refl $ by ! (id⊢ 𝓤 _))

-- a function with this code meets its contract if its parameter and its result own the struct's fields and F
module _ {M : Type 1} {𝓤 : Ura M} (𝓛 : Logic 𝓤) (T : Ended) (hs : Stays T.signature.params T.kept) (c : Clauses 𝓤 T) (C : Calls 𝓤 𝓛.H) (Λ : Loops 𝓤 𝓛.H) where
  pub moved : (z : (walk_of 𝓛 T hs c).Ghost) (p : Ptr) (a : Global) (F : Fml) (r : Res T.signature z.0.0) (ws : Lasts T z.0.0 z.0.3) → Fit T hs z.0.0 z.0.3 ws
      → (to from : List ℕ) (vs : List Val) → (walk_of 𝓛 T hs c).args z ≡ word p ∷ []
      → ent 𝓤 (sem 𝓛 (owns (types_at T.signature.params z.0.0) z.0.3 z.0.4)) (sem 𝓛 (fsep (fsep (own p a vs) F) ftrue))
      → ent 𝓤 (sem 𝓛 (fsep (own p a (word p ∷ [])) F)) (sem 𝓛 ((type_at T.signature.result z.0.0).own_val r (word p ∷ [])))
      → ent 𝓤 (sem 𝓛 (fsep ftrue ftrue)) (sem 𝓛 (has_of z.0.0 T.signature.params T.kept hs z.0.3 ws z.0.4))
      → ent 𝓤 (emp 𝓤) ((c z.0.0 z.0.3).ensures z.1 r (at_exit T z.0.0 z.0.3 ws))
      → ent 𝓤 ((walk_of 𝓛 T hs c).pre z) (WpFn 𝓤 𝓛.H C Λ (move_code to from) ((walk_of 𝓛 T hs c).args z) ((walk_of 𝓛 T hs c).post z))
  moved z p a F r ws fit to from vs args opens closes has says =
      let Post : Val → SProp 𝓤 = (walk_of 𝓛 T hs c).post z in
      qed 𝓛 ((raw (alive 𝓛 T.signature z.0.0 z.0.1) ⊛ ‵ (owns (types_at T.signature.params z.0.0) z.0.3 z.0.4)) ∷ raw ((c z.0.0 z.0.3).requires z.1) ∷ []) ∵
      move ! (1 ∷ []) $ drop ! $ split ! $ move ! (1 ∷ []) $ use1 𝓛 (‵ (fsep (fsep (own p a vs) F) ftrue)) opens $ fsplit ! $ fsplit ! $ drop ! $
      regoal ! (λ (us : List Val). prop (WpFn 𝓤 𝓛.H C Λ (move_code to from) us Post)) args refl $
      suffices ! (Post (word p)) (moves 𝓛 C Λ Post to from p) $
      -- [F; true; the tokens]
      use0 𝓛 (‵ (own p a (word p ∷ []))) (made 𝓛 p a) $ fjoin ! $ use1 𝓛 (‵ ((type_at T.signature.result z.0.0).own_val r (word p ∷ []))) closes $
      use0 𝓛 (raw ((c z.0.0 z.0.3).ensures z.1 r (at_exit T z.0.0 z.0.3 ws))) says $
      nothing ! $ nothing ! $ fjoin ! $ use1 𝓛 (‵ (has_of z.0.0 T.signature.params T.kept hs z.0.3 ws z.0.4)) has $ keep ! (4 ∷ 0 ∷ 2 ∷ 1 ∷ []) $
      by ! (leaves 𝓛 T hs c z (word p) r ws fit)
