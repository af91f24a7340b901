-- The walk of `get` of a pointer that may be null to what is only read, at all pointees at once: it copies what lies behind. Assumes `Logic`.
use Rattle.std.proofs.Common.{◌≡◌, ◌≢◌, List, [], ◌∷◌, refl, sym, ap, ◌∙◌, subst, lit<, w8, w64, T as Holds, Some, None, MatchOption}
use Rattle.library_books.proofs.Walking.{proved, Ura, Ty, Fn, Body, Callee, named, ty_ptr, ty_bool, local, value_local, place, deref, field, copy, int, assign, rv_opd, op2, ptr_eq, cond, seq, aggregate, return, skip, block, Val}
use Rattle.library_books.proofs.Walking.{of_list, has_ty, WT, full_share, sep, emp, Share, ftrue, fsep, fat, flft, Model, Closed, fact, Running, tables, Logic, whole, sub, look_in, agg, ‵, ◌⊛◌, at_ret, ◌$◌, ◌∵◌, !, qed, done}
use Rattle.library_books.proofs.Walking.{move, keep, use0, use1, split, join, fsplit, fsplit3, fjoin, fpick, fpack, rewrite, suffices, frame, group, enter, of_opd, lit, bin, load, look, stop, fld, no_more, and_then, first, blocks}
use Rattle.library_books.proofs.Walking.{branches, skips, exec, returns, returns_within, well_typed, is, alloc_all, pass_all, free_all, look_at, get, through, sets, sets_last, env, RefMutOf, yes, shows, cell_at, cell_raw}
use Rattle.library_books.proofs.Walking.{RattleType, Ptr, block_ptr, null_ptr, ptr_val, Testable, tests_null, lies_at, MutRef, mut_vals, mut_Tells, Signature, plain, nothing, opens, closes, peeks, RawPtr-laws, layout, Owning, row}
use Rattle.library_books.proofs.Walking.{shape, Tells-lowered, Clauses, Ended, closing, Meets, Stays, walk_of, stay_ref, Goes-ref, ends_at}
use mir.Raw.{raw as raw_ty}
use types.Match.{live}
use denote.Memory.{part_of}
use denote.Param.Laws.{IsCopy}
use Rattle.core.specs.contracts.option.Option as OP
use Rattle.core.proofs.option.Made.{Some-of, none_of}
use Rattle.std_alloc.proofs.ResultValues.{and_tt}
use Rattle.library_books.specs.Behind.{maybe_shared}
use Rattle.library_books.proofs.Behind.{PointerTo, behind_block, pointing, null_or_block, one_value, says_both, not_null, first_of, sized, pointer_of}

module _ (X : RattleType) (copies : IsCopy (sized X (first_of X.mir))) (O : Owning) (at : O.D → Ptr) (testable : (d : O.D) → Testable (at d)) (behind : O.D → X.Denot) where
  abbrev ty : Ty
  ty = first_of X.mir

  abbrev T : RattleType
  T = sized X ty

  abbrev P : PointerTo T
  P = pointer_of T O at testable behind

  abbrev pub the_type : Owning
  the_type = pointing T P (maybe_shared T)

  abbrev pub R : RattleType
  R = row the_type

  abbrev pub signature : Signature
  signature = record {
    lifetimes = 1;
    outlives = [];
    params = RefMutOf (0 ∷ []) tt (plain (λ κs. R)) (λ κs. tt) ∷ [];
    result = plain (λ κs. OP.the_row T);
  }

  abbrev pub ended : Ended
  ended = record { signature = signature; kept = (yes, tt) }

  abbrev stayed : Stays ended.signature.params ended.kept
  stayed = (stay_ref (0 ∷ []) tt (plain (λ _. R)), tt)

  abbrev pub clauses : {M : Type 1} {𝓤 : Ura M} (𝓛 : Logic 𝓤) → Clauses 𝓤 ended
  clauses {𝓤 = 𝓤} 𝓛 κs a = record {
    ghost = Unit {0};
    requires = λ _. emp 𝓤;
    ensures = λ _ r w. sep 𝓤 (fact 𝓤 (MatchOption r (P.at a.0.now ≡ null_ptr) (λ x. (P.at a.0.now ≢ null_ptr) × (x ≡ P.behind a.0.now)))) (fact 𝓤 (w.0.now ≡ a.0.now));
  }

  -- the code
  abbrev option_ty : Ty
  option_ty = first_of (OP.the_row T).mir

  abbrev inside : Body
  inside = seq (assign (place 5 []) (rv_opd (copy (place 2 (deref ty ∷ []))))) (assign (place 3 []) (aggregate (int w8 1 ∷ copy (place 5 []) ∷ [])))

  abbrev t-2 : Body
  t-2 = seq (assign (place 0 []) (rv_opd (copy (place 3 [])))) return

  abbrev pub function : Fn
  function = record {
    lifetimes = 1;
    outlives = [];
    ty_params = [];
    givens = 0;
    params = 1;
    locals = local option_ty value_local ∷ local (first_of (MutRef (named 0) [] R).mir) value_local ∷ local ty_ptr value_local
        ∷ local option_ty value_local ∷ local ty_bool value_local ∷ local ty value_local ∷ [];
    body = seq (block (seq (assign (place 2 []) (rv_opd (copy (place 1 (deref (layout (shape the_type)) ∷ field 0 ∷ []))))) (seq (assign (place 4 []) (op2 ptr_eq (copy (place 2 [])) (int w64 0)))
        (seq (cond (copy (place 4 [])) (seq (assign (place 0 []) (aggregate (int w8 0 ∷ []))) return) skip) inside)))) t-2;
  }

  module _ {M : Type 1} (𝓤 : Ura M) (𝓛 : Logic 𝓤) (𝓜 : Model 𝓤 𝓛.H) (𝓡 : Running 𝓤 𝓛.H 𝓜) {k : Callee} where
    pub copies_out : Closed 𝓤 𝓛.H (tables 𝓤 𝓛.H 𝓜 𝓡 𝓡.env).C (tables 𝓤 𝓛.H 𝓜 𝓡 𝓡.env).Λ k function
        → Meets 𝓛 signature (𝓡.run (𝓡.env k)) (closing 𝓛 ended (clauses 𝓛))
    unfolding part_of
    copies_out closed =
        let c = clauses 𝓛 in let W = walk_of 𝓛 ended stayed c in let 𝓣 = tables 𝓤 𝓛.H 𝓜 𝓡 𝓡.env in
        proved 𝓛 ended stayed c 𝓜 𝓡 (Goes-ref 𝓛 1 0 tt (plain (λ _. R)), tt)
        k function closed
        (λ κs. (mut_vals, tt)) (λ κs. (mut_Tells (named 0) κs.0 R, tt)) (λ κs qs bounds a _ are.
        let b = a.0.ref_ptr.0 in let o = a.0.ref_ptr.1 in let γ = a.0.ghost_name in let h = a.0.now in let vs = mut_vals a.0 in
        let y : W.Ghost = ((κs, qs, bounds, a, (vs, tt)), tt) in
        qed 𝓛 (((‵ (flft κs.0 qs.0) ⊛ ‵ ftrue) ⊛ ‵ ((MutRef (named 0) κs.0 R).own_val a.0 vs) ⊛ ‵ ftrue) ∷ ‵ ftrue ∷ []) ∵
        split ! $ split ! $ move ! (2 ∷ []) $ split ! $ keep ! (0 ∷ 2 ∷ []) $
        enter ! _ _ _ _ _ $ alloc_all ! (λ l. pass_all ! refl ((tt, tt), tt) $
        fsplit3 ! $ move ! (1 ∷ 2 ∷ 3 ∷ []) $ opens ! tt R b o (λ us.
        move ! (1 ∷ []) $ peeks ! R _ (shows 𝓛 R) h us (λ is_us. fsplit ! $ move ! (1 ∷ []) $
        let Cell = λ (ws : List Val). ‵ (cell_at full_share R.mir ws b o) in
        let word = Tells-lowered the_type (RawPtr-laws, tt) h us is_us in
        first ! $ blocks ! $
        null_or_block ! (P.at h) (λ p. maybe_shared T p (P.behind h))
        (λ e. rewrite ! 2 Cell word refl $
        -- [nothing; the fields; the struct's cell; the open borrow, in three entries]
        sets ! (is ! (of_opd ! (load ! (through ! refl (fld ! refl (stop !))) (look_in ! 2 (sub ! 0 refl (whole !))))) (ap ptr_val e)) refl (tt, record { fits = lit< tt }) $
        sets ! (bin ! (get ! refl) (lit ! tt) (tests_null null_ptr (subst Testable e (P.testable h)))) refl (tt, tt) $
        first ! $ branches ! (get ! refl)
        (λ t. sets ! (agg ! (and_then ! (lit ! tt) (no_more !))) refl (tt, (record { fits = lit< tt }, tt)) $
        rewrite ! 2 Cell (sym word) refl $ rewrite ! 0 (λ (p : Ptr). ‵ (maybe_shared T p (P.behind h))) (sym e) refl $
        move ! (1 ∷ []) $ fjoin ! $ move ! (1 ∷ []) $ closes ! tt R h us b o $
        -- [two parts of self; the token; self's first part]
        returns_within ! (W.post y) refl (look_at ! 0 refl) $ free_all ! refl $ move ! (3 ∷ []) $
        use0 𝓛 (‵ ((OP.the_row T).own_val None (live 0 (of_list []) ∷ []))) (none_of 𝓛 T) $ move ! (1 ∷ 2 ∷ 3 ∷ 4 ∷ 0 ∷ []) $
        suffices ! _ (ends_at 𝓛 ended stayed c y (live 0 (of_list [])) None (h, tt) (tt, tt)) $ says_both ! e refl $
        group ! 3 $ nothing ! $ move ! (1 ∷ 0 ∷ []) $ join ! $ nothing ! $ move ! (2 ∷ 0 ∷ []) $ join ! $ frame ! $ frame ! $ done !)
        (λ t. absurd t))
        (λ b' o' e. fpick ! (λ q. fpick ! (λ ws. fsplit ! $ one_value ! q (raw_ty ty) ws b' o' (λ v is_v. use1 𝓛 (‵ (fat q ty b' o' v)) (𝓛.laws.raw_at q ty b' o' v) $ well_typed ! (λ good. move ! (1 ∷ []) $
        rewrite ! 0 (λ (us : List Val). ‵ (T.own_val (P.behind h) us)) is_v refl $ use1 𝓛 (‵ (T.own_val (P.behind h) (v ∷ [])) ⊛ ‵ (T.own_val (P.behind h) (v ∷ []))) ((copies.copies M 𝓤 𝓛).twice (P.behind h) (v ∷ [])) $ split ! $
        move ! (2 ∷ 1 ∷ 0 ∷ []) $
        -- [the cell behind; the value, twice; the fields; the struct's cell; the open borrow, in three entries]
        rewrite ! 4 Cell word refl $
        sets ! (is ! (of_opd ! (load ! (through ! refl (fld ! refl (stop !))) (look_in ! 4 (sub ! 0 refl (whole !))))) (ap ptr_val e)) refl (tt, tt) $
        sets ! (bin ! (get ! refl) (lit ! tt) (tests_null (block_ptr b' o') (subst Testable e (P.testable h)))) refl (tt, tt) $
        first ! $ branches ! (get ! refl) (λ t. absurd t)
        (λ t. skips ! $ exec ! 𝓣.C 𝓣.Λ (env function.locals l) inside (behind_block 𝓛 𝓣.C 𝓣.Λ (env function.locals l) t-2 (W.post y)) $
        let is_some : Holds (has_ty option_ty (live 1 (of_list (v ∷ [])))) × WT (live 1 (of_list (v ∷ []))) = (and_tt _ good.0, (record { fits = lit< tt }, (good.1, tt))) in
        sets ! (of_opd ! (load ! (through ! refl (stop !)) (look ! 0 refl))) refl good $
        sets_last ! (agg ! (and_then ! (lit ! tt) (and_then ! (get ! refl) (no_more !)))) refl is_some $
        exec ! 𝓣.C 𝓣.Λ (env function.locals l) t-2 (at_ret (env function.locals l) (W.post y)) $
        sets ! (of_opd ! (get ! refl)) refl is_some $
        use1 𝓛 (‵ (fat q (raw_ty ty) b' o' v)) (𝓛.laws.at_raw q ty b' o' v) $ fjoin ! $
        fpack ! (List Val) (λ us. fsep (cell_raw q (raw_ty ty ∷ []) us b' o') (T.own_val (P.behind h) us)) (v ∷ []) $
        fpack ! Share (λ r. lies_at T r (block_ptr b' o') (P.behind h)) q $ rewrite ! 0 (λ (p : Ptr). ‵ (maybe_shared T p (P.behind h))) (sym e) refl $
        rewrite ! 3 Cell (sym word) refl $ move ! (2 ∷ 0 ∷ []) $ fjoin ! $ move ! (2 ∷ 0 ∷ 3 ∷ 4 ∷ 5 ∷ []) $ closes ! tt R h us b o $
        -- [two parts of self; the token; the value; self's first part]
        move ! (3 ∷ []) $ use1 𝓛 (‵ ((OP.the_row T).own_val (Some (P.behind h)) (live 1 (of_list (v ∷ [])) ∷ []))) (Some-of 𝓛 T (P.behind h) v) $
        returns ! (look_at ! 0 refl) $ free_all ! refl $ move ! (4 ∷ 1 ∷ 2 ∷ 3 ∷ 0 ∷ []) $
        suffices ! _ (ends_at 𝓛 ended stayed c y (live 1 (of_list (v ∷ []))) (Some (P.behind h)) (h, tt) (tt, tt)) $ says_both ! ((λ z. not_null (sym e ∙ z)), refl) refl $
        group ! 3 $ nothing ! $ move ! (1 ∷ 0 ∷ []) $ join ! $ nothing ! $ move ! (2 ∷ 0 ∷ []) $ join ! $ frame ! $ frame ! $ done !))))))))))
