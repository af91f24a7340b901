use Rattle.std.proofs.Common.{inl, Some, refl, [], ◌∷◌, ◌∙◌, sym, append-nil}
use Rattle.std.proofs.lemmas.List.Elements.{All-nil, All-cons}
use Rattle.publication.specs.Views.{answer, asks}
use Rattle.lock_office.specs.by_calls.HoldsAsTold.{KeptLock}
use Rattle.lock_office.proofs.by_calls.ToldTogether.{told-held}
use Rattle.lock_office.proofs.told_laws.what_is_told_is_held.Goals as goal

pub returns-clause-collected : goal.returns-clause-collected
returns-clause-collected c history session answers pending r m legal calls told =
    told-held c.refusals_keep_the_state.ensures.keeps history legal session answers [] pending r m (calls ∙ sym (append-nil answers)) (All-nil (KeptLock r)) told

pub returns-clause-one_more : goal.returns-clause-one_more
returns-clause-one_more c history session answers call floor place reply r m legal calls told =
    told-held c.refusals_keep_the_state.ensures.keeps history legal session answers (answer place call reply ∷ []) (Some (asks call floor)) r m calls
    (All-cons (KeptLock r) (answer place call reply) [] (inl (told.kept (asks call floor) refl)) (All-nil (KeptLock r))) told
