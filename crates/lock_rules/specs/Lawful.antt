-- All laws of a state that a history leads to: of its table, of its transactions, and of the calls made in it, refused or not.
use Rattle.lock_rules.specs.State.{State}
use Rattle.lock_rules.specs.Laws.{AreHoldersListed, AreLocksOnce, IsOneRequestEach, AreLocksBounded, IsFitExact, AreHoldersCompatible, DoesNobodyWaitNeedlessly, AreLocksUnderParents, AreRequestsUnderParents, AreChildrenHeld, IsAccessCompatible, IsRefusalExact, DoesRefusalKeep, DoesPromotionGrantLongest, AreWaitsExact, HasNoCircle, DoDoomedWaitForNothing, AreOwnersOpen, AreNumbersDistinct, AreNumbersCounted, AreVictimsDetermined}
use Rattle.lock_rules.specs.Effects.{DoesBeginOpen, DoesPollReport, DoVictimsKeepTheirLocks, DoesDoomPromote, IsLockAnswered, IsConvertAnswered, IsLockOfHeldConvert, IsGrantedHeld, IsConversionHeld, IsTryAnswered, DoesTryLeaveWaits, DoesWithdrawTakeRequest, DoesReleaseTakeOneLock, DoesCommitTakeAllLocks, DoesAbortTakeAllLocks}
use Rattle.lock_rules.specs.Refusals.{AreRefusalsMeant, AreOthersAccepted, DoTestsGiveRefusals, AreRefusalsLowest, AreConversionsUnbounded, DoesAbortNeedTransaction, IsClearCommitAccepted}
use Rattle.lock_rules.specs.Restarts.{DoesRestartNeedTransaction, DoesRestartTakeAllLocks}

-- all laws of a state hold
pub record IsLawfulState (st : State) : Type 0 where
  pub holders_listed : AreHoldersListed st
  pub locks_once : AreLocksOnce st
  pub one_request : IsOneRequestEach st
  pub locks_bounded : AreLocksBounded st
  pub fit_exact : IsFitExact st
  pub holders_compatible : AreHoldersCompatible st
  pub nobody_waits_needlessly : DoesNobodyWaitNeedlessly st
  pub locks_under_parents : AreLocksUnderParents st
  pub requests_under_parents : AreRequestsUnderParents st
  pub children_held : AreChildrenHeld st
  pub access_compatible : IsAccessCompatible st
  pub promotions_longest : DoesPromotionGrantLongest st.table
  pub waits_exact : AreWaitsExact st.table
  pub no_circle : HasNoCircle st
  pub doomed_wait_for_nothing : DoDoomedWaitForNothing st
  pub owners_open : AreOwnersOpen st
  pub numbers_distinct : AreNumbersDistinct st
  pub numbers_counted : AreNumbersCounted st
  pub victims_determined : AreVictimsDetermined st
  pub victims_keep_their_locks : DoVictimsKeepTheirLocks st
  pub dooms_promote : DoesDoomPromote st
  pub refusals_exact : IsRefusalExact st
  pub refusals_keep : DoesRefusalKeep st
  pub refusals_meant : AreRefusalsMeant st
  pub others_accepted : AreOthersAccepted st
  pub tests_give_refusals : DoTestsGiveRefusals st
  pub refusals_lowest : AreRefusalsLowest st
  pub conversions_unbounded : AreConversionsUnbounded st
  pub abort_needs_transaction : DoesAbortNeedTransaction st
  pub restart_needs_transaction : DoesRestartNeedTransaction st
  pub clear_commit_accepted : IsClearCommitAccepted st
  pub begin_opens : DoesBeginOpen st
  pub poll_reports : DoesPollReport st
  pub locks_answered : IsLockAnswered st
  pub conversions_answered : IsConvertAnswered st
  pub held_is_converted : IsLockOfHeldConvert st
  pub granted_is_held : IsGrantedHeld st
  pub converted_is_held : IsConversionHeld st
  pub tries_answered : IsTryAnswered st
  pub tries_leave_waits : DoesTryLeaveWaits st
  pub withdraw_takes_request : DoesWithdrawTakeRequest st
  pub release_takes_one_lock : DoesReleaseTakeOneLock st
  pub commit_takes_all_locks : DoesCommitTakeAllLocks st
  pub abort_takes_all_locks : DoesAbortTakeAllLocks st
  pub restart_takes_all_locks : DoesRestartTakeAllLocks st
